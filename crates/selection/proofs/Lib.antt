pub mod Choosing
pub mod HeldUnread
pub mod Judgement
pub mod Parts
pub mod Settling
pub mod Table
pub mod SelectedCount
