pub mod Response
pub mod SavedRuns
pub mod Causes
pub mod Sizes
pub mod Policies
pub mod JoinedTexts
