pub mod Breach
pub mod Edges
pub mod Every
pub mod Acceptance
pub mod Meaning
pub mod Steps
pub mod FirstFailing
pub mod RuleLists
