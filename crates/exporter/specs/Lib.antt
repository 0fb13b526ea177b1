pub mod State
pub mod Kept
pub mod Talks
pub mod Fields
pub mod Runs
