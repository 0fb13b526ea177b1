pub mod Calls
pub mod Counts
pub mod Links
pub mod Moved
pub mod Plainly
pub mod Runs
pub mod Talks
pub mod WholeTurns
