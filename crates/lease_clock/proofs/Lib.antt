pub mod CallerLemmas
mod Deadlines
mod DueRanks
mod Edits
mod Numbers
mod Places
pub mod Ranks
