mod Called
mod Calls
pub mod CallerLemmas
mod Effects
mod Expiry
mod Forms
mod Fronts
mod Indexes
mod Journals
mod Keeping
mod Logs
mod Sets
mod Watched
mod Writing
