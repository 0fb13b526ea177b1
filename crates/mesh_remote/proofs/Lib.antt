pub mod NameBytes
pub mod Readers
pub mod Remotes
pub mod Ways
