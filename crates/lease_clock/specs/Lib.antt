pub mod Kept
pub mod Lapses
pub mod Least
