pub mod Crossing
pub mod Reader
pub mod Talks
pub mod Turns
