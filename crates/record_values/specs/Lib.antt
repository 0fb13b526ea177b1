pub mod Values
pub mod Labels
pub mod Backends
