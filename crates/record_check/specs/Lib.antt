pub mod Limits
pub mod Faults
pub mod Reading
pub mod Judging
pub mod Configs
pub mod Laws
