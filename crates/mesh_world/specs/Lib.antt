pub mod Actions
pub mod Asking
pub mod Goes
pub mod Records
pub mod Runs
pub mod Sources
pub mod Ways
pub mod World
