pub mod Lists
pub mod TurnSteps
pub mod Sharing
pub mod Passes
