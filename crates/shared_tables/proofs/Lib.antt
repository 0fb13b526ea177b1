pub mod CallerLemmas
pub mod Weights
pub mod Arrivals
mod Fits
mod Merges
mod Gathered
mod Orders
mod Places
