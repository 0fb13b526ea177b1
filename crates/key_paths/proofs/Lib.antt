mod Examples
pub mod Forms
pub mod Parting
pub mod Writing
pub mod Sound
pub mod Complete
pub mod Moves
pub mod Ownership
pub mod ReadAlike
pub mod FrontLemmas
pub mod Fronts
pub mod CallerLemmas
