pub mod CallerLemmas
pub mod Sorted
mod LabelWords
mod LineOrder
mod PlainBytes
mod Unordered
