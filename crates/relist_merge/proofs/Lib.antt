pub mod CallerLemmas
mod Numbers
mod Changes
mod Listings
mod Sighted
mod Steps
mod Longer
mod Places
mod Viewing
mod ReadLists
mod RowLists
mod RecordReadings
