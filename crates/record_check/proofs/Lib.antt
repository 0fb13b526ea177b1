pub mod RecordKinds
pub mod Checks
pub mod Reserved
pub mod RecordKeys
pub mod FirstFaults
pub mod CallerLemmas
