-- What the crates above may cite of lease tables.
pub use Rattle.lease_clock.proofs.Ranks.{expired_none}
