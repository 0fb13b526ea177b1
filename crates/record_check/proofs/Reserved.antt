-- An address with a reserved identity is of no cluster alone.
use Rattle.std.proofs.Common.{◌≡◌, ℕ, ◌<◌, List, None, refl, arith}
use Rattle.key_paths.specs.declared.key.Key.{Key}
use Rattle.record_values.specs.declared.records.Record.TheVariants as found
use Rattle.record_values.specs.Values.{Address}
use Rattle.record_check.specs.declared.limit.Limit.{Limit}
use Rattle.record_check.specs.Limits.{first_own_identity, cluster_owning}
use Rattle.record_check.specs.Judging.{judgement}

pub owned_by_none : (limit : Limit) (identity : ℕ) → identity < first_own_identity → cluster_owning limit identity ≡ None
owned_by_none limit identity h = grind arith

pub reserved_fit : (address : Address) → address.id < first_own_identity
    → (cluster other : List ℕ) (id number : ℕ) (limit : Limit) (key : Key)
    → judgement cluster id limit key (found.Address address) ≡ judgement other number limit key (found.Address address)
unfolding judgement
reserved_fit address h cluster other id number limit key =
    let e = owned_by_none limit address.id h in rw e refl
