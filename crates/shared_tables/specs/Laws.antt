-- What reports have to do with each other.
use Rattle.std.specs.Prelude.{ℕ, List}
use Rattle.record_check.specs.declared.limit.Limit.{Limit}
use Rattle.shared_tables.specs.declared.rows.Report.{Report}
use Rattle.shared_tables.specs.Merge.{IsMerge}
use Rattle.shared_tables.specs.RecordSets.{RecordSet}
use Rattle.shared_tables.specs.Rows.{SameRows}

-- two reports have the same rows of each kind that record sets give
pub record HaveSameRows (a b : Report) : Type 0 where
  pub nodes : SameRows a.nodes b.nodes
  pub identities : SameRows a.identities b.identities
  pub addresses : SameRows a.addresses b.addresses
  pub backends : SameRows a.backends b.backends
  pub rejects : SameRows a.rejects b.rejects

-- reports of the same record sets, in whatever order, have the same rows
abbrev pub OrderSaysNothing : Type 0
OrderSaysNothing = (limit : Limit) (local : ℕ) (sets others : List RecordSet) (a b : Report)
    → SameRows sets others → IsMerge limit local sets a → IsMerge limit local others b → HaveSameRows a b
