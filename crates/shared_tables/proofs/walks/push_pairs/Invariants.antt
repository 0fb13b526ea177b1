use Rattle.std.proofs.Common.{◌≡◌, true}
use Rattle.std.specs.List.{flat_map, AllByRecursion}
use Rattle.shared_tables.specs.Fitting.{is_fit}
use Rattle.shared_tables.specs.Merge.{pair_reject, valid_of}
use Rattle.shared_tables.specs.Merged.{with_rows}
use Rattle.shared_tables.proofs.walks.push_pairs.Given as goal

abbrev pub invariant-loop-key : goal.invariant-loop-key
invariant-loop-key g l =
    (AllByRecursion (λ pair. is_fit pair.1 ≡ true) l.key-iterator)
    × (with_rows l.merged (flat_map (λ pair. valid_of l.limit l.cluster l.number pair.1) l.key-iterator) (flat_map (pair_reject l.limit l.cluster l.number) l.key-iterator)
    ≡ with_rows l.fn.merged (flat_map (λ pair. valid_of l.limit l.cluster l.number pair.1) l.rows.entries) (flat_map (pair_reject l.limit l.cluster l.number) l.rows.entries))
