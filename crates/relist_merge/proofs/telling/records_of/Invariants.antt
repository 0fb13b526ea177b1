use Rattle.std.proofs.Common.{◌≡◌, ◌++◌, map}
use Rattle.std.specs.List.{flat_map, AllByRecursion}
use Rattle.record_check.specs.declared.limit.Limit.{Limit}
use Rattle.relist_merge.specs.Shown.{pair_of}
use Rattle.relist_merge.specs.Told.{told_of}
use Rattle.relist_merge.specs.Viewed.{IsRowRead}
use Rattle.relist_merge.proofs.telling.records_of.Given as goal

abbrev pub invariant-loop-key : goal.invariant-loop-key
invariant-loop-key l =
    (l.records ++ flat_map (told_of l.fn.hop l.fn.cluster) (map pair_of l.key-iterator) ≡ flat_map (told_of l.fn.hop l.fn.cluster) (map pair_of l.rows.entries))
    × ((limit : Limit) × AllByRecursion (IsRowRead limit) l.key-iterator)
