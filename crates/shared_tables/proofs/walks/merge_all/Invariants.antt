use Rattle.std.proofs.Common.{◌≡◌, drop, map}
use Rattle.std.specs.List.{flat_map}
use Rattle.shared_tables.specs.Merge.{part, rejects, standing}
use Rattle.shared_tables.specs.Merged.{arrived, nothing_merged, with_rows}
use Rattle.shared_tables.specs.RecordSets.{RecordSet}
use Rattle.shared_tables.proofs.walks.merge_all.Given as goal

abbrev pub invariant-loop-source : goal.invariant-loop-source
invariant-loop-source g l =
    let sets = map arrived l.sources in
    let parts_of = λ (s : RecordSet). part l.limit (standing l.local sets s) s in
    let rejects_of = λ (s : RecordSet). rejects l.limit (standing l.local sets s) s in
    with_rows l.merged (flat_map parts_of (map arrived (drop l.source-index l.sources))) (flat_map rejects_of (map arrived (drop l.source-index l.sources)))
    ≡ with_rows nothing_merged (flat_map parts_of sets) (flat_map rejects_of sets)
