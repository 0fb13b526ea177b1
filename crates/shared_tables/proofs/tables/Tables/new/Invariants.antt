use Rattle.std.proofs.Common.{◌≡◌, ◌++◌, map, ℕ, List}
use Rattle.shared_tables.specs.Told.{nothing_told, source_told}
use Rattle.shared_tables.specs.declared.source.Source.{Source}
use Rattle.shared_tables.proofs.tables.Tables.new.Given as goal

abbrev pub invariant-loop-name : goal.invariant-loop-name
invariant-loop-name l =
    (map source_told l.told.items ++ map nothing_told l.name-iterator.rest.items ≡ map nothing_told l.fn.sources.items)
    × (map (λ (s : Source). s.room) l.told.items ++ map (λ (name : List ℕ). 0) l.name-iterator.rest.items ≡ map (λ (name : List ℕ). 0) l.fn.sources.items)
