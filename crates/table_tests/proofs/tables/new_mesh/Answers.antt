use Rattle.std.proofs.Common.{◌≡◌, [], List, ℕ, ap, sym, subst}
use Rattle.shared_tables.specs.Told.{Told, told}
use Rattle.table_tests.specs.Mesh.{Knows}
use Rattle.table_tests.proofs.Telling.{apart, knows-nothing}
use Rattle.table_tests.proofs.tables.new_mesh.Goals as goal

pub new-requires-clause-apart : goal.new-requires-clause-apart
new-requires-clause-apart c = apart _ _ c.in_ok-home.ensures c.in_ok-sources.ensures

pub returns : goal.returns
returns c =
    subst (λ (keys : List (ℕ × List ℕ)). Knows keys (told c.in_ok-new.field-0)) (sym c.new-2.ensures.items)
    (knows-nothing _ _ c.in_ok-sources.ensures (ap (λ (t : Told). t.limit) c.in_ok-new.ensures.told) (ap (λ (t : Told). t.sources) c.in_ok-new.ensures.told))
