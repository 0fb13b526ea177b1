use Rattle.std.proofs.Common.{ℕ, ◌<◌, ◌≤◌, List, length, slice_get, slice_index, sym, ap, ◌∙◌, subst}
use Rattle.std.specs.Option.{ForSome}
use Rattle.shared_tables.specs.Told.{IsChange, Told, rows_needed, told, with_change}
use Rattle.table_tests.proofs.Telling.{room_made}
use Rattle.table_tests.proofs.tables.tell_change.Goals as goal

pub apply-requires-clause-source : goal.apply-requires-clause-source
apply-requires-clause-source g c = subst (λ (t : Told). c.args.change.source < length t.sources) (sym c.reserve.ensures.told) c.requires.source

pub apply-requires-clause-change : goal.apply-requires-clause-change
apply-requires-clause-change g c = subst (λ (t : Told). ForSome (slice_get t.sources c.args.change.source) (λ s. IsChange s c.args.change)) (sym c.reserve.ensures.told) c.requires.change

pub apply-requires-clause-room : goal.apply-requires-clause-room
apply-requires-clause-room g c =
    subst (λ (l : List ℕ). rows_needed c.args.change ≤ slice_index l c.args.change.source) (sym c.in_ok-reserve.ensures.ok)
    (room_made (rows_needed c.args.change) c.args.change.source c.args.tables.now c.requires.source)

pub returns : goal.returns
returns g c = c.apply.ensures.told ∙ ap (with_change c.args.change) c.reserve.ensures.told
