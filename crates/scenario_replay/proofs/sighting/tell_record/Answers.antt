use Rattle.std.proofs.Common.{ℕ, ◌<◌, ◌≤◌, List, length, slice_get, slice_index, sym, ap, ◌∙◌, subst}
use Rattle.std.specs.Option.{ForSome}
use Rattle.shared_tables.specs.Told.{IsChange, Told, rooms, told, with_change}
use Rattle.scenario_replay.specs.Rows.{first_told}
use Rattle.scenario_replay.proofs.SourcesTold.{as_many_rooms, change_first, room_made}
use Rattle.scenario_replay.proofs.sighting.tell_record.Goals as goal

pub reserve-requires-clause-change : goal.reserve-requires-clause-change
reserve-requires-clause-change g c = change_first (told c.args.tables.now).sources c.args.source c.args.read c.requires.first

pub apply-requires-clause-source : goal.apply-requires-clause-source
apply-requires-clause-source g c = subst (λ (t : Told). c.args.source < length t.sources) (sym c.reserve.ensures.told) c.requires.source

pub apply-requires-clause-change : goal.apply-requires-clause-change
apply-requires-clause-change g c =
    subst (λ (t : Told). ForSome (slice_get t.sources c.args.source) (λ s. IsChange s (first_told c.args.source c.args.read))) (sym c.reserve.ensures.told)
    (change_first (told c.args.tables.now).sources c.args.source c.args.read c.requires.first)

pub apply-requires-clause-room : goal.apply-requires-clause-room
apply-requires-clause-room g c =
    subst (λ (l : List ℕ). 1 ≤ slice_index l c.args.source) (sym c.in_ok-reserve.ensures.ok)
    (room_made 1 c.args.source (rooms c.args.tables.now) (subst (λ (n : ℕ). c.args.source < n) (sym (as_many_rooms c.args.tables.now)) c.requires.source))

pub returns : goal.returns
returns g c = c.apply.ensures.told ∙ ap (with_change (first_told c.args.source c.args.read)) c.reserve.ensures.told
