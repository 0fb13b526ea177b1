use Rattle.std.proofs.Common.{Result, Ok, Err, IfOk}
use Rattle.scenario_replay.proofs.Sightings.{merge_sighted}
use Rattle.scenario_replay.proofs.sighting.Sighting.report.Goals as goal

if_ok : {T F : Type 0} (result : Result T F) (P Q : T → Type 0) → ((value : T) → P value → Q value) → IfOk result P → IfOk result Q
if_ok (Ok value) P Q so p = so value p
if_ok (Err fault) P Q so p = tt

pub returns-clause-merge : goal.returns-clause-merge
returns-clause-merge g c =
    if_ok c.report.result _ _ (λ report merge number stores ws has shown. merge_sighted number c.args.remotes.now c.tell_all.new.self stores ws report merge c.in_ok-tell_all.ensures.marked (c.in_ok-tell_all.ensures.tables number has) shown)
    c.report.ensures
