use Rattle.std.proofs.Common.{ℕ, List, map, refl, subst}
use Rattle.std.specs.String.{string_bytes}
use Rattle.store_api.specs.Streams.{HoldsMore}
use Rattle.scenario_replay.proofs.WholeRun.{ran_plainly, refused_front}
use Rattle.scenario_replay.proofs.top.mesh_steps.Goals as goal

pub returns-in-Err-Failed-write_refusal-clause-front :
    goal.returns-in-Err-Failed-write_refusal-clause-front
returns-in-Err-Failed-write_refusal-clause-front g c = λ fault_is.
    let m = g.S.Store.meaning in
    let read = rw c.in-Err-Refused.field-0-is at c.in-Err-Refused.ensures in
    let wrote = rw c.in-Err-Failed-write_refusal.field-0-is at c.in-Err-Failed-write_refusal.ensures in
    refused_front (g.R.Source.left c.args.source.now) (map string_bytes c.args.words.now) (map m c.args.stores.now) (map m c.args.stores.now) (g.W.Sink.holds c.args.sink.now) (g.W.Sink.holds c.write_refusal.new.sink) c.in-Err-Refused.fault (read.refused c.in-Err-Refused.fault refl) (wrote.failed refl).1

pub returns-in-Ok-write_all-clause-plain : goal.returns-in-Ok-write_all-clause-plain
returns-in-Ok-write_all-clause-plain g c = λ done_is numbers still.
    let m = g.S.Store.meaning in
    let held = g.W.Sink.holds c.args.sink.now in
    let holds = g.W.Sink.holds c.write_all-2.new.sink in
    ran_plainly (g.R.Source.left c.args.source.now) c.in-Ok-read_input.scenario (map m c.args.stores.now) (map m c.run.new.stores) held holds c.in-Ok-run.text c.in-Ok-read_input.ensures.read c.in-Ok-run.ensures.reports
    (subst (λ (t : List ℕ). HoldsMore held holds t) c.as_slice.ensures c.in-Ok-write_all.ensures.ok) numbers still
