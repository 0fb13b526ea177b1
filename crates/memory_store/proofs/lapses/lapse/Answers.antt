use Rattle.std.proofs.Common.{refl, sym}
use Rattle.std.proofs.lemmas.Result.{IfOk-weaker}
use Rattle.memory_store.specs.declared.live.Current.{Current}
use Rattle.memory_store.proofs.Expiry.{some_lapse, none_lapse}
use Rattle.memory_store.proofs.lapses.lapse.Goals as goal

pub returns-in-Some : goal.returns-in-Some
returns-in-Some c =
    let old : Current = c.args.current.now in
    let mid : Current = record { live = old.live; attached = record { leases = old.attached.leases; keys = c.remove.new.self } } in
    IfOk-weaker c.delete_keys.result _ _
    (λ changes deletes history current.
    some_lapse history c.args.lease old current c.remove.new.self c.remove.ensures.updates.0 c.in-Some.keys (sym c.in-Some.ensures.value) mid c.delete_keys.new.current changes.items refl refl refl deletes)
    c.delete_keys.ensures

pub returns-in-None : goal.returns-in-None
returns-in-None c =
    let old : Current = c.args.current.now in
    let new : Current = record { live = old.live; attached = record { leases = old.attached.leases; keys = c.remove.new.self } } in
    λ history current. none_lapse history c.args.lease old current c.remove.new.self c.remove.ensures.updates.0 (sym c.in-None.ensures.value) new c.new.result.items c.new.ensures.items refl refl refl
