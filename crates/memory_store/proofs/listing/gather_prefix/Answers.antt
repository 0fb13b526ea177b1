use Rattle.std.proofs.Common.{◌≡◌, ◌∙◌, true, false, ap, nat_eq}
use Rattle.std.specs.List.{starts_with}
use Rattle.memory_store.proofs.Fronts.{begins, gathers_first, gathers_put, gathers_all, gathers_end, those}
use Rattle.memory_store.proofs.listing.gather_prefix.Goals as goal

pub loop-key-init : goal.loop-key-init
loop-key-init c = gathers_first c.args.front.now c.args.found.now c.args.live.now.entries _ c.range-key-items.ensures.ordered (c.into_iter-key-iterator.ensures.into_iter_gives ∙ c.range-key-items.ensures.between tt)

pub loop-key-preserved-in_ok-insert : goal.loop-key-preserved-in_ok-insert
loop-key-preserved-in_ok-insert c =
    let test : true ≡ starts_with nat_eq c.as_slice.result.now c.as_slice-in-loop-key.result.now = c.if-not-starts_with.ensures.value in
    let one : begins c.args.front.now c.in-Some.key.now ≡ true = cc (c.as_slice.ensures, c.as_slice-in-loop-key.ensures) in
    gathers_put c.args.front.now c.args.found.now c.loop-key.found c.insert.new.self c.args.live.now.entries c.loop-key.key-iterator c.next.new.self c.in-Some.key.now c.in-Some.value.now c.in_ok-clone.field-0 c.in_ok-clone-2.field-0
    c.loop-key.invariant c.in-Some.ensures.steps one c.in_ok-clone.ensures.cases c.in_ok-clone-2.ensures.cases c.in_ok-insert.ensures.updates.0

pub loop-key-preserved : goal.loop-key-preserved
loop-key-preserved c =
    let test : true ≡ starts_with nat_eq c.as_slice.result.now c.as_slice-in-loop-key.result.now = c.if-not-starts_with.ensures.value in
    let one : begins c.args.front.now c.in-Some.key.now ≡ true = cc (c.as_slice.ensures, c.as_slice-in-loop-key.ensures) in
    gathers_put c.args.front.now c.args.found.now c.loop-key.found c.insert.new.self c.args.live.now.entries c.loop-key.key-iterator c.next.new.self c.in-Some.key.now c.in-Some.value.now c.in_ok-clone.field-0 c.in_ok-clone-2.field-0
    c.loop-key.invariant c.in-Some.ensures.steps one c.in_ok-clone.ensures.cases c.in_ok-clone-2.ensures.cases c.in_ok-insert.ensures.updates.0

pub returns-in-None : goal.returns-in-None
returns-in-None c = gathers_all c.args.front.now c.args.found.now c.loop-key.found c.args.live.now.entries c.loop-key.key-iterator c.loop-key.invariant (ap (those c.args.front.now) c.in-None.ensures.steps.0) c.range-key-items.ensures.ordered

pub returns-then-not-starts_with : goal.returns-then-not-starts_with
returns-then-not-starts_with c =
    let test : false ≡ starts_with nat_eq c.as_slice.result.now c.as_slice-in-loop-key.result.now = c.if-not-starts_with.ensures.value in
    let other : begins c.args.front.now c.in-Some.key.now ≡ false = cc (c.as_slice.ensures, c.as_slice-in-loop-key.ensures) in
    gathers_end c.args.front.now c.args.found.now c.loop-key.found c.args.live.now.entries c.loop-key.key-iterator c.next.new.self c.in-Some.key.now c.in-Some.value.now c.loop-key.invariant c.in-Some.ensures.steps other c.range-key-items.ensures.ordered
