use Rattle.std.proofs.Common.{◌≡◌, ◌+◌, ◌*◌, ◌≤◌, ap, sym, ◌∙◌, arith}
use Rattle.std.proofs.lemmas.Bool.{leb-false, leb-true}
use Rattle.lease_clock.specs.Least.{least_at}
use Rattle.lease_clock.proofs.Deadlines.{deadline_is, inside, no_lease, none_due_yet}
use Rattle.lease_clock.proofs.tournament.due_place.Goals as goal

pub returns-then-not-comes_by : goal.returns-then-not-comes_by
returns-then-not-comes_by c =
    let later = leb-false _ _ (sym c.comes_by.ensures ∙ c.if-not-comes_by.true) in
    none_due_yet c.args.kept.now c.requires c.args.time (omega (arith, later, c.least_at.ensures))

-- neither its own lease nor one on the left is due
pub loop-place-preserved-then-not-comes_by-2 : goal.loop-place-preserved-then-not-comes_by-2
loop-place-preserved-then-not-comes_by-2 c =
    let kept = c.args.kept.now in
    let place = c.loop-place.place in
    let own = leb-false _ _ (sym c.comes_by-in-loop-place.ensures ∙ c.loop-place-test.true) in
    let left = leb-false _ _ (sym c.comes_by-in-loop-place-2.ensures ∙ c.if-not-comes_by-2.true) in
    let next : 2 * place + 1 + 1 ≡ 2 * place + 2 = omega arith in
    let right = ap (least_at kept) next in
    let due : least_at kept (2 * place + 1 + 1) ≤ c.args.time =
    omega (arith, own, left, right, c.requires place, c.loop-place.invariant.due, c.least_at-in-loop-place.ensures, deadline_is kept place no_lease c.loop-place.invariant.inside) in record {
      inside = inside kept c.args.time (omega (arith, c.ranges.time)) _ due;
      due = due;
    }

pub returns : goal.returns
returns c =
    let own = leb-true _ _ (sym c.comes_by-in-loop-place.ensures ∙ c.loop-place-test.false) in
    (c.loop-place.invariant.inside, omega (arith, own, deadline_is c.args.kept.now c.loop-place.place no_lease c.loop-place.invariant.inside))
