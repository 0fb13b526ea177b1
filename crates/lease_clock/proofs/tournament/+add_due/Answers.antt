use Rattle.std.proofs.Common.{◌<◌, ◌^◌, sym, ◌∙◌, arith}
use Rattle.std.proofs.lemmas.Bool.{leb-false, leb-true}
use Rattle.std.proofs.lemmas.Result.{on_ok_weaker}
use Rattle.lease_clock.proofs.Deadlines.{inside, no_lease}
use Rattle.lease_clock.proofs.DueRanks.{adds_all, adds_none, own_added}
use Rattle.lease_clock.proofs.tournament.+add_due.Goals as goal

pub returns-then-not-comes_by : goal.returns-then-not-comes_by
returns-then-not-comes_by t c =
    let later = leb-false _ _ (sym c.comes_by.ensures ∙ c.if-not-comes_by.true) in
    adds_none c.args.time (omega (arith, c.ranges.time)) c.args.kept.now c.args.place c.args.ranks.now c.requires (omega (arith, later, c.least_at.ensures))

pub add_due-requires : goal.add_due-requires
add_due-requires t c =
    let due = leb-true _ _ (sym c.comes_by.ensures ∙ c.if-not-comes_by.false) in
    let within = inside c.args.kept.now c.args.time (omega (arith, c.ranges.time)) c.args.place (omega (arith, due, c.least_at.ensures)) in
    (omega (arith, c.decreases, within), c.requires)

pub add_due-requires-2 : goal.add_due-requires-2
add_due-requires-2 t c =
    let due = leb-true _ _ (sym c.comes_by.ensures ∙ c.if-not-comes_by.false) in
    let within = inside c.args.kept.now c.args.time (omega (arith, c.ranges.time)) c.args.place (omega (arith, due, c.least_at.ensures)) in
    (omega (arith, c.decreases, within), c.requires)

pub returns : goal.returns
returns t c =
    let due = leb-true _ _ (sym c.comes_by.ensures ∙ c.if-not-comes_by.false) in
    let time_fits : c.args.time < 2 ^ 64 = omega (arith, c.ranges.time) in
    let within = inside c.args.kept.now c.args.time time_fits c.args.place (omega (arith, due, c.least_at.ensures)) in
    let own = own_added c.args.time time_fits c.args.kept.now c.args.place within c.args.ranks.now c.add_rank.new.ranks c.add_due.new.ranks c.add_due-2.new.ranks no_lease c.in_ok-add_rank.ensures in
    on_ok_weaker c.add_due-2.result (λ right. adds_all c.args.time time_fits c.args.kept.now c.args.place within c.args.ranks.now c.add_rank.new.ranks c.add_due.new.ranks c.add_due-2.new.ranks own c.in_ok-add_due.ensures right) c.add_due-2.ensures
