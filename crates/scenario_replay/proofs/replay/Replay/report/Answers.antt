use Rattle.std.proofs.Common.{◌≡◌, ◌≤◌, ℕ, ◌+◌, List, ◌++◌, length, sym, ap, ◌∙◌, subst, arith}
use Rattle.scenario_replay.specs.Rows.{HasTables}
use Rattle.scenario_replay.specs.Shown.{AreShown}
use Rattle.mesh_remote.specs.declared.remote.Remote.{Remote}
use Rattle.scenario_replay.proofs.Reported.{one_report_more}
use Rattle.scenario_replay.proofs.replay.Replay.report.Goals as goal

pub report_of-requires-clause-few : goal.report_of-requires-clause-few
report_of-requires-clause-few c = subst (λ (rs : List Remote). length rs ≤ 255) (sym c.as_slice.ensures.value) c.requires.world.1.1.few

pub report_of-requires-clause-tables : goal.report_of-requires-clause-tables
report_of-requires-clause-tables c = (c.args.self.now.number, subst (λ (rs : List Remote). HasTables c.args.self.now.number rs c.args.self.now.sighting) (sym c.as_slice.ensures.value) c.requires.told)

pub returns-clause-done : goal.returns-clause-done
returns-clause-done c =
    let old = c.args.self.now in
    let counted : c.in-Some.number ≡ old.reports + 1 = omega (arith, c.in-Some.ensures) in
    let has = subst (λ (rs : List Remote). HasTables old.number rs old.sighting) (sym c.as_slice.ensures.value) c.requires.told in
    one_report_more old c.report_of.new.sighting c.in_ok-report.report c.in-Some.number c.extend_from_slice.new.self c.in_ok-text.text.items counted c.in_ok-text.ensures
    (c.in_ok-extend_from_slice.ensures.ok ∙ ap (λ (l : List ℕ). old.text ++ l) c.as_slice-2.ensures.value) c.order_is_not_printed.ensures
    (λ stores ws shown. c.in_ok-report.ensures.report old.number stores ws has (subst (AreShown stores ws) (sym c.as_slice.ensures.value) shown))

pub returns-clause-told : goal.returns-clause-told
returns-clause-told c =
    let old = c.args.self.now in
    subst (λ (rs : List Remote). HasTables old.number rs c.report_of.new.sighting) c.as_slice.ensures.value
    (c.in_ok-report.ensures.tables old.number (subst (λ (rs : List Remote). HasTables old.number rs old.sighting) (sym c.as_slice.ensures.value) c.requires.told))
