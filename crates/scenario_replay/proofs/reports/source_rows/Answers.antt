use Rattle.std.proofs.Common.{◌+◌, ◌∷◌, [], ℕ, length, get_or, sym, ap, ◌∙◌, subst, arith, length-append}
use Rattle.shared_tables.specs.declared.rows.SourceRow.{SourceRow}
use Rattle.mesh_remote.specs.declared.remote.Remote.{Remote}
use Rattle.scenario_replay.proofs.Reported.{AreRowsOf, all_rows, more_rows}
use Rattle.scenario_replay.proofs.reports.source_rows.Goals as goal

pub loop-remote-preserved : goal.loop-remote-preserved
loop-remote-preserved c =
    let remotes = c.args.remotes.now in
    let r : Remote = c.remote-item.result in
    let row : SourceRow = c.in_ok-source_row.field-0 in
    let many = c.loop-remote.invariant.1 in (
      subst (AreRowsOf remotes) (sym c.in_ok-push.ensures.ok)
          (more_rows remotes c.loop-remote.rows r row (c.remote-item.is ∙ ap (λ (i : ℕ). get_or remotes i r) (sym many)) (omega (arith, many, c.loop-remote-test.true)) c.loop-remote.invariant.0 c.in_ok-source_row.ensures),
      ap length c.in_ok-push.ensures.ok ∙ length-append c.loop-remote.rows (row ∷ []) ∙ ap (λ (n : ℕ). n + 1) many,
    )

pub returns : goal.returns
returns c = λ stores ws shown. all_rows c.args.remotes.now c.loop-remote.rows stores ws (omega (arith, c.loop-remote.invariant.1, c.loop-remote-test.false, c.loop-remote.auto.remote-index-end)) c.loop-remote.invariant.0 shown
