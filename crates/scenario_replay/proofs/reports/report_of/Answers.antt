use Rattle.scenario_replay.proofs.Reported.{report_told}
use Rattle.scenario_replay.proofs.reports.report_of.Goals as goal

pub returns-clause-report : goal.returns-clause-report
returns-clause-report g c = λ number stores ws has shown.
    report_told number _ _ c.in_ok-report-2.field-0 c.in_ok-report.report (c.in_ok-report.ensures.merge number stores ws has shown) (c.in_ok-report-2.ensures stores ws shown)
