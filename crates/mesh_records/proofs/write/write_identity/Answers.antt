use Rattle.std.proofs.Common.{List, Ok, ap, ◌∙◌}
use Rattle.record_values.specs.Values.{LabelText}
use Rattle.record_reading.specs.Identity.{identity_of}
use Rattle.record_reading.proofs.LabelsBack.{identity_reads_back}
use Rattle.mesh_records.proofs.write.write_identity.Goals as goal

pub returns-clause-reads_back : goal.returns-clause-reads_back
returns-clause-reads_back c =
    ap identity_of c.in_ok-text.ensures.text
    ∙ identity_reads_back c.as_slice.result.now c.in_ok-text.ensures.labels
    ∙ ap (λ (ls : List LabelText). Ok (record { labels = ls })) c.as_slice.ensures
