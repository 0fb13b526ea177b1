use Rattle.std.proofs.Common.{◌++◌, List, ap, sym, ◌∙◌}
use Rattle.relist_merge.specs.declared.telling.ReadRecord.{ReadRecord}
use Rattle.record_check.specs.Reading.{reading_of}
use Rattle.relist_merge.proofs.RecordReadings.{record-reading, record_key-in, told_said}
use Rattle.relist_merge.proofs.telling.push_record.Goals as goal

pub copy_said-requires : goal.copy_said-requires
copy_said-requires c =
    let (limit, read) = c.requires in (
      reading_of c.args.key.now c.args.row.now.value,
      read ∙ record-reading c.args.hop c.args.cluster.now c.args.key.now c.args.row.now.value limit (record_key-in c.args.hop c.args.cluster.now c.args.key.now c.in-Some.key (sym c.in_ok-key.ensures ∙ c.in-Some.is)),
    )

pub returns : goal.returns
returns c =
    let (limit, read) = c.requires in
    c.in_ok-push.ensures.ok
    ∙ ap (λ (more : List ReadRecord). c.args.records.now ++ more)
    (sym (told_said c.args.hop c.args.cluster.now c.args.key.now c.args.row.now.value c.in-Some.key limit c.args.row.now.reading c.in_ok-reading.reading (sym c.in_ok-key.ensures ∙ c.in-Some.is) read c.in_ok-reading.ensures))
