use Rattle.mesh_records.proofs.LabelTexts.{text_grows, labels_grow, all_labels}
use Rattle.mesh_records.proofs.write.labels_text.Goals as goal

pub loop-label-preserved : goal.loop-label-preserved
loop-label-preserved c = record {
  text = text_grows c.args.labels.now c.loop-label.label-index c.label-item.result _ _ c.loop-label-test.true c.label-item.is c.in_ok-push_label.ensures.written c.loop-label.invariant.text;
  labels = labels_grow c.args.labels.now c.loop-label.label-index c.label-item.result c.loop-label-test.true c.label-item.is c.in_ok-push_label.ensures.label c.loop-label.invariant.labels;
}

pub returns-clause-labels : goal.returns-clause-labels
returns-clause-labels c = all_labels c.args.labels.now c.loop-label.label-index c.loop-label-test.false c.loop-label.invariant.labels
