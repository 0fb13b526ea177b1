use Rattle.std.proofs.Common.{◌≡◌, ◌-◌, sym, ap, ◌∙◌, inl, drop, take, length}
use Rattle.std.proofs.lemmas.List.{take_rest}
use Rattle.record_values.specs.Labels.{split_once}
use Rattle.record_reading.proofs.Cuts.{both, cuts}
use Rattle.record_reading.proofs.LabelSteps.{no_end, no_label, unreadable, within, label_joins, from_place, left}
use Rattle.record_reading.proofs.identity.read_identity.Goals as goal

pub returns-in_default : goal.returns-in_default
returns-in_default c =
    inl (unreadable _ _ _ c.loop-at.invariant.gives
    (no_end _ _ (left _ _ c.loop-at-test.true) (c.in_default.ensures ∙ ap (split_once 59) (take_rest c.args.bytes.now c.loop-at.at))))

pub read_label-requires : goal.read_label-requires
read_label-requires c =
    (cuts 59 (take (length c.args.bytes.now - c.loop-at.at) (drop c.loop-at.at c.args.bytes.now)) c.in-Some.text.now c.in-Some.field-0-1.now c.in-Some.ensures).1

pub returns-in_default-2 : goal.returns-in_default-2
returns-in_default-2 c =
    inl (unreadable _ _ _ c.loop-at.invariant.gives
    (no_label c.loop-at.at c.args.bytes.now c.in-Some.text.now c.in-Some.field-0-1.now
    (from_place c.loop-at.at c.args.bytes.now c.in-Some.text.now c.in-Some.field-0-1.now c.in-Some.ensures) (sym c.in_default-2.is ∙ c.in_ok-label.ensures)))

pub loop-at-preserved : goal.loop-at-preserved
loop-at-preserved c =
    let e : both c.in-Some.text.now c.in-Some.field-0-1.now ≡ split_once 59 (drop c.loop-at.at c.args.bytes.now) =
    from_place c.loop-at.at c.args.bytes.now c.in-Some.text.now c.in-Some.field-0-1.now c.in-Some.ensures in
    record {
      in_range = within c.loop-at.at c.args.bytes.now c.in-Some.text.now c.in-Some.field-0-1.now c.loop-at.invariant.in_range e;
      gives = rw c.in_ok-push.ensures.items (label_joins c.loop-at.at c.args.bytes.now c.in-Some.text.now c.in-Some.field-0-1.now c.loop-at.labels.items c.in-Some-2.label e
          (sym c.in-Some-2.is ∙ c.in_ok-label.ensures) ∙ c.loop-at.invariant.gives);
    }
