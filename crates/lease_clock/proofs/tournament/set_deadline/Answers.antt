use Rattle.std.proofs.Common.{◌∙◌}
use Rattle.std.proofs.lemmas.List.{get_or_default}
use Rattle.lease_clock.proofs.Deadlines.{entries_with, settled_set}
use Rattle.lease_clock.proofs.tournament.set_deadline.Goals as goal

pub settle_up-requires-clause-others : goal.settle_up-requires-clause-others
settle_up-requires-clause-others c = settled_set _ _ _ _ c.requires.place (get_or_default _ _ _ _ c.requires.place) c.requires.settled

pub returns : goal.returns
returns c = record {
  entries = c.settle_up.ensures.entries ∙ entries_with _ _ _ _ c.requires.place (get_or_default _ _ _ _ c.requires.place);
  settled = c.settle_up.ensures.settled;
}
