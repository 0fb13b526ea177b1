use Rattle.std.proofs.Common.{◌≡◌, length}
use Rattle.scenario_lang.specs.Answers.{with_front}
use Rattle.scenario_lang.specs.Forms.{address_said}
use Rattle.scenario_lang.specs.Shapes.{each_said}
use Rattle.scenario_lang.specs.Split.{words}
use Rattle.scenario_lang.proofs.actions.addresses.Given as goal

abbrev pub invariant-loop-word : goal.invariant-loop-word
invariant-loop-word l = with_front l.found.items (each_said address_said (words l.left)) ≡ each_said address_said (words l.rest)

abbrev pub decreases-loop-word : goal.decreases-loop-word
decreases-loop-word l = length l.left
