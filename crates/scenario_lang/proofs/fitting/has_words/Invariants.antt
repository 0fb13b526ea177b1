use Rattle.std.proofs.Common.{◌≡◌, ◌-◌}
use Rattle.scenario_lang.specs.Answers.{has}
use Rattle.scenario_lang.specs.Split.{words}
use Rattle.scenario_lang.proofs.fitting.has_words.Given as goal

abbrev pub invariant-loop-taken : goal.invariant-loop-taken
invariant-loop-taken l = has (l.count - l.taken) (words l.left) ≡ has l.count (words l.rest)
