use Rattle.std.proofs.Common.{◌≡◌, drop, find, bytes_eq}
use Rattle.scenario_lang.specs.Table.{row, verbs}
use Rattle.scenario_lang.proofs.verb.verb_named.Given as goal

abbrev pub invariant-loop-verb : goal.invariant-loop-verb
invariant-loop-verb l = find (λ v. bytes_eq l.first (row v).first) (drop l.verb-index verbs) ≡ find (λ v. bytes_eq l.first (row v).first) verbs
