use Rattle.std.proofs.Common.{ap, sym, ◌∙◌}
use Rattle.std.specs.Cmp.Lexicographic.{texts_ties}
use Rattle.store_api.specs.History.{in_range}
use Rattle.memory_store.proofs.watch.is_in.Goals as goal

pub returns-in-One : goal.returns-in-One
returns-in-One c = c.eq.ensures ∙ texts_ties c.args.key.now c.in-One.one ∙ ap (in_range c.args.key.now) (sym c.in-One.is)
