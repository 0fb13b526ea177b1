use Rattle.std.proofs.Common.{sym, ◌+◌}
use Rattle.key_paths.proofs.Parting.{split_some, split_none, drop-all}
use Rattle.key_paths.proofs.parts.first_part.Goals as goal

pub returns-in-Some-clause-parts : goal.returns-in-Some-clause-parts
returns-in-Some-clause-parts c = rw (drop-all c.args.bytes.now (c.in-Some.n + 1)) (split_some _ _ (sym c.in-Some.ensures.slash))

pub returns-in-None-clause-parts : goal.returns-in-None-clause-parts
returns-in-None-clause-parts c = split_none _ (sym c.in-None.ensures.slash)
