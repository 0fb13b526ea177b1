use Rattle.std.proofs.NetLemmas.Texts.{IsZeroRun-longest_zero_run, longest_zero_run_first}
use Rattle.mesh_text.proofs.laws.finds_first_longest_run.Goals as goal

pub returns : goal.returns
returns c fields = (IsZeroRun-longest_zero_run fields, longest_zero_run_first fields)
