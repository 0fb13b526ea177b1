use Rattle.mesh_world.proofs.WholeTurns.{turns_end_whole}
use Rattle.mesh_world.proofs.laws.turns_end_whole.Goals as goal

pub returns : goal.returns
returns c = turns_end_whole
