use Rattle.mesh_text.proofs.NameGrammar.{no_fault-from_is_part_name, part_name_from_no_fault}
use Rattle.mesh_text.proofs.laws.faultless_are_part_names.Goals as goal

pub returns : goal.returns
returns c text = (no_fault-from_is_part_name text, part_name_from_no_fault text)
