use Rattle.mesh_text.proofs.NameGrammar.{no_fault-from_is_cluster_name, cluster_name_from_no_fault}
use Rattle.mesh_text.proofs.laws.faultless_are_cluster_names.Goals as goal

pub returns : goal.returns
returns c text = (no_fault-from_is_cluster_name text, cluster_name_from_no_fault text)
