use Rattle.mesh_text.proofs.AddressTexts.{ipv4_of-apart}
use Rattle.mesh_text.proofs.laws.no_text_of_both_families.Goals as goal

pub returns : goal.returns
returns c = ipv4_of-apart
