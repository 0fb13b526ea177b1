use Rattle.mesh_text.proofs.AddressTexts.{address_of-address_text}
use Rattle.mesh_text.proofs.laws.reads_written_address.Goals as goal

pub returns : goal.returns
returns c = address_of-address_text
