use Rattle.mesh_text.proofs.AddressTexts.{IsIp-address_of}
use Rattle.mesh_text.proofs.laws.reads_address_in_range.Goals as goal

pub returns : goal.returns
returns c = IsIp-address_of
