use Rattle.std.proofs.Common.{ap, option_map}
use Rattle.mesh_text.specs.Addresses.{address_text}
use Rattle.mesh_text.proofs.AddressTexts.{address_of-address_text}
use Rattle.mesh_text.proofs.laws.canonical_text_stays.Goals as goal

pub returns : goal.returns
returns c ip fits = ap (option_map address_text) (address_of-address_text ip fits)
