use Rattle.std.proofs.Common.{◌∙◌, ap}
use Rattle.mesh_text.specs.Numbers.{number_of}
use Rattle.mesh_text.proofs.Decimals.{number_of-sound, number_of-decimal}
use Rattle.mesh_text.proofs.laws.reads_decimal_alone.Goals as goal

pub returns : goal.returns
returns c text n = (number_of-sound text n, λ h. ap number_of h.1 ∙ number_of-decimal n h.0)
