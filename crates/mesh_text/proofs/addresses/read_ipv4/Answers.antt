use Rattle.std.proofs.Common.{sym}
use Rattle.mesh_text.proofs.AddressTexts.{ipv4_refused}
use Rattle.mesh_text.proofs.addresses.read_ipv4.Goals as goal

pub returns-in-Err : goal.returns-in-Err
returns-in-Err c = sym (ipv4_refused c.args.text.now c.in-Err.ensures)
