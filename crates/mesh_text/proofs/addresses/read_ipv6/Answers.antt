use Rattle.std.proofs.Common.{sym}
use Rattle.mesh_text.proofs.AddressTexts.{ipv6_refused}
use Rattle.mesh_text.proofs.addresses.read_ipv6.Goals as goal

pub returns-in-Err : goal.returns-in-Err
returns-in-Err c = sym (ipv6_refused c.args.text.now c.in-Err.ensures)
