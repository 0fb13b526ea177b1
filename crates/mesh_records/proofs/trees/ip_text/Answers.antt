use Rattle.std.proofs.Common.{sym, subst}
use Rattle.std.specs.Str.{IsUtf8}
use Rattle.mesh_records.proofs.AddressAscii.{address_utf8}
use Rattle.mesh_records.proofs.trees.ip_text.Goals as goal

pub unwrap-requires : goal.unwrap-requires
unwrap-requires c = c.from_utf8.ensures.succeeds (subst IsUtf8 (sym c.in_ok-bytes.ensures) (address_utf8 c.args.ip))
