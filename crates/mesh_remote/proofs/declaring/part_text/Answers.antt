use Rattle.std.proofs.Common.{sym, subst}
use Rattle.std.specs.Str.{IsUtf8}
use Rattle.mesh_remote.proofs.NameBytes.{part_name_some, part_name_utf8}
use Rattle.mesh_remote.proofs.declaring.part_text.Goals as goal

pub unreachable-requires : goal.unreachable-requires
unreachable-requires c = c.in-Err.ensures.cases.0 (subst IsUtf8 (sym c.as_bytes.ensures.bytes) (part_name_utf8 c.args.name.now c.as_bytes.ensures.valid))

pub returns-clause-some : goal.returns-clause-some
returns-clause-some c = part_name_some c.args.name.now c.as_bytes.ensures.valid

pub returns-in_err-from_str-in-Ok-clause-some : goal.returns-in_err-from_str-in-Ok-clause-some
returns-in_err-from_str-in-Ok-clause-some c = part_name_some c.args.name.now c.as_bytes.ensures.valid
