use Rattle.std.proofs.Common.{◌≡◌, ◌≤◌, ◌+◌, ◌++◌, length, map, drop}
use Rattle.mesh_text.specs.Addresses.{split_at}
use Rattle.key_paths.specs.Reading.{placed}
use Rattle.key_paths.specs.Parts.{seen}
use Rattle.key_paths.proofs.parts.parts_behind.Given as goal

abbrev pub invariant-loop-parts : goal.invariant-loop-parts
invariant-loop-parts l = record {
  parts : map seen l.parts.items ++ placed l.at (split_at 47 l.rest) ≡ placed l.from (split_at 47 (drop l.from l.bytes));
  within : l.at + length l.rest ≤ length l.bytes;
}

abbrev pub decreases-loop-parts : goal.decreases-loop-parts
decreases-loop-parts l = length l.rest
