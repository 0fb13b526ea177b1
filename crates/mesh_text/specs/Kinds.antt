-- The order of the four kinds of record, which is this project's own.
use Rattle.std.specs.Prelude.{ℕ}
use Rattle.mesh_text.specs.declared.kind.Kind.{Kind}
use Rattle.mesh_text.specs.declared.kind.Kind.TheVariants.{Nodes, Services, Identities, Addresses}

-- the place of a kind in their order
abbrev pub place : Kind → ℕ
place Nodes = 0
place Services = 1
place Identities = 2
place Addresses = 3
