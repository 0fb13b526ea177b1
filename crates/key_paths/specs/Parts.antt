-- The parts that the reader has found, as places, and what a part that is no name is refused for.
use Rattle.std.specs.Prelude.{ℕ}
use Rattle.mesh_text.specs.declared.names.NameFault.{NameFault}
use Rattle.mesh_text.specs.declared.names.NameFault.TheVariants as name
use Rattle.key_paths.specs.declared.fault.KeyFault.{KeyFault}
use Rattle.key_paths.specs.declared.fault.KeyFault.TheVariants.{Name, Memory}
use Rattle.key_paths.specs.declared.parts.Part.{Part}
use Rattle.key_paths.specs.Reading.{Place}

abbrev pub seen : Part → Place
seen part = record { at = part.at; text = part.text.now }

-- want of memory as itself, every other fault of a name by the part's place
abbrev pub name_fault : ℕ → NameFault → KeyFault
name_fault at name.Memory = Memory
name_fault at _ = Name at
