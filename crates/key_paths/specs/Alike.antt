-- What is read of a record's key, whichever the hop.
use Rattle.std.specs.Prelude.{None, Result, Ok, Err}
use Rattle.key_paths.specs.declared.hop.Hop.TheVariants.{State}
use Rattle.key_paths.specs.declared.key.Key.{Key}
use Rattle.key_paths.specs.declared.key.Key.TheVariants as key
use Rattle.key_paths.specs.declared.fault.KeyFault.{KeyFault}
use Rattle.key_paths.specs.declared.fault.KeyFault.TheVariants as fault

-- the key of the same record in an exporter's store; another key stays
abbrev pub state_form : Key → Key
state_form (key.Config cluster) = key.Config cluster
state_form (key.Synced cluster hop kind) = key.Synced cluster hop kind
state_form (key.Node hop cluster node) = key.Node State cluster node
state_form (key.Service hop cluster namespace name) = key.Service State cluster namespace name
state_form (key.Identity cached number) = key.Identity None number
state_form (key.Address cached ip) = key.Address None ip
state_form (key.Cut cluster) = key.Cut cluster

-- the kind of a fault, without its place or its number of parts
abbrev pub without_place : KeyFault → KeyFault
without_place fault.UnknownPrefix = fault.UnknownPrefix
without_place (fault.Parts have) = fault.Parts 0
without_place (fault.Name at) = fault.Name 0
without_place (fault.Number at) = fault.Number 0
without_place (fault.Address at) = fault.Address 0
without_place fault.Memory = fault.Memory

-- what was read, whichever the hop
abbrev pub hopless : Result Key KeyFault → Result Key KeyFault
hopless (Ok key) = Ok (state_form key)
hopless (Err fault) = Err (without_place fault)
