-- What holds of every scenario.
use Rattle.std.specs.Prelude.{◌≡◌, ℕ, ◌≤◌, ◌<◌, false, List, ◌∷◌, length, slice_get, IfSome}
use Rattle.std.specs.List.{All, IsDistinct}
use Rattle.mesh_base.specs.Order.{same_bytes}
use Rattle.scenario_lang.specs.declared.kinds.Mode.{Mode}
use Rattle.scenario_lang.specs.declared.scenario.Action.{Action}
use Rattle.scenario_lang.specs.declared.scenario.Action.TheVariants as action
use Rattle.scenario_lang.specs.declared.scenario.Count.{Count}
use Rattle.scenario_lang.specs.declared.scenario.Count.TheVariants as count
use Rattle.scenario_lang.specs.declared.scenario.Remote.{Remote}
use Rattle.scenario_lang.specs.declared.scenario.StoreOf.{StoreOf}
use Rattle.scenario_lang.specs.declared.scenario.StoreOf.TheVariants as store
use Rattle.scenario_lang.specs.Clusters.{names_of}
use Rattle.scenario_lang.specs.Lines.{Said, most_remotes, lacks_link}

-- a number of a cluster (Cilium)
abbrev pub IsClusterNumber : ℕ → Type 0
IsClusterNumber n = (1 ≤ n) × (n ≤ 255)

abbrev pub IsToBillion : ℕ → Type 0
IsToBillion n = (1 ≤ n) × (n ≤ 1000000000)

abbrev pub IsCount : Count → Type 0
IsCount count.All = Unit {0}
IsCount (count.Of n) = IsToBillion n

-- a store of a scenario with so many remotes
abbrev pub IsStoreOf : ℕ → StoreOf → Type 0
IsStoreOf remotes store.Local = Unit {0}
IsStoreOf remotes (store.Remote remote) = remote < remotes

-- an action of a scenario with so many remotes
abbrev pub IsActionOf : ℕ → Action → Type 0
IsActionOf remotes (action.Node remote name addresses) = remote < remotes
IsActionOf remotes (action.Identity remote identity labels) = remote < remotes
IsActionOf remotes (action.Address remote ip identity host pod) = remote < remotes
IsActionOf remotes (action.Withdraw remote what) = remote < remotes
IsActionOf remotes (action.Start remote) = remote < remotes
IsActionOf remotes (action.Stop remote) = remote < remotes
IsActionOf remotes (action.Keep remote) = remote < remotes
IsActionOf remotes (action.Export remote count) = (remote < remotes) × IsCount count
IsActionOf remotes (action.Raw remote write) = remote < remotes
IsActionOf remotes (action.Tick seconds) = IsToBillion seconds
IsActionOf remotes (action.Compact store revision) = IsStoreOf remotes store × IsToBillion revision
IsActionOf remotes (action.Link remote link up) = remote < remotes
IsActionOf remotes (action.Fail remote link skip moment) = (remote < remotes) × (skip ≤ 1000000)
IsActionOf remotes (action.Turn remote count) = (remote < remotes) × IsCount count
IsActionOf remotes action.RestartAgent = Unit {0}
IsActionOf remotes action.Report = Unit {0}

-- a link that an action names is one that its remote has
abbrev pub HasItsLink : List Remote → Action → Type 0
HasItsLink remotes (action.Link remote link up) = lacks_link (slice_get remotes remote) link ≡ false
HasItsLink remotes (action.Fail remote link skip moment) = lacks_link (slice_get remotes remote) link ≡ false
HasItsLink remotes _ = Unit {0}

-- the names differ from each other, places and numbers stand in their bounds, and links are there
pub record IsValid (how : Mode) (said : Said) : Type 0 where
  pub apart : IsDistinct same_bytes (said.local.name ∷ names_of said.remotes)
  pub few : length said.remotes ≤ most_remotes how
  pub local : IsClusterNumber said.local.number
  pub remotes : All (λ r. IsClusterNumber r.number) said.remotes
  pub lease : IfSome said.lease IsToBillion
  pub actions : All (IsActionOf (length said.remotes)) said.actions
  pub links : All (HasItsLink said.remotes) said.actions
