-- What the program keeps of a world, and what each of its steps does to that.
use Rattle.std.specs.Prelude.{◌≡◌, ℕ, ◌≤◌, List, [], ◌∷◌, map, drop, length}
use Rattle.std.specs.List.{All, IsDistinct}
use Rattle.mesh_base.specs.Order.{same_bytes}
use Rattle.scenario_lang.specs.declared.scenario.Remote as said
use Rattle.store_api.specs.Contents.{Contents}
use Rattle.store_api.specs.History.{History}
use Rattle.store_api.specs.Meaning.{Meaning}
use Rattle.mesh_world.specs.Actions.{Does}
use Rattle.mesh_world.specs.Goes.{IsOpen, Leads}
use Rattle.mesh_world.specs.World as world
use Rattle.mesh_world.specs.World.{World, link_of, new_remote, with_link}
use Rattle.mesh_remote.specs.Shown.{IsShown}
use Rattle.mesh_remote.specs.declared.remote.Remote.{Remote}
use Rattle.scenario_replay.specs.declared.replay.Replay.{Replay}

-- so is each, over the contents of its store
abbrev pub AreShown : List Contents → List world.Remote → List Remote → Type 0
AreShown stores [] [] = Unit {0}
AreShown (c ∷ stores) (w ∷ ws) (r ∷ rs) = IsShown c.history w r × AreShown stores ws rs
AreShown _ _ _ = ⊥

-- each is the new remote of the one in a scenario, over any history
abbrev pub AreNew : ℕ → List said.Remote → List Remote → Type 0
AreNew seconds [] [] = Unit {0}
AreNew seconds (s ∷ ss) (r ∷ rs) = ((history : History) → IsShown history (new_remote s.name s.number seconds) r) × AreNew seconds ss rs
AreNew seconds _ _ = ⊥

-- the names of the remotes
abbrev pub names_in : Replay → List (List ℕ)
names_in replay = map (λ (r : Remote). r.exporter.cluster) replay.remotes.items

-- the stores are open, and the program is at this world
pub record HasWorld (w : World) (replay : Replay) (stores : List Meaning) : Type 0 where
  pub many : length stores ≡ 256
  pub opens : All IsOpen stores
  pub few : length replay.remotes.items ≤ 255
  pub apart : IsDistinct same_bytes (replay.local ∷ names_in replay)
  pub local : replay.number ≡ w.local
  pub contents : w.stores ≡ map (λ (m : Meaning). m.contents) stores
  pub shown : AreShown (drop 1 w.stores) w.remotes replay.remotes.items
  pub reports : replay.reports ≡ w.reports
  pub text : replay.text ≡ w.text

-- it is at some world
abbrev pub HasSomeWorld : Replay → List Meaning → Type 0
HasSomeWorld replay stores = (w : World) × HasWorld w replay stores

-- from each world that the program was at, the step leads to one that it is at
abbrev pub Makes : Does → Replay → Replay → List Meaning → List Meaning → Type 0
Makes does old new before after = (w : World) → HasWorld w old before → Leads does w before after (λ next. HasWorld next new after)

-- without a call on a store
abbrev pub MakesPlainly : Does → Replay → Replay → Type 0
MakesPlainly does old new = (stores : List Meaning) → Makes does old new stores stores
