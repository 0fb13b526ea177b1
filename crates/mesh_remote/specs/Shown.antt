-- What is kept of a remote of a world, and what each of its jobs does to that.
use Rattle.std.specs.Prelude.{◌≡◌, ℕ, List}
use Rattle.flaky_link.specs.Link.{Link}
use Rattle.key_paths.specs.declared.hop.Hop.TheVariants.{State}
use Rattle.record_check.specs.declared.limit.Limit.TheVariants.{Small}
use Rattle.relist_merge.specs.Sight.{viewed}
use Rattle.relist_merge.specs.declared.view.View.{View}
use Rattle.scenario_lang.specs.declared.scenario.LinkName.{LinkName}
use Rattle.store_api.specs.Calls.{Talk}
use Rattle.store_api.specs.History.{History}
use Rattle.store_api.specs.Meaning.{Meaning}
use Rattle.mesh_world.specs.Ways.{Held}
use Rattle.mesh_world.specs.World as world
use Rattle.mesh_world.specs.World.{link_of, with_link}
use Rattle.mesh_remote.specs.Reads.{IsRead}
use Rattle.mesh_remote.specs.declared.remote.Remote.{Remote}

-- the remote is the world's, over this history of its store
pub record IsShown (history : History) (w : world.Remote) (r : Remote) : Type 0 where
  pub exporter : r.exporter ≡ w.exporter
  pub number : r.number ≡ w.exporter.number
  pub to_exporter : r.to_exporter ≡ w.to_exporter
  pub to_agent : r.to_agent ≡ w.to_agent
  pub agent : IsRead w.exporter.cluster history w.reader r.agent

-- From the world's remote that it was, a talk over this link leads to the one that it is.
pub record Spoke (link : LinkName) {X : Type 0} (talk : world.Remote → Talk (Unit {0}) X) (ends : X → world.Remote → world.Remote) (w : world.Remote) (new : Remote) (before after : Meaning) : Type 0 where
  pub left : Link
  pub came : X
  pub held : Held (talk w) (link_of link w, before) (left, after) came
  pub name : new.exporter.cluster ≡ w.exporter.cluster
  pub shown : IsShown after.contents.history (ends came (with_link link (λ l. left) w)) new

-- so it does from each
abbrev pub Speaks : LinkName → {X : Type 0} → (world.Remote → Talk (Unit {0}) X) → (X → world.Remote → world.Remote) → Remote → Remote → Meaning → Meaning → Type 0
Speaks link talk ends old new before after = (w : world.Remote) → IsShown before.contents.history w old → Spoke link talk ends w new before after

-- a change without a call
abbrev pub Changes : (world.Remote → world.Remote) → Remote → Remote → Type 0
Changes change old new = (history : History) (w : world.Remote) → IsShown history w old → IsShown history (change w) new

-- it is some world's
abbrev pub IsSome : History → Remote → Type 0
IsSome history r = (w : world.Remote) × IsShown history w r

-- the view is one of the cluster with this name in the cluster's own store
abbrev pub IsViewOf : List ℕ → View → Type 0
IsViewOf name v = (viewed v).source ≡ record { cluster = name; hop = State; limit = Small }

abbrev pub IsOwnView : Remote → Type 0
IsOwnView r = IsViewOf r.exporter.cluster r.agent.view
