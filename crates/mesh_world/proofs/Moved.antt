-- Worlds in which one remote and its store have gone on, and what keeps a store open.
use Rattle.std.proofs.Common.{◌≡◌, ℕ, ◌<◌, List, length, map, get_or, refl, ap, sym, ◌∙◌}
use Rattle.std.proofs.Math.ListN.{set}
use Rattle.std.proofs.lemmas.List.{set-set, set-get_or, get_or-set_same, get_or-map, length-map}
use Rattle.flaky_link.specs.Link.{Link, linked}
use Rattle.scenario_lang.specs.declared.scenario.LinkName.{LinkName}
use Rattle.store_api.specs.Contents.{Contents, empty_contents}
use Rattle.store_api.specs.Meaning.{Meaning, Keeps}
use Rattle.mesh_world.specs.Goes.{IsOpen}
use Rattle.mesh_world.specs.World as world
use Rattle.mesh_world.specs.World.{World, at_remote, contents_at, no_remote, remote_at, store_of, with_link}

-- A world whose remote is this one and whose store has these contents, and which is else as before but for
-- the counts of calls.
pub record Moved (remote : ℕ) (r : world.Remote) (c : Contents) (w n : World) : Type 0 where
  pub local : n.local ≡ w.local
  pub stores : n.stores ≡ set w.stores (store_of remote) c
  pub remotes : n.remotes ≡ set w.remotes remote r
  pub reports : n.reports ≡ w.reports
  pub text : n.text ≡ w.text

-- the remote has left its link so
abbrev pub Went : LinkName → ℕ → Link → Contents → World → World → Type 0
Went link remote left c w n = Moved remote (with_link link (λ l. left) (remote_at w remote)) c w n

-- a store stays open
pub open_kept : (m m' : Meaning) → Keeps m m' → IsOpen m → IsOpen m'
open_kept m m' k o = record { quiet = k.quiet ∙ o.quiet; writable = λ key. k.writable key ∙ o.writable key }

pub open_behind : (l l' : Link) (m m' : Meaning) → Keeps (linked l m) (linked l' m') → IsOpen m → IsOpen m'
open_behind l l' m m' k o = record { quiet = k.quiet ∙ o.quiet; writable = λ key. k.writable key ∙ o.writable key }

-- a world that moved
-- the contents of a store are the world's
pub contents_is : (w : World) (stores : List Meaning) (place : ℕ) (d : Meaning) → w.stores ≡ map (λ (m : Meaning). m.contents) stores → place < length stores → contents_at w place ≡ (get_or stores place d).contents
contents_is w stores place d shows lt = rw shows (get_or-map (λ (m : Meaning). m.contents) stores place d empty_contents lt)

pub stores_many : (w : World) (stores : List Meaning) (place : ℕ) → w.stores ≡ map (λ (m : Meaning). m.contents) stores → place < length stores → place < length w.stores
stores_many w stores place shows lt = rw shows (rw length-map lt)

-- as it is
pub moved_none : (w : World) (remote : ℕ) → Moved remote (remote_at w remote) (contents_at w (store_of remote)) w w
moved_none w remote = record { local = refl; stores = sym (set-get_or w.stores (store_of remote) empty_contents); remotes = sym (set-get_or w.remotes remote no_remote); reports = refl; text = refl }

-- twice
pub moved_twice : (remote : ℕ) (r r' : world.Remote) (c c' : Contents) (w v n : World) → Moved remote r c w v → Moved remote r' c' v n → Moved remote r' c' w n
moved_twice remote r r' c c' w v n a b = record {
  local = b.local ∙ a.local;
  stores = b.stores ∙ ap (λ (cs : List Contents). set cs (store_of remote) c') a.stores ∙ set-set w.stores (store_of remote) c c';
  remotes = b.remotes ∙ ap (λ (rs : List world.Remote). set rs remote r') a.remotes ∙ set-set w.remotes remote r r';
  reports = b.reports ∙ a.reports;
  text = b.text ∙ a.text;
}

module _ (remote : ℕ) (r : world.Remote) (c : Contents) (w n : World) (moved : Moved remote r c w n) where
  -- the remote and the store's contents afterwards
  pub remote_moved : remote < length w.remotes → remote_at n remote ≡ r
  remote_moved lt = ap (λ (rs : List world.Remote). get_or rs remote no_remote) moved.remotes ∙ get_or-set_same w.remotes remote r no_remote lt

  pub contents_moved : store_of remote < length w.stores → contents_at n (store_of remote) ≡ c
  contents_moved lt = ap (λ (cs : List Contents). get_or cs (store_of remote) empty_contents) moved.stores ∙ get_or-set_same w.stores (store_of remote) c empty_contents lt

  -- the remote is changed then
  pub moved_changed : (change : Contents → world.Remote → world.Remote) → remote < length w.remotes → store_of remote < length w.stores
      → Moved remote (change c r) c w (at_remote remote (change (contents_at n (store_of remote))) n)
  moved_changed change lt many = record {
    local = moved.local;
    stores = moved.stores;
    remotes = ap (λ (rs : List world.Remote). set rs remote (change (contents_at n (store_of remote)) (remote_at n remote))) moved.remotes
        ∙ set-set w.remotes remote r (change (contents_at n (store_of remote)) (remote_at n remote))
        ∙ ap (λ (x : Contents). set w.remotes remote (change x (remote_at n remote))) (contents_moved many)
        ∙ ap (λ (x : world.Remote). set w.remotes remote (change c x)) (remote_moved lt);
    reports = moved.reports;
    text = moved.text;
  }
