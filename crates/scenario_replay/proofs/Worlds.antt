-- The program goes on to a world where one remote, or one store, has gone on.
use Rattle.std.proofs.Common.{◌≡◌, ℕ, ◌<◌, ◌≤◌, List, ◌∷◌, length, map, drop, get_or, refl, ap, sym, ◌∙◌, subst, arith, true}
use Rattle.std.proofs.Math.ListN.{set}
use Rattle.std.proofs.Math.Seq.{map-set_same}
use Rattle.std.proofs.lemmas.List.{map-set, get_or-map, length-map, length-set}
use Rattle.std.proofs.lemmas.List.Elements.{All-get_or, All-set}
use Rattle.std.specs.List.{IsDistinct}
use Rattle.mesh_base.specs.Order.{same_bytes}
use Rattle.store_api.specs.Contents.{Contents, empty_contents}
use Rattle.store_api.specs.History.{Begins}
use Rattle.store_api.specs.Meaning.{Meaning, Keeps}
use Rattle.mesh_world.specs.Goes.{IsOpen}
use Rattle.mesh_remote.specs.Shown.{IsShown, IsSome}
use Rattle.scenario_replay.specs.Shown.{HasSomeWorld, HasWorld, names_in}
use Rattle.mesh_world.specs.World as world
use Rattle.mesh_world.specs.World.{World, at_remote, contents_at, no_remote, remote_at, store_of}
use Rattle.mesh_remote.specs.declared.remote.Remote.{Remote}
use Rattle.scenario_replay.specs.declared.replay.Replay.{Replay}
use Rattle.mesh_world.proofs.Calls.{Beside}
use Rattle.mesh_world.proofs.Moved.{Moved, contents_is, open_kept, stores_many}
use Rattle.scenario_replay.proofs.Places.{as_many, drop_get, drop_set, shown_as, shown_at, shown_from, shown_set}

-- the program with one remote replaced
pub record Replaced (remote : ℕ) (r : Remote) (old new : Replay) : Type 0 where
  pub local : new.local ≡ old.local
  pub number : new.number ≡ old.number
  pub remotes : new.remotes.items ≡ set old.remotes.items remote r
  pub reports : new.reports ≡ old.reports
  pub text : new.text ≡ old.text

abbrev name_of : Remote → List ℕ
name_of r = r.exporter.cluster

module _ (w : World) (replay : Replay) (stores : List Meaning) (has : HasWorld w replay stores) where
  pub remotes_many : length w.remotes ≡ length replay.remotes.items
  remotes_many = as_many (drop 1 w.stores) w.remotes replay.remotes.items has.shown

  module _ (place : ℕ) (le : place ≤ length replay.remotes.items) where
    pub place_within : place < length stores
    place_within = omega (arith, has.many, has.few)

    pub place_within_world : place < length w.stores
    place_within_world = stores_many w stores place has.contents place_within

    pub place_open : (d : Meaning) → IsOpen (get_or stores place d)
    place_open d = All-get_or IsOpen stores place d place_within has.opens

    -- a store that went on alone
    pub beside_has : (n : World) (d m : Meaning) → Keeps (get_or stores place d) m → Beside place m.contents w n → HasWorld n replay (set stores place m)
    beside_has n d m keeps beside = record {
      many = length-set stores place m ∙ has.many;
      opens = All-set IsOpen stores place m (open_kept (get_or stores place d) m keeps (place_open d)) has.opens;
      few = has.few;
      apart = has.apart;
      local = has.local ∙ sym beside.local;
      contents = beside.stores ∙ ap (λ (cs : List Contents). set cs place m.contents) has.contents ∙ sym (map-set (λ (x : Meaning). x.contents) stores place m);
      shown = shown_as (drop 1 (set w.stores place m.contents)) (drop 1 n.stores) w.remotes n.remotes replay.remotes.items replay.remotes.items (ap (drop 1) (sym beside.stores)) (sym beside.remotes) refl
          (shown_from w.stores w.remotes replay.remotes.items place empty_contents m.contents has.shown
          (subst (λ (c : Contents). Begins c.history m.contents.history) (sym (contents_is w stores place d has.contents place_within)) keeps.history));
      reports = has.reports ∙ sym beside.reports;
      text = has.text ∙ sym beside.text;
    }

  module _ (remote : ℕ) (lt : remote < length replay.remotes.items) where
    pub remote_within : remote < length w.remotes
    remote_within = omega (arith, remotes_many)

    pub store_within : store_of remote < length stores
    store_within = place_within (store_of remote) (omega arith)

    pub store_within_world : store_of remote < length w.stores
    store_within_world = place_within_world (store_of remote) (omega arith)

    pub store_open : (d : Meaning) → IsOpen (get_or stores (store_of remote) d)
    store_open d = place_open (store_of remote) (omega arith) d

    -- the remote is shown over its store
    pub shown_here : (d : Meaning) (r : Remote) → IsShown (get_or stores (store_of remote) d).contents.history (remote_at w remote) (get_or replay.remotes.items remote r)
    shown_here d r =
        subst (λ (c : Contents). IsShown c.history (remote_at w remote) (get_or replay.remotes.items remote r)) (drop_get w.stores remote empty_contents ∙ contents_is w stores (store_of remote) d has.contents store_within)
        (shown_at (drop 1 w.stores) w.remotes replay.remotes.items remote empty_contents no_remote r has.shown lt)

    -- the remote and its store went on
    pub moved_has : (n : World) (next : Replay) (v : world.Remote) (r d : Remote) (m : Meaning) → IsOpen m → IsShown m.contents.history v r → name_of r ≡ name_of (get_or replay.remotes.items remote d)
        → Replaced remote r replay next → Moved remote v m.contents w n → HasWorld n next (set stores (store_of remote) m)
    moved_has n next v r d m opens shown same replaced moved = record {
      many = length-set stores (store_of remote) m ∙ has.many;
      opens = All-set IsOpen stores (store_of remote) m opens has.opens;
      few = subst (λ (k : ℕ). k ≤ 255) (sym (ap length replaced.remotes ∙ length-set replay.remotes.items remote r)) has.few;
      apart = subst (λ (ns : List (List ℕ)). IsDistinct same_bytes ns)
          (sym (ap (λ (l : List ℕ). l ∷ names_in next) replaced.local ∙ ap (λ (ns : List (List ℕ)). replay.local ∷ ns) (ap (map name_of) replaced.remotes ∙ map-set_same name_of replay.remotes.items remote r d same)))
          has.apart;
      local = replaced.number ∙ has.local ∙ sym moved.local;
      contents = moved.stores ∙ ap (λ (cs : List Contents). set cs (store_of remote) m.contents) has.contents ∙ sym (map-set (λ (x : Meaning). x.contents) stores (store_of remote) m);
      shown = shown_as (set (drop 1 w.stores) remote m.contents) (drop 1 n.stores) (set w.remotes remote v) n.remotes (set replay.remotes.items remote r) next.remotes.items
          (sym (ap (drop 1) moved.stores ∙ drop_set w.stores remote m.contents)) (sym moved.remotes) (sym replaced.remotes)
          (shown_set (drop 1 w.stores) w.remotes replay.remotes.items remote m.contents v r has.shown shown);
      reports = replaced.reports ∙ has.reports ∙ sym moved.reports;
      text = replaced.text ∙ has.text ∙ sym moved.text;
    }

-- over the stores as the code has them
module _ {S : Type 0} (meaning : S → Meaning) (stores : List S) (replay : Replay) (place : ℕ) (le : place ≤ length replay.remotes.items) where
  pub has_place : HasSomeWorld replay (map meaning stores) → place < length stores
  has_place has = subst (λ (k : ℕ). place < k) (length-map stores meaning) (place_within has.0 replay (map meaning stores) has.1 place le)

module _ {S : Type 0} (meaning : S → Meaning) (stores : List S) (replay : Replay) (place : ℕ) (le : place ≤ length replay.remotes.items) (d : S) where
  pub element_at : (w : World) → HasWorld w replay (map meaning stores) → meaning (get_or stores place d) ≡ get_or (map meaning stores) place (meaning d)
  element_at w has = sym (get_or-map meaning stores place d (meaning d) (has_place meaning stores replay place le (w, has)))

  -- every key may be written there
  pub writable_at : HasSomeWorld replay (map meaning stores) → (key : List ℕ) → (meaning (get_or stores place d)).writable key ≡ true
  writable_at has key =
      subst (λ (m : Meaning). m.writable key ≡ true) (sym (element_at has.0 has.1)) ((place_open has.0 replay (map meaning stores) has.1 place le (meaning d)).writable key)

-- the remote is some world's, over its store
pub shown_some : {S : Type 0} (meaning : S → Meaning) (stores : List S) (replay : Replay) (remote : ℕ) (d : S) (old : Remote) → remote < length replay.remotes.items → old ≡ get_or replay.remotes.items remote old → HasSomeWorld replay (map meaning stores) → IsSome (meaning (get_or stores (store_of remote) d)).contents.history old
shown_some meaning stores replay remote d old lt is_old has =
    let v = remote_at has.0 remote in (
      v,
      subst (λ (r : Remote). IsShown (meaning (get_or stores (store_of remote) d)).contents.history v r) (sym is_old)
          (subst (λ (m : Meaning). IsShown m.contents.history v (get_or replay.remotes.items remote old)) (sym (element_at meaning stores replay (store_of remote) (omega arith) d has.0 has.1))
          (shown_here has.0 replay (map meaning stores) has.1 remote lt (meaning d) old)),
    )
