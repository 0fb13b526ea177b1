-- A talk over a link and an open store is what the world plays.
use Rattle.std.proofs.Common.{◌≡◌, ℕ, ◌<◌, List, length, map, get_or, refl, ap, sym, ◌∙◌, subst}
use Rattle.std.proofs.Math.ListN.{set}
use Rattle.std.proofs.lemmas.List.{set-set, set-get_or, get_or-set_same, length-set}
use Rattle.flaky_link.specs.Link.{Link}
use Rattle.scenario_lang.specs.declared.scenario.LinkName.{LinkName}
use Rattle.scenario_lang.specs.declared.scenario.LinkName.TheVariants as link
use Rattle.store_api.specs.Calls.{Heard, Talk, Ends, Asks}
use Rattle.store_api.specs.Meaning.{Meaning}
use Rattle.mesh_world.specs.Asking.{Step, play}
use Rattle.mesh_world.specs.Goes.{Goes, IsOpen}
use Rattle.mesh_world.specs.Ways.{CrossedWay, Held, Way}
use Rattle.mesh_world.specs.World as world
use Rattle.mesh_world.specs.World.{World, link_of, remote_at, store_of, with_link}
use Rattle.mesh_world.proofs.Links.{through}
use Rattle.mesh_world.proofs.Moved.{Moved, Went, moved_twice, open_behind, remote_moved}
use Rattle.mesh_world.proofs.Runs.{Goes-none, Goes-trans, Goes-weaken}

-- a remote has this link: its exporter's, or its reader's
abbrev pub HasLink : LinkName → Type 0
HasLink link = (l : Link) (r : world.Remote) → link_of link (with_link link (λ before. l) r) ≡ l

-- a link that is replaced twice
with_both : (link : LinkName) (first second : Link) (r : world.Remote) → with_link link (λ before. second) (with_link link (λ before. first) r) ≡ with_link link (λ before. second) r
with_both link.Exporter first second r = refl
with_both link.Agent first second r = refl
with_both link.Remote first second r = refl
with_both link.Local first second r = refl

-- one that is replaced by itself
pub with_own : (link : LinkName) (r : world.Remote) → with_link link (λ before. link_of link r) r ≡ r
with_own link.Exporter r = refl
with_own link.Agent r = refl
with_own link.Remote r = refl
with_own link.Local r = refl

module _ (link : LinkName) (has_link : HasLink link) (w : World) (remote : ℕ) (lt : remote < length w.remotes) (many : store_of remote < length w.stores) (d : Meaning) where
  -- the remote with this link
  abbrev pub over : Link → world.Remote
  over l = with_link link (λ before. l) (remote_at w remote)

  abbrev pub Over : Way → World → Type 0
  Over way n = Moved remote (over way.0) way.1.contents w n

  -- stores among which the remote's is this one
  pub record Stands (stores : List Meaning) (way : Way) (v : World) : Type 0 where
    pub within : store_of remote < length stores
    pub here : get_or stores (store_of remote) d ≡ way.1
    pub opens : IsOpen way.1
    pub shows : v.stores ≡ map (λ (m : Meaning). m.contents) stores

  abbrev pub with_store : List Meaning → Way → List Meaning
  with_store stores way = set stores (store_of remote) way.1

  stands_on : (stores : List Meaning) (old new : Way) (v x : World) → Stands stores old v → IsOpen new.1 → x.stores ≡ map (λ (m : Meaning). m.contents) (with_store stores new) → Stands (with_store stores new) new x
  stands_on stores old new v x at opens shows = record {
    within = subst (λ (k : ℕ). store_of remote < k) (sym (length-set stores (store_of remote) new.1)) at.within;
    here = get_or-set_same stores (store_of remote) new.1 d at.within;
    opens = opens;
    shows = shows;
  }

  -- one call more moves the link and the store once more
  on_from : (old new : Way) (v n : World) → Over old v → Went link remote new.0 new.1.contents v n → Over new n
  on_from old new v n is went =
      let e : remote_at v remote ≡ over old.0 = remote_moved remote (over old.0) old.1.contents w v is lt in
      let to : with_link link (λ before. new.0) (remote_at v remote) ≡ over new.0 = ap (with_link link (λ before. new.0)) e ∙ with_both link old.0 new.0 (remote_at w remote) in
      moved_twice remote (over old.0) (over new.0) old.1.contents new.1.contents w v n is (subst (λ (r : world.Remote). Moved remote r new.1.contents v n) to went)

  -- the talk's calls are the world's
  pub played : {X Y : Type 0} (talk : Talk (Unit {0}) X) (rest : X → Step Y) (came : X) (old new : Way) (stores : List Meaning) (v : World) → Stands stores old v → Over old v → Held talk old new came
      → Goes (play link remote talk rest) (rest came) v stores (with_store stores new) (Over new)
  played (Ends end) rest came old new stores v at is held =
      let same : with_store stores new ≡ stores = ap (λ (way : Way). with_store stores way) held.0 ∙ ap (set stores (store_of remote)) (sym at.here) ∙ set-get_or stores (store_of remote) d in
      subst (λ (ms : List Meaning). Goes (rest end) (rest came) v stores ms (Over new)) (sym same)
      (rw held.1 (Goes-none (rest end) v stores (Over new) at.shows (subst (λ (way : Way). Over way v) (sym held.0) is)))
  played {X} {Y} (Asks way request next) rest came old new stores v at is (heard, mid, call, more) =
      let e : remote_at v remote ≡ over old.0 = remote_moved remote (over old.0) old.1.contents w v is lt in
      let before : old.0 ≡ link_of link (remote_at v remote) = sym (ap (link_of link) e ∙ has_link old.0 (remote_at w remote)) in
      let quiet = subst IsOpen (sym at.here) at.opens in
      let goes_on : Heard → Step Y = λ h. play link remote (next h) rest in
      let first : CrossedWay (link_of link (remote_at v remote), get_or stores (store_of remote) d) mid request call.end =
      subst (λ (x : Way). CrossedWay x mid request call.end) (ap (λ (l : Link). (l, old.1)) before ∙ ap (λ (m : Meaning). (link_of link (remote_at v remote), m)) (sym at.here)) call.call.crossed in
      let opens = open_behind old.0 mid.0 old.1 mid.1 call.call.called.keeps at.opens in
      subst (λ (ms : List Meaning). Goes (play link remote (Asks way request next) rest) (rest came) v stores ms (Over new)) (set-set stores (store_of remote) mid.1 new.1)
      (Goes-trans (play link remote (Asks way request next) rest) (goes_on heard) (rest came) v stores (with_store stores mid) (with_store (with_store stores mid) new) (Over mid) (Over new)
      (Goes-weaken (play link remote (Asks way request next) rest) (goes_on heard) v stores (with_store stores mid) (Went link remote mid.0 mid.1.contents v) (Over mid) (λ n went. on_from old mid v n is went)
      (through link remote request stores d mid.1 at.within v at.shows quiet.quiet goes_on mid.0 call.end heard first call.hears))
      (λ n shows now. played (next heard) rest came mid new (with_store stores mid) n (stands_on stores old mid v n at opens shows) now more))

-- what a talk leaves open
pub held_open : {X : Type 0} (talk : Talk (Unit {0}) X) (came : X) (old new : Way) → Held talk old new came → IsOpen old.1 → IsOpen new.1
held_open (Ends end) came old new held opens = subst (λ (way : Way). IsOpen way.1) (sym held.0) opens
held_open (Asks way request next) came old new (heard, mid, call, more) opens = held_open (next heard) came mid new more (open_behind old.0 mid.0 old.1 mid.1 call.call.called.keeps opens)
