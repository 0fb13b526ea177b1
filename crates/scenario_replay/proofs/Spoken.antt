-- A talk of a remote with its store over a link, and the program after it.
use Rattle.std.proofs.Common.{◌≡◌, ℕ, ◌<◌, List, length, map, get_or, Result, Ok, Err, OnOk, refl, ap, sym, ◌∙◌, subst, arith}
use Rattle.std.proofs.Math.ListN.{set}
use Rattle.std.proofs.lemmas.List.{map-set}
use Rattle.exporter.specs.State.{Export}
use Rattle.scenario_lang.specs.declared.scenario.LinkName.{LinkName}
use Rattle.store_api.specs.Contents.{Contents}
use Rattle.store_api.specs.Calls.{Talk}
use Rattle.store_api.specs.Meaning.{Meaning}
use Rattle.mesh_world.specs.Actions.{Does, changes, speak}
use Rattle.mesh_world.specs.Asking.{done, play}
use Rattle.mesh_world.specs.Goes.{Leads}
use Rattle.mesh_world.specs.Ways.{Way}
use Rattle.mesh_world.specs.World as world
use Rattle.mesh_world.specs.World.{World, at_remote, link_of, remote_at, store_of, with_link}
use Rattle.mesh_world.proofs.Moved.{Moved, contents_is, moved_changed, moved_none}
use Rattle.mesh_world.proofs.Runs.{Goes-as, Goes-trans, Leads-none}
use Rattle.mesh_world.proofs.Talks.{HasLink, Over, held_open, played, with_own}
use Rattle.mesh_remote.specs.Shown.{Speaks}
use Rattle.scenario_replay.specs.Shown.{HasWorld, Makes}
use Rattle.mesh_remote.specs.declared.remote.Remote.{Remote}
use Rattle.scenario_replay.specs.declared.replay.Replay.{Replay}
use Rattle.scenario_replay.proofs.Worlds.{Replaced, element_at, moved_has, remote_within, shown_here, store_open, store_within, store_within_world}

module _ (w : World) (replay : Replay) (stores : List Meaning) (has : HasWorld w replay stores) (remote : ℕ) (lt : remote < length replay.remotes.items) (next : Replay) (r e : Remote) (m d : Meaning) (replaced : Replaced remote r replay next) where
  abbrev was : Remote
  was = get_or replay.remotes.items remote e

  abbrev before : Meaning
  before = get_or stores (store_of remote) d

  abbrev after : List Meaning
  after = set stores (store_of remote) m

  abbrev At : World → Type 0
  At n = HasWorld n next after

  pub leads_spoken : (link : LinkName) → HasLink link → {X : Type 0} (talk : world.Remote → Talk (Unit {0}) X) (ends : X → world.Remote → world.Remote)
      → Speaks link talk ends was r before m → Leads (speak link remote talk ends) w stores after At
  leads_spoken link has_link talk ends speaks =
      let v = remote_at w remote in
      let here = shown_here w replay stores has remote lt d e in
      let a = speaks v here in
      let within = remote_within w replay stores has remote lt in
      let many = store_within_world w replay stores has remote lt in
      let open_ = store_open w replay stores has remote lt d in
      let first : Way = (link_of link v, before) in
      let last : Way = (a.left, m) in
      let left_so : world.Remote = with_link link (λ l. a.left) v in
      let none : Moved remote v before.contents w w = subst (λ (c : Contents). Moved remote v c w w) (contents_is w stores (store_of remote) d has.contents (store_within w replay stores has remote lt)) (moved_none w remote) in
      let begins : Over link has_link w remote within many d first w = subst (λ (x : world.Remote). Moved remote x before.contents w w) (sym (with_own link v)) none in
      Goes-trans (speak link remote talk ends) (changes (at_remote remote (ends a.came))) done w stores after after (Over link has_link w remote within many d last) At
      (Goes-as (play link remote (talk v) (λ came. changes (at_remote remote (ends came)))) (speak link remote talk ends) (changes (at_remote remote (ends a.came))) (changes (at_remote remote (ends a.came))) w stores after (Over link has_link w remote within many d last) (λ os. refl) (λ n os. refl)
      (played link has_link w remote within many d (talk v) (λ came. changes (at_remote remote (ends came))) a.came first last stores w
      (record { within = store_within w replay stores has remote lt; here = refl; opens = open_; shows = has.contents }) begins a.held))
      (λ n shows moved.
      Leads-none (changes (at_remote remote (ends a.came))) n (at_remote remote (ends a.came) n) after At (λ more. refl) shows refl refl
      (moved_has w replay stores has remote lt (at_remote remote (ends a.came) n) next (ends a.came left_so) r e m (held_open (talk v) a.came first last a.held open_) a.shown
      (a.name ∙ sym (ap (λ (s : Export). s.cluster) here.exporter)) replaced
      (moved_changed remote left_so m.contents w n moved (λ c. ends a.came) within many)))

-- what is so after no error, and what follows from that
pub on_ok : {T F : Type 0} (result : Result T F) (P Q : Type 0) → (P → Q) → OnOk result P → OnOk result Q
on_ok (Ok value) P Q so p = so p
on_ok (Err fault) P Q so p = tt

-- over the stores as the code has them
module _ {S : Type 0} (meaning : S → Meaning) (stores : List S) (remote : ℕ) (d s : S) (replay next : Replay) (old r : Remote) (lt : remote < length replay.remotes.items) (is_old : old ≡ get_or replay.remotes.items remote old) (replaced : Replaced remote r replay next) where
  abbrev old_meaning : Meaning
  old_meaning = meaning (get_or stores (store_of remote) d)

  abbrev Made : Does → Type 0
  Made does = Makes does replay next (map meaning stores) (map meaning (set stores (store_of remote) s))

  module _ (link : LinkName) (has_link : HasLink link) {X : Type 0} (talk : world.Remote → Talk (Unit {0}) X) (ends : X → world.Remote → world.Remote) where
    pub makes_spoken : Speaks link talk ends old r old_meaning (meaning s) → Made (speak link remote talk ends)
    makes_spoken speaks w has =
        let there : old_meaning ≡ get_or (map meaning stores) (store_of remote) (meaning d) = element_at meaning stores replay (store_of remote) (omega arith) d w has in
        subst (λ (ms : List Meaning). Leads (speak link remote talk ends) w (map meaning stores) ms (λ n. HasWorld n next ms)) (sym (map-set meaning stores (store_of remote) s))
        (leads_spoken w replay (map meaning stores) has remote lt next r old (meaning s) (meaning d) replaced link has_link talk ends
        (subst (λ (x : Remote). Speaks link talk ends x r (get_or (map meaning stores) (store_of remote) (meaning d)) (meaning s)) is_old
        (subst (λ (x : Meaning). Speaks link talk ends old r x (meaning s)) there speaks)))

    -- as the call says it
    pub done_spoken : {T F : Type 0} (result : Result T F) → OnOk result (Speaks link talk ends old r old_meaning (meaning s)) → OnOk result (Made (speak link remote talk ends))
    done_spoken result says = on_ok result (Speaks link talk ends old r old_meaning (meaning s)) (Made (speak link remote talk ends)) makes_spoken says
