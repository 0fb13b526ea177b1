-- One call on the store of a remote through a link.
use Rattle.std.proofs.Common.{◌≡◌, ◌≢◌, ℕ, ◌<◌, List, [], length, map, get_or, refl, ap, sym, ◌∙◌, subst, arith, true, inl, inr}
use Rattle.std.proofs.Math.ListN.{set}
use Rattle.std.proofs.Math.Seq.{map-set_same}
use Rattle.std.proofs.lemmas.List.{map-set, set-get_or}
use Rattle.flaky_link.specs.Crossed.{Crossed, CrossedBy, IsAsked}
use Rattle.flaky_link.specs.Link.{Link, fate, failed, passed}
use Rattle.flaky_link.specs.declared.state.Fate.{Fate}
use Rattle.flaky_link.specs.declared.state.Fate.TheVariants.{Passes, FailsBefore, FailsAfter}
use Rattle.scenario_lang.specs.declared.scenario.LinkName.{LinkName}
use Rattle.scenario_lang.specs.declared.scenario.LinkName.TheVariants as link
use Rattle.store_api.specs.Contents.{Contents}
use Rattle.store_api.specs.Calls.{Request, Ending, Answers, Refuses, WantsMemory, IsLost, Called, Heard, Answered, Refused, Missed, Hears}
use Rattle.store_api.specs.Meaning.{Meaning}
use Rattle.mesh_world.specs.Asking.{Step, ask, ask_by, ask_through, at_link}
use Rattle.mesh_world.specs.Goes.{Goes, NumberInTurn}
use Rattle.mesh_world.specs.World.{Remote, World, link_of, remote_at, store_of, with_link}
use Rattle.mesh_world.proofs.Calls.{Beside, asks}
use Rattle.mesh_world.proofs.Moved.{Went}
use Rattle.mesh_world.proofs.Runs.{Goes-as, Goes-from, Goes-weaken}

-- a link that is changed is one that is replaced
replaced : (link : LinkName) (change : Link → Link) (left : Link) (r : Remote) → left ≡ change (link_of link r) → with_link link change r ≡ with_link link (λ l. left) r
replaced link.Exporter change left r e = rw e refl
replaced link.Agent change left r e = rw e refl
replaced link.Remote change left r e = refl
replaced link.Local change left r e = refl

-- something is heard of a call that did not want memory
pub some_heard : (end : Ending) (c : Contents) → end ≢ WantsMemory → (heard : Heard) × Hears end c heard
some_heard Answers c told = (Answered c, refl)
some_heard Refuses c told = (Refused c, refl)
some_heard WantsMemory c told = absurd (told refl)
some_heard IsLost c told = (Missed, refl)

module _ (link : LinkName) (remote : ℕ) (request : Request) (stores : List Meaning) (d new : Meaning) (lt : store_of remote < length stores) (w : World) (shows : w.stores ≡ map (λ (m : Meaning). m.contents) stores) where
  abbrev old : Meaning
  old = get_or stores (store_of remote) d

  abbrev before : Link
  before = link_of link (remote_at w remote)

  module _ (quiet : old.quiet ≡ true) {X : Type 0} (next : Heard → Step X) (left : Link) where
    -- a call that reached the store, from the world whose link is changed already
    reached : (change : Link → Link) (goes_on : Heard → Step X) (end : Ending) (heard : Heard) → left ≡ change before → Called request end old new → Hears end new.contents heard
        → Goes (λ v. ask (store_of remote) request goes_on (at_link link remote change v)) (goes_on heard) w stores (set stores (store_of remote) new) (Went link remote left new.contents w)
    reached change goes_on end heard e called hears =
        Goes-from (λ v. ask (store_of remote) request goes_on (at_link link remote change v)) (ask (store_of remote) request goes_on) (goes_on heard) w (at_link link remote change w) stores (set stores (store_of remote) new) (Went link remote left new.contents w) refl refl (λ os. refl)
        (Goes-weaken (ask (store_of remote) request goes_on) (goes_on heard) (at_link link remote change w) stores (set stores (store_of remote) new) (Beside (store_of remote) new.contents (at_link link remote change w)) (Went link remote left new.contents w)
        (λ n b. record { local = b.local; stores = b.stores; remotes = b.remotes ∙ ap (set w.remotes remote) (replaced link change left (remote_at w remote) e); reports = b.reports; text = b.text })
        (asks stores (store_of remote) d new lt (at_link link remote change w) shows quiet called.keeps request goes_on end heard called hears))

    -- a store that no call reached is as before
    sets : new ≡ old → set stores (store_of remote) new ≡ stores
    sets same = rw same (set-get_or stores (store_of remote) d)

    stays : new ≡ old → w.stores ≡ map (λ (m : Meaning). m.contents) (set stores (store_of remote) new)
    stays same = shows ∙ sym (ap (map (λ (m : Meaning). m.contents)) (sets same))

    left_is : new ≡ old → w.stores ≡ set w.stores (store_of remote) new.contents
    left_is same = rw shows (sym (map-set_same (λ (m : Meaning). m.contents) stores (store_of remote) new d (ap (λ (m : Meaning). m.contents) same)) ∙ map-set (λ (m : Meaning). m.contents) stores (store_of remote) new)

    -- a call that did not reach it
    unreached : new ≡ old → left ≡ failed before → Goes (λ v os. next Missed (at_link link remote failed v) os) (next Missed) w stores (set stores (store_of remote) new) (Went link remote left new.contents w)
    unreached same e = record {
      used = [];
      new = at_link link remote failed w;
      goes = λ more. refl;
      stores = stays same;
      lost = omega arith;
      asked = omega arith;
      tallies = record { lost = λ i. rw (sets same) (omega arith); asked = λ i. rw (sets same) (omega arith) };
      in_turn = λ numbers. (tt, subst NumberInTurn (sym (sets same)) numbers);
      shows = record { local = refl; stores = left_is same; remotes = ap (set w.remotes remote) (replaced link failed left (remote_at w remote) e); reports = refl; text = refl };
    }

    -- the store was asked, and its answer was lost
    asked_behind : left ≡ failed before → IsAsked request old new → Goes (λ v. ask (store_of remote) request (λ heard. next Missed) (at_link link remote failed v)) (next Missed) w stores (set stores (store_of remote) new) (Went link remote left new.contents w)
    asked_behind e asked =
        let some = some_heard asked.end new.contents asked.told in
        reached failed (λ heard. next Missed) asked.end some.0 e asked.called some.1

    -- by what the link does to the call
    by_fate : (f : Fate) (end : Ending) (heard : Heard) → CrossedBy f before left old new request end → Hears end new.contents heard
        → Goes (λ v. ask_by f link remote request next v) (next heard) w stores (set stores (store_of remote) new) (Went link remote left new.contents w)
    by_fate Passes end heard c hears = reached passed next end heard c.0 c.1 hears
    by_fate FailsBefore end heard c hears =
        let missed : heard ≡ Missed = subst (λ (e : Ending). Hears e new.contents heard) c.0 hears in
        subst (λ (h : Heard). Goes (λ v os. next Missed (at_link link remote failed v) os) (next h) w stores (set stores (store_of remote) new) (Went link remote left new.contents w)) (sym missed) (unreached c.2 c.1)
    by_fate FailsAfter end heard (inl c) hears = absurd (subst (λ (e : Ending). Hears e new.contents heard) c.0 hears)
    by_fate FailsAfter end heard (inr c) hears =
        let missed : heard ≡ Missed = subst (λ (e : Ending). Hears e new.contents heard) c.0 hears in
        subst (λ (h : Heard). Goes (λ v. ask (store_of remote) request (λ x. next Missed) (at_link link remote failed v)) (next h) w stores (set stores (store_of remote) new) (Went link remote left new.contents w)) (sym missed) (asked_behind c.1 c.2)

    -- the call, through the link
    pub through : (end : Ending) (heard : Heard) → Crossed before left old new request end → Hears end new.contents heard → Goes (λ v. ask_through link remote request next v) (next heard) w stores (set stores (store_of remote) new) (Went link remote left new.contents w)
    through end heard crossed hears =
        Goes-as (λ v. ask_by (fate before) link remote request next v) (λ v. ask_through link remote request next v) (next heard) (next heard) w stores (set stores (store_of remote) new) (Went link remote left new.contents w) (λ os. refl) (λ v os. refl) (by_fate (fate before) end heard crossed hears)
