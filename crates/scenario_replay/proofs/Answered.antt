-- Calls straight on one of the stores, and the program after them.
use Rattle.std.proofs.Common.{◌≡◌, ℕ, suc, ◌+◌, ◌-◌, ◌≤◌, ◌<◌, List, [], ◌∷◌, length, map, get_or, Result, OnOk, refl, ap, sym, ◌∙◌, subst, arith}
use Rattle.std.proofs.Math.ListN.{set}
use Rattle.std.proofs.lemmas.List.{map-set}
use Rattle.flaky_link.specs.Crossed.{IsAsked}
use Rattle.scenario_lang.specs.declared.scenario.RawWrite.{RawWrite}
use Rattle.store_api.specs.Contents.{after_compact}
use Rattle.store_api.specs.Calls.{Request, Called, Answers, to_commit, to_compact, to_tick}
use Rattle.store_api.specs.Meaning.{Meaning}
use Rattle.mesh_world.specs.Actions.{compact, raw_op, tick_from, write_raw}
use Rattle.mesh_world.specs.Asking.{Step, ask, ask_surely, done}
use Rattle.mesh_world.specs.Goes.{Goes, Leads}
use Rattle.scenario_replay.specs.Shown.{HasWorld, Makes}
use Rattle.mesh_world.specs.World.{World, store_of}
use Rattle.scenario_replay.specs.declared.replay.Replay.{Replay}
use Rattle.scenario_replay.proofs.Spoken.{on_ok}
use Rattle.mesh_world.proofs.Calls.{Beside, asks, asks_surely}
use Rattle.mesh_world.proofs.Links.{some_heard}
use Rattle.mesh_world.proofs.Runs.{Goes-as, Goes-none, Goes-trans, Goes-weaken}
use Rattle.scenario_replay.proofs.Worlds.{beside_has, element_at, place_open, place_within, remotes_many}

module _ (w : World) (replay : Replay) (stores : List Meaning) (has : HasWorld w replay stores) (place : ℕ) (le : place ≤ length replay.remotes.items) (d m : Meaning) where
  abbrev old : Meaning
  old = get_or stores place d

  abbrev after : List Meaning
  after = set stores place m

  -- a call, and then whatever follows it
  pub goes_answered : {X : Type 0} (request : Request) (rest : Step X) → IsAsked request old m → Goes (ask place request (λ heard. rest)) rest w stores after (λ n. HasWorld n replay after)
  goes_answered request rest a =
      let some = some_heard a.end m.contents a.told in
      Goes-weaken (ask place request (λ heard. rest)) rest w stores after (Beside place m.contents w) (λ n. HasWorld n replay after) (λ n b. beside_has w replay stores has place le n d m a.called.keeps b)
      (asks stores place d m (place_within w replay stores has place le) w has.contents (place_open w replay stores has place le d).quiet a.called.keeps request (λ heard. rest) a.end some.0 a.called some.1)

  -- a compaction is always made
  pub leads_compacted : (upto : ℕ) → Called (to_compact upto) Answers old m → Leads (compact place upto) w stores after (λ n. HasWorld n replay after)
  leads_compacted upto called =
      Goes-weaken (ask_surely place (to_compact upto)) done w stores after (Beside place m.contents w) (λ n. HasWorld n replay after) (λ n b. beside_has w replay stores has place le n d m called.keeps b)
      (asks_surely stores place d m (place_within w replay stores has place le) w has.contents (place_open w replay stores has place le d).quiet called.keeps (after_compact upto) called)

-- over the stores as the code has them
module _ {S : Type 0} (meaning : S → Meaning) (stores : List S) (replay : Replay) (place : ℕ) (le : place ≤ length replay.remotes.items) (d s : S) where
  abbrev before : Meaning
  before = meaning (get_or stores place d)

  abbrev then_ : List Meaning
  then_ = map meaning (set stores place s)

  -- one call, and then whatever follows it
  pub goes_on_answered : {X : Type 0} (request : Request) (rest : Step X) → IsAsked request before (meaning s) → (w : World) → HasWorld w replay (map meaning stores)
      → Goes (ask place request (λ heard. rest)) rest w (map meaning stores) then_ (λ n. HasWorld n replay then_)
  goes_on_answered request rest answered w has =
      subst (λ (ms : List Meaning). Goes (ask place request (λ heard. rest)) rest w (map meaning stores) ms (λ n. HasWorld n replay ms)) (sym (map-set meaning stores place s))
      (goes_answered w replay (map meaning stores) has place le (meaning d) (meaning s) request rest
      (subst (λ (m : Meaning). IsAsked request m (meaning s)) (element_at meaning stores replay place le d w has) answered))

  abbrev Compacts : ℕ → Type 0
  Compacts upto = Makes (compact place upto) replay replay (map meaning stores) then_

  makes_compacted : (upto : ℕ) → Called (to_compact upto) Answers before (meaning s) → Compacts upto
  makes_compacted upto called w has =
      subst (λ (ms : List Meaning). Leads (compact place upto) w (map meaning stores) ms (λ n. HasWorld n replay ms)) (sym (map-set meaning stores place s))
      (leads_compacted w replay (map meaning stores) has place le (meaning d) (meaning s) upto
      (subst (λ (m : Meaning). Called (to_compact upto) Answers m (meaning s)) (element_at meaning stores replay place le d w has) called))

  pub done_compacted : {T F : Type 0} (upto : ℕ) (result : Result T F) → OnOk result (Called (to_compact upto) Answers before (meaning s)) → OnOk result (Compacts upto)
  done_compacted upto result says = on_ok result (Called (to_compact upto) Answers before (meaning s)) (Compacts upto) (makes_compacted upto) says

-- a write without a lease
module _ {S : Type 0} (meaning : S → Meaning) (stores : List S) (replay : Replay) (remote : ℕ) (lt : remote < length replay.remotes.items) (d s : S) (write : RawWrite) where
  abbrev Writes : Type 0
  Writes = IsAsked (to_commit (raw_op write ∷ [])) (meaning (get_or stores (store_of remote) d)) (meaning s)

  abbrev Wrote : Type 0
  Wrote = Makes (write_raw remote write) replay replay (map meaning stores) (map meaning (set stores (store_of remote) s))

  makes_written : Writes → Wrote
  makes_written answered w has =
      let after = map meaning (set stores (store_of remote) s) in
      let request = to_commit (raw_op write ∷ []) in
      Goes-as (ask (store_of remote) request (λ heard. done)) (write_raw remote write) done done w (map meaning stores) after (λ n. HasWorld n replay after) (λ os. refl) (λ n os. refl)
      (goes_on_answered meaning stores replay (store_of remote) (omega arith) d s request done answered w has)

  pub done_written : {T F : Type 0} (result : Result T F) → OnOk result Writes → OnOk result Wrote
  done_written result says = on_ok result Writes Wrote makes_written says

-- ---- the clocks of the stores, one after another: what was ticked so far is the front
pub ticked_none : {S : Type 0} (meaning : S → Meaning) (stores : List S) (replay : Replay) (many seconds : ℕ) (w : World) → HasWorld w replay (map meaning stores)
    → Goes (tick_from 0 many seconds) (tick_from 0 (many - 0) seconds) w (map meaning stores) (map meaning stores) (λ n. HasWorld n replay (map meaning stores))
ticked_none meaning stores replay many seconds w has =
    let e : many - 0 ≡ many = omega arith in
    subst (λ (k : ℕ). Goes (tick_from 0 many seconds) (tick_from 0 k seconds) w (map meaning stores) (map meaning stores) (λ n. HasWorld n replay (map meaning stores))) (sym e)
    (Goes-none (tick_from 0 many seconds) w (map meaning stores) (λ n. HasWorld n replay (map meaning stores)) has.contents has)

pub ticked_more : {S : Type 0} (meaning : S → Meaning) (first stores : List S) (replay : Replay) (place many seconds : ℕ) (d s : S) → place ≤ length replay.remotes.items → place < many → IsAsked (to_tick seconds) (meaning (get_or stores place d)) (meaning s) → (w : World)
    → Goes (tick_from 0 many seconds) (tick_from place (many - place) seconds) w (map meaning first) (map meaning stores) (λ n. HasWorld n replay (map meaning stores))
    → Goes (tick_from 0 many seconds) (tick_from (place + 1) (many - (place + 1)) seconds) w (map meaning first) (map meaning (set stores place s)) (λ n. HasWorld n replay (map meaning (set stores place s)))
ticked_more meaning first stores replay place many seconds d s le lt answered w front =
    let now = map meaning stores in
    let after = map meaning (set stores place s) in
    let rest = tick_from (place + 1) (many - (place + 1)) seconds in
    let e : many - place ≡ suc (many - (place + 1)) = omega arith in
    Goes-trans (tick_from 0 many seconds) (tick_from place (many - place) seconds) rest w (map meaning first) now after (λ n. HasWorld n replay now) (λ n. HasWorld n replay after) front
    (λ v shows has.
    Goes-as (ask place (to_tick seconds) (λ heard. rest)) (tick_from place (many - place) seconds) rest rest v now after (λ n. HasWorld n replay after) (λ os. ap (λ (k : ℕ). tick_from place k seconds v os) e) (λ n os. refl)
    (goes_on_answered meaning stores replay place le d s (to_tick seconds) rest answered v has))

pub ticked_all : {S : Type 0} (meaning : S → Meaning) (first stores : List S) (replay : Replay) (place many seconds : ℕ) → many ≤ place → many ≡ length replay.remotes.items + 1 → (w : World) → HasWorld w replay (map meaning first)
    → Goes (tick_from 0 many seconds) (tick_from place (many - place) seconds) w (map meaning first) (map meaning stores) (λ n. HasWorld n replay (map meaning stores))
    → Leads (λ v. tick_from 0 (length v.remotes + 1) seconds v) w (map meaning first) (map meaning stores) (λ n. HasWorld n replay (map meaning stores))
ticked_all meaning first stores replay place many seconds le is w has front =
    let none : many - place ≡ 0 = omega arith in
    let all : length w.remotes + 1 ≡ many = ap (λ (k : ℕ). k + 1) (remotes_many w replay (map meaning first) has) ∙ sym is in
    Goes-as (tick_from 0 many seconds) (λ v. tick_from 0 (length v.remotes + 1) seconds v) (tick_from place (many - place) seconds) done w (map meaning first) (map meaning stores) (λ n. HasWorld n replay (map meaning stores))
    (λ os. ap (λ (k : ℕ). tick_from 0 k seconds w os) all) (λ v os. ap (λ (k : ℕ). tick_from place k seconds v os) none) front
