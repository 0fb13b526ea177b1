-- Where no call is lost, a run is a function of the scenario and the first contents.
use Rattle.std.proofs.Common.{◌≡◌, ℕ, zero, suc, ◌+◌, List, [], ◌∷◌, length, Bool, if◌then◌else◌, refl, ap, sym, ◌∙◌, subst, arith, inl, inr}
use Rattle.std.proofs.lemmas.Bool.Decides.{eqb_tells}
use Rattle.std.proofs.lemmas.List.{append-nil}
use Rattle.flaky_link.specs.Link.{fate, failed, passed}
use Rattle.flaky_link.specs.declared.state.Fate.{Fate}
use Rattle.flaky_link.specs.declared.state.Fate.TheVariants.{Passes, FailsBefore, FailsAfter}
use Rattle.exporter.specs.State.{after_stop, turns}
use Rattle.exporter.specs.Talks.{export_talk, keep_talk, start_talk}
use Rattle.reflector.specs.Talks.{turn_talk}
use Rattle.scenario_lang.specs.Lines.{Said}
use Rattle.scenario_lang.specs.declared.scenario.Action.{Action}
use Rattle.scenario_lang.specs.declared.scenario.Action.TheVariants as action
use Rattle.scenario_lang.specs.declared.scenario.LinkName.{LinkName}
use Rattle.scenario_lang.specs.declared.scenario.LinkName.TheVariants as link
use Rattle.store_api.specs.Calls.{Request, Heard, Missed, Talk, Ends, Asks, to_commit, to_compact, to_tick}
use Rattle.store_api.specs.Meaning.{Meaning}
use Rattle.mesh_world.specs.Actions.{Does, act, act_all, at_exporter, came_to, changes, most, place_of, raw_op, reported, restarted, run, speak, tick_from, when_of, with_failure, with_way}
use Rattle.mesh_world.specs.Asking.{Outcome, Made, LostBefore, LostAfter, Next, answer_of, done, ask, ask_by, ask_surely, ask_through, at_link, counted, made_of, play}
use Rattle.mesh_world.specs.Goes.{AreNext, NumberInTurn, losses, occurrences}
use Rattle.mesh_world.specs.Runs.{NoneFailed, Reports, contents_of}
use Rattle.mesh_world.specs.Records.{address_key, address_of, declaring, declaring_node, identity_key, identity_of, withdrawing}
use Rattle.mesh_world.specs.World.{Remote, World, at_remote, at_store, contents_at, first_world, link_of, remote_at, store_of, with_reader}

-- every call was made, each grant with the number after the last
abbrev AllMade : List Outcome → Type 0
AllMade [] = Unit {0}
AllMade (Made number ∷ os) = (number ≡ Next) × AllMade os
AllMade (LostBefore ∷ os) = ⊥
AllMade (LostAfter number ∷ os) = ⊥

all_made : (os : List Outcome) → losses os ≡ 0 → AreNext os → AllMade os
all_made [] none next = tt
all_made (Made number ∷ os) none next = (next.0, all_made os none next.1)
all_made (LostBefore ∷ os) none next = absurd (omega (arith, none))
all_made (LostAfter number ∷ os) none next = absurd (omega (arith, none))

-- the second went the same way without outcomes: its world differs in the counts of calls alone
record Alike (x y : World × List Outcome) : Type 0 where
  made : AllMade x.1
  none : y.1 ≡ []
  asked : List ℕ
  lost : List ℕ
  same : y.0 ≡ record x.0 { asked = asked; lost = lost }

-- a step does the same without outcomes as with such in which every call is made
abbrev IsPlain : Does → Type 0
IsPlain does = (w : World) (a l : List ℕ) (os : List Outcome) → AllMade os → Alike (does w os) (does (record w { asked = a; lost = l }) [])

done_plain : IsPlain done
done_plain w a l os made = record { made = made; none = refl; asked = a; lost = l; same = refl }

-- a change that neither reads nor writes the counts of calls
changes_plain : (change : World → World) → ((w : World) (a l : List ℕ) → change (record w { asked = a; lost = l }) ≡ record (change w) { asked = a; lost = l }) → IsPlain (changes change)
changes_plain change same w a l os made = record { made = made; none = refl; asked = a; lost = l; same = same w a l }

ask_plain : (place : ℕ) (request : Request) (next : Heard → Does) → ((heard : Heard) → IsPlain (next heard)) → IsPlain (ask place request next)
ask_plain place request next plain w a l [] made = plain (answer_of request Next (contents_at w place)) (at_store place (made_of request Next) w) a l [] tt
ask_plain place request next plain w a l (Made number ∷ more) made =
    rw made.0 (plain (answer_of request Next (contents_at w place)) (counted place (at_store place (made_of request Next) w)) a l more made.1)
ask_plain place request next plain w a l (LostBefore ∷ more) made = absurd made
ask_plain place request next plain w a l (LostAfter number ∷ more) made = absurd made

surely_plain : (place : ℕ) (request : Request) → IsPlain (ask_surely place request)
surely_plain place request w a l [] made = record { made = tt; none = refl; asked = a; lost = l; same = refl }
surely_plain place request w a l (Made number ∷ more) made = record { made = made.1; none = refl; asked = a; lost = l; same = refl }
surely_plain place request w a l (LostBefore ∷ more) made = absurd made
surely_plain place request w a l (LostAfter number ∷ more) made = absurd made

ask_by_plain : (f : Fate) (name : LinkName) (remote : ℕ) (request : Request) (next : Heard → Does) → ((heard : Heard) → IsPlain (next heard)) → IsPlain (ask_by f name remote request next)
ask_by_plain Passes name remote request next plain w a l os made = ask_plain (store_of remote) request next plain (at_link name remote passed w) a l os made
ask_by_plain FailsBefore name remote request next plain w a l os made = plain Missed (at_link name remote failed w) a l os made
ask_by_plain FailsAfter name remote request next plain w a l os made = ask_plain (store_of remote) request (λ heard. next Missed) (λ heard. plain Missed) (at_link name remote failed w) a l os made

through_plain : (name : LinkName) (remote : ℕ) (request : Request) (next : Heard → Does) → ((heard : Heard) → IsPlain (next heard)) → IsPlain (ask_through name remote request next)
through_plain name remote request next plain w a l os made = ask_by_plain (fate (link_of name (remote_at w remote))) name remote request next plain w a l os made

play_plain : {X : Type 0} (name : LinkName) (remote : ℕ) (talk : Talk (Unit {0}) X) (rest : X → Does) → ((came : X) → IsPlain (rest came)) → IsPlain (play name remote talk rest)
play_plain name remote (Ends came) rest plain w a l os made = plain came w a l os made
play_plain name remote (Asks way request next) rest plain w a l os made = through_plain name remote request (λ heard. play name remote (next heard) rest) (λ heard. play_plain name remote (next heard) rest plain) w a l os made

speak_plain : {X : Type 0} (name : LinkName) (remote : ℕ) (talk : Remote → Talk (Unit {0}) X) (ends : X → Remote → Remote) → IsPlain (speak name remote talk ends)
speak_plain name remote talk ends w a l os made =
    play_plain name remote (talk (remote_at w remote)) (λ came. changes (at_remote remote (ends came))) (λ came. changes_plain (at_remote remote (ends came)) (λ v b m. refl)) w a l os made

tick_plain : (place n seconds : ℕ) → IsPlain (tick_from place n seconds)
tick_plain place zero seconds w a l os made = done_plain w a l os made
tick_plain place (suc n) seconds w a l os made = ask_plain place (to_tick seconds) (λ heard. tick_from (place + 1) n seconds) (λ heard. tick_plain (place + 1) n seconds) w a l os made

act_plain : (x : Action) → IsPlain (act x)
act_plain (action.Node remote name addresses) w a l os made = changes_plain (at_exporter remote (declaring_node name addresses)) (λ v b m. refl) w a l os made
act_plain (action.Identity remote identity labels) w a l os made = changes_plain (at_exporter remote (declaring (identity_key identity) (identity_of labels))) (λ v b m. refl) w a l os made
act_plain (action.Address remote ip identity host pod) w a l os made = changes_plain (at_exporter remote (declaring (address_key ip) (address_of ip identity host pod))) (λ v b m. refl) w a l os made
act_plain (action.Withdraw remote withdrawn) w a l os made = changes_plain (at_exporter remote (withdrawing withdrawn)) (λ v b m. refl) w a l os made
act_plain (action.Start remote) w a l os made = speak_plain link.Exporter remote (λ r. start_talk r.exporter) came_to w a l os made
act_plain (action.Stop remote) w a l os made = changes_plain (at_exporter remote after_stop) (λ v b m. refl) w a l os made
act_plain (action.Keep remote) w a l os made = speak_plain link.Exporter remote (λ r. keep_talk r.exporter) came_to w a l os made
act_plain (action.Export remote count) w a l os made = speak_plain link.Exporter remote (λ r. export_talk (turns (most count) r.exporter) r.exporter) came_to w a l os made
act_plain (action.Raw remote write) w a l os made = ask_plain (store_of remote) (to_commit (raw_op write ∷ [])) (λ heard. done) (λ heard. done_plain) w a l os made
act_plain (action.Tick seconds) w a l os made = tick_plain 0 (length w.remotes + 1) seconds w a l os made
act_plain (action.Compact which upto) w a l os made = surely_plain (place_of which) (to_compact upto) w a l os made
act_plain (action.Link remote name up) w a l os made = changes_plain (at_link name remote (with_way up)) (λ v b m. refl) w a l os made
act_plain (action.Fail remote name skip moment) w a l os made = changes_plain (at_link name remote (with_failure skip (when_of moment))) (λ v b m. refl) w a l os made
act_plain (action.Turn remote count) w a l os made = speak_plain link.Agent remote (λ r. turn_talk (most count) r.reader) (λ read. with_reader (λ before. read)) w a l os made
act_plain action.RestartAgent w a l os made = changes_plain restarted (λ v b m. refl) w a l os made
act_plain action.Report w a l os made = changes_plain reported (λ v b m. refl) w a l os made

act_all_plain : (actions : List Action) → IsPlain (act_all actions)
act_all_plain [] w a l os made = done_plain w a l os made
act_all_plain (x ∷ actions) w a l os made =
    let first = act_plain x w a l os made in
    rw (first.none, first.same) (act_all_plain actions (act x w os).0 first.asked first.lost (act x w os).1 first.made)

-- no place stands in a list that is empty
none_in : (places : List ℕ) → ((i : ℕ) → occurrences i places ≡ 0) → places ≡ []
none_in [] none = refl
none_in (p ∷ places) none = elim (eqb_tells p p) [
  | inl h ↦ absurd (omega (arith, subst (λ (b : Bool). (if b then 1 else 0) + occurrences p places ≡ 0) h.0 (none p)))
  | inr h ↦ absurd (h.1 refl)
]

-- the reports of a run in which no store failed
pub plainly : (said : Said) (before after : List Meaning) (text : List ℕ) → Reports said before after text → NumberInTurn before → NoneFailed before after
    → (text ≡ (run said (contents_of before) []).0.text) × (contents_of after ≡ (run said (contents_of before) []).0.stores)
plainly said before after text r numbers still =
    let w = first_world said (contents_of before) in
    let none : r.new.lost ≡ [] = none_in r.new.lost (λ i. omega (arith, r.tallies.lost i, still i)) in
    let made : AllMade r.used = all_made r.used (omega (arith, r.lost, ap length none)) (r.in_turn numbers).0 in
    let same = act_all_plain said.actions w [] [] r.used made in
    let end : act_all said.actions w r.used ≡ (r.new, []) = ap (act_all said.actions w) (sym (append-nil r.used)) ∙ r.goes [] in
    let plain : (act_all said.actions w []).0 ≡ record r.new { asked = same.asked; lost = same.lost } = same.same ∙ ap (λ (p : World × List Outcome). record p.0 { asked = same.asked; lost = same.lost }) end in
    (sym r.shows ∙ sym (ap (λ (v : World). v.text) plain), sym r.stores ∙ sym (ap (λ (v : World). v.stores) plain))
