-- A whole scenario: the reports are those of the world that it leads to.
use Rattle.std.proofs.Common.{◌≡◌, ℕ, List, length, drop, Option, None, Some, IfSome, Err, Ok, sym, ◌∙◌, subst}
use Rattle.std.specs.List.{All}
use Rattle.std.proofs.lemmas.List.{length-map}
use Rattle.scenario_lang.specs.Lines.{Said, scenario_of}
use Rattle.scenario_lang.specs.Valid.{IsActionOf}
use Rattle.scenario_lang.specs.declared.kinds.LineFault.{LineFault}
use Rattle.scenario_lang.specs.declared.kinds.Mode.TheVariants as mode
use Rattle.scenario_lang.specs.declared.scenario.Action.{Action}
use Rattle.scenario_lang.specs.declared.scenario.Remote as said
use Rattle.store_api.specs.Meaning.{Meaning}
use Rattle.store_api.specs.Streams.{HoldsFront, HoldsMore}
use Rattle.mesh_world.specs.Actions.{act_all}
use Rattle.mesh_world.specs.Asking.{done}
use Rattle.mesh_world.specs.Goes.{NumberInTurn}
use Rattle.mesh_world.specs.Runs.{NoneFailed, Reports, contents_of}
use Rattle.scenario_replay.specs.Program.{Ran, RanPlainly, WroteFront, WroteSome, OfRefusal, refusal_line}
use Rattle.scenario_replay.specs.Shown.{HasWorld, Makes}
use Rattle.mesh_world.specs.World.{first_world, new_remote, seconds_of}
use Rattle.scenario_replay.specs.declared.replay.Replay.{Replay}
use Rattle.scenario_replay.proofs.Places.{as_many}
use Rattle.mesh_world.proofs.Plainly.{plainly}
use Rattle.mesh_world.proofs.Runs.{Goes-weaken}

first_many : (scenario : Said) (old : Replay) (before : List Meaning) → HasWorld (first_world scenario (contents_of before)) old before → length old.remotes.items ≡ length scenario.remotes
first_many scenario old before has =
    let w = first_world scenario (contents_of before) in
    sym (as_many (drop 1 w.stores) w.remotes old.remotes.items has.shown) ∙ length-map scenario.remotes (λ (r : said.Remote). new_remote r.name r.number (seconds_of scenario))

pub actions_fit : (scenario : Said) (actions : List Action) (old : Replay) (before : List Meaning) → actions ≡ scenario.actions → HasWorld (first_world scenario (contents_of before)) old before → All (IsActionOf (length scenario.remotes)) scenario.actions → All (IsActionOf (length old.remotes.items)) actions
actions_fit scenario actions old before is has fit =
    subst (λ (l : List Action). All (IsActionOf (length old.remotes.items)) l) (sym is) (subst (λ (n : ℕ). All (IsActionOf n) scenario.actions) (sym (first_many scenario old before has)) fit)

pub reports_of : (scenario : Said) (actions : List Action) (old new : Replay) (before after : List Meaning) → actions ≡ scenario.actions → HasWorld (first_world scenario (contents_of before)) old before → Makes (act_all actions) old new before after → Reports scenario before after new.text
reports_of scenario actions old new before after is has makes =
    let first = first_world scenario (contents_of before) in
    let so : Makes (act_all scenario.actions) old new before after = subst (λ (l : List Action). Makes (act_all l) old new before after) is makes in
    Goes-weaken (act_all scenario.actions) done first before after (λ n. HasWorld n new after) (λ w. w.text ≡ new.text) (λ n h. sym h.text) (so first has)

module _ (left : Option (List ℕ)) (scenario : Said) (before after : List Meaning) (held holds : Option (List ℕ)) (text : List ℕ)
    (reads : IfSome left (λ (input : List ℕ). scenario_of mode.Step input ≡ Ok scenario)) (reports : Reports scenario before after text) where
  if_some : (l : Option (List ℕ)) (P Q : List ℕ → Type 0) → ((x : List ℕ) → P x → Q x) → IfSome l P → IfSome l Q
  if_some None P Q so h = tt
  if_some (Some x) P Q so h = so x h

  pub ran : HoldsMore held holds text → IfSome left (λ (input : List ℕ). Ran input before after held holds)
  ran wrote = if_some left (λ (input : List ℕ). scenario_of mode.Step input ≡ Ok scenario) (λ (input : List ℕ). Ran input before after held holds) (λ input is. record { said = scenario; reads = is; text = text; reports = reports; wrote = wrote }) reads

  pub ran_plainly : HoldsMore held holds text → NumberInTurn before → NoneFailed before after → IfSome left (λ (input : List ℕ). RanPlainly input before after held holds)
  ran_plainly wrote numbers still =
      let p = plainly scenario before after text reports numbers still in
      if_some left (λ (input : List ℕ). scenario_of mode.Step input ≡ Ok scenario) (λ (input : List ℕ). RanPlainly input before after held holds) (λ input is. record { said = scenario; reads = is; wrote = subst (λ (t : List ℕ). HoldsMore held holds t) p.0 wrote; stores = p.1 }) reads

  pub wrote_front : HoldsFront held holds text → IfSome left (λ (input : List ℕ). WroteFront input before after held holds)
  wrote_front wrote = if_some left (λ (input : List ℕ). scenario_of mode.Step input ≡ Ok scenario) (λ (input : List ℕ). WroteFront input before after held holds) (λ input is. record { said = scenario; reads = is; text = text; reports = reports; wrote = wrote }) reads

pub refused_front : (left : Option (List ℕ)) (words : List (List ℕ)) (before after : List Meaning) (held holds : Option (List ℕ)) (fault : LineFault)
    → IfSome left (λ (input : List ℕ). scenario_of mode.Step input ≡ Err fault) → HoldsFront held holds (refusal_line fault)
    → IfSome left (λ (input : List ℕ). WroteSome words input before after held holds)
refused_front None words before after held holds fault reads wrote = tt
refused_front (Some input) words before after held holds fault reads wrote = OfRefusal fault reads wrote
