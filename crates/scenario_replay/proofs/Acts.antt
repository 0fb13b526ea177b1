-- What one line of a scenario does, and the lines in order.
use Rattle.std.proofs.Common.{◌≡◌, ℕ, ◌+◌, ◌<◌, List, ◌∷◌, length, drop, get_or, refl, ap, sym, ◌∙◌, subst, add-one}
use Rattle.std.proofs.Math.Seq.{drop-cons}
use Rattle.scenario_lang.specs.declared.scenario.Action.{Action}
use Rattle.store_api.specs.Meaning.{Meaning}
use Rattle.mesh_world.specs.Actions.{Does, act, act_all}
use Rattle.mesh_world.specs.Asking.{Outcome, done}
use Rattle.mesh_world.specs.Goes.{Goes}
use Rattle.scenario_replay.specs.Shown.{HasWorld, Makes}
use Rattle.mesh_world.specs.World.{World}
use Rattle.scenario_replay.specs.declared.replay.Replay.{Replay}
use Rattle.mesh_world.proofs.Runs.{Goes-act, Goes-as, Goes-trans}

-- the action is one that does this
pub act_as : (a b : Action) (does : Does) (old new : Replay) (before after : List Meaning) → a ≡ b → ((w : World) (os : List Outcome) → act b w os ≡ does w os) → Makes does old new before after → Makes (act a) old new before after
act_as a b does old new before after is same makes =
    subst (λ (x : Action). Makes (act x) old new before after) (sym is)
    (λ w has. Goes-as does (act b) done done w before after (λ n. HasWorld n new after) (same w) (λ v os. refl) (makes w has))

-- the next of the actions that are left
pub act_next : (actions : List Action) (i : ℕ) (a : Action) (w : World) (old mid new : Replay) (before now after : List Meaning) → i < length actions → a ≡ get_or actions i a
    → Goes (act_all actions) (act_all (drop i actions)) w before now (λ n. HasWorld n mid now) → Makes (act a) mid new now after
    → Goes (act_all actions) (act_all (drop (i + 1) actions)) w before after (λ n. HasWorld n new after)
act_next actions i a w old mid new before now after lt is goes makes =
    let rest = drop (i + 1) actions in
    let first : drop i actions ≡ get_or actions i a ∷ rest = drop-cons actions i a lt ∙ rw add-one refl in
    let cut : drop i actions ≡ a ∷ rest = first ∙ ap (λ (x : Action). x ∷ rest) (sym is) in
    Goes-trans (act_all actions) (act_all (drop i actions)) (act_all rest) w before now after (λ n. HasWorld n mid now) (λ n. HasWorld n new after) goes
    (λ v shows has. subst (λ (l : List Action). Goes (act_all l) (act_all rest) v now after (λ n. HasWorld n new after)) (sym cut) (Goes-act a rest v now after (λ n. HasWorld n new after) (makes v has)))
