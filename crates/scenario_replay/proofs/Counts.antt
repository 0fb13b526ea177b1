-- The program has as many remotes as before.
use Rattle.std.proofs.Common.{◌≡◌, List, [], ◌++◌, length, drop, ap, sym, ◌∙◌}
use Rattle.scenario_lang.specs.declared.scenario.Action.{Action}
use Rattle.store_api.specs.Meaning.{Meaning}
use Rattle.mesh_world.specs.Actions.{act}
use Rattle.mesh_world.specs.Asking.{Outcome}
use Rattle.mesh_world.specs.World.{World}
use Rattle.mesh_world.proofs.Counts.{act_count}
use Rattle.scenario_replay.specs.Shown.{HasSomeWorld, Makes}
use Rattle.scenario_replay.specs.declared.replay.Replay.{Replay}
use Rattle.scenario_replay.proofs.Places.{as_many}

-- so the program has as many as before
pub many_same : (a : Action) (old new : Replay) (before after : List Meaning) → HasSomeWorld old before → Makes (act a) old new before after → length new.remotes.items ≡ length old.remotes.items
many_same a old new before after has makes =
    let w = has.0 in
    let g = makes w has.1 in
    let goes : act a w (g.used ++ []) ≡ (g.new, []) = g.goes [] in
    sym (as_many (drop 1 g.new.stores) g.new.remotes new.remotes.items g.shows.shown)
    ∙ sym (ap (λ (p : World × List Outcome). length p.0.remotes) goes)
    ∙ act_count a w (g.used ++ [])
    ∙ as_many (drop 1 w.stores) w.remotes old.remotes.items has.1.shown
