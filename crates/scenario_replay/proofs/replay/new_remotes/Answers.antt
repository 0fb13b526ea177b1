use Rattle.std.proofs.Common.{◌<◌, ◌∙◌, ◌∷◌, ◌++◌, [], List, length, take, ap, sym, subst, arith, get_or}
use Rattle.std.proofs.lemmas.List.{take_more}
use Rattle.scenario_lang.specs.declared.scenario.Remote as said
use Rattle.scenario_replay.specs.Shown.{AreNew}
use Rattle.mesh_remote.specs.declared.remote.Remote.{Remote}
use Rattle.scenario_replay.proofs.Beginnings.{new_push}
use Rattle.scenario_replay.proofs.replay.new_remotes.Goals as goal

pub loop-remote-preserved : goal.loop-remote-preserved
loop-remote-preserved c =
    let all = c.args.scenario.now.remotes in
    let i = c.loop-remote.remote-index in
    let s = c.remote-item.result in
    let items = c.as_slice-remote-items.ensures in
    let is = c.remote-item.is ∙ ap (λ (l : List said.Remote). get_or l i s) items in
    let lt : i < length all = omega (arith, c.loop-remote-test.true, c.loop-remote.auto.remote-index-end, ap length items) in
    let cut = take_more all i s lt ∙ ap (λ (x : said.Remote). take i all ++ x ∷ []) (sym is) in
    subst (λ (ss : List said.Remote). AreNew c.args.seconds ss c.push.new.self.items) (sym cut)
    (subst (λ (rs : List Remote). AreNew c.args.seconds (take i all ++ s ∷ []) rs) (sym c.in_ok-push.ensures.items)
    (new_push c.args.seconds (take i all) c.loop-remote.remotes.items s c.in_ok-new.field-0 c.loop-remote.invariant c.in_ok-new.ensures))
