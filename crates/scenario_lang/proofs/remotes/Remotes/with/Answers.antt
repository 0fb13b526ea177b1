use Rattle.std.proofs.Common.{◌≡◌, ◌∙◌, sym, subst, None, position, List}
use Rattle.std.proofs.lemmas.List.{map_push}
use Rattle.mesh_base.specs.Order.{same_bytes}
use Rattle.scenario_lang.specs.declared.scenario.Remote.{Remote}
use Rattle.scenario_lang.specs.Clusters.{names_of}
use Rattle.scenario_lang.proofs.Names.{found_with, names_length}
use Rattle.scenario_lang.proofs.remotes.Remotes.with.Goals as goal

pub invariant_of-result : goal.invariant_of-result
invariant_of-result c q =
    let remotes = c.self.inside.items in
    let name = c.args.remote.name in
    let unused = subst (λ (rs : List Remote). position (same_bytes name) (names_of rs) ≡ None) (sym c.self.view_is) c.requires in
    let both = c.in_ok-clone.ensures.cases in
    let copy : c.in_ok-clone.field-0 ≡ name = sym both.3 ∙ (both.4 ∙ both.2) in
    let found = found_with (names_of remotes) name (c.in_ok-clone.field-0) copy unused q _ (c.self.invariant q) in
    let got = c.in_ok-insert.ensures.updates.0 q in
    let place = c.len.ensures in
    rw (c.in_ok-push.ensures.ok, map_push (λ (r : Remote). r.name) remotes c.args.remote) (rw (place, sym (names_length remotes)) at got ∙ found)
