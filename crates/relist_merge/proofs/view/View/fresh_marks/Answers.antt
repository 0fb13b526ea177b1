use Rattle.std.proofs.Common.{◌∙◌, ap, get_or, List, ℕ, ◌∷◌, []}
use Rattle.mesh_text.specs.declared.kind.Kind.TheVariants.{Nodes, Services, Identities, Addresses}
use Rattle.relist_merge.specs.Shown.{is_fresh}
use Rattle.relist_merge.specs.Sight.{viewed}
use Rattle.relist_merge.specs.Viewed.{Source}
use Rattle.relist_merge.proofs.Viewing.{mark-fresh}
use Rattle.relist_merge.proofs.view.View.fresh_marks.Goals as goal

pub returns : goal.returns
returns c =
    let s : Source = (viewed c.args.self.now).source in
    let n = c.args.self.now.rows.fresh in
    let rows = c.args.self.now.rows.map.entries in
    let first = c.index-keys-0.is ∙ ap (λ (ks : List (List ℕ)). get_or ks 0 c.index-keys-0.result) c.requires in
    let second = c.index-keys-1.is ∙ ap (λ (ks : List (List ℕ)). get_or ks 1 c.index-keys-1.result) c.requires in
    let third = c.index-keys-2.is ∙ ap (λ (ks : List (List ℕ)). get_or ks 2 c.index-keys-2.result) c.requires in
    let fourth = c.index-keys-3.is ∙ ap (λ (ks : List (List ℕ)). get_or ks 3 c.index-keys-3.result) c.requires in
    let nodes = c.is_fresh.ensures ∙ ap (is_fresh n rows) first ∙ mark-fresh s n rows Nodes in
    let services = c.is_fresh-2.ensures ∙ ap (is_fresh n rows) second ∙ mark-fresh s n rows Services in
    let identities = c.is_fresh-3.ensures ∙ ap (is_fresh n rows) third ∙ mark-fresh s n rows Identities in
    let addresses = c.is_fresh-4.ensures ∙ ap (is_fresh n rows) fourth ∙ mark-fresh s n rows Addresses in
    λ i. nodes i ∷ services i ∷ identities i ∷ addresses i ∷ []
