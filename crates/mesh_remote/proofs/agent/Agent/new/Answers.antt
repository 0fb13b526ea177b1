use Rattle.std.proofs.Common.{◌≡◌, ℕ, List, ◌∙◌, ap, subst, sym}
use Rattle.reflector.specs.Reader.{Reader}
use Rattle.relist_merge.specs.View.{Follows}
use Rattle.relist_merge.specs.Viewed.{Viewed}
use Rattle.relist_merge.proofs.CallerLemmas.{follows_new}
use Rattle.store_api.specs.Spans.{unread}
use Rattle.mesh_world.specs.Sources.{state_of}
use Rattle.mesh_remote.proofs.Readers.{source_of}
use Rattle.mesh_remote.proofs.agent.Agent.new.Goals as goal

pub returns : goal.returns
returns c =
    let both = c.in_ok-clone.ensures.cases in
    let copy : c.in_ok-clone.field-0 ≡ c.args.cluster.now = sym both.3 ∙ (both.4 ∙ both.2) in
    λ history. record {
      ranges = ap (λ (r : Reader). r.ranges) c.new.ensures.reader ∙ c.in_ok-ranges.ensures;
      stands = c.new.ensures.stands;
      spans = tt;
      source = ap (λ (v : Viewed). v.source) c.new-2.ensures ∙ ap (λ (k : List ℕ). source_of k) copy;
      follows = subst (λ (v : Viewed). Follows (state_of c.args.cluster.now) history unread v.shown) (sym c.new-2.ensures) (follows_new (state_of c.args.cluster.now) history);
    }
