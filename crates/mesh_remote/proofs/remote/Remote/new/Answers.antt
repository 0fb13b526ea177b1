use Rattle.std.proofs.Common.{◌≡◌, ◌∙◌, ℕ, List, ap, refl, sym}
use Rattle.exporter.specs.State.{new_export}
use Rattle.mesh_remote.proofs.remote.Remote.new.Goals as goal

pub returns : goal.returns
returns c =
    let both = c.in_ok-name.ensures.cases in
    let copy : c.in_ok-name.name ≡ c.args.name.now = sym both.3 ∙ (both.4 ∙ both.2) in
    λ history. record {
      exporter = c.new-2.ensures ∙ ap (λ (k : List ℕ). new_export k c.args.number c.args.seconds) copy;
      number = refl;
      to_exporter = c.new-3.ensures;
      to_agent = c.new-4.ensures;
      agent = c.in_ok-agent.ensures history;
    }
