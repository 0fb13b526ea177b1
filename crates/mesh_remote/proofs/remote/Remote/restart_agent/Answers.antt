use Rattle.std.proofs.Common.{◌∙◌, ℕ, List, [], ap, subst}
use Rattle.key_paths.specs.declared.hop.Hop.TheVariants.{State}
use Rattle.record_check.specs.declared.limit.Limit.TheVariants.{Small}
use Rattle.exporter.specs.State.{Export}
use Rattle.store_api.specs.Spans.{unread}
use Rattle.mesh_remote.specs.Reads.{IsRead}
use Rattle.mesh_remote.proofs.remote.Remote.restart_agent.Goals as goal

pub returns-clause-changes : goal.returns-clause-changes
returns-clause-changes c = λ history w shown. record {
  exporter = shown.exporter;
  number = shown.number;
  to_exporter = shown.to_exporter;
  to_agent = shown.to_agent;
  agent = subst (λ (k : List ℕ). IsRead k history unread c.in_ok-self.field-0) (c.cluster.ensures ∙ ap (λ (s : Export). s.cluster) shown.exporter) (c.in_ok-self.ensures history);
}

pub returns-clause-own : goal.returns-clause-own
returns-clause-own c = (c.in_ok-self.ensures []).source ∙ ap (λ (k : List ℕ). record { cluster = k; hop = State; limit = Small }) c.cluster.ensures
