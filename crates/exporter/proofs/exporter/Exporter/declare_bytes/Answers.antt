use Rattle.std.proofs.Common.{◌≡◌, ◌∙◌, ℕ, List, ap}
use Rattle.std.specs.Bool.{IsTrue}
use Rattle.store_api.specs.History.{in_ranges}
use Rattle.key_paths.specs.Paths.{record_ranges}
use Rattle.key_paths.specs.declared.hop.Hop.TheVariants.{State}
use Rattle.exporter.specs.State.{Export}
use Rattle.exporter.proofs.Maps.{set_as}
use Rattle.exporter.proofs.Steps.{waiting_cluster}
use Rattle.exporter.proofs.exporter.Exporter.declare_bytes.Goals as goal

pub invariant_of-self : goal.invariant_of-self
invariant_of-self c =
    let cluster : c.self.inside.cluster ≡ c.args.self.now.cluster = ap (λ (s : Export). s.cluster) (c.self.view_is ∙ c.in_ok-added.ensures.queue) ∙ waiting_cluster c.args.key c.args.self.now in
    let here : IsTrue (in_ranges (record_ranges c.self.inside.cluster State) c.args.key) = ap (λ (x : List ℕ). in_ranges (record_ranges x State) c.args.key) cluster ∙ c.requires in
    record {
      stopped = c.self.invariant.stopped;
      number = c.self.invariant.number;
      seconds = c.self.invariant.seconds;
      records = set_as c.self.inside.declared c.set.new.self c.args.key c.args.value (in_ranges (record_ranges c.self.inside.cluster State)) c.in-Ok.ensures.set here c.self.invariant.records;
    }
