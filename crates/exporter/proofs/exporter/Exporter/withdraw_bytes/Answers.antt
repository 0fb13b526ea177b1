use Rattle.store_api.specs.History.{in_ranges}
use Rattle.key_paths.specs.Paths.{record_ranges}
use Rattle.key_paths.specs.declared.hop.Hop.TheVariants.{State}
use Rattle.exporter.proofs.Maps.{removed_as}
use Rattle.exporter.proofs.exporter.Exporter.withdraw_bytes.Goals as goal

pub invariant_of-self : goal.invariant_of-self
invariant_of-self c = record {
  stopped = c.self-then-has.invariant.stopped;
  number = c.self-then-has.invariant.number;
  seconds = c.self-then-has.invariant.seconds;
  records = removed_as c.self-then-has.inside.declared c.remove.new.self c.args.key.now (in_ranges (record_ranges c.self-then-has.inside.cluster State)) c.remove.ensures c.self-then-has.invariant.records;
}
