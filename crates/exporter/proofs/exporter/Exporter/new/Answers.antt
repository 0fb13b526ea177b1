use Rattle.store_api.specs.History.{in_ranges}
use Rattle.key_paths.specs.Paths.{record_ranges}
use Rattle.key_paths.specs.declared.hop.Hop.TheVariants.{State}
use Rattle.std.proofs.Common.{arith}
use Rattle.exporter.proofs.Maps.{none_keeps}
use Rattle.exporter.proofs.exporter.Exporter.new.Goals as goal

pub invariant_of-result : goal.invariant_of-result
invariant_of-result c = record { stopped = λ _. c.new-2.ensures; number = omega arith; seconds = c.requires; records = none_keeps c.new.result (in_ranges (record_ranges c.args.cluster State)) c.new.ensures }
