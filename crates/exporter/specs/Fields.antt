-- The plain data that an exporter's fields stand for.
use Rattle.exporter.specs.declared.exporter.Exporter.TheInside.{Inside}
use Rattle.exporter.specs.State.{Export}

abbrev pub export_of : Inside → Export
export_of e = record {
  cluster = e.cluster;
  number = e.number;
  seconds = e.seconds;
  declared = e.declared;
  queue = e.queue;
  lease = e.lease;
  marked = e.marked;
}
