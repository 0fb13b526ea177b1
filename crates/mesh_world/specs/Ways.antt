-- A link with the store behind it, and the talks that are held over the two.
-- The form is this project's own.
use Rattle.std.specs.Prelude.{Option}
use Rattle.store_api.specs.Calls.{Request, Ending, Talk, Talked, on_store}
use Rattle.store_api.specs.Meaning.{Meaning}
use Rattle.flaky_link.specs.Crossed.{Crossed}
use Rattle.flaky_link.specs.Link.{Link, linked}
use Rattle.exporter.specs.State.{Export}
use Rattle.exporter.specs.Talks.{ExportTalk}
use Rattle.exporter.specs.declared.fault.ExportFault.{ExportFault}

-- a link, and the store behind it
abbrev pub Way : Type 0
Way = Link × Meaning

abbrev pub meaning_of : Way → Meaning
meaning_of way = linked way.0 way.1

abbrev pub CrossedWay : Way → Way → Request → Ending → Type 0
CrossedWay old new request end = Crossed old.0 new.0 old.1 new.1 request end

-- the talk was held over the link, and this came of it
abbrev pub Held : {X : Type 0} → Talk (Unit {0}) X → Way → Way → X → Type 0
Held talk old new came = Talked (on_store {W = Unit {0}} meaning_of CrossedWay) talk old new came

-- the talk of an exporter was held, and the exporter is what came of it
pub record CameTo (talk : ExportTalk) (s : Export) (old new : Way) : Type 0 where
  pub fault : Option ExportFault
  pub held : Held talk old new (record { exporter = s; fault = fault })
