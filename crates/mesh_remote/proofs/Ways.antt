-- What an exporter and a reader that were handed a link say of the link and of the store behind it.
use Rattle.std.proofs.Common.{◌≡◌, ◌≢◌, ℕ, zero, suc, Option, None, Some, Result, Err, refl, sym, ap, subst}
use Rattle.store_api.specs.Calls.{Request, Ending, Heard, Answered, Refused, Missed, HeardOf, Talk, Ends, Asks, Talked, on_store}
use Rattle.store_api.specs.Meaning.{Meaning}
use Rattle.exporter.specs.State.{Export, after_item}
use Rattle.exporter.specs.Talks.{Came, ExportTalk, export_talk, keep_talk, keep_under, refused_under, start_talk}
use Rattle.exporter.specs.declared.fault.ExportFault.{ExportFault}
use Rattle.exporter.specs.declared.fault.ExportFault.TheVariants.{Memory}
use Rattle.mesh_world.specs.Ways.{CameTo, CrossedWay, Held, Way, meaning_of}

-- another fault is another answer
pub other_answer : {T : Type 0} (result : Result T ExportFault) (fault : ExportFault) → result ≡ Err fault → fault ≢ Memory → result ≢ Err Memory
other_answer result fault is other same = other cc

-- a store that is seen as a link with what is behind it
module _ {V : Type 0} (meaning : V → Meaning) (crossed : V → V → Request → Ending → Type 0) (way : V → Way)
    (each : (request : Request) (old new : V) (heard : Heard) → HeardOf meaning crossed request old new heard → HeardOf meaning_of CrossedWay request (way old) (way new) heard) where
  pub held : {X : Type 0} (talk : Talk (Unit {0}) X) (old new : V) (came : X) → Talked (on_store {W = Unit {0}} meaning crossed) talk old new came → Held talk (way old) (way new) came
  held (Ends end) old new came talked = (ap way talked.0, talked.1)
  held (Asks at request next) old new came (heard, mid, call, more) = (heard, way mid, each request old mid heard call, held (next heard) mid new came more)

  pub came_to : (talk : ExportTalk) (s : Export) (fault : Option ExportFault) (old new : V) → Talked (on_store {W = Unit {0}} meaning crossed) talk old new (record { exporter = s; fault = fault }) → CameTo talk s (way old) (way new)
  came_to talk s fault old new talked = record { fault = fault; held = held talk old new (record { exporter = s; fault = fault }) talked }

-- the talks of an exporter leave it one of its cluster
pub record IsOfSame (s s' : Export) : Type 0 where
  pub cluster : s'.cluster ≡ s.cluster
  pub number : s'.number ≡ s.number

itself : (s : Export) → IsOfSame s s
itself s = record { cluster = refl; number = refl }

pub start_same : (s : Export) (came : Came) (old new : Way) → Held (start_talk s) old new came → IsOfSame s came.exporter
start_same s came old new (Answered c, mid, call, ends) = subst (λ (x : Came). IsOfSame s x.exporter) (sym ends.1) (record { cluster = refl; number = refl })
start_same s came old new (Refused c, mid, call, ends) = subst (λ (x : Came). IsOfSame s x.exporter) (sym ends.1) (itself s)
start_same s came old new (Missed, mid, call, ends) = subst (λ (x : Came). IsOfSame s x.exporter) (sym ends.1) (itself s)

keep_same_under : (lease : Option ℕ) (s : Export) (came : Came) (old new : Way) → Held (keep_under lease s) old new came → IsOfSame s came.exporter
keep_same_under None s came old new ends = subst (λ (x : Came). IsOfSame s x.exporter) (sym ends.1) (itself s)
keep_same_under (Some lease) s came old new (Answered c, mid, call, ends) = subst (λ (x : Came). IsOfSame s x.exporter) (sym ends.1) (itself s)
keep_same_under (Some lease) s came old new (Refused c, mid, call, ends) = subst (λ (x : Came). IsOfSame s x.exporter) (sym ends.1) (record { cluster = refl; number = refl })
keep_same_under (Some lease) s came old new (Missed, mid, call, ends) = subst (λ (x : Came). IsOfSame s x.exporter) (sym ends.1) (itself s)

pub keep_same : (s : Export) (came : Came) (old new : Way) → Held (keep_talk s) old new came → IsOfSame s came.exporter
keep_same s came old new h = keep_same_under s.lease s came old new h

refused_same : (lease : Option ℕ) (s : Export) (came : Came) (old new : Way) → Held (refused_under lease s) old new came → IsOfSame s came.exporter
refused_same None s came old new ends = subst (λ (x : Came). IsOfSame s x.exporter) (sym ends.1) (itself s)
refused_same (Some lease) s came old new ends = subst (λ (x : Came). IsOfSame s x.exporter) (sym ends.1) (record { cluster = refl; number = refl })

pub export_same : (n : ℕ) (s : Export) (came : Came) (old new : Way) → Held (export_talk n s) old new came → IsOfSame s came.exporter
export_same zero s came old new ends = subst (λ (x : Came). IsOfSame s x.exporter) (sym ends.1) (itself s)
export_same (suc n) s came old new (Answered c, mid, call, more) = let rest = export_same n (after_item s) came mid new more in record { cluster = rest.cluster; number = rest.number }
export_same (suc n) s came old new (Refused c, mid, call, ends) = refused_same s.lease s came mid new ends
export_same (suc n) s came old new (Missed, mid, call, ends) = subst (λ (x : Came). IsOfSame s x.exporter) (sym ends.1) (itself s)
