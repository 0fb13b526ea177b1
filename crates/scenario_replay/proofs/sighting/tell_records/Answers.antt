use Rattle.std.proofs.Common.{◌≡◌, ℕ, ◌<◌, List, length, slice_get, refl, sym, ap, ◌∙◌, subst, arith}
use Rattle.std.specs.Option.{ForSome}
use Rattle.std.specs.Vec.Iter.{into_iter_items}
use Rattle.relist_merge.specs.declared.telling.ReadRecord.{ReadRecord}
use Rattle.shared_tables.specs.Told.{told, with_change}
use Rattle.scenario_replay.specs.Rows.{IsFirst, first_told}
use Rattle.scenario_replay.proofs.SourcesTold.{ToldSoFar, so_far-all, so_far-first, so_far-length, so_far-more, so_far-none}
use Rattle.scenario_replay.proofs.sighting.tell_records.Goals as goal

pub loop-read-init : goal.loop-read-init
loop-read-init g c =
    let all : into_iter_items c.into_iter-read-iterator.result ≡ c.args.records = c.into_iter-read-iterator.ensures.into_iter_gives.0 ∙ c.into_vec-read-items.ensures in (
      refl,
      subst (λ (rest : List ReadRecord). ToldSoFar c.args.source c.args.records rest (told c.args.tables.now) (told c.args.tables.now)) (sym all) (so_far-none c.args.source c.args.records (told c.args.tables.now) c.requires.first),
      omega (arith, c.into_iter-read-iterator.ensures.into_iter_gives.1, ap length c.into_iter-read-iterator.ensures.into_iter_gives.0, c.into_vec-read-items.result.ok.0),
    )

pub tell_record-requires-clause-source : goal.tell_record-requires-clause-source
tell_record-requires-clause-source g c =
    let so_far = subst (λ (l : List ReadRecord). ToldSoFar c.args.source c.args.records l (told c.args.tables.now) (told c.loop-read.tables)) c.in-Some.ensures.steps.0 c.loop-read.invariant.1 in
    subst (λ (n : ℕ). n < length (told c.loop-read.tables).sources) (sym c.loop-read.invariant.0)
    (so_far-length c.args.source c.args.records (told c.args.tables.now) c.requires.first (into_iter_items c.next.new.self) c.in-Some.read (told c.loop-read.tables) so_far c.requires.source)

pub tell_record-requires-clause-first : goal.tell_record-requires-clause-first
tell_record-requires-clause-first g c =
    let so_far = subst (λ (l : List ReadRecord). ToldSoFar c.args.source c.args.records l (told c.args.tables.now) (told c.loop-read.tables)) c.in-Some.ensures.steps.0 c.loop-read.invariant.1 in
    subst (λ (n : ℕ). ForSome (slice_get (told c.loop-read.tables).sources n) (λ s. IsFirst s c.in-Some.read)) (sym c.loop-read.invariant.0)
    (so_far-first c.args.source c.args.records (told c.args.tables.now) c.requires.first (into_iter_items c.next.new.self) c.in-Some.read (told c.loop-read.tables) so_far)

pub loop-read-preserved : goal.loop-read-preserved
loop-read-preserved g c =
    let items = c.in-Some.ensures.steps.0 in
    let long = ap length items in
    let so_far = subst (λ (l : List ReadRecord). ToldSoFar c.args.source c.args.records l (told c.args.tables.now) (told c.loop-read.tables)) items c.loop-read.invariant.1 in
    let here : told c.tell_record.new.tables ≡ with_change (first_told c.args.source c.in-Some.read) (told c.loop-read.tables) =
    subst (λ (n : ℕ). told c.tell_record.new.tables ≡ with_change (first_told n c.in-Some.read) (told c.loop-read.tables)) c.loop-read.invariant.0 c.in_ok-tell_record.ensures in (
      c.loop-read.invariant.0,
      so_far-more c.args.source c.args.records (told c.args.tables.now) c.requires.first (into_iter_items c.next.new.self) c.in-Some.read (told c.loop-read.tables) so_far c.requires.source (told c.tell_record.new.tables) here,
      omega (arith, long, c.loop-read.invariant.2, c.in-Some.ensures.steps.1),
    )

pub returns : goal.returns
returns g c =
    so_far-all c.args.source c.args.records (told c.args.tables.now) c.requires.first (into_iter_items c.loop-read.read-iterator) (told c.loop-read.tables)
    (omega (arith, c.loop-read.invariant.2, c.in-None.ensures.steps.0)) c.loop-read.invariant.1
