-- What an answer makes of the reader's record, and what it hands on.
use Rattle.std.proofs.Common.{◌≡◌, ◌≢◌, ◌≤◌, ℕ, ◌+◌, leb, min, List, [], ◌∷◌, Bool, true, false, cond, refl, ap, sym, ◌∙◌, arith}
use Rattle.std.proofs.lemmas.Bool.{le-leb, lt-leb}
use Rattle.store_api.specs.Advance.{turned, moved_to, closed, listed_at}
use Rattle.store_api.specs.Contents.{Contents}
use Rattle.store_api.specs.Followed.{parts}
use Rattle.store_api.specs.Given.{IsGivenIf}
use Rattle.store_api.specs.History.{Begins, History, in_ranges, revision, listing_at}
use Rattle.store_api.specs.Spans.{AreSpans, Record, Span, cursor_of}
use Rattle.store_api.proofs.CallerLemmas.{later-revision, later_spans}
use Rattle.reflector.specs.Reader.{Reader, Stands}
use Rattle.reflector.specs.Turns.{IsAnswer, after_turn, delivery_of, followed}
use Rattle.reflector.specs.declared.turns.Turn.{Turn}
use Rattle.reflector.specs.declared.turns.Turn.TheVariants as turn

abbrev pub record_of : Bool → List Span → Record
record_of is_open spans = record { spans = spans; is_open = is_open }

module _ (most : ℕ) (c : Contents) (reader : Reader) where
  -- an open reader does not wait
  never_listed : (spans : List Span) → reader.is_waiting ≡ true → Stands reader (record_of true spans) → ⊥
  never_listed spans waits s = let e : true ≡ false = sym waits ∙ s.waits in cc

  -- a reader that does not wait has an open record
  never_closed : (spans : List Span) → reader.is_waiting ≡ false → Stands reader (record_of false spans) → ⊥
  never_closed spans runs s = let e : false ≡ true = sym runs ∙ s.waits in cc

  stands_on : (is_open : Bool) (spans : List Span) (t : Turn) → IsAnswer most c reader t → Stands reader (record_of is_open spans) → Stands (after_turn t reader) (followed t (record_of is_open spans))
  stands_on is_open spans (turn.Listed l) a s = record { waits = refl; cursor = λ _. refl; behind = omega arith; listed = λ _ e. cc }
  stands_on false spans (turn.Pulled b) a s = absurd (never_closed spans a.0 s)
  stands_on true [] (turn.Pulled b) a s = absurd (s.listed refl refl)
  stands_on true (span ∷ older) (turn.Pulled b) a s = record { waits = s.waits; cursor = λ _. refl; behind = omega arith; listed = λ _ e. cc }
  stands_on is_open spans (turn.Compacted n) a s = record { waits = refl; cursor = λ e. cc; behind = s.behind; listed = λ e _. cc }
  stands_on is_open spans turn.Lost a s = record { waits = refl; cursor = λ e. cc; behind = s.behind; listed = λ e _. cc }
  stands_on is_open spans turn.NothingNew a s = s

  advance_on : (is_open : Bool) (spans : List Span) (t : Turn) → IsAnswer most c reader t → Stands reader (record_of is_open spans) → t ≢ turn.Lost → followed t (record_of is_open spans) ≡ turned most (revision c.history) c.compacted (record_of is_open spans)
  advance_on true spans (turn.Listed l) a s n = absurd (never_listed spans a.0 s)
  advance_on false spans (turn.Listed l) a s n = ap (λ (at : ℕ). listed_at at (record_of false spans)) a.1.at
  advance_on false spans (turn.Pulled b) a s n = absurd (never_closed spans a.0 s)
  advance_on true [] (turn.Pulled b) a s n = absurd (s.listed refl refl)
  advance_on true (span ∷ older) (turn.Pulled b) a s n =
      let there : leb (span.upto + 1) c.compacted ≡ false = lt-leb (span.upto + 1) c.compacted (omega (arith, a.1, (s.cursor refl))) in
      let upto : b.upto ≡ min (span.upto + most) (revision c.history) = a.3.upto ∙ ap (λ (end : ℕ). min (end + most) (revision c.history)) (s.cursor refl) in
      ap (λ (end : ℕ). moved_to end (record_of true (span ∷ older))) upto
      ∙ ap (λ (refused : Bool). cond refused (closed (record_of true (span ∷ older))) (moved_to (min (span.upto + most) (revision c.history)) (record_of true (span ∷ older)))) (sym there)
  advance_on false spans (turn.Compacted n) a s _ = absurd (never_closed spans a.0 s)
  advance_on true [] (turn.Compacted n) a s _ = absurd (s.listed refl refl)
  advance_on true (span ∷ older) (turn.Compacted n) a s _ =
      let gone : leb (span.upto + 1) c.compacted ≡ true = le-leb (span.upto + 1) c.compacted (omega (arith, a.1, a.2, (s.cursor refl))) in
      ap (λ (refused : Bool). cond refused (closed (record_of true (span ∷ older))) (moved_to (min (span.upto + most) (revision c.history)) (record_of true (span ∷ older)))) (sym gone)
  advance_on is_open spans turn.Lost a s n = absurd (n refl)
  advance_on false spans turn.NothingNew a s n = absurd (never_closed spans a.0 s)
  advance_on true [] turn.NothingNew a s n = absurd (s.listed refl refl)
  advance_on true (span ∷ older) turn.NothingNew a s n =
      let there : leb (span.upto + 1) c.compacted ≡ false = lt-leb (span.upto + 1) c.compacted (omega (arith, a.1, (s.cursor refl))) in
      let same : span.upto ≡ min (span.upto + most) (revision c.history) = omega (arith, a.2, (s.cursor refl)) in
      ap (λ (end : ℕ). moved_to end (record_of true (span ∷ older))) same
      ∙ ap (λ (refused : Bool). cond refused (closed (record_of true (span ∷ older))) (moved_to (min (span.upto + most) (revision c.history)) (record_of true (span ∷ older)))) (sym there)

  reads_on : (is_open : Bool) (spans : List Span) (t : Turn) → IsAnswer most c reader t → Stands reader (record_of is_open spans) → IsGivenIf reader.ranges c.history (record_of is_open spans) (delivery_of t)
  reads_on is_open spans (turn.Listed l) a s =
      (omega (arith, a.1.at), a.1.pairs ∙ ap (λ (r : ℕ). listing_at reader.ranges c.history r) (sym a.1.at))
  reads_on false spans (turn.Pulled b) a s = absurd (never_closed spans a.0 s)
  reads_on true spans (turn.Pulled b) a s = (
    refl,
    omega (arith, a.2, a.3.upto, (s.cursor refl)),
    omega (arith, a.3.upto),
    a.3.revisions ∙ ap (λ (end : ℕ). parts (in_ranges reader.ranges) c.history end b.upto) (s.cursor refl),
  )
  reads_on is_open spans (turn.Compacted n) a s = tt
  reads_on is_open spans turn.Lost a s = tt
  reads_on is_open spans turn.NothingNew a s = tt

  -- a reader stands for its closed record, whatever it was handed
  untaken_on : (h : History) (spans : List Span) (is_open : Bool) (t : Turn) → IsAnswer most c reader t → Stands reader (record_of is_open spans) → Begins h c.history → AreSpans (revision h) spans → cursor_of spans ≤ (after_turn t reader).cursor
  untaken_on h [] is_open t a s begins are = omega arith
  untaken_on h (span ∷ older) is_open (turn.Listed l) a s begins are = omega (arith, a.1.at, are.0, later-revision h c.history begins)
  untaken_on h (span ∷ older) is_open (turn.Pulled b) a s begins are = omega (arith, s.behind, a.2, a.3.upto)
  untaken_on h (span ∷ older) is_open (turn.Compacted n) a s begins are = s.behind
  untaken_on h (span ∷ older) is_open turn.Lost a s begins are = s.behind
  untaken_on h (span ∷ older) is_open turn.NothingNew a s begins are = s.behind

  -- the spans go on in order
  order_on : (h : History) (is_open : Bool) (spans : List Span) (t : Turn) → IsAnswer most c reader t → Stands reader (record_of is_open spans) → Begins h c.history → AreSpans (revision h) spans → AreSpans (revision c.history) (followed t (record_of is_open spans)).spans
  order_on h is_open spans (turn.Listed l) a s begins are = (omega (arith, a.1.at), omega arith, later_spans (revision h) l.at spans (omega (arith, a.1.at, later-revision h c.history begins)) are)
  order_on h is_open [] (turn.Pulled b) a s begins are = tt
  order_on h is_open (span ∷ older) (turn.Pulled b) a s begins are = (omega (arith, a.3.upto), omega (arith, are.1, s.behind, a.2, a.3.upto), are.2)
  order_on h is_open spans (turn.Compacted n) a s begins are = later_spans (revision h) (revision c.history) spans (later-revision h c.history begins) are
  order_on h is_open spans turn.Lost a s begins are = later_spans (revision h) (revision c.history) spans (later-revision h c.history begins) are
  order_on h is_open spans turn.NothingNew a s begins are = later_spans (revision h) (revision c.history) spans (later-revision h c.history begins) are

pub stands_turned : (most : ℕ) (c : Contents) (reader : Reader) (t : Turn) (r : Record) → IsAnswer most c reader t → Stands reader r → Stands (after_turn t reader) (followed t r)
stands_turned most c reader t r = stands_on most c reader r.is_open r.spans t

pub advance_turned : (most : ℕ) (c : Contents) (reader : Reader) (t : Turn) (r : Record) → IsAnswer most c reader t → Stands reader r → t ≢ turn.Lost → followed t r ≡ turned most (revision c.history) c.compacted r
advance_turned most c reader t r = advance_on most c reader r.is_open r.spans t

pub reads_turned : (most : ℕ) (c : Contents) (reader : Reader) (t : Turn) (r : Record) → IsAnswer most c reader t → Stands reader r → IsGivenIf reader.ranges c.history r (delivery_of t)
reads_turned most c reader t r = reads_on most c reader r.is_open r.spans t

pub order_turned : (most : ℕ) (h : History) (c : Contents) (reader : Reader) (t : Turn) (r : Record) → IsAnswer most c reader t → Stands reader r → Begins h c.history → AreSpans (revision h) r.spans → AreSpans (revision c.history) (followed t r).spans
order_turned most h c reader t r = order_on most c reader h r.is_open r.spans t

pub untaken_turned : (most : ℕ) (h : History) (c : Contents) (reader : Reader) (t : Turn) (r : Record) → IsAnswer most c reader t → Stands reader r → Begins h c.history → AreSpans (revision h) r.spans → Stands (record (after_turn t reader) { is_waiting = true }) (closed r)
untaken_turned most h c reader t r a s begins are = record { waits = refl; cursor = λ e. cc; behind = untaken_on most c reader h r.spans r.is_open t a s begins are; listed = λ e _. cc }
