-- A turn without a limit ends where its store is.
use Rattle.std.proofs.Common.{◌≡◌, ℕ, zero, suc, ◌+◌, ◌-◌, ◌^◌, ◌<◌, ◌≤◌, List, [], ◌∷◌, Bool, true, false, if◌then◌else◌, min, leb, refl, arith}
use Rattle.std.proofs.Math.Bool.{or-true}
use Rattle.std.proofs.lemmas.Bool.{le-leb, false≢true}
use Rattle.relist_merge.specs.Records.{IsRecord}
use Rattle.store_api.specs.Advance.{closed, moved_to, turned_spans}
use Rattle.store_api.specs.Followed.{Followed, in_at}
use Rattle.store_api.specs.History.{History, revision}
use Rattle.store_api.specs.Spans.{Span, some_from}
use Rattle.mesh_world.specs.Runs.{EndsWhole, TurnsEndWhole}

-- what passes at the last number passes somewhere
at_last : (p : ℕ → Bool) (a r : ℕ) → a ≤ r → p r ≡ true → some_from p a r ≡ true
at_last p a zero within passes = rw (le-leb a 0 within, passes) refl
at_last p a (suc r) within passes = rw (le-leb a (suc r) within, passes) (or-true (some_from p a r))

module _ (f : Followed) (history : History) where
  -- an open span up to the history's revision
  ends : (start : ℕ) (older : List Span) → start ≤ revision history → EndsWhole f history (record { spans = record { start = start; upto = revision history } ∷ older; is_open = true })
  ends start older within = record {
    cursor = refl;
    caught_up = at_last (λ x. f.synced (in_at f history x)) start (revision history) within;
  }

  -- a watch that is not refused goes on to the history's revision
  watches : (compacted : ℕ) (s : Span) (older : List Span) (b : Bool) → s.start ≤ revision history → revision history < 2 ^ 64
      → (if b then closed (record { spans = s ∷ older; is_open = true }) else moved_to (min (s.upto + (2 ^ 64 - 1)) (revision history)) (record { spans = s ∷ older; is_open = true })).is_open ≡ true
      → EndsWhole f history (if b then closed (record { spans = s ∷ older; is_open = true }) else moved_to (min (s.upto + (2 ^ 64 - 1)) (revision history)) (record { spans = s ∷ older; is_open = true }))
  watches compacted s older true within numbered open_ = absurd (false≢true open_)
  watches compacted s older false within numbered open_ =
      let upto : min (s.upto + (2 ^ 64 - 1)) (revision history) ≡ revision history = omega (arith, numbered) in
      rw upto (ends s.start older within)

  turns : (compacted : ℕ) (b : Bool) (spans : List Span) → IsRecord history (record { spans = spans; is_open = b }) → revision history < 2 ^ 64 → (turned_spans (2 ^ 64 - 1) (revision history) compacted b spans).is_open ≡ true → EndsWhole f history (turned_spans (2 ^ 64 - 1) (revision history) compacted b spans)
  turns compacted false spans formed numbered open_ = ends (revision history) spans (omega arith)
  turns compacted true [] formed numbered open_ = ends (revision history) [] (omega arith)
  turns compacted true (s ∷ older) formed numbered open_ = watches compacted s older (leb (s.upto + 1) compacted) (omega (arith, formed.0.0, formed.0.1)) numbered open_

pub turns_end_whole : TurnsEndWhole
turns_end_whole f history compacted r = turns f history compacted r.is_open r.spans
