-- A turn is the talk of the reader's record.
use Rattle.std.proofs.Common.{◌≡◌, ℕ, ◌+◌, List, Bool, true, false, refl, ap, subst}
use Rattle.store_api.specs.Calls.{Ending, Request, Crosses, Heard, Answered, Refused, Missed, Hears, HeardOf, Talked, on_store, to_pull}
use Rattle.store_api.specs.Contents.{Contents}
use Rattle.store_api.specs.Meaning.{Meaning}
use Rattle.store_api.specs.Spans.{Record, Span}
use Rattle.reflector.specs.Crossing.{asked, end_of}
use Rattle.reflector.specs.Reader.{Reader, Stands}
use Rattle.reflector.specs.Talks.{asked_by, turn_talk, turned_by}
use Rattle.reflector.specs.Turns.{IsAnswer, followed}
use Rattle.reflector.specs.declared.turns.Turn.{Turn}
use Rattle.reflector.specs.declared.turns.Turn.TheVariants as turn
use Rattle.reflector.proofs.Turning.{advance_turned, record_of}

-- the reader asks what its record asks
alike : (reader : Reader) (is_open : Bool) (spans : List Span) → Stands reader (record_of is_open spans) → asked reader ≡ asked_by (record_of is_open spans)
alike reader true spans s = rw s.waits (ap (λ (n : ℕ). to_pull (n + 1)) (s.cursor refl))
alike reader false spans s = rw s.waits refl

asks_alike : (reader : Reader) (r : Record) → Stands reader r → asked reader ≡ asked_by r
asks_alike reader r s = alike reader r.is_open r.spans s

-- what was heard where the turn answers so
heard_in : Turn → Contents → Heard
heard_in (turn.Listed listing) c = Answered c
heard_in (turn.Pulled batch) c = Answered c
heard_in (turn.Compacted compacted) c = Refused c
heard_in turn.Lost c = Missed
heard_in turn.NothingNew c = Answered c

hears : (t : Turn) (c : Contents) → Hears (end_of t) c (heard_in t c)
unfolding heard_in
hears (turn.Listed listing) c = refl
hears (turn.Pulled batch) c = refl
hears (turn.Compacted compacted) c = refl
hears turn.Lost c = refl
hears turn.NothingNew c = refl

goes_on : (most : ℕ) (c : Contents) (reader : Reader) (t : Turn) (r : Record) → IsAnswer most c reader t → Stands reader r → followed t r ≡ turned_by most r (heard_in t c)
unfolding heard_in
goes_on most c reader (turn.Listed listing) r answer stands = advance_turned most c reader (turn.Listed listing) r answer stands (λ e. cc)
goes_on most c reader (turn.Pulled batch) r answer stands = advance_turned most c reader (turn.Pulled batch) r answer stands (λ e. cc)
goes_on most c reader (turn.Compacted compacted) r answer stands = advance_turned most c reader (turn.Compacted compacted) r answer stands (λ e. cc)
goes_on most c reader turn.Lost r answer stands = refl
goes_on most c reader turn.NothingNew r answer stands = advance_turned most c reader turn.NothingNew r answer stands (λ e. cc)

module _ {V : Type 0} (meaning : V → Meaning) (between : V → V → Request → Ending → Type 0) where
  pub talked_turn : (most : ℕ) (reader : Reader) (r : Record) (t : Turn) (old new : V) → IsAnswer most (meaning new).contents reader t → Stands reader r → Crosses meaning between (asked reader) (end_of t) old new
      → Talked (on_store meaning between) (turn_talk most r) old new (followed t r)
  talked_turn most reader r t old new answer stands crosses =
      let call : Crosses meaning between (asked_by r) (end_of t) old new = subst (λ (request : Request). Crosses meaning between request (end_of t) old new) (asks_alike reader r stands) crosses in
      let heard : HeardOf meaning between (asked_by r) old new (heard_in t (meaning new).contents) = record { end = end_of t; call = call; hears = hears t (meaning new).contents } in
      (heard_in t (meaning new).contents, new, heard, (refl, goes_on most (meaning new).contents reader t r answer stands))
