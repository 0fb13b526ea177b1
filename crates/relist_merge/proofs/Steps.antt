-- One delivery more, for a view that follows the history.
use Rattle.std.proofs.Common.{◌≡◌, ℕ, ◌≤◌, List, [], ◌∷◌, Bool, true, false, ◌||◌, cond, refl, ap, sym, ◌∙◌, arith}
use Rattle.store_api.specs.History.{History, revision}
use Rattle.store_api.specs.Followed.{Followed, in_at}
use Rattle.store_api.specs.Spans.{Span, Record, is_up, is_met, seen, cursor_of}
use Rattle.relist_merge.specs.Records.{AreWithin, IsRecord, phase_in}
use Rattle.store_api.specs.Advance.{moved_spans}
use Rattle.relist_merge.specs.Deliveries.{Delivery, Listing, Batch, Lost, delivered}
use Rattle.relist_merge.specs.View.{View, Follows, Reads, values, fresh_part, is_caught_up, view_after}
use Rattle.relist_merge.proofs.Sighted.{Stands, holds-after, sighted-by, caught-phase}

module _ (f : Followed) (h : History) where
  stands-of : (is_open : Bool) (spans : List Span) (v : View) (last : ℕ) → AreWithin last spans → (is_open ≡ true → spans ≡ [] → ⊥)
      → ((k : List ℕ) → values v.entries k ≡ seen f h spans k) → v.phase ≡ phase_in f h is_open spans
      → (is_open ≡ true → (k : List ℕ) → fresh_part v.entries k ≡ in_at f h (cursor_of spans) k) → Stands f h is_open spans v
  unfolding Stands
  stands-of false spans v last order has entries phase fresh = record { values = entries; phase = phase }
  stands-of true [] v last order has entries phase fresh = has refl refl
  stands-of true (s ∷ older) v last order has entries phase fresh = record {
    tracks = record {
      order = order.0;
      fresh = fresh refl;
      values = λ k. entries k ∙ ap (λ (b : Bool). cond (b || is_met f h s k) (in_at f h s.upto k) (seen f h older k)) (sym (ap is_caught_up phase ∙ caught-phase (is_up f h s)));
    };
    phase = phase;
  }

  moved-within : (spans : List Span) (last upto : ℕ) → cursor_of spans ≤ upto → upto ≤ last → AreWithin last spans → AreWithin last (moved_spans upto spans)
  moved-within [] last upto more most within = within
  moved-within (s ∷ older) last upto more most within = (omega (arith, within.0), most, within.2)

  moved-some : (spans : List Span) (upto : ℕ) → (spans ≡ [] → ⊥) → moved_spans upto spans ≡ [] → ⊥
  moved-some [] upto some none = some refl
  moved-some (s ∷ older) upto some none = cc

  -- each delivery of the history makes a record of it
  pub formed_next : (r : Record) (d : Delivery) → IsRecord h r → Reads f h r d → IsRecord h (delivered d r)
  formed_next r (Listing at pairs) formed reads = ((omega arith, reads.0, formed.0), λ is none. cc)
  formed_next r (Batch revisions upto) formed reads = (moved-within r.spans (revision h) upto reads.1 reads.2 formed.0, λ is. moved-some r.spans upto (formed.1 is))
  formed_next r Lost formed reads = (formed.0, λ is. cc)

  -- each delivery of the history keeps a view on the spans that were followed
  pub follows_next : (r : Record) (d : Delivery) (v : View) → Follows f h r v → Reads f h r d → Follows f h (delivered d r) (view_after f d v)
  follows_next r d v follows reads =
      let is = follows.sighted in
      record {
        formed = formed_next r d follows.formed reads;
        sighted = sighted-by f h (delivered d r) (view_after f d v) (holds-after f h r d v (record {
          stands = stands-of r.is_open r.spans v (revision h) follows.formed.0 follows.formed.1 is.entries is.phase is.fresh;
          cursor = is.cursor;
        }) reads);
      }
