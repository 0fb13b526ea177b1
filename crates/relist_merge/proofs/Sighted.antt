-- The view that the calls make is the sighted view.
use Rattle.std.proofs.Common.{◌≡◌, ℕ, zero, suc, ◌+◌, ◌≤◌, leb, List, [], ◌∷◌, ◌++◌, ◌||◌, ◌&&◌, Bool, true, false, cond, map, Option, None, Some, is_some, refl, ap, sym, ◌∙◌, subst, arith, inl, inr}
use Rattle.std.proofs.Math.Path.{fun_ext}
use Rattle.std.proofs.lemmas.Bool.{leb-true, leb-false}
use Rattle.store_api.specs.History.{History, after_changes}
use Rattle.store_api.specs.declared.change.Change.{Change}
use Rattle.store_api.specs.History.{Pairs, changes_at, live_at}
use Rattle.store_api.specs.Followed.{Followed, in_at, touches, part_at}
use Rattle.store_api.specs.Spans.{Span, Record, some_from, is_up, is_met, speaks, seen, cursor_of}
use Rattle.relist_merge.specs.Records.{phase_in}
use Rattle.store_api.specs.Advance.{moved_spans}
use Rattle.store_api.specs.Followed.{Part, one_part, parts}
use Rattle.relist_merge.specs.Deliveries.{Delivery, Listing, Batch, Lost, edit_of, edits_of, listed, delivered}
use Rattle.store_api.specs.Spans.{unread}
use Rattle.relist_merge.specs.View.{Entry, View, value_of, fresh_of, values, fresh_part, stale_of, kept_of, over_of, is_held, is_caught_up, begun, with_listing, with_revision, with_cursor, finishes, finished, with_parts, view_after, new_view, IsListOf, IsSighted, Reads}
use Rattle.relist_merge.specs.declared.phase.Phase.{Phase}
use Rattle.relist_merge.specs.declared.phase.Phase.TheVariants.{Waiting, Held, CaughtUp}
use Rattle.relist_merge.proofs.Numbers.{cases, or_right, or_assoc, some-more, some-none, some-one, some-has}
use Rattle.relist_merge.proofs.Listings.{puts-listed}
use Rattle.relist_merge.proofs.Changes.{untouched, touched, value_after, fresh_after, kept-touches, kept-after, kept-none}

pub over-fresh : (e : Option Entry) (o : Option (List ℕ)) → fresh_of (over_of (stale_of e) o) ≡ o
over-fresh None None = refl
over-fresh (Some e) None = refl
over-fresh None (Some value) = refl
over-fresh (Some e) (Some value) = refl

over-value : (e : Option Entry) (o : Option (List ℕ)) → value_of (over_of (stale_of e) o) ≡ cond (is_some o) o (value_of e)
over-value None None = refl
over-value (Some e) None = refl
over-value None (Some value) = refl
over-value (Some e) (Some value) = refl

kept-value : (e : Option Entry) → value_of (kept_of e) ≡ fresh_of e
kept-value None = refl
kept-value (Some e) = elim e.fresh as (λ b. value_of (cond b (Some e) None) ≡ cond b (Some e.value) None) [ true ↦ refl | false ↦ refl ]

kept-fresh : (e : Option Entry) → fresh_of (kept_of e) ≡ fresh_of e
kept-fresh None = refl
kept-fresh (Some e) =
    elim (cases e.fresh) [
      | inl t ↦ rw t refl
      | inr n ↦ rw n refl
    ]

pub caught-phase : (b : Bool) → is_caught_up (cond b CaughtUp Held) ≡ b
caught-phase true = refl
caught-phase false = refl

module _ (f : Followed) (h : History) where
  -- What the view shows of an open span, also before `finish_sync`.
  pub record Tracks (s : Span) (older : List Span) (v : View) : Type 0 where
    pub order : s.start ≤ s.upto
    pub fresh : (k : List ℕ) → fresh_part v.entries k ≡ in_at f h s.upto k
    pub values : (k : List ℕ) → values v.entries k ≡ cond (is_caught_up v.phase || is_met f h s k) (in_at f h s.upto k) (seen f h older k)

  -- and after it
  pub record Settled (s : Span) (older : List Span) (v : View) : Type 0 where
    pub tracks : Tracks s older v
    pub phase : v.phase ≡ cond (is_up f h s) CaughtUp Held

  outside : (r : ℕ) (k : List ℕ) → f.inside k ≡ false → in_at f h r k ≡ None
  outside r k o = ap (λ (b : Bool). cond b (live_at h r k) None) o

  seen-outside : (spans : List Span) (k : List ℕ) → f.inside k ≡ false → seen f h spans k ≡ None
  seen-outside [] k o = refl
  seen-outside (s ∷ older) k o =
      elim (cases (speaks f h s k)) [
        | inl t ↦ ap (λ (b : Bool). cond b (in_at f h s.upto k) (seen f h older k)) t ∙ outside s.upto k o
        | inr n ↦ ap (λ (b : Bool). cond b (in_at f h s.upto k) (seen f h older k)) n ∙ seen-outside older k o
      ]

  -- the followed pairs go on by their part of the changes
  pub in_at-next : (r : ℕ) (k : List ℕ) → after_changes k (in_at f h r k) (part_at f.inside h (suc r)) ≡ in_at f h (suc r) k
  in_at-next r k =
      elim (cases (f.inside k)) [
        | inl i ↦
            kept-after f.inside k (in_at f h r k) (changes_at h (suc r)) i
            ∙ ap (λ (b : Bool). after_changes k (cond b (live_at h r k) None) (changes_at h (suc r))) i
            ∙ sym (ap (λ (b : Bool). cond b (live_at h (suc r) k) None) i)
        | inr o ↦
            untouched k (in_at f h r k) (part_at f.inside h (suc r)) (kept-none f.inside k (changes_at h (suc r)) o)
            ∙ outside r k o ∙ sym (outside (suc r) k o)
      ]

  met-next : (a r : ℕ) (k : List ℕ) → a ≤ r → is_met f h (record { start = a; upto = suc r }) k ≡ is_met f h (record { start = a; upto = r }) k || touches k (changes_at h (suc r))
  met-next a r k le =
      ap (λ (b : Bool). is_some (in_at f h a k) || b) (some-more (λ x. touches k (changes_at h x)) (a + 1) r (omega arith))
      ∙ sym (or_assoc (is_some (in_at f h a k)) (some_from (λ x. touches k (changes_at h x)) (a + 1) r) (touches k (changes_at h (suc r))))

  up-next : (a r : ℕ) → a ≤ r → is_up f h (record { start = a; upto = suc r }) ≡ is_up f h (record { start = a; upto = r }) || f.synced (in_at f h (suc r))
  up-next a r le = some-more (λ x. f.synced (in_at f h x)) a r (omega arith)

  -- the value of one key over a revision: b says that the span spoke of it before, t that the revision changes it
  value-next : (r : ℕ) (k : List ℕ) (older : List Span) (b : Bool) (v : Option (List ℕ)) → v ≡ cond b (in_at f h r k) (seen f h older k)
      → after_changes k v (part_at f.inside h (suc r)) ≡ cond (b || touches k (changes_at h (suc r))) (in_at f h (suc r) k) (seen f h older k)
  value-next r k older true v is = ap (λ (o : Option (List ℕ)). after_changes k o (part_at f.inside h (suc r))) is ∙ in_at-next r k
  value-next r k older false v is =
      elim (cases (f.inside k)) [
        | inl i ↦
            let same : touches k (part_at f.inside h (suc r)) ≡ touches k (changes_at h (suc r)) = kept-touches f.inside k (changes_at h (suc r)) i in
            elim (cases (touches k (changes_at h (suc r)))) [
              | inl t ↦
                  touched k v (in_at f h r k) (part_at f.inside h (suc r)) (same ∙ t) ∙ in_at-next r k
                  ∙ sym (ap (λ (b : Bool). cond b (in_at f h (suc r) k) (seen f h older k)) t)
              | inr n ↦
                  untouched k v (part_at f.inside h (suc r)) (same ∙ n) ∙ is
                  ∙ sym (ap (λ (b : Bool). cond b (in_at f h (suc r) k) (seen f h older k)) n)
            ]
        | inr o ↦
            untouched k v (part_at f.inside h (suc r)) (kept-none f.inside k (changes_at h (suc r)) o) ∙ is ∙ seen-outside older k o
            ∙ sym (either (touches k (changes_at h (suc r))) (outside (suc r) k o) (seen-outside older k o))
      ]
    where
      either : {x y : Option (List ℕ)} (b : Bool) → x ≡ None → y ≡ None → cond b x y ≡ None
      either true p q = p
      either false p q = q

  -- a revision
  pub tracks-revision : (a r n : ℕ) (older : List Span) (v : View) → Tracks (record { start = a; upto = r }) older v
      → Tracks (record { start = a; upto = suc r }) older (with_revision n (map edit_of (part_at f.inside h (suc r))) v)
  tracks-revision a r n older v t = record {
    order = let le = t.order in omega arith;
    fresh = λ k. fresh_after k (v.entries k) (part_at f.inside h (suc r)) ∙ ap (λ (o : Option (List ℕ)). after_changes k o (part_at f.inside h (suc r))) (t.fresh k) ∙ in_at-next r k;
    values = λ k.
        value_after k (v.entries k) (part_at f.inside h (suc r))
        ∙ value-next r k older (is_caught_up v.phase || is_met f h (record { start = a; upto = r }) k) (value_of (v.entries k)) (t.values k)
        ∙ ap (λ (b : Bool). cond b (in_at f h (suc r) k) (seen f h older k)) (or_assoc (is_caught_up v.phase) (is_met f h (record { start = a; upto = r }) k) (touches k (changes_at h (suc r))) ∙ ap (λ (b : Bool). is_caught_up v.phase || b) (sym (met-next a r k t.order)));
  }

  -- a listing
  pub tracks-listing : (at : ℕ) (pairs : List (List ℕ × List ℕ)) (spans : List Span) (v : View)
      → ((k : List ℕ) → values v.entries k ≡ seen f h spans k) → IsListOf pairs (in_at f h at)
      → Tracks (record { start = at; upto = at }) spans (with_listing at pairs (begun v))
  tracks-listing at pairs spans v were reads = record {
    order = omega arith;
    fresh = λ k. ap fresh_of (puts-listed pairs k (stale_of (v.entries k)) reads.distinct) ∙ over-fresh (v.entries k) (listed pairs k) ∙ reads.values k;
    values = λ k.
        ap value_of (puts-listed pairs k (stale_of (v.entries k)) reads.distinct)
        ∙ over-value (v.entries k) (listed pairs k)
        ∙ ap (λ (o : Option (List ℕ)). cond (is_some o) o (value_of (v.entries k))) (reads.values k)
        ∙ ap (λ (o : Option (List ℕ)). cond (is_some (in_at f h at k)) (in_at f h at k) o) (were k)
        ∙ ap (λ (b : Bool). cond b (in_at f h at k) (seen f h spans k)) (sym (or_right (is_some (in_at f h at k))) ∙ ap (λ (b : Bool). is_some (in_at f h at k) || b) (sym (some-none (λ x. touches k (changes_at h x)) (at + 1) at (omega arith))));
  }

  -- `finish_sync` after it
  pub finish : (s : Span) (older : List Span) (v : View) (was : Bool) → Tracks s older v → v.phase ≡ cond was CaughtUp Held
      → is_up f h s ≡ was || f.synced (in_at f h s.upto) → Settled s older (finished f v)
  finish s older v true t phase up =
      let no : finishes f v ≡ false = ap (λ p. is_held p && f.synced (fresh_part v.entries)) phase in
      rw no (record { tracks = t; phase = phase ∙ sym (ap (λ (b : Bool). cond b CaughtUp Held) up) })
  finish s older v false t phase up =
      let same : f.synced (fresh_part v.entries) ≡ f.synced (in_at f h s.upto) = ap f.synced (fun_ext t.fresh) in
      let test : finishes f v ≡ f.synced (in_at f h s.upto) = ap (λ p. is_held p && f.synced (fresh_part v.entries)) phase ∙ same in
      elim (cases (f.synced (in_at f h s.upto))) [
        | inl is ↦ rw (test, is) (record {
          tracks = record {
            order = t.order;
            fresh = λ k. kept-fresh (v.entries k) ∙ t.fresh k;
            values = λ k. kept-value (v.entries k) ∙ t.fresh k;
          };
          phase = sym (ap (λ (b : Bool). cond b CaughtUp Held) (up ∙ is));
        })
        | inr n ↦ rw (test, n) (record { tracks = t; phase = phase ∙ sym (ap (λ (b : Bool). cond b CaughtUp Held) (up ∙ n)) })
      ]

  -- a revision that changes no followed key
  quiet : (a r : ℕ) (older : List Span) (v : View) → part_at f.inside h (suc r) ≡ [] → Settled (record { start = a; upto = r }) older v → Settled (record { start = a; upto = suc r }) older v
  quiet a r older v none st =
      let step : Tracks (record { start = a; upto = suc r }) older (with_revision v.cursor [] v) = subst (λ (cs : List Change). Tracks (record { start = a; upto = suc r }) older (with_revision v.cursor (map edit_of cs) v)) none (tracks-revision a r v.cursor older v st.tracks) in
      let same : in_at f h (suc r) ≡ in_at f h r = fun_ext (λ k. sym (in_at-next r k) ∙ ap (λ (cs : List Change). after_changes k (in_at f h r k) cs) none) in
      let up : is_up f h (record { start = a; upto = suc r }) ≡ is_up f h (record { start = a; upto = r }) =
      up-next a r st.tracks.order ∙ ap (λ (m : Pairs). is_up f h (record { start = a; upto = r }) || f.synced m) same
      ∙ absorbed (is_up f h (record { start = a; upto = r })) (f.synced (in_at f h r)) (λ t. some-has (λ x. f.synced (in_at f h x)) a r r st.tracks.order (omega arith) t) in
      record {
        tracks = record { order = step.order; fresh = step.fresh; values = step.values };
        phase = st.phase ∙ sym (ap (λ (b : Bool). cond b CaughtUp Held) up);
      }
    where
      absorbed : (b c : Bool) → (c ≡ true → b ≡ true) → b || c ≡ b
      absorbed true c hyp = refl
      absorbed false true hyp = sym (hyp refl)
      absorbed false false hyp = refl

  with_parts-append : (xs ys : List Part) (v : View) → with_parts f (map edits_of (xs ++ ys)) v ≡ with_parts f (map edits_of ys) (with_parts f (map edits_of xs) v)
  with_parts-append [] ys v = refl
  with_parts-append (p ∷ xs) ys v = with_parts-append xs ys (finished f (with_revision p.number (map edit_of p.changes) v))

  -- a revision, whether or not it changes a followed key
  one : (a r : ℕ) (older : List Span) (v : View) (changes : List Change) → part_at f.inside h (suc r) ≡ changes → Settled (record { start = a; upto = r }) older v
      → Settled (record { start = a; upto = suc r }) older (with_parts f (map edits_of (one_part (suc r) changes)) v)
  one a r older v [] is st = quiet a r older v is st
  one a r older v (c ∷ changes) is st =
      finish (record { start = a; upto = suc r }) older (with_revision (suc r) (map edit_of (c ∷ changes)) v) (is_up f h (record { start = a; upto = r }))
      (subst (λ (cs : List Change). Tracks (record { start = a; upto = suc r }) older (with_revision (suc r) (map edit_of cs) v)) is (tracks-revision a r (suc r) older v st.tracks))
      st.phase (up-next a r st.tracks.order)

  -- a batch
  pub batch : (a r upto : ℕ) (older : List Span) (v : View) → r ≤ upto → Settled (record { start = a; upto = r }) older v
      → Settled (record { start = a; upto = upto }) older (with_parts f (map edits_of (parts f.inside h r upto)) v)
  batch a r zero older v le st = let e : r ≡ zero = omega arith in subst (λ (n : ℕ). Settled (record { start = a; upto = n }) older v) e st
  batch a r (suc n) older v le st =
      elim (cases (leb (suc n) r)) [
        | inl t ↦
            let le2 = leb-true (suc n) r t in
            let e : r ≡ suc n = omega arith in
            rw t (subst (λ (m : ℕ). Settled (record { start = a; upto = m }) older v) e st)
        | inr no_more ↦
            let lt = leb-false (suc n) r no_more in
            rw (no_more, with_parts-append (parts f.inside h r n) (one_part (suc n) (part_at f.inside h (suc n))) v)
            (one a n older (with_parts f (map edits_of (parts f.inside h r n)) v) (part_at f.inside h (suc n)) refl (batch a r n older v (omega arith) st))
      ]

  with_cursor-settled : (s : Span) (older : List Span) (n : ℕ) (v : View) → Settled s older v → Settled s older (with_cursor n v)
  with_cursor-settled s older n v st = record {
    tracks = record { order = st.tracks.order; fresh = st.tracks.fresh; values = st.tracks.values };
    phase = st.phase;
  }

  -- What holds after each delivery.
  pub record IsClosed (spans : List Span) (v : View) : Type 0 where
    pub values : (k : List ℕ) → values v.entries k ≡ seen f h spans k
    pub phase : v.phase ≡ Waiting

  unfoldable pub Stands : Bool → List Span → View → Type 0
  Stands false spans v = IsClosed spans v
  Stands true [] v = ⊥
  Stands true (s ∷ older) v = Settled s older v

  pub record Holds (r : Record) (v : View) : Type 0 where
    pub stands : Stands r.is_open r.spans v
    pub cursor : v.cursor ≡ cursor_of r.spans

  settled-values : (s : Span) (older : List Span) (v : View) → Settled s older v → (k : List ℕ) → values v.entries k ≡ seen f h (s ∷ older) k
  settled-values s older v st k =
      st.tracks.values k ∙ ap (λ (p : Phase). cond (is_caught_up p || is_met f h s k) (in_at f h s.upto k) (seen f h older k)) st.phase
      ∙ ap (λ (b : Bool). cond (b || is_met f h s k) (in_at f h s.upto k) (seen f h older k)) (caught-phase (is_up f h s))

  stands-values : (is_open : Bool) (spans : List Span) (v : View) → Stands is_open spans v → (k : List ℕ) → values v.entries k ≡ seen f h spans k
  unfolding Stands
  stands-values false spans v st = st.values
  stands-values true [] v st = absurd st
  stands-values true (s ∷ older) v st = settled-values s older v st

  finished-cursor : (v : View) → (finished f v).cursor ≡ v.cursor
  finished-cursor v = elim (finishes f v) as (λ b. (cond b (record v { entries = λ k. kept_of (v.entries k); phase = CaughtUp }) v).cursor ≡ v.cursor) [ true ↦ refl | false ↦ refl ]

  batched : (is_open : Bool) (spans : List Span) (upto : ℕ) (v : View) → is_open ≡ true → cursor_of spans ≤ upto → Stands is_open spans v
      → Stands is_open (moved_spans upto spans) (with_cursor upto (with_parts f (map edits_of (parts f.inside h (cursor_of spans) upto)) v))
  unfolding Stands
  batched false spans upto v is le st = cc
  batched true [] upto v is le st = absurd st
  batched true (s ∷ older) upto v is le st = with_cursor-settled _ _ upto _ (batch s.start s.upto upto older v le st)

  moved-cursor : (is_open : Bool) (spans : List Span) (upto : ℕ) (v : View) → is_open ≡ true → Stands is_open spans v → upto ≡ cursor_of (moved_spans upto spans)
  unfolding Stands
  moved-cursor false spans upto v is st = cc
  moved-cursor true [] upto v is st = absurd st
  moved-cursor true (s ∷ older) upto v is st = refl

  -- each delivery keeps it
  pub holds-after : (r : Record) (d : Delivery) (v : View) → Holds r v → Reads f h r d → Holds (delivered d r) (view_after f d v)
  unfolding Stands
  holds-after r (Listing at pairs) v holds reads =
      let t = tracks-listing at pairs r.spans v (stands-values r.is_open r.spans v holds.stands) reads.1 in
      record {
        stands = finish (record { start = at; upto = at }) r.spans (with_listing at pairs (begun v)) false t refl (some-one (λ x. f.synced (in_at f h x)) at);
        cursor = finished-cursor (with_listing at pairs (begun v));
      }
  holds-after r (Batch revisions upto) v holds reads =
      rw reads.3 (record {
        stands = batched r.is_open r.spans upto v reads.0 reads.1 holds.stands;
        cursor = moved-cursor r.is_open r.spans upto v reads.0 holds.stands;
      })
  holds-after r Lost v holds reads = record {
    stands = record { values = stands-values r.is_open r.spans v holds.stands; phase = refl };
    cursor = holds.cursor;
  }

  pub holds-first : Holds unread new_view
  unfolding Stands
  holds-first = record { stands = record { values = λ k. refl; phase = refl }; cursor = refl }

  open-fresh : (is_open : Bool) (spans : List Span) (v : View) → Stands is_open spans v → is_open ≡ true → (k : List ℕ) → fresh_part v.entries k ≡ in_at f h (cursor_of spans) k
  unfolding Stands
  open-fresh false spans v st is = cc
  open-fresh true [] v st is = absurd st
  open-fresh true (s ∷ older) v st is = st.tracks.fresh

  stands-phase : (is_open : Bool) (spans : List Span) (v : View) → Stands is_open spans v → v.phase ≡ phase_in f h is_open spans
  unfolding Stands
  stands-phase false spans v st = st.phase
  stands-phase true [] v st = absurd st
  stands-phase true (s ∷ older) v st = st.phase

  pub sighted-by : (r : Record) (v : View) → Holds r v → IsSighted f h r v
  sighted-by r v holds = record {
    entries = stands-values r.is_open r.spans v holds.stands;
    phase = stands-phase r.is_open r.spans v holds.stands;
    cursor = holds.cursor;
    fresh = open-fresh r.is_open r.spans v holds.stands;
  }
