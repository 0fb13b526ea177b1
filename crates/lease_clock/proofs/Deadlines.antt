-- What the tournament of the deadlines tells, and what an edit at one place does to it.
use Rattle.std.proofs.Common.{◌≡◌, ◌≢◌, ℕ, zero, suc, ◌+◌, ◌-◌, ◌*◌, ◌/◌, ◌^◌, ◌<◌, ◌≤◌, min, Option, None, Some, is_some, cond, filter, List, [], ◌∷◌, ◌++◌, map, length, get_or, set, true, false, inl, inr, refl, ap, ap₂, sym, ◌∙◌, subst, arith}
use Rattle.std.specs.List.{list_any, AllByRecursion}
use Rattle.std.specs.Prelude.{nat_le}
use Rattle.std.proofs.lemmas.Bool.{cases_eq, cases_lt, le-leb, lt-leb, or_left, or_right}
use Rattle.std.proofs.lemmas.List.{map-set, get_or-map, length-map, get_or-set_same, get_or-set_other, set-get_or, get_or_past}
use Rattle.store_api.specs.Leases.{Lease, is_due}
use Rattle.lease_clock.specs.declared.tournament.KeptLease.{KeptLease}
use Rattle.lease_clock.specs.Kept.{Entry, entries_of, entry_of, is_running, lease_of, leases_of, when, with_deadline}
use Rattle.lease_clock.specs.Least.{IsSettled, IsTournament, IsUnder, Here, Left, Right, Settles, deadline_at, least_at}
use Rattle.lease_clock.proofs.Ranks.{none_due}

three : (a b c d e f : ℕ) → a ≡ d → b ≡ e → c ≡ f → min (min a b) c ≡ min (min d e) f
three a b c d e f p q r = ap₂ min (ap₂ min p q) r

-- ---- a place is settled
module _ (live : List KeptLease) (i : ℕ) (lt : i < length live) (r : KeptLease) (read : r ≡ get_or live i r) (time : Option ℕ) (is : when time ≡ min (min (when r.deadline) (least_at live (2 * i + 1))) (least_at live (2 * i + 2))) where
  abbrev pub written : KeptLease
  written = record { number = r.number; seconds = r.seconds; deadline = r.deadline; least = time }

  same_entries : entries_of (set live i written) ≡ entries_of live
  same_entries =
      map-set entry_of live i written
      ∙ ap (set (entries_of live) i) (sym (get_or-map entry_of live i r (entry_of r) lt ∙ ap entry_of (sym read)))
      ∙ set-get_or (entries_of live) i (entry_of r)

  least_here : least_at (set live i written) i ≡ when time
  least_here =
      ap (λ (l : List ℕ). get_or l i (2 ^ 64)) (map-set (λ (at : KeptLease). when at.least) live i written)
      ∙ get_or-set_same (map (λ (at : KeptLease). when at.least) live) i (when time) (2 ^ 64) (omega (arith, lt, length-map live (λ (at : KeptLease). when at.least)))

  least_other : (j : ℕ) → j ≢ i → least_at (set live i written) j ≡ least_at live j
  least_other j ne =
      ap (λ (l : List ℕ). get_or l j (2 ^ 64)) (map-set (λ (at : KeptLease). when at.least) live i written)
      ∙ get_or-set_other (map (λ (at : KeptLease). when at.least) live) i j (when time) (2 ^ 64) ne

  same_deadline : (j : ℕ) → deadline_at (entries_of (set live i written)) j ≡ deadline_at (entries_of live) j
  same_deadline j = ap (λ (es : List Entry). deadline_at es j) same_entries

  deadline_here : deadline_at (entries_of (set live i written)) i ≡ when r.deadline
  deadline_here =
      same_deadline i
      ∙ get_or-map (λ (entry : Entry). when entry.deadline) (entries_of live) i (entry_of r) (2 ^ 64) (omega (arith, lt, length-map live entry_of))
      ∙ ap (λ (entry : Entry). when entry.deadline) (get_or-map entry_of live i r (entry_of r) lt ∙ ap entry_of (sym read))

  here : IsSettled (set live i written) i
  here =
      least_here ∙ is
      ∙ three _ _ _ _ _ _ (sym deadline_here) (sym (least_other (2 * i + 1) (λ e. omega (arith, e)))) (sym (least_other (2 * i + 2) (λ e. omega (arith, e))))

  pub settles : Settles live i (set live i written)
  settles = record {
    entries = same_entries;
    here = here;
    others = λ other left right was.
        elim (cases_eq other i) [
          | inl e ↦ subst (IsSettled (set live i written)) (sym e) here
          | inr ne ↦
              least_other other ne ∙ was
              ∙ three _ _ _ _ _ _ (sym (same_deadline other)) (sym (least_other (2 * other + 1) left)) (sym (least_other (2 * other + 2) right))
        ];
  }

-- ---- an edit at a place leaves the others settled
least_push : (items : List KeptLease) (w : KeptLease) → w.least ≡ None → (j : ℕ) → least_at (items ++ w ∷ []) j ≡ least_at items j
least_push [] w e zero = ap when e
least_push [] w e (suc j) = refl
least_push (x ∷ xs) w e zero = refl
least_push (x ∷ xs) w e (suc j) = least_push xs w e j

deadline_push : (items : List KeptLease) (w : KeptLease) (j : ℕ) → j ≢ length items → deadline_at (entries_of (items ++ w ∷ [])) j ≡ deadline_at (entries_of items) j
deadline_push [] w zero ne = absurd (ne refl)
deadline_push [] w (suc j) ne = refl
deadline_push (x ∷ xs) w zero ne = refl
deadline_push (x ∷ xs) w (suc j) ne = deadline_push xs w j (λ e. ne (omega (arith, e)))

pub settled_push : (items : List KeptLease) (w : KeptLease) → w.least ≡ None → IsTournament items → (i : ℕ) → i ≢ length items → IsSettled (items ++ w ∷ []) i
settled_push items w e settled i ne =
    least_push items w e i ∙ settled i
    ∙ three _ _ _ _ _ _ (sym (deadline_push items w i ne)) (sym (least_push items w e (2 * i + 1))) (sym (least_push items w e (2 * i + 2)))

-- an entry whose deadline is written is the entry with another deadline
pub with_set : (es : List Entry) (i : ℕ) (t : Option ℕ) (d : Entry) → let e = get_or es i d in set es i (record e { deadline = t }) ≡ with_deadline i t es
with_set [] i t d = refl
with_set (x ∷ xs) zero t d = refl
with_set (x ∷ xs) (suc i) t d = ap (λ (l : List Entry). x ∷ l) (with_set xs i t d)

module _ (items : List KeptLease) (i : ℕ) (r : KeptLease) (time : Option ℕ) (lt : i < length items) (read : r ≡ get_or items i r) where
  abbrev pub moved : KeptLease
  moved = record { number = r.number; seconds = r.seconds; deadline = time; least = r.least }

  least_same : (k : ℕ) → least_at (set items i moved) k ≡ least_at items k
  least_same k = ap (λ (l : List ℕ). get_or l k (2 ^ 64)) (
      map-set (λ (at : KeptLease). when at.least) items i moved
      ∙ ap (set (map (λ (at : KeptLease). when at.least) items) i) (sym (get_or-map (λ (at : KeptLease). when at.least) items i r (when r.least) lt ∙ ap (λ (at : KeptLease). when at.least) (sym read)))
      ∙ set-get_or (map (λ (at : KeptLease). when at.least) items) i (when r.least))

  entries_moved : entries_of (set items i moved) ≡ set (entries_of items) i (entry_of moved)
  entries_moved = map-set entry_of items i moved

  pub entries_with : entries_of (set items i moved) ≡ with_deadline i time (entries_of items)
  entries_with =
      entries_moved
      ∙ ap (λ (e : Entry). set (entries_of items) i (record e { deadline = time })) (ap entry_of read ∙ sym (get_or-map entry_of items i r (entry_of r) lt))
      ∙ with_set (entries_of items) i time (entry_of r)

  pub settled_set : IsTournament items → (j : ℕ) → j ≢ i → IsSettled (set items i moved) j
  settled_set settled j ne =
      let other : deadline_at (entries_of (set items i moved)) j ≡ deadline_at (entries_of items) j =
      ap (λ (es : List Entry). deadline_at es j) entries_moved
      ∙ ap (λ (l : List ℕ). get_or l j (2 ^ 64)) (map-set (λ (entry : Entry). when entry.deadline) (entries_of items) i (entry_of moved))
      ∙ get_or-set_other (map (λ (entry : Entry). when entry.deadline) (entries_of items)) i j (when time) (2 ^ 64) ne in
      least_same j ∙ settled j ∙ three _ _ _ _ _ _ (sym other) (sym (least_same (2 * j + 1))) (sym (least_same (2 * j + 2)))

-- ---- what the first place tells
-- the place that a place stands right under
data Up (i : ℕ) : Type 0 where
  even : (p : ℕ) → i ≡ 2 * p → Up i
  odd : (p : ℕ) → i ≡ 2 * p + 1 → Up i

half : (i : ℕ) → Up i
half zero = even 0 refl
half (suc i) = elim (half i) [ even p e ↦ odd p (omega (arith, e)) | odd p e ↦ even (p + 1) (omega (arith, e)) ]

-- a lease for places that have none
abbrev pub no_lease : KeptLease
no_lease = record { number = 0; seconds = 0; deadline = None; least = None }

-- the deadline of a place is that of its lease
pub deadline_is : (kept : List KeptLease) (i : ℕ) (d : KeptLease) → i < length kept → let at = get_or kept i d in deadline_at (entries_of kept) i ≡ when at.deadline
deadline_is kept i d lt =
    get_or-map (λ (entry : Entry). when entry.deadline) (entries_of kept) i (entry_of d) (2 ^ 64) (omega (arith, lt, length-map kept entry_of))
    ∙ ap (λ (entry : Entry). when entry.deadline) (get_or-map entry_of kept i d (entry_of d) lt)

-- a place behind the end keeps nothing
past : (live : List KeptLease) (i : ℕ) → length live ≤ i → least_at live i ≡ 2 ^ 64
past live i le = get_or_past (map (λ (at : KeptLease). when at.least) live) i (2 ^ 64) (omega (arith, le, length-map live (λ (at : KeptLease). when at.least)))

module _ (live : List KeptLease) (t : ℕ) (within : t < 2 ^ 64) where
  pub inside : (i : ℕ) → least_at live i ≤ t → i < length live
  inside i le = elim (cases_lt i (length live)) [ inl lt ↦ lt | inr behind ↦ absurd (omega (arith, past live i behind)) ]

before_all : (t : ℕ) (es : List Entry) → ((j : ℕ) → j < length es → t ≤ deadline_at es j) → AllByRecursion (λ (lease : Lease). t ≤ lease.deadline) (leases_of es)
before_all t [] h = tt
before_all t (x ∷ xs) h =
    let others = before_all t xs (λ j lt. h (suc j) (omega arith)) in
    elim (is_some x.deadline) as (λ b. AllByRecursion (λ (lease : Lease). t ≤ lease.deadline) (map lease_of (cond b (x ∷ filter is_running xs) (filter is_running xs))))
    [ true ↦ (h 0 (omega arith), others) | false ↦ others ]

module _ (t : ℕ) (within : t < 2 ^ 64) where
  -- an entry that is due is a live lease that is due
  pub due_at : (es : List Entry) (i : ℕ) → i < length es → deadline_at es i ≤ t → list_any (is_due t) (leases_of es) ≡ true
  due_at [] i lt le = absurd (omega arith)
  due_at (x ∷ xs) zero lt le =
      elim x.deadline as (λ o. when o ≤ t → list_any (is_due t) (map lease_of (cond (is_some o) (record { number = x.number; seconds = x.seconds; deadline = o } ∷ filter is_running xs) (filter is_running xs))) ≡ true) [
        | None ↦ λ h. absurd (omega (arith, h, within))
        | Some deadline ↦ λ h. or_left _ _ (le-leb deadline t h)
      ] le
  due_at (x ∷ xs) (suc i) lt le =
      let others = due_at xs i (omega arith) le in
      elim (is_some x.deadline) as (λ b. list_any (is_due t) (map lease_of (cond b (x ∷ filter is_running xs) (filter is_running xs))) ≡ true)
      [ true ↦ or_right _ _ others | false ↦ others ]

module _ (live : List KeptLease) (settled : IsTournament live) where
  -- the first place keeps no more than any other
  under : (fuel i : ℕ) → i ≤ fuel → least_at live 0 ≤ least_at live i
  under fuel zero le = omega arith
  under zero (suc i) le = absurd (omega arith)
  under (suc fuel) (suc i) le =
      elim (half i) [
        | even p e ↦ let at : suc i ≡ 2 * p + 1 = omega (arith, e) in omega (arith, under fuel p (omega (arith, e)), settled p, ap (least_at live) at)
        | odd p e ↦ let at : suc i ≡ 2 * p + 2 = omega (arith, e) in omega (arith, under fuel p (omega (arith, e)), settled p, ap (least_at live) at)
      ]

  first_least : (i : ℕ) → least_at live 0 ≤ deadline_at (entries_of live) i
  first_least i = omega (arith, under i i (omega arith), settled i)

  -- where it is later than the time, no lease is due
  pub none_due_yet : (t : ℕ) → t < least_at live 0 → list_any (is_due t) (leases_of (entries_of live)) ≡ false
  none_due_yet t later = none_due t (least_at live 0) (leases_of (entries_of live)) (before_all (least_at live 0) (entries_of live) (λ j lt. first_least j)) later

  -- some lease has the deadline that a place keeps
  module _ (t : ℕ) (within : t < 2 ^ 64) where
    reached : (fuel i : ℕ) → length live ≤ i + fuel → least_at live i ≤ t → list_any (is_due t) (leases_of (entries_of live)) ≡ true
    reached zero i enough le = absurd (omega (arith, inside live t within i le))
    reached (suc fuel) i enough le =
        elim (cases_lt (least_at live i) (deadline_at (entries_of live) i)) [
          | inr own ↦ due_at t within (entries_of live) i (omega (arith, inside live t within i le, length-map live entry_of)) (omega (arith, own, le))
          | inl below ↦
              elim (cases_lt (least_at live i) (least_at live (2 * i + 1))) [
                | inr left ↦ reached fuel (2 * i + 1) (omega arith) (omega arith)
                | inl above ↦
                    let right : least_at live (2 * i + 2) ≤ least_at live i = omega (arith, settled i) in
                    reached fuel (2 * i + 2) (omega arith) (omega arith)
              ]
        ]

    -- a lease is due exactly where what the first place keeps is
    pub due_by_first : nat_le (least_at live 0) t ≡ list_any (is_due t) (leases_of (entries_of live))
    due_by_first =
        elim (cases_lt t (least_at live 0)) [
          | inl later ↦ lt-leb (least_at live 0) t later ∙ sym (none_due_yet t later)
          | inr due ↦ le-leb (least_at live 0) t due ∙ sym (reached (length live) 0 (omega arith) due)
        ]

-- ---- places under a place
pub at_least : (p i : ℕ) → IsUnder p i → p ≤ i
at_least p i Here = omega arith
at_least p i (Left j under) = omega (arith, at_least p j under)
at_least p i (Right j under) = omega (arith, at_least p j under)

-- all are under the first one
pub all_under : (fuel i : ℕ) → i ≤ fuel → IsUnder 0 i
all_under fuel zero le = Here
all_under zero (suc i) le = absurd (omega arith)
all_under (suc fuel) (suc i) le =
    elim (half i) [
      | even p e ↦ subst (IsUnder 0) (omega (arith, e)) (Left p (all_under fuel p (omega (arith, e))))
      | odd p e ↦ subst (IsUnder 0) (omega (arith, e)) (Right p (all_under fuel p (omega (arith, e))))
    ]

-- one under a place is the place, or under one of the two right under it
pub data Part (p i : ℕ) : Type 0 where
  itself : i ≡ p → Part p i
  on_left : IsUnder (2 * p + 1) i → Part p i
  on_right : IsUnder (2 * p + 2) i → Part p i

pub part : (p i : ℕ) → IsUnder p i → Part p i
part p i Here = itself refl
part p i (Left j under) =
    elim (part p j under) [
      | itself e ↦ on_left (subst (λ (k : ℕ). IsUnder (2 * p + 1) k) (omega (arith, e)) Here)
      | on_left left ↦ on_left (Left j left)
      | on_right right ↦ on_right (Left j right)
    ]
part p i (Right j under) =
    elim (part p j under) [
      | itself e ↦ on_right (subst (λ (k : ℕ). IsUnder (2 * p + 2) k) (omega (arith, e)) Here)
      | on_left left ↦ on_left (Right j left)
      | on_right right ↦ on_right (Right j right)
    ]

-- a place keeps no more than those under it
pub least_under : (live : List KeptLease) → IsTournament live → (p i : ℕ) → IsUnder p i → least_at live p ≤ least_at live i
least_under live settled p i Here = omega arith
least_under live settled p i (Left j under) = omega (arith, least_under live settled p j under, settled j)
least_under live settled p i (Right j under) = omega (arith, least_under live settled p j under, settled j)

-- ---- walks up, and from the end
module _ (live new : List KeptLease) (p : ℕ) (settles : Settles live p new) where
  -- after a step up, all are settled but the one that the place stands under
  pub up_settled : (old : ℕ) → 0 < old → p ≡ (old - 1) / 2 → ((i : ℕ) → 2 * i + 1 ≢ old → 2 * i + 2 ≢ old → IsSettled live i)
      → (i : ℕ) → 2 * i + 1 ≢ p → 2 * i + 2 ≢ p → IsSettled new i
  up_settled old some is others i left right =
      elim (cases_eq i p) [
        | inl e ↦ subst (IsSettled new) (sym e) settles.here
        | inr ne ↦ settles.others i left right (others i (λ e. ne (omega (arith, e, is))) (λ e. ne (omega (arith, e, is))))
      ]

  pub from_settled : ((i : ℕ) → i ≢ p → IsSettled live i) → (i : ℕ) → 2 * i + 1 ≢ p → 2 * i + 2 ≢ p → IsSettled new i
  from_settled others i left right =
      elim (cases_eq i p) [ inl e ↦ subst (IsSettled new) (sym e) settles.here | inr ne ↦ settles.others i left right (others i ne) ]

  -- and after a step from the end, all from the place on
  pub back_settled : (end : ℕ) → end ≡ p + 1 → ((i : ℕ) → end ≤ i → IsSettled live i) → (i : ℕ) → p ≤ i → IsSettled new i
  back_settled end is last i le =
      elim (cases_eq i p) [
        | inl e ↦ subst (IsSettled new) (sym e) settles.here
        | inr ne ↦ settles.others i (λ e. omega (arith, e, le)) (λ e. omega (arith, e, le)) (last i (elim (cases_lt p i) [ inl above ↦ omega (arith, above, is) | inr below ↦ absurd (ne (omega (arith, below, le))) ]))
      ]
