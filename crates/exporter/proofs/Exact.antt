-- What is attached to the lease of an exporter that nobody disturbs.
use Rattle.std.proofs.Common.{◌≡◌, ◌≢◌, ℕ, List, [], ◌∷◌, ◌++◌, ◌==◌, map, filter, All, Bool, true, false, ◌||◌, cond, Option, None, Some, is_some, refl, sym, ap, subst, ◌∙◌, arith}
use Rattle.std.specs.Cmp.{eq_by_cmp_equiv}
use Rattle.std.specs.Cmp.Lexicographic.{nat_list_cmp_total}
use Rattle.std.specs.FinMap.{contains_key, contains_key-keys, get, get-insert, get-remove, get-retain_keys, insert, keys, remove, same_map, slice_cmp-IsAntisymmetric, nat_cmp-IsAntisymmetric}
use Rattle.std.specs.List.{list_any}
use Rattle.std.proofs.lemmas.List.Elements.{All-head, All-tail}
use Rattle.std.proofs.lemmas.Bool.Decides.{nat_tests}
use Rattle.std.proofs.lemmas.Map.Lookups.{exact_bytes}
use Rattle.std.proofs.lemmas.List.Folds.{list_any-append}
use Rattle.mesh_base.specs.Order.{same_bytes}
use Rattle.store_api.specs.Attached.{attached_keys, deletions, is_lease, lapsed, lease_after, lease_after_all, lease_of}
use Rattle.store_api.specs.History.{History, Pairing, after_change, after_changes, committed, map_at, revision, in_ranges, with_revision}
use Rattle.store_api.specs.declared.change.Change.{Change}
use Rattle.store_api.specs.declared.change.Change.TheVariants as change
use Rattle.store_api.specs.declared.change.Op.{Op}
use Rattle.store_api.proofs.CallerLemmas.{get-map_at}
use Rattle.mesh_text.specs.declared.kind.Kind.{Kind}
use Rattle.key_paths.specs.declared.hop.Hop.TheVariants.{State}
use Rattle.key_paths.specs.Paths.{kinds, config_key, mark_key, record_ranges}
use Rattle.exporter.specs.declared.item.Item.{Item}
use Rattle.exporter.specs.declared.item.Item.TheVariants as item
use Rattle.exporter.specs.Runs.{Step, Declares, Withdraws, Writes, Loses, Others, Lapses, Run, after_step, after_steps, started, exported, attached_pairs, IsApart, IsAlone, ExportsExactly}
use Rattle.exporter.specs.State.{Export, IsExport, is_record, with_key, everything, record_item, mark_item, marked_by, unmarked, op_of, config_value, mark_value}
use Rattle.exporter.proofs.Maps.{AllInside, same_bytes_are, set_as, removed_as}
use Rattle.exporter.proofs.Exports.{eqb, Fits, IsInside, get_exported, key_in, op_is, self, value_in, mark_or}
use Rattle.exporter.proofs.Histories.{live_now, live_with, lease_with, lease_for, live_committed, lease_committed}

-- an exporter that runs under a lease, but for its name and number
abbrev core : Export → ℕ → Pairing → List Item → List Bool → Export
core s lease declared queue marked = record {
  cluster = s.cluster;
  number = s.number;
  seconds = s.seconds;
  declared = declared;
  queue = queue;
  lease = Some lease;
  marked = marked;
}

-- an item with this key waits
abbrev waits : List ℕ → List ℕ → List Item → Bool
waits c k queue = list_any (λ (i : Item). same_bytes (key_in c i) k) queue

-- what holds of a key that does not wait, by whether it is exported in the end and what is exported
-- under it now
abbrev Claims : Bool → Option (List ℕ) → ℕ → Option ℕ → Option (List ℕ) → Type 0
Claims own None lease at live = at ≢ Some lease
Claims true (Some value) lease at live = (at ≡ Some lease) × (live ≡ Some value)
Claims false (Some value) lease at live = Unit {0}

-- each item fits
abbrev AllFit : List ℕ → List Item → Type 0
AllFit c [] = Unit {0}
AllFit c (i ∷ queue) = Fits c i × AllFit c queue

fit_more : (c : List ℕ) (queue : List Item) (key : List ℕ) → AllFit c queue → IsInside c key → AllFit c (queue ++ item.Record key ∷ [])
fit_more c [] key fits inside = (inside, tt)
fit_more c (i ∷ queue) key fits inside = (fits.0, fit_more c queue key fits.1 inside)

or_false : (a b : Bool) → a || b ≡ false → (a ≡ false) × (b ≡ false)
or_false true b h = cc
or_false false b h = (refl, h)

-- ---- which keys wait
module _ (c : List ℕ) (key k : List ℕ) where
  one_waits : (i : Item) → is_record key i ≡ true → same_bytes (key_in c i) k ≡ false → same_bytes key k ≡ false
  one_waits item.Config is none = cc
  one_waits (item.Mark kind) is none = cc
  one_waits (item.Record other) is none = ap (λ (x : List ℕ). same_bytes x k) (sym (same_bytes_are other key is)) ∙ none

  not_there : (queue : List Item) → list_any (is_record key) queue ≡ true → waits c k queue ≡ false → same_bytes key k ≡ false
  not_there [] there none = cc
  not_there (i ∷ queue) there none =
      let both : (same_bytes (key_in c i) k ≡ false) × (waits c k queue ≡ false) = or_false (same_bytes (key_in c i) k) (waits c k queue) none in
      elim (is_record key i) as (λ b. is_record key i ≡ b → b || list_any (is_record key) queue ≡ true → same_bytes key k ≡ false) [
        | true ↦ λ is _. one_waits i is both.0
        | false ↦ λ _ later. not_there queue later both.1
      ] refl there

  -- what does not wait behind a key more did not wait before, and is another key
  waits_key : (queue : List Item) → waits c k (with_key key queue) ≡ false → (waits c k queue ≡ false) × (same_bytes key k ≡ false)
  waits_key queue h = elim (list_any (is_record key) queue) as (λ b. list_any (is_record key) queue ≡ b → waits c k (cond b queue (queue ++ item.Record key ∷ [])) ≡ false → (waits c k queue ≡ false) × (same_bytes key k ≡ false)) [
    | true ↦ λ there none. (none, not_there queue there none)
    | false ↦ λ _ none. (let both : (waits c k queue ≡ false) × (same_bytes key k || false ≡ false) = or_false (waits c k queue) (same_bytes key k || false) (sym (list_any-append (λ (i : Item). same_bytes (key_in c i) k) queue (item.Record key ∷ [])) ∙ none) in (both.0, (or_false (same_bytes key k) false both.1).0))
  ] refl h

number_same : (a b : ℕ) → a == b ≡ true → a ≡ b
number_same a b h = grind (arith, nat_tests)

-- ---- what others do
free : (lease : ℕ) (value : Option (List ℕ)) (at : Option ℕ) (live : Option (List ℕ)) → at ≢ Some lease → Claims false value lease at live
free lease None at live other = other
free lease (Some v) at live other = tt

-- a key that was written
written_claims : (own : Bool) (lease : ℕ) (value : Option (List ℕ)) → Claims own value lease (lease_for lease value) value
written_claims own lease None = λ e. cc
written_claims true lease (Some v) = (refl, refl)
written_claims false lease (Some v) = tt

module _ (own : Pairing) (lease : ℕ) (k : List ℕ) (value : Option (List ℕ)) where
  abbrev Claimed : Option ℕ → Option (List ℕ) → Type 0
  Claimed at live = Claims (contains_key own k) value lease at live

  one_change : (c : Change) (at : Option ℕ) (live : Option (List ℕ)) → IsApart own lease c → Claimed at live → Claimed (lease_after k at c) (after_change k live c)
  one_change (change.Put key v named) at live apart claims = elim (same_bytes key k) as (λ b. same_bytes key k ≡ b → Claimed (cond b named at) (cond b (Some v) live)) [
    | true ↦ λ e. subst (λ (b : Bool). Claims b value lease named (Some v)) (sym (ap (λ (x : List ℕ). contains_key own x) (sym (same_bytes_are key k e)) ∙ apart.0)) (free lease value named (Some v) apart.1)
    | false ↦ λ _. claims
  ] refl
  one_change (change.Delete key) at live apart claims = elim (same_bytes key k) as (λ b. same_bytes key k ≡ b → Claimed (cond b None at) (cond b None live)) [
    | true ↦ λ e. subst (λ (b : Bool). Claims b value lease None None) (sym (ap (λ (x : List ℕ). contains_key own x) (sym (same_bytes_are key k e)) ∙ apart)) (free lease value None None (λ x. cc))
    | false ↦ λ _. claims
  ] refl

  all_changes : (changes : List Change) (at : Option ℕ) (live : Option (List ℕ)) → All (IsApart own lease) changes → Claimed at live → Claimed (lease_after_all k at changes) (after_changes k live changes)
  all_changes [] at live apart claims = claims
  all_changes (c ∷ changes) at live apart claims = all_changes changes (lease_after k at c) (after_change k live c) (All-tail (IsApart own lease) c changes apart) (one_change c at live (All-head (IsApart own lease) c changes apart) claims)

  -- ---- a lapse of another lease
  abbrev among : List (List ℕ) → Bool
  among ks = list_any (λ (key : List ℕ). same_bytes key k) ks

  untouched_lease : (ks : List (List ℕ)) (at : Option ℕ) → among ks ≡ false → lease_after_all k at (deletions ks) ≡ at
  untouched_lease [] at none = refl
  untouched_lease (key ∷ ks) at none =
      let both : (same_bytes key k ≡ false) × (among ks ≡ false) = or_false (same_bytes key k) (among ks) none in
      ap (λ (b : Bool). lease_after_all k (cond b None at) (deletions ks)) both.0 ∙ untouched_lease ks at both.1

  untouched_live : (ks : List (List ℕ)) (live : Option (List ℕ)) → among ks ≡ false → after_changes k live (deletions ks) ≡ live
  untouched_live [] live none = refl
  untouched_live (key ∷ ks) live none =
      let both : (same_bytes key k ≡ false) × (among ks ≡ false) = or_false (same_bytes key k) (among ks) none in
      ap (λ (b : Bool). after_changes k (cond b None live) (deletions ks)) both.0 ∙ untouched_live ks live both.1

  still_other : (ks : List (List ℕ)) (at : Option ℕ) → at ≢ Some lease → lease_after_all k at (deletions ks) ≢ Some lease
  still_other [] at other = other
  still_other (key ∷ ks) at other = elim (same_bytes key k) as (λ b. lease_after_all k (cond b None at) (deletions ks) ≢ Some lease) [
    | true ↦ still_other ks None (λ e. cc)
    | false ↦ still_other ks at other
  ]

  passes : (p : List ℕ → Bool) (xs : List (List ℕ)) → among (filter p xs) ≡ true → p k ≡ true
  passes p [] h = cc
  passes p (x ∷ xs) h = elim (p x) as (λ b. p x ≡ b → among (cond b (x ∷ filter p xs) (filter p xs)) ≡ true → p k ≡ true) [
    | true ↦ λ is there. (elim (same_bytes x k) as (λ b. same_bytes x k ≡ b → b || among (filter p xs) ≡ true → p k ≡ true) [
      | true ↦ λ e _. ap p (sym (same_bytes_are x k e)) ∙ is
      | false ↦ λ _ later. passes p xs later
    ] refl there)
    | false ↦ λ _ later. passes p xs later
  ] refl h

  lease_is : (other : ℕ) (at : Option ℕ) → is_lease other at ≡ true → other ≢ lease → at ≢ Some lease
  lease_is other None h differ = cc
  lease_is other (Some l) h differ = λ e. (let one : l ≡ lease = cc in differ (sym (number_same l other h) ∙ one))

  another : (b : Bool) (v : Option (List ℕ)) (at at' : Option ℕ) (live live' : Option (List ℕ)) → Claims b v lease at live → at ≢ Some lease → at' ≢ Some lease → Claims b v lease at' live'
  another b None at at' live live' claims ours ours' = ours'
  another true (Some v) at at' live live' claims ours ours' = absurd (ours claims.0)
  another false (Some v) at at' live live' claims ours ours' = tt

  lapse_claims : (history : History) (other : ℕ) → other ≢ lease → Claimed (lease_of history k) (live_now history k)
      → Claimed (lease_after_all k (lease_of history k) (deletions (attached_keys history other))) (after_changes k (live_now history k) (deletions (attached_keys history other)))
  lapse_claims history other differ claims = by_among (among (attached_keys history other)) refl
    where
      by_among : (b : Bool) → among (attached_keys history other) ≡ b → Claimed (lease_after_all k (lease_of history k) (deletions (attached_keys history other))) (after_changes k (live_now history k) (deletions (attached_keys history other)))
      by_among false none =
          subst (λ (live : Option (List ℕ)). Claimed (lease_after_all k (lease_of history k) (deletions (attached_keys history other))) live) (sym (untouched_live (attached_keys history other) (live_now history k) none))
          (subst (λ (at : Option ℕ). Claimed at (live_now history k)) (sym (untouched_lease (attached_keys history other) (lease_of history k) none)) claims)
      by_among true there =
          let not_ours : lease_of history k ≢ Some lease = lease_is other (lease_of history k) (passes (λ (x : List ℕ). is_lease other (lease_of history x)) (keys (map_at history (revision history))) there) differ in
          another (contains_key own k) value (lease_of history k) (lease_after_all k (lease_of history k) (deletions (attached_keys history other))) (live_now history k) (after_changes k (live_now history k) (deletions (attached_keys history other))) claims not_ours (still_other (attached_keys history other) (lease_of history k) not_ours)

-- ---- runs
module _ (s : Export) (lease : ℕ) (own : Pairing) where
  abbrev now : Pairing → List ℕ → Option (List ℕ)
  now declared k = value_in (core s lease declared [] unmarked) k

  record Holds (declared : Pairing) (queue : List Item) (h : History) : Type 0 where
    records : AllInside (λ (k : List ℕ). in_ranges (record_ranges s.cluster State) k) declared
    fits : AllFit s.cluster queue
    claims : (k : List ℕ) → waits s.cluster k queue ≡ false → Claims (contains_key own k) (now declared k) lease (lease_of h k) (live_now h k)

  abbrev at : Pairing → List Item → List Bool → History → Run
  at declared queue marked h = record { exporter = core s lease declared queue marked; history = h }

  record Reaches (r : Run) : Type 0 where
    declared : Pairing
    queue : List Item
    marked : List Bool
    history : History
    is : r ≡ at declared queue marked history
    holds : Holds declared queue history

  -- what is exported under other keys than one that is set or removed
  now_set : (declared : Pairing) (key v k : List ℕ) → same_bytes key k ≡ false → now (insert declared key v) k ≡ now declared k
  now_set declared key v k other = ap (λ (o : Option (List ℕ)). cond (eqb k (config_key s.cluster)) (Some (config_value s.number)) (mark_or s.cluster kinds k o))
      (get-insert nat_list_cmp_total declared key v k ∙ ap (λ (b : Bool). cond b (Some v) (get declared k)) ((eq_by_cmp_equiv nat_list_cmp_total).symm k key ∙ other))

  now_removed : (declared : Pairing) (key k : List ℕ) → same_bytes key k ≡ false → now (remove declared key) k ≡ now declared k
  now_removed declared key k other = ap (λ (o : Option (List ℕ)). cond (eqb k (config_key s.cluster)) (Some (config_value s.number)) (mark_or s.cluster kinds k o))
      (get-remove nat_list_cmp_total declared key k ∙ ap (λ (b : Bool). cond b None (get declared k)) ((eq_by_cmp_equiv nat_list_cmp_total).symm k key ∙ other))

  fit_with_key : (key : List ℕ) (queue : List Item) → AllFit s.cluster queue → IsInside s.cluster key → AllFit s.cluster (with_key key queue)
  fit_with_key key queue fits inside = elim (list_any (is_record key) queue) as (λ b. AllFit s.cluster (cond b queue (queue ++ item.Record key ∷ []))) [
    | true ↦ fits
    | false ↦ fit_more s.cluster queue key fits inside
  ]

  -- after a key that was set or removed waits
  holds_waiting : (declared declared' : Pairing) (key : List ℕ) (queue : List Item) (h : History) → Holds declared queue h → IsInside s.cluster key
      → AllInside (λ (k : List ℕ). in_ranges (record_ranges s.cluster State) k) declared' → ((k : List ℕ) → same_bytes key k ≡ false → now declared' k ≡ now declared k)
      → Holds declared' (with_key key queue) h
  holds_waiting declared declared' key queue h holds inside records same = record {
    records = records;
    fits = fit_with_key key queue holds.fits inside;
    claims = λ k none. (let both : (waits s.cluster k queue ≡ false) × (same_bytes key k ≡ false) = waits_key s.cluster key k queue none in
        subst (λ (o : Option (List ℕ)). Claims (contains_key own k) o lease (lease_of h k) (live_now h k)) (sym (same k both.1)) (holds.claims k both.0));
  }

  declares : (key v : List ℕ) (declared : Pairing) (queue : List Item) (marked : List Bool) (h : History) → Holds declared queue h → IsInside s.cluster key → Reaches (after_step (Declares key v) (at declared queue marked h))
  declares key v declared queue marked h holds inside = record {
    declared = insert declared key v;
    queue = with_key key queue;
    marked = marked;
    history = h;
    is = refl;
    holds = holds_waiting declared (insert declared key v) key queue h holds inside (set_as declared (insert declared key v) key v (λ (k : List ℕ). in_ranges (record_ranges s.cluster State) k) refl inside holds.records) (now_set declared key v);
  }

  withdraws : (key : List ℕ) (declared : Pairing) (queue : List Item) (marked : List Bool) (h : History) → Holds declared queue h → Reaches (after_step (Withdraws key) (at declared queue marked h))
  withdraws key declared queue marked h holds =
      elim (contains_key declared key) as (λ b. contains_key declared key ≡ b → Reaches (record { exporter = cond b (core s lease (remove declared key) (with_key key queue) marked) (core s lease declared queue marked); history = h })) [
        | true ↦ λ there. record {
          declared = remove declared key;
          queue = with_key key queue;
          marked = marked;
          history = h;
          is = refl;
          holds = holds_waiting declared (remove declared key) key queue h holds (holds.records key there) (removed_as declared (remove declared key) key (λ (k : List ℕ). in_ranges (record_ranges s.cluster State) k) refl holds.records) (now_removed declared key);
        }
        | false ↦ λ _. record { declared = declared; queue = queue; marked = marked; history = h; is = refl; holds = holds }
      ] refl

  -- what a commit of an item leaves under a key
  module _ (i : Item) (declared : Pairing) (queue : List Item) (marked : List Bool) (h : History) (fits : Fits s.cluster i) where
    abbrev key : List ℕ
    key = key_in s.cluster i

    abbrev after : History
    after = committed h (op_of (core s lease declared queue marked) i ∷ [])

    live_after : (k : List ℕ) → live_now after k ≡ cond (same_bytes key k) (now declared key) (live_now h k)
    live_after k = ap (λ (o : Op). live_now (committed h (o ∷ [])) k) (op_is (core s lease declared queue marked) i fits) ∙ live_committed h key (now declared key) lease k

    lease_after_commit : (k : List ℕ) → lease_of after k ≡ cond (same_bytes key k) (lease_for lease (now declared key)) (lease_of h k)
    lease_after_commit k = ap (λ (o : Op). lease_of (committed h (o ∷ [])) k) (op_is (core s lease declared queue marked) i fits) ∙ lease_committed h key (now declared key) lease k

    -- of another key
    other_claims : (k : List ℕ) → same_bytes key k ≡ false → Claims (contains_key own k) (now declared k) lease (lease_of h k) (live_now h k) → Claims (contains_key own k) (now declared k) lease (lease_of after k) (live_now after k)
    other_claims k other claims =
        let at_is : lease_of after k ≡ lease_of h k = lease_after_commit k ∙ ap (λ (b : Bool). cond b (lease_for lease (now declared key)) (lease_of h k)) other in
        let live_is : live_now after k ≡ live_now h k = live_after k ∙ ap (λ (b : Bool). cond b (now declared key) (live_now h k)) other in
        subst (λ (o : Option ℕ). Claims (contains_key own k) (now declared k) lease o (live_now after k)) (sym at_is)
        (subst (λ (o : Option (List ℕ)). Claims (contains_key own k) (now declared k) lease (lease_of h k) o) (sym live_is) claims)

    -- of the item's own key
    own_claims : (k : List ℕ) → same_bytes key k ≡ true → Claims (contains_key own k) (now declared k) lease (lease_of after k) (live_now after k)
    own_claims k same =
        let value_is : now declared key ≡ now declared k = ap (now declared) (same_bytes_are key k same) in
        let at_is : lease_of after k ≡ lease_for lease (now declared k) = lease_after_commit k ∙ ap (λ (b : Bool). cond b (lease_for lease (now declared key)) (lease_of h k)) same ∙ ap (lease_for lease) value_is in
        let live_is : live_now after k ≡ now declared k = live_after k ∙ ap (λ (b : Bool). cond b (now declared key) (live_now h k)) same ∙ value_is in
        subst (λ (o : Option ℕ). Claims (contains_key own k) (now declared k) lease o (live_now after k)) (sym at_is)
        (subst (λ (o : Option (List ℕ)). Claims (contains_key own k) (now declared k) lease (lease_for lease (now declared k)) o) (sym live_is) (written_claims (contains_key own k) lease (now declared k)))

    commit_claims : (k : List ℕ) → (same_bytes key k ≡ false → Claims (contains_key own k) (now declared k) lease (lease_of h k) (live_now h k)) → Claims (contains_key own k) (now declared k) lease (lease_of after k) (live_now after k)
    commit_claims k claims = elim (same_bytes key k) as (λ b. same_bytes key k ≡ b → Claims (contains_key own k) (now declared k) lease (lease_of after k) (live_now after k)) [
      | true ↦ λ same. own_claims k same
      | false ↦ λ other. other_claims k other (claims other)
    ] refl

  writes : (declared : Pairing) (queue : List Item) (marked : List Bool) (h : History) → Holds declared queue h → Reaches (after_step Writes (at declared queue marked h))
  writes declared [] marked h holds = record { declared = declared; queue = []; marked = marked; history = h; is = refl; holds = holds }
  writes declared (i ∷ queue) marked h holds = record {
    declared = declared;
    queue = queue;
    marked = marked_by (i ∷ queue) marked;
    history = committed h (op_of (core s lease declared (i ∷ queue) marked) i ∷ []);
    is = refl;
    holds = record {
      records = holds.records;
      fits = holds.fits.1;
      claims = λ k none. commit_claims i declared (i ∷ queue) marked h holds.fits.0 k (λ other. holds.claims k (ap (λ (b : Bool). b || waits s.cluster k queue) other ∙ none));
    };
  }

  loses : (declared : Pairing) (queue : List Item) (marked : List Bool) (h : History) → Holds declared queue h → Reaches (after_step Loses (at declared queue marked h))
  loses declared [] marked h holds = record { declared = declared; queue = []; marked = marked; history = h; is = refl; holds = holds }
  loses declared (i ∷ queue) marked h holds = record {
    declared = declared;
    queue = i ∷ queue;
    marked = marked;
    history = committed h (op_of (core s lease declared (i ∷ queue) marked) i ∷ []);
    is = refl;
    holds = record {
      records = holds.records;
      fits = holds.fits;
      claims = λ k none. other_claims i declared (i ∷ queue) marked h holds.fits.0 k (or_false (same_bytes (key_in s.cluster i) k) (waits s.cluster k queue) none).0 (holds.claims k none);
    };
  }

  others : (changes : List Change) (declared : Pairing) (queue : List Item) (marked : List Bool) (h : History) → Holds declared queue h → All (IsApart own lease) changes → Reaches (after_step (Others changes) (at declared queue marked h))
  others changes declared queue marked h holds apart = record {
    declared = declared;
    queue = queue;
    marked = marked;
    history = with_revision h changes;
    is = refl;
    holds = record {
      records = holds.records;
      fits = holds.fits;
      claims = λ k none.
          subst (λ (o : Option ℕ). Claims (contains_key own k) (now declared k) lease o (live_now (with_revision h changes) k)) (sym (lease_with h changes k))
          (subst (λ (o : Option (List ℕ)). Claims (contains_key own k) (now declared k) lease (lease_after_all k (lease_of h k) changes) o) (sym (live_with h changes k))
          (all_changes own lease k (now declared k) changes (lease_of h k) (live_now h k) apart (holds.claims k none)));
    };
  }

  lapses : (other : ℕ) (declared : Pairing) (queue : List Item) (marked : List Bool) (h : History) → Holds declared queue h → other ≢ lease → Reaches (after_step (Lapses other) (at declared queue marked h))
  lapses other declared queue marked h holds differ = record {
    declared = declared;
    queue = queue;
    marked = marked;
    history = lapsed h other;
    is = refl;
    holds = record {
      records = holds.records;
      fits = holds.fits;
      claims = λ k none.
          subst (λ (o : Option ℕ). Claims (contains_key own k) (now declared k) lease o (live_now (lapsed h other) k)) (sym (lease_with h (deletions (attached_keys h other)) k))
          (subst (λ (o : Option (List ℕ)). Claims (contains_key own k) (now declared k) lease (lease_after_all k (lease_of h k) (deletions (attached_keys h other))) o) (sym (live_with h (deletions (attached_keys h other)) k))
          (lapse_claims own lease k (now declared k) h other differ (holds.claims k none)));
    };
  }

  step : (one : Step) (declared : Pairing) (queue : List Item) (marked : List Bool) (h : History) → Holds declared queue h → IsAlone s.cluster own lease one → Reaches (after_step one (at declared queue marked h))
  step (Declares key v) declared queue marked h holds alone = declares key v declared queue marked h holds alone
  step (Withdraws key) declared queue marked h holds alone = withdraws key declared queue marked h holds
  step Writes declared queue marked h holds alone = writes declared queue marked h holds
  step Loses declared queue marked h holds alone = loses declared queue marked h holds
  step (Others changes) declared queue marked h holds alone = others changes declared queue marked h holds alone
  step (Lapses other) declared queue marked h holds alone = lapses other declared queue marked h holds alone

  steps_reach : (steps : List Step) (declared : Pairing) (queue : List Item) (marked : List Bool) (h : History) → Holds declared queue h → All (IsAlone s.cluster own lease) steps → Reaches (after_steps steps (at declared queue marked h))
  steps_reach [] declared queue marked h holds alone = record { declared = declared; queue = queue; marked = marked; history = h; is = refl; holds = holds }
  steps_reach (one ∷ steps) declared queue marked h holds alone =
      let next : Reaches (after_step one (at declared queue marked h)) = step one declared queue marked h holds (All-head (IsAlone s.cluster own lease) one steps alone) in
      subst (λ (r : Run). Reaches (after_steps steps r)) (sym next.is) (steps_reach steps next.declared next.queue next.marked next.history next.holds (All-tail (IsAlone s.cluster own lease) one steps alone))

-- ---- the start
module _ (c k : List ℕ) where
  records_wait : (ks : List (List ℕ)) → waits c k (map record_item ks) ≡ list_any (eqb k) ks
  records_wait [] = refl
  records_wait (key ∷ ks) = ap (λ (b : Bool). b || waits c k (map record_item ks)) ((eq_by_cmp_equiv nat_list_cmp_total).symm key k) ∙ ap (λ (b : Bool). eqb k key || b) (records_wait ks)

  no_marks_wait : (ks : List Kind) (other : Option (List ℕ)) → waits c k (map mark_item ks) ≡ false → mark_or c ks k other ≡ other
  no_marks_wait [] other none = refl
  no_marks_wait (kind ∷ ks) other none =
      let both : (same_bytes (mark_key c State kind) k ≡ false) × (waits c k (map mark_item ks) ≡ false) = or_false (same_bytes (mark_key c State kind) k) (waits c k (map mark_item ks)) none in
      ap (λ (b : Bool). cond b (Some mark_value) (mark_or c ks k other)) ((eq_by_cmp_equiv nat_list_cmp_total).symm k (mark_key c State kind) ∙ both.0) ∙ no_marks_wait ks other both.1

none_is : (o : Option (List ℕ)) → is_some o ≡ false → o ≡ None
none_is None h = refl
none_is (Some v) h = cc

-- what does not wait at the start is not exported
first_none : (s : Export) (lease : ℕ) (own : Pairing) (k : List ℕ) → waits s.cluster k (everything (keys s.declared)) ≡ false → now s lease own s.declared k ≡ None
first_none s lease own k none =
    let both : (same_bytes (config_key s.cluster) k ≡ false) × (waits s.cluster k (map record_item (keys s.declared) ++ map mark_item kinds) ≡ false) = or_false (same_bytes (config_key s.cluster) k) (waits s.cluster k (map record_item (keys s.declared) ++ map mark_item kinds)) none in
    let rest : (waits s.cluster k (map record_item (keys s.declared)) ≡ false) × (waits s.cluster k (map mark_item kinds) ≡ false) = or_false (waits s.cluster k (map record_item (keys s.declared))) (waits s.cluster k (map mark_item kinds)) (sym (list_any-append (λ (i : Item). same_bytes (key_in s.cluster i) k) (map record_item (keys s.declared)) (map mark_item kinds)) ∙ both.1) in
    let undeclared : get s.declared k ≡ None = none_is (get s.declared k) (contains_key-keys s.declared k ∙ sym (records_wait s.cluster k (keys s.declared)) ∙ rest.0) in
    ap (λ (b : Bool). cond b (Some (config_value s.number)) (mark_or s.cluster kinds k (get s.declared k))) ((eq_by_cmp_equiv nat_list_cmp_total).symm k (config_key s.cluster) ∙ both.0)
    ∙ no_marks_wait s.cluster k kinds (get s.declared k) rest.1 ∙ undeclared

fit_append : (c : List ℕ) (xs ys : List Item) → AllFit c xs → AllFit c ys → AllFit c (xs ++ ys)
fit_append c [] ys a b = b
fit_append c (x ∷ xs) ys a b = (a.0, fit_append c xs ys a.1 b)

fit_records : (c : List ℕ) (ks : List (List ℕ)) → ((q : List ℕ) → list_any (eqb q) ks ≡ true → IsInside c q) → AllFit c (map record_item ks)
fit_records c [] inside = tt
fit_records c (k ∷ ks) inside = (inside k (ap (λ (b : Bool). b || list_any (eqb k) ks) (self k)), fit_records c ks (λ q h. inside q (later (eqb q k) (list_any (eqb q) ks) h)))
  where
    later : (a b : Bool) → b ≡ true → a || b ≡ true
    later true b h = refl
    later false b h = h

first_holds : (s : Export) (lease : ℕ) (own : Pairing) (h : History) → IsExport s → ((k : List ℕ) → lease_of h k ≢ Some lease) → Holds s lease own s.declared (everything (keys s.declared)) h
first_holds s lease own h is none = record {
  records = is.records;
  fits = (tt, fit_append s.cluster (map record_item (keys s.declared)) (map mark_item kinds) (fit_records s.cluster (keys s.declared) (λ q there. is.records q (contains_key-keys s.declared q ∙ there))) (tt, (tt, (tt, (tt, tt)))));
  claims = λ k waiting. subst (λ (o : Option (List ℕ)). Claims (contains_key own k) o lease (lease_of h k) (live_now h k)) (sym (first_none s lease own k waiting)) (none k);
}

-- ---- the end
not_lease : (lease : ℕ) (at : Option ℕ) → at ≢ Some lease → is_lease lease at ≡ false
not_lease lease None differ = refl
not_lease lease (Some l) differ = elim (l == lease) as (λ b. l == lease ≡ b → b ≡ false) [
  | true ↦ λ e. absurd (differ (ap (λ (n : ℕ). Some n) (number_same l lease e)))
  | false ↦ λ _. refl
] refl

same_number : (n : ℕ) → n == n ≡ true
same_number n = grind (arith, nat_tests)

finish : (b : Bool) (o : Option (List ℕ)) (lease : ℕ) (at : Option ℕ) (live : Option (List ℕ)) → b ≡ is_some o → Claims b o lease at live → cond (is_lease lease at) live None ≡ o
finish b None lease at live e claims = ap (λ (x : Bool). cond x live None) (not_lease lease at claims)
finish true (Some v) lease at live e claims = ap (λ (o : Option ℕ). cond (is_lease lease o) live None) claims.0 ∙ ap (λ (x : Bool). cond x live None) (same_number lease) ∙ claims.1
finish false (Some v) lease at live e claims = cc

at_end : (s : Export) (lease : ℕ) (own : Pairing) (r : Run) → Reaches s lease own r → own ≡ exported r.exporter → r.exporter.queue ≡ [] → attached_pairs r.history lease ≡ exported r.exporter
at_end s lease own r reach same empty =
    let nothing : reach.queue ≡ [] = sym (ap (λ (x : Run). x.exporter.queue) reach.is) ∙ empty in
    let history_is : reach.history ≡ r.history = sym (ap (λ (x : Run). x.history) reach.is) in
    let value : (k : List ℕ) → get (exported r.exporter) k ≡ now s lease own reach.declared k = λ k. ap (λ (x : Run). get (exported x.exporter) k) reach.is ∙ get_exported (core s lease reach.declared reach.queue reach.marked) k in
    let claims : (k : List ℕ) → Claims (contains_key own k) (now s lease own reach.declared k) lease (lease_of r.history k) (live_now r.history k) =
    λ k. subst (λ (h : History). Claims (contains_key own k) (now s lease own reach.declared k) lease (lease_of h k) (live_now h k)) history_is (reach.holds.claims k (ap (λ (q : List Item). waits s.cluster k q) nothing)) in
    same_map nat_list_cmp_total (slice_cmp-IsAntisymmetric nat_cmp-IsAntisymmetric) (attached_pairs r.history lease) (exported r.exporter)
    (λ k. get-retain_keys (map_at r.history (revision r.history)) (λ (key : List ℕ). is_lease lease (lease_of r.history key)) k (λ x tie. ap (λ (key : List ℕ). is_lease lease (lease_of r.history key)) (sym (exact_bytes k x tie)))
    ∙ ap (λ (o : Option (List ℕ)). cond (is_lease lease (lease_of r.history k)) o None) (get-map_at r.history (revision r.history) k)
    ∙ finish (contains_key own k) (now s lease own reach.declared k) lease (lease_of r.history k) (live_now r.history k) (ap (λ (m : Pairing). contains_key m k) same ∙ ap is_some (value k)) (claims k)
    ∙ sym (value k))

pub exports_exactly : ExportsExactly
exports_exactly s lease history steps is none alone empty =
    let r : Run = after_steps steps (started s lease history) in
    at_end s lease (exported r.exporter) r
    (steps_reach s lease (exported r.exporter) steps s.declared (everything (keys s.declared)) unmarked history (first_holds s lease (exported r.exporter) history is none) alone)
    refl empty
