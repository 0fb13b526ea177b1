-- What the lapse of a lease deletes, and what is live after it.
use Rattle.std.proofs.Common.{◌≡◌, ℕ, ◌==◌, ◌<◌, List, [], ◌∷◌, ◌++◌, length, filter, Option, None, Some, Bool, true, false, cond, ◌&&◌, ◌||◌, is_some, refl, ap, sym, ◌∙◌, subst, append_assoc, arith, inl, inr}
use Rattle.std.proofs.lemmas.Bool.Decides.{nat_tests}
use Rattle.std.proofs.lemmas.List.{append-nil}
use Rattle.std.proofs.lemmas.List.Kept.{IsStrictlySortedBy-filter}
use Rattle.std.proofs.lemmas.Map.Lookups.{exact_bytes, btree_set_from_contains}
use Rattle.std.proofs.lemmas.Map.Views.{any-filter_same}
use Rattle.std.specs.List.{list_any}
use Rattle.std.specs.List.Sorted.{IsStrictlySortedBy}
use Rattle.std.specs.Ordering.{nat_cmp}
use Rattle.std.specs.Cmp.{eq_by_cmp_equiv}
use Rattle.std.specs.Cmp.Lexicographic.{slice_cmp, nat_list_cmp_total}
use Rattle.std.specs.BTreeMap.{BTreeMap, get, is_at}
use Rattle.std.specs.BTreeSet.{BTreeSet, contains, IsOrdered}
use Rattle.std.specs.FinMap.{keys, contains_key-keys}
use Rattle.mesh_base.specs.Order.{same_bytes}
use Rattle.store_api.specs.Attached.{all_lapsed, attached_keys, deletions, is_lease, lapsed, lease_after_all, lease_of}
use Rattle.store_api.specs.History.{History, revision, live_at, map_at, with_revision, after_changes}
use Rattle.store_api.specs.declared.change.Change.{Change}
use Rattle.store_api.proofs.CallerLemmas.{attached_live, get-map_at, keys_rise}
use Rattle.memory_store.specs.declared.live.Current.{Current}
use Rattle.memory_store.specs.Index.{HasKeys, has_key}
use Rattle.memory_store.specs.Kept.{IsAfter, IsCurrentIn}
use Rattle.memory_store.specs.Lapses.{Deletes, Lapses}
use Rattle.memory_store.proofs.Indexes.{cases}
use Rattle.memory_store.proofs.Logs.{current_more, with_none, with_some}
use Rattle.memory_store.proofs.Sets.{same_key}

-- the test of a key among others
abbrev pub is_member : List ℕ → List (List ℕ) → Bool
is_member k ks = list_any (is_at (slice_cmp nat_cmp k)) ks

-- ---- deletions
lease_deleted : (k : List ℕ) (o : Option ℕ) (ks : List (List ℕ)) → lease_after_all k o (deletions ks) ≡ cond (is_member k ks) None o
lease_deleted k o [] = refl
lease_deleted k o (x ∷ ks) =
    lease_deleted k (cond (same_bytes x k) None o) ks
    ∙ ap (λ (b : Bool). cond (is_member k ks) None (cond b None o)) ((eq_by_cmp_equiv nat_list_cmp_total).symm x k)
    ∙ elim (is_at (slice_cmp nat_cmp k) x) as (λ (b : Bool). cond (is_member k ks) None (cond b None o) ≡ cond (b || is_member k ks) None o) [
      | true ↦ elim (is_member k ks) as (λ (b : Bool). cond {A = Option ℕ} b None None ≡ None) [ true ↦ refl | false ↦ refl ]
      | false ↦ refl
    ]

-- ---- the keys of a lease in a history
pub is_some_lease : (number : ℕ) (o : Option ℕ) → is_lease number o ≡ true → is_some o ≡ true
is_some_lease number None h = cc
is_some_lease number (Some n) h = refl

module _ (h : History) (number : ℕ) where
  pub attached_member : (k : List ℕ) → is_member k (attached_keys h number) ≡ is_lease number (lease_of h k)
  attached_member k =
      any-filter_same (is_at (slice_cmp nat_cmp k)) (λ (q : List ℕ). is_lease number (lease_of h q)) (is_lease number (lease_of h k)) (λ q same. ap (λ (x : List ℕ). is_lease number (lease_of h x)) (sym (same_key k q same))) (keys (map_at h (revision h)))
      ∙ ap (λ (b : Bool). is_lease number (lease_of h k) && b) (sym (contains_key-keys (map_at h (revision h)) k) ∙ ap is_some (get-map_at h (revision h) k))
      ∙ also (is_lease number (lease_of h k)) (is_some (live_at h (revision h) k)) (λ yes. attached_live h (revision h) k (is_some_lease number (lease_of h k) yes))
    where
      also : (a b : Bool) → (a ≡ true → b ≡ true) → a && b ≡ a
      also true b h = h refl
      also false b h = refl

  pub attached_rise : IsStrictlySortedBy (slice_cmp nat_cmp) (attached_keys h number)
  attached_rise = IsStrictlySortedBy-filter (slice_cmp nat_cmp) (λ (k : List ℕ). is_lease number (lease_of h k)) (keys (map_at h (revision h))) (keys_rise (slice_cmp nat_cmp) (map_at h (revision h)))

  -- a set that has just the keys of the lease has them in this order
  attached_are : (set : BTreeSet (List ℕ)) → IsOrdered (slice_cmp nat_cmp) set → ((k : List ℕ) → contains (slice_cmp nat_cmp) set k ≡ is_lease number (lease_of h k)) → set.keys ≡ attached_keys h number
  attached_are set ordered has =
      btree_set_from_contains nat_list_cmp_total set (record { keys = attached_keys h number }) ordered attached_rise (λ k. has k ∙ sym (attached_member k)) exact_bytes

-- ---- what is live after a revision, or after none
current_with : (h : History) (changes : List Change) (old new : Current) → IsCurrentIn h old → IsAfter changes old new → IsCurrentIn (with_revision h changes) new
current_with h [] old new current after = record {
  live = λ k. after.live k ∙ current.live k;
  leases = λ k. after.leases k ∙ current.leases k;
  keys = after.keys;
}
current_with h (c ∷ changes) old new current after = current_more h (c ∷ changes) old new current after

-- ---- the index without a lease
other_lease : (lease n : ℕ) (o : Option ℕ) → is_at (nat_cmp lease) n ≡ false → is_lease n (cond (is_lease lease o) None o) ≡ is_lease n o
other_lease lease n None other = refl
other_lease lease n (Some m) other =
    elim (cases (m == lease)) [
      | inl t ↦
          let apart : (m == n) ≡ false = grind (arith, nat_tests) in
          ap (λ (b : Bool). is_lease n (cond b None (Some m))) t ∙ sym apart
      | inr f ↦ ap (λ (b : Bool). is_lease n (cond b None (Some m))) f
    ]

own_lease : (lease n : ℕ) (o : Option ℕ) → is_at (nat_cmp lease) n ≡ true → is_lease n (cond (is_lease lease o) None o) ≡ false
own_lease lease n None same = refl
own_lease lease n (Some m) same =
    let is : lease ≡ n = grind (arith, nat_tests) in
    subst (λ (x : ℕ). is_lease x (cond (is_lease lease (Some m)) None (Some m)) ≡ false) is
    (elim (cases (m == lease)) [
      | inl t ↦ ap (λ (b : Bool). is_lease lease (cond b None (Some m))) t
      | inr f ↦ ap (λ (b : Bool). is_lease lease (cond b None (Some m))) f ∙ f
    ])

keys_without : (lease : ℕ) (leases later : BTreeMap (List ℕ) ℕ) (index without : BTreeMap ℕ (BTreeSet (List ℕ))) → HasKeys leases index
    → ((n : ℕ) → get nat_cmp without n ≡ cond (is_at (nat_cmp lease) n) None (get nat_cmp index n))
    → ((k : List ℕ) → get (slice_cmp nat_cmp) later k ≡ cond (is_lease lease (get (slice_cmp nat_cmp) leases k)) None (get (slice_cmp nat_cmp) leases k)) → HasKeys later without
keys_without lease leases later index without has gone dropped n k =
    ap (λ (o : Option (BTreeSet (List ℕ))). has_key o k) (gone n)
    ∙ elim (cases (is_at (nat_cmp lease) n)) [
      | inl t ↦ ap (λ (b : Bool). has_key (cond b None (get nat_cmp index n)) k) t ∙ sym (own_lease lease n (get (slice_cmp nat_cmp) leases k) t)
      | inr f ↦ ap (λ (b : Bool). has_key (cond b None (get nat_cmp index n)) k) f ∙ has n k ∙ sym (other_lease lease n (get (slice_cmp nat_cmp) leases k) f)
    ]
    ∙ ap (is_lease n) (sym (dropped k))

-- ---- the lapse of a lease
module _ (h : History) (lease : ℕ) (old : Current) (current : IsCurrentIn h old) (without : BTreeMap ℕ (BTreeSet (List ℕ)))
    (gone : (n : ℕ) → get nat_cmp without n ≡ cond (is_at (nat_cmp lease) n) None (get nat_cmp old.attached.keys n)) where
  module _ (set : BTreeSet (List ℕ)) (found : get nat_cmp old.attached.keys lease ≡ Some set) where
    set_has : (k : List ℕ) → contains (slice_cmp nat_cmp) set k ≡ is_lease lease (lease_of h k)
    set_has k = ap (λ (o : Option (BTreeSet (List ℕ))). has_key o k) (sym found) ∙ current.keys lease k ∙ ap (is_lease lease) (current.leases k)

    pub some_lapse : (mid new : Current) (changes : List Change) → mid.live ≡ old.live → mid.attached.leases ≡ old.attached.leases → mid.attached.keys ≡ without → Deletes set changes mid new → Lapses h lease changes new
    some_lapse mid new changes live_is leases_is keys_is deletes =
        let ks : set.keys ≡ attached_keys h lease = attached_are h lease set deletes.ordered set_has in
        let leases : (k : List ℕ) → get (slice_cmp nat_cmp) new.attached.leases k ≡ lease_after_all k (get (slice_cmp nat_cmp) old.attached.leases k) changes =
        λ k. deletes.leases k ∙ ap (λ (m : BTreeMap (List ℕ) ℕ). lease_after_all k (get (slice_cmp nat_cmp) m k) changes) leases_is in
        let after : IsAfter changes old new = record {
          live = λ k. deletes.live k ∙ ap (λ (m : BTreeMap (List ℕ) (List ℕ)). after_changes k (get (slice_cmp nat_cmp) m k) changes) live_is;
          leases = leases;
          keys = keys_without lease old.attached.leases new.attached.leases old.attached.keys new.attached.keys current.keys
              (λ n. ap (λ (m : BTreeMap ℕ (BTreeSet (List ℕ))). get nat_cmp m n) (deletes.keys ∙ keys_is) ∙ gone n)
              (λ k. leases k ∙ ap (lease_after_all k (get (slice_cmp nat_cmp) old.attached.leases k)) deletes.changes_are ∙ lease_deleted k (get (slice_cmp nat_cmp) old.attached.leases k) set.keys
              ∙ ap (λ (b : Bool). cond b None (get (slice_cmp nat_cmp) old.attached.leases k)) (set_has k ∙ ap (is_lease lease) (sym (current.leases k))));
        } in
        let are : changes ≡ deletions (attached_keys h lease) = deletes.changes_are ∙ ap deletions ks in
        record {
          changes_are = are;
          current = subst (λ (cs : List Change). IsCurrentIn (with_revision h cs) new) are (current_with h changes old new current after);
        }

  module _ (none : get nat_cmp old.attached.keys lease ≡ None) where
    has_none : (k : List ℕ) → is_lease lease (lease_of h k) ≡ false
    has_none k = sym (ap (λ (o : Option (BTreeSet (List ℕ))). has_key o k) (sym none) ∙ current.keys lease k ∙ ap (is_lease lease) (current.leases k))

    no_key : (ks : List (List ℕ)) → filter (λ (k : List ℕ). is_lease lease (lease_of h k)) ks ≡ []
    no_key [] = refl
    no_key (k ∷ ks) = ap (λ (b : Bool). cond b (k ∷ filter (λ (q : List ℕ). is_lease lease (lease_of h q)) ks) (filter (λ (q : List ℕ). is_lease lease (lease_of h q)) ks)) (has_none k) ∙ no_key ks

    pub none_lapse : (new : Current) (changes : List Change) → changes ≡ [] → new.live ≡ old.live → new.attached.leases ≡ old.attached.leases → new.attached.keys ≡ without → Lapses h lease changes new
    none_lapse new changes empty live_is leases_is keys_is =
        let no_keys : attached_keys h lease ≡ [] = no_key (keys (map_at h (revision h))) in
        let kept : (k : List ℕ) → get (slice_cmp nat_cmp) new.attached.leases k ≡ cond (is_lease lease (get (slice_cmp nat_cmp) old.attached.leases k)) None (get (slice_cmp nat_cmp) old.attached.leases k) =
        λ k. ap (λ (m : BTreeMap (List ℕ) ℕ). get (slice_cmp nat_cmp) m k) leases_is
        ∙ sym (ap (λ (b : Bool). cond b None (get (slice_cmp nat_cmp) old.attached.leases k)) (ap (is_lease lease) (current.leases k) ∙ has_none k)) in
        record {
          changes_are = empty ∙ sym (ap deletions no_keys);
          current = subst (λ (ks : List (List ℕ)). IsCurrentIn (with_revision h (deletions ks)) new) (sym no_keys) (record {
            live = λ k. ap (λ (m : BTreeMap (List ℕ) (List ℕ)). get (slice_cmp nat_cmp) m k) live_is ∙ current.live k;
            leases = λ k. ap (λ (m : BTreeMap (List ℕ) ℕ). get (slice_cmp nat_cmp) m k) leases_is ∙ current.leases k;
            keys = keys_without lease old.attached.leases new.attached.leases old.attached.keys new.attached.keys current.keys (λ n. ap (λ (m : BTreeMap ℕ (BTreeSet (List ℕ))). get nat_cmp m n) keys_is ∙ gone n) kept;
          });
        }

-- ---- leases that lapse one after another
-- so far the history has become `now`, and the leases that are left lapse to what all lapse to
pub record Lapsing (now : History) (left : List ℕ) (history : History) (all : List ℕ) (current : Current) : Type 0 where
  pub same : all_lapsed now left ≡ all_lapsed history all
  pub live : IsCurrentIn now current

pub lapsing_first : (history : History) (leases : List ℕ) (current : Current) → IsCurrentIn history current → Lapsing (history ++ []) leases history leases current
lapsing_first history leases current is = record {
  same = ap (λ (h : History). all_lapsed h leases) (append-nil history);
  live = subst (λ (h : History). IsCurrentIn h current) (sym (append-nil history)) is;
}

-- one lease more, which makes a revision
pub lapsing_some : (history made : History) (lease : ℕ) (left all : List ℕ) (changes : List Change) (new : Current) → all_lapsed (history ++ made) (lease ∷ left) ≡ all_lapsed history all → Lapses (history ++ made) lease changes new → 0 < length changes
    → Lapsing (history ++ (made ++ changes ∷ [])) left history all new
lapsing_some history made lease left all changes new same lapses some =
    let next : lapsed (history ++ made) lease ≡ history ++ (made ++ changes ∷ []) =
    ap (with_revision (history ++ made)) (sym lapses.changes_are) ∙ with_some (history ++ made) changes some ∙ append_assoc history made (changes ∷ []) in
    record {
      same = ap (λ (h : History). all_lapsed h left) (sym next) ∙ same;
      live = subst (λ (h : History). IsCurrentIn h new) next lapses.current;
    }

-- or none
pub lapsing_none : (history made : History) (lease : ℕ) (left all : List ℕ) (changes : List Change) (new : Current) → all_lapsed (history ++ made) (lease ∷ left) ≡ all_lapsed history all → Lapses (history ++ made) lease changes new → length changes ≡ 0
    → Lapsing (history ++ made) left history all new
lapsing_none history made lease left all changes new same lapses none =
    let next : lapsed (history ++ made) lease ≡ history ++ made = ap (with_revision (history ++ made)) (sym lapses.changes_are) ∙ with_none (history ++ made) changes none in
    record {
      same = ap (λ (h : History). all_lapsed h left) (sym next) ∙ same;
      live = subst (λ (h : History). IsCurrentIn h new) next lapses.current;
    }
