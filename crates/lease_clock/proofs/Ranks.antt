-- The due leases in order of their ranks.
use Rattle.std.proofs.Common.{◌≡◌, ℕ, ◌<◌, ◌≤◌, List, [], ◌∷◌, map, filter, length, not, Bool, true, false, cond, ◌||◌, Option, Some, is_some, IsTrue, refl, ap, sym, ◌∙◌, arith}
use Rattle.std.specs.List.{list_any, AllByRecursion}
use Rattle.std.specs.Ordering.{nat_cmp, eq_by_cmp, is_eq}
use Rattle.std.specs.Cmp.{IsTotalOrder, then_total, on_total, nat_cmp_total, tied_itself}
use Rattle.std.specs.FinMap.{keys, contains_key-keys, get-from_entries}
use Rattle.std.specs.FinMap.Entries.{find}
use Rattle.std.specs.BTreeSet.{BTreeSet, IsOrdered}
use Rattle.std.proofs.lemmas.Map.Lookups.{exact_unsigned, exact_pairs, btree_set_from_contains}
use Rattle.store_api.specs.Leases.{Lease, LeaseTable, is_due, rank, rank_cmp, due_by_rank, due_leases, expired}
use Rattle.store_api.proofs.CallerLemmas.{keys_rise}
use Rattle.lease_clock.specs.Kept.{HasRanks, due_ranks}
use Rattle.lease_clock.specs.Lapses.{DueInOrder}

-- ranks are in one order
pub rank_total : IsTotalOrder rank_cmp
rank_total = then_total (on_total (λ (r : ℕ × ℕ). r.0) nat_cmp_total) (on_total (λ (r : ℕ × ℕ). r.1) nat_cmp_total)

-- the two are one rank
abbrev pub same_rank : ℕ × ℕ → ℕ × ℕ → Bool
same_rank = eq_by_cmp rank_cmp

itself : (r : ℕ × ℕ) → same_rank r r ≡ true
itself r = ap is_eq (tied_itself rank_total r)

some-or : (b : Bool) (lease : Lease) (o : Option Lease) → is_some (cond b (Some lease) o) ≡ (b || is_some o)
some-or true lease o = refl
some-or false lease o = refl

-- a rank is found exactly where a lease has it
finds : (q : ℕ × ℕ) (live : List Lease) → is_some (find rank_cmp q (map (λ (lease : Lease). (rank lease, lease)) live)) ≡ list_any (same_rank q) (map rank live)
finds q [] = refl
finds q (x ∷ xs) = some-or (same_rank q (rank x)) x _ ∙ ap (λ (b : Bool). same_rank q (rank x) || b) (finds q xs)

-- the ranks of the map are those of the due leases
pub has_keys : (table : LeaseTable) (q : ℕ × ℕ) → list_any (same_rank q) (keys (due_by_rank table)) ≡ list_any (same_rank q) (due_ranks table.now table.live)
has_keys table q =
    sym (contains_key-keys (due_by_rank table) q)
    ∙ ap is_some (get-from_entries rank_total (map (λ (lease : Lease). (rank lease, lease)) (filter (is_due table.now) table.live)) q)
    ∙ finds q (filter (is_due table.now) table.live)

-- the law of every table
pub in_order_all : DueInOrder
in_order_all table = record { rises = keys_rise rank_cmp (due_by_rank table); members = has_keys table }

-- a set of these ranks has them in the order of the map
pub keys_are : (table : LeaseTable) (ranks : BTreeSet (ℕ × ℕ)) → IsOrdered rank_cmp ranks → HasRanks ranks (due_ranks table.now table.live) → ranks.keys ≡ keys (due_by_rank table)
keys_are table ranks ordered has =
    btree_set_from_contains rank_total ranks (record { keys = keys (due_by_rank table) }) ordered (keys_rise rank_cmp (due_by_rank table))
    (λ q. has q ∙ sym (has_keys table q)) (exact_pairs nat_cmp nat_cmp exact_unsigned exact_unsigned)

not_empty : (p : ℕ × ℕ → Bool) (rs : List (ℕ × ℕ)) → list_any p rs ≡ true → 0 < length rs
not_empty p [] h = cc
not_empty p (r ∷ rs) h = omega arith

some_rank : (rs qs : List (ℕ × ℕ)) → ((q : ℕ × ℕ) → list_any (same_rank q) qs ≡ list_any (same_rank q) rs) → 0 < length rs → 0 < length qs
some_rank [] qs alike h = absurd (omega arith)
some_rank (r ∷ rs) qs alike h = not_empty (same_rank r) qs (alike r ∙ ap (λ (b : Bool). b || list_any (same_rank r) rs) (itself r))

-- some lease passes exactly where some rank is left
some_due : (now : ℕ) (live : List Lease) → list_any (is_due now) live ≡ true → 0 < length (due_ranks now live)
some_due now [] h = cc
some_due now (x ∷ xs) h =
    elim (is_due now x) as (λ b. (b || list_any (is_due now) xs) ≡ true → 0 < length (map rank (cond b (x ∷ filter (is_due now) xs) (filter (is_due now) xs))))
    [ true ↦ λ t. omega arith | false ↦ λ t. some_due now xs t ] h

due_some : (now : ℕ) (live : List Lease) → 0 < length (due_ranks now live) → list_any (is_due now) live ≡ true
due_some now [] h = absurd (omega arith)
due_some now (x ∷ xs) h =
    elim (is_due now x) as (λ b. 0 < length (map rank (cond b (x ∷ filter (is_due now) xs) (filter (is_due now) xs))) → (b || list_any (is_due now) xs) ≡ true)
    [ true ↦ λ t. refl | false ↦ λ t. due_some now xs t ] h

-- some lease is due exactly where the due leases are not empty
pub is_any_due : (table : LeaseTable) (b : Bool) → b ≡ list_any (is_due table.now) table.live → (IsTrue b → 0 < length (due_leases table)) × (0 < length (due_leases table) → IsTrue b)
is_any_due table b is =
    let counted : length (due_leases table) ≡ length (keys (due_by_rank table)) = Rattle.std.proofs.lemmas.List.length-map (keys (due_by_rank table)) (λ (r : ℕ × ℕ). r.1) in (
      λ yes. rw counted (some_rank (due_ranks table.now table.live) (keys (due_by_rank table)) (has_keys table) (some_due table.now table.live (sym is ∙ yes))),
      λ some. is ∙ due_some table.now table.live (some_rank (keys (due_by_rank table)) (due_ranks table.now table.live) (λ q. sym (has_keys table q)) (rw (← counted) some)),
    )

-- before every deadline no lease is due
pub none_due : (now time : ℕ) (live : List Lease) → AllByRecursion (λ (lease : Lease). time ≤ lease.deadline) live → now < time → list_any (is_due now) live ≡ false
none_due now time [] h lt = refl
none_due now time (x ∷ xs) h lt =
    let later : is_due now x ≡ false = grind (arith, Rattle.std.proofs.lemmas.Bool.Decides.nat_tests, h.0) in
    rw later (none_due now time xs h.1 lt)

-- where no lease is due, none ends
none_ends : (now : ℕ) (live : List Lease) → list_any (is_due now) live ≡ false → filter (λ (lease : Lease). not (is_due now lease)) live ≡ live
none_ends now [] h = refl
none_ends now (x ∷ xs) h =
    elim (is_due now x) as (λ b. (b || list_any (is_due now) xs) ≡ false → cond (not b) (x ∷ filter (λ (lease : Lease). not (is_due now lease)) xs) (filter (λ (lease : Lease). not (is_due now lease)) xs) ≡ x ∷ xs)
    [ true ↦ λ t. cc | false ↦ λ t. ap (λ (l : List Lease). x ∷ l) (none_ends now xs t) ] h

pub expired_none : (table : LeaseTable) → due_leases table ≡ [] → expired table ≡ table
expired_none table none =
    ap (λ (live : List Lease). let left : LeaseTable = record table { live = live } in left)
    (none_ends table.now table.live (none_due_test (list_any (is_due table.now) table.live) (λ some. (is_any_due table (list_any (is_due table.now) table.live) refl).0 some)))
  where
    none_due_test : (b : Bool) → (b ≡ true → 0 < length (due_leases table)) → b ≡ false
    none_due_test true some = absurd (omega (arith, some refl, ap length none))
    none_due_test false some = refl
