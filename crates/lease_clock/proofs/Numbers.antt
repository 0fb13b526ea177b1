-- What holds of leases in order of their numbers, and what another deadline at one place does to them.
use Rattle.std.proofs.Common.{◌≡◌, ℕ, zero, suc, ◌+◌, ◌^◌, ◌<◌, ◌≤◌, ◌==◌, ◌≢◌, Option, None, Some, is_some, IsTrue, List, [], ◌∷◌, ◌++◌, map, filter, length, get_or, Bool, true, false, not, cond, ◌||◌, refl, ap, sym, arith}
use Rattle.std.specs.List.{find}
use Rattle.std.specs.Option.{option_map}
use Rattle.std.proofs.lemmas.Bool.Decides.{nat_tests}
use Rattle.store_api.specs.Leases.{Lease, deadline_at, is_due, is_live_lease, kept_alive}
use Rattle.lease_clock.specs.Kept.{Entry, is_running, lease_of, leases_of, when, with_deadline}
use Rattle.lease_clock.specs.Lapses.{IsNumbered}
use Rattle.lease_clock.specs.Least as least

-- the lease has the number
abbrev pub has : ℕ → Lease → Bool
has n lease = lease.number == n

-- the lease has another one
abbrev pub has_not : ℕ → Lease → Bool
has_not n lease = not (lease.number == n)

-- when the lease ends
abbrev pub deadline : Lease → ℕ
deadline lease = lease.deadline

-- an entry for places that have none
abbrev pub nothing : Entry
nothing = record { number = 0; seconds = 0; deadline = None }

differs : (a b : ℕ) → a < b → (a == b) ≡ false
differs a b lt = grind (arith, nat_tests)

differs_back : (a b : ℕ) → b < a → (a == b) ≡ false
differs_back a b lt = grind (arith, nat_tests)

same : (a b : ℕ) → a ≡ b → (a == b) ≡ true
same a b e = grind (arith, nat_tests)

-- when a lease ends, where it has not ended
when_there : (o : Option ℕ) → IsTrue (is_some o) → Some (when o) ≡ o
when_there None there = cc
when_there (Some deadline) there = refl

module _ (last : ℕ) where
  -- each number is above where they begin
  pub above : (low i : ℕ) (live : List Lease) (d : Lease) → IsNumbered low live last → i < length live → let lease = get_or live i d in low < lease.number
  above low i [] d h lt = absurd (omega arith)
  above low zero (x ∷ xs) d h lt = h.0
  above low (suc i) (x ∷ xs) d h lt = omega (arith, h.0, above x.number i xs d h.1 (omega arith))

  -- the numbers do not fall along the list
  pub rises : (low i j : ℕ) (live : List Lease) (d : Lease) → IsNumbered low live last → i ≤ j → j < length live
      → let a = get_or live i d in let b = get_or live j d in a.number ≤ b.number
  rises low i j [] d h le lt = absurd (omega arith)
  rises low zero zero (x ∷ xs) d h le lt = omega arith
  rises low zero (suc j) (x ∷ xs) d h le lt = omega (arith, above x.number j xs d h.1 (omega arith))
  rises low (suc i) zero (x ∷ xs) d h le lt = absurd (omega arith)
  rises low (suc i) (suc j) (x ∷ xs) d h le lt = rises x.number i j xs d h.1 (omega arith) (omega arith)

  -- the same numbers rise from any lower number
  wider : (low up : ℕ) (live : List Lease) → low ≤ up → IsNumbered up live last → IsNumbered low live last
  wider low up [] le h = omega (arith, h)
  wider low up (x ∷ xs) le h = (omega (arith, h.0), h.1)

  -- a push of a later number keeps the order
  pub numbered_push : (low : ℕ) (live : List Lease) (w : Lease) → IsNumbered low live last → last < w.number → IsNumbered low (live ++ w ∷ []) w.number
  numbered_push low [] w h lt = (omega (arith, h), omega arith)
  numbered_push low (x ∷ xs) w h lt = (h.0, numbered_push x.number xs w h.1 lt)

  -- any deadline at a place leaves the numbers
  pub numbered_with : (low i : ℕ) (t : Option ℕ) (es : List Entry) → IsNumbered low (map lease_of es) last → IsNumbered low (map lease_of (with_deadline i t es)) last
  numbered_with low i t [] h = h
  numbered_with low zero t (x ∷ xs) h = h
  numbered_with low (suc i) t (x ∷ xs) h = (h.0, numbered_with x.number i t xs h.1)

  -- the live ones stand in order too
  pub numbered_live : (low : ℕ) (es : List Entry) → IsNumbered low (map lease_of es) last → IsNumbered low (leases_of es) last
  numbered_live low [] h = h
  numbered_live low (x ∷ xs) h =
      elim (is_some x.deadline) as (λ b. IsNumbered low (map lease_of (cond b (x ∷ filter is_running xs) (filter is_running xs))) last)
      [ true ↦ (h.0, numbered_live x.number xs h.1) | false ↦ wider low x.number (leases_of xs) (omega (arith, h.0)) (numbered_live x.number xs h.1) ]

  module _ (n : ℕ) where
    -- a lease whose number is below all others is not among them
    absent : (low : ℕ) (live : List Lease) → n ≤ low → IsNumbered low live last → is_live_lease live n ≡ false
    absent low [] le h = refl
    absent low (x ∷ xs) le h = rw (differs_back x.number n (omega (arith, h.0))) (absent x.number xs (omega (arith, h.0)) h.1)

    -- and neither a renewal nor a revocation of that number changes them
    stay : (now low : ℕ) (live : List Lease) → n ≤ low → IsNumbered low live last → map (kept_alive now n) live ≡ live
    stay now low [] le h = refl
    stay now low (x ∷ xs) le h = rw (differs_back x.number n (omega (arith, h.0))) (ap (λ (l : List Lease). x ∷ l) (stay now x.number xs (omega (arith, h.0)) h.1))

    all_kept : (low : ℕ) (live : List Lease) → n ≤ low → IsNumbered low live last → filter (λ (lease : Lease). not (lease.number == n)) live ≡ live
    all_kept low [] le h = refl
    all_kept low (x ∷ xs) le h = rw (differs_back x.number n (omega (arith, h.0))) (ap (λ (l : List Lease). x ∷ l) (all_kept x.number xs (omega (arith, h.0)) h.1))

    -- so it is with all behind an entry of that number
    absent_live : (low : ℕ) (es : List Entry) → n ≤ low → IsNumbered low (map lease_of es) last → is_live_lease (leases_of es) n ≡ false
    absent_live low es le h = absent low (leases_of es) le (numbered_live low es h)

    stay_live : (now low : ℕ) (es : List Entry) → n ≤ low → IsNumbered low (map lease_of es) last → map (kept_alive now n) (leases_of es) ≡ leases_of es
    stay_live now low es le h = stay now low (leases_of es) le (numbered_live low es h)

    all_kept_live : (low : ℕ) (es : List Entry) → n ≤ low → IsNumbered low (map lease_of es) last → filter (has_not n) (leases_of es) ≡ leases_of es
    all_kept_live low es le h = all_kept low (leases_of es) le (numbered_live low es h)

    -- the number of an entry before its place is less
    below : (i : ℕ) (x : Entry) (xs : List Entry) (d : Entry) → IsNumbered x.number (map lease_of xs) last → i < length xs → let e = get_or xs i d in e.number ≡ n → x.number < n
    below i x xs d h lt is = omega (arith, is, at_least x.number i xs d h lt)
      where
        at_least : (low i : ℕ) (es : List Entry) (d : Entry) → IsNumbered low (map lease_of es) last → i < length es → let e = get_or es i d in low < e.number
        at_least low i [] d h lt = absurd (omega arith)
        at_least low zero (x ∷ xs) d h lt = h.0
        at_least low (suc i) (x ∷ xs) d h lt = omega (arith, h.0, at_least x.number i xs d h.1 (omega arith))

    -- the live lease at the place is the one whose deadline moves
    pub moved : (now low i t : ℕ) (es : List Entry) (d : Entry) → IsNumbered low (map lease_of es) last → i < length es
        → let e = get_or es i d in (e.number ≡ n) → IsTrue (is_running e) → t ≡ deadline_at now e.seconds → leases_of (with_deadline i (Some t) es) ≡ map (kept_alive now n) (leases_of es)
    moved now low i t [] d h lt e running is = absurd (omega arith)
    moved now low zero t (x ∷ xs) d h lt e running is =
        rw (running, same x.number n e, is, stay_live now x.number xs (omega (arith, e)) h.1) refl
    moved now low (suc i) t (x ∷ xs) d h lt e running is =
        let others = moved now x.number i t xs d h.1 (omega arith) e running is in
        let other = differs x.number n (below i x xs d h.1 (omega arith) e) in
        elim (is_some x.deadline) as (λ b. map lease_of (cond b (x ∷ filter is_running (with_deadline i (Some t) xs)) (filter is_running (with_deadline i (Some t) xs))) ≡ map (kept_alive now n) (map lease_of (cond b (x ∷ filter is_running xs) (filter is_running xs))))
        [ true ↦ rw other (ap (λ (l : List Lease). lease_of x ∷ l) others) | false ↦ others ]

    -- or the one that goes
    pub gone : (low i : ℕ) (es : List Entry) (d : Entry) → IsNumbered low (map lease_of es) last → i < length es
        → let e = get_or es i d in (e.number ≡ n) → IsTrue (is_running e) → leases_of (with_deadline i None es) ≡ filter (has_not n) (leases_of es)
    gone low i [] d h lt e running = absurd (omega arith)
    gone low zero (x ∷ xs) d h lt e running = rw (running, same x.number n e) (sym (all_kept_live x.number xs (omega (arith, e)) h.1))
    gone low (suc i) (x ∷ xs) d h lt e running =
        let others = gone x.number i xs d h.1 (omega arith) e running in
        let other = differs x.number n (below i x xs d h.1 (omega arith) e) in
        elim (is_some x.deadline) as (λ b. map lease_of (cond b (x ∷ filter is_running (with_deadline i None xs)) (filter is_running (with_deadline i None xs))) ≡ filter (has_not n) (map lease_of (cond b (x ∷ filter is_running xs) (filter is_running xs))))
        [ true ↦ rw other (ap (λ (l : List Lease). lease_of x ∷ l) others) | false ↦ others ]

    -- after a move the lease has its deadline from now on
    pub deadline_moved : (now low i : ℕ) (es : List Entry) (d : Entry) → IsNumbered low (map lease_of es) last → i < length es
        → let e = get_or es i d in (e.number ≡ n) → IsTrue (is_running e) → option_map deadline (find (has n) (map (kept_alive now n) (leases_of es))) ≡ Some (deadline_at now e.seconds)
    deadline_moved now low i [] d h lt e running = absurd (omega arith)
    deadline_moved now low zero (x ∷ xs) d h lt e running = rw (running, same x.number n e, same x.number n e) refl
    deadline_moved now low (suc i) (x ∷ xs) d h lt e running =
        let others = deadline_moved now x.number i xs d h.1 (omega arith) e running in
        let other = differs x.number n (below i x xs d h.1 (omega arith) e) in
        elim (is_some x.deadline) as (λ b. option_map deadline (find (has n) (map (kept_alive now n) (map lease_of (cond b (x ∷ filter is_running xs) (filter is_running xs))))) ≡ Some (deadline_at now (get_or xs i d).seconds))
        [ true ↦ rw (other, other) others | false ↦ others ]

    -- the deadline of a live lease is that of its entry
    pub deadline_found : (low i : ℕ) (es : List Entry) (d : Entry) → IsNumbered low (map lease_of es) last → i < length es
        → let e = get_or es i d in (e.number ≡ n) → IsTrue (is_running e) → option_map deadline (find (has n) (leases_of es)) ≡ e.deadline
    deadline_found low i [] d h lt e running = absurd (omega arith)
    deadline_found low zero (x ∷ xs) d h lt e running = rw (running, same x.number n e) (when_there x.deadline running)
    deadline_found low (suc i) (x ∷ xs) d h lt e running =
        let others = deadline_found x.number i xs d h.1 (omega arith) e running in
        let other = differs x.number n (below i x xs d h.1 (omega arith) e) in
        elim (is_some x.deadline) as (λ b. option_map deadline (find (has n) (map lease_of (cond b (x ∷ filter is_running xs) (filter is_running xs)))) ≡ (get_or xs i d).deadline)
        [ true ↦ rw other others | false ↦ others ]

    -- a live lease is found
    pub found : (i : ℕ) (es : List Entry) (d : Entry) → i < length es → let e = get_or es i d in (e.number ≡ n) → IsTrue (is_running e) → is_live_lease (leases_of es) n ≡ true
    found i [] d lt e running = absurd (omega arith)
    found zero (x ∷ xs) d lt e running = rw (running, same x.number n e) refl
    found (suc i) (x ∷ xs) d lt e running =
        let others = found i xs d (omega arith) e running in
        elim (is_some x.deadline) as (λ b. is_live_lease (map lease_of (cond b (x ∷ filter is_running xs) (filter is_running xs))) n ≡ true)
        [ true ↦ Rattle.std.proofs.lemmas.Bool.or_right _ _ others | false ↦ others ]

    -- one that has ended is not
    pub ended : (low i : ℕ) (es : List Entry) (d : Entry) → IsNumbered low (map lease_of es) last → i < length es
        → let e = get_or es i d in (e.number ≡ n) → is_running e ≡ false → is_live_lease (leases_of es) n ≡ false
    ended low i [] d h lt e over = absurd (omega arith)
    ended low zero (x ∷ xs) d h lt e over = rw over (absent_live x.number xs (omega (arith, e)) h.1)
    ended low (suc i) (x ∷ xs) d h lt e over =
        let others = ended x.number i xs d h.1 (omega arith) e over in
        let other = differs x.number n (below i x xs d h.1 (omega arith) e) in
        elim (is_some x.deadline) as (λ b. is_live_lease (map lease_of (cond b (x ∷ filter is_running xs) (filter is_running xs))) n ≡ false)
        [ true ↦ rw (other, others) refl | false ↦ others ]

    -- and a number that no place has is not live
    pub none_at : (es : List Entry) (d : Entry) → ((j : ℕ) → j < length es → let e = get_or es j d in e.number ≢ n) → is_live_lease (leases_of es) n ≡ false
    none_at [] d h = refl
    none_at (x ∷ xs) d h =
        let other : (x.number == n) ≡ false = grind (arith, nat_tests, h 0 (omega arith)) in
        let others = none_at xs d (λ j lt. h (suc j) (omega arith)) in
        elim (is_some x.deadline) as (λ b. is_live_lease (map lease_of (cond b (x ∷ filter is_running xs) (filter is_running xs))) n ≡ false)
        [ true ↦ rw (other, others) refl | false ↦ others ]

-- a lease that is not live does not go
pub none_gone : (n : ℕ) (live : List Lease) → is_live_lease live n ≡ false → filter (λ (lease : Lease). not (lease.number == n)) live ≡ live
none_gone n [] h = refl
none_gone n (x ∷ xs) h =
    elim (x.number == n) as (λ b. (b || is_live_lease xs n) ≡ false → cond (not b) (x ∷ filter (λ (lease : Lease). not (lease.number == n)) xs) (filter (λ (lease : Lease). not (lease.number == n)) xs) ≡ x ∷ xs) [
      | true ↦ λ t. cc
      | false ↦ λ t. ap (λ (l : List Lease). x ∷ l) (none_gone n xs t)
    ] h

-- and has no deadline
pub deadline_none : (n : ℕ) (live : List Lease) → is_live_lease live n ≡ false → option_map deadline (find (has n) live) ≡ None
deadline_none n [] h = refl
deadline_none n (x ∷ xs) h =
    elim (x.number == n) as (λ b. (b || is_live_lease xs n) ≡ false → option_map deadline (cond b (Some x) (find (has n) xs)) ≡ None)
    [ true ↦ λ t. cc | false ↦ λ t. deadline_none n xs t ] h

-- a push of a live lease
pub leases_push : (es : List Entry) (w : Entry) → IsTrue (is_running w) → leases_of (es ++ w ∷ []) ≡ leases_of es ++ lease_of w ∷ []
leases_push [] w running = rw running refl
leases_push (x ∷ xs) w running =
    let others = leases_push xs w running in
    elim (is_some x.deadline) as (λ b. map lease_of (cond b (x ∷ filter is_running (xs ++ w ∷ [])) (filter is_running (xs ++ w ∷ []))) ≡ map lease_of (cond b (x ∷ filter is_running xs) (filter is_running xs)) ++ lease_of w ∷ [])
    [ true ↦ ap (λ (l : List Lease). lease_of x ∷ l) others | false ↦ others ]

-- the live ones among the live ones are all of them
pub running_again : (es : List Entry) → filter is_running (filter is_running es) ≡ filter is_running es
running_again [] = refl
running_again (x ∷ xs) =
    let others = running_again xs in
    elim (is_some x.deadline) as (λ b. is_some x.deadline ≡ b → filter is_running (cond b (x ∷ filter is_running xs) (filter is_running xs)) ≡ cond b (x ∷ filter is_running xs) (filter is_running xs))
    [ true ↦ λ e. rw e (ap (λ (l : List Entry). x ∷ l) others) | false ↦ λ e. others ] refl

-- the leases that stay at a time
abbrev pub staying : ℕ → List Lease → List Lease
staying time live = filter (λ (lease : Lease). not (is_due time lease)) live

module _ (time : ℕ) (within : time < 2 ^ 64) where
  -- an end of a due lease changes nothing of the others
  pub others_stay : (i : ℕ) (es : List Entry) → i < length es → least.deadline_at es i ≤ time → staying time (leases_of (with_deadline i None es)) ≡ staying time (leases_of es)
  others_stay i [] lt le = absurd (omega arith)
  others_stay zero (x ∷ xs) lt le =
      elim x.deadline as (λ o. when o ≤ time → staying time (leases_of xs) ≡ staying time (map lease_of (cond (is_some o) (record { number = x.number; seconds = x.seconds; deadline = o } ∷ filter is_running xs) (filter is_running xs)))) [
        | None ↦ λ h. refl
        | Some t ↦ λ h. let due : Rattle.std.specs.Prelude.nat_le t time ≡ true = grind (arith, nat_tests, h) in rw due refl
      ] le
  others_stay (suc i) (x ∷ xs) lt le =
      let others = others_stay i xs (omega arith) le in
      elim (is_some x.deadline) as (λ b. staying time (map lease_of (cond b (x ∷ filter is_running (with_deadline i None xs)) (filter is_running (with_deadline i None xs)))) ≡ staying time (map lease_of (cond b (x ∷ filter is_running xs) (filter is_running xs)))) [
        | true ↦ ap (λ (l : List Lease). cond (not (is_due time (lease_of x))) (lease_of x ∷ l) l) others
        | false ↦ others
      ]

  -- and leaves one live lease less
  pub one_less : (i : ℕ) (es : List Entry) → i < length es → least.deadline_at es i ≤ time → length (leases_of (with_deadline i None es)) + 1 ≡ length (leases_of es)
  one_less i [] lt le = absurd (omega arith)
  one_less zero (x ∷ xs) lt le =
      elim x.deadline as (λ o. when o ≤ time → length (leases_of xs) + 1 ≡ length (map lease_of (cond (is_some o) (record { number = x.number; seconds = x.seconds; deadline = o } ∷ filter is_running xs) (filter is_running xs)))) [
        | None ↦ λ h. absurd (omega (arith, h, within))
        | Some t ↦ λ h. omega arith
      ] le
  one_less (suc i) (x ∷ xs) lt le =
      let others = one_less i xs (omega arith) le in
      elim (is_some x.deadline) as (λ b. length (map lease_of (cond b (x ∷ filter is_running (with_deadline i None xs)) (filter is_running (with_deadline i None xs)))) + 1 ≡ length (map lease_of (cond b (x ∷ filter is_running xs) (filter is_running xs))))
      [ true ↦ omega (arith, others) | false ↦ others ]

-- where none is due all stay
pub none_due_stay : (time : ℕ) (live : List Lease) → Rattle.std.specs.List.list_any (is_due time) live ≡ false → staying time live ≡ live
none_due_stay time [] h = refl
none_due_stay time (x ∷ xs) h =
    elim (is_due time x) as (λ b. (b || Rattle.std.specs.List.list_any (is_due time) xs) ≡ false → cond (not b) (x ∷ staying time xs) (staying time xs) ≡ x ∷ xs)
    [ true ↦ λ t. cc | false ↦ λ t. ap (λ (l : List Lease). x ∷ l) (none_due_stay time xs t) ] h
