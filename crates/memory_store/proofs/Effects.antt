-- A keep-alive that moves no deadline, and a compaction that raises nothing, have no effect.
use Rattle.std.proofs.Common.{◌≡◌, ℕ, ◌==◌, ◌<◌, ◌≤◌, List, [], ◌∷◌, map, Option, Some, Bool, true, false, not, cond, nat_eq, refl, ap, ap₂, sym, ◌∙◌, arith, inl, inr}
use Rattle.std.proofs.lemmas.Bool.Decides.{nat_tests}
use Rattle.std.specs.List.{find}
use Rattle.std.specs.Option.{option_eq, option_map}
use Rattle.store_api.specs.Contents.{Contents, after_compact, after_keep_alive}
use Rattle.store_api.specs.Leases.{Lease, LeaseTable, deadline_at, kept_alive, renewed}
use Rattle.lease_clock.specs.Lapses.{IsNumbered}
use Rattle.memory_store.specs.declared.entry.StoreEntry.TheVariants.{Compacted, KeptAlive}
use Rattle.memory_store.specs.Effects.{moves, raises}
use Rattle.memory_store.specs.Entries.{StoreLog, contents_of, noted_where}
use Rattle.memory_store.specs.Stored.{leases_of, with_compaction, with_keep_alive}
use Rattle.memory_store.proofs.Calls.{contents_more}
use Rattle.memory_store.proofs.Indexes.{cases}

-- ---- a lease kept alive
-- the lease has the number
abbrev has : ℕ → Lease → Bool
has n lease = lease.number == n

abbrev deadline : Lease → ℕ
deadline lease = lease.deadline

apart : (a b : ℕ) → b < a → (a == b) ≡ false
apart a b lt = grind (arith, nat_tests)

equal : (a b : ℕ) → nat_eq a b ≡ true → a ≡ b
equal a b is = grind (arith, nat_tests)

not_false : (b : Bool) → not b ≡ false → b ≡ true
not_false true is = refl
not_false false is = cc

find_first : (n : ℕ) (x : Lease) (xs : List Lease) → has n x ≡ true → find (has n) (x ∷ xs) ≡ Some x
find_first n x xs is = ap (λ (b : Bool). cond b (Some x) (find (has n) xs)) is

find_later : (n : ℕ) (x : Lease) (xs : List Lease) → has n x ≡ false → find (has n) (x ∷ xs) ≡ find (has n) xs
find_later n x xs is = ap (λ (b : Bool). cond b (Some x) (find (has n) xs)) is

module _ (now n : ℕ) where
  abbrev moved : Lease → Lease
  moved x = record x { deadline = deadline_at now x.seconds }

  -- leases of greater numbers stay as they are
  others_stay : (low last : ℕ) (live : List Lease) → n ≤ low → IsNumbered low live last → map (kept_alive now n) live ≡ live
  others_stay low last [] le numbered = refl
  others_stay low last (x ∷ xs) le numbered = rw (apart x.number n (omega (arith, numbered.0))) (ap (λ (l : List Lease). x ∷ l) (others_stay x.number last xs (omega (arith, numbered.0)) numbered.1))

  kept_first : (x : Lease) → has n x ≡ true → kept_alive now n x ≡ moved x
  kept_first x is = ap (λ (b : Bool). cond b (moved x) x) is

  kept_later : (x : Lease) → has n x ≡ false → kept_alive now n x ≡ x
  kept_later x is = ap (λ (b : Bool). cond b (moved x) x) is

  -- the deadlines of the first lease that has the number in two lists are equal
  abbrev AreAlike : Option Lease → Option Lease → Type 0
  AreAlike a b = option_eq nat_eq (option_map deadline a) (option_map deadline b) ≡ true

  all_stay : (low last : ℕ) (live : List Lease) → IsNumbered low live last → AreAlike (find (has n) live) (find (has n) (map (kept_alive now n) live)) → map (kept_alive now n) live ≡ live
  all_stay low last [] numbered alike = refl
  all_stay low last (x ∷ xs) numbered alike =
      elim (cases (has n x)) [
        | inl is ↦
            let after : find (has n) (map (kept_alive now n) (x ∷ xs)) ≡ Some (moved x) =
            ap (λ (y : Lease). find (has n) (y ∷ map (kept_alive now n) xs)) (kept_first x is) ∙ find_first n (moved x) (map (kept_alive now n) xs) is in
            let same : nat_eq x.deadline (deadline_at now x.seconds) ≡ true =
            sym (ap₂ (λ (a b : Option Lease). option_eq nat_eq (option_map deadline a) (option_map deadline b)) (find_first n x xs is) after) ∙ alike in
            let number : x.number ≡ n = equal x.number n is in
            ap₂ (λ (y : Lease) (ys : List Lease). y ∷ ys)
            (kept_first x is ∙ ap (λ (d : ℕ). record x { deadline = d }) (sym (equal x.deadline (deadline_at now x.seconds) same)))
            (others_stay x.number last xs (omega (arith, number)) numbered.1)
        | inr not_it ↦
            let after : find (has n) (map (kept_alive now n) (x ∷ xs)) ≡ find (has n) (map (kept_alive now n) xs) =
            ap (λ (y : Lease). find (has n) (y ∷ map (kept_alive now n) xs)) (kept_later x not_it) ∙ find_later n x (map (kept_alive now n) xs) not_it in
            ap₂ (λ (y : Lease) (ys : List Lease). y ∷ ys) (kept_later x not_it)
            (all_stay x.number last xs numbered.1 (sym (ap₂ (λ (a b : Option Lease). option_eq nat_eq (option_map deadline a) (option_map deadline b)) (find_later n x xs not_it) after) ∙ alike))
      ]

pub still_renewed : (table : LeaseTable) (lease : ℕ) → IsNumbered 0 table.live table.last → moves table lease ≡ false → renewed lease table ≡ table
still_renewed table lease numbered still = ap (λ (live : List Lease). record table { live = live }) (all_stay table.now lease 0 table.last table.live numbered (not_false _ still))

pub no_move : (contents : Contents) (lease : ℕ) → (let table = contents.leases in IsNumbered 0 table.live table.last) → moves contents.leases lease ≡ false → after_keep_alive lease contents ≡ contents
no_move contents lease numbered still = ap (λ (table : LeaseTable). record contents { leases = table }) (still_renewed contents.leases lease numbered still)

pub contents_kept_alive : (log : StoreLog) (writer lease : ℕ) → (let table = leases_of log in IsNumbered 0 table.live table.last) → contents_of (with_keep_alive log writer lease) ≡ after_keep_alive lease (contents_of log)
contents_kept_alive log writer lease numbered =
    elim (cases (moves (leases_of log) lease)) [
      | inl moves_it ↦ ap (λ (b : Bool). contents_of (noted_where b log writer (KeptAlive lease))) moves_it ∙ contents_more log (writer, KeptAlive lease)
      | inr still ↦ ap (λ (b : Bool). contents_of (noted_where b log writer (KeptAlive lease))) still ∙ sym (no_move (contents_of log) lease numbered still)
    ]

-- ---- a compaction
not_below : (a b : ℕ) → a ≤ b → Rattle.std.specs.Prelude.nat_lt a b ≡ false → b ≡ a
not_below a b le not_lt = grind (arith, nat_tests)

pub no_raise : (contents : Contents) (upto : ℕ) → raises contents upto ≡ false → after_compact upto contents ≡ contents
no_raise contents upto still = ap (λ (n : ℕ). record contents { compacted = n }) (not_below contents.compacted _ (omega arith) still)

pub contents_compacted : (log : StoreLog) (writer upto : ℕ) → contents_of (with_compaction log writer upto) ≡ after_compact upto (contents_of log)
contents_compacted log writer upto =
    elim (cases (raises (contents_of log) upto)) [
      | inl raises_it ↦ ap (λ (b : Bool). contents_of (noted_where b log writer (Compacted upto))) raises_it ∙ contents_more log (writer, Compacted upto)
      | inr still ↦ ap (λ (b : Bool). contents_of (noted_where b log writer (Compacted upto))) still ∙ sym (no_raise (contents_of log) upto still)
    ]
