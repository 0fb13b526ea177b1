-- Lists of views, of accounts and of entries.
use Rattle.std.proofs.Common.{◌≡◌, ℕ, zero, suc, ◌+◌, ◌<◌, ◌≤◌, ◌≢◌, eqb, Bool, cond, List, [], ◌∷◌, ◌++◌, length, drop, set, sym, refl, ap, ap₂, ◌∙◌, subst, arith, append_assoc, length-append, eq-eqb, ne_eqb, ⊎_elim, ◌⊎◌, inl, inr}
use mathlib.Core.Option.{some, some-injective, some-ne-none}
use mathlib.Core.Logic.{dite}
use native.Mathlib.Decide.{ℕ_discrete, dec_le}
use lib.ListN.{get_elem?}
use Rattle.std.proofs.lemmas.List.{append-nil}
use Rattle.std.proofs.lemmas.List.Elements.{filter-append}
use Rattle.std.proofs.lemmas.Bool.{le-leb, lt-leb}
use Rattle.atomic_table.proofs.Lists.{at_set}
use Rattle.turn_cell.specs.Logs.{Log, Account, Begins, Each, entries_of, AllOwnedBy, grown, one_if, account_count, total, longer}

module _ {A : Type 0} where
  pub total_set : (f : A → ℕ) (l : List A) (i : ℕ) (a b : A) → get_elem? l i ≡ some a → total f (set l i b) + f a ≡ total f l + f b
  total_set f [] i a b e = absurd (some-ne-none a (sym e))
  total_set f (x ∷ xs) zero a b e = let h : f x ≡ f a = ap f (some-injective x a e) in omega arith
  total_set f (x ∷ xs) (suc i) a b e = let h = total_set f xs i a b e in omega arith

  pub total_same : (f : A → ℕ) (l : List A) (i : ℕ) (a b : A) → get_elem? l i ≡ some a → f b ≡ f a → total f (set l i b) ≡ total f l
  total_same f l i a b e same = let h = total_set f l i a b e in omega arith

  pub total_le : (f : A → ℕ) (l : List A) (i : ℕ) (a : A) → get_elem? l i ≡ some a → f a ≤ total f l
  total_le f [] i a e = absurd (some-ne-none a (sym e))
  total_le f (x ∷ xs) zero a e = let h : f x ≡ f a = ap f (some-injective x a e) in omega arith
  total_le f (x ∷ xs) (suc i) a e = let h = total_le f xs i a e in omega arith

  pub total_two : (f : A → ℕ) (l : List A) (i j : ℕ) (a b : A) → i ≢ j → get_elem? l i ≡ some a → get_elem? l j ≡ some b → f a + f b ≤ total f l
  total_two f [] i j a b ne e g = absurd (some-ne-none a (sym e))
  total_two f (x ∷ xs) zero zero a b ne e g = absurd (ne refl)
  total_two f (x ∷ xs) zero (suc j) a b ne e g = let h : f x ≡ f a = ap f (some-injective x a e) in let k = total_le f xs j b g in omega arith
  total_two f (x ∷ xs) (suc i) zero a b ne e g = let h : f x ≡ f b = ap f (some-injective x b g) in let k = total_le f xs i a e in omega arith
  total_two f (x ∷ xs) (suc i) (suc j) a b ne e g = let h = total_two f xs i j a b (λ s. ne (ap suc s)) e g in omega arith

  pub total_most : (f : A → ℕ) (l : List A) → ((a : A) → f a ≤ 1) → total f l ≤ length l
  total_most f [] most = omega arith
  total_most f (x ∷ xs) most = let h = total_most f xs most in let k = most x in omega arith

  pub seats_stay : (K : ℕ → A → Type 0) (l : List A) (i : ℕ) (b : A) → K i b → ((j : ℕ) (c : A) → j ≢ i → get_elem? l j ≡ some c → K j c) → (j : ℕ) (c : A) → get_elem? (set l i b) j ≡ some c → K j c
  seats_stay K l i b mine others j c e = ⊎_elim (λ (t : (j ≡ i) × (b ≡ c)). subst (λ (x : ℕ × A). K x.0 x.1) (λ k. (sym t.0 k, t.1 k)) mine)
      (λ (t : (j ≢ i) × (get_elem? l j ≡ some c)). others j c t.0 t.1) (at_set l i j b c e)

  pub begins_more : (xs ys zs : List A) → Begins xs ys → Begins xs (ys ++ zs)
  begins_more xs ys zs b = (b.0 ++ zs, ap (λ (l : List A). l ++ zs) b.1 ∙ append_assoc xs b.0 zs)

  pub begins_self : (xs : List A) → Begins xs xs
  begins_self xs = ([], sym (append-nil xs))

  pub begins_length : (xs ys : List A) → Begins xs ys → length xs ≤ length ys
  begins_length xs ys b = let h : length ys ≡ length (xs ++ b.0) = ap length b.1 in omega (arith, length-append xs b.0)

  pub begins_on : (xs ys zs : List A) → Begins xs ys → Begins ys zs → Begins xs zs
  begins_on xs ys zs b c = (b.0 ++ c.0, c.1 ∙ (ap (λ (l : List A). l ++ c.0) b.1 ∙ append_assoc xs b.0 c.0))

  pub each_on : (P Q : A → Type 0) (xs : List A) → ((x : A) → P x → Q x) → Each P xs → Each Q xs
  each_on P Q [] f a = tt
  each_on P Q (x ∷ xs) f a = (f x a.0, each_on P Q xs f a.1)

  pub has_room : (l : List A) (i : ℕ) (c : A) → get_elem? l i ≡ some c → i < length l
  has_room [] i c e = absurd (some-ne-none c (sym e))
  has_room (x ∷ xs) zero c e = omega arith
  has_room (x ∷ xs) (suc i) c e = let h = has_room xs i c e in omega arith

  pub each_append : (P : A → Type 0) (xs ys : List A) → Each P xs → Each P ys → Each P (xs ++ ys)
  each_append P [] ys a b = b
  each_append P (x ∷ xs) ys a b = (a.0, each_append P xs ys a.1 b)

  pub each_both : (P Q R : A → Type 0) (xs : List A) → ((x : A) → P x → Q x → R x) → Each P xs → Each Q xs → Each R xs
  each_both P Q R [] f a b = tt
  each_both P Q R (x ∷ xs) f a b = (f x a.0 b.0, each_both P Q R xs f a.1 b.1)

  pub each_left : (P : A → Type 0) (xs ys : List A) → Each P (xs ++ ys) → Each P xs
  each_left P [] ys a = tt
  each_left P (x ∷ xs) ys a = (a.0, each_left P xs ys a.1)

  pub each_right : (P : A → Type 0) (xs ys : List A) → Each P (xs ++ ys) → Each P ys
  each_right P [] ys a = a
  each_right P (x ∷ xs) ys a = each_right P xs ys a.1

  pub each_drop : (P : A → Type 0) (k : ℕ) (xs ys : List A) → Each P (drop k (xs ++ ys)) → Each P (drop k xs)
  each_drop P zero xs ys a = each_left P xs ys a
  each_drop P (suc k) [] ys a = tt
  each_drop P (suc k) (x ∷ xs) ys a = each_drop P k xs ys a

  pub begins_drop : (k : ℕ) (xs ys : List A) → Begins xs ys → Begins (drop k xs) (drop k ys)
  begins_drop zero xs ys b = b
  begins_drop (suc k) [] ys b = (drop (suc k) ys, refl)
  begins_drop (suc k) (x ∷ xs) ys b = let h = begins_drop k xs (xs ++ b.0) (b.0, refl) in (h.0, ap (drop (suc k)) b.1 ∙ h.1)

  no_more_by : (a rest : List A) → length (a ++ rest) ≤ length a → rest ≡ []
  no_more_by a [] le = refl
  no_more_by a (x ∷ rest) le = absurd (omega (arith, length-append a (x ∷ rest)))

  -- what begins a list and is as long is the list
  pub whole : (a b : List A) → Begins a b → length b ≤ length a → b ≡ a
  whole a b h le = let none = no_more_by a h.0 (let e : length b ≡ length (a ++ h.0) = ap length h.1 in omega arith) in h.1 ∙ (ap (λ (l : List A). a ++ l) none ∙ append-nil a)

  pub total_snoc : (f : A → ℕ) (l : List A) (a : A) → total f (l ++ a ∷ []) ≡ total f l + f a
  total_snoc f [] a = omega arith
  total_snoc f (x ∷ xs) a = let h = total_snoc f xs a in omega arith

  -- what stands in a list with one more at its end
  pub at_end : (l : List A) (a b : A) (j : ℕ) → get_elem? (l ++ a ∷ []) j ≡ some b → (get_elem? l j ≡ some b) ⊎ ((j ≡ length l) × (a ≡ b))
  at_end [] a b zero e = inr (refl, some-injective a b e)
  at_end [] a b (suc j) e = absurd (some-ne-none b (sym e))
  at_end (x ∷ xs) a b zero e = inl e
  at_end (x ∷ xs) a b (suc j) e = ⊎_elim (λ h. inl h) (λ (t : (j ≡ length xs) × (a ≡ b)). inr (ap suc t.0, t.1)) (at_end xs a b j e)

  begins_two_by : (xs ys l : List A) → Begins xs l → Begins ys l → length xs ≤ length ys → Begins xs ys
  begins_two_by [] ys l b c le = (ys, refl)
  begins_two_by (x ∷ xs) [] l b c le = absurd (omega arith)
  begins_two_by (x ∷ xs) (y ∷ ys) l b c le =
      let e : x ∷ (xs ++ b.0) ≡ y ∷ (ys ++ c.0) = sym b.1 ∙ c.1 in let head : x ≡ y = cc in let tails : xs ++ b.0 ≡ ys ++ c.0 = cc in
      let h = begins_two_by xs ys (xs ++ b.0) (b.0, refl) (c.0, tails) (omega arith) in (h.0, λ i. sym head i ∷ h.1 i)

  -- the longer of two beginnings of one list
  pub longer_begins : (xs ys l : List A) → Begins xs l → Begins ys l → Begins xs (longer xs ys) × Begins ys (longer xs ys) × Begins (longer xs ys) l
  longer_begins xs ys l b c = let P : List A → Type 0 = λ z. Begins xs z × Begins ys z × Begins z l in dite (dec_le (length xs) (length ys))
      (λ le. subst (λ (t : Bool). P (cond t ys xs)) (sym (le-leb (length xs) (length ys) le)) (begins_two_by xs ys l b c le, begins_self ys, c))
      (λ gt. subst (λ (t : Bool). P (cond t ys xs)) (sym (lt-leb (length xs) (length ys) (omega arith))) (begins_self xs, begins_two_by ys xs l c b (omega arith), b))

pub one_if_self : (n m : ℕ) → n ≡ m → one_if n m ≡ 1
one_if_self n m e = let P : Bool → Type 0 = λ b. cond {A = ℕ} b 1 0 ≡ 1 in subst P (sym (eq-eqb n m e)) refl

pub one_if_not : (n m : ℕ) → n ≢ m → one_if n m ≡ 0
one_if_not n m ne = let P : Bool → Type 0 = λ b. cond {A = ℕ} b 1 0 ≡ 0 in subst P (sym (ne_eqb n m ne)) refl

module _ {E : Type 0} where
  pub of_all : (n : ℕ) (es : Log E) → AllOwnedBy n es → entries_of n es ≡ es
  of_all n [] a = refl
  of_all n (e ∷ es) a = subst (λ (b : Bool). cond b (e ∷ entries_of n es) (entries_of n es) ≡ e ∷ es) (sym (eq-eqb e.0 n a.0)) (ap (λ (l : Log E). e ∷ l) (of_all n es a.1))

  pub of_none : (m n : ℕ) (es : Log E) → n ≢ m → AllOwnedBy n es → entries_of m es ≡ []
  of_none m n [] ne a = refl
  of_none m n (e ∷ es) ne a = subst (λ (b : Bool). cond b (e ∷ entries_of m es) (entries_of m es) ≡ []) (sym (ne_eqb e.0 m (λ s. ne (sym a.0 ∙ s)))) (of_none m n es ne a.1)

  -- accounts of other view_numbered have no more
  pub others_same : (n : ℕ) (l es : Log E) (accounts : List (Account E)) → AllOwnedBy n es → account_count n accounts ≡ 0 → Each (λ a. a.1 ≡ entries_of a.0 l) accounts → Each (λ a. a.1 ≡ entries_of a.0 (l ++ es)) accounts
  others_same n l es [] by none k = tt
  others_same n l es (a ∷ rest) by none k = dite (ℕ_discrete n a.0)
      (λ same. let h = one_if_self n a.0 same in absurd (omega arith))
      (λ ne. (k.0 ∙ sym (filter-append (λ (e : ℕ × E). eqb e.0 a.0) l es ∙ (ap (λ (z : Log E). entries_of a.0 l ++ z) (of_none a.0 n es ne by) ∙ append-nil (entries_of a.0 l))), others_same n l es rest by (omega arith) k.1))

  pub one_more : (n : ℕ) (own l es : Log E) → AllOwnedBy n es → own ≡ entries_of n l → own ++ es ≡ entries_of n (l ++ es)
  one_more n own l es by is = ap₂ (λ (x y : Log E). x ++ y) is (sym (of_all n es by)) ∙ sym (filter-append (λ (e : ℕ × E). eqb e.0 n) l es)

  pub times_grown : (n : ℕ) (es : Log E) (accounts spare : List (Account E)) → account_count n (grown es accounts ++ spare) ≡ account_count n (accounts ++ spare)
  times_grown n es [] spare = refl
  times_grown n es (a ∷ rest) spare = refl

  pub times_append : (n : ℕ) (a b : List (Account E)) → account_count n (a ++ b) ≡ account_count n a + account_count n b
  times_append n [] b = omega arith
  times_append n (x ∷ xs) b = let h = times_append n xs b in omega arith

  -- no entry has a number that was not given
  pub of_absent : (n : ℕ) (l : Log E) → Each (λ e. (0 < e.0) × (e.0 < n)) l → entries_of n l ≡ []
  of_absent n [] k = refl
  of_absent n (e ∷ es) k = subst (λ (b : Bool). cond b (e ∷ entries_of n es) (entries_of n es) ≡ []) (sym (ne_eqb e.0 n (λ s. let h = k.0.1 in omega arith))) (of_absent n es k.1)

  pub begins_of : (n : ℕ) (xs ys : Log E) → Begins xs ys → Begins (entries_of n xs) (entries_of n ys)
  begins_of n xs ys b = (entries_of n b.0, ap (entries_of n) b.1 ∙ filter-append (λ (e : ℕ × E). eqb e.0 n) xs b.0)

  -- the entries of a number in a log between two that have as many
  pub of_between : (n k : ℕ) (es a b c : Log E) → Begins a b → Begins b c → es ≡ entries_of n (drop k a) → es ≡ entries_of n (drop k c) → es ≡ entries_of n (drop k b)
  of_between n k es a b c ab bc low high =
      let p = begins_of n (drop k a) (drop k b) (begins_drop k a b ab) in let q = begins_of n (drop k b) (drop k c) (begins_drop k b c bc) in
      let l : length (entries_of n (drop k a)) ≡ length (entries_of n (drop k c)) = ap length (sym low ∙ high) in
      low ∙ sym (whole (entries_of n (drop k a)) (entries_of n (drop k b)) p (let m = begins_length (entries_of n (drop k b)) (entries_of n (drop k c)) q in omega arith))

  -- the account of a number that has one
  pub account : (P : Account E → Type 0) (m : ℕ) (accounts : List (Account E)) → 0 < account_count m accounts → Each P accounts → (a : Account E) × (m ≡ a.0) × P a
  account P m [] h k = absurd (omega arith)
  account P m (a ∷ others) h k = dite (ℕ_discrete m a.0)
      (λ same. (a, same, k.0))
      (λ ne. account P m others (let z = one_if_not m a.0 ne in omega arith) k.1)

-- how often m is among the view_numbered below k
abbrev hits : ℕ → ℕ → ℕ
hits zero m = 0
hits (suc k) m = one_if k m + hits k m

hits_over : (k m : ℕ) → k ≤ m → hits k m ≡ 0
hits_over zero m le = refl
hits_over (suc k) m le = let h = hits_over k m (omega arith) in let z = one_if_not k m (λ (e : k ≡ m). omega arith) in omega arith

hits_under : (k m : ℕ) → m < k → hits k m ≡ 1
hits_under zero m lt = absurd (omega arith)
hits_under (suc k) m lt = dite (ℕ_discrete k m)
    (λ same. let h = hits_over k m (omega arith) in let o = one_if_self k m same in omega arith)
    (λ ne. let h = hits_under k m (omega arith) in let z = one_if_not k m ne in omega arith)

module _ {E : Type 0} where
  -- the accounts of the view_numbered below k
  abbrev spread : ℕ → List (Account E) → ℕ
  spread zero accounts = 0
  spread (suc k) accounts = account_count k accounts + spread k accounts

  spread_nil : (k : ℕ) (none : List (Account E)) → none ≡ [] → spread k none ≡ 0
  spread_nil zero none is = refl
  spread_nil (suc k) none is = let h = spread_nil k none is in let t : account_count k none ≡ 0 = ap (account_count k) is in omega arith

  spread_cons : (k : ℕ) (a : Account E) (others : List (Account E)) → spread k (a ∷ others) ≡ hits k a.0 + spread k others
  spread_cons zero a others = refl
  spread_cons (suc k) a others = let h = spread_cons k a others in omega arith

  spread_length : (k : ℕ) (accounts : List (Account E)) → Each (λ a. a.0 < k) accounts → spread k accounts ≡ length accounts
  spread_length k [] below = spread_nil k [] refl
  spread_length k (a ∷ others) below = let h = spread_length k others below.1 in let c = spread_cons k a others in let u = hits_under k a.0 below.0 in omega arith

  spread_most : (k : ℕ) (accounts : List (Account E)) → ((n : ℕ) → account_count n accounts ≤ 1) → account_count 0 accounts ≡ 0 → 0 < k → spread k accounts + 1 ≤ k
  spread_most zero accounts most none pos = absurd (omega arith)
  spread_most (suc zero) accounts most none pos = omega arith
  spread_most (suc (suc k)) accounts most none pos = let h = spread_most (suc k) accounts most none (omega arith) in let m = most (suc k) in omega arith

  spread_less : (k m : ℕ) (accounts : List (Account E)) → ((n : ℕ) → account_count n accounts ≤ 1) → account_count 0 accounts ≡ 0 → 0 < m → m < k → account_count m accounts ≡ 0 → spread k accounts + 2 ≤ k
  spread_less zero m accounts most none pos lt gone = absurd (omega arith)
  spread_less (suc k) m accounts most none pos lt gone = dite (ℕ_discrete m k)
      (λ same. let h = spread_most k accounts most none (omega arith) in let z : account_count k accounts ≡ 0 = ap (λ (n : ℕ). account_count n accounts) (sym same) ∙ gone in omega arith)
      (λ ne. let h = spread_less k m accounts most none pos (omega arith) gone in let b = most k in omega arith)

  numbers_below : (k : ℕ) (accounts : List (Account E)) → ((n : ℕ) → k ≤ n → account_count n accounts ≡ 0) → Each (λ a. a.0 < k) accounts
  numbers_below k [] none = tt
  numbers_below k (a ∷ others) none = (
    dite (dec_le k a.0) (λ over. let h = none a.0 over in let o = one_if_self a.0 a.0 refl in absurd (omega arith)) (λ under. omega arith),
    numbers_below k others (λ n le. let h = none n le in omega arith),
  )

  -- as many accounts as view_numbered, each at most once, are all
  pub all_there : (k : ℕ) (accounts : List (Account E)) → ((n : ℕ) → account_count n accounts ≤ 1) → account_count 0 accounts ≡ 0 → ((n : ℕ) → k ≤ n → account_count n accounts ≡ 0) → length accounts + 1 ≡ k
      → (n : ℕ) → 0 < n → n < k → 0 < account_count n accounts
  all_there k accounts most none over long n pos lt = dite (ℕ_discrete (account_count n accounts) 0)
      (λ gone. let l = spread_length k accounts (numbers_below k accounts over) in let s = spread_less k n accounts most none pos lt gone in absurd (omega arith))
      (λ there. omega arith)
