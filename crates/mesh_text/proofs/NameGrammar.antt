-- A text without a fault is a name, and a name has no fault.
use Rattle.std.proofs.Common.{◌≡◌, ℕ, ◌≤◌, ◌-◌, Bool, true, false, cond, not, nat_lt, nat_le, ◌==◌, List, [], ◌∷◌, length, get_or, Option, Some, None, refl, arith, inl, inr, lt-ltb, le-ltb, le-leb}
use Rattle.std.proofs.lemmas.Bool.{and_parts, cases_lt, cases_Bool, ltb-false, eqb-false, leb-true, ne_eqb, not-true}
use Rattle.std.specs.List.{list_all, position_or_len}
use Rattle.mesh_text.specs.declared.names.NameFault.{NameFault}
use Rattle.mesh_text.specs.declared.names.NameFault.TheVariants as fault
use Rattle.mesh_text.specs.Names.{is_cluster_byte, is_part_byte, is_cluster_name, is_part_name, cluster_name_fault, part_name_fault, first_bad_byte, bad_end}

-- no fault here, and none later
none_here : {A : Type 0} (b : Bool) (x : A) (later : Option A) → cond b (Some x) later ≡ None → (b ≡ false) × (later ≡ None)
none_here true x later e = cc
none_here false x later e = (refl, e)

list_all-not_bad : (passes : ℕ → Bool) (text : List ℕ) → length text ≤ position_or_len (λ c. not (passes c)) text → list_all passes text ≡ true
list_all-not_bad passes [] h = refl
list_all-not_bad passes (c ∷ cs) h =
    elim (cases_Bool (passes c)) [
      | inl good ↦
          let more = list_all-not_bad passes cs (omega (arith, rw good at h)) in
          rw (good, more) refl
      | inr bad ↦ let h' = rw bad at h in absurd (omega arith)
    ]

no_bad_byte : (passes : ℕ → Bool) (text : List ℕ) (later : Option NameFault) → first_bad_byte passes text later ≡ None → (list_all passes text ≡ true) × (later ≡ None)
no_bad_byte passes text later e =
    elim (cases_lt (position_or_len (λ c. not (passes c)) text) (length text)) [
      | inl bad ↦ let e' = rw (lt-ltb _ _ bad) at e in cc
      | inr good ↦ (list_all-not_bad passes text good, rw (le-ltb _ _ good) at e)
    ]

some_byte : (text : List ℕ) → (length text == 0) ≡ false → nat_le 1 (length text) ≡ true
some_byte text e = let ne = eqb-false (length text) 0 e in le-leb 1 (length text) (omega arith)

not_long : (most : ℕ) (text : List ℕ) → nat_lt most (length text) ≡ false → nat_le (length text) most ≡ true
not_long most text e = le-leb (length text) most (ltb-false most (length text) e)

pub cluster_name_from_no_fault : (text : List ℕ) → cluster_name_fault text ≡ None → is_cluster_name text ≡ true
unfolding cluster_name_fault is_cluster_name
cluster_name_from_no_fault text e =
    let (some, e₁) = none_here _ _ _ e in
    let (short, e₂) = none_here _ _ _ e₁ in
    let (good, e₃) = no_bad_byte is_cluster_byte text (bad_end text) e₂ in
    let at = length text - 1 in
    let (first, e₄) = none_here (get_or text 0 0 == 45) (fault.BadEnd 0) (cond (get_or text at 0 == 45) (Some (fault.BadEnd at)) None) e₃ in
    let (last, _) = none_here (get_or text at 0 == 45) (fault.BadEnd at) None e₄ in
    rw (some_byte text some, not_long 32 text short, good, first, last) refl

pub part_name_from_no_fault : (text : List ℕ) → part_name_fault text ≡ None → is_part_name text ≡ true
unfolding part_name_fault is_part_name
part_name_from_no_fault text e =
    let (some, e₁) = none_here _ _ _ e in
    let (short, e₂) = none_here _ _ _ e₁ in
    let (good, _) = no_bad_byte is_part_byte text None e₂ in
    rw (some_byte text some, not_long 253 text short, good) refl

list_all-all_before : (passes : ℕ → Bool) (text : List ℕ) → list_all passes text ≡ true → length text ≤ position_or_len (λ c. not (passes c)) text
list_all-all_before passes [] h = omega arith
list_all-all_before passes (c ∷ cs) h =
    let (good, more) = and_parts (passes c) (list_all passes cs) h in
    let later = list_all-all_before passes cs more in
    rw good (omega (arith, later))

good_bytes : (passes : ℕ → Bool) (text : List ℕ) (later : Option NameFault) → list_all passes text ≡ true → first_bad_byte passes text later ≡ later
good_bytes passes text later h = rw (le-ltb _ _ (list_all-all_before passes text h)) refl

some_length : (text : List ℕ) → nat_le 1 (length text) ≡ true → (length text == 0) ≡ false
some_length text h = let some = leb-true 1 (length text) h in ne_eqb (length text) 0 (λ none. omega arith)

short_length : (most : ℕ) (text : List ℕ) → nat_le (length text) most ≡ true → nat_lt most (length text) ≡ false
short_length most text h = le-ltb most (length text) (leb-true (length text) most h)

pub no_fault-from_is_cluster_name : (text : List ℕ) → is_cluster_name text ≡ true → cluster_name_fault text ≡ None
unfolding cluster_name_fault is_cluster_name
no_fault-from_is_cluster_name text h =
    let (h₁, last) = and_parts _ _ h in
    let (h₂, first) = and_parts _ _ h₁ in
    let (h₃, good) = and_parts _ _ h₂ in
    let (some, short) = and_parts _ _ h₃ in
    rw (some_length text some, short_length 32 text short, good_bytes is_cluster_byte text (bad_end text) good, not-true _ first, not-true _ last) refl

pub no_fault-from_is_part_name : (text : List ℕ) → is_part_name text ≡ true → part_name_fault text ≡ None
unfolding part_name_fault is_part_name
no_fault-from_is_part_name text h =
    let (h₁, good) = and_parts _ _ h in
    let (some, short) = and_parts _ _ h₁ in
    rw (some_length text some, short_length 253 text short, good_bytes is_part_byte text None good) refl
