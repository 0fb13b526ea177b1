-- Trees that are put together from shallow trees without floats are such trees themselves.
use Rattle.std.proofs.Common.{◌≡◌, ℕ, ◌≤◌, max, Bool, false, true, ◌||◌, List, [], ◌∷◌, map, Ordering, Less, Equal, Greater, nat_cmp, refl, arith}
use Rattle.std.specs.Ordering.{match_ordering}
use Rattle.std.specs.Cmp.Lexicographic.{slice_cmp}
use Rattle.serde_json.specs.Data.{Data, Members, member, no_members, put, depth, items_depth, members_depth}
use Rattle.serde_json.specs.View.{items_of}
use Rattle.serde_json.specs.Written.{has_float, items_have_float, members_have_float}
use Rattle.mesh_records.specs.Trees.{put_all}

-- no float, and at most so deep
abbrev pub IsPlain : ℕ → Data → Type 0
IsPlain n d = (has_float d ≡ false) × (depth d ≤ n)

abbrev pub ArePlain : ℕ → Members → Type 0
ArePlain n members = (members_have_float members ≡ false) × (members_depth members ≤ n)

pub both_false : (a b : Bool) → a ≡ false → b ≡ false → (a || b) ≡ false
both_false a b h k = rw (h, k) refl

pub left_false : (a b : Bool) → (a || b) ≡ false → a ≡ false
left_false true b h = h
left_false false b h = refl

pub right_false : (a b : Bool) → (a || b) ≡ false → b ≡ false
right_false true b h = absurd (let e = h in cc)
right_false false b h = h

pub most : (a b n : ℕ) → a ≤ n → b ≤ n → max a b ≤ n
most a b n h k = omega (arith, h, k)

pub left_most : (a b n : ℕ) → max a b ≤ n → a ≤ n
left_most a b n h = omega (arith, h)

pub right_most : (a b n : ℕ) → max a b ≤ n → b ≤ n
right_most a b n h = omega (arith, h)

pub plain_member : (n : ℕ) (k : List ℕ) (d : Data) (members : Members) → IsPlain n d → ArePlain n members → ArePlain n (member k d members)
plain_member n k d members h hs = (both_false (has_float d) (members_have_float members) h.0 hs.0, most (depth d) (members_depth members) n h.1 hs.1)

plain_rest : (n : ℕ) (k : List ℕ) (d : Data) (members : Members) → ArePlain n (member k d members) → ArePlain n members
plain_rest n k d members h = (right_false (has_float d) (members_have_float members) h.0, right_most (depth d) (members_depth members) n h.1)

plain_first : (n : ℕ) (k : List ℕ) (d : Data) (members : Members) → ArePlain n (member k d members) → IsPlain n d
plain_first n k d members h = (left_false (has_float d) (members_have_float members) h.0, left_most (depth d) (members_depth members) n h.1)

plain_by : (n : ℕ) (o : Ordering) (k l : List ℕ) (d e : Data) (members : Members) → IsPlain n d → ArePlain n (member l e members) → ArePlain n (put k d members)
    → ArePlain n (match_ordering o (member k d (member l e members)) (member l d members) (member l e (put k d members)))
plain_by n Less k l d e members h hs rest = plain_member n k d (member l e members) h hs
plain_by n Equal k l d e members h hs rest = plain_member n l d members h (plain_rest n l e members hs)
plain_by n Greater k l d e members h hs rest = plain_member n l e (put k d members) (plain_first n l e members hs) rest

pub plain_put : (n : ℕ) (k : List ℕ) (d : Data) (members : Members) → IsPlain n d → ArePlain n members → ArePlain n (put k d members)
plain_put n k d no_members h hs = plain_member n k d no_members h hs
plain_put n k d (member l e members) h hs =
    plain_by n (slice_cmp nat_cmp k l) k l d e members h hs (plain_put n k d members h (plain_rest n l e members hs))

-- members that are made of plain trees
pub plain_all : {A : Type 0} (n : ℕ) (f : A → List ℕ × Data) → ((a : A) → IsPlain n ((f a).1)) → (members : Members) (xs : List A) → ArePlain n members → ArePlain n (put_all members (map f xs))
plain_all n f plain ms [] h = h
plain_all n f plain ms (x ∷ xs) h = plain_all n f plain (put (f x).0 (f x).1 ms) xs (plain_put n (f x).0 (f x).1 ms (plain x) h)

-- items that are plain trees
pub items_plain : {A : Type 0} (n : ℕ) (f : A → Data) → ((a : A) → IsPlain n (f a)) → (xs : List A)
    → (items_have_float (items_of (map f xs)) ≡ false) × (items_depth (items_of (map f xs)) ≤ n)
items_plain n f plain [] = (refl, omega arith)
items_plain n f plain (x ∷ xs) =
    let rest = items_plain n f plain xs in
    (both_false (has_float (f x)) (items_have_float (items_of (map f xs))) (plain x).0 rest.0, most (depth (f x)) (items_depth (items_of (map f xs))) n (plain x).1 rest.1)
