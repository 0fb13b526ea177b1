-- Which of the beginnings bytes have.
use Rattle.std.proofs.Common.{◌≡◌, subst, append-nil, ℕ, ◌≤◌, Bool, true, false, cond, nat_eq, List, [], ◌∷◌, ◌++◌, length, drop, Some, find, refl, sym, ap, ◌∙◌, arith, length-append}
use Rattle.std.proofs.Math.Seq.{drop-append_seam}
use Rattle.std.specs.List.{starts_with}
use Rattle.std.proofs.lemmas.Bool.Decides.{Decides-eqb}
use Rattle.std.proofs.lemmas.Slice.Eq.{starts_is}
use Rattle.mesh_text.specs.declared.kind.Kind.TheVariants.{Nodes, Services, Identities, Addresses}
use Rattle.key_paths.specs.declared.hop.Hop.TheVariants.{State, Cache}
use Rattle.key_paths.specs.declared.front.Front.{Front}
use Rattle.key_paths.specs.declared.front.Front.TheVariants.{Configs, Marks, Records, Cuts}
use Rattle.key_paths.specs.Beginnings.{beginning, fronts, front_at}

pub starts-sound : (bytes front : List ℕ) → starts_with nat_eq bytes front ≡ true → bytes ≡ front ++ drop (length front) bytes
starts-sound bytes front h = (starts_is Decides-eqb bytes front true (sym h)).0 refl

pub starts-append : (front rest : List ℕ) → starts_with nat_eq (front ++ rest) front ≡ true
starts-append front rest = (starts_is Decides-eqb (front ++ rest) front _ refl).1 rest refl

-- what is found passes
pub find-sound : {X : Type 0} (p : X → Bool) (xs : List X) (x : X) → find p xs ≡ Some x → p x ≡ true
find-sound p [] x h = cc
find-sound p (y ∷ ys) x h = found (p y) refl h (find-sound p ys x)
  where
    found : (b : Bool) → p y ≡ b → cond b (Some y) (find p ys) ≡ Some x → (find p ys ≡ Some x → p x ≡ true) → p x ≡ true
    found true e h later = let same : y ≡ x = cc in rw (← same) e
    found false e h later = later h

pub front_at-sound : (bytes : List ℕ) (front : Front) → front_at bytes ≡ Some front → bytes ≡ beginning front ++ drop (length (beginning front)) bytes
unfolding front_at
front_at-sound bytes front h = starts-sound bytes (beginning front) (find-sound (λ front. starts_with nat_eq bytes (beginning front)) fronts front h)

pub front_at_within : (bytes : List ℕ) (front : Front) → front_at bytes ≡ Some front → length (beginning front) ≤ length bytes
front_at_within bytes front h =
    omega (arith, ap length (front_at-sound bytes front h), length-append (beginning front) (drop (length (beginning front)) bytes))

-- bytes behind a beginning have this beginning
pub front_at-beginning : (front : Front) (rest : List ℕ) → front_at (beginning front ++ rest) ≡ Some front
unfolding front_at beginning
front_at-beginning Configs rest = refl
front_at-beginning Marks rest = refl
front_at-beginning (Records State Nodes) rest = refl
front_at-beginning (Records State Services) rest = refl
front_at-beginning (Records State Identities) rest = refl
front_at-beginning (Records State Addresses) rest = refl
front_at-beginning (Records Cache Nodes) rest = refl
front_at-beginning (Records Cache Services) rest = refl
front_at-beginning (Records Cache Identities) rest = refl
front_at-beginning (Records Cache Addresses) rest = refl
front_at-beginning Cuts rest = refl

-- no bytes have two of the beginnings
pub one_beginning : (bytes : List ℕ) (a b : Front) → starts_with nat_eq bytes (beginning a) ≡ true → starts_with nat_eq bytes (beginning b) ≡ true → a ≡ b
one_beginning bytes a b at_a at_b =
    let has_a = ap front_at (starts-sound bytes (beginning a) at_a) ∙ front_at-beginning a (drop (length (beginning a)) bytes) in
    let has_b = ap front_at (starts-sound bytes (beginning b) at_b) ∙ front_at-beginning b (drop (length (beginning b)) bytes) in
    let same = sym has_a ∙ has_b in cc

-- what stands behind the beginning that the bytes have
pub behind-beginning : (front : Front) (rest : List ℕ) → drop (length (beginning front)) (beginning front ++ rest) ≡ rest
behind-beginning front rest = drop-append_seam (beginning front) rest

pub begins_with_itself : (front : Front) → starts_with nat_eq (beginning front) (beginning front) ≡ true
begins_with_itself front =
    subst (λ bytes. starts_with nat_eq bytes (beginning front) ≡ true) (append-nil (beginning front)) (starts-append (beginning front) [])
