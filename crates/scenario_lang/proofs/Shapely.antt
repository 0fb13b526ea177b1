-- What holds of everything that words of a form, or of a shape, say.
use Rattle.std.proofs.Common.{◌≡◌, ◌&&◌, ◌+◌, ◌≤◌, ◌<◌, ℕ, Bool, true, false, cond, nat_le, bytes_eq, codes, List, [], ◌∷◌, length, Option, Some, None, Result, Ok, Err, refl, sym, ap, ◌∙◌, subst, arith, option_and_then}
use Rattle.std.specs.List.{position, position_from}
use Rattle.std.proofs.lemmas.Bool.{and_parts, leb-true}
use Rattle.std.proofs.lemmas.Iterator.Adapters.{position_from-zero}
use Rattle.mesh_base.specs.Order.{same_bytes}
use Rattle.mesh_text.specs.Numbers.{number_of}
use Rattle.scenario_lang.specs.declared.draft.Draft.{Draft}
use Rattle.scenario_lang.specs.declared.kinds.LineKind.{LineKind}
use Rattle.scenario_lang.specs.declared.kinds.LineKind.TheVariants as kind
use Rattle.scenario_lang.specs.declared.scenario.Count.{Count}
use Rattle.scenario_lang.specs.declared.scenario.Count.TheVariants as count
use Rattle.scenario_lang.specs.declared.scenario.Remote.{Remote}
use Rattle.scenario_lang.specs.declared.scenario.StoreOf.{StoreOf}
use Rattle.scenario_lang.specs.declared.scenario.StoreOf.TheVariants as store_of
use Rattle.scenario_lang.specs.Clusters.{names_of, is_local_name}
use Rattle.scenario_lang.specs.Judgement.{◌>>=◌, or_fault, refused_if}
use Rattle.scenario_lang.specs.Forms.{Form, remote, store, seconds, revision, skip, cluster_number, count_or_all, cluster_name_said, whole_of, whole_said}
use Rattle.scenario_lang.specs.Shapes.{Shape, first_of, one, ◌▸◌, word, makes}
use Rattle.scenario_lang.specs.Valid.{IsClusterNumber, IsToBillion, IsCount, IsStoreOf}
use Rattle.scenario_lang.proofs.Names.{names_length}

-- a judgement that gives something went through its first step
pub ok_bind : {A B E : Type 0} (r : Result A E) (f : A → Result B E) (y : B) → (r >>= f) ≡ Ok y → (x : A) × (r ≡ Ok x) × (f x ≡ Ok y)
ok_bind (Ok x) f y e = (x, refl, e)
ok_bind (Err k) f y e = absurd (let h : Err k ≡ Ok y = e in cc)

pub passed : {B : Type 0} (t : Bool) (k : LineKind) (f : Unit {0} → Result B LineKind) (y : B) → (refused_if t k >>= f) ≡ Ok y → (t ≡ false) × (f tt ≡ Ok y)
passed false k f y e = (refl, e)
passed true k f y e = absurd (let h : Err k ≡ Ok y = e in cc)

abbrev pub given : {A : Type 0} → A → Result A LineKind
given x = Ok x

pub ok_same : {A : Type 0} (x y : A) → given x ≡ given y → x ≡ y
ok_same x y e = cc

or_ok : {A : Type 0} (o : Option A) (k : LineKind) (x : A) → or_fault o k ≡ Ok x → o ≡ Some x
or_ok None k x e = absurd (let h : Err k ≡ Ok x = e in cc)
or_ok (Some y) k x e = cc

first_ok : {A : Type 0} (ws : List (List ℕ)) (says : List ℕ → List (List ℕ) → Result A LineKind) (x : A) → first_of ws says ≡ Ok x → (w : List ℕ) × (more : List (List ℕ)) × (says w more ≡ Ok x)
first_ok [] says x e = absurd (let h : Err kind.Words ≡ Ok x = e in cc)
first_ok (w ∷ ws) says x e = (w, ws, e)

-- P holds of what words of the form say, beside the number of the remotes
pub record Holds {A : Type 0} (P : ℕ → A → Type 0) (form : Form A) : Type 0 where
  pub word : (draft : Draft) (w : List ℕ) (x : A) → form.says draft w ≡ Ok x → P (length draft.remotes) x

-- the same of a shape
pub record HoldsAll {A : Type 0} (P : ℕ → A → Type 0) (shape : Shape A) : Type 0 where
  pub words : (draft : Draft) (ws : List (List ℕ)) (x : A) → shape.says draft ws ≡ Ok x → P (length draft.remotes) x

pub any : {A : Type 0} (shape : Shape A) → HoldsAll (λ n x. Unit {0}) shape
any shape = record { words = λ draft ws x e. tt }

pub alone : {A : Type 0} (P : ℕ → A → Type 0) (form : Form A) → Holds P form → HoldsAll P (one form)
alone P form h = record { words = λ draft ws x e. let first = first_ok ws (λ w more. form.says draft w) x e in h.word draft first.0 x first.2 }

pub before : {A B : Type 0} (P : ℕ → A → Type 0) (form : Form A) (shape : Shape B) → Holds P form → HoldsAll (λ n p. P n p.0) (form ▸ shape)
before P form shape h = record {
  words = λ draft ws p e.
      let first = first_ok ws (λ w more. form.says draft w >>= λ x. shape.says draft more >>= λ y. Ok (x, y)) p e in
      let a = ok_bind (form.says draft first.0) (λ x. shape.says draft first.1 >>= λ y. Ok (x, y)) p first.2 in
      let b = ok_bind (shape.says draft first.1) (λ y. Ok (a.0, y)) p a.2 in
      let both = ok_same (a.0, b.0) p b.2 in
      let same : a.0 ≡ p.0 = ap (λ q. q.0) both in
      subst (λ x. P (length draft.remotes) x) same (h.word draft first.0 a.0 a.1);
}

pub beside : {A B : Type 0} (P : ℕ → A → Type 0) (Q : ℕ → B → Type 0) (form : Form A) (shape : Shape B) → Holds P form → HoldsAll Q shape → HoldsAll (λ n p. P n p.0 × Q n p.1) (form ▸ shape)
beside P Q form shape h k = record {
  words = λ draft ws p e.
      let first = first_ok ws (λ w more. form.says draft w >>= λ x. shape.says draft more >>= λ y. Ok (x, y)) p e in
      let a = ok_bind (form.says draft first.0) (λ x. shape.says draft first.1 >>= λ y. Ok (x, y)) p first.2 in
      let b = ok_bind (shape.says draft first.1) (λ y. Ok (a.0, y)) p a.2 in
      let same = ok_same (a.0, b.0) p b.2 in
      (subst (λ x. P (length draft.remotes) x) (ap (λ q. q.0) same) (h.word draft first.0 a.0 a.1), subst (λ y. Q (length draft.remotes) y) (ap (λ q. q.1) same) (k.words draft first.1 b.0 b.1));
}

pub behind : {A : Type 0} (P : ℕ → A → Type 0) (text : List ℕ) (shape : Shape A) → HoldsAll P shape → HoldsAll P (word text shape)
behind P text shape h = record { words = λ draft ws x e. let first = first_ok ws (λ w more. shape.says draft more) x e in h.words draft first.1 x first.2 }

pub made : {A B : Type 0} (P : ℕ → A → Type 0) (Q : ℕ → B → Type 0) (m : A → B) (shape : Shape A) → HoldsAll P shape → ((n : ℕ) (x : A) → P n x → Q n (m x)) → HoldsAll Q (makes m shape)
made P Q m shape h f = record {
  words = λ draft ws y e.
      let a = ok_bind (shape.says draft ws) (λ x. Ok (m x)) y e in
      subst (λ z. Q (length draft.remotes) z) (ok_same (m a.0) y a.2) (f (length draft.remotes) a.0 (h.words draft ws a.0 a.1));
}

-- The forms.

position_below : (p : List ℕ → Bool) (i : ℕ) (xs : List (List ℕ)) (x : ℕ) → position_from p i xs ≡ Some x → x < i + length xs
position_below p i [] x e = absurd (let h : None ≡ Some x = e in cc)
position_below p i (y ∷ ys) x e = by (p y) (position_below p (i + 1) ys x) e
  where
    by : (b : Bool) → (position_from p (i + 1) ys ≡ Some x → x < i + 1 + length ys) → cond b (Some i) (position_from p (i + 1) ys) ≡ Some x → x < i + length (y ∷ ys)
    by true more e = let same : i ≡ x = cc in omega arith
    by false more e = let h = more e in omega arith

place_in : (remotes : List Remote) (name : List ℕ) (p : ℕ) → or_fault (position (same_bytes name) (names_of remotes)) kind.UnknownCluster ≡ Ok p → p < length remotes
place_in remotes name p e =
    let names = names_of remotes in
    let at = or_ok (position (same_bytes name) names) kind.UnknownCluster p e in
    let h = position_below (same_bytes name) 0 names p (sym (position_from-zero (same_bytes name) names) ∙ at) in
    let long = names_length remotes in
    omega (arith, long, h)

pub remote_in : Holds (λ n p. p < n) remote
remote_in = record {
  word = λ draft w p e.
      let a = ok_bind (cluster_name_said w) (λ name. or_fault (position (same_bytes name) (names_of draft.remotes)) kind.UnknownCluster) p e in
      place_in draft.remotes a.0 p a.2;
}

pub store_in : Holds (λ n s. IsStoreOf n s) store
store_in = record {
  word = λ draft w s e.
      let after = λ (name : List ℕ). or_fault (position (same_bytes name) (names_of draft.remotes)) kind.UnknownCluster in
      let a = ok_bind (cluster_name_said w) (λ name. cond (is_local_name name draft.local) (Ok store_of.Local) (after name >>= λ p. Ok (store_of.Remote p))) s e in
      by draft.remotes a.0 s (is_local_name a.0 draft.local) a.2;
}
  where
    by : (remotes : List Remote) (name : List ℕ) (s : StoreOf) (b : Bool)
        → cond b (Ok store_of.Local) (or_fault (position (same_bytes name) (names_of remotes)) kind.UnknownCluster >>= λ p. Ok (store_of.Remote p)) ≡ Ok s → IsStoreOf (length remotes) s
    by remotes name s true e = subst (IsStoreOf (length remotes)) (ok_same store_of.Local s e) tt
    by remotes name s false e =
        let a = ok_bind (or_fault (position (same_bytes name) (names_of remotes)) kind.UnknownCluster) (λ p. Ok (store_of.Remote p)) s e in
        subst (IsStoreOf (length remotes)) (ok_same (store_of.Remote a.0) s a.2) (place_in remotes name a.0 a.1)

whole_in : (low high : ℕ) (w : List ℕ) (n : ℕ) → whole_said low high w ≡ Ok n → (low ≤ n) × (n ≤ high)
whole_in low high w n e = by (number_of w) (or_ok (whole_of low high w) kind.Number n e)
  where
    tested : (k : ℕ) (b : Bool) → (nat_le low k && nat_le k high) ≡ b → cond b (Some k) None ≡ Some n → (low ≤ n) × (n ≤ high)
    tested k true t e =
        let same : k ≡ n = cc in
        let both = and_parts (nat_le low k) (nat_le k high) t in
        subst (λ m. (low ≤ m) × (m ≤ high)) same (leb-true low k both.0, leb-true k high both.1)
    tested k false t e = absurd (let h : None ≡ Some n = e in cc)

    by : (m : Option ℕ) → option_and_then (λ k. cond (nat_le low k && nat_le k high) (Some k) None) m ≡ Some n → (low ≤ n) × (n ≤ high)
    by None e = absurd (let h : None ≡ Some n = e in cc)
    by (Some k) e = tested k (nat_le low k && nat_le k high) refl e

pub seconds_in : Holds (λ n x. IsToBillion x) seconds
seconds_in = record { word = λ draft w x e. whole_in 1 1000000000 w x e }

pub revision_in : Holds (λ n x. IsToBillion x) revision
revision_in = record { word = λ draft w x e. whole_in 1 1000000000 w x e }

pub skip_in : Holds (λ n x. x ≤ 1000000) skip
skip_in = record { word = λ draft w x e. let both = whole_in 0 1000000 w x e in both.1 }

pub number_in : Holds (λ n x. IsClusterNumber x) cluster_number
number_in = record { word = λ draft w x e. whole_in 1 255 w x e }

pub count_in : Holds (λ n x. IsCount x) count_or_all
count_in = record { word = λ draft w x e. by w x (bytes_eq w (codes "all")) e }
  where
    by : (w : List ℕ) (x : Count) (b : Bool) → cond b (Ok count.All) (whole_said 1 1000000000 w >>= λ n. Ok (count.Of n)) ≡ Ok x → IsCount x
    by w x true e = subst IsCount (ok_same count.All x e) tt
    by w x false e =
        let a = ok_bind (whole_said 1 1000000000 w) (λ n. Ok (count.Of n)) x e in
        subst IsCount (ok_same (count.Of a.0) x a.2) (whole_in 1 1000000000 w a.0 a.1)
