-- Where the first separator stands, a list is split there.
use Rattle.std.proofs.Common.{◌≡◌, ◌==◌, ℕ, zero, suc, ◌<◌, false, cond, List, [], ◌∷◌, length, take, drop, get_or, refl, arith, eq-eqb}
use Rattle.std.proofs.lemmas.Grind.{common_steps}
use Rattle.mesh_text.specs.Addresses.{split_at}
use Rattle.scenario_lang.specs.Split.{words, is_word}

pub split_first : (sep : ℕ) (xs : List ℕ) (n : ℕ) → n < length xs → ((k : ℕ) → k < n → get_or xs k 0 ≡ sep → ⊥) → get_or xs n 0 ≡ sep → split_at sep xs ≡ take n xs ∷ split_at sep (drop 1 (drop n xs))
split_first sep [] n h below here = absurd (omega arith)
split_first sep (c ∷ cs) zero h below here = rw (eq-eqb c sep here) refl
split_first sep (c ∷ cs) (suc n) h below here =
    let apart : (c == sep) ≡ false = let b = below 0 (omega arith) in grind (arith, common_steps) in
    let rest : split_at sep cs ≡ take n cs ∷ split_at sep (drop 1 (drop n cs)) = split_first sep cs n (omega arith) (λ k l. below (suc k) (omega arith)) here in
    rw (apart, rest) refl

pub split_whole : (sep : ℕ) (xs : List ℕ) → ((k : ℕ) → k < length xs → get_or xs k 0 ≡ sep → ⊥) → split_at sep xs ≡ xs ∷ []
split_whole sep [] below = refl
split_whole sep (c ∷ cs) below =
    let apart : (c == sep) ≡ false = let b = below 0 (omega arith) in grind (arith, common_steps) in
    let rest : split_at sep cs ≡ cs ∷ [] = split_whole sep cs (λ k l. below (suc k) (omega arith)) in
    rw (apart, rest) refl

pub words_front : (line word rest : List ℕ) → split_at 32 line ≡ word ∷ split_at 32 rest → words line ≡ cond (is_word word) (word ∷ words rest) (words rest)
unfolding words
words_front line word rest e = rw e refl

pub words_last : (line word : List ℕ) → split_at 32 line ≡ word ∷ [] → words line ≡ cond (is_word word) (word ∷ words []) (words [])
unfolding words
words_last line word e = rw e refl

pub words_none : (xs : List ℕ) → length xs ≡ 0 → words xs ≡ []
unfolding words
words_none [] h = refl
words_none (x ∷ xs) h = absurd (omega arith)
