-- What is shown, and what a view keeps.
use Rattle.std.proofs.Common.{◌≡◌, ℕ, ◌+◌, ◌≤◌, List, [], ◌∷◌, length, map, All, suc, nat_eq, Bool, true, false, cond, Option, None, Some, option_and_then, option_map, Result, Ok, Err, refl, ap, sym, ◌∙◌, subst, ◌<◌, arith, inl, inr}
use Rattle.std.proofs.Math.Path.{fun_ext}
use Rattle.std.specs.Cmp.Lexicographic.{pointwise}
use Rattle.relist_merge.specs.Deliveries.{Edit}
use Rattle.mesh_text.specs.Numbers.{number_of}
use Rattle.mesh_text.specs.declared.kind.Kind.{Kind}
use Rattle.key_paths.specs.declared.fault.KeyFault.{KeyFault}
use Rattle.key_paths.specs.declared.key.Key.{Key}
use Rattle.key_paths.specs.declared.key.Key.TheVariants as key
use Rattle.key_paths.specs.Keys.{IsClusterName}
use Rattle.key_paths.specs.Paths.{config_key, cut_key, mark_key}
use Rattle.key_paths.specs.Reading.{key_of}
use Rattle.key_paths.proofs.CallerLemmas.{key_bytes-config, key_bytes-cut, key_of-key_bytes}
use Rattle.record_values.specs.Values.{Config}
use Rattle.record_check.specs.Configs.{checked_config, valid_config}
use Rattle.record_check.specs.declared.fault.Fault.{Fault}
use Rattle.record_check.specs.declared.limit.Limit.{Limit}
use Rattle.synced_marks.specs.Synced.{config_in, has_mark}
use Rattle.std.specs.Result.{result_ok}
use Rattle.relist_merge.specs.Readings.{config_said, cut_said, reading_in, reading_under}
use Rattle.relist_merge.specs.declared.reading.Reading.TheVariants as reading
use Rattle.relist_merge.specs.Shown.{entry_in, entry_of, fresh_row, is_fresh, row_at}
use Rattle.relist_merge.specs.View.{Entries, edited_all, fresh_of, fresh_part}
use Rattle.relist_merge.specs.Viewed.{AreKeysOf, IsKept, Source, Viewed, cost, with_edit, with_edits}
use Rattle.relist_merge.specs.declared.phase.Phase.{Phase}
use Rattle.relist_merge.specs.declared.rows.Row.{Row}
use Rattle.relist_merge.specs.declared.sync_keys.SyncKeys.{SyncKeys}
use Rattle.relist_merge.proofs.Numbers.{cases}
use Rattle.relist_merge.proofs.Places.{exact_key, fresh-some}

-- the same entries are shown alike
pub same_shown : (s : Source) (a b : Entries) (cursor : ℕ) (phase : Phase) (room same : ℕ) → room ≡ same → ((k : List ℕ) → a k ≡ b k)
    → ◌≡◌ {A = Viewed} (record { source = s; shown = record { entries = a; cursor = cursor; phase = phase }; room = room }) (record { source = s; shown = record { entries = b; cursor = cursor; phase = phase }; room = same })
same_shown s a b cursor phase room same rooms alike = let e : a ≡ b = fun_ext alike in λ i. record { source = s; shown = record { entries = e i; cursor = cursor; phase = phase }; room = rooms i }

abbrev or_row : Option Row → Row → Row
or_row None row = row
or_row (Some r) row = r

-- a view without rows and keys
pub kept-new : (s : Source) (room : ℕ) (rows : List (List ℕ × Row)) → room ≡ 0 → rows ≡ [] → IsKept s None room rows
kept-new s room rows no_room no_rows = record {
  none = λ e. (no_room, ap length no_rows);
  keyed = λ x e. cc;
  read = λ k row e. let never : None ≡ Some row = sym (ap (λ (rs : List (List ℕ × Row)). row_at rs k) no_rows) ∙ e in cc;
}

-- a row more
pub kept-put : (s : Source) (keys : Option SyncKeys) (room more : ℕ) (rows grown : List (List ℕ × Row)) (key : List ℕ) (row : Row) → 0 < room
    → row.reading ≡ reading_in s.limit key row.value → ((k : List ℕ) → row_at grown k ≡ cond (pointwise nat_eq key k) (Some row) (row_at rows k)) → IsKept s keys room rows → IsKept s keys more grown
kept-put s keys room more rows grown key row some reads put kept = record {
  none = λ e. absurd (omega (arith, (kept.none e).0));
  keyed = kept.keyed;
  read = λ k r e. elim (cases (pointwise nat_eq key k)) [
    | inl t ↦
        let is : Some row ≡ Some r = sym (ap (λ (b : Bool). cond b (Some row) (row_at rows k)) t) ∙ sym (put k) ∙ e in
        let same : row ≡ r = ap (λ (o : Option Row). or_row o row) is in
        subst (λ (q : Row). q.reading ≡ reading_in s.limit k q.value) same (subst (λ (q : List ℕ). row.reading ≡ reading_in s.limit q row.value) (exact_key key k t) reads)
    | inr n ↦ kept.read k r (sym (ap (λ (b : Bool). cond b (Some row) (row_at rows k)) n) ∙ sym (put k) ∙ e)
  ];
}

-- fewer rows
pub kept-fewer : (s : Source) (keys : Option SyncKeys) (room same : ℕ) (rows fewer : List (List ℕ × Row)) → same ≡ room → length fewer ≤ length rows
    → ((k : List ℕ) (row : Row) → row_at fewer k ≡ Some row → row_at rows k ≡ Some row) → IsKept s keys room rows → IsKept s keys same fewer
kept-fewer s keys room same rows fewer is less were kept = record {
  none = λ e. (is ∙ (kept.none e).0, let zero : length rows ≡ 0 = (kept.none e).1 in omega arith);
  keyed = kept.keyed;
  read = λ k row e. kept.read k row (were k row e);
}

-- the keys come
pub kept-keys : (s : Source) (keys : Option SyncKeys) (made : SyncKeys) (room more : ℕ) (rows : List (List ℕ × Row)) → AreKeysOf s made → IsKept s keys room rows → IsKept s (Some made) more rows
kept-keys s keys made room more rows are kept = record {
  none = λ e. cc;
  keyed = λ x e. subst (AreKeysOf s) (ap (λ (o : Option SyncKeys). or_keys o made) e) are;
  read = kept.read;
}
  where
    or_keys : Option SyncKeys → SyncKeys → SyncKeys
    or_keys None keys = keys
    or_keys (Some k) keys = k

pub not-gone : (b : Bool) (o : Option Row) (row : Row) → cond b None o ≡ Some row → o ≡ Some row
not-gone true o row e = cc
not-gone false o row e = e

pub cost-one : (e : Edit) → cost e ≤ 1
cost-one (key, None) = omega arith
cost-one (key, Some value) = omega arith

-- what edits one after the other make of a view
pub edits-shown : (edits : List Edit) (v : Viewed) → (with_edits edits v).shown ≡ record v.shown { entries = λ k. edited_all edits k (v.shown.entries k) }
edits-shown [] v = refl
edits-shown (e ∷ edits) v = edits-shown edits (with_edit e v)

pub edits-source : (edits : List Edit) (v : Viewed) → (with_edits edits v).source ≡ v.source
edits-source [] v = refl
edits-source (e ∷ edits) v = edits-source edits (with_edit e v)

pub edits-room : (edits : List Edit) (v : Viewed) → v.room ≤ (with_edits edits v).room + length edits
edits-room [] v = omega arith
edits-room (e ∷ edits) v = omega (arith, edits-room edits (with_edit e v), cost-one e)

-- what holds of all of a list holds of all behind its first item
pub all-rest : {X : Type 0} (P : X → Type 0) (x : X) (all rest : List X) → all ≡ x ∷ rest → All P all → All P rest
all-rest {X = X} P x all rest is h = λ k d lt. subst (λ (l : List X). All P l) is h (suc k) d (omega arith)

-- what a pair under the key of a cluster's config says
config-reading : (cluster : List ℕ) (limit : Limit) (value : List ℕ) → IsClusterName cluster → reading_in limit (config_key cluster) value ≡ reading.Config (checked_config limit value)
unfolding reading_in
config-reading cluster limit value name =
    ap (λ (r : Result Key KeyFault). reading_under r limit (config_key cluster) value)
    (ap key_of (sym (key_bytes-config cluster)) ∙ key_of-key_bytes (key.Config cluster) name)

-- and under the key of its cut
cut-reading : (cluster : List ℕ) (limit : Limit) (value : List ℕ) → IsClusterName cluster → reading_in limit (cut_key cluster) value ≡ reading.Cut (number_of value)
unfolding reading_in
cut-reading cluster limit value name =
    ap (λ (r : Result Key KeyFault). reading_under r limit (cut_key cluster) value)
    (ap key_of (sym (key_bytes-cut cluster)) ∙ key_of-key_bytes (key.Cut cluster) name)

-- what the row of the cut says is the cut of the values
pub cut-read : (cluster : List ℕ) (limit : Limit) (o : Option (List ℕ)) → IsClusterName cluster
    → option_and_then cut_said (option_map (reading_in limit (cut_key cluster)) o) ≡ option_and_then number_of o
cut-read cluster limit None name = refl
cut-read cluster limit (Some value) name = ap cut_said (cut-reading cluster limit value name)

said_of : (r : Result Config Fault) → config_said (reading.Config r) ≡ result_ok r
said_of (Ok config) = refl
said_of (Err why) = refl

-- the config that the fresh row of its key says is the one of the fresh part
pub config-fresh : (s : Source) (keys : Option SyncKeys) (room n : ℕ) (rows : List (List ℕ × Row)) → IsKept s keys room rows → IsClusterName s.cluster
    → option_and_then (λ (row : Row). config_said row.reading) (fresh_row n rows (config_key s.cluster)) ≡ config_in s.cluster s.limit (fresh_part (λ k. entry_in n rows k))
config-fresh s keys room n rows kept name = go (row_at rows (config_key s.cluster)) (is_fresh n rows (config_key s.cluster)) (λ row e. kept.read (config_key s.cluster) row e)
  where
    go : (o : Option Row) (b : Bool) → ((row : Row) → o ≡ Some row → row.reading ≡ reading_in s.limit (config_key s.cluster) row.value)
        → option_and_then (λ (row : Row). config_said row.reading) (cond b o None) ≡ option_and_then (valid_config s.limit) (fresh_of (entry_of o b))
    go None true read = refl
    go None false read = refl
    go (Some row) false read = refl
    go (Some row) true read = ap config_said (read row refl ∙ config-reading s.cluster s.limit row.value name) ∙ said_of (checked_config s.limit row.value)

-- a mark is fresh where the fresh part has it
pub mark-fresh : (s : Source) (n : ℕ) (rows : List (List ℕ × Row)) (kind : Kind) → is_fresh n rows (mark_key s.cluster s.hop kind) ≡ has_mark s.cluster s.hop (fresh_part (λ k. entry_in n rows k)) kind
mark-fresh s n rows kind = sym (fresh-some n rows (mark_key s.cluster s.hop kind))

pub same-length : {A B : Type 0} (f : A → B) (xs : List A) → length (map f xs) ≡ length xs
same-length f [] = refl
same-length f (x ∷ xs) = ap suc (same-length f xs)
