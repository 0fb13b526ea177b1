-- What callers cite: rows that are the same up to order, and a key's first row as a change.
use Rattle.std.proofs.Common.{◌≡◌, ℕ, List, IsTrue, Option, None, Some, refl, sym, subst, inl}
use Rattle.std.specs.FinMap.{get}
use Rattle.record_check.specs.Reading.{reading_of}
use Rattle.shared_tables.specs.declared.change.Row.{Row}
use Rattle.shared_tables.specs.RecordSets.{Reading, is_record_key}
use Rattle.shared_tables.specs.Told.{SourceTold, IsChange, IsRow}
pub use Rattle.shared_tables.proofs.Weights.{SameRows-refl, SameRows-append, SameRows-flat_map, SameRows-map, SameRows-filter, list_any-SameRows}
pub use Rattle.shared_tables.proofs.Arrivals.{same_entries}

the_row : (key : List ℕ) (reading : Reading) (row : Row) → ◌≡◌ {A = Option Row} (Some (record { key = key; reading = reading })) (Some row) → row ≡ record { key = key; reading = reading }
the_row key reading row e = cc

-- the first row of a key, as it is read, is a change of a source that holds none
pub IsChange-new : (s : SourceTold) (place : ℕ) (key value : List ℕ) (reading : Reading) → get s.rows key ≡ None → IsTrue (is_record_key s.name key) → reading ≡ reading_of key value
    → IsChange s (record { source = place; old = None; new = Some (record { key = key; reading = reading }) })
IsChange-new s place key value reading absent inside read = record {
  key = key;
  old = λ row e. cc;
  new = λ row e. let is = the_row key reading row e in subst (λ (r : Row). (r.key ≡ key) × IsRow s.name r) (sym is) (refl, record { key = inside; value = value; reading = inl read });
  held = absent;
}
