-- Readings that fit their keys stay so, and what a reader says fits.
use Rattle.std.proofs.Common.{◌≡◌, ℕ, zero, suc, ◌<◌, List, [], ◌∷◌, length, Bool, true, false, cond, nat_eq, Option, None, Some, Ok, Err, refl, ap, sym, ◌∙◌, arith, inl, inr}
use Rattle.std.specs.Cmp.Lexicographic.{pointwise, nat_list_eq_equiv}
use Rattle.std.specs.HashMap.{HashMap, IsUnique, Updates, get, values}
use Rattle.std.specs.List.{AllByRecursion}
use Rattle.std.specs.Map.{values_of}
use Rattle.std.specs.List.{slice_get}
use Rattle.std.specs.Option.{ForSome, IfSome}
use Rattle.std.proofs.lemmas.Map.Views.{All-values_from_lookup}
use Rattle.std.proofs.lemmas.List.Elements.{recursion_from_All}
use Rattle.mesh_text.specs.declared.kind.Kind.{Kind}
use Rattle.mesh_text.specs.declared.kind.Kind.TheVariants.{Nodes, Services, Identities, Addresses}
use Rattle.key_paths.specs.declared.key.Key.{Key}
use Rattle.key_paths.specs.Keys.{kind_of}
use Rattle.record_values.specs.declared.records.Record.{Record}
use Rattle.record_values.specs.declared.records.Record.TheVariants.{Node, Service, Identity, Address}
use Rattle.record_check.specs.Reading.{IsOfKind, kind_of_record, reading_of}
use Rattle.record_check.proofs.CallerLemmas.{reading-IsOfKind}
use Rattle.shared_tables.specs.declared.change.Row.{Row}
use Rattle.shared_tables.specs.declared.change.RecordChange.{RecordChange}
use Rattle.shared_tables.specs.Told.{SourceTold, IsChange, IsRow}
use Rattle.shared_tables.specs.Fitting.{AreFit, has_kind, is_fit}
use Rattle.shared_tables.specs.RecordSets.{Reading}

abbrev same : List ℕ → List ℕ → Bool
same = pointwise nat_eq

is_reading : (x y : Reading) → Some x ≡ Some y → x ≡ y
is_reading x y e = cc

at_key : (b : Bool) (reading : Reading) (other : Option Reading) (r : Reading) → cond b (Some reading) other ≡ Some r → (other ≡ Some r → is_fit r ≡ true) → is_fit reading ≡ true → is_fit r ≡ true
at_key true reading other r e else fits = ap is_fit (sym (is_reading reading r e)) ∙ fits
at_key false reading other r e else fits = else e

not_key : (b : Bool) (other : Option Reading) (r : Reading) → cond b None other ≡ Some r → (other ≡ Some r → is_fit r ≡ true) → is_fit r ≡ true
not_key true other r e else = cc
not_key false other r e else = else e

if_some : (P : Reading → Type 0) (o : Option Reading) → ((x : Reading) → o ≡ Some x → P x) → IfSome o P
if_some P None h = tt
if_some P (Some x) h = h x refl

each_pair : (es : List (List ℕ × Reading)) → AllByRecursion (λ (r : Reading). is_fit r ≡ true) (values_of es) → AllByRecursion (λ (e : List ℕ × Reading). is_fit e.1 ≡ true) es
each_pair [] h = tt
each_pair (e ∷ es) h = (h.0, each_pair es h.1)

module _ {S : Type 0} where
  pub inserted_fit : (m n : HashMap (List ℕ) Reading S) (k : List ℕ) (reading : Reading) → Updates same m n k (Some reading) → AreFit m → is_fit reading ≡ true → AreFit n
  inserted_fit m n k reading h fit fits = λ q r e. at_key (same k q) reading (get same m q) r (sym (h.0 q) ∙ e) (fit q r) fits

  pub removed_fit : (m n : HashMap (List ℕ) Reading S) (k : List ℕ) → Updates same m n k None → AreFit m → AreFit n
  removed_fit m n k h fit = λ q r e. not_key (same k q) (get same m q) r (sym (h.0 q) ∙ e) (fit q r)

  -- each pair that the map holds fits
  pub all_fit : (m : HashMap (List ℕ) Reading S) → IsUnique same m → AreFit m → AllByRecursion (λ (e : List ℕ × Reading). is_fit e.1 ≡ true) m.entries
  all_fit m unique fit = each_pair m.entries (recursion_from_All (λ (r : Reading). is_fit r ≡ true) (values m) (All-values_from_lookup nat_list_eq_equiv (λ (r : Reading). is_fit r ≡ true) m.entries unique (λ q. if_some (λ r. is_fit r ≡ true) (get same m q) (fit q))))

-- a key with a record of its kind
kind_is : (o : Option Kind) (value : Record) → has_kind o value ≡ true → o ≡ Some (kind_of_record value)
kind_is None value h = cc
kind_is (Some Nodes) (Node node) h = refl
kind_is (Some Nodes) (Service service) h = cc
kind_is (Some Nodes) (Identity identity) h = cc
kind_is (Some Nodes) (Address address) h = cc
kind_is (Some Services) (Node node) h = cc
kind_is (Some Services) (Service service) h = refl
kind_is (Some Services) (Identity identity) h = cc
kind_is (Some Services) (Address address) h = cc
kind_is (Some Identities) (Node node) h = cc
kind_is (Some Identities) (Service service) h = cc
kind_is (Some Identities) (Identity identity) h = refl
kind_is (Some Identities) (Address address) h = cc
kind_is (Some Addresses) (Node node) h = cc
kind_is (Some Addresses) (Service service) h = cc
kind_is (Some Addresses) (Identity identity) h = cc
kind_is (Some Addresses) (Address address) h = refl

pub kind_from_fit : (key : Key) (value : Record) → has_kind (kind_of key) value ≡ true → IsOfKind key value
kind_from_fit key value h = kind_is (kind_of key) value h

has_its_kind : (value : Record) → has_kind (Some (kind_of_record value)) value ≡ true
has_its_kind (Node node) = refl
has_its_kind (Service service) = refl
has_its_kind (Identity identity) = refl
has_its_kind (Address address) = refl

pub fit_from_kind : (key : Key) (value : Record) → IsOfKind key value → has_kind (kind_of key) value ≡ true
fit_from_kind key value h = ap (λ (o : Option Kind). has_kind o value) h ∙ has_its_kind value

-- what a reader says of a pair fits
fit_said : (key value : List ℕ) (r : Reading) → reading_of key value ≡ r → is_fit r ≡ true
fit_said key value (Ok (k, r)) e = fit_from_kind k r (reading-IsOfKind key value k r e)
fit_said key value (Err fault) e = refl

pub fit_of_reading : (key value : List ℕ) → is_fit (reading_of key value) ≡ true
fit_of_reading key value = fit_said key value (reading_of key value) refl

fit_of_row : (name : List ℕ) (row : Row) → IsRow name row → is_fit row.reading ≡ true
fit_of_row name row is = elim is.reading [
  | inl e ↦ ap is_fit e ∙ fit_of_reading row.key is.value
  | inr cached ↦ ap is_fit cached.2 ∙ fit_of_reading cached.0 is.value
]

-- so does the new row of a change
pub fit_of_change : (sources : List SourceTold) (place : ℕ) (change : RecordChange) → place < length sources
    → ForSome (slice_get sources place) (λ s. IsChange s change) → (row : Row) → change.new ≡ Some row → is_fit row.reading ≡ true
fit_of_change [] place change lt is row e = absurd (omega arith)
fit_of_change (s ∷ sources) zero change lt is row e = fit_of_row s.name row ((is s refl).new row e).1
fit_of_change (s ∷ sources) (suc place) change lt is row e = fit_of_change sources place change (omega arith) is row e
