-- What an exporter keeps beside its plain data.
use Rattle.std.specs.Prelude.{◌≡◌, refl, ℕ, zero, suc, ◌+◌, List, [], ◌∷◌, Bool, Option, if◌then◌else◌}
use Rattle.std.specs.Coded.{Coded, code_by, coded_ℕ, coded_bool, coded_list, coded_option, coded×}
use Rattle.std.specs.FinMap.{code}
use Rattle.std.specs.Ordering.{nat_cmp}
use Rattle.std.specs.Cmp.Lexicographic.{slice_cmp}
use Rattle.std.specs.BTreeSet.{BTreeSet, contains}
use Rattle.mesh_text.specs.declared.kind.Kind.TheVariants.{Nodes, Services, Identities, Addresses}
use Rattle.store_api.specs.History.{Pairing}
use Rattle.exporter.specs.declared.item.Item.{Item}
use Rattle.exporter.specs.declared.item.Item.TheVariants as item
use Rattle.mesh_text.specs.Kinds.{place}
use Rattle.exporter.specs.State.{Export, is_record}

-- how often the record's key waits
abbrev pub times : List ℕ → List Item → ℕ
times key [] = 0
times key (first ∷ items) = (if is_record key first then 1 else 0) + times key items

-- the set has the keys of the records that wait, and each of them waits once
abbrev pub HasKeys : List Item → BTreeSet (List ℕ) → Type 0
HasKeys items keys = (key : List ℕ) → times key items ≡ (if contains (slice_cmp nat_cmp) keys key then 1 else 0)

-- an item is stored as a number and a key
abbrev pub item_number : Item → ℕ
item_number item.Config = 0
item_number (item.Record key) = 1
item_number (item.Mark kind) = suc (suc (place kind))

abbrev pub item_key : Item → List ℕ
item_key item.Config = []
item_key (item.Record key) = key
item_key (item.Mark kind) = []

abbrev pub item_from : ℕ × List ℕ → Item
item_from (zero, key) = item.Config
item_from (suc zero, key) = item.Record key
item_from (suc (suc zero), key) = item.Mark Nodes
item_from (suc (suc (suc zero)), key) = item.Mark Services
item_from (suc (suc (suc (suc zero))), key) = item.Mark Identities
item_from (suc (suc (suc (suc (suc n)))), key) = item.Mark Addresses

pub item_back : (i : Item) → item_from (item_number i, item_key i) ≡ i
item_back item.Config = refl
item_back (item.Record key) = refl
item_back (item.Mark Nodes) = refl
item_back (item.Mark Services) = refl
item_back (item.Mark Identities) = refl
item_back (item.Mark Addresses) = refl

abbrev pub item_code : Coded Item
item_code = code_by (ℕ × List ℕ) (coded× coded_ℕ (coded_list coded_ℕ)) (λ i. (item_number i, item_key i)) item_from item_back

abbrev pub Fields : Type 0
Fields = List ℕ × (ℕ × (ℕ × (Pairing × (List Item × (Option ℕ × List Bool)))))

-- an exporter is stored as the tuple of its fields
abbrev pub export_code : Coded Export
export_code =
    code_by Fields
    (coded× (coded_list coded_ℕ) (coded× coded_ℕ (coded× coded_ℕ (coded× (code (coded_list coded_ℕ) (coded_list coded_ℕ)) (coded× (coded_list item_code) (coded× (coded_option coded_ℕ) (coded_list coded_bool)))))))
    (λ e. (e.cluster, (e.number, (e.seconds, (e.declared, (e.queue, (e.lease, e.marked)))))))
    (λ f. record { cluster = f.0; number = f.1.0; seconds = f.1.1.0; declared = f.1.1.1.0; queue = f.1.1.1.1.0; lease = f.1.1.1.1.1.0; marked = f.1.1.1.1.1.1 })
    (λ _. refl)
