-- A text is a name exactly where it has no fault as one.
use Rattle.std.proofs.Common.{◌≡◌, ℕ, Bool, true, false, List, Option, Some, None, refl, sym, ◌∙◌}
use Rattle.mesh_text.specs.declared.names.NameFault.{NameFault}
use Rattle.mesh_text.specs.Names.{is_cluster_name, is_part_name, cluster_name_fault, part_name_fault}
use Rattle.mesh_text.proofs.CallerLemmas.{cluster_name_from_no_fault, part_name_from_no_fault, no_fault-from_is_cluster_name, no_fault-from_is_part_name}

unnamed : (b : Bool) (fault : Option NameFault) (e : NameFault) → fault ≡ Some e → (b ≡ true → fault ≡ None) → b ≡ false
unnamed true fault e is none = absurd (let h = sym is ∙ none refl in cc)
unnamed false fault e is none = refl

pub cluster_named : (text : List ℕ) → cluster_name_fault text ≡ None → is_cluster_name text ≡ true
cluster_named = cluster_name_from_no_fault

pub cluster_unnamed : (text : List ℕ) (e : NameFault) → cluster_name_fault text ≡ Some e → is_cluster_name text ≡ false
cluster_unnamed text e is = unnamed (is_cluster_name text) (cluster_name_fault text) e is (no_fault-from_is_cluster_name text)

pub part_named : (text : List ℕ) → part_name_fault text ≡ None → is_part_name text ≡ true
part_named = part_name_from_no_fault

pub part_unnamed : (text : List ℕ) (e : NameFault) → part_name_fault text ≡ Some e → is_part_name text ≡ false
part_unnamed text e is = unnamed (is_part_name text) (part_name_fault text) e is (no_fault-from_is_part_name text)
