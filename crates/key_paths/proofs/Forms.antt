-- The readers of single parts.
use Rattle.std.proofs.Common.{◌≡◌, Bool, true, false, Some, None, Ok, Err, refl, ◌⊎◌, inl, inr}
use Rattle.mesh_text.specs.declared.names.NameFault.{NameFault}
use Rattle.mesh_text.specs.declared.names.NameFault.TheVariants as name
use Rattle.mesh_text.specs.Names.{cluster_name_fault, part_name_fault}
use Rattle.mesh_text.proofs.CallerLemmas.{cluster_name_from_no_fault, part_name_from_no_fault, no_fault-from_is_cluster_name, no_fault-from_is_part_name}
use Rattle.key_paths.specs.declared.fault.KeyFault.TheVariants as fault
use Rattle.key_paths.specs.Reading.{Place, Gives, cluster_at, name_at}
use Rattle.key_paths.specs.Parts.{name_fault}

-- a test that cannot be true is false
pub is_false : (b : Bool) → (b ≡ true → ⊥) → b ≡ false
is_false true h = absurd (h refl)
is_false false h = refl

pub cluster_at_read : (part : Place) → cluster_name_fault part.text ≡ None → cluster_at part ≡ Ok part.text
cluster_at_read part h = rw (cluster_name_from_no_fault part.text h) refl

pub name_at_read : (part : Place) → part_name_fault part.text ≡ None → name_at part ≡ Ok part.text
name_at_read part h = rw (part_name_from_no_fault part.text h) refl

no_cluster : (part : Place) (e : NameFault) → cluster_name_fault part.text ≡ Some e → cluster_at part ≡ Err (fault.Name part.at)
no_cluster part e h =
    rw (is_false _ (λ yes. let none = no_fault-from_is_cluster_name part.text yes in cc)) refl

no_part_name : (part : Place) (e : NameFault) → part_name_fault part.text ≡ Some e → name_at part ≡ Err (fault.Name part.at)
no_part_name part e h =
    rw (is_false _ (λ yes. let none = no_fault-from_is_part_name part.text yes in cc)) refl

pub cluster_at_fault : (part : Place) (e : NameFault) → (e ≡ name.Memory) ⊎ (cluster_name_fault part.text ≡ Some e) → Gives (Err (name_fault part.at e)) (cluster_at part)
cluster_at_fault part name.Memory h = inr refl
cluster_at_fault part name.Empty (inr h) = inl (no_cluster part name.Empty h)
cluster_at_fault part (name.TooLong len) (inr h) = inl (no_cluster part (name.TooLong len) h)
cluster_at_fault part (name.BadByte at) (inr h) = inl (no_cluster part (name.BadByte at) h)
cluster_at_fault part (name.BadEnd at) (inr h) = inl (no_cluster part (name.BadEnd at) h)
cluster_at_fault part name.Empty (inl h) = cc
cluster_at_fault part (name.TooLong len) (inl h) = cc
cluster_at_fault part (name.BadByte at) (inl h) = cc
cluster_at_fault part (name.BadEnd at) (inl h) = cc

pub name_at_fault : (part : Place) (e : NameFault) → (e ≡ name.Memory) ⊎ (part_name_fault part.text ≡ Some e) → Gives (Err (name_fault part.at e)) (name_at part)
name_at_fault part name.Memory h = inr refl
name_at_fault part name.Empty (inr h) = inl (no_part_name part name.Empty h)
name_at_fault part (name.TooLong len) (inr h) = inl (no_part_name part (name.TooLong len) h)
name_at_fault part (name.BadByte at) (inr h) = inl (no_part_name part (name.BadByte at) h)
name_at_fault part (name.BadEnd at) (inr h) = inl (no_part_name part (name.BadEnd at) h)
name_at_fault part name.Empty (inl h) = cc
name_at_fault part (name.TooLong len) (inl h) = cc
name_at_fault part (name.BadByte at) (inl h) = cc
name_at_fault part (name.BadEnd at) (inl h) = cc
