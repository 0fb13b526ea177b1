-- Record sets in another order give the same rows.
use Rattle.std.proofs.Common.{◌≡◌, ℕ, List, ◌&&◌, ◌==◌, cond, Bool, None, Some, Ok, Err, refl, ap, subst, sym, ◌∙◌}
use Rattle.std.proofs.Math.Path.{fun_ext}
use Rattle.std.specs.List.{flat_map}
use Rattle.std.specs.Ordering.{nat_cmp, is_lt}
use Rattle.std.specs.Cmp.Lexicographic.{slice_cmp}
use Rattle.shared_tables.specs.declared.rows.Why.TheVariants as why
use Rattle.shared_tables.specs.declared.standing.Standing.{Standing}
use Rattle.shared_tables.specs.declared.standing.Standing.TheVariants.{Refused, Admitted}
use Rattle.shared_tables.specs.Admission.{has_number, is_taken, standing_of}
use Rattle.shared_tables.specs.Laws.{OrderSaysNothing}
use Rattle.shared_tables.specs.Merge.{Claim, claim, identity_row, node_row, part, parts, rejects, service_rows, standing}
use Rattle.shared_tables.specs.RecordSets.{ConfigSaid, RecordSet}
use Rattle.shared_tables.specs.Rows.{SameRows}
use Rattle.shared_tables.proofs.Merges.{same_least}
use Rattle.shared_tables.proofs.Weights.{SameRows-flat_map, SameRows-map, list_any-SameRows}

joined : {X : Type 0} {us xs ys vs : List X} → SameRows xs us → SameRows xs ys → SameRows ys vs → SameRows us vs
joined a middle b = record { weigh = λ weight. sym (a.weigh weight) ∙ middle.weigh weight ∙ b.weigh weight }

module _ (local : ℕ) (sets others : List RecordSet) (h : SameRows sets others) where
  any_taken : (name : List ℕ) (n : ℕ) → is_taken sets name n ≡ is_taken others name n
  any_taken name n = list_any-SameRows (λ (other : RecordSet). is_lt (slice_cmp nat_cmp other.name name) && has_number n other.config) sets others h

  any_standing : (name : List ℕ) (c : ConfigSaid) → standing_of local sets name c ≡ standing_of local others name c
  any_standing name None = refl
  any_standing name (Some (Err fault)) = refl
  any_standing name (Some (Ok config)) = ap (λ (b : Bool). cond (config.id == local) (Refused why.IdLocal) (cond b (Refused why.IdTaken) (Admitted config.id))) (any_taken name config.id)

  any_order : {X : Type 0} (rows_of : Standing → RecordSet → List X) → SameRows (flat_map (λ (s : RecordSet). rows_of (standing local sets s) s) sets) (flat_map (λ (s : RecordSet). rows_of (standing local others s) s) others)
  any_order {X} rows_of = subst (λ (f : RecordSet → List X). SameRows (flat_map (λ (s : RecordSet). rows_of (standing local sets s) s) sets) (flat_map f others)) (fun_ext (λ s. ap (λ (st : Standing). rows_of st s) (any_standing s.name s.config))) (SameRows-flat_map (λ (s : RecordSet). rows_of (standing local sets s) s) sets others h)

pub order_says_nothing : OrderSaysNothing
order_says_nothing limit local sets others a b h of of' =
    let same : SameRows (parts limit local sets) (parts limit local others) = any_order local sets others h (part limit) in
    record {
      nodes = joined of.nodes (SameRows-flat_map node_row _ _ same) of'.nodes;
      identities = joined of.identities (SameRows-flat_map identity_row _ _ same) of'.identities;
      addresses = joined of.addresses (SameRows-map (λ (c : Claim). c.1) _ _ (same_least _ _ (SameRows-flat_map claim _ _ same))) of'.addresses;
      backends = joined of.backends (SameRows-flat_map service_rows _ _ same) of'.backends;
      rejects = joined of.rejects (any_order local sets others h (rejects limit)) of'.rejects;
    }
