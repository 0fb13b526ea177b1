-- The merge of what arrived is the merge of the sets.
use Rattle.std.proofs.Common.{◌≡◌, ℕ, List, [], ◌∷◌, map, filter, not, ◌&&◌, ◌||◌, ◌==◌, cond, Bool, None, Some, Ok, Err, refl, ap, sym, subst, ◌∙◌}
use Rattle.std.proofs.Math.Path.{fun_ext}
use Rattle.std.specs.FinMap.{entries, from_entries}
use Rattle.std.specs.BTreeMap.{BTreeMap}
use Rattle.std.specs.List.{flat_map}
use Rattle.std.specs.Ordering.{nat_cmp, is_lt}
use Rattle.std.specs.Cmp.Lexicographic.{slice_cmp}
use Rattle.mesh_text.specs.declared.ip.Ip.{Ip}
use Rattle.record_check.specs.declared.limit.Limit.{Limit}
use Rattle.shared_tables.specs.declared.merged.Merged.{Merged}
use Rattle.shared_tables.specs.declared.rows.BackendRow.{BackendRow}
use Rattle.shared_tables.specs.declared.rows.SourceRow.{SourceRow}
use Rattle.shared_tables.specs.declared.rows.Why.TheVariants as why
use Rattle.shared_tables.specs.declared.rows.Report.{Report}
use Rattle.shared_tables.specs.declared.rows.AddressRow.{AddressRow}
use Rattle.shared_tables.specs.declared.source.Source.{Source}
use Rattle.shared_tables.specs.declared.standing.Standing.{Standing}
use Rattle.shared_tables.specs.declared.standing.Standing.TheVariants.{NoConfig, Refused, Admitted}
use Rattle.shared_tables.specs.Admission.{has_number, is_taken, standing_of}
use Rattle.shared_tables.specs.Merge.{Claim, IsMerge, address_rows, backend_rows, claim, identity_row, identity_rows, is_before, is_least, least_claims, node_row, node_rows, pair_reject, part, parts, reject_rows, rejects, service_rows, standing, valid_of}
use Rattle.shared_tables.specs.Least.{TellsOf, has_lesser}
use Rattle.shared_tables.specs.Merged.{arrived, nothing_merged, with_rows}
use Rattle.shared_tables.specs.RecordSets.{ConfigSaid, Reading, RecordSet}
use Rattle.shared_tables.specs.Rows.{SameRows}
use Rattle.shared_tables.specs.Told.{set_told, source_told}
use Rattle.shared_tables.proofs.Arrivals.{same_entries}
use Rattle.shared_tables.proofs.Weights.{SameRows-refl, SameRows-append, SameRows-flat_map, SameRows-map, SameRows-filter, list_any-SameRows}

abbrev set_of : Source → RecordSet
set_of s = set_told (source_told s)

same_taken : (sources : List Source) (name : List ℕ) (n : ℕ) → is_taken (map set_of sources) name n ≡ is_taken (map arrived sources) name n
same_taken [] name n = refl
same_taken (s ∷ sources) name n = ap (λ (b : Bool). (is_lt (slice_cmp nat_cmp s.name name) && has_number n s.config) || b) (same_taken sources name n)

same_standing : (local : ℕ) (sources : List Source) (name : List ℕ) (c : ConfigSaid) → standing_of local (map set_of sources) name c ≡ standing_of local (map arrived sources) name c
same_standing local sources name None = refl
same_standing local sources name (Some (Err fault)) = refl
same_standing local sources name (Some (Ok config)) = ap (λ (b : Bool). cond (config.id == local) (Refused why.IdLocal) (cond b (Refused why.IdTaken) (Admitted config.id))) (same_taken sources name config.id)

sorted_pairs : (s : Source) → SameRows (entries (from_entries {R = slice_cmp nat_cmp} s.rows.entries)) s.rows.entries
sorted_pairs s = same_entries s.rows.entries s.unique

same_part : (limit : Limit) (st : Standing) (s : Source) → SameRows (part limit st (set_of s)) (part limit st (arrived s))
same_part limit NoConfig s = SameRows-refl _
same_part limit (Refused cause) s = SameRows-refl _
same_part limit (Admitted n) s = SameRows-flat_map (λ (pair : List ℕ × Reading). valid_of limit s.name n pair.1) _ _ (sorted_pairs s)

same_rejects : (limit : Limit) (st : Standing) (s : Source) → SameRows (rejects limit st (set_of s)) (rejects limit st (arrived s))
same_rejects limit NoConfig s = SameRows-refl _
same_rejects limit (Refused cause) s = SameRows-refl _
same_rejects limit (Admitted n) s = SameRows-flat_map (pair_reject limit s.name n) _ _ (sorted_pairs s)

module _ {X : Type 0} (rows_of : Standing → RecordSet → List X) (alike : (st : Standing) (s : Source) → SameRows (rows_of st (set_of s)) (rows_of st (arrived s))) (local : ℕ) (all : List Source) where
  one : (s : Source) → SameRows (rows_of (standing local (map set_of all) (set_of s)) (set_of s)) (rows_of (standing local (map arrived all) (arrived s)) (arrived s))
  one s = subst (λ (st : Standing). SameRows (rows_of (standing local (map set_of all) (set_of s)) (set_of s)) (rows_of st (arrived s))) (same_standing local all s.name s.config) (alike (standing local (map set_of all) (set_of s)) s)

  each : (sources : List Source) → SameRows (flat_map (λ (s : RecordSet). rows_of (standing local (map set_of all) s) s) (map set_of sources)) (flat_map (λ (s : RecordSet). rows_of (standing local (map arrived all) s) s) (map arrived sources))
  each [] = SameRows-refl _
  each (s ∷ sources) = SameRows-append _ _ _ _ (one s) (each sources)

same_parts : (limit : Limit) (local : ℕ) (sources : List Source) → SameRows (parts limit local (map set_of sources)) (parts limit local (map arrived sources))
same_parts limit local sources = each (part limit) (same_part limit) local sources sources

pub same_least : (xs ys : List Claim) → SameRows xs ys → SameRows (least_claims xs) (least_claims ys)
same_least xs ys h = subst (λ (test : Claim → Bool). SameRows (filter (is_least xs) xs) (filter test ys)) (fun_ext (λ c. ap not (list_any-SameRows (is_before c) xs ys h))) (SameRows-filter (is_least xs) xs ys h)

pub least_is : (xs : List Claim) (least : BTreeMap Ip ℕ) → TellsOf xs least → filter (λ (c : Claim). not (has_lesser least c)) xs ≡ least_claims xs
least_is xs least tells = ap (λ (test : Claim → Bool). filter test xs) (fun_ext (λ c. ap not (sym (tells c))))

-- a report whose rows are those of what arrived has the rows of the sets
is_merge : (limit : Limit) (local : ℕ) (sources : List Source) (report : Report)
    → report.sources ≡ []
    → report.nodes ≡ node_rows limit local (map arrived sources)
    → report.identities ≡ identity_rows limit local (map arrived sources)
    → report.addresses ≡ address_rows limit local (map arrived sources)
    → report.backends ≡ backend_rows limit local (map arrived sources)
    → report.chosen ≡ []
    → report.rejects ≡ reject_rows limit local (map arrived sources)
    → IsMerge limit local (map set_of sources) report
is_merge limit local sources report none nodes identities addresses backends unchosen refused =
    let same = same_parts limit local sources in
    record {
      sources = none;
      nodes = subst (SameRows (node_rows limit local (map set_of sources))) (sym nodes) (SameRows-flat_map node_row _ _ same);
      identities = subst (SameRows (identity_rows limit local (map set_of sources))) (sym identities) (SameRows-flat_map identity_row _ _ same);
      addresses = subst (SameRows (address_rows limit local (map set_of sources))) (sym addresses) (SameRows-map (λ (c : Claim). c.1) _ _ (same_least _ _ (SameRows-flat_map claim _ _ same)));
      backends = subst (SameRows (backend_rows limit local (map set_of sources))) (sym backends) (SameRows-flat_map service_rows _ _ same);
      chosen = unchosen;
      rejects = subst (SameRows (reject_rows limit local (map set_of sources))) (sym refused) (each (rejects limit) (same_rejects limit) local sources sources);
    }

told_sets : (sources : List Source) → map set_of sources ≡ map set_told (map source_told sources)
told_sets [] = refl
told_sets (s ∷ sources) = ap (λ (sets : List RecordSet). set_of s ∷ sets) (told_sets sources)

-- so has one that is made of what a walk over all sources found
pub is_report : (limit : Limit) (local : ℕ) (sources walked : List Source) (merged : Merged) (none : List SourceRow) (addresses : List AddressRow) (unchosen : List BackendRow)
    → walked ≡ sources
    → merged ≡ with_rows nothing_merged (parts limit local (map arrived walked)) (reject_rows limit local (map arrived walked))
    → none ≡ []
    → addresses ≡ map (λ (c : Claim). c.1) (least_claims merged.claims)
    → unchosen ≡ []
    → IsMerge limit local (map set_told (map source_told sources)) (record { sources = none; nodes = merged.nodes; identities = merged.identities; addresses = addresses; backends = merged.backends; chosen = unchosen; rejects = merged.rejects })
is_report limit local sources walked merged none addresses unchosen same found no_sources shown no_chosen =
    let all : merged ≡ with_rows nothing_merged (parts limit local (map arrived sources)) (reject_rows limit local (map arrived sources)) =
    found ∙ ap (λ (xs : List Source). with_rows nothing_merged (parts limit local (map arrived xs)) (reject_rows limit local (map arrived xs))) same in
    let report : Report = record { sources = none; nodes = merged.nodes; identities = merged.identities; addresses = addresses; backends = merged.backends; chosen = unchosen; rejects = merged.rejects } in
    subst (λ (sets : List RecordSet). IsMerge limit local sets report) (told_sets sources) (is_merge limit local sources report no_sources
    (ap (λ (m : Merged). m.nodes) all) (ap (λ (m : Merged). m.identities) all)
    (shown ∙ ap (λ (m : Merged). map (λ (c : Claim). c.1) (least_claims m.claims)) all)
    (ap (λ (m : Merged). m.backends) all) no_chosen (ap (λ (m : Merged). m.rejects) all))
