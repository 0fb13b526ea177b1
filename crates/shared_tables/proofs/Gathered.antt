-- Rows that are put behind those of a walk.
use Rattle.std.proofs.Common.{◌≡◌, List, [], ◌∷◌, ◌++◌, ap, sym, ◌∙◌}
use Rattle.std.proofs.lemmas.List.{append-nil, append_assoc}
use Rattle.std.proofs.lemmas.Grind.{flat_map-append}
use Rattle.std.specs.List.{flat_map}
use Rattle.shared_tables.specs.declared.merged.Merged.{Merged}
use Rattle.shared_tables.specs.declared.rows.RejectRow.{RejectRow}
use Rattle.shared_tables.specs.Merge.{Entry, node_row, identity_row, claim, service_rows}
use Rattle.shared_tables.specs.Merged.{with_rows, with_entry}

module _ {X : Type 0} (f : Entry → List X) where
  more : (m : List X) (es fs : List Entry) → (m ++ flat_map f es) ++ flat_map f fs ≡ m ++ flat_map f (es ++ fs)
  more m es fs = append_assoc m (flat_map f es) (flat_map f fs) ∙ ap (λ (xs : List X). m ++ xs) (sym (flat_map-append f es fs))

  none : (m : List X) → m ++ flat_map f [] ≡ m
  none m = append-nil m

  one : (m : List X) (e : Entry) → m ++ flat_map f (e ∷ []) ≡ m ++ f e
  one m e = ap (λ (xs : List X). m ++ xs) (append-nil (f e))

pub rows_twice : (m : Merged) (es fs : List Entry) (js ks : List RejectRow) → with_rows (with_rows m es js) fs ks ≡ with_rows m (es ++ fs) (js ++ ks)
rows_twice m es fs js ks =
    let nodes = more node_row m.nodes es fs in
    let identities = more identity_row m.identities es fs in
    let claims = more claim m.claims es fs in
    let backends = more service_rows m.backends es fs in
    let rejects = append_assoc m.rejects js ks in
    cc

pub rows_none : (m : Merged) → with_rows m [] [] ≡ m
rows_none m =
    let nodes = none node_row m.nodes in
    let identities = none identity_row m.identities in
    let claims = none claim m.claims in
    let backends = none service_rows m.backends in
    let rejects = append-nil m.rejects in
    let whole : with_rows m [] [] ≡ record { nodes = m.nodes; identities = m.identities; claims = m.claims; backends = m.backends; rejects = m.rejects } = cc in
    whole

pub rows_valid : (m : Merged) (e : Entry) → with_rows m (e ∷ []) [] ≡ with_entry m e
rows_valid m e =
    let nodes = one node_row m.nodes e in
    let identities = one identity_row m.identities e in
    let claims = one claim m.claims e in
    let backends = one service_rows m.backends e in
    let rejects = append-nil m.rejects in
    cc

-- what is done, and then the rest, is all
pub rest_joins : (old now next all : Merged) (es fs : List Entry) (js ks : List RejectRow)
    → with_rows now (es ++ fs) (js ++ ks) ≡ all → next ≡ with_rows now es js → with_rows next fs ks ≡ all
rest_joins old now next all es fs js ks before step =
    ap (λ (m : Merged). with_rows m fs ks) step ∙ rows_twice now es fs js ks ∙ before

pub rows_rejected : (m : Merged) (js : List RejectRow) → with_rows m [] js ≡ (record m { rejects = m.rejects ++ js })
rows_rejected m js =
    let nodes = none node_row m.nodes in
    let identities = none identity_row m.identities in
    let claims = none claim m.claims in
    let backends = none service_rows m.backends in
    cc
