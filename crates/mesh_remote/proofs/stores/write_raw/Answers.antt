use Rattle.std.proofs.Common.{ℕ, List, [], ◌∷◌, Err, subst}
use Rattle.std.proofs.lemmas.Map.Keys.{IsDistinct-from_sorted}
use Rattle.std.specs.Cmp.Lexicographic.{slice_cmp}
use Rattle.std.specs.List.{IsDistinct}
use Rattle.std.specs.List.Sorted.{IsStrictlySortedBy}
use Rattle.std.specs.Ordering.{nat_cmp}
use Rattle.flaky_link.specs.Crossed.{IsAsked}
use Rattle.mesh_base.specs.Order.{same_bytes}
use Rattle.store_api.specs.Calls.{Answers, Called, IsLost, ending_of, to_commit}
use Rattle.store_api.specs.History.{key_of}
use Rattle.store_api.specs.declared.change.Op.{Op}
use Rattle.store_api.specs.declared.change.StoreFault.{StoreFault}
use Rattle.mesh_remote.proofs.stores.write_raw.Goals as goal

-- one key is distinct
one_key : (k : List ℕ) → IsDistinct same_bytes (k ∷ [])
unfolding IsStrictlySortedBy
one_key k = IsDistinct-from_sorted (slice_cmp nat_cmp) (k ∷ []) (tt, tt)

pub commit-requires-clause-distinct : goal.commit-requires-clause-distinct
commit-requires-clause-distinct g c = one_key (key_of c.in_ok-raw_op.field-0)

pub returns-in-Ok-clause-asked : goal.returns-in-Ok-clause-asked
returns-in-Ok-clause-asked g c =
    subst (λ (op : Op). IsAsked (to_commit (op ∷ [])) (g.S.Store.meaning c.args.store.now) (g.S.Store.meaning c.commit.new.self)) c.in_ok-raw_op.ensures
    (record { end = Answers; told = λ e. cc; called = c.in-Ok.ensures.call })

pub returns-in-Err-Lost-clause-asked : goal.returns-in-Err-Lost-clause-asked
returns-in-Err-Lost-clause-asked g c =
    let old = g.S.Store.meaning c.args.store.now in
    let new = g.S.Store.meaning c.commit.new.self in
    let request = to_commit (c.in_ok-raw_op.field-0 ∷ []) in
    let called : Called request IsLost old new = subst (λ (fault : StoreFault). Called request (ending_of ℕ (Err fault)) old new) c.in-Err-Lost.field-0-is c.in-Err-Lost.ensures.call in
    subst (λ (op : Op). IsAsked (to_commit (op ∷ [])) old new) c.in_ok-raw_op.ensures
    (record { end = IsLost; told = λ e. cc; called = called })
