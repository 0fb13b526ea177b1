use Rattle.std.proofs.Common.{◌==◌, ℕ, List, true, Some, cond, ap, ◌∙◌}
use Rattle.std.proofs.lemmas.Result.{on_ok_weaker}
use Rattle.std.specs.Ordering.{nat_cmp}
use Rattle.std.specs.Cmp.Lexicographic.{slice_cmp}
use Rattle.std.specs.BTreeMap.{get}
use Rattle.mesh_base.specs.Order.{same_bytes}
use Rattle.memory_store.specs.Index.{is_under}
use Rattle.memory_store.proofs.Indexes.{added}
use Rattle.memory_store.proofs.attached.Attached.attach_first.Goals as goal

pub returns-clause-keys : goal.returns-clause-keys
returns-clause-keys c =
    let leases = c.args.self.now.leases in
    let keys = c.args.self.now.keys in
    on_ok_weaker c.add.result
    (λ is. added leases c.insert.new.self keys c.add.new.keys c.args.key.now c.requires.keys c.args.lease c.requires.none
    (λ k. c.in_ok-insert.ensures.updates.0 k ∙ ap (λ (q : List ℕ). cond (same_bytes q k) (Some c.args.lease) (get (slice_cmp nat_cmp) leases k)) c.in_ok-clone.ensures.cases)
    (λ n k. is n k ∙ ap (λ (q : List ℕ). cond (c.args.lease == n) (cond (same_bytes q k) true (is_under keys n k)) (is_under keys n k)) c.in_ok-clone-2.ensures.cases))
    c.add.ensures
