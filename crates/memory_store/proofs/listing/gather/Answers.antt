use Rattle.std.proofs.Common.{List, ℕ, Some, cond, ap, sym, ◌∙◌}
use Rattle.std.specs.Ordering.{nat_cmp}
use Rattle.std.specs.Cmp.Lexicographic.{slice_cmp}
use Rattle.std.specs.BTreeMap.{get, is_at}
use Rattle.store_api.specs.declared.change.Range.{Range}
use Rattle.memory_store.specs.Kept.{gathered}
use Rattle.memory_store.proofs.Fronts.{one_put, one_none}
use Rattle.memory_store.proofs.listing.gather.Goals as goal

pub returns-in_ok-insert-in-One : goal.returns-in_ok-insert-in-One
returns-in_ok-insert-in-One c = λ k.
    one_put c.in-One.key c.in-Some.value.now (get (slice_cmp nat_cmp) c.args.live.now) (get (slice_cmp nat_cmp) c.args.found.now) (get (slice_cmp nat_cmp) c.insert.new.self)
    (sym c.in-Some.ensures.value)
    (λ q. c.in_ok-insert-in-One.ensures.updates.0 q
    ∙ ap (λ (x : List ℕ). cond (is_at (slice_cmp nat_cmp x) q) (Some c.in_ok-clone-in-One-2.field-0) (get (slice_cmp nat_cmp) c.args.found.now q)) c.in_ok-clone-in-One.ensures.cases
    ∙ ap (λ (v : List ℕ). cond (is_at (slice_cmp nat_cmp c.in-One.key) q) (Some v) (get (slice_cmp nat_cmp) c.args.found.now q)) c.in_ok-clone-in-One-2.ensures.cases) k
    ∙ ap (λ (r : Range). gathered r (get (slice_cmp nat_cmp) c.args.live.now) (get (slice_cmp nat_cmp) c.args.found.now) k) (sym c.in-One.is)

pub returns-in_default : goal.returns-in_default
returns-in_default c = λ k.
    one_none c.in-One.key (get (slice_cmp nat_cmp) c.args.live.now) (get (slice_cmp nat_cmp) c.args.found.now) (sym c.in_default.ensures.value) k
    ∙ ap (λ (r : Range). gathered r (get (slice_cmp nat_cmp) c.args.live.now) (get (slice_cmp nat_cmp) c.args.found.now) k) (sym c.in-One.is)
