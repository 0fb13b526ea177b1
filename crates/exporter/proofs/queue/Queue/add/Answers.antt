use Rattle.std.proofs.Common.{◌≡◌, ◌∙◌, ◌++◌, ◌∷◌, [], ℕ, List, cond, not, false, true, ap, sym, subst}
use Rattle.std.specs.List.{list_any}
use Rattle.mesh_base.specs.Order.{same_bytes}
use Rattle.exporter.specs.Kept.{HasKeys}
use Rattle.exporter.specs.State.{is_record, with_key}
use Rattle.exporter.specs.declared.item.Item.{Item}
use Rattle.exporter.specs.declared.item.Item.TheVariants as item
use Rattle.exporter.proofs.Queues.{has, waits_is, with_waiting, with_new, added_key}
use Rattle.exporter.proofs.queue.Queue.add.Goals as goal

pub returns-then-contains-clause-queue : goal.returns-then-contains-clause-queue
returns-then-contains-clause-queue c =
    let waits : list_any (is_record c.args.key.now) c.self.inside.items.items ≡ true = waits_is c.self.inside.items.items c.self.inside.keys c.args.key.now c.self.invariant ∙ sym c.if-contains.ensures in
    with_waiting c.args.key.now c.args.self.now (subst (λ (q : List Item). list_any (is_record c.args.key.now) q ≡ true) c.self.view_is waits)

pub returns-then-contains-clause-added : goal.returns-then-contains-clause-added
returns-then-contains-clause-added c =
    let waits : list_any (is_record c.args.key.now) c.self.inside.items.items ≡ true = waits_is c.self.inside.items.items c.self.inside.keys c.args.key.now c.self.invariant ∙ sym c.if-contains.ensures in
    sym (ap not (subst (λ (q : List Item). list_any (is_record c.args.key.now) q ≡ true) c.self.view_is waits))

pub invariant_of-self-2 : goal.invariant_of-self-2
invariant_of-self-2 c =
    let pushed : c.push_back_reserved.new.self.items ≡ c.self.inside.items.items ++ item.Record c.args.key.now ∷ [] = cc (c.push_back_reserved.ensures.items, c.in_ok-try_reserve.ensures.items, c.in_ok-clone.ensures.cases) in
    let kept : HasKeys (c.self.inside.items.items ++ item.Record c.args.key.now ∷ []) c.insert.new.self = added_key c.self.inside.items.items c.self.inside.keys c.insert.new.self c.args.key.now c.self.invariant (sym c.if-contains.ensures) (λ q. c.in_ok-insert.ensures.updates.0 q ∙ ap (λ (x : List ℕ). cond (same_bytes x q) true (has c.self.inside.keys q)) c.in_ok-clone-2.ensures.cases) in
    subst (λ (q : List Item). HasKeys q c.insert.new.self) (sym pushed) kept

pub returns-clause-queue : goal.returns-clause-queue
returns-clause-queue c =
    let pushed : c.push_back_reserved.new.self.items ≡ c.self.inside.items.items ++ item.Record c.args.key.now ∷ [] = cc (c.push_back_reserved.ensures.items, c.in_ok-try_reserve.ensures.items, c.in_ok-clone.ensures.cases) in
    let none : list_any (is_record c.args.key.now) c.self.inside.items.items ≡ false = waits_is c.self.inside.items.items c.self.inside.keys c.args.key.now c.self.invariant ∙ sym c.if-contains.ensures in
    pushed ∙ sym (with_new c.args.key.now c.self.inside.items.items none) ∙ ap (with_key c.args.key.now) c.self.view_is

pub returns-clause-added : goal.returns-clause-added
returns-clause-added c =
    let none : list_any (is_record c.args.key.now) c.self.inside.items.items ≡ false = waits_is c.self.inside.items.items c.self.inside.keys c.args.key.now c.self.invariant ∙ sym c.if-contains.ensures in
    sym (ap not (subst (λ (q : List Item). list_any (is_record c.args.key.now) q ≡ false) c.self.view_is none))
