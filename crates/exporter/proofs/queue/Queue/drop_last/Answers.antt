use Rattle.std.proofs.Common.{◌≡◌, ◌∙◌, ◌++◌, ◌∷◌, [], List, ap, refl, subst}
use Rattle.exporter.specs.Kept.{HasKeys}
use Rattle.exporter.specs.declared.item.Item.{Item}
use Rattle.exporter.specs.declared.item.Item.TheVariants as item
use Rattle.exporter.proofs.Queues.{dropped_key, dropped_other}
use Rattle.exporter.proofs.queue.Queue.drop_last.Goals as goal

pub invariant_of-self : goal.invariant_of-self
invariant_of-self c =
    let whole : c.self.inside.items.items ≡ c.pop_back.new.self.items ++ item.Record c.in-Some-Record.key ∷ [] = c.in-Some-Record.ensures.items ∙ ap (λ (i : Item). c.pop_back.new.self.items ++ i ∷ []) c.in-Some-Record.field-0-is in
    dropped_key c.pop_back.new.self.items c.self.inside.keys c.remove.new.self c.in-Some-Record.key (subst (λ (q : List Item). HasKeys q c.self.inside.keys) whole c.self.invariant) c.remove.ensures.updates.0

pub invariant_of-self-in-Some-Config : goal.invariant_of-self-in-Some-Config
invariant_of-self-in-Some-Config c =
    let whole : c.self.inside.items.items ≡ c.pop_back.new.self.items ++ item.Config ∷ [] = c.in-Some-Config.ensures.items ∙ ap (λ (i : Item). c.pop_back.new.self.items ++ i ∷ []) c.in-Some-Config.field-0-is in
    dropped_other c.pop_back.new.self.items c.self.inside.keys item.Config (subst (λ (q : List Item). HasKeys q c.self.inside.keys) whole c.self.invariant) (λ _. refl)

pub invariant_of-self-in-Some-Mark : goal.invariant_of-self-in-Some-Mark
invariant_of-self-in-Some-Mark c =
    let whole : c.self.inside.items.items ≡ c.pop_back.new.self.items ++ item.Mark c.in-Some-Mark.field-0-0 ∷ [] = c.in-Some-Mark.ensures.items ∙ ap (λ (i : Item). c.pop_back.new.self.items ++ i ∷ []) c.in-Some-Mark.field-0-is in
    dropped_other c.pop_back.new.self.items c.self.inside.keys (item.Mark c.in-Some-Mark.field-0-0) (subst (λ (q : List Item). HasKeys q c.self.inside.keys) whole c.self.invariant) (λ _. refl)
