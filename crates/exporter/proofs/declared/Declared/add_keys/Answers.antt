use Rattle.std.proofs.Common.{ℕ, List, map, ap, sym, subst, ◌≡◌, ◌++◌, ◌∙◌, refl, append-nil}
use Rattle.std.specs.FinMap as finite
use Rattle.std.specs.Map.{keys_of}
use Rattle.store_api.specs.History.{Pairing}
use Rattle.exporter.specs.State.{record_item}
use Rattle.exporter.proofs.Maps.{Entries, entries_of}
use Rattle.exporter.proofs.Queues.{Fresh, fresh_of, none_of}
use Rattle.exporter.proofs.declared.Declared.add_keys.Goals as goal

pub loop-key-init : goal.loop-key-init
loop-key-init c =
    let all : c.into_iter-key-iterator.result ≡ keys_of c.self.inside.values.entries = c.into_iter-key-iterator.ensures.into_iter_gives ∙ c.keys-key-items.ensures.rest in
    record {
      fresh = subst (λ (ks : List (List ℕ)). Fresh ks c.args.queue.now) (sym all) (fresh_of (keys_of c.self.inside.values.entries) c.args.queue.now c.keys-key-items.ensures.ordered (none_of (keys_of c.self.inside.values.entries) c.args.queue.now c.requires));
      whole = refl;
    }

pub returns : goal.returns
returns c =
    let all : c.into_iter-key-iterator.result ≡ keys_of c.self.inside.values.entries = c.into_iter-key-iterator.ensures.into_iter_gives ∙ c.keys-key-items.ensures.rest in
    let done : c.loop-key.queue ≡ c.loop-key.queue ++ map record_item c.loop-key.key-iterator = sym (ap (λ (ks : List (List ℕ)). c.loop-key.queue ++ map record_item ks) c.in-None.ensures.steps.0 ∙ append-nil c.loop-key.queue) in
    done ∙ c.loop-key.invariant.whole
    ∙ ap (λ (ks : List (List ℕ)). c.args.queue.now ++ map record_item ks) (all ∙ ap (λ (es : Entries). keys_of es) (sym (entries_of c.self.inside.values.entries c.keys-key-items.ensures.ordered)) ∙ ap (λ (m : Pairing). finite.keys m) c.self.view_is)
