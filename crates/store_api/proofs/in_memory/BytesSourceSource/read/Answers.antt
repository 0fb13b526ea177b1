use Rattle.std.proofs.Common.{◌≡◌, ◌+◌, ◌-◌, ◌≤◌, ℕ, List, length, take, drop, refl, ap, sym, ◌∙◌, arith}
use Rattle.std.proofs.lemmas.List.{length-take, length-drop}
use Rattle.store_api.specs.Streams.{Input}
use Rattle.store_api.proofs.Pieces.{piece_off}
use Rattle.store_api.proofs.in_memory.BytesSourceSource.read.Goals as goal

pub returns-clause-took : goal.returns-clause-took
returns-clause-took c =
    let at = c.self.inside.at in
    let n = c.min-most.result in
    let bytes = c.self.inside.bytes.items in
    let size : at + n - at ≡ n = omega arith in
    let same : c.copy_from_slice.new.self ≡ take n (drop at bytes) =
    c.copy_from_slice.ensures.after ∙ ap (λ (m : ℕ). take m (drop at c.deref-2.result.now)) size ∙ ap (λ (l : List ℕ). take n (drop at l)) c.deref-2.ensures.value in
    let within : n ≤ length (drop at bytes) = omega (arith, length-drop at bytes, ap length c.deref-2.ensures.value) in
    (_, refl, sym (ap (λ (i : Input). i.left) c.self.view_is) ∙ piece_off bytes c.copy_from_slice.new.self _ at n (ap length same ∙ length-take n (drop at bytes) ∙ omega arith) same)
