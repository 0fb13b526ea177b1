use Rattle.std.proofs.Common.{◌≡◌, ◌∷◌, ◌++◌, drop, flat_map}
use Rattle.key_paths.proofs.write.push_parts.Given as goal

abbrev pub invariant-loop-part : goal.invariant-loop-part
invariant-loop-part l =
    l.bytes.items ++ flat_map (λ part. 47 ∷ part.now) (drop l.part-index l.parts) ≡ l.fn.bytes.items ++ flat_map (λ part. 47 ∷ part.now) l.parts
