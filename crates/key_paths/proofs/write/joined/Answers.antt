use Rattle.std.proofs.Common.{◌++◌, ◌∙◌, ap}
use Rattle.key_paths.specs.Beginnings.{beginning}
use Rattle.key_paths.proofs.Writing.{written}
use Rattle.key_paths.proofs.write.joined.Goals as goal

pub returns : goal.returns
returns c =
    let front = c.in_ok-bytes.ensures.items ∙ c.as_bytes.ensures in
    let begun = c.in_ok-extend_from_slice.ensures.items ∙ ap (λ bytes. bytes ++ c.args.first.now) front in
    written (beginning c.args.front) c.args.first.now _ _ c.args.more.now begun c.in_ok-push_parts.ensures
