use Rattle.std.proofs.Common.{◌∙◌, sym, ap, List, ℕ, Option, option_and_then, option_map}
use Rattle.std.specs.Option.{option_copied}
use Rattle.relist_merge.specs.Readings.{cut_said, reading_in}
use Rattle.key_paths.specs.Paths.{cut_key}
use Rattle.relist_merge.specs.Sight.{viewed}
use Rattle.relist_merge.specs.View.{values}
use Rattle.relist_merge.specs.declared.reading.Reading.{Reading}
use Rattle.relist_merge.proofs.Viewing.{cut-read}
use Rattle.relist_merge.proofs.view.View.cut.Goals as goal

pub returns-in_ok-get-in-Some : goal.returns-in_ok-get-in-Some
returns-in_ok-get-in-Some c =
    let limit = c.args.self.now.limit in
    let cluster = c.args.self.now.cluster in
    let has = values (viewed c.args.self.now).shown.entries in
    let key = (c.args.self.now.kept.keyed c.in-Some.keys c.in-Some.is).cut in
    c.cut_said.ensures
    ∙ ap (λ (o : Option Reading). option_and_then cut_said o) (ap option_copied (sym c.in_ok-get-in-Some.was) ∙ c.get.ensures)
    ∙ ap (λ (k : List ℕ). option_and_then cut_said (option_map (reading_in c.args.self.now.limit k) (values (viewed c.args.self.now).shown.entries k))) key
    ∙ cut-read cluster limit (has (cut_key cluster)) c.as_bytes.ensures.valid
