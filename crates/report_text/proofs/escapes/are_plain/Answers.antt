use Rattle.std.proofs.Common.{◌≡◌, ◌∙◌, rules, sym, tests}
use Rattle.std.specs.List.{list_all}
use Rattle.std.proofs.lemmas.Iterator.{YieldsList-from_slice}
use Rattle.std.proofs.lemmas.Iterator.Search.{all_from_yields_List}
use Rattle.report_text.proofs.PlainBytes.{is_plain, plain_stay, stay_plain}
use Rattle.report_text.proofs.escapes.are_plain.Goals as goal

pub returns : goal.returns
returns c =
    let tested : c.all.result ≡ list_all is_plain c.args.bytes.now = all_from_yields_List is_plain _ _ c.all.result c.all.ensures.ran (YieldsList-from_slice c.args.bytes.now cc) (λ x b q k. search (rules, tests)) in
    (λ plain. plain_stay _ (sym tested ∙ plain), λ same. tested ∙ stay_plain _ same)
