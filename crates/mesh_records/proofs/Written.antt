-- What was written is read again.
use Rattle.std.proofs.Common.{◌≡◌, ◌≤◌, ℕ, List, Bool, true, false, cond, Some, None, Result, Ok, Err, sym, ap, ◌∙◌, subst, is_some}
use Rattle.std.specs.Str.{IsUtf8}
use Rattle.std.proofs.lemmas.Str.{is_utf8-from_IsUtf8}
use Rattle.serde_json.specs.Data.{Data, depth}
use Rattle.serde_json.specs.Read.{read}
use Rattle.serde_json.specs.Find.{as_object}
use Rattle.serde_json.specs.Written.{compact_text, has_float}
use Rattle.record_values.specs.declared.fault.ReadFault.{ReadFault}
use Rattle.record_values.specs.declared.fault.ReadFault.TheVariants.{Shape}
use Rattle.record_reading.specs.Judgement.{tree_of, judged, judged_tree}

pub tree_read : (bytes : List ℕ) (d : Data) → IsUtf8 bytes → read bytes ≡ Some d → tree_of bytes ≡ Some d
tree_read bytes d utf8 e = ap (λ (b : Bool). cond b (read bytes) None) (is_utf8-from_IsUtf8 bytes utf8) ∙ e

-- the text of the tree that was written
pub text_written : (d tree : Data) (bytes : List ℕ) → d ≡ tree → has_float tree ≡ false → (has_float d ≡ false → bytes ≡ compact_text d) → bytes ≡ compact_text tree
text_written d tree bytes same no_float text = text (ap has_float same ∙ no_float) ∙ ap compact_text same

-- an object that was written is read by its fields
pub read_again : {X : Type 0} (fields : Data → Result X ReadFault) (d tree : Data) (bytes : List ℕ) (x : X)
    → d ≡ tree → depth tree ≤ 127 → is_some (as_object tree) ≡ true → fields tree ≡ Ok x → (depth d ≤ 127 → tree_of bytes ≡ Some d) → judged fields bytes ≡ Ok x
read_again {X} fields d tree bytes x same shallow is_object gives back =
    let P : Data → Type 0 = λ e. depth e ≤ 127 in
    let tree_back : tree_of bytes ≡ Some tree = back (subst P (sym same) shallow) ∙ ap (λ (e : Data). Some e) same in
    ap (judged_tree fields) tree_back ∙ ap (λ (b : Bool). cond b (fields tree) (Err Shape)) is_object ∙ gives
