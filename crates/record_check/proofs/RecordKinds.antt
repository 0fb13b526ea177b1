-- A record that is read as one of a kind is of that kind.
use Rattle.std.proofs.Common.{◌≡◌, ℕ, List, Result, Ok, Err, refl, sym, ap, ◌∙◌}
use Rattle.mesh_text.specs.declared.kind.Kind.{Kind}
use Rattle.mesh_text.specs.declared.kind.Kind.TheVariants as kind
use Rattle.record_values.specs.declared.fault.ReadFault.{ReadFault}
use Rattle.record_values.specs.declared.records.Record.{Record}
use Rattle.record_values.specs.declared.records.Record.TheVariants as found
use Rattle.record_reading.specs.Judgement.{◌>>=◌}
use Rattle.record_reading.specs.Record.{record_of}
use Rattle.record_check.specs.Reading.{kind_of_record}

-- what is read is what was made of something
made : {A : Type 0} (make : A → Record) (k : Kind) → ((a : A) → kind_of_record (make a) ≡ k)
    → (read : Result A ReadFault) (r : Record)
    → (read >>= λ a. Ok (make a)) ≡ Ok r → kind_of_record r ≡ k
made make k is (Ok a) r e = let h : make a ≡ r = cc in sym (ap kind_of_record h) ∙ is a
made make k is (Err why) r e = cc

pub kind_of_read : (k : Kind) (value : List ℕ) (r : Record) → record_of k value ≡ Ok r → kind_of_record r ≡ k
kind_of_read kind.Nodes value r e = made found.Node kind.Nodes (λ a. refl) _ r e
kind_of_read kind.Services value r e = made found.Service kind.Services (λ a. refl) _ r e
kind_of_read kind.Identities value r e = made found.Identity kind.Identities (λ a. refl) _ r e
kind_of_read kind.Addresses value r e = made found.Address kind.Addresses (λ a. refl) _ r e
