-- What a judgement that gave something had before.
use Rattle.std.proofs.Common.{◌≡◌, Result, Ok, Err, refl, ap}
use Rattle.record_values.specs.declared.fault.ReadFault.{ReadFault}
use Rattle.record_reading.specs.Judgement.{◌>>=◌}

pub given_by : {A B : Type 0} (r : Result A ReadFault) (next : A → Result B ReadFault) (y : B) → r >>= next ≡ Ok y → (x : A) × (r ≡ Ok x) × (next x ≡ Ok y)
given_by (Ok x) next y e = (x, refl, e)
given_by (Err f) next y e = absurd (let h = e in cc)

abbrev or_given : {A : Type 0} → A → Result A ReadFault → A
or_given d (Ok x) = x
or_given d (Err e) = d

abbrev pub given : {A : Type 0} → A → Result A ReadFault
given x = Ok x

pub same_given : {A : Type 0} (x y : A) → given x ≡ given y → x ≡ y
same_given x y e = ap (or_given x) e
