-- The language of the profile: what the value of a member must be, and whether the member must be there.
use Rattle.std.specs.Prelude.{ℕ, List, [], ◌∷◌, Bool, Option, None, Some, Result, Ok, Err, option_and_then, nat_lt, is_some, if◌then◌else◌}
use Rattle.serde_json.specs.Data.{Data, Items, no_items, item}
use Rattle.serde_json.specs.Find.{get, as_number, as_u64, as_bool, as_null, as_object, as_array, as_str}
use Rattle.mesh_text.specs.Addresses.{address_of}
use Rattle.mesh_text.specs.declared.ip.Ip.{Ip}
use Rattle.record_values.specs.declared.fault.ReadFault.{ReadFault}
use Rattle.record_values.specs.declared.fault.ReadFault.TheVariants.{Missing, WrongType, Range, AddressText}
use Rattle.record_values.specs.Backends.{is_protocol}
use Rattle.record_reading.specs.Judgement.{◌>>=◌}

abbrev pub none_if_empty : List ℕ → Option (List ℕ)
none_if_empty [] = None
none_if_empty (b ∷ bs) = Some (b ∷ bs)

-- a form says what the value of a field is, or which fault it has under the field's name
abbrev pub Form : Type 0 → Type 0
Form A = List ℕ → Data → Result A ReadFault

-- the member must be there
abbrev pub required : {A : Type 0} → Form A → List ℕ → Option Data → Result A ReadFault
required form field None = Err (Missing field)
required form field (Some x) = form field x

-- an absent member, and null, stand for the default
abbrev pub optional : {A : Type 0} → Form A → A → List ℕ → Option Data → Result A ReadFault
optional form default field None = Ok default
optional form default field (Some x) = if is_some (as_null x) then Ok default else form field x

-- what a value is as a value of its type, if it is one
abbrev pub typed : {A : Type 0} → List ℕ → Option A → Result A ReadFault
typed field None = Err (WrongType field)
typed field (Some a) = Ok a

abbrev pub text : Form (List ℕ)
text field x = typed field (as_str x)

abbrev pub truth : Form Bool
truth field x = typed field (as_bool x)

-- a whole number from 0 up to below the limit
abbrev pub whole_below : ℕ → Form ℕ
whole_below limit field x = typed field (option_and_then as_u64 (as_number x))
    >>= λ n. if nat_lt n limit then Ok n else Err (Range field)

abbrev pub as_address : List ℕ → Option Ip → Result Ip ReadFault
as_address field None = Err (AddressText field)
as_address field (Some ip) = Ok ip

-- the text of an IPv4 or IPv6 address
abbrev pub address : Form Ip
address field x = text field x >>= λ s. as_address field (address_of s)

-- a value that must not be there
abbrev pub refused : ReadFault → Form (Unit {0})
refused fault field x = Err fault

-- a text, of which the empty one stands for none
abbrev pub some_text : Form (Option (List ℕ))
some_text field x = text field x >>= λ s. Ok (none_if_empty s)

abbrev pub address_or_empty : List ℕ → List ℕ → Result (Option Ip) ReadFault
address_or_empty field [] = Ok None
address_or_empty field (b ∷ bs) = as_address field (address_of (b ∷ bs)) >>= λ ip. Ok (Some ip)

-- the text of an address, of which the empty one stands for none
abbrev pub some_address : Form (Option Ip)
some_address field x = text field x >>= λ s. address_or_empty field s

-- the name of a protocol
abbrev pub protocol : Form (List ℕ)
protocol field x = text field x >>= λ s. if is_protocol s then Ok s else Err (Range field)

-- an object, whose members have fields of their own
abbrev pub object : Form (Option Data)
object field x = if is_some (as_object x) then Ok (Some x) else Err (WrongType field)

abbrev pub each : {A : Type 0} → Form A → List ℕ → Items → Result (List A) ReadFault
each form field no_items = Ok []
each form field (item x xs) = form field x >>= λ first. each form field xs >>= λ others. Ok (first ∷ others)

-- a list whose elements have the form, judged by place
abbrev pub list_of : {A : Type 0} → Form A → Form (List A)
list_of form field x = typed field (as_array x) >>= λ items. each form field items

-- the member of an object that may be absent itself
abbrev pub member_of : List ℕ → Option Data → Option Data
member_of name object = option_and_then (get name) object

-- the first member where it is there, else the second
abbrev pub either : Option Data → Option Data → Option Data
either None second = second
either (Some x) second = Some x
