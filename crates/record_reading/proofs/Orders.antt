-- The ports of each address in order make backends in order.
use Rattle.std.proofs.Common.{◌≡◌, ℕ, List, [], ◌∷◌, ◌++◌, map, Option, Result, Ok, Err, Ordering, Less, Equal, Greater, Global, String, string_bytes, string_cmp, nat_cmp, refl, sym, ◌∙◌, ap, subst, codes}
use mathlib.Core.Path.{fun_ext}
use Rattle.std.specs.List.{AllByRecursion, flat_map}
use Rattle.std.specs.List.Sorted.{IsStrictlySortedBy}
use Rattle.std.specs.Map.{keys_of}
use Rattle.std.specs.BTreeMap.{insert_entry}
use Rattle.std.specs.Ordering.{ordering_then, match_ordering}
use Rattle.std.specs.Cmp.Lexicographic.{slice_cmp}
use Rattle.std.specs.FinMap.{nat_cmp-IsAntisymmetric}
use Rattle.std.proofs.lemmas.Cmp.{nat_cmp_total, tied_itself}
use Rattle.serde_json.specs.Data.{Data, Members, no_members, member}
use Rattle.serde_json.specs.Find.{get}
use Rattle.serde_json.specs.View.{members_view}
use Rattle.serde_json.specs.declared.value.Value.{Value}
use Rattle.mesh_text.specs.declared.ip.Ip.{Ip}
use Rattle.mesh_text.specs.declared.ip.Ip.TheVariants.{V4, V6}
use Rattle.mesh_text.specs.contracts.ip.IpOrd.TheImpl as ip_order
use Rattle.mesh_text.specs.Laws.{ip_cmp}
use Rattle.record_values.specs.declared.fault.ReadFault.{ReadFault}
use Rattle.record_values.specs.Values.{BackendPort}
use Rattle.record_values.specs.Backends.{backend_order, AreInOrder, ArePortsOf}
use Rattle.record_reading.specs.Judgement.{◌>>=◌}
use Rattle.record_reading.specs.Forms.{required, object, protocol, whole_below, either}
use Rattle.record_reading.specs.Service.{port_of, ports_of}
use Rattle.record_reading.proofs.Judgements.{given, given_by, same_given}

-- ---- what the names of an object's members are

abbrev pub names_of : Members → List (List ℕ)
names_of no_members = []
names_of (member name x others) = name ∷ names_of others

names_view : (es : List (String Global × Value)) → names_of (members_view es) ≡ map string_bytes (keys_of es)
names_view [] = refl
names_view (e ∷ es) = ap (λ (names : List (List ℕ)). string_bytes e.0 ∷ names) (names_view es)

below_names : (k : String Global) (ks : List (String Global)) → AllByRecursion (λ (y : String Global). string_cmp k y ≡ Less) ks
    → AllByRecursion (λ (y : List ℕ). slice_cmp nat_cmp (string_bytes k) y ≡ Less) (map string_bytes ks)
below_names k [] h = tt
below_names k (x ∷ xs) h = (h.0, below_names k xs h.1)

sorted_names : (ks : List (String Global)) → IsStrictlySortedBy string_cmp ks → IsStrictlySortedBy (slice_cmp nat_cmp) (map string_bytes ks)
unfolding IsStrictlySortedBy
sorted_names [] h = tt
sorted_names (k ∷ ks) h = (below_names k ks h.0, sorted_names ks h.1)

-- ---- the ports that are read bear the names of the members

port_named_by : (ip : Ip) (name : List ℕ) (b : BackendPort) (o : Result (Option Data) ReadFault) (p : Result (List ℕ) ReadFault) (n : Result ℕ ReadFault)
    → o >>= (λ _. p >>= λ protocol. n >>= λ port. given (record { ip = ip; port = port; protocol = protocol; port_name = name })) ≡ Ok b → (b.ip ≡ ip) × (b.port_name ≡ name)
port_named_by ip name b (Ok o) (Ok p) (Ok n) e =
    let is : record { ip = ip; port = n; protocol = p; port_name = name } ≡ b = same_given _ b e in
    (sym (ap (λ (p : BackendPort). p.ip) is), sym (ap (λ (p : BackendPort). p.port_name) is))
port_named_by ip name b (Ok o) (Ok p) (Err f) e = absurd (let h = e in cc)
port_named_by ip name b (Ok o) (Err f) n e = absurd (let h = e in cc)
port_named_by ip name b (Err f) p n e = absurd (let h = e in cc)

port_is_named : (ip : Ip) (name : List ℕ) (x : Data) (b : BackendPort) → port_of ip name x ≡ Ok b → (b.ip ≡ ip) × (b.port_name ≡ name)
unfolding port_of
port_is_named ip name x b e =
    port_named_by ip name b (object (codes "backends") x)
    (required protocol (codes "backends.protocol") (either (get (codes "Protocol") x) (get (codes "protocol") x)))
    (required (whole_below 65536) (codes "backends.port") (either (get (codes "Port") x) (get (codes "port") x))) e

ports_are_named : (ip : Ip) (members : Members) (ports : List BackendPort) → ports_of ip members ≡ Ok ports
    → AllByRecursion (λ (b : BackendPort). b.ip ≡ ip) ports × (map (λ (b : BackendPort). b.port_name) ports ≡ names_of members)
ports_are_named ip no_members ports e =
    let is : [] ≡ ports = same_given [] ports e in
    subst (λ (ps : List BackendPort). AllByRecursion (λ (b : BackendPort). b.ip ≡ ip) ps × (map (λ (b : BackendPort). b.port_name) ps ≡ [])) is (tt, refl)
ports_are_named ip (member name x others) ports e =
    let first = given_by (port_of ip name x) _ ports e in
    let rest = given_by (ports_of ip others) _ ports first.2 in
    let is : first.0 ∷ rest.0 ≡ ports = same_given _ ports rest.2 in
    let named = port_is_named ip name x first.0 first.1 in
    let behind = ports_are_named ip others rest.0 rest.1 in
    subst (λ (ps : List BackendPort). AllByRecursion (λ (b : BackendPort). b.ip ≡ ip) ps × (map (λ (b : BackendPort). b.port_name) ps ≡ name ∷ names_of others)) is
    ((named.0, behind.0), (λ i. named.1 i ∷ behind.1 i))

pub ports_in_order : (ip : Ip) (es : List (String Global × Value)) (ports : List BackendPort) → IsStrictlySortedBy string_cmp (keys_of es)
    → ports_of ip (members_view es) ≡ Ok ports → ArePortsOf ip ports
ports_in_order ip es ports sorted e =
    let named = ports_are_named ip (members_view es) ports e in
    (named.0, subst (IsStrictlySortedBy (slice_cmp nat_cmp)) (sym (named.1 ∙ names_view es)) (sorted_names (keys_of es) sorted))

-- ---- addresses

pub same_ip : (a b : Ip) → ip_cmp a b ≡ Equal → a ≡ b
same_ip (V4 a) (V4 b) e = ap V4 (nat_cmp-IsAntisymmetric a b e)
same_ip (V4 a) (V6 b) e = absurd (let h = e in cc)
same_ip (V6 a) (V4 b) e = absurd (let h = e in cc)
same_ip (V6 a) (V6 b) e = ap V6 (nat_cmp-IsAntisymmetric a b e)

cmp_is : (a b : Ip) → (ip_order.ghosts).cmp a b ≡ ip_cmp a b
cmp_is (V4 a) (V4 b) = refl
cmp_is (V4 a) (V6 b) = refl
cmp_is (V6 a) (V4 b) = refl
cmp_is (V6 a) (V6 b) = refl

-- a map keeps its addresses in this order
pub sorted_ips : (ips : List Ip) → IsStrictlySortedBy (ip_order.ghosts).cmp ips → IsStrictlySortedBy ip_cmp ips
sorted_ips ips h = subst (λ (c : Ip → Ip → Ordering). IsStrictlySortedBy c ips) (fun_ext (λ (a : Ip). fun_ext (λ (b : Ip). cmp_is a b))) h

abbrev pub Group : Type 0
Group = Ip × List BackendPort

abbrev pub IsGroup : Group → Type 0
IsGroup a = ArePortsOf a.0 a.1

group_put : (es : List Group) (ip : Ip) (ports : List BackendPort) (e : Group) (o : Ordering) → ip_cmp ip e.0 ≡ o
    → AllByRecursion IsGroup (e ∷ es) → ArePortsOf ip ports → AllByRecursion IsGroup (insert_entry ip_cmp es ip ports)
    → AllByRecursion IsGroup (match_ordering o ((ip, ports) ∷ e ∷ es) ((e.0, ports) ∷ es) (e ∷ insert_entry ip_cmp es ip ports))
group_put es ip ports e Less c h is rest = (is, h)
group_put es ip ports e Equal c h is rest = (subst (λ (a : Ip). ArePortsOf a ports) (same_ip ip e.0 c) is, h.1)
group_put es ip ports e Greater c h is rest = (h.0, rest)

pub groups_put : (es : List Group) (ip : Ip) (ports : List BackendPort) → AllByRecursion IsGroup es → ArePortsOf ip ports → AllByRecursion IsGroup (insert_entry ip_cmp es ip ports)
groups_put [] ip ports h is = (is, tt)
groups_put (e ∷ es) ip ports h is = group_put es ip ports e (ip_cmp ip e.0) refl h is (groups_put es ip ports h.1 is)

-- ---- one address behind the other

pub tied_ip : (ip : Ip) → ip_cmp ip ip ≡ Equal
tied_ip (V4 a) = tied_itself nat_cmp_total a
tied_ip (V6 a) = tied_itself nat_cmp_total a

ports_before : (ip : Ip) (b : BackendPort) (ports : List BackendPort) → b.ip ≡ ip → AllByRecursion (λ (p : BackendPort). p.ip ≡ ip) ports
    → AllByRecursion (λ (name : List ℕ). slice_cmp nat_cmp b.port_name name ≡ Less) (map (λ (p : BackendPort). p.port_name) ports)
    → AllByRecursion (λ (p : BackendPort). backend_order b p ≡ Less) ports
ports_before ip b [] here ips names = tt
ports_before ip b (p ∷ ps) here ips names =
    let tie : ip_cmp b.ip p.ip ≡ Equal = ap (λ (a : Ip). ip_cmp a p.ip) (here ∙ sym ips.0) ∙ tied_ip p.ip in
    (ap (λ (o : Ordering). ordering_then o (slice_cmp nat_cmp b.port_name p.port_name)) tie ∙ names.0, ports_before ip b ps here ips.1 names.1)

group_in_order : (ip : Ip) (ports : List BackendPort) → ArePortsOf ip ports → AreInOrder ports
unfolding IsStrictlySortedBy
group_in_order ip [] h = tt
group_in_order ip (b ∷ bs) h = (ports_before ip b bs h.0.0 h.0.1 h.1.0, group_in_order ip bs (h.0.1, h.1.1))

pub append_all : (P : BackendPort → Type 0) (xs ys : List BackendPort) → AllByRecursion P xs → AllByRecursion P ys → AllByRecursion P (xs ++ ys)
append_all P [] ys h k = k
append_all P (x ∷ xs) ys h k = (h.0, append_all P xs ys h.1 k)

append_in_order : (xs ys : List BackendPort) → AreInOrder xs → AreInOrder ys
    → AllByRecursion (λ (x : BackendPort). AllByRecursion (λ (y : BackendPort). backend_order x y ≡ Less) ys) xs → AreInOrder (xs ++ ys)
unfolding IsStrictlySortedBy
append_in_order [] ys h k l = k
append_in_order (x ∷ xs) ys h k l = (append_all (λ (y : BackendPort). backend_order x y ≡ Less) xs ys h.0 l.0, append_in_order xs ys h.1 k l.1)

before_group : (ip : Ip) (b : BackendPort) (other : Ip) (ports : List BackendPort) → b.ip ≡ ip → ip_cmp ip other ≡ Less → AllByRecursion (λ (p : BackendPort). p.ip ≡ other) ports
    → AllByRecursion (λ (p : BackendPort). backend_order b p ≡ Less) ports
before_group ip b other [] here less ips = tt
before_group ip b other (p ∷ ps) here less ips =
    let below : ip_cmp b.ip p.ip ≡ Less = ap (λ (a : Ip). ip_cmp a p.ip) here ∙ ap (ip_cmp ip) ips.0 ∙ less in
    (ap (λ (o : Ordering). ordering_then o (slice_cmp nat_cmp b.port_name p.port_name)) below, before_group ip b other ps here less ips.1)

abbrev pub all_ports : List Group → List BackendPort
all_ports es = flat_map (λ (a : Group). a.1) es

before_groups : (ip : Ip) (b : BackendPort) (es : List Group) → b.ip ≡ ip → AllByRecursion (λ (y : Ip). ip_cmp ip y ≡ Less) (keys_of es) → AllByRecursion IsGroup es
    → AllByRecursion (λ (p : BackendPort). backend_order b p ≡ Less) (all_ports es)
before_groups ip b [] here less h = tt
before_groups ip b (e ∷ es) here less h =
    append_all (λ (p : BackendPort). backend_order b p ≡ Less) e.1 (all_ports es) (before_group ip b e.0 e.1 here less.0 h.0.0) (before_groups ip b es here less.1 h.1)

ports_before_groups : (ip : Ip) (ports : List BackendPort) (es : List Group) → AllByRecursion (λ (p : BackendPort). p.ip ≡ ip) ports
    → AllByRecursion (λ (y : Ip). ip_cmp ip y ≡ Less) (keys_of es) → AllByRecursion IsGroup es
    → AllByRecursion (λ (x : BackendPort). AllByRecursion (λ (y : BackendPort). backend_order x y ≡ Less) (all_ports es)) ports
ports_before_groups ip [] es ips less h = tt
ports_before_groups ip (b ∷ bs) es ips less h = (before_groups ip b es ips.0 less h, ports_before_groups ip bs es ips.1 less h)

pub all_in_order : (es : List Group) → IsStrictlySortedBy ip_cmp (keys_of es) → AllByRecursion IsGroup es → AreInOrder (all_ports es)
unfolding IsStrictlySortedBy
all_in_order [] sorted h = tt
all_in_order (e ∷ es) sorted h =
    append_in_order e.1 (all_ports es) (group_in_order e.0 e.1 h.0) (all_in_order es sorted.1 h.1)
    (ports_before_groups e.0 e.1 es h.0.0 sorted.0 h.1)
