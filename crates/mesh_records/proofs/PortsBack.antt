-- The ports of an address that were written are read back.
use Rattle.std.proofs.Common.{◌≡◌, ℕ, true, List, [], ◌∷◌, ◌++◌, map, Ok, Less, Greater, nat_cmp, refl, sym, ◌∙◌, ap, subst, nat_lt, append_assoc, append-nil}
use Rattle.std.proofs.lemmas.Bool.{lt-ltb}
use Rattle.std.proofs.lemmas.Cmp.{nat_list_cmp_total}
use Rattle.std.specs.List.{AllByRecursion}
use Rattle.std.specs.List.Sorted.{IsStrictlySortedBy}
use Rattle.std.specs.Ordering.{ordering_reverse}
use Rattle.std.specs.Cmp.Lexicographic.{slice_cmp}
use Rattle.serde_json.specs.Data.{Members, member, no_members, put}
use Rattle.mesh_text.specs.declared.ip.Ip.{Ip}
use Rattle.record_values.specs.Values.{BackendPort}
use Rattle.record_values.specs.Backends.{ArePortsOf, IsBackend}
use Rattle.record_reading.specs.Service.{port_of, ports_of}
use Rattle.mesh_records.specs.Trees.{named_port, port_tree, put_all}

abbrev pub names : List BackendPort → List (List ℕ)
names ports = map (λ (b : BackendPort). b.port_name) ports

-- ports one behind the other
abbrev in_turn : List BackendPort → Members
in_turn [] = no_members
in_turn (b ∷ bs) = member b.port_name (port_tree b) (in_turn bs)

abbrev AreBefore : List BackendPort → BackendPort → Type 0
AreBefore done b = AllByRecursion (λ (d : BackendPort). slice_cmp nat_cmp d.port_name b.port_name ≡ Less) done

put_behind : (done : List BackendPort) (b : BackendPort) → AreBefore done b → put b.port_name (port_tree b) (in_turn done) ≡ in_turn (done ++ b ∷ [])
put_behind [] b h = refl
put_behind (d ∷ done) b h =
    let above : slice_cmp nat_cmp b.port_name d.port_name ≡ Greater = nat_list_cmp_total.antisymm b.port_name d.port_name ∙ ap ordering_reverse h.0 in
    rw above (ap (member d.port_name (port_tree d)) (put_behind done b h.1))

before_one : (d : BackendPort) (done : List BackendPort) (b : BackendPort) (rest : List BackendPort)
    → AllByRecursion (λ (name : List ℕ). slice_cmp nat_cmp d.port_name name ≡ Less) (names (done ++ b ∷ rest)) → slice_cmp nat_cmp d.port_name b.port_name ≡ Less
before_one d [] b rest h = h.0
before_one d (x ∷ done) b rest h = before_one d done b rest h.1

all_before : (done : List BackendPort) (b : BackendPort) (rest : List BackendPort) → IsStrictlySortedBy (slice_cmp nat_cmp) (names (done ++ b ∷ rest)) → AreBefore done b
unfolding IsStrictlySortedBy
all_before [] b rest h = tt
all_before (d ∷ done) b rest h = (before_one d done b rest h.0, all_before done b rest h.1)

put_in_turn : (done rest : List BackendPort) → IsStrictlySortedBy (slice_cmp nat_cmp) (names (done ++ rest)) → put_all (in_turn done) (map named_port rest) ≡ in_turn (done ++ rest)
put_in_turn done [] h = ap in_turn (sym (append-nil done))
put_in_turn done (b ∷ rest) h =
    let again : (done ++ b ∷ []) ++ rest ≡ done ++ b ∷ rest = append_assoc done (b ∷ []) rest in
    ap (λ (members : Members). put_all members (map named_port rest)) (put_behind done b (all_before done b rest h))
    ∙ put_in_turn (done ++ b ∷ []) rest (subst (λ (ports : List BackendPort). IsStrictlySortedBy (slice_cmp nat_cmp) (names ports)) (sym again) h)
    ∙ ap in_turn again

own_port_back : (b : BackendPort) → IsBackend b → port_of b.ip b.port_name (port_tree b) ≡ Ok b
unfolding port_of
own_port_back b is =
    let fits : nat_lt b.port 65536 ≡ true = lt-ltb b.port 65536 is.1 in
    rw (fits, is.2) refl

port_back : (ip : Ip) (b : BackendPort) → b.ip ≡ ip → IsBackend b → port_of ip b.port_name (port_tree b) ≡ Ok b
port_back ip b here is = ap (λ (a : Ip). port_of a b.port_name (port_tree b)) (sym here) ∙ own_port_back b is

ports_back : (ip : Ip) (ports : List BackendPort) → AllByRecursion (λ (b : BackendPort). b.ip ≡ ip) ports → AllByRecursion IsBackend ports → ports_of ip (in_turn ports) ≡ Ok ports
ports_back ip [] here fit = refl
ports_back ip (b ∷ bs) here fit = rw (port_back ip b here.0 fit.0, ports_back ip bs here.1 fit.1) refl

pub ports_read_back : (ip : Ip) (ports : List BackendPort) → ArePortsOf ip ports → AllByRecursion IsBackend ports → ports_of ip (put_all no_members (map named_port ports)) ≡ Ok ports
ports_read_back ip ports h fit = ap (ports_of ip) (put_in_turn [] ports h.1) ∙ ports_back ip ports h.0 fit
