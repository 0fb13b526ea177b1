-- A service that was written is read back.
use Rattle.std.proofs.Common.{◌≡◌, ℕ, ◌<◌, ◌≤◌, ◌^◌, lit≤, true, false, List, [], ◌∷◌, ◌++◌, map, Some, Result, Ok, refl, sym, ap, ◌∙◌, subst, arith, nat_lt, codes}
use Rattle.std.proofs.lemmas.Bool.{lt-ltb}
use Rattle.std.specs.List.{AllByRecursion}
use Rattle.serde_json.specs.Data.{depth, no_members}
use Rattle.serde_json.specs.Written.{has_float}
use Rattle.mesh_text.specs.declared.ip.Ip.{Ip}
use Rattle.mesh_text.specs.Addresses.{address_of, address_text}
use Rattle.mesh_text.proofs.CallerLemmas.{address_of-address_text}
use Rattle.record_values.specs.declared.fault.ReadFault.{ReadFault}
use Rattle.record_values.specs.Values.{BackendPort, Service}
use Rattle.record_values.specs.Backends.{AreInOrder, IsBackend}
use Rattle.record_reading.specs.Judgement.{◌>>=◌}
use Rattle.record_reading.specs.Service.{backends, service_of}
use Rattle.mesh_records.specs.Trees.{by_address, named_port, object_of, ports_under_address, service_tree}
use Rattle.record_reading.proofs.Orders.{Group, all_ports}
use Rattle.mesh_records.proofs.AddressGroups.{IsPart, grouped}
use Rattle.mesh_records.proofs.PortsBack.{ports_read_back}
use Rattle.mesh_records.proofs.AddressesBack.{IsRead, addresses_read_back}
use Rattle.mesh_records.proofs.Depths.{IsPlain, plain_all}

front_fits : (xs ys : List BackendPort) → AllByRecursion IsBackend (xs ++ ys) → AllByRecursion IsBackend xs
front_fits [] ys h = tt
front_fits (x ∷ xs) ys h = (h.0, front_fits xs ys h.1)

rest_fits : (xs ys : List BackendPort) → AllByRecursion IsBackend (xs ++ ys) → AllByRecursion IsBackend ys
rest_fits [] ys h = h
rest_fits (x ∷ xs) ys h = rest_fits xs ys h.1

address_read : (ip : Ip) (ports : List BackendPort) → IsPart (ip, ports) → AllByRecursion IsBackend ports → address_of (address_text ip) ≡ Some ip
address_read ip [] part fit = absurd (omega (arith, part.1))
address_read ip (b ∷ bs) part fit = subst (λ (a : Ip). address_of (address_text a) ≡ Some a) part.0.0.0 (address_of-address_text b.ip fit.0.0)

groups_read : (groups : List Group) → AllByRecursion IsPart groups → AllByRecursion IsBackend (all_ports groups) → AllByRecursion IsRead groups
groups_read [] parts fit = tt
groups_read (g ∷ gs) parts fit =
    let ports : AllByRecursion IsBackend g.1 = front_fits g.1 (all_ports gs) fit in
    ((address_read g.0 g.1 parts.0 ports, ports_read_back g.0 g.1 parts.0.0 ports), groups_read gs parts.1 (rest_fits g.1 (all_ports gs) fit))

backends_back : (field : List ℕ) (bs : List BackendPort) → AreInOrder bs → AllByRecursion IsBackend bs → backends field (object_of (map ports_under_address (by_address bs))) ≡ Ok bs
backends_back field bs ordered fit =
    let groups = grouped bs ordered in
    ap (λ (r : Result (List Group) ReadFault). r >>= λ addresses. Ok (all_ports addresses))
    (addresses_read_back (by_address bs) groups.0 (groups_read (by_address bs) groups.1 (subst (AllByRecursion IsBackend) (sym groups.2) fit)))
    ∙ ap (λ (ports : List BackendPort). Ok ports) groups.2

pub service_reads_back : (s : Service) → s.cluster_id < 2 ^ 32 → AreInOrder s.backends → AllByRecursion IsBackend s.backends → service_of (service_tree s) ≡ Ok s
unfolding service_of service_tree
service_reads_back s id ordered fit =
    let fits : nat_lt s.cluster_id (2 ^ 32) ≡ true = lt-ltb s.cluster_id (2 ^ 32) id in
    rw (fits, backends_back (codes "backends") s.backends ordered fit) refl

port_plain : (b : BackendPort) → IsPlain 1 (named_port b).1
port_plain b = (refl, lit≤ tt)

address_plain : (g : Group) → IsPlain 2 (ports_under_address g).1
address_plain g =
    let all = plain_all 1 named_port port_plain no_members g.1 (refl, lit≤ tt) in
    (all.0, omega (arith, all.1))

pub service_plain : (s : Service) → (has_float (service_tree s) ≡ false) × (depth (service_tree s) ≤ 127)
unfolding service_tree
service_plain s =
    let all = plain_all 2 ports_under_address address_plain no_members (by_address s.backends) (refl, lit≤ tt) in
    (rw all.0 refl, omega (arith, all.1))
