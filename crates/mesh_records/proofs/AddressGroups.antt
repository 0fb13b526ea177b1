-- Backends in order, address by address.
use Rattle.std.proofs.Common.{◌≡◌, ℕ, ◌<◌, List, [], ◌∷◌, ◌++◌, map, length, cond, Bool, true, false, Ordering, Less, Equal, Greater, nat_cmp, refl, sym, ◌∙◌, ap, subst, arith, suc, take, drop, ◌≤◌, Option, Some, None, slice_get}
use Rattle.std.proofs.lemmas.Cmp.{nat_cmp_total}
use Rattle.std.proofs.lemmas.List.{take-append-drop}
use Rattle.std.specs.Cmp.{IsTotalOrder}
use Rattle.std.specs.List.{AllByRecursion}
use Rattle.std.specs.List.Sorted.{IsStrictlySortedBy}
use Rattle.std.specs.Map.{keys_of}
use Rattle.std.specs.Ordering.{ordering_then, ordering_reverse, is_eq}
use Rattle.std.specs.Cmp.Lexicographic.{slice_cmp}
use Rattle.serde_json.specs.Data.{Data, Members, put}
use Rattle.mesh_text.specs.Addresses.{address_text}
use Rattle.mesh_text.specs.declared.ip.Ip.{Ip}
use Rattle.mesh_text.specs.declared.ip.Ip.TheVariants.{V4, V6}
use Rattle.mesh_text.specs.Laws.{ip_cmp}
use Rattle.record_values.specs.Values.{BackendPort}
use Rattle.record_values.specs.Backends.{backend_order, AreInOrder, ArePortsOf}
use Rattle.mesh_records.specs.Trees.{by_address, named_port, object_of, ports_under_address, put_all, same_address, with_backend}
use Rattle.record_reading.proofs.Orders.{Group, all_ports, append_all, same_ip, tied_ip}
use Rattle.mesh_records.proofs.PortsBack.{names}

pub ip_total : IsTotalOrder ip_cmp
ip_total = record { antisymm = turned; trans = passes; congr = tied }
  where
    turned : (x y : Ip) → ip_cmp x y ≡ ordering_reverse (ip_cmp y x)
    turned (V4 a) (V4 b) = nat_cmp_total.antisymm a b
    turned (V4 a) (V6 b) = refl
    turned (V6 a) (V4 b) = refl
    turned (V6 a) (V6 b) = nat_cmp_total.antisymm a b

    passes : (x y z : Ip) → ip_cmp x y ≡ Less → ip_cmp y z ≡ Less → ip_cmp x z ≡ Less
    passes (V4 a) (V4 b) (V4 c) h k = nat_cmp_total.trans a b c h k
    passes (V4 a) (V4 b) (V6 c) h k = refl
    passes (V4 a) (V6 b) (V4 c) h k = absurd (let e = k in cc)
    passes (V4 a) (V6 b) (V6 c) h k = refl
    passes (V6 a) (V4 b) z h k = absurd (let e = h in cc)
    passes (V6 a) (V6 b) (V4 c) h k = absurd (let e = k in cc)
    passes (V6 a) (V6 b) (V6 c) h k = nat_cmp_total.trans a b c h k

    tied : (x y z : Ip) → ip_cmp x y ≡ Equal → ip_cmp x z ≡ ip_cmp y z
    tied (V4 a) (V4 b) (V4 c) h = nat_cmp_total.congr a b c h
    tied (V4 a) (V4 b) (V6 c) h = refl
    tied (V4 a) (V6 b) z h = absurd (let e = h in cc)
    tied (V6 a) (V4 b) z h = absurd (let e = h in cc)
    tied (V6 a) (V6 b) (V4 c) h = refl
    tied (V6 a) (V6 b) (V6 c) h = nat_cmp_total.congr a b c h

-- ports of one address in order, of which there are some
abbrev pub IsPart : Group → Type 0
IsPart a = ArePortsOf a.0 a.1 × (0 < length a.1)

-- the groups of these backends
abbrev pub AreGroupsOf : List BackendPort → List Group → Type 0
AreGroupsOf backends groups = IsStrictlySortedBy ip_cmp (keys_of groups) × AllByRecursion IsPart groups × (all_ports groups ≡ backends)

abbrev IsBefore : BackendPort → List BackendPort → Type 0
IsBefore b backends = AllByRecursion (λ (p : BackendPort). backend_order b p ≡ Less) backends

front : (b : BackendPort) (xs ys : List BackendPort) → IsBefore b (xs ++ ys) → IsBefore b xs
front b [] ys h = tt
front b (x ∷ xs) ys h = (h.0, front b xs ys h.1)

names_behind : (b : BackendPort) (ip : Ip) (ports : List BackendPort) → b.ip ≡ ip → AllByRecursion (λ (p : BackendPort). p.ip ≡ ip) ports → IsBefore b ports
    → AllByRecursion (λ (name : List ℕ). slice_cmp nat_cmp b.port_name name ≡ Less) (names ports)
names_behind b ip [] here ips h = tt
names_behind b ip (p ∷ ps) here ips h =
    let tie : ip_cmp b.ip p.ip ≡ Equal = ap (λ (a : Ip). ip_cmp a p.ip) (here ∙ sym ips.0) ∙ tied_ip p.ip in
    (sym (ap (λ (o : Ordering). ordering_then o (slice_cmp nat_cmp b.port_name p.port_name)) tie) ∙ h.0, names_behind b ip ps here ips.1 h.1)

ips_behind : (ip other : Ip) (ips : List Ip) → ip_cmp ip other ≡ Less → AllByRecursion (λ (y : Ip). ip_cmp other y ≡ Less) ips → AllByRecursion (λ (y : Ip). ip_cmp ip y ≡ Less) ips
ips_behind ip other [] less h = tt
ips_behind ip other (y ∷ ys) less h = (ip_total.trans ip other y less h.0, ips_behind ip other ys less h.1)

single : (b : BackendPort) → IsPart (b.ip, b ∷ [])
unfolding IsStrictlySortedBy
single b = (((refl, tt), (tt, tt)), omega arith)

joined_by : (b x : BackendPort) (ip : Ip) (xs : List BackendPort) (groups : List Group) (o : Ordering) → ip_cmp b.ip ip ≡ o
    → IsStrictlySortedBy ip_cmp (ip ∷ keys_of groups) → AllByRecursion IsPart ((ip, x ∷ xs) ∷ groups) → IsBefore b (x ∷ (xs ++ all_ports groups))
    → AreGroupsOf (b ∷ x ∷ (xs ++ all_ports groups)) (cond (is_eq o) ((ip, b ∷ x ∷ xs) ∷ groups) ((b.ip, b ∷ []) ∷ (ip, x ∷ xs) ∷ groups))
unfolding IsStrictlySortedBy
joined_by b x ip xs groups Equal e sorted parts before =
    let here : b.ip ≡ ip = same_ip b.ip ip e in
    let ports = parts.0.0 in
    (sorted, ((((here, ports.0), (names_behind b ip (x ∷ xs) here ports.0 (front b (x ∷ xs) (all_ports groups) before), ports.1)), omega arith), parts.1), refl)
joined_by b x ip xs groups Less e sorted parts before =
    (((e, ips_behind b.ip ip (keys_of groups) e sorted.0), sorted), (single b, parts), refl)
joined_by b x ip xs groups Greater e sorted parts before =
    let above : ip_cmp b.ip x.ip ≡ Greater = ap (ip_cmp b.ip) parts.0.0.0.0 ∙ e in
    absurd (let h : Greater ≡ Less = sym (ap (λ (o : Ordering). ordering_then o (slice_cmp nat_cmp b.port_name x.port_name)) above) ∙ before.0 in cc)

joined : (b : BackendPort) (groups : List Group) → IsStrictlySortedBy ip_cmp (keys_of groups) → AllByRecursion IsPart groups → IsBefore b (all_ports groups)
    → AreGroupsOf (b ∷ all_ports groups) (with_backend b groups)
unfolding IsStrictlySortedBy
joined b [] sorted parts before = ((tt, tt), (single b, tt), refl)
joined b ((ip, []) ∷ groups) sorted parts before = absurd (omega (arith, parts.0.1))
joined b ((ip, x ∷ xs) ∷ groups) sorted parts before = joined_by b x ip xs groups (ip_cmp b.ip ip) refl sorted parts before

pub grouped : (backends : List BackendPort) → AreInOrder backends → AreGroupsOf backends (by_address backends)
unfolding IsStrictlySortedBy
grouped [] h = (tt, tt, refl)
grouped (b ∷ bs) h =
    let rest : AreGroupsOf bs (by_address bs) = grouped bs h.1 in
    let all : AreGroupsOf (b ∷ all_ports (by_address bs)) (by_address (b ∷ bs)) =
    joined b (by_address bs) rest.0 rest.1 (subst (IsBefore b) (sym rest.2) h.0) in
    subst (λ (backends : List BackendPort). AreGroupsOf (b ∷ backends) (by_address (b ∷ bs))) rest.2 all

-- ---- the first address, and the others

other_by : (b c : BackendPort) (cs : List BackendPort) (o : Ordering) (r : Ordering) → ip_cmp b.ip c.ip ≡ o → ip_cmp c.ip b.ip ≡ r → is_eq o ≡ false → is_eq r ≡ false
    → by_address (c ∷ cs) ≡ (c.ip, c ∷ take (same_address c.ip cs) cs) ∷ by_address (drop (same_address c.ip cs) cs)
    → by_address (b ∷ c ∷ cs) ≡ (b.ip, b ∷ take (same_address b.ip (c ∷ cs)) (c ∷ cs)) ∷ by_address (drop (same_address b.ip (c ∷ cs)) (c ∷ cs))
other_by b c cs o r e turned apart apart2 rest =
    ap (with_backend b) rest
    ∙ ap (λ (t : Bool). cond t ((c.ip, b ∷ c ∷ take (same_address c.ip cs) cs) ∷ by_address (drop (same_address c.ip cs) cs)) ((b.ip, b ∷ []) ∷ (c.ip, c ∷ take (same_address c.ip cs) cs) ∷ by_address (drop (same_address c.ip cs) cs))) (ap is_eq e ∙ apart)
    ∙ ap (λ (groups : List Group). (b.ip, b ∷ []) ∷ groups) (sym rest)
    ∙ sym (ap (λ (t : Bool). (b.ip, b ∷ take (cond t (suc (same_address b.ip cs)) 0) (c ∷ cs)) ∷ by_address (drop (cond t (suc (same_address b.ip cs)) 0) (c ∷ cs))) (ap is_eq turned ∙ apart2))

first_by : (b c : BackendPort) (cs : List BackendPort) (o : Ordering) → ip_cmp b.ip c.ip ≡ o
    → by_address (c ∷ cs) ≡ (c.ip, c ∷ take (same_address c.ip cs) cs) ∷ by_address (drop (same_address c.ip cs) cs)
    → by_address (b ∷ c ∷ cs) ≡ (b.ip, b ∷ take (same_address b.ip (c ∷ cs)) (c ∷ cs)) ∷ by_address (drop (same_address b.ip (c ∷ cs)) (c ∷ cs))
first_by b c cs Equal e rest =
    let here : b.ip ≡ c.ip = same_ip b.ip c.ip e in
    let turned : ip_cmp c.ip b.ip ≡ Equal = ap (λ (a : Ip). ip_cmp a b.ip) (sym here) ∙ tied_ip b.ip in
    ap (with_backend b) rest
    ∙ ap (λ (o : Ordering). cond (is_eq o) ((c.ip, b ∷ c ∷ take (same_address c.ip cs) cs) ∷ by_address (drop (same_address c.ip cs) cs)) ((b.ip, b ∷ []) ∷ (c.ip, c ∷ take (same_address c.ip cs) cs) ∷ by_address (drop (same_address c.ip cs) cs))) e
    ∙ ap (λ (a : Ip). (a, b ∷ c ∷ take (same_address a cs) cs) ∷ by_address (drop (same_address a cs) cs)) (sym here)
    ∙ sym (ap (λ (o : Ordering). (b.ip, b ∷ take (cond (is_eq o) (suc (same_address b.ip cs)) 0) (c ∷ cs)) ∷ by_address (drop (cond (is_eq o) (suc (same_address b.ip cs)) 0) (c ∷ cs))) turned)
first_by b c cs Less e rest = other_by b c cs Less Greater e (ip_total.antisymm c.ip b.ip ∙ ap ordering_reverse e) refl refl rest
first_by b c cs Greater e rest = other_by b c cs Greater Less e (ip_total.antisymm c.ip b.ip ∙ ap ordering_reverse e) refl refl rest

first_group : (b : BackendPort) (bs : List BackendPort) → by_address (b ∷ bs) ≡ (b.ip, b ∷ take (same_address b.ip bs) bs) ∷ by_address (drop (same_address b.ip bs) bs)
first_group b [] = refl
first_group b (c ∷ cs) = first_by b c cs (ip_cmp b.ip c.ip) refl (first_group c cs)

-- the backends at the front that are of the first one's address are its group
pub front_group : (b : BackendPort) (bs : List BackendPort)
    → by_address (b ∷ bs) ≡ (b.ip, take (same_address b.ip (b ∷ bs)) (b ∷ bs)) ∷ by_address (drop (same_address b.ip (b ∷ bs)) (b ∷ bs))
front_group b bs =
    first_group b bs
    ∙ sym (ap (λ (o : Ordering). (b.ip, take (cond (is_eq o) (suc (same_address b.ip bs)) 0) (b ∷ bs)) ∷ by_address (drop (cond (is_eq o) (suc (same_address b.ip bs)) 0) (b ∷ bs))) (tied_ip b.ip))

abbrev or_some : BackendPort → Option BackendPort → BackendPort
or_some d None = d
or_some d (Some b) = b

-- the same, where the first one is what stands at the front
pub first_is_front : (rest : List BackendPort) (b : BackendPort) → Some b ≡ slice_get rest 0
    → by_address rest ≡ (b.ip, take (same_address b.ip rest) rest) ∷ by_address (drop (same_address b.ip rest) rest)
first_is_front [] b e = absurd (let h = e in cc)
first_is_front (c ∷ cs) b e =
    let is : b ≡ c = ap (or_some b) e in
    subst (λ (x : BackendPort). by_address (c ∷ cs) ≡ (x.ip, take (same_address x.ip (c ∷ cs)) (c ∷ cs)) ∷ by_address (drop (same_address x.ip (c ∷ cs)) (c ∷ cs))) (sym is) (front_group c cs)

within_by : (t : Bool) (n m : ℕ) → n ≤ m → cond t (suc n) 0 ≤ suc m
within_by true n m h = omega (arith, h)
within_by false n m h = omega arith

pub same_address-within : (ip : Ip) (backends : List BackendPort) → same_address ip backends ≤ length backends
same_address-within ip [] = omega arith
same_address-within ip (b ∷ bs) = within_by (is_eq (ip_cmp b.ip ip)) (same_address ip bs) (length bs) (same_address-within ip bs)

pub split_all : (P : BackendPort → Type 0) (n : ℕ) (backends : List BackendPort) → AllByRecursion P (take n backends) → AllByRecursion P (drop n backends) → AllByRecursion P backends
split_all P n backends h k = subst (AllByRecursion P) (take-append-drop n backends) (append_all P (take n backends) (drop n backends) h k)

pub nothing_left : (rest : List BackendPort) → None ≡ slice_get rest 0 → rest ≡ []
nothing_left [] e = refl
nothing_left (b ∷ bs) e = absurd (let h = e in cc)

-- the ports of the first address are put among the members
pub one_more_address : (members new : Members) (rest ports others : List BackendPort) (b : BackendPort) (n : ℕ) (key : List ℕ) (tree : Data)
    → Some b ≡ slice_get rest 0 → n ≡ same_address b.ip rest → ports ≡ take n rest → others ≡ drop n rest → key ≡ address_text b.ip
    → tree ≡ object_of (map named_port ports) → new ≡ put key tree members
    → put_all new (map ports_under_address (by_address others)) ≡ put_all members (map ports_under_address (by_address rest))
one_more_address members new rest ports others b n key tree first many front back is text put_in =
    put_in_by ∙ sym (ap (λ (groups : List Group). put_all members (map ports_under_address groups)) (first_is_front rest b first))
  where
    put_in_by : put_all new (map ports_under_address (by_address others))
        ≡ put_all (put (address_text b.ip) (object_of (map named_port (take (same_address b.ip rest) rest))) members) (map ports_under_address (by_address (drop (same_address b.ip rest) rest)))
    put_in_by = rw (put_in, text, is, front, back, many) refl
