-- Addresses that were written in the order of their texts are read back in their own order.
use Rattle.std.proofs.Common.{◌≡◌, Bool, true, false, List, [], ◌∷◌, ◌++◌, map, Option, None, Some, cond, Ok, Ordering, Less, Equal, Greater, nat_cmp, refl, sym, ◌∙◌, ap, subst, append_assoc, append-nil}
use Rattle.std.specs.List.{AllByRecursion}
use Rattle.std.specs.List.Sorted.{IsStrictlySortedBy}
use Rattle.std.specs.Map.{keys_of, lookup}
use Rattle.std.specs.BTreeMap.{insert_entry, is_at}
use Rattle.std.specs.Ordering.{eq_by_cmp, is_eq, match_ordering, ordering_reverse}
use Rattle.std.specs.Cmp.Lexicographic.{slice_cmp}
use Rattle.std.specs.FinMap.{FinMap, entries, entries-from_sorted, entries-insert, from_sorted, find, get, get-entries, get-from_sorted, get-insert, insert, put as put_entry, same_map, slice_cmp-IsAntisymmetric, nat_cmp-IsAntisymmetric}
use Rattle.std.specs.FinMap.Entries.{by_order}
use Rattle.serde_json.specs.Data.{Data, Members, member, no_members, put}
use Rattle.mesh_text.specs.declared.ip.Ip.{Ip}
use Rattle.mesh_text.specs.Laws.{ip_cmp}
use Rattle.mesh_text.specs.Addresses.{address_of, address_text}
use Rattle.record_values.specs.Values.{BackendPort}
use Rattle.record_reading.specs.Service.{addresses_of, ports_of}
use Rattle.mesh_records.specs.Trees.{named_port, object_of, ports_under_address, put_all}
use Rattle.record_reading.proofs.Orders.{Group, same_ip, tied_ip}
use Rattle.mesh_records.proofs.AddressGroups.{ip_total}

abbrev Ports : Type 0
Ports = FinMap ip_cmp (List BackendPort)

-- ---- the map's own insertion is that of a finite map

put_is_insert : (es : List Group) (ip : Ip) (ports : List BackendPort) → insert_entry ip_cmp es ip ports ≡ put_entry ip_cmp ip ports es
put_is_insert [] ip ports = refl
put_is_insert (e ∷ es) ip ports = by (ip_cmp ip e.0) (put_is_insert es ip ports)
  where
    by : (o : Ordering) → insert_entry ip_cmp es ip ports ≡ put_entry ip_cmp ip ports es
        → match_ordering o ((ip, ports) ∷ e ∷ es) ((e.0, ports) ∷ es) (e ∷ insert_entry ip_cmp es ip ports) ≡ by_order o ((ip, ports) ∷ e ∷ es) ((e.0, ports) ∷ es) (e ∷ put_entry ip_cmp ip ports es)
    by Less h = refl
    by Equal h = refl
    by Greater h = ap (λ (others : List Group). e ∷ others) h

lookup_is_find : (ip : Ip) (es : List Group) → lookup (is_at (ip_cmp ip)) es ≡ find ip_cmp ip es
lookup_is_find ip [] = refl
lookup_is_find ip (e ∷ es) = ap (cond (is_eq (ip_cmp ip e.0)) (Some e.1)) (lookup_is_find ip es)

inserted : (m : Ports) (ip : Ip) (ports : List BackendPort) → insert_entry ip_cmp (entries m) ip ports ≡ entries (insert m ip ports)
inserted m ip ports = put_is_insert (entries m) ip ports ∙ sym (entries-insert ip_total m ip ports)

-- ---- two addresses that differ can be put in in either order

-- their texts differ, and so do they
abbrev pub AreApart : Group → Group → Type 0
AreApart g h = address_text g.0 ≡ address_text h.0 → ⊥

apart_ips : (g h : Group) → AreApart g h → eq_by_cmp ip_cmp g.0 h.0 ≡ false
apart_ips g h apart = by (ip_cmp g.0 h.0) refl
  where
    by : (o : Ordering) → ip_cmp g.0 h.0 ≡ o → is_eq o ≡ false
    by Less e = refl
    by Equal e = absurd (apart (ap address_text (same_ip g.0 h.0 e)))
    by Greater e = refl

turned : (g h : Group) → AreApart g h → AreApart h g
turned g h apart = λ e. apart (sym e)

either_way : (a b : Bool) (x y z : Option (List BackendPort)) → (a ≡ true → b ≡ true → ⊥) → cond b y (cond a x z) ≡ cond a x (cond b y z)
either_way true true x y z apart = absurd (apart refl refl)
either_way true false x y z apart = refl
either_way false b x y z apart = refl

equal_ips : (q ip : Ip) → eq_by_cmp ip_cmp q ip ≡ true → q ≡ ip
equal_ips q ip e = by (ip_cmp q ip) refl e
  where
    by : (o : Ordering) → ip_cmp q ip ≡ o → is_eq o ≡ true → q ≡ ip
    by Less h e = absurd (let f = e in cc)
    by Equal h e = same_ip q ip h
    by Greater h e = absurd (let f = e in cc)

commute : (m : Ports) (g h : Group) → AreApart g h → insert (insert m g.0 g.1) h.0 h.1 ≡ insert (insert m h.0 h.1) g.0 g.1
commute m g h apart = same_map ip_total same_ip (insert (insert m g.0 g.1) h.0 h.1) (insert (insert m h.0 h.1) g.0 g.1) alike
  where
    alike : (q : Ip) → get (insert (insert m g.0 g.1) h.0 h.1) q ≡ get (insert (insert m h.0 h.1) g.0 g.1) q
    alike q =
        get-insert ip_total (insert m g.0 g.1) h.0 h.1 q
        ∙ ap (cond (eq_by_cmp ip_cmp q h.0) (Some h.1)) (get-insert ip_total m g.0 g.1 q)
        ∙ either_way (eq_by_cmp ip_cmp q g.0) (eq_by_cmp ip_cmp q h.0) (Some g.1) (Some h.1) (get m q) (λ a b. apart (ap address_text (sym (equal_ips q g.0 a) ∙ equal_ips q h.0 b)))
        ∙ sym (ap (cond (eq_by_cmp ip_cmp q g.0) (Some g.1)) (get-insert ip_total m h.0 h.1 q))
        ∙ sym (get-insert ip_total (insert m h.0 h.1) g.0 g.1 q)

unfound : (m : Ports) (g h : Group) → AreApart h g → get m h.0 ≡ None → get (insert m g.0 g.1) h.0 ≡ None
unfound m g h apart none = get-insert ip_total m g.0 g.1 h.0 ∙ ap (λ (b : Bool). cond b (Some g.1) (get m h.0)) (apart_ips h g apart) ∙ none

-- ---- groups in some order, put into a map

abbrev into : Ports → List Group → Ports
into m [] = m
into m (g ∷ gs) = into (insert m g.0 g.1) gs

-- each is new where it is put in
abbrev AreNew : Ports → List Group → Type 0
AreNew m [] = Unit {0}
AreNew m (g ∷ gs) = (get m g.0 ≡ None) × AreNew (insert m g.0 g.1) gs

abbrev AllApart : Group → List Group → Type 0
AllApart g gs = AllByRecursion (AreApart g) gs

new_behind : (m : Ports) (g : Group) (gs : List Group) → AreNew m gs → AllApart g gs → AreNew (insert m g.0 g.1) gs
new_behind m g [] new apart = tt
new_behind m g (h ∷ hs) new apart =
    (unfound m g h (turned g h apart.0) new.0, subst (λ (n : Ports). AreNew n hs) (commute m h g (turned g h apart.0)) (new_behind (insert m h.0 h.1) g hs new.1 apart.1))

into_behind : (m : Ports) (g : Group) (gs : List Group) → AllApart g gs → into (insert m g.0 g.1) gs ≡ insert (into m gs) g.0 g.1
into_behind m g [] apart = refl
into_behind m g (h ∷ hs) apart = ap (λ (n : Ports). into n hs) (commute m g h apart.0) ∙ into_behind (insert m h.0 h.1) g hs apart.1

-- ---- groups in the order of their texts

abbrev in_place : Group → List Group → List Group
in_place g [] = g ∷ []
in_place g (h ∷ hs) = match_ordering (slice_cmp nat_cmp (address_text g.0) (address_text h.0)) (g ∷ h ∷ hs) (g ∷ hs) (h ∷ in_place g hs)

abbrev tree_of_group : Group → Data
tree_of_group g = object_of (map named_port g.1)

abbrev in_turn : List Group → Members
in_turn [] = no_members
in_turn (g ∷ gs) = member (address_text g.0) (tree_of_group g) (in_turn gs)

put_in_place : (g : Group) (gs : List Group) → AllApart g gs → put (address_text g.0) (tree_of_group g) (in_turn gs) ≡ in_turn (in_place g gs)
put_in_place g [] apart = refl
put_in_place g (h ∷ hs) apart = by (slice_cmp nat_cmp (address_text g.0) (address_text h.0)) refl (put_in_place g hs apart.1)
  where
    by : (o : Ordering) → slice_cmp nat_cmp (address_text g.0) (address_text h.0) ≡ o → put (address_text g.0) (tree_of_group g) (in_turn hs) ≡ in_turn (in_place g hs)
        → match_ordering o (member (address_text g.0) (tree_of_group g) (in_turn (h ∷ hs))) (member (address_text h.0) (tree_of_group g) (in_turn hs)) (member (address_text h.0) (tree_of_group h) (put (address_text g.0) (tree_of_group g) (in_turn hs)))
        ≡ in_turn (match_ordering o (g ∷ h ∷ hs) (g ∷ hs) (h ∷ in_place g hs))
    by Less e rest = refl
    by Equal e rest = absurd (apart.0 (slice_cmp-IsAntisymmetric nat_cmp-IsAntisymmetric _ _ e))
    by Greater e rest = ap (member (address_text h.0) (tree_of_group h)) rest

all_in_place : (P : Group → Type 0) (g : Group) (gs : List Group) → P g → AllByRecursion P gs → AllByRecursion P (in_place g gs)
all_in_place P g [] is all = (is, tt)
all_in_place P g (h ∷ hs) is all = by (slice_cmp nat_cmp (address_text g.0) (address_text h.0)) (all_in_place P g hs is all.1)
  where
    by : (o : Ordering) → AllByRecursion P (in_place g hs) → AllByRecursion P (match_ordering o (g ∷ h ∷ hs) (g ∷ hs) (h ∷ in_place g hs))
    by Less rest = (is, all)
    by Equal rest = (is, all.1)
    by Greater rest = (all.0, rest)

-- a new group, put in its place, is as if it were put in last
abbrev IsPutLast : Ports → Group → List Group → List Group → Type 0
IsPutLast m g gs placed = AreNew m placed × (into m placed ≡ insert (into m gs) g.0 g.1)

placed : (m : Ports) (g : Group) (gs : List Group) → AreNew m gs → get m g.0 ≡ None → AllApart g gs → IsPutLast m g gs (in_place g gs)
placed m g [] new none apart = ((none, tt), refl)
placed m g (h ∷ hs) new none apart =
    by (slice_cmp nat_cmp (address_text g.0) (address_text h.0)) refl (placed (insert m h.0 h.1) g hs new.1 (unfound m h g apart.0 none) apart.1)
  where
    by : (o : Ordering) → slice_cmp nat_cmp (address_text g.0) (address_text h.0) ≡ o → IsPutLast (insert m h.0 h.1) g hs (in_place g hs)
        → IsPutLast m g (h ∷ hs) (match_ordering o (g ∷ h ∷ hs) (g ∷ hs) (h ∷ in_place g hs))
    by Less e rest = ((none, new_behind m g (h ∷ hs) new apart), into_behind m g (h ∷ hs) apart)
    by Equal e rest = absurd (apart.0 (slice_cmp-IsAntisymmetric nat_cmp-IsAntisymmetric _ _ e))
    by Greater e rest = ((new.0, rest.0), rest.1)

-- ---- reading them

-- the address and its ports are read back
abbrev pub IsRead : Group → Type 0
IsRead g = (address_of (address_text g.0) ≡ Some g.0) × (ports_of g.0 (put_all no_members (map named_port g.1)) ≡ Ok g.1)

reads : (m : Ports) (gs : List Group) → AreNew m gs → AllByRecursion IsRead gs → addresses_of (entries m) (in_turn gs) ≡ Ok (entries (into m gs))
reads m [] new read = refl
reads m (g ∷ gs) new read =
    let none : lookup (is_at (ip_cmp g.0)) (entries m) ≡ None = lookup_is_find g.0 (entries m) ∙ sym (get-entries m g.0) ∙ new.0 in
    rw (read.0.0, none, read.0.1) (ap (λ (es : List Group). addresses_of es (in_turn gs)) (inserted m g.0 g.1) ∙ reads (insert m g.0 g.1) gs new.1 read.1)

-- each is apart from those after it
abbrev pub AreDistinct : List Group → Type 0
AreDistinct [] = Unit {0}
AreDistinct (g ∷ gs) = AllApart g gs × AreDistinct gs

abbrev none_of : Ports
none_of = from_sorted []

apart_from_placed : (g : Group) (gs placed_before : List Group) → AllApart g gs → AllByRecursion (λ (h : Group). AllApart h placed_before) gs
    → AllByRecursion (λ (h : Group). AllApart h (in_place g placed_before)) gs
apart_from_placed g [] before apart all = tt
apart_from_placed g (h ∷ hs) before apart all =
    (all_in_place (AreApart h) g before (turned g h apart.0) all.0, apart_from_placed g hs before apart.1 all.1)

no_entries : entries none_of ≡ []
no_entries = entries-from_sorted ip_cmp [] tt

-- groups that are put among those before are read with them
reads_all : (before gs : List Group) → AreNew none_of before → AllByRecursion IsRead before → AllByRecursion IsRead gs → AreDistinct gs
    → AllByRecursion (λ (g : Group). AllApart g before) gs
    → addresses_of (entries none_of) (put_all (in_turn before) (map ports_under_address gs)) ≡ Ok (entries (into (into none_of before) gs))
reads_all before [] new read all distinct apart = reads none_of before new read
reads_all before (g ∷ gs) new read all distinct apart =
    let last : IsPutLast none_of g before (in_place g before) = placed none_of g before new (get-from_sorted ip_cmp [] g.0 tt) apart.0 in
    ap (λ (members : Members). addresses_of (entries none_of) (put_all members (map ports_under_address gs))) (put_in_place g before apart.0)
    ∙ reads_all (in_place g before) gs last.0 (all_in_place IsRead g before all.0 read) all.1 distinct.1 (apart_from_placed g gs before distinct.0 apart.1)
    ∙ ap (λ (m : Ports). Ok (entries (into m gs))) last.1

-- ---- groups in order of their addresses

behind : (es : List Group) (g : Group) → AllByRecursion (λ (e : Group). ip_cmp e.0 g.0 ≡ Less) es → put_entry ip_cmp g.0 g.1 es ≡ es ++ g ∷ []
behind [] g h = refl
behind (e ∷ es) g h =
    let above : ip_cmp g.0 e.0 ≡ Greater = ip_total.antisymm g.0 e.0 ∙ ap ordering_reverse h.0 in
    ap (λ (o : Ordering). by_order o (g ∷ e ∷ es) ((e.0, g.1) ∷ es) (e ∷ put_entry ip_cmp g.0 g.1 es)) above
    ∙ ap (λ (others : List Group). e ∷ others) (behind es g h.1)

before_one : (e : Group) (es : List Group) (g : Group) (gs : List Group) → AllByRecursion (λ (y : Ip). ip_cmp e.0 y ≡ Less) (keys_of (es ++ g ∷ gs)) → ip_cmp e.0 g.0 ≡ Less
before_one e [] g gs h = h.0
before_one e (x ∷ es) g gs h = before_one e es g gs h.1

all_before : (es : List Group) (g : Group) (gs : List Group) → IsStrictlySortedBy ip_cmp (keys_of (es ++ g ∷ gs)) → AllByRecursion (λ (e : Group). ip_cmp e.0 g.0 ≡ Less) es
unfolding IsStrictlySortedBy
all_before [] g gs h = tt
all_before (e ∷ es) g gs h = (before_one e es g gs h.0, all_before es g gs h.1)

sorted_into : (m : Ports) (gs : List Group) → IsStrictlySortedBy ip_cmp (keys_of (entries m ++ gs)) → entries (into m gs) ≡ entries m ++ gs
sorted_into m [] h = sym (append-nil (entries m))
sorted_into m (g ∷ gs) h =
    let again : (entries m ++ g ∷ []) ++ gs ≡ entries m ++ g ∷ gs = append_assoc (entries m) (g ∷ []) gs in
    let last : entries (insert m g.0 g.1) ≡ entries m ++ g ∷ [] = entries-insert ip_total m g.0 g.1 ∙ behind (entries m) g (all_before (entries m) g gs h) in
    let all : entries (insert m g.0 g.1) ++ gs ≡ entries m ++ g ∷ gs = ap (λ (es : List Group). es ++ gs) last ∙ again in
    sorted_into (insert m g.0 g.1) gs (subst (λ (es : List Group). IsStrictlySortedBy ip_cmp (keys_of es)) (sym all) h) ∙ all

abbrev or_ip : Ip → Option Ip → Ip
or_ip d None = d
or_ip d (Some ip) = ip

apart_by : (g h : Group) → IsRead g → IsRead h → ip_cmp g.0 h.0 ≡ Less → AreApart g h
apart_by g h first second less = λ e.
    let same : g.0 ≡ h.0 = ap (or_ip g.0) (sym first.0 ∙ ap address_of e ∙ second.0) in
    let tie : Less ≡ Equal = sym less ∙ ap (λ (ip : Ip). ip_cmp ip h.0) same ∙ tied_ip h.0 in cc

apart_from_all : (g : Group) (gs : List Group) → IsRead g → AllByRecursion IsRead gs → AllByRecursion (λ (y : Ip). ip_cmp g.0 y ≡ Less) (keys_of gs) → AllApart g gs
apart_from_all g [] read all less = tt
apart_from_all g (h ∷ hs) read all less = (apart_by g h read all.0 less.0, apart_from_all g hs read all.1 less.1)

distinct : (gs : List Group) → AllByRecursion IsRead gs → IsStrictlySortedBy ip_cmp (keys_of gs) → AreDistinct gs
unfolding IsStrictlySortedBy
distinct [] all sorted = tt
distinct (g ∷ gs) all sorted = (apart_from_all g gs all.0 all.1 sorted.0, distinct gs all.1 sorted.1)

none_before : (gs : List Group) → AllByRecursion (λ (g : Group). AllApart g []) gs
none_before [] = tt
none_before (g ∷ gs) = (tt, none_before gs)

pub addresses_read_back : (gs : List Group) → IsStrictlySortedBy ip_cmp (keys_of gs) → AllByRecursion IsRead gs
    → addresses_of [] (put_all no_members (map ports_under_address gs)) ≡ Ok gs
addresses_read_back gs sorted all =
    let members : Members = put_all no_members (map ports_under_address gs) in
    let same : entries none_of ++ gs ≡ gs = ap (λ (es : List Group). es ++ gs) no_entries in
    ap (λ (es : List Group). addresses_of es members) (sym no_entries)
    ∙ reads_all [] gs tt tt all (distinct gs all sorted) (none_before gs)
    ∙ ap (λ (es : List Group). Ok es) (sorted_into none_of gs (subst (λ (es : List Group). IsStrictlySortedBy ip_cmp (keys_of es)) (sym same) sorted) ∙ same)
