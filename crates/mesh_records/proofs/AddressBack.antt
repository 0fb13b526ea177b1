-- An address record that was written is read back.
use Rattle.std.proofs.Common.{◌≡◌, ℕ, ◌<◌, ◌≤◌, ◌^◌, lit≤, true, false, List, [], ◌∷◌, Option, None, Some, Ok, option_map, refl, sym, ◌∙◌, arith, nat_lt, length, codes, IfSome}
use Rattle.std.proofs.lemmas.Bool.{lt-ltb}
use Rattle.serde_json.specs.Data.{Data, string, depth}
use Rattle.serde_json.specs.Written.{has_float}
use Rattle.serde_json.specs.Find.{get}
use Rattle.mesh_text.specs.declared.ip.Ip.{Ip}
use Rattle.mesh_text.specs.Numbers.{number_of}
use Rattle.mesh_text.specs.Addresses.{address_of, address_text, ipv4_of, ipv6_of}
use Rattle.record_values.specs.Values.{Address}
use Rattle.record_reading.specs.Forms.{optional, some_text, some_address, address_or_empty}
use Rattle.record_reading.specs.Address.{address_record_of}
use Rattle.mesh_records.specs.Trees.{address_tree, address_string, whole}

no_empty_address : address_of [] ≡ None
unfolding address_of ipv4_of ipv6_of number_of
no_empty_address = refl

some_text_back : (field : List ℕ) (t : Option (List ℕ)) → IfSome t (λ s. 0 < length s) → optional some_text None field (option_map string t) ≡ Ok t
some_text_back field None h = refl
some_text_back field (Some []) h = absurd (omega (arith, h))
some_text_back field (Some (b ∷ bs)) h = refl

or_empty_back : (field text : List ℕ) (ip : Ip) → address_of text ≡ Some ip → address_or_empty field text ≡ Ok (Some ip)
or_empty_back field [] ip e = absurd (let f : None ≡ Some ip = sym no_empty_address ∙ e in cc)
or_empty_back field (b ∷ bs) ip e = rw e refl

some_address_back : (field : List ℕ) (h : Option Ip) → IfSome h (λ ip. address_of (address_text ip) ≡ Some ip) → optional some_address None field (option_map address_string h) ≡ Ok h
some_address_back field None h = refl
some_address_back field (Some ip) h = or_empty_back field (address_text ip) ip h

record Members (d : Data) (a : Address) : Type 0 where
  ip : get (codes "IP") d ≡ Some (address_string a.ip)
  mask : get (codes "Mask") d ≡ None
  host : get (codes "HostIP") d ≡ option_map address_string a.host
  id : get (codes "ID") d ≡ Some (whole a.id)
  namespace : get (codes "K8sNamespace") d ≡ option_map string a.namespace
  pod : get (codes "K8sPodName") d ≡ option_map string a.pod

members : (ip : Ip) (host : Option Ip) (id : ℕ) (namespace pod : Option (List ℕ))
    → let a : Address = record { ip = ip; host = host; id = id; namespace = namespace; pod = pod } in Members (address_tree a) a
unfolding address_tree
members ip None id None None = record { ip = refl; mask = refl; host = refl; id = refl; namespace = refl; pod = refl }
members ip None id None (Some p) = record { ip = refl; mask = refl; host = refl; id = refl; namespace = refl; pod = refl }
members ip None id (Some n) None = record { ip = refl; mask = refl; host = refl; id = refl; namespace = refl; pod = refl }
members ip None id (Some n) (Some p) = record { ip = refl; mask = refl; host = refl; id = refl; namespace = refl; pod = refl }
members ip (Some h) id None None = record { ip = refl; mask = refl; host = refl; id = refl; namespace = refl; pod = refl }
members ip (Some h) id None (Some p) = record { ip = refl; mask = refl; host = refl; id = refl; namespace = refl; pod = refl }
members ip (Some h) id (Some n) None = record { ip = refl; mask = refl; host = refl; id = refl; namespace = refl; pod = refl }
members ip (Some h) id (Some n) (Some p) = record { ip = refl; mask = refl; host = refl; id = refl; namespace = refl; pod = refl }

fields_back : (d : Data) (a : Address) → Members d a → address_of (address_text a.ip) ≡ Some a.ip → IfSome a.host (λ ip. address_of (address_text ip) ≡ Some ip)
    → a.id < 2 ^ 32 → IfSome a.namespace (λ t. 0 < length t) → IfSome a.pod (λ t. 0 < length t) → address_record_of d ≡ Ok a
unfolding address_record_of
fields_back d a m ip host id namespace pod =
    let fits : nat_lt a.id (2 ^ 32) ≡ true = lt-ltb a.id (2 ^ 32) id in
    rw (
      m.ip,
      m.mask,
      m.host,
      m.id,
      m.namespace,
      m.pod,
      ip,
      some_address_back (codes "HostIP") a.host host,
      fits,
      some_text_back (codes "K8sNamespace") a.namespace namespace,
      some_text_back (codes "K8sPodName") a.pod pod,
    ) refl

pub address_reads_back : (a : Address) → address_of (address_text a.ip) ≡ Some a.ip → IfSome a.host (λ ip. address_of (address_text ip) ≡ Some ip)
    → a.id < 2 ^ 32 → IfSome a.namespace (λ t. 0 < length t) → IfSome a.pod (λ t. 0 < length t) → address_record_of (address_tree a) ≡ Ok a
address_reads_back a ip host id namespace pod = fields_back (address_tree a) a (members a.ip a.host a.id a.namespace a.pod) ip host id namespace pod

-- the tree has no float, and is flat
pub no_float : (ip : Ip) (host : Option Ip) (id : ℕ) (namespace pod : Option (List ℕ)) → has_float (address_tree (record { ip = ip; host = host; id = id; namespace = namespace; pod = pod })) ≡ false
unfolding address_tree
no_float ip None id None None = refl
no_float ip None id None (Some p) = refl
no_float ip None id (Some n) None = refl
no_float ip None id (Some n) (Some p) = refl
no_float ip (Some h) id None None = refl
no_float ip (Some h) id None (Some p) = refl
no_float ip (Some h) id (Some n) None = refl
no_float ip (Some h) id (Some n) (Some p) = refl

pub shallow : (ip : Ip) (host : Option Ip) (id : ℕ) (namespace pod : Option (List ℕ)) → depth (address_tree (record { ip = ip; host = host; id = id; namespace = namespace; pod = pod })) ≤ 127
unfolding address_tree
shallow ip None id None None = lit≤ tt
shallow ip None id None (Some p) = lit≤ tt
shallow ip None id (Some n) None = lit≤ tt
shallow ip None id (Some n) (Some p) = lit≤ tt
shallow ip (Some h) id None None = lit≤ tt
shallow ip (Some h) id None (Some p) = lit≤ tt
shallow ip (Some h) id (Some n) None = lit≤ tt
shallow ip (Some h) id (Some n) (Some p) = lit≤ tt
