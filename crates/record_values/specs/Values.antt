-- What a value says, as plain data: the types of the public surface stand for these.
use Rattle.std.specs.Prelude.{ℕ, List, Bool, Option}
use Rattle.mesh_text.specs.declared.ip.Ip.{Ip}

-- a cluster's config: its number, whether it puts marks, whether it is a copy, and how many clusters the mesh may have
pub record Config : Type 0 where
  pub id : ℕ
  pub synced_canaries : Bool
  pub cached : Bool
  pub max_connected : ℕ

-- an address of the mesh: its host's address, its identity's number, and its pod by namespace and name
pub record Address : Type 0 where
  pub ip : Ip
  pub host : Option Ip
  pub id : ℕ
  pub namespace : Option (List ℕ)
  pub pod : Option (List ℕ)

-- a label of an identity
pub record LabelText : Type 0 where
  pub source : List ℕ
  pub key : List ℕ
  pub value : List ℕ

-- a backend of a service: a port of an address
pub record BackendPort : Type 0 where
  pub ip : Ip
  pub port : ℕ
  pub protocol : List ℕ
  pub port_name : List ℕ

-- a service with the backends that its cluster gives it
pub record Service : Type 0 where
  pub cluster : List ℕ
  pub namespace : List ℕ
  pub name : List ℕ
  pub cluster_id : ℕ
  pub backends : List BackendPort
  pub shared : Bool
