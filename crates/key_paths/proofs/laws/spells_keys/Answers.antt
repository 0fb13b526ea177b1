use Rattle.key_paths.proofs.CallerLemmas.{key_bytes-config, key_bytes-cut, key_bytes-mark, key_bytes-node, key_bytes-service, key_bytes-identity, key_bytes-cached_identity, key_bytes-address, key_bytes-cached_address}
use Rattle.key_paths.proofs.laws.spells_keys.Goals as goal

pub returns : goal.returns
returns c cluster = record {
  config = key_bytes-config cluster;
  cut = key_bytes-cut cluster;
  mark = key_bytes-mark cluster;
  node = λ hop node. key_bytes-node hop cluster node;
  service = λ hop namespace name. key_bytes-service hop cluster namespace name;
  identity = key_bytes-identity cluster;
  cached_identity = key_bytes-cached_identity cluster;
  address = key_bytes-address cluster;
  cached_address = key_bytes-cached_address cluster;
}
