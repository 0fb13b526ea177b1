use Rattle.std.proofs.Common.{◌≡◌, codes, map, take}
use Rattle.mesh_text.specs.declared.ip.Ip.{Ip}
use Rattle.mesh_remote.proofs.declaring.internal_addresses.Given as goal

abbrev pub invariant-loop-ip : goal.invariant-loop-ip
invariant-loop-ip l = l.items ≡ map (λ (ip : Ip). (codes "InternalIP", ip)) (take l.ip-index l.addresses)
