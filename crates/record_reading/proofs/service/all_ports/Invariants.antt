use Rattle.std.proofs.Common.{◌≡◌, ◌++◌, List}
use Rattle.std.specs.List.{flat_map}
use Rattle.mesh_text.specs.declared.ip.Ip.{Ip}
use Rattle.record_values.specs.Values.{BackendPort}
use Rattle.record_reading.proofs.service.all_ports.Given as goal

-- the ports so far and those of the rest are all ports
abbrev pub invariant-loop-ports : goal.invariant-loop-ports
invariant-loop-ports l = l.backends.items ++ flat_map (λ (a : Ip × List BackendPort). a.1) l.ports-iterator ≡ flat_map (λ (a : Ip × List BackendPort). a.1) l.fn.addresses.entries
