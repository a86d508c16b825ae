use Rattle.std.proofs.Common.{◌≡◌, ◌-◌, ◌^◌, ◌<◌}
use Rattle.mesh_reader.specs.Scanning.{leading}
use Rattle.mesh_reader.proofs.scan.Rest.digits.Given as goal

abbrev pub invariant-loop : goal.invariant-loop
invariant-loop l = (leading (l.most - l.counter) l.value l.rest ≡ leading l.most 0 l.initial.rest) × (l.value < 10 ^ l.counter)
