use Rattle.std.proofs.Common.{◌≡◌, ℕ, Bool, length}
use Rattle.mesh_reader.specs.Scanning.{behind, IsTest}
use Rattle.mesh_reader.proofs.scan.Rest.skip_to.Given as goal

abbrev pub invariant-loop-bytes : goal.invariant-loop-bytes
invariant-loop-bytes g l = (kind : ℕ → Bool) → IsTest (goal.F-post g l.stops) kind → behind kind l.bytes ≡ behind kind l.initial.bytes

abbrev pub decreases-loop-bytes : goal.decreases-loop-bytes
decreases-loop-bytes g l = length l.bytes
