use Rattle.std.proofs.Common.{◌≡◌, ◌++◌, length, take}
use Rattle.mesh_reader.specs.Scanning.{rest_numerals, SameLine}
use Rattle.mesh_reader.proofs.scan.Rest.exactly.Given as goal

abbrev pub invariant-loop-word : goal.invariant-loop-word
invariant-loop-word g l = record {
  same : SameLine l.initial.self l.self;
  size : length l.word-items ≡ g.row.N;
  read : rest_numerals l.initial.self ≡ take l.word-index l.word-items ++ rest_numerals l.self;
}
