-- Worked examples of the spelling.
use Rattle.std.specs.Prelude.{◌≡◌, pos, negsuc, codes}
use Rattle.mesh_stream.specs.declared.fault.Cause.TheVariants.{CornerNotLive}
use Rattle.mesh_stream.specs.declared.fault.LayerName.TheVariants.{Renumber}
use Rattle.mesh_stream.specs.declared.stage.Standing.TheVariants.{Waiting, Ended, Faulty}
use Rattle.mesh_report.specs.Spelling.{report_text}

pub record SpellingExamples : Type 0 where
  pub nothing : report_text (record { vertices = 0; triangles = 0; finalized = 0; width = 0; area = pos 0 }) Ended
      ≡ codes "vertices 0\ntriangles 0\nfinalized 0\nwidth 0\narea 0\nend ok\n"
  -- zeros inside and at the end of numbers, and the largest area
  pub largest_area : report_text (record { vertices = 10; triangles = 1000000007; finalized = 4294967295; width = 100; area = pos 9223372036854775807 }) Waiting
      ≡ codes "vertices 10\ntriangles 1000000007\nfinalized 4294967295\nwidth 100\narea 9223372036854775807\nend open\n"
  pub smallest_area : report_text (record { vertices = 9; triangles = 99; finalized = 101; width = 1; area = negsuc 9223372036854775807 }) (Faulty (record { layer = Renumber; cause = CornerNotLive; place = 4294967295 }))
      ≡ codes "vertices 9\ntriangles 99\nfinalized 101\nwidth 1\narea -9223372036854775808\nfault renumber 10 4294967295\n"
