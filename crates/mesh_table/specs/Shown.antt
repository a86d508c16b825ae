-- How it is shown why a record is not taken in.
use Rattle.std.specs.Prelude.{ℕ, List, codes}
use Rattle.mesh_table.specs.declared.table.InsertError.{InsertError}
use Rattle.mesh_table.specs.declared.table.InsertError.TheVariants.{KeyPresent, AtLimit}

abbrev pub insert_error_text : InsertError → List ℕ
insert_error_text KeyPresent = codes "the key has a record"
insert_error_text AtLimit = codes "the table is at its limit"
