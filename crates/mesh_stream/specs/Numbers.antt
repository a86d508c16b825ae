-- The number of each cause and refusal, and the word of each layer, as they are reported.
use Rattle.std.specs.Prelude.{ℕ, List, codes}
use Rattle.mesh_stream.specs.declared.fault.Cause.{Cause}
use Rattle.mesh_stream.specs.declared.fault.Cause.TheVariants.{LineTooLong, UnknownWord, WordCount, NotANumber, OutOfRange, TooManyLines, NotRising, TooManyLive, CornerNotLive, NotLive, LeftLive, TooManyTriangles, TooManyOpenEdges}
use Rattle.mesh_stream.specs.declared.fault.Refusal.{Refusal}
use Rattle.mesh_stream.specs.declared.fault.Refusal.TheVariants.{InletClosed, SettingNotAllowed, BufferTooSmall}
use Rattle.mesh_stream.specs.declared.fault.LayerName.{LayerName}
use Rattle.mesh_stream.specs.declared.fault.LayerName.TheVariants.{Reader, Check, Clean, Clip, Compact, Renumber, Border, Report}

abbrev pub cause_number : Cause → ℕ
cause_number LineTooLong = 2
cause_number UnknownWord = 3
cause_number WordCount = 4
cause_number NotANumber = 5
cause_number OutOfRange = 6
cause_number TooManyLines = 7
cause_number NotRising = 8
cause_number TooManyLive = 9
cause_number CornerNotLive = 10
cause_number NotLive = 11
cause_number LeftLive = 12
cause_number TooManyTriangles = 13
cause_number TooManyOpenEdges = 14

abbrev pub refusal_number : Refusal → ℕ
refusal_number InletClosed = 1
refusal_number SettingNotAllowed = 15
refusal_number BufferTooSmall = 16

abbrev pub layer_word : LayerName → List ℕ
layer_word Reader = codes "reader"
layer_word Check = codes "check"
layer_word Clean = codes "clean"
layer_word Clip = codes "clip"
layer_word Compact = codes "compact"
layer_word Renumber = codes "renumber"
layer_word Border = codes "border"
layer_word Report = codes "report"
