-- What the constructor of the grid answers.
use Rattle.std.specs.Prelude.{◌≡◌, ℕ, ◌+◌, ◌≤◌, true, false, List, Ok, Err, Result}
use Rattle.mesh_stream.specs.declared.event.Event.{Event}
use Rattle.mesh_stream.specs.declared.fault.Refusal.{Refusal}
use Rattle.mesh_stream.specs.declared.fault.Refusal.TheVariants.{SettingNotAllowed}
use Rattle.mesh_stream.specs.Numbers.{refusal_number}
use Rattle.mesh_stream.specs.Live.{width}
use Rattle.mesh_stream.specs.Meaning.{Mark, Meaning, Port, textless}
use Rattle.mesh_bottoms.specs.declared.grid.Grid.{Grid}
use Rattle.mesh_bottoms.specs.Gridding.{grid_allowed, grid}

-- The meaning and the port of grids, and the settings: w columns, h rows and step s.
module _ (meaning : Grid → Meaning Event) (port : Grid → Port) (w h s : ℕ) where
  pub record Gridded (g : Grid) : Type 0 where
    pub allowed : grid_allowed w h s ≡ true
    pub means : (t : List ℕ) (m : Mark) → meaning g t m ≡ grid w h s
    pub no_text : port g ≡ textless
    pub narrow : width (grid w h s).items ≤ w + 2

  pub record NotAllowed (e : Refusal) : Type 0 where
    pub not_allowed : grid_allowed w h s ≡ false
    pub why : e ≡ SettingNotAllowed
    pub number : refusal_number e ≡ 15

  abbrev pub Made : Result Grid Refusal → Type 0
  Made (Ok g) = Gridded g
  Made (Err e) = NotAllowed e
