-- Small meshes, and what is made of them: by the definitions that the contracts of the calls name.
use Rattle.std.specs.Prelude.{◌≡◌, ℕ, true, false, List, [], ◌∷◌, ◌++◌, length, replicate, pos, codes, Ok, Err, Result}
use Rattle.mesh_stream.specs.declared.event.Point.{Point}
use Rattle.mesh_stream.specs.declared.event.Event.{Event}
use Rattle.mesh_stream.specs.declared.event.Event.TheVariants.{Vertex, Triangle, Finalization}
use Rattle.mesh_stream.specs.declared.fault.Cause.TheVariants.{LineTooLong, CornerNotLive, LeftLive}
use Rattle.mesh_stream.specs.declared.fault.LayerName.TheVariants.{Reader, Check}
use Rattle.mesh_stream.specs.declared.stage.Standing.{Standing}
use Rattle.mesh_stream.specs.declared.stage.Standing.TheVariants.{Waiting, Ended}
use Rattle.mesh_stream.specs.Lists.{has}
use Rattle.mesh_stream.specs.Meaning.{Mark, unclosed, closed, Outcome, outcome, open_for}
use Rattle.mesh_stream.specs.Runs.{View, Call, feeds, asks, Run}
use Rattle.mesh_judge.specs.Accepting.{fault}
use Rattle.mesh_reader.specs.Text.{words}
use Rattle.mesh_reader.specs.Reading.{by_words, and_on, at_end, reading}
use Rattle.mesh_bottoms.specs.Gridding.{grid_allowed, grid}
use Rattle.mesh_regions.specs.Boxes.{box_allowed, in_box}
use Rattle.mesh_rules.specs.Piling.{checks, clips, renumbers, through, pile}
use Rattle.mesh_edges.specs.Bordering.{edge, bordered}
use Rattle.mesh_report.specs.Streaming.{report_of}
use Rattle.mesh_piles.specs.Texts.{text_outcome}

abbrev pub at : ℕ → ℕ → ℕ → Point
at x y z = record { x = pos x; y = pos y; z = pos z }

-- What a check layer over a reader gives for a text: at most 1,024 vertices may be live.
abbrev pub checked : List ℕ → Mark → Outcome Event
checked text mark = through 1024 checks (reading text mark)

-- What the program `report` prints for a text, by the contract of its function print_report.
abbrev pub report_on : List ℕ → List ℕ
report_on text = report_of (text_outcome text)

-- A reader as TextReader::new makes it: open with all of its room, and it reads the whole text.
pub record NewReader (v : View Event) : Type 0 where
  pub port : v.port ≡ open_for 4096
  pub means : (t : List ℕ) (m : Mark) → v.means t m ≡ reading t m

-- In every list of calls on a new reader, the three answers of next that it names are these.
abbrev pub Answers : (Result Event Standing → Result Event Standing → Result Event Standing → List (Call Event))
    → Result Event Standing → Result Event Standing → Result Event Standing → Type 0
Answers calls x y z =
    (v w : View Event) (a b c : Result Event Standing) → NewReader v → Run v (calls a b c) w → (a ≡ x) × (b ≡ y) × (c ≡ z)

-- Three pieces of a text, which end inside of words and lines.
abbrev pub piece_1 : List ℕ
piece_1 = codes "v 1 2 "

abbrev pub piece_2 : List ℕ
piece_2 = codes "3\nx"

abbrev pub piece_3 : List ℕ
piece_3 = codes " 1\n"

-- All three are fed before next is asked; or next is asked after each.
abbrev pub asked_at_the_end : Result Event Standing → Result Event Standing → Result Event Standing → List (Call Event)
asked_at_the_end a b c = feeds piece_1 (Ok 6) ∷ feeds piece_2 (Ok 3) ∷ feeds piece_3 (Ok 3) ∷ asks a ∷ asks b ∷ asks c ∷ []

abbrev pub asked_between : Result Event Standing → Result Event Standing → Result Event Standing → List (Call Event)
asked_between a b c = feeds piece_1 (Ok 6) ∷ asks a ∷ feeds piece_2 (Ok 3) ∷ asks b ∷ feeds piece_3 (Ok 3) ∷ asks c ∷ []

-- the lower and the upper corner of a box over the upper row of the grid
abbrev pub low : Point
low = at 0 5 0

abbrev pub high : Point
high = at 10 10 0

pub record SmallMeshes : Type 0 where
  -- The empty text, closed: nothing is read, and it has ended. The report on it has zeros.
  pub empty : reading [] closed ≡ outcome [] Ended
  pub empty_report : report_on [] ≡ codes "vertices 0\ntriangles 0\nfinalized 0\nwidth 0\narea 0\nend ok\n"
  -- A vertex without line end. While the text is open, check gives nothing and waits; once it is closed, check hands the vertex over, and
  -- then finds that vertex 1, of place 1, is left live.
  pub unfinished_open : checked (codes "v 1 2 3") unclosed ≡ outcome [] Waiting
  pub unfinished_closed : checked (codes "v 1 2 3") closed ≡ outcome (Vertex 1 1 (at 1 2 3) ∷ []) (fault Check LeftLive 1)
  -- A text in three pieces, which joined are the lines `v 1 2 3` and `x 1`. A new reader that took the pieces answers as the joined text is
  -- read: vertex 1, then its finalization, and then it waits.
  pub joined : reading (piece_1 ++ (piece_2 ++ piece_3)) unclosed ≡ outcome (Vertex 1 1 (at 1 2 3) ∷ Finalization 2 1 ∷ []) Waiting
  pub in_pieces : Answers asked_at_the_end (Ok (Vertex 1 1 (at 1 2 3))) (Ok (Finalization 2 1)) (Err Waiting)
  -- Asked after each piece, it waits first, and gives the vertex and then the finalization as soon as their lines are there.
  pub piece_by_piece : Answers asked_between (Err Waiting) (Ok (Vertex 1 1 (at 1 2 3))) (Ok (Finalization 2 1))
  -- The grid of two columns and two rows with step 10 may be made, and this is its whole list.
  pub grid_made : grid_allowed 2 2 10 ≡ true
  pub grid_events : grid 2 2 10 ≡ outcome
      (Vertex 1 1 (at 0 0 0) ∷ Vertex 2 2 (at 10 0 0) ∷ Vertex 3 3 (at 0 10 0) ∷ Vertex 4 4 (at 10 10 0)
      ∷ Triangle 5 1 2 4 ∷ Triangle 6 1 4 3
      ∷ Finalization 7 1 ∷ Finalization 8 2 ∷ Finalization 9 3 ∷ Finalization 10 4 ∷ []) Ended
  -- Its border has the four sides, each with the place of its triangle. At most 4,096 edges may be open.
  pub grid_border : bordered 1024 4096 (grid 2 2 10) ≡ outcome (edge 5 1 2 ∷ edge 6 3 1 ∷ edge 5 2 4 ∷ edge 6 4 3 ∷ []) Ended
  -- The box may be made. Clipped to it and renumbered, the grid keeps its upper row, whose vertices are 1 and 2 then.
  pub box_made : box_allowed low high ≡ true
  pub grid_clipped : pile 1024 (clips (in_box low high) ∷ renumbers ∷ []) (grid 2 2 10) ≡ outcome
      (Vertex 3 1 (at 0 10 0) ∷ Vertex 4 2 (at 10 10 0) ∷ Finalization 9 1 ∷ Finalization 10 2 ∷ []) Ended
  -- A triangle whose corner is not live any more. Check gives what stands before it, and the fault is at its place. The report says so
  -- too; it counts no vertex, since compact hands over none that no triangle names.
  pub not_live : checked (codes "v 0 0 0\nx 1\nf 1 1 1\n") closed
      ≡ outcome (Vertex 1 1 (at 0 0 0) ∷ Finalization 2 1 ∷ []) (fault Check CornerNotLive 3)
  pub not_live_report : report_on (codes "v 0 0 0\nx 1\nf 1 1 1\n")
      ≡ codes "vertices 0\ntriangles 0\nfinalized 0\nwidth 0\narea 0\nfault check 10 3\n"
  -- 127 bytes and a line end are a line: it holds what its words say, here a finalization with blanks behind it. 128 bytes without a line
  -- end are at fault, though the text is open.
  pub longest_line : (line : List ℕ) (m : Mark) → length line ≡ 127 → has 10 line ≡ false
      → reading (line ++ (10 ∷ [])) m ≡ and_on 1 1 (by_words 1 1 (words line)) (λ next. outcome [] (at_end m))
  pub longest_finalization : reading (codes "x 1" ++ (replicate 124 32 ++ (10 ∷ []))) unclosed ≡ outcome (Finalization 1 1 ∷ []) Waiting
  pub too_long : (line : List ℕ) → length line ≡ 128 → has 10 line ≡ false → reading line unclosed ≡ outcome [] (fault Reader LineTooLong 1)
  -- A tile of two triangles and four vertices. The report counts neither the triangle that names a corner twice nor the vertex that no
  -- triangle names.
  pub tile_report : report_on (codes "# tile\nv 0 0 0\nv 10 0 0\nv 10 10 0\nv 5 5 5\nf 1 2 3\nf 1 1 2\nx 1\nx 2\nx 3\nx 4\n")
      ≡ codes "vertices 3\ntriangles 1\nfinalized 3\nwidth 3\narea 100\nend ok\n"
