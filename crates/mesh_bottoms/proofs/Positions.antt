-- From position to position of the grid.
use Rattle.std.proofs.Common.{◌≡◌, ℕ, ◌+◌, ◌-◌, ◌<◌, ◌≤◌, List, ◌++◌, sym, ap, ◌∙◌, append_assoc, arith}
use Rattle.std.specs.List.{flat_map, range_with_len}
use Rattle.std.proofs.iter.Rest.{range_with_len_first, range_with_len_none}
use Rattle.mesh_stream.specs.declared.event.Event.{Event}
use Rattle.mesh_stream.specs.declared.stage.Standing.TheVariants.{Ended}
use Rattle.mesh_stream.specs.Meaning.{outcome}
use Rattle.mesh_bottoms.specs.Placing.{in_places}
use Rattle.mesh_bottoms.specs.Gridding.{grid_at, grid_row, grid}
use Rattle.mesh_bottoms.specs.Walking.{row_from, rows_from}

module _ (w h s : ℕ) where
  -- the position and what comes behind it
  pub whole : (r c : ℕ) → c < w → grid_at w h s r c ++ (row_from w h s r (c + 1) ++ rows_from w h s (r + 1)) ≡ row_from w h s r c ++ rows_from w h s (r + 1)
  whole r c l = rw (range_with_len_first c w l) (sym (append_assoc (grid_at w h s r c) _ _))

  row_start : (r : ℕ) → 1 ≤ w → r < h → grid_at w h s r 0 ++ (row_from w h s r 1 ++ rows_from w h s (r + 1)) ≡ rows_from w h s r
  row_start r l k = let e : w - 0 ≡ w = omega arith in whole r 0 l ∙ rw (e, range_with_len_first r h k)

  pub next_row : (r c : ℕ) → 1 ≤ w → w ≤ c + 1 → r + 1 < h
      → grid_at w h s (r + 1) 0 ++ (row_from w h s (r + 1) 1 ++ rows_from w h s (r + 1 + 1)) ≡ row_from w h s r (c + 1) ++ rows_from w h s (r + 1)
  next_row r c k l m = rw (range_with_len_none (c + 1) w l) (row_start (r + 1) k m)

  -- from the first position on it is the whole grid
  pub all_left : 1 ≤ w → 1 ≤ h → outcome (in_places 1 (grid_at w h s 0 0 ++ (row_from w h s 0 1 ++ rows_from w h s 1))) Ended ≡ grid w h s
  all_left l k =
      let e : h - 0 ≡ h = omega arith in
      ap (λ (z : List Event). outcome (in_places 1 z) Ended) (row_start 0 l k ∙ ap (λ n. flat_map (grid_row w h s) (range_with_len 0 n)) e)
