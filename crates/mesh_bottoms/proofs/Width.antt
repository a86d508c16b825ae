-- The width of the grid of w columns is at most w + 2.
use Rattle.std.proofs.Common.{◌≡◌, ℕ, zero, suc, ◌+◌, ◌-◌, ◌*◌, ◌≤◌, Bool, true, false, ◌&&◌, eqb, leb, List, [], ◌∷◌, sym, refl, suc-mul, add-one, arith}
use Rattle.std.specs.List.{flat_map, range_with_len}
use Rattle.std.proofs.lemmas.Bool.{eq-eqb, le-leb, and_from, and_right}
use Rattle.mesh_stream.specs.declared.event.Event.{Event}
use Rattle.mesh_stream.specs.declared.event.Event.TheVariants.{Finalization}
use Rattle.mesh_stream.specs.Live.{width}
use Rattle.mesh_bottoms.specs.Gridding.{when, grid_at, grid_row, grid}
use Rattle.mesh_bottoms.proofs.Lives.{Leads, none, chain, vertex, triangle, final, next_final}

when_final : (w high low i : ℕ) → high ≤ low + w + 2 → (b : Bool) → Leads w (when b (Finalization 0 i ∷ [])) high low high low
when_final w high low i slack true = final w high low i slack
when_final w high low i slack false = none w high low

module _ (w h s r : ℕ) where
  -- a position behind the first row and column: the vertices up to `low` are finalized before it, and those up to `done` after it
  module _ (c high low done : ℕ) (inner : 1 ≤ c) (at_high : high ≡ suc r * w + c) (at_low : suc low ≡ r * w + c) where
    abbrev n : ℕ
    n = suc r * w + c + 1

    abbrev q_final : List Event
    q_final = when (eqb c (w - 1)) (Finalization 0 (n - w) ∷ [])

    cell_by : suc low ≤ done → Leads w q_final (suc high) (suc low) (suc high) done → Leads w (grid_at w h s (suc r) c) high low (suc high) done
    cell_by l q =
        let m = suc-mul r w in
        rw (and_from (leb 1 (suc r)) (leb 1 c) (le-leb 1 (suc r) (omega arith)) (le-leb 1 c inner))
        (chain w (vertex w high low n _ (omega arith) (omega arith))
        (chain w (triangle w (suc high) low _ _ _ (omega arith))
        (chain w (triangle w (suc high) low _ _ _ (omega arith))
        (chain w (next_final w (suc high) low (n - w - 1) (omega arith) (omega arith))
        (chain w q
        (chain w (when_final w (suc high) done (n - 1) (omega arith) (eqb (suc r) (h - 1)))
        (when_final w (suc high) done n (omega arith) (eqb c (w - 1) && eqb (suc r) (h - 1)))))))))

  module _ (c high low : ℕ) (inner : 1 ≤ c) (at_high : high ≡ suc r * w + c) (at_low : suc low ≡ r * w + c) where
    cell : Leads w (grid_at w h s (suc r) c) high low (suc high) (suc low)
    cell =
        let m = suc-mul r w in
        cell_by c high low (suc low) inner at_high at_low (omega arith) (when_final w (suc high) (suc low) (suc r * w + c + 1 - w) (omega arith) (eqb c (w - 1)))

    last_cell : c ≡ w - 1 → Leads w (grid_at w h s (suc r) c) high low (suc high) (suc (suc low))
    last_cell e =
        let m = suc-mul r w in
        cell_by c high low (suc (suc low)) inner at_high at_low (omega arith)
        (rw (eq-eqb c (w - 1) e) (next_final w (suc high) (suc low) (suc r * w + c + 1 - w) (omega arith) (omega arith)))

to : (w : ℕ) (xs : List Event) (a b high low high' low' : ℕ) → high ≡ high' → low ≡ low' → Leads w xs a b high low → Leads w xs a b high' low'
to w xs a b high low high' low' e f l = rw (sym e, sym f) l

module _ (w h s : ℕ) where
  first_row : (n c high : ℕ) → high ≡ c + n → high ≤ w → Leads w (flat_map (grid_at w h s 0) (range_with_len c n)) c 0 high 0
  first_row zero c high e l = to w [] c 0 c 0 high 0 (omega arith) refl (none w c 0)
  first_row (suc n) c high e l =
      rw (add-one c) (chain w (vertex w c 0 (0 * w + c + 1) _ (omega arith) (omega arith)) (first_row n (suc c) high (omega arith) l))

  -- a later row from a column on that is not the first
  row_on : (r n c high low : ℕ) → 1 ≤ c → c + suc n ≡ w → high ≡ suc r * w + c → suc low ≡ r * w + c
      → Leads w (flat_map (grid_at w h s (suc r)) (range_with_len c (suc n))) high low (suc (suc r) * w) (suc r * w)
  row_on r zero c high low i e a b =
      let m = suc-mul r w in
      let k = suc-mul (suc r) w in
      to w _ high low (suc high) (suc (suc low)) (suc (suc r) * w) (suc r * w) (omega arith) (omega arith)
      (chain w (last_cell w h s r c high low i a b (omega arith)) (none w (suc high) (suc (suc low))))
  row_on r (suc n) c high low i e a b =
      rw (add-one c) (chain w (cell w h s r c high low i a b)
      (row_on r n (suc c) (suc high) (suc low) (omega arith) (omega arith) (omega arith) (omega arith)))

  -- the first position of a later row has its vertex only
  row_begins : (r : ℕ) → Leads w (grid_at w h s (suc r) 0) (suc r * w) (r * w) (suc (suc r * w)) (r * w)
  row_begins r =
      let m = suc-mul r w in
      rw (and_right (leb 1 (suc r)) (leb 1 0) refl)
      (vertex w (suc r * w) (r * w) (suc r * w + 0 + 1) _ (omega arith) (omega arith))

  later_row : (u r : ℕ) → w ≡ suc (suc u) → Leads w (flat_map (grid_at w h s (suc r)) (range_with_len 0 (suc (suc u)))) (suc r * w) (r * w) (suc (suc r) * w) (suc r * w)
  later_row u r e =
      chain w (row_begins r)
      (row_on r u 1 (suc (suc r * w)) (r * w) (omega arith) (omega arith) (omega arith) (omega arith))

-- the rows of u + 2 columns
module _ (u h s : ℕ) where
  abbrev columns : ℕ
  columns = suc (suc u)

  later_rows : (n r last : ℕ) → last ≡ r + n → Leads columns (flat_map (grid_row columns h s) (range_with_len (suc r) n)) (suc r * columns) (r * columns) (suc last * columns) (last * columns)
  later_rows zero r last e =
      let f : last ≡ r = omega arith in rw f (none columns (suc r * columns) (r * columns))
  later_rows (suc n) r last e =
      rw (add-one (suc r)) (chain columns (later_row columns h s u r refl) (later_rows n (suc r) last (omega arith)))

  all_rows : (r : ℕ) → Leads columns (flat_map (grid_row columns h s) (range_with_len 0 (suc r))) 0 0 (suc r * columns) (r * columns)
  all_rows r =
      chain columns
      (to columns (grid_row columns h s 0) 0 0 columns 0 (1 * columns) (0 * columns) (omega arith) (omega arith) (first_row columns h s columns 0 columns (omega arith) (omega arith)))
      (later_rows r 0 r (omega arith))

pub grid_narrow : (w h s : ℕ) → 2 ≤ w → width (grid w h s).items ≤ w + 2
grid_narrow zero h s b = absurd (let z : ⊥ = omega arith in z)
grid_narrow (suc zero) h s b = absurd (let z : ⊥ = omega arith in z)
grid_narrow (suc (suc u)) zero s b = omega arith
grid_narrow (suc (suc u)) (suc r) s b = (all_rows u (suc r) s r).narrow [] 1 (record { born = refl; done = λ n a c. absurd (let z : ⊥ = omega arith in z) })
