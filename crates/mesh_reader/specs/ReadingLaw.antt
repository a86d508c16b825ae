-- What holds of every text: one that goes on gives more; once a line is at fault nothing changes it; closed, it is not waited for.
use Rattle.std.specs.Prelude.{◌≡◌, ℕ, suc, Bool, true, false, cond, List, [], ◌∷◌, ◌++◌, length, Some, None, Ok, Err, nat_le, nat_lt, refl}
use Rattle.std.specs.List.{onto_first}
use Rattle.std.proofs.Common.{sym, ap, subst, ◌∙◌, arith, length-append}
use Rattle.std.proofs.lemmas.Bool.{both_ways, leb-true, le-leb}
use Rattle.mesh_stream.specs.declared.event.Event.{Event}
use Rattle.mesh_stream.specs.declared.fault.Cause.{Cause}
use Rattle.mesh_stream.specs.declared.fault.Cause.TheVariants.{LineTooLong, TooManyLines}
use Rattle.mesh_stream.specs.declared.stage.Standing.{Standing}
use Rattle.mesh_stream.specs.declared.stage.Standing.TheVariants.{Waiting, Ended}
use Rattle.mesh_stream.specs.Meaning.{Mark, unclosed, closed, Outcome, outcome, prepend, Begins, IsWaiting}
use Rattle.mesh_reader.specs.Text.{pieces, words, line_end, last_counts, lines_in, lines}
use Rattle.mesh_reader.specs.Reading.{LineContent, by_words, line_content, vertex_after, fault, and_on, read_lines, at_end, reading_from}

-- The pieces of a text that is joined of two: the last piece of the one goes on as the first of the other.
abbrev pub SomePieces : List (List ℕ) → Type 0
SomePieces [] = ⊥
SomePieces (p ∷ ps) = Unit {0}

pub some_pieces : (s : ℕ → Bool) (t : List ℕ) → SomePieces (pieces s t)
some_pieces s [] = tt
some_pieces s (b ∷ t) = at (s b) (pieces s t)
  where
    at : (c : Bool) (ps : List (List ℕ)) → SomePieces (cond c ([] ∷ ps) (onto_first b ps))
    at true ps = tt
    at false [] = tt
    at false (p ∷ ps) = tt

abbrev joined : List (List ℕ) → List (List ℕ) → List (List ℕ)
joined [] qs = qs
joined (p ∷ []) [] = p ∷ []
joined (p ∷ []) (q ∷ qs) = (p ++ q) ∷ qs
joined (p ∷ (k ∷ ps)) qs = p ∷ joined (k ∷ ps) qs

pieces-++ : (s : ℕ → Bool) (t u : List ℕ) → pieces s (t ++ u) ≡ joined (pieces s t) (pieces s u)
pieces-++ s [] u = at (pieces s u) (some_pieces s u)
  where
    at : (qs : List (List ℕ)) → SomePieces qs → qs ≡ joined ([] ∷ []) qs
    at [] h = absurd h
    at (q ∷ qs) h = refl
pieces-++ s (b ∷ t) u = ap (λ ps. cond (s b) ([] ∷ ps) (onto_first b ps)) (pieces-++ s t u) ∙ at (s b) (pieces s t) (pieces s u) (some_pieces s t)
  where
    at : (c : Bool) (ps qs : List (List ℕ)) → SomePieces ps → cond c ([] ∷ joined ps qs) (onto_first b (joined ps qs)) ≡ joined (cond c ([] ∷ ps) (onto_first b ps)) qs
    at c [] qs h = absurd h
    at true (p ∷ ps) qs h = refl
    at false (p ∷ []) [] h = refl
    at false (p ∷ []) (q ∷ qs) h = refl
    at false (p ∷ (k ∷ ps)) qs h = refl

-- A line of 128 bytes is at fault, however it goes on.
abbrev pub long_cause : Bool → Cause
long_cause true = TooManyLines
long_cause false = LineTooLong

pub long_wrong : (p n : ℕ) (l : List ℕ) → nat_le 128 (length l) ≡ true → line_content p n l ≡ Err (long_cause (nat_lt 1000000000 p))
long_wrong p n l h =
    ap (λ t. cond (nat_lt 1000000000 p) (Err TooManyLines) (cond t (Err LineTooLong) (by_words p n (words l)))) h ∙ at (nat_lt 1000000000 p)
  where
    at : (t : Bool) → ◌≡◌ {A = LineContent} (cond t (Err TooManyLines) (Err LineTooLong)) (Err (long_cause t))
    at true = refl
    at false = refl

pub first_long : (p n : ℕ) (l : List ℕ) (ls : List (List ℕ)) (s : Standing) → nat_le 128 (length l) ≡ true → read_lines p n (l ∷ ls) s ≡ outcome [] (fault (long_cause (nat_lt 1000000000 p)) p)
first_long p n l ls s h = ap (λ g. and_on p n g (λ next. read_lines (suc p) next ls s)) (long_wrong p n l h)

longer : (l q : List ℕ) → nat_le 128 (length l) ≡ true → nat_le 128 (length (l ++ q)) ≡ true
longer l q h = le-leb 128 (length (l ++ q)) (omega (arith, leb-true 128 (length l) h, length-append l q))

long_counts : (m : Mark) (l : List ℕ) → nat_le 128 (length l) ≡ true → last_counts m l ≡ true
long_counts unclosed l h = h
long_counts closed [] h = absurd (both_ways (nat_le 128 0) refl h)
long_counts closed (b ∷ l) h = refl

-- A first piece that long is the first line.
pub first_piece_long : (m : Mark) (s : Standing) (p n : ℕ) (l : List ℕ) (qs : List (List ℕ)) → nat_le 128 (length l) ≡ true → read_lines p n (lines_in m (l ∷ qs)) s ≡ outcome [] (fault (long_cause (nat_lt 1000000000 p)) p)
first_piece_long m s p n l [] h = ap (λ b. read_lines p n (cond b (l ∷ []) []) s) (long_counts m l h) ∙ first_long p n l [] s h
first_piece_long m s p n l (q ∷ qs) h = first_long p n l (lines_in m (q ∷ qs)) s h

-- A piece with another behind it is a line.
pub line_before : (m : Mark) (l : List ℕ) (ps : List (List ℕ)) → SomePieces ps → lines_in m (l ∷ ps) ≡ l ∷ lines_in m ps
line_before m l [] h = absurd h
line_before m l (p ∷ ps) h = refl

joined_some : (ps qs : List (List ℕ)) → SomePieces ps → SomePieces (joined ps qs)
joined_some [] qs h = absurd h
joined_some (p ∷ []) [] h = tt
joined_some (p ∷ []) (q ∷ qs) h = tt
joined_some (p ∷ (k ∷ ps)) qs h = tt

module _ (m : Mark) (end : Standing) where
  lines_begin : (ps qs : List (List ℕ)) (p n : ℕ) → Begins (read_lines p n (lines_in unclosed ps) Waiting).items (read_lines p n (lines_in m (joined ps qs)) end).items
  lines_begin [] qs p n = ((read_lines p n (lines_in m qs) end).items, refl)
  lines_begin (l ∷ []) qs p n = at (nat_le 128 (length l)) refl
    where
      none : (o : Outcome Event) → o.items ≡ [] → Begins o.items (read_lines p n (lines_in m (joined (l ∷ []) qs)) end).items
      none o e = ((read_lines p n (lines_in m (joined (l ∷ []) qs)) end).items, ap (λ (xs : List Event). xs ++ (read_lines p n (lines_in m (joined (l ∷ []) qs)) end).items) (sym e))

      at : (b : Bool) → nat_le 128 (length l) ≡ b → Begins (read_lines p n (cond (nat_le 128 (length l)) (l ∷ []) []) Waiting).items (read_lines p n (lines_in m (joined (l ∷ []) qs)) end).items
      at true h =
          none (read_lines p n (cond (nat_le 128 (length l)) (l ∷ []) []) Waiting)
          (ap (λ b. (read_lines p n (cond b (l ∷ []) []) Waiting).items) h ∙ ap (λ (o : Outcome Event). o.items) (first_long p n l [] Waiting h))
      at false h = none (read_lines p n (cond (nat_le 128 (length l)) (l ∷ []) []) Waiting) (ap (λ b. (read_lines p n (cond b (l ∷ []) []) Waiting).items) h)
  lines_begin (l ∷ (k ∷ ps)) qs p n =
      subst (λ (ls : List (List ℕ)). Begins (read_lines p n (l ∷ lines_in unclosed (k ∷ ps)) Waiting).items (read_lines p n ls end).items)
      (sym (line_before m l (joined (k ∷ ps) qs) (joined_some (k ∷ ps) qs tt)))
      (go (line_content p n l) (λ j. lines_begin (k ∷ ps) qs (suc p) j))
    where
      go : (g : LineContent) → ((j : ℕ) → Begins (read_lines (suc p) j (lines_in unclosed (k ∷ ps)) Waiting).items (read_lines (suc p) j (lines_in m (joined (k ∷ ps) qs)) end).items)
          → Begins (and_on p n g (λ j. read_lines (suc p) j (lines_in unclosed (k ∷ ps)) Waiting)).items (and_on p n g (λ j. read_lines (suc p) j (lines_in m (joined (k ∷ ps) qs)) end)).items
      go (Ok None) later = later n
      go (Ok (Some x)) later = ((later (vertex_after n x)).0, ap (λ (xs : List Event). x ∷ xs) (later (vertex_after n x)).1)
      go (Err c) later = ([], refl)

  lines_stop : (ps qs : List (List ℕ)) (p n : ℕ) → SomePieces ps → (IsWaiting (read_lines p n (lines_in unclosed ps) Waiting).stands → ⊥) → read_lines p n (lines_in m (joined ps qs)) end ≡ read_lines p n (lines_in unclosed ps) Waiting
  lines_stop [] qs p n s w = absurd s
  lines_stop (l ∷ []) qs p n s w = at (nat_le 128 (length l)) refl
    where
      to : (rs : List (List ℕ)) → nat_le 128 (length l) ≡ true → read_lines p n (lines_in m (joined (l ∷ []) rs)) end ≡ outcome [] (fault (long_cause (nat_lt 1000000000 p)) p)
      to [] h = first_piece_long m end p n l [] h
      to (r ∷ rs) h = first_piece_long m end p n (l ++ r) rs (longer l r h)

      at : (b : Bool) → nat_le 128 (length l) ≡ b → read_lines p n (lines_in m (joined (l ∷ []) qs)) end ≡ read_lines p n (cond (nat_le 128 (length l)) (l ∷ []) []) Waiting
      at true h = to qs h ∙ sym (first_piece_long unclosed Waiting p n l [] h)
      at false h = absurd (w (subst (λ b. IsWaiting (read_lines p n (cond b (l ∷ []) []) Waiting).stands) (sym h) tt))
  lines_stop (l ∷ (k ∷ ps)) qs p n s w =
      ap (λ (ls : List (List ℕ)). read_lines p n ls end) (line_before m l (joined (k ∷ ps) qs) (joined_some (k ∷ ps) qs tt))
      ∙ go (line_content p n l) w (λ j. lines_stop (k ∷ ps) qs (suc p) j tt)
    where
      go : (h : LineContent) → (IsWaiting (and_on p n h (λ j. read_lines (suc p) j (lines_in unclosed (k ∷ ps)) Waiting)).stands → ⊥)
          → ((j : ℕ) → (IsWaiting (read_lines (suc p) j (lines_in unclosed (k ∷ ps)) Waiting).stands → ⊥) → read_lines (suc p) j (lines_in m (joined (k ∷ ps) qs)) end ≡ read_lines (suc p) j (lines_in unclosed (k ∷ ps)) Waiting)
          → and_on p n h (λ j. read_lines (suc p) j (lines_in m (joined (k ∷ ps) qs)) end) ≡ and_on p n h (λ j. read_lines (suc p) j (lines_in unclosed (k ∷ ps)) Waiting)
      go (Ok None) w later = later n w
      go (Ok (Some x)) w later = ap (prepend x) (later (vertex_after n x) w)
      go (Err c) w later = refl

-- The items of an open text begin those of every text that it begins.
pub reading_grows : (p n : ℕ) (t u : List ℕ) (m : Mark) → Begins (reading_from p n t unclosed).items (reading_from p n (t ++ u) m).items
reading_grows p n t u m =
    subst (λ (ps : List (List ℕ)). Begins (reading_from p n t unclosed).items (read_lines p n (lines_in m ps) (at_end m)).items) (sym (pieces-++ line_end t u))
    (lines_begin m (at_end m) (pieces line_end t) (pieces line_end u) p n)

-- Once an open text is not waited for, nothing behind it counts.
pub reading_stops : (p n : ℕ) (t u : List ℕ) (m : Mark) → (IsWaiting (reading_from p n t unclosed).stands → ⊥) → reading_from p n (t ++ u) m ≡ reading_from p n t unclosed
reading_stops p n t u m w =
    ap (λ (ps : List (List ℕ)). read_lines p n (lines_in m ps) (at_end m)) (pieces-++ line_end t u)
    ∙ lines_stop m (at_end m) (pieces line_end t) (pieces line_end u) p n (some_pieces line_end t) w

-- A closed text is not waited for.
pub reading_settles : (p n : ℕ) (t : List ℕ) → IsWaiting (reading_from p n t closed).stands → ⊥
reading_settles p n t = never (lines closed t) p n
  where
    never : (ls : List (List ℕ)) (p n : ℕ) → IsWaiting (read_lines p n ls Ended).stands → ⊥
    never [] p n w = w
    never (l ∷ ls) p n w = go (line_content p n l) (λ j. never ls (suc p) j) w
      where
        go : (g : LineContent) → ((j : ℕ) → IsWaiting (read_lines (suc p) j ls Ended).stands → ⊥) → IsWaiting (and_on p n g (λ j. read_lines (suc p) j ls Ended)).stands → ⊥
        go (Ok None) later w = later n w
        go (Ok (Some x)) later w = later (vertex_after n x) w
        go (Err c) later w = w
