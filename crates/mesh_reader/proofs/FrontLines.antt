-- The line at the front of a text, of which no more than 128 bytes are looked at.
use Rattle.std.proofs.Common.{◌≡◌, ℕ, zero, suc, ◌+◌, ◌-◌, ◌<◌, ◌≤◌, min, Bool, true, false, cond, ltb, leb, ◌⊎◌, List, [], ◌∷◌, ◌++◌, length, take, drop, Some, None, Err, sym, refl, ap, ◌∙◌, subst, inl, inr, append_assoc, append-nil, arith, length-append}
use Rattle.std.specs.List.{All, onto_first}
use Rattle.std.proofs.lemmas.List.{length-take, take_all, drop_all}
use Rattle.std.proofs.lemmas.List.Splits.{slice_split_at, slice_split_none, join_with_byte-slice_split}
use Rattle.std.proofs.lemmas.Bool.{eqb-true, both_ways, leb-true, leb-false, le-leb, lt-leb, cases_lt}
use Rattle.mesh_stream.specs.declared.event.Event.{Event}
use Rattle.mesh_stream.specs.declared.fault.Cause.TheVariants.{LineTooLong, TooManyLines}
use Rattle.mesh_stream.specs.declared.stage.Standing.TheVariants.{Waiting, Ended}
use Rattle.mesh_stream.specs.Meaning.{Mark, unclosed, closed, Outcome, outcome}
use Rattle.mesh_reader.specs.Text.{pieces, some_bytes, words, line_end, last_counts, lines_in}
use Rattle.mesh_reader.specs.Reading.{LineContent, by_words, in_time, line_content, fault, and_on, read_lines, at_end, reading_from, rejoined, after_line, unread_pieces, unread}
use Rattle.mesh_reader.specs.ReadingLaw.{SomePieces, some_pieces, line_before, first_piece_long, long_cause, long_wrong}
use Rattle.mesh_reader.specs.Scanning.{front}
use Rattle.mesh_reader.proofs.Words.{front_length, unstopped}
use Rattle.mesh_reader.specs.Keeping.{keeping, mark_at, Front}

-- what follows the first piece (`slice_split_first` of the library speaks only of one with another behind it)
first_piece : (bs : List ℕ) → (qs : List (List ℕ)) × (pieces line_end bs ≡ front line_end bs ∷ qs)
first_piece [] = ([], refl)
first_piece (b ∷ bs) = by (line_end b) (first_piece bs)
  where
    by : (t : Bool) → (qs : List (List ℕ)) × (pieces line_end bs ≡ front line_end bs ∷ qs) → (qs : List (List ℕ)) × (cond t ([] ∷ pieces line_end bs) (onto_first b (pieces line_end bs)) ≡ cond t [] (b ∷ front line_end bs) ∷ qs)
    by true (qs, e) = (pieces line_end bs, refl)
    by false (qs, e) = (qs, ap (onto_first b) e)

reading_line : (p n : ℕ) (bs t : List ℕ) (m : Mark) → reading_from p n (front line_end bs ++ (10 ∷ t)) m ≡ and_on p n (line_content p n (front line_end bs)) (λ next. reading_from (suc p) next t m)
reading_line p n bs t m =
    ap (λ (ps : List (List ℕ)). read_lines p n (lines_in m ps) (at_end m)) (slice_split_at line_end (front line_end bs) 10 t (unstopped line_end bs) refl)
    ∙ ap (λ (ls : List (List ℕ)). read_lines p n ls (at_end m)) (line_before m (front line_end bs) (pieces line_end t) (some_pieces line_end t))

-- A line end among the first n bytes: the line, its end, and the rest.
complete : (n : ℕ) (bs : List ℕ) → length (front line_end (take n bs)) < length (take n bs) → bs ≡ front line_end (take n bs) ++ (10 ∷ drop (suc (length (front line_end (take n bs)))) bs)
complete zero bs h = absurd (let z : ⊥ = omega arith in z)
complete (suc n) [] h = absurd (let z : ⊥ = omega arith in z)
complete (suc n) (b ∷ bs) h = by (line_end b) refl (complete n bs)
  where
    by : (t : Bool) → line_end b ≡ t → (length (front line_end (take n bs)) < length (take n bs) → bs ≡ front line_end (take n bs) ++ (10 ∷ drop (suc (length (front line_end (take n bs)))) bs))
        → b ∷ bs ≡ front line_end (b ∷ take n bs) ++ (10 ∷ drop (suc (length (front line_end (b ∷ take n bs)))) (b ∷ bs))
    by true e later =
        ap (λ (c : ℕ). c ∷ bs) (eqb-true b 10 e)
        ∙ sym (ap (λ s. cond s [] (b ∷ front line_end (take n bs)) ++ (10 ∷ drop (suc (length (cond s [] (b ∷ front line_end (take n bs))))) (b ∷ bs))) e)
    by false e later =
        let k : length (front line_end (b ∷ take n bs)) ≡ suc (length (front line_end (take n bs))) = ap (λ s. length (cond s [] (b ∷ front line_end (take n bs)))) e in
        ap (λ (xs : List ℕ). b ∷ xs) (later (omega arith))
        ∙ sym (ap (λ s. cond s [] (b ∷ front line_end (take n bs)) ++ (10 ∷ drop (suc (length (cond s [] (b ∷ front line_end (take n bs))))) (b ∷ bs))) e)

-- No line end among the first n bytes.
unbroken : (n : ℕ) (bs t : List ℕ) → n ≤ length bs → length (take n bs) ≤ length (front line_end (take n bs)) → n ≤ length (front line_end (bs ++ t))
unbroken zero bs t k h = omega arith
unbroken (suc n) [] t k h = absurd (let z : ⊥ = omega arith in z)
unbroken (suc n) (b ∷ bs) t k h = by (line_end b) refl (unbroken n bs t)
  where
    by : (s : Bool) → line_end b ≡ s → (n ≤ length bs → length (take n bs) ≤ length (front line_end (take n bs)) → n ≤ length (front line_end (bs ++ t))) → suc n ≤ length (front line_end (b ∷ (bs ++ t)))
    by true e later = absurd (let z : length (front line_end (b ∷ take n bs)) ≡ 0 = ap (λ s. length (cond s [] (b ∷ front line_end (take n bs)))) e in let y : ⊥ = omega arith in y)
    by false e later =
        let q : length (front line_end (b ∷ take n bs)) ≡ suc (length (front line_end (take n bs))) = ap (λ s. length (cond s [] (b ∷ front line_end (take n bs)))) e in
        let r : length (front line_end (b ∷ (bs ++ t))) ≡ suc (length (front line_end (bs ++ t))) = ap (λ s. length (cond s [] (b ∷ front line_end (bs ++ t)))) e in
        let l = later (omega arith) (omega arith) in
        omega arith

whole_front : (bs : List ℕ) → length bs ≤ length (front line_end bs) → front line_end bs ≡ bs
whole_front [] h = refl
whole_front (b ∷ bs) h = by (line_end b) refl (whole_front bs)
  where
    by : (s : Bool) → line_end b ≡ s → (length bs ≤ length (front line_end bs) → front line_end bs ≡ bs) → front line_end (b ∷ bs) ≡ b ∷ bs
    by true e later = absurd (let z : length (front line_end (b ∷ bs)) ≡ 0 = ap (λ s. length (cond s [] (b ∷ front line_end bs))) e in let y : ⊥ = omega arith in y)
    by false e later =
        let q : length (front line_end (b ∷ bs)) ≡ suc (length (front line_end bs)) = ap (λ s. length (cond s [] (b ∷ front line_end bs))) e in
        ap (λ s. cond s [] (b ∷ front line_end bs)) e ∙ ap (λ (xs : List ℕ). b ∷ xs) (later (omega arith))

short_content : (p n : ℕ) (l : List ℕ) → length l < 128 → line_content p n l ≡ in_time p (by_words p n (words l))
short_content p n l h = ap (λ t. in_time p (cond t (Err LineTooLong) (by_words p n (words l)))) (lt-leb 128 (length l) h)

late_or_long : (p n : ℕ) (t : Bool) (later : ℕ → Outcome Event) → and_on p n (cond t (Err TooManyLines) (Err LineTooLong)) later ≡ outcome [] (fault (long_cause t) p)
late_or_long p n true later = refl
late_or_long p n false later = refl

-- What is left unread behind a complete line, and of a line that is too long.
unread_line : (m : Mark) (p n : ℕ) (l : List ℕ) (ps : List (List ℕ)) → SomePieces ps → unread_pieces m p n (l ∷ ps) ≡ after_line (line_content p n l) (rejoined (l ∷ ps)) (rejoined ps) (unread_pieces m (suc p) n ps)
unread_line m p n l [] h = absurd h
unread_line unclosed p n l (q ∷ ps) h = refl
unread_line closed p n l (q ∷ ps) h = refl

unread_long : (m : Mark) (p n : ℕ) (l : List ℕ) (ps : List (List ℕ)) → leb 128 (length l) ≡ true → unread_pieces m p n (l ∷ ps) ≡ rejoined (l ∷ ps)
unread_long unclosed p n l [] h = refl
unread_long closed p n [] [] h = absurd (both_ways (leb 128 0) refl h)
unread_long closed p n (b ∷ l) [] h = ap (λ g. after_line g (b ∷ l) [] []) (long_wrong p n (b ∷ l) h)
unread_long unclosed p n l (q ∷ ps) h = ap (λ g. after_line g (rejoined (l ∷ (q ∷ ps))) (rejoined (q ∷ ps)) (unread_pieces unclosed (suc p) n (q ∷ ps))) (long_wrong p n l h)
unread_long closed p n l (q ∷ ps) h = ap (λ g. after_line g (rejoined (l ∷ (q ∷ ps))) (rejoined (q ∷ ps)) (unread_pieces closed (suc p) n (q ∷ ps))) (long_wrong p n l h)

late_or_long_keeps : (t : Bool) (all behind later : List ℕ) → after_line (cond t (Err TooManyLines) (Err LineTooLong)) all behind later ≡ all
late_or_long_keeps true all behind later = refl
late_or_long_keeps false all behind later = refl

-- The three cases of a line at the front of what is kept; `window` are the first 128 bytes.
module _ (c : Bool) (p n : ℕ) (kept window : List ℕ) (is : window ≡ take 128 kept) where
  abbrev line : List ℕ
  line = front line_end window

  whole_line : length line < length window → kept ≡ line ++ (10 ∷ drop (suc (length line)) kept)
  whole_line h = subst (λ (w : List ℕ). kept ≡ front line_end w ++ (10 ∷ drop (suc (length (front line_end w))) kept)) (sym is) (complete 128 kept (subst (λ (w : List ℕ). length (front line_end w) < length w) is h))

  takes_line : length window ≤ 128 → length line < length window → Front c p n kept (Some (record { content = by_words p n (words line); length = length line + 1 }))
  takes_line k h =
      let e = whole_line h in
      let w : length kept ≡ length line + length (10 ∷ drop (suc (length line)) kept) = ap length e ∙ length-append line (10 ∷ drop (suc (length line)) kept) in
      record { some = omega arith; inside = omega arith; reads = at c e; leaves = left (mark_at c) e }
    where
      plus : suc (length line) ≡ length line + 1
      plus = omega arith

      left : (m : Mark) → kept ≡ line ++ (10 ∷ drop (suc (length line)) kept) → unread m p n kept ≡ after_line (in_time p (by_words p n (words line))) kept (drop (length line + 1) kept) (unread m (suc p) n (drop (length line + 1) kept))
      left m e =
          let rest = drop (suc (length line)) kept in
          let o : pieces line_end kept ≡ line ∷ pieces line_end rest = ap (pieces line_end) e ∙ slice_split_at line_end line 10 rest (unstopped line_end window) refl in
          ap (unread_pieces m p n) o ∙ unread_line m p n line (pieces line_end rest) (some_pieces line_end rest)
          ∙ ap (λ g. after_line g (rejoined (line ∷ pieces line_end rest)) (rejoined (pieces line_end rest)) (unread m (suc p) n rest)) (short_content p n line (omega arith))
          ∙ ap (λ (all : List ℕ). after_line (in_time p (by_words p n (words line))) all (rejoined (pieces line_end rest)) (unread m (suc p) n rest)) (ap rejoined (sym o) ∙ join_with_byte-slice_split 10 kept)
          ∙ ap (λ (behind : List ℕ). after_line (in_time p (by_words p n (words line))) kept behind (unread m (suc p) n rest)) (join_with_byte-slice_split 10 rest)
          ∙ ap (λ (k : ℕ). after_line (in_time p (by_words p n (words line))) kept (drop k kept) (unread m (suc p) n (drop k kept))) plus

      to : (t : List ℕ) (m : Mark) → kept ≡ line ++ (10 ∷ drop (suc (length line)) kept) → reading_from p n (kept ++ t) m ≡ and_on p n (in_time p (by_words p n (words line))) (λ next. reading_from (suc p) next (drop (length line + 1) kept ++ t) m)
      to t m e =
          ap (λ (xs : List ℕ). reading_from p n (xs ++ t) m) e
          ∙ ap (λ (xs : List ℕ). reading_from p n xs m) (append_assoc line (10 ∷ drop (suc (length line)) kept) t)
          ∙ reading_line p n window (drop (suc (length line)) kept ++ t) m
          ∙ ap (λ g. and_on p n g (λ next. reading_from (suc p) next (drop (suc (length line)) kept ++ t) m)) (short_content p n line (omega arith))
          ∙ ap (λ (k : ℕ). and_on p n (in_time p (by_words p n (words line))) (λ next. reading_from (suc p) next (drop k kept ++ t) m)) plus

      at : (d : Bool) → kept ≡ line ++ (10 ∷ drop (suc (length line)) kept) → (t : List ℕ) (m : Mark) → keeping d p n kept t m ≡ and_on p n (in_time p (by_words p n (words line))) (λ next. keeping d (suc p) next (drop (length line + 1) kept) t m)
      at true e t m =
          ap (λ (xs : List ℕ). reading_from p n xs closed) (sym (append-nil kept)) ∙ to [] closed e
          ∙ ap (λ (xs : List ℕ). and_on p n (in_time p (by_words p n (words line))) (λ next. reading_from (suc p) next xs closed)) (append-nil (drop (length line + 1) kept))
      at false e t m = to t m e

  length_window : length window ≡ min 128 (length kept)
  length_window = ap length is ∙ length-take 128 kept

  too_long : length window ≡ 128 → length window ≤ length line → Front c p n kept (Some (record { content = Err LineTooLong; length = 128 }))
  too_long k h = let w = length_window in record { some = omega arith; inside = omega arith; reads = at c; leaves = left (mark_at c) }
    where
      left : (m : Mark) → unread m p n kept ≡ after_line (in_time p (Err LineTooLong)) kept (drop 128 kept) (unread m (suc p) n (drop 128 kept))
      left m =
          let f = first_piece kept in
          let w = length_window in
          let u = unbroken 128 kept [] (omega arith) (subst (λ (v : List ℕ). length v ≤ length (front line_end v)) is h) in
          let v : 128 ≤ length (front line_end kept) = subst (λ (xs : List ℕ). 128 ≤ length (front line_end xs)) (append-nil kept) u in
          ap (unread_pieces m p n) f.1 ∙ unread_long m p n (front line_end kept) f.0 (le-leb 128 (length (front line_end kept)) v) ∙ ap rejoined (sym f.1) ∙ join_with_byte-slice_split 10 kept
          ∙ sym (late_or_long_keeps (ltb 1000000000 p) kept (drop 128 kept) (unread m (suc p) n (drop 128 kept)))

      long : (t : List ℕ) (m : Mark) (later : ℕ → Outcome Event) → reading_from p n (kept ++ t) m ≡ and_on p n (in_time p (Err LineTooLong)) later
      long t m later =
          let f = first_piece (kept ++ t) in
          let w = length_window in
          let u = unbroken 128 kept t (omega arith) (subst (λ (v : List ℕ). length v ≤ length (front line_end v)) is h) in
          ap (λ (ps : List (List ℕ)). read_lines p n (lines_in m ps) (at_end m)) f.1
          ∙ first_piece_long m (at_end m) p n (front line_end (kept ++ t)) f.0 (le-leb 128 (length (front line_end (kept ++ t))) u)
          ∙ sym (late_or_long p n (ltb 1000000000 p) later)

      at : (d : Bool) (t : List ℕ) (m : Mark) → keeping d p n kept t m ≡ and_on p n (in_time p (Err LineTooLong)) (λ next. keeping d (suc p) next (drop 128 kept) t m)
      at true t m = ap (λ (xs : List ℕ). reading_from p n xs closed) (sym (append-nil kept)) ∙ long [] closed (λ next. keeping true (suc p) next (drop 128 kept) t m)
      at false t m = long t m (λ next. keeping false (suc p) next (drop 128 kept) t m)

  module _ (short : length window < 128) (h : length window ≤ length line) where
    all_kept : window ≡ kept
    all_kept = let w = length_window in is ∙ take_all 128 kept (omega arith)

    few : length kept < 128
    few = let w = length_window in omega arith

    open_end : length kept ≤ length (front line_end kept)
    open_end = subst (λ (v : List ℕ). length v ≤ length (front line_end v)) all_kept h

    one_piece : pieces line_end kept ≡ kept ∷ []
    one_piece = slice_split_none line_end kept (subst (All (λ b. line_end b ≡ false)) (whole_front kept open_end) (unstopped line_end kept))

    unfinished : (m : Mark) → reading_from p n kept m ≡ read_lines p n (cond (last_counts m kept) (kept ∷ []) []) (at_end m)
    unfinished m = ap (λ (ps : List (List ℕ)). read_lines p n (lines_in m ps) (at_end m)) one_piece

    waits : c ≡ false → Front c p n kept None
    waits e = subst (λ d. Front d p n kept None) (sym e) (record {
      reads = ap (λ (xs : List ℕ). reading_from p n xs unclosed) (append-nil kept) ∙ unfinished unclosed ∙ ap (λ t. read_lines p n (cond t (kept ∷ []) []) Waiting) (lt-leb 128 (length kept) few);
      leaves = ap (unread_pieces unclosed p n) one_piece;
      short = few;
    })

    ends : length window ≤ 0 → Front c p n kept None
    ends z = let e = drop_all 0 kept (let w = length_window in omega arith) in record { reads = at c e; leaves = left c e; short = few }
      where
        at : (d : Bool) → kept ≡ [] → keeping d p n kept [] unclosed ≡ outcome [] (at_end (mark_at d))
        at true e = ap (λ (xs : List ℕ). reading_from p n xs closed) e
        at false e = ap (λ (xs : List ℕ). reading_from p n (xs ++ []) unclosed) e

        left : (d : Bool) → kept ≡ [] → unread (mark_at d) p n kept ≡ kept
        left true e = ap (unread closed p n) e ∙ sym e
        left false e = ap (unread unclosed p n) e ∙ sym e

    last_line : c ≡ true → 0 < length window → Front c p n kept (Some (record { content = by_words p n (words line); length = length line }))
    last_line e z = subst (λ d. Front d p n kept (Some (record { content = by_words p n (words line); length = length line }))) (sym e) (record {
      some = omega arith;
      inside = let l = front_length line_end window in let w = length_window in omega arith;
      reads = λ t m.
          unfinished closed ∙ ap (λ s. read_lines p n (cond s (kept ∷ []) []) Ended) some_kept
          ∙ ap (λ g. and_on p n g (λ next. outcome [] Ended)) content
          ∙ ap (λ (xs : List ℕ). and_on p n (in_time p (by_words p n (words line))) (λ next. reading_from (suc p) next xs closed)) (sym none_left);
      leaves = ap (unread_pieces closed p n) one_piece ∙ ap (λ s. cond s (after_line (line_content p n kept) kept [] []) []) some_kept
          ∙ ap (λ g. after_line g kept [] []) content
          ∙ ap (λ (xs : List ℕ). after_line (in_time p (by_words p n (words line))) kept xs (unread closed (suc p) n xs)) (sym none_left);
    })
      where
        some_of : (xs : List ℕ) → 0 < length xs → some_bytes xs ≡ true
        some_of [] y = absurd (let q : ⊥ = omega arith in q)
        some_of (b ∷ xs) y = refl

        some_kept : some_bytes kept ≡ true
        some_kept = some_of kept (let w = length_window in omega arith)

        content : line_content p n kept ≡ in_time p (by_words p n (words line))
        content = short_content p n kept few ∙ ap (λ (xs : List ℕ). in_time p (by_words p n (words xs))) (sym (whole_front kept open_end) ∙ ap (front line_end) (sym all_kept))

        none_left : drop (length line) kept ≡ []
        none_left = drop_all (length line) kept (let w = length_window in omega arith)

-- What was read of the first `size` bytes kept: the line there holds f and ends at a.
pub record Looked (p n : ℕ) (kept : List ℕ) (size : ℕ) (f : LineContent) (a : ℕ) : Type 0 where
  pub sized : size ≡ min (length kept) 128
  pub content : f ≡ by_words p n (words (front line_end (take (size - 0) kept)))
  pub stop : a ≡ length (front line_end (take (size - 0) kept))

module _ (c : Bool) (p n : ℕ) (kept : List ℕ) (size : ℕ) (f : LineContent) (a : ℕ) (looked : Looked p n kept size f a) where
  abbrev window : List ℕ
  window = take (size - 0) kept

  window_is : window ≡ take 128 kept
  window_is = let s = looked.sized in by s (cases_lt (length kept) 128)
    where
      by : size ≡ min (length kept) 128 → (length kept < 128) ⊎ (128 ≤ length kept) → take (size - 0) kept ≡ take 128 kept
      by s (inl h) = take_all (size - 0) kept (omega arith) ∙ sym (take_all 128 kept (omega arith))
      by s (inr h) = ap (λ (k : ℕ). take k kept) (let e : size - 0 ≡ 128 = omega arith in e)

  window_size : length window ≡ size
  window_size = let s = looked.sized in let e = ap length window_is in let l = length-take 128 kept in omega arith

  at_most : size ≤ 128
  at_most = let s = looked.sized in omega arith

  pub front_complete : a < size → Front c p n kept (Some (record { content = f; length = a + 1 }))
  front_complete h =
      let w = window_size in
      let m = at_most in
      let s = looked.stop in
      subst (λ (g : LineContent). Front c p n kept (Some (record { content = g; length = a + 1 }))) (sym looked.content)
      (subst (λ (k : ℕ). Front c p n kept (Some (record { content = by_words p n (words (front line_end window)); length = k + 1 }))) (sym s)
      (takes_line c p n kept window window_is (omega arith) (omega arith)))

  pub front_long : size ≤ a → leb 128 size ≡ true → Front c p n kept (Some (record { content = Err LineTooLong; length = 128 }))
  front_long h k = let w = window_size in let m = at_most in let l = leb-true 128 size k in let s = looked.stop in too_long c p n kept window window_is (omega arith) (omega arith)

  pub front_last : size ≤ a → leb 128 size ≡ false → c ≡ true → 0 < size → Front c p n kept (Some (record { content = f; length = a }))
  front_last h k e z =
      let w = window_size in
      let l = leb-false 128 size k in
      let s = looked.stop in
      subst (λ (g : LineContent). Front c p n kept (Some (record { content = g; length = a }))) (sym looked.content)
      (subst (λ (j : ℕ). Front c p n kept (Some (record { content = by_words p n (words (front line_end window)); length = j }))) (sym s)
      (last_line c p n kept window window_is (omega arith) (omega arith) e (omega arith)))

  pub front_none : size ≤ a → leb 128 size ≡ false → (c ≡ false) ⊎ (size ≤ 0) → Front c p n kept None
  front_none h k (inl e) = let w = window_size in let l = leb-false 128 size k in let s = looked.stop in waits c p n kept window window_is (omega arith) (omega arith) e
  front_none h k (inr z) = let w = window_size in let l = leb-false 128 size k in let s = looked.stop in ends c p n kept window window_is (omega arith) (omega arith) (omega arith)
