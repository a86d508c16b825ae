-- One next of a text reader leaves no more bytes unread than it found.
use Rattle.std.proofs.Common.{◌≡◌, ℕ, suc, ◌≤◌, Bool, true, false, cond, List, [], ◌∷◌, length, Some, None, Ok, Err, arith, length-append, subst, sym}
use Rattle.std.proofs.lemmas.List.Splits.{join_with_byte-slice_split}
use Rattle.mesh_stream.specs.Meaning.{Mark, unclosed, closed}
use Rattle.mesh_reader.specs.declared.reader.TextReader.{TextReader}
use Rattle.mesh_reader.specs.Text.{pieces, some_bytes, line_end}
use Rattle.mesh_reader.specs.Reading.{LineContent, line_content, rejoined, after_line, unread_pieces, unread}
use Rattle.mesh_reader.specs.Readers.{kept, leaves}
use Rattle.mesh_reader.specs.Keeping.{mark_at}

-- whatever the line holds
after_at_most : (n : ℕ) (g : LineContent) (all behind later : List ℕ) → length all ≤ n → length behind ≤ n → length later ≤ n
    → length (after_line g all behind later) ≤ n
after_at_most n (Ok None) all behind later a b l = l
after_at_most n (Ok (Some e)) all behind later a b l = b
after_at_most n (Err x) all behind later a b l = a

last_at_most : (g : LineContent) (b : Bool) (rest : List ℕ) → length (cond b (after_line g rest [] []) []) ≤ length rest
last_at_most g true rest = after_at_most (length rest) g rest [] [] (omega arith) (omega arith) (omega arith)
last_at_most g false rest = omega arith

pieces_at_most : (m : Mark) (p n : ℕ) (ps : List (List ℕ)) → length (unread_pieces m p n ps) ≤ length (rejoined ps)
pieces_at_most m p n [] = omega arith
pieces_at_most unclosed p n (rest ∷ []) = omega arith
pieces_at_most closed p n (rest ∷ []) = last_at_most (line_content p n rest) (some_bytes rest) rest
pieces_at_most unclosed p n (line ∷ (next ∷ more)) =
    let h = pieces_at_most unclosed (suc p) n (next ∷ more) in
    after_at_most _ (line_content p n line) _ (rejoined (next ∷ more)) (unread_pieces unclosed (suc p) n (next ∷ more)) (omega arith)
    (omega (arith, length-append line (10 ∷ rejoined (next ∷ more)))) (omega (arith, h, length-append line (10 ∷ rejoined (next ∷ more))))
pieces_at_most closed p n (line ∷ (next ∷ more)) =
    let h = pieces_at_most closed (suc p) n (next ∷ more) in
    after_at_most _ (line_content p n line) _ (rejoined (next ∷ more)) (unread_pieces closed (suc p) n (next ∷ more)) (omega arith)
    (omega (arith, length-append line (10 ∷ rejoined (next ∷ more)))) (omega (arith, h, length-append line (10 ∷ rejoined (next ∷ more))))

unread_at_most : (m : Mark) (p n : ℕ) (bytes : List ℕ) → length (unread m p n bytes) ≤ length bytes
unread_at_most m p n bytes =
    subst (λ (all : List ℕ). length (unread m p n bytes) ≤ length all) (join_with_byte-slice_split 10 bytes)
    (pieces_at_most m p n (pieces line_end bytes))

pub keeps_no_more : (r s : TextReader) → kept s ≡ leaves r → length (kept s) ≤ length (kept r)
keeps_no_more r s e =
    subst (λ (bytes : List ℕ). length bytes ≤ length (kept r)) (sym e)
    (unread_at_most (mark_at r.closed) r.next.line r.next.vertex (kept r))
