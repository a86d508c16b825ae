-- One writing behind another.
use Rattle.std.proofs.Common.{◌≡◌, ℕ, ◌+◌, ◌-◌, ◌<◌, ℤ, pos, List, [], ◌∷◌, ◌++◌, get_or, length, take, drop, sym, ap, ◌∙◌, subst, arith}
use borrow.Rule.Slice.PartMut.{put_mid}
use Rattle.std.proofs.lemmas.List.{take_more, length-append, length-drop, take_at, drop_at, drop_all, drop-drop, take_rest, append_assoc, append-nil}
use Rattle.mesh_report.specs.Spelling.{entry, entry_lines, as_line}
use Rattle.mesh_report.specs.Writing.{Written}

-- The second writing goes into the rest of the buffer behind the first.
pub behind : (first second before mid part : List ℕ) (k j : ℕ) → Written first before k mid → Written second (take (length mid - k) (drop k mid)) j part → Written (first ++ second) before (k + j) (put_mid k (length mid - k) mid part)
behind first second before mid part k j w v =
    let rest : drop k mid ≡ drop k before = ap (drop k) w.bytes_then_rest ∙ drop_at first (drop k before) k (sym w.count) in
    let front : take k mid ≡ first = ap (take k) w.bytes_then_rest ∙ take_at first (drop k before) k (sym w.count) in
    let none : drop (length mid - k) (drop k mid) ≡ [] = drop_all (length mid - k) (drop k mid) (simp length-drop (omega arith)) in
    let part_is : part ≡ second ++ drop (k + j) before = v.bytes_then_rest ∙ ap (λ (l : List ℕ). second ++ drop j l) (take_rest mid k ∙ rest) ∙ ap (λ (l : List ℕ). second ++ l) (drop-drop j k before) in
    record {
      count = simp length-append (let p = w.count in let q = v.count in omega arith);
      bytes_then_rest = rw (front, part_is, none, append-nil) (sym (append_assoc first second (drop (k + j) before)));
    }

pub same_bytes : {bytes others before after : List ℕ} {k : ℕ} → bytes ≡ others → Written bytes before k after → Written others before k after
same_bytes {before = before} {after = after} {k = k} e w = subst (λ (bs : List ℕ). Written bs before k after) e w

entries_pushed : (es : List (List ℕ × ℤ)) (e : List ℕ × ℤ) → entry_lines (es ++ (e ∷ [])) ≡ entry_lines es ++ as_line (entry e.0 e.1)
entries_pushed [] e = append-nil _
entries_pushed (x ∷ es) e = ap (λ (l : List ℕ). as_line (entry x.0 x.1) ++ l) (entries_pushed es e) ∙ sym (append_assoc (as_line (entry x.0 x.1)) (entry_lines es) _)

-- The line of the next entry behind those of the entries before.
pub entry_more : (es : List (List ℕ × ℤ)) (i : ℕ) (word : List ℕ) (z y : ℤ) → i < length es → y ≡ z → (word, z) ≡ get_or es i ([], pos 0) → entry_lines (take i es) ++ as_line (entry word y) ≡ entry_lines (take (i + 1) es)
entry_more es i word z y l f e =
    ap (λ (x : ℤ). entry_lines (take i es) ++ as_line (entry word x)) f
    ∙ ap (λ (x : List ℕ × ℤ). entry_lines (take i es) ++ as_line (entry x.0 x.1)) e
    ∙ sym (ap entry_lines (take_more es i ([], pos 0) l) ∙ entries_pushed (take i es) (get_or es i ([], pos 0)))
