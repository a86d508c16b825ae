-- Every run of a stage follows what that stage makes of what a bottom gives.
use Rattle.std.proofs.Common.{◌≡◌, ℕ, ◌+◌, List, [], ◌∷◌, ◌++◌, length, length-append, sym, ap, ◌∙◌, append-nil, arith}
use Rattle.mesh_stream.specs.declared.event.Event.{Event}
use Rattle.mesh_stream.specs.declared.stage.Standing.{Standing}
use Rattle.mesh_stream.specs.Meaning.{unclosed, Outcome, outcome, Meaning, Same}
use Rattle.mesh_stream.specs.Runs.{View, Call, Run, taken, handed, mark_of, prepends}
use Rattle.mesh_stream.proofs.Running.{left}
use Rattle.mesh_layer.specs.Law.{MakesOf, Gives, Idles, whole, Follows}

module _ {I : Type 0} (F : Outcome Event → Outcome I) where
  module _ (G : Meaning Event) (v : View I) (p : MakesOf F G v) (cs : List (Call I)) (w : View I) (r : Run v cs w) where
    -- what is left of the whole-mesh list is what is still to come
    pub whole_left : whole F G cs w ≡ prepends (handed cs) (w.means [] unclosed)
    whole_left = sym (p (taken cs) (mark_of w.port)) ∙ (left cs v w r).now_left

    used_up : (s : Standing) → Idles w s → (handed cs ≡ (whole F G cs w).items) × (s ≡ (whole F G cs w).stands)
    used_up s (u, i) =
        let e : whole F G cs w ≡ prepends (handed cs) (outcome [] s) = whole_left ∙ ap (prepends (handed cs)) i.none in
        (sym (ap (λ (o : Outcome I). o.items) e ∙ append-nil (handed cs)), sym (ap (λ (o : Outcome I). o.stands) e))

    not_used_up : (i : I) → Gives w i → handed cs ≡ (whole F G cs w).items → ⊥
    not_used_up i (u, g) h =
        let rest : List I = i ∷ (u.means [] unclosed).items in
        let q : handed cs ≡ handed cs ++ rest = h ∙ ap (λ (o : Outcome I). o.items) (whole_left ∙ ap (prepends (handed cs)) (g.first [] unclosed)) in
        let z : length (handed cs) ≡ length (handed cs) + length rest = ap length q ∙ length-append (handed cs) rest in
        omega arith

  pub follows : (G : Meaning Event) (v : View I) → MakesOf F G v → (cs : List (Call I)) (w : View I) → Run v cs w → Follows F G cs w
  follows G v p cs w r = record {
    begins = ((w.means [] unclosed).items, ap (λ (o : Outcome I). o.items) (whole_left G v p cs w r));
    begins_any = λ n u m. ((w.means u m).items, ap (λ (o : Outcome I). o.items) (sym (p (taken cs ++ u) m) ∙ (left cs v w r).still_left n u m));
    used_up = used_up G v p cs w r;
    not_used_up = not_used_up G v p cs w r;
    alike = alike;
  }
    where
      alike : (H : Meaning Event) (y x : View I) (ds : List (Call I)) (s z : Standing) → Same G H → MakesOf F H y → Run y ds x
          → taken ds ≡ taken cs → mark_of x.port ≡ mark_of w.port → Idles w s → Idles x z → (handed ds ≡ handed cs) × (z ≡ s)
      alike H y x ds s z g q k a b i j =
          let one = used_up G v p cs w r s i in
          let two = used_up H y q ds x k z j in
          let same : whole F H ds x ≡ whole F G cs w =
          ap F (ap (λ (c : List ℕ). H c (mark_of x.port)) a ∙ ap (H (taken cs)) b ∙ g (taken cs) (mark_of w.port)) in
          (two.0 ∙ ap (λ (o : Outcome I). o.items) same ∙ sym one.0, two.1 ∙ ap (λ (o : Outcome I). o.stands) same ∙ sym one.1)
