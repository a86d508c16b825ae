-- What a list accepted under a limit is bounded by, and other limits under which it is accepted.
use Rattle.std.proofs.Common.{◌≡◌, ℕ, ◌+◌, ◌<◌, ◌≤◌, true, false, not, eqb, leb, ◌⊎◌, List, [], ◌∷◌, ◌++◌, length, None, sym, refl, ap, ◌∙◌, subst, inl, inr, append_assoc, append-nil, arith, length-append}
use Rattle.std.proofs.lemmas.Bool.{and_parts, both_ways, leb-true, eqb-true, or_cases}
use Rattle.mesh_stream.specs.declared.event.Event.{Event}
use Rattle.mesh_stream.specs.declared.event.Event.TheVariants.{Vertex, Triangle, Finalization}
use Rattle.mesh_stream.specs.declared.event.Point.{Point}
use Rattle.mesh_stream.specs.Lists.{has, above_all}
use Rattle.mesh_stream.specs.Events.{introduced}
use Rattle.mesh_stream.specs.Live.{live, width, width_after}
use Rattle.mesh_stream.specs.Ranges.{in_space, vertex_number}
use Rattle.mesh_stream.proofs.Having.{has_cases, has_self, not_has_nil, above_has}
use Rattle.mesh_stream.proofs.Views.{introduced_v, introduced_t, introduced_f}
use Rattle.mesh_judge.specs.Accepting.{refusal, Accepted, AcceptedAfter}
use Rattle.mesh_judge.proofs.Refusing.{vertex_ok}
use Rattle.mesh_judge.proofs.Living.{live_vertex, live_triangle, live_final}
use Rattle.mesh_judge.proofs.Sounding.{Sound, new_not_final, sound_step}
use Rattle.mesh_rules.proofs.Having.{kept_len, has_right, above_from}
use Rattle.mesh_rules.proofs.Refusing.{ok_vertex}

-- the numbers of a list are few, as they rise from 1 on, and small
pub record Numbers (ns : List ℕ) : Type 0 where
  pub counts : (n : ℕ) → above_all n ns ≡ true → 1 ≤ n → length ns < n
  pub small : (n : ℕ) → has n ns ≡ true → n ≤ 100000000

numbers_push : (ns : List ℕ) (n : ℕ) → Numbers ns → above_all n ns ≡ true → vertex_number n ≡ true → Numbers (ns ++ (n ∷ []))
numbers_push ns n s a v =
    let vn = and_parts (leb 1 n) (leb n 100000000) v in
    let less = s.counts n a (leb-true 1 n vn.0) in
    record {
      counts = λ m b g.
          let t = above_has m (ns ++ (n ∷ [])) b n (has_right n ns (n ∷ []) (has_self n [])) in omega (arith, length-append ns (n ∷ []));
      small = λ m h. old m (leb-true n 100000000 vn.1) (has_cases m ns (n ∷ []) h);
    }
  where
    old : (m : ℕ) → n ≤ 100000000 → (has m ns ≡ true) ⊎ (has m (n ∷ []) ≡ true) → m ≤ 100000000
    old m le (inl q) = s.small m q
    old m le (inr q) = elim (or_cases (eqb m n) false q) [ inl e ↦ omega (arith, eqb-true m n e) | inr e ↦ absurd (both_ways false refl e) ]

-- After every list accepted under a limit.
pub record Bounded (limit : ℕ) (es : List Event) : Type 0 where
  pub bound : length (live es) ≤ limit
  pub sound : Sound es
  pub numbers : Numbers (introduced es)

pub bounded_none : (limit : ℕ) → Bounded limit []
bounded_none limit = record {
  bound = omega arith;
  sound = record { born = λ n h. h; differ = tt };
  numbers = record { counts = λ n a h. h; small = λ n h. absurd (not_has_nil n h) };
}

module _ (limit : ℕ) (es : List Event) (s : Bounded limit es) where
  live_more : (l n : ℕ) (v : Point) → above_all n (introduced es) ≡ true → length (live (es ++ (Vertex l n v ∷ []))) ≡ length (live es) + 1
  live_more l n v a = ap length (live_vertex es l n v (new_not_final es s.sound n a)) ∙ length-append (live es) (n ∷ [])

  pub bounded_step : (e : Event) → refusal limit es e ≡ None → Bounded limit (es ++ (e ∷ []))
  bounded_step (Vertex l n v) h =
      let k = vertex_ok limit es l n v h in
      let number = (and_parts (in_space v) (vertex_number n) k.in_range).1 in
      record {
        bound = omega (arith, k.room, live_more l n v k.above);
        sound = sound_step es s.sound limit (Vertex l n v) h;
        numbers = subst Numbers (sym (introduced_v es l n v)) (numbers_push (introduced es) n s.numbers k.above number);
      }
  bounded_step (Triangle l a b c) h = record {
    bound = omega (arith, s.bound, ap length (live_triangle es l a b c));
    sound = sound_step es s.sound limit (Triangle l a b c) h;
    numbers = subst Numbers (sym (introduced_t es l a b c)) s.numbers;
  }
  bounded_step (Finalization l i) h = record {
    bound = omega (arith, s.bound, ap length (live_final es l i), kept_len (λ n. not (eqb n i)) (live es));
    sound = sound_step es s.sound limit (Finalization l i) h;
    numbers = subst Numbers (sym (introduced_f es l i)) s.numbers;
  }

pub bounded_after : (limit : ℕ) (es before : List Event) → Bounded limit before → AcceptedAfter (refusal limit) before es
    → Bounded limit (before ++ es)
bounded_after limit [] before s h = subst (Bounded limit) (sym (append-nil before)) s
bounded_after limit (e ∷ es) before s (a, h) =
    subst (Bounded limit) (append_assoc before (e ∷ []) es) (bounded_after limit es (before ++ (e ∷ [])) (bounded_step limit before s e a) h)

pub bounded : (limit : ℕ) (es : List Event) → Accepted (refusal limit) es → Bounded limit es
bounded limit es h = bounded_after limit es [] (bounded_none limit) h

pub few_introduced : (limit : ℕ) (es : List Event) → Bounded limit es → length (introduced es) ≤ 100000000
few_introduced limit es s =
    let a = above_from 100000001 (introduced es) (λ n h. let k = s.numbers.small n h in omega arith) in
    let l : length (introduced es) < 100000001 = s.numbers.counts 100000001 a (omega arith) in omega arith

-- The width of an accepted list is within the limit, and the list is accepted under any limit that its width is within.
pub width_within : (limit : ℕ) (es before : List Event) → Bounded limit before → AcceptedAfter (refusal limit) before es
    → width_after before es ≤ limit
width_within limit [] before s h = omega arith
width_within limit (e ∷ es) before s (a, h) =
    let t = bounded_step limit before s e a in
    let w = width_within limit es (before ++ (e ∷ [])) t h in omega (arith, t.bound)

pub relimit : (limit other : ℕ) (es before : List Event) → Bounded limit before → AcceptedAfter (refusal limit) before es
    → width_after before es ≤ other → AcceptedAfter (refusal other) before es
relimit limit other [] before s h w = tt
relimit limit other (e ∷ es) before s (a, h) w =
    (here e a (omega arith), relimit limit other es (before ++ (e ∷ [])) (bounded_step limit before s e a) h (omega arith))
  where
    here : (x : Event) → refusal limit before x ≡ None → length (live (before ++ (x ∷ []))) ≤ other → refusal other before x ≡ None
    here (Vertex l n v) b m =
        let k = vertex_ok limit before l n v b in
        let lv = live_more limit before s l n v k.above in
        ok_vertex other before l n v (record { in_range = k.in_range; above = k.above; room = omega arith })
    here (Triangle l a b c) k m = k
    here (Finalization l i) k m = k

-- So what keeps a list accepted under each limit does not widen it.
pub never_wider : (R : List Event → List Event) (limit : ℕ) (es : List Event)
    → ((k : ℕ) → Accepted (refusal k) es → Accepted (refusal k) (R es))
    → Accepted (refusal limit) es → width (R es) ≤ width es
never_wider R limit es keeps h =
    let k = keeps (width es) (relimit limit (width es) es [] (bounded_none limit) h (omega arith)) in
    width_within (width es) (R es) [] (bounded_none (width es)) k
