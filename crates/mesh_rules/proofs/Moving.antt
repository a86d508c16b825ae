-- What compact hands over, beside what it took: vertices move in before the triangle that first names them.
use Rattle.std.proofs.Common.{◌≡◌, ℕ, suc, ◌≤◌, ◌<◌, Bool, true, false, cond, not, ◌||◌, eqb, ◌⊎◌, List, [], ◌∷◌, ◌++◌, length, sym, refl, ap, ◌∙◌, subst, inl, inr, append_assoc, append-nil, arith}
use Rattle.std.proofs.lemmas.Bool.{both_ways, eqb-true, or_cases, or_left, or_right, false_from_ne_true}
use Rattle.std.specs.List.{flat_map}
use Rattle.mesh_stream.specs.declared.event.Point.{Point}
use Rattle.mesh_stream.specs.declared.event.Event.{Event}
use Rattle.mesh_stream.specs.declared.event.Event.TheVariants.{Vertex}
use Rattle.mesh_stream.specs.Lists.{has}
use Rattle.mesh_stream.specs.Events.{introduced, finalized, triangles}
use Rattle.mesh_stream.specs.Live.{live, is_live}
use Rattle.mesh_rules.specs.Rewriting.{named, introduction, unseen}
use Rattle.mesh_stream.proofs.Having.{Within, has_self}
use Rattle.mesh_stream.proofs.Views.{introduced_v, finalized_v, triangles_v}
use Rattle.mesh_stream.proofs.Distinct.{Distinct, distinct_push, distinct_kept}
use Rattle.mesh_judge.proofs.Living.{live_introduced}
use Rattle.mesh_rules.proofs.Having.{has-++}
use Rattle.mesh_rules.proofs.Distinct.{no_more}
use Rattle.mesh_rules.proofs.Living.{live_not_final, live_from}
use Rattle.mesh_rules.proofs.Numbering.{Loose, Loosely}
use Rattle.mesh_rules.proofs.Introducing.{Introduced}

-- As `Loosely`, with what holds at the end.
abbrev pub Leads : ℕ → (List Event → Type 0) → List Event → List Event → Type 0
Leads limit Q before [] = Q before
Leads limit Q before (e ∷ es) = Loose limit before e × Leads limit Q (before ++ (e ∷ [])) es

pub leads_loosely : (limit : ℕ) (Q : List Event → Type 0) (es before : List Event) → Leads limit Q before es
    → Loosely limit before es × Q (before ++ es)
leads_loosely limit Q [] before h = (tt, subst Q (sym (append-nil before)) h)
leads_loosely limit Q (e ∷ es) before (a, h) =
    let r = leads_loosely limit Q es (before ++ (e ∷ [])) h in ((a, r.0), subst Q (append_assoc before (e ∷ []) es) r.1)

-- Of the list `all` the events `before` were taken, `out` was handed over for them, and triangles have named the vertices `seen`.
pub record Moving (all before out : List Event) (seen : List ℕ) : Type 0 where
  pub moved_in : (n : ℕ) → has n (introduced out) ≡ has n seen
  pub differ : Distinct (introduced out)
  pub finals : (n : ℕ) → has n (named all) ≡ true → has n (finalized out) ≡ has n (finalized before)
  pub as_many : triangles out ≡ triangles before
  pub known : Within seen (introduced before)
  pub wanted : Within seen (named all)
  pub all_seen : Within (named before) seen

or_end : (s b : Bool) → (s || (b || false)) ≡ (b || s)
or_end true true = refl
or_end true false = refl
or_end false true = refl
or_end false false = refl

or_swap : (b s t : Bool) → ((b || s) || t) ≡ (s || (b || t))
or_swap true true t = refl
or_swap true false t = refl
or_swap false s t = refl

or_none : (b : Bool) → b ≡ (b || false)
or_none true = refl
or_none false = refl

pub has_end : (n i : ℕ) (xs : List ℕ) → has n (xs ++ (i ∷ [])) ≡ (eqb n i || has n xs)
has_end n i xs = has-++ n xs (i ∷ []) ∙ or_end (has n xs) (eqb n i)

-- what a list has of which all but one are within it
with_one : (n : ℕ) (xs seen : List ℕ) → has n xs ≡ true → Within seen xs → Within (n ∷ seen) xs
with_one n xs seen k w m h = at (or_cases (eqb m n) (has m seen) h)
  where
    at : (eqb m n ≡ true) ⊎ (has m seen ≡ true) → has m xs ≡ true
    at (inl e) = ap (λ z. has z xs) (eqb-true m n e) ∙ k
    at (inr e) = w m e

module _ (all before : List Event) where
  pub same_seen : (out : List Event) (seen more : List ℕ) → ((n : ℕ) → has n seen ≡ has n more) → Moving all before out seen
      → Moving all before out more
  same_seen out seen more e w = record {
    moved_in = λ n. w.moved_in n ∙ e n;
    differ = w.differ;
    finals = w.finals;
    as_many = w.as_many;
    known = λ n h. w.known n (e n ∙ h);
    wanted = λ n h. w.wanted n (e n ∙ h);
    all_seen = λ n h. sym (e n) ∙ w.all_seen n h;
  }

  pub live_too : (out : List Event) (seen : List ℕ) → Moving all before out seen → Within (live out) (live before)
  live_too out seen w n h =
      let s : has n seen ≡ true = sym (w.moved_in n) ∙ live_introduced out n h in
      live_from before n (w.known n s) (sym (w.finals n (w.wanted n s)) ∙ live_not_final out n h)

  module _ (out : List Event) (seen : List ℕ) (w : Moving all before out seen) (n : ℕ) (new : has n seen ≡ false) where
    -- one vertex moved in
    move_in : (l : ℕ) (v : Point) → has n (introduced before) ≡ true → has n (named all) ≡ true
        → Moving all before (out ++ (Vertex l n v ∷ [])) (n ∷ seen)
    move_in l v is_known is_wanted = record {
      moved_in = λ m. ap (has m) (introduced_v out l n v) ∙ has_end m n (introduced out) ∙ ap (λ b. eqb m n || b) (w.moved_in m);
      differ = subst Distinct (sym (introduced_v out l n v)) (distinct_push (introduced out) n w.differ (w.moved_in n ∙ new));
      finals = λ m h. ap (has m) (finalized_v out l n v) ∙ w.finals m h;
      as_many = triangles_v out l n v ∙ w.as_many;
      known = with_one n (introduced before) seen is_known w.known;
      wanted = with_one n (named all) seen is_wanted w.wanted;
      all_seen = λ m h. or_right _ _ (w.all_seen m h);
    }

    -- there is room for it, as it is live below and not yet here
    room_for : is_live before n ≡ true → length (live out) < length (live before)
    room_for k =
        let l : suc (length (live out)) ≤ length (live before) =
        no_more (n ∷ live out) (live before) (absent, distinct_kept (λ m. not (has m (finalized out))) (introduced out) w.differ)
        (with_one n (live before) (live out) k (live_too out seen w)) in omega arith
      where
        absent : has n (live out) ≡ false
        absent = false_from_ne_true _ (λ h. both_ways (has n seen) new (sym (w.moved_in n) ∙ live_introduced out n h))

  -- The vertices of a triangle's corners that were not seen move in.
  module _ (limit : ℕ) (bound : length (live before) ≤ limit) (Q : List Event → Type 0) (tail : List Event)
      (once : (n : ℕ) → has n (introduced before) ≡ true → Introduced n all) where
    -- the tail may follow once these numbers were seen too
    abbrev Next : List ℕ → List ℕ → Type 0
    Next seen ns =
        (out : List Event) (more : List ℕ) → Moving all before out more
        → ((n : ℕ) → has n more ≡ (has n seen || has n ns)) → Leads limit Q out tail

    abbrev Goal : List Event → List ℕ → Type 0
    Goal out us = Leads limit Q out (flat_map (introduction all) us ++ tail)

    pub move_ins : (ns seen : List ℕ) (out : List Event) → Moving all before out seen
        → ((n : ℕ) → has n ns ≡ true → (is_live before n ≡ true) × (has n (named all) ≡ true)) → Next seen ns → Goal out (unseen seen ns)
    move_ins [] seen out w ok next = next out seen w (λ n. or_none (has n seen))
    move_ins (n ∷ ns) seen out w ok next =
        here (has n seen) refl (move_ins ns seen out w (λ m h. ok m (or_right _ _ h)))
        (λ l v x. move_ins ns (n ∷ seen) (out ++ (Vertex l n v ∷ [])) x (λ m h. ok m (or_right _ _ h)))
      where
        again : has n seen ≡ true → (m : ℕ) (b : Bool) → eqb m n ≡ b → (has m seen || has m ns) ≡ (has m seen || (b || has m ns))
        again k m true e = or_left _ _ (ap (λ z. has z seen) (eqb-true m n e) ∙ k) ∙ sym (or_right (has m seen) true refl)
        again k m false e = refl

        here : (b : Bool) → has n seen ≡ b → (Next seen ns → Goal out (unseen seen ns))
            → ((l : ℕ) (v : Point) → Moving all before (out ++ (Vertex l n v ∷ [])) (n ∷ seen) → Next (n ∷ seen) ns
            → Goal (out ++ (Vertex l n v ∷ [])) (unseen (n ∷ seen) ns))
            → Goal out (cond (has n seen) (unseen seen ns) (n ∷ unseen (n ∷ seen) ns))
        here true k old new =
            subst (λ b. Goal out (cond b (unseen seen ns) (n ∷ unseen (n ∷ seen) ns))) (sym k)
            (old (λ o more x e. next o more x (λ m. e m ∙ again k m (eqb m n) refl)))
        here false k old new =
            let o = ok n (has_self n ns) in
            let kn : has n (introduced before) ≡ true = live_introduced before n o.0 in
            let i = once n kn in
            let room = room_for out seen w n k o.0 in
            subst (λ b. Goal out (cond b (unseen seen ns) (n ∷ unseen (n ∷ seen) ns))) (sym k)
            (subst (λ (z : List Event). Leads limit Q out ((z ++ flat_map (introduction all) (unseen (n ∷ seen) ns)) ++ tail)) (sym i.it) (
              (i.fits, w.moved_in n ∙ k, omega arith),
              new i.place i.at (move_in out seen w n k i.place i.at kn o.1)
                  (λ o more x e. next o more x (λ m. e m ∙ or_swap (eqb m n) (has m seen) (has m ns))),
            ))
