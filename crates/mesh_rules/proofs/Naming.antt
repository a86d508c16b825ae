-- Every number that an accepted list names is one that it introduces, so what goes by its vertices alone is settled by it.
use Rattle.std.proofs.Common.{◌≡◌, ℕ, Bool, true, cond, List, [], ◌∷◌, ◌++◌, map, filter, refl, ap, ◌∙◌, subst, append_assoc}
use Rattle.std.specs.List.{AllByRecursion as All}
use Rattle.mesh_stream.specs.declared.event.Event.{Event}
use Rattle.mesh_stream.specs.declared.event.Event.TheVariants.{Vertex, Triangle, Finalization}
use Rattle.mesh_stream.specs.Lists.{has}
use Rattle.mesh_stream.specs.Events.{introduced}
use Rattle.mesh_stream.specs.Live.{is_live}
use Rattle.mesh_stream.proofs.Having.{has_left, has_self}
use Rattle.mesh_stream.proofs.Views.{introduced-++}
use Rattle.mesh_judge.proofs.Living.{live_introduced}
use Rattle.mesh_rules.proofs.Having.{has_right}
use Rattle.mesh_rules.proofs.Numbering.{Loose, Loosely}

abbrev pub Known : List ℕ → Event → Type 0
Known ns (Vertex l n v) = has n ns ≡ true
Known ns (Triangle l a b c) = (has a ns ≡ true) × (has b ns ≡ true) × (has c ns ≡ true)
Known ns (Finalization l i) = has i ns ≡ true

known_after : (limit : ℕ) (es before : List Event) → Loosely limit before es → All (Known (introduced (before ++ es))) es
known_after limit [] before h = tt
known_after limit (e ∷ es) before (a, h) =
    let k = known_after limit es (before ++ (e ∷ [])) h in
    (here e a, subst (λ (z : List Event). All (Known (introduced z)) es) (append_assoc before (e ∷ []) es) k)
  where
    old : (x : Event) (n : ℕ) → is_live before n ≡ true → has n (introduced (before ++ (x ∷ es))) ≡ true
    old x n k =
        ap (has n) (introduced-++ before (x ∷ es)) ∙ has_left n (introduced before) (introduced (x ∷ es)) (live_introduced before n k)

    here : (x : Event) → Loose limit before x → Known (introduced (before ++ (x ∷ es))) x
    here (Vertex l n v) k =
        ap (has n) (introduced-++ before (Vertex l n v ∷ es))
        ∙ has_right n (introduced before) (n ∷ introduced es) (has_self n (introduced es))
    here (Triangle l a b c) k = (old (Triangle l a b c) a k.first, old (Triangle l a b c) b k.second, old (Triangle l a b c) c k.third)
    here (Finalization l i) k = old (Finalization l i) i k

pub all_known : (limit : ℕ) (es : List Event) → Loosely limit [] es → All (Known (introduced es)) es
all_known limit es h = known_after limit es [] h

-- what agrees on each element of a list
module _ {X : Type 0} (P : X → Type 0) where
  pub filter_agree_on : (p q : X → Bool) → ((x : X) → P x → p x ≡ q x) → (xs : List X) → All P xs → filter p xs ≡ filter q xs
  filter_agree_on p q h [] k = refl
  filter_agree_on p q h (x ∷ xs) (a, k) =
      ap (λ b. cond b (x ∷ filter p xs) (filter p xs)) (h x a) ∙ ap (λ (z : List X). cond (q x) (x ∷ z) z) (filter_agree_on p q h xs k)

  pub map_agree_on : {Y : Type 0} (f g : X → Y) → ((x : X) → P x → f x ≡ g x) → (xs : List X) → All P xs → map f xs ≡ map g xs
  map_agree_on f g h [] k = refl
  map_agree_on {Y} f g h (x ∷ xs) (a, k) = ap (λ (z : Y). z ∷ map f xs) (h x a) ∙ ap (λ (z : List Y). g x ∷ z) (map_agree_on f g h xs k)
