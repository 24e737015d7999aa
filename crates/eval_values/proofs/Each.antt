-- The same evaluation of each element of a list, from left to right, in a loop that gathers what it finds.
use Rattle.std.proofs.Common.{arith, ◌≡◌, ℕ, List, [], ◌∷◌, ◌++◌, map, refl, ap, ◌∙◌, sym, subst, append_assoc, ◌<◌, ◌+◌, length, get_or, drop, Vec, Global, Result, Ok, Err}
use Rattle.std.proofs.lemmas.List.{append-nil}
use Rattle.js_store.specs.State.{State}
use Rattle.js_store.specs.declared.faults.StoreFault.TheVariants.{Memory}
use Rattle.js_store.proofs.Laws.{step_refl}
use Rattle.eval_values.specs.declared.value.Stop.{Stop}
use Rattle.eval_values.specs.declared.value.Stop.TheVariants.{Store}
use Rattle.eval_values.specs.Outcome.{Ledger, Out, gave, ended, free, after_ledger, bind, mapped, each, ledger_of}
use Rattle.js_texts.specs.Texts.{Every}
use Rattle.eval_values.specs.Ran.{ComesTo}
use Rattle.js_texts.proofs.Lists.{drop_at, every_map}
use Rattle.eval_values.proofs.Compose.{did_bind, did_stop, cut_of_memory}
use Rattle.js_texts.proofs.Lists.{map_same}

every_push : {A : Type 0} (P : A → Type 0) (xs : List A) (x : A) → Every P xs → P x → Every P (xs ++ x ∷ [])
every_push P [] x h k = (k, tt)
every_push P (y ∷ xs) x h k = (h.0, every_push P xs x h.1 k)

map_push : {A B : Type 0} (f : A → B) (xs : List A) (x : A) → map f (xs ++ x ∷ []) ≡ map f xs ++ f x ∷ []
map_push f [] x = refl
map_push f (y ∷ xs) x = cc (map_push f xs x)

-- the same, behind the values that were found
abbrev pub each_behind : {X A : Type 0} → (X → Out A) → List X → List A → Out (List A)
each_behind f [] found = gave found free
each_behind f (x ∷ xs) found = bind (f x) (λ a. each_behind f xs (found ++ a ∷ []))

module _ {F V A X : Type 0} (see : State F → V → A) (fine : State F → V → Type 0)
    (a b : State F) (f : X → Out A) (vs : List V) (xs : List X) (i : ℕ) (x : X) (l : i < length xs) (p : x ≡ get_or xs i x) where
  -- one element, and then those after it
  pub each_turn : (c : State F) (v : V) (r : Result (Vec V Global) Stop) → ((w : V) → fine a w → see b w ≡ see a w) → Every (λ w. fine a w)
      vs → ComesTo a b see fine (Ok v) (f x) → ComesTo b c (λ s (w : Vec V Global). map (λ y. see s y) w.items)
      (λ s (w : Vec V Global). Every (λ y. fine s y) w.items) r (each_behind f (drop (i + 1) xs) (map (λ y. see b y) (vs ++ v ∷ []))) →
      ComesTo a c (λ s (w : Vec V Global). map (λ y. see s y) w.items) (λ s (w : Vec V Global). Every (λ y. fine s y) w.items) r
      (each_behind f (drop i xs) (map (λ y. see a y) vs))
  each_turn c v r g h d k =
      let same : map (λ y. see b y) (vs ++ v ∷ []) ≡ map (λ y. see a y) vs ++ see b v ∷ [] = map_push (λ y. see b y) vs v ∙ ap (λ q. q ++ see b v ∷ []) (map_same g vs h) in
      subst (λ (q : List X). ComesTo a c (λ s (w : Vec V Global). map (λ y. see s y) w.items)
      (λ s (w : Vec V Global). Every (λ y. fine s y) w.items) r (each_behind f q (map (λ y. see a y) vs))) (sym (drop_at xs i x l p))
      (did_bind a b c see fine (λ s (w : Vec V Global). map (λ y. see s y) w.items) (λ s (w : Vec V Global). Every (λ y. fine s y) w.items)
      v r (f x) (λ w. each_behind f (drop (i + 1) xs) (map (λ y. see a y) vs ++ w ∷ [])) d
      (subst (λ (q : List A). ComesTo b c (λ s (w : Vec V Global). map (λ y. see s y) w.items) (λ s (w : Vec V Global). Every (λ y. fine s y) w.items) r (each_behind f (drop (i + 1) xs) q)) same k))

  pub each_halt : (n : Stop) → ComesTo a b see fine (Err n) (f x) → ComesTo a b (λ s (w : Vec V Global). map (λ y. see s y) w.items)
      (λ s (w : Vec V Global). Every (λ y. fine s y) w.items) (Err n) (each_behind f (drop i xs) (map (λ y. see a y) vs))
  each_halt n d =
      subst (λ (q : List X). ComesTo a b (λ s (w : Vec V Global). map (λ y. see s y) w.items)
      (λ s (w : Vec V Global). Every (λ y. fine s y) w.items) (Err n) (each_behind f q (map (λ y. see a y) vs))) (sym (drop_at xs i x l p))
      (did_stop {W = Vec V Global} a b see fine (λ s (w : Vec V Global). map (λ y. see s y) w.items)
      (λ s (w : Vec V Global). Every (λ y. fine s y) w.items) n (f x) (λ w. each_behind f (drop (i + 1) xs) (map (λ y. see a y) vs ++ w ∷ [])) d)

  -- an element, and no room to note its value
  pub each_full : (v : V) → ComesTo a b see fine (Ok v) (f x) → ComesTo a b (λ s (w : Vec V Global). map (λ y. see s y) w.items)
      (λ s (w : Vec V Global). Every (λ y. fine s y) w.items) (Err (Store Memory)) (each_behind f (drop i xs) (map (λ y. see a y) vs))
  each_full v d =
      subst (λ (q : List X). ComesTo a b (λ s (w : Vec V Global). map (λ y. see s y) w.items)
      (λ s (w : Vec V Global). Every (λ y. fine s y) w.items) (Err (Store Memory)) (each_behind f q (map (λ y. see a y) vs))) (sym (drop_at xs i x l p))
      (did_bind {W = Vec V Global} a b b see fine (λ s (w : Vec V Global). map (λ y. see s y) w.items)
      (λ s (w : Vec V Global). Every (λ y. fine s y) w.items) v (Err (Store Memory)) (f x)
      (λ w. each_behind f (drop (i + 1) xs) (map (λ y. see a y) vs ++ w ∷ [])) d
      (cut_of_memory (ledger_of (each_behind f (drop (i + 1) xs) (map (λ y. see a y) vs ++ see b v ∷ []))) (step_refl b) refl (omega arith) (omega arith)))

  pub fine_turn : (v : V) → ((w : V) → fine a w → fine b w) → Every (λ w. fine a w) vs → fine b v → Every (λ w. fine b w) (vs ++ v ∷ [])
  fine_turn v g h k = every_push (λ w. fine b w) vs v (every_map g vs h) k

pub bind_same : {A B : Type 0} (o : Out A) (f g : A → Out B) → ((a : A) → f a ≡ g a) → bind o f ≡ bind o g
bind_same (gave x l) f g h = ap (λ o. after_ledger l o) (h x)
bind_same (ended e l) f g h = refl

-- what is made of a value is made of it behind other evaluations too
mapped_after : {A B : Type 0} (h : A → B) (l : Ledger) (o : Out A) → mapped h (after_ledger l o) ≡ after_ledger l (mapped h o)
mapped_after h l (gave x m) = refl
mapped_after h l (ended e m) = refl

mapped_bind : {A B C : Type 0} (h : B → C) (o : Out A) (go : A → Out B) → mapped h (bind o go) ≡ bind o (λ a. mapped h (go a))
mapped_bind h (gave x l) go = mapped_after h l (go x)
mapped_bind h (ended e l) go = refl

mapped_twice : {A B C : Type 0} (h : B → C) (k : A → B) (o : Out A) → mapped h (mapped k o) ≡ mapped (λ x. h (k x)) o
mapped_twice h k (gave x l) = refl
mapped_twice h k (ended e l) = refl

mapped_same : {A B : Type 0} (h k : A → B) (o : Out A) → ((x : A) → h x ≡ k x) → mapped h o ≡ mapped k o
mapped_same h k (gave x l) same = ap (λ y. gave y l) (same x)
mapped_same h k (ended e l) same = refl

mapped_as_is : {A : Type 0} (o : Out A) → mapped (λ x. x) o ≡ o
mapped_as_is (gave x l) = refl
mapped_as_is (ended e l) = refl

-- behind values that were found stand those of the rest
behind_found : {X A : Type 0} (f : X → Out A) (xs : List X) (found : List A) → each_behind f xs found ≡ mapped (λ ys. found ++ ys) (each f xs)
behind_found f [] found = ap (λ q. gave q free) (sym (append-nil found))
behind_found f (x ∷ xs) found =
    bind_same (f x) _ _ (λ a.
    behind_found f xs (found ++ a ∷ [])
    ∙ (mapped_same (λ ys. (found ++ a ∷ []) ++ ys) (λ ys. found ++ (a ∷ ys)) (each f xs) (λ ys. append_assoc found (a ∷ []) ys) ∙ sym (mapped_twice (λ ys. found ++ ys) (λ ys. a ∷ ys) (each f xs))))
    ∙ sym (mapped_bind (λ ys. found ++ ys) (f x) (λ a. mapped (λ ys. a ∷ ys) (each f xs)))

pub each_is : {X A : Type 0} (f : X → Out A) (xs : List X) → each f xs ≡ each_behind f xs []
each_is f xs = sym (behind_found f xs [] ∙ mapped_as_is (each f xs))

behind_map : {X Y A : Type 0} (f : Y → Out A) (g : X → Y) (xs : List X) (found : List A) → each_behind f (map g xs) found ≡ each_behind (λ x. f (g x)) xs found
behind_map f g [] found = refl
behind_map f g (x ∷ xs) found = bind_same (f (g x)) _ _ (λ a. behind_map f g xs (found ++ a ∷ []))

pub each_map : {X Y A : Type 0} (f : Y → Out A) (g : X → Y) (xs : List X) → each f (map g xs) ≡ each_behind (λ x. f (g x)) xs []
each_map f g xs = each_is f (map g xs) ∙ behind_map f g xs []
