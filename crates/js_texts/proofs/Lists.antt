-- The strings of a list, one after another.
use Rattle.std.proofs.Common.{arith, add-one, drop-cons, ◌≡◌, ℕ, zero, suc, ◌+◌, ◌≤◌, ◌<◌, Bool, true, false, IsTrue, List, [], ◌∷◌, map, refl, subst, ap, sym}
use Rattle.std.proofs.Common.{◌∙◌, length, get_or, take, drop, ◌-◌, Result, Ok, Err, Some}
use Rattle.std.proofs.Math.Seq.{take-length}
use Rattle.std.proofs.lemmas.List.{length-drop}
use Rattle.std.proofs.lemmas.Option.{slice_get-get_or}
use Rattle.std.specs.Prelude.{OnOk, slice_get}
use Rattle.js_store.specs.State.{State, Grows, IsSettled, text}
use Rattle.js_store.specs.Rows.{settle_words}
use Rattle.js_store.specs.declared.faults.StoreFault.{StoreFault}
use Rattle.js_store.proofs.Laws.{known_still, text_still}
use Rattle.js_texts.specs.Texts.{Every, AllKnown, AllSettled, known_texts, settle_most}

pub drop_at : {X : Type 0} (xs : List X) (i : ℕ) (x : X) → i < length xs → x ≡ get_or xs i x → drop i xs ≡ x ∷ drop (i + 1) xs
drop_at xs i x h e = rw (add-one, drop-cons xs i x) (cc (sym e))

pub every_map : {A : Type 0} {P Q : A → Type 0} → ((x : A) → P x → Q x) → (xs : List A) → Every P xs → Every Q xs
every_map h [] e = tt
every_map h (x ∷ xs) e = (h x e.0, every_map h xs e.1)

pub every_drop : {A : Type 0} (P : A → Type 0) (xs : List A) (i : ℕ) → Every P xs → Every P (drop i xs)
every_drop P xs zero h = h
every_drop P [] (suc i) h = tt
every_drop P (x ∷ xs) (suc i) h = every_drop P xs i h.1

pub map_same : {A B : Type 0} {P : A → Type 0} {f g : A → B} → ((x : A) → P x → f x ≡ g x) → (xs : List A) → Every P xs → map f xs ≡ map g xs
map_same h [] e = refl
map_same h (x ∷ xs) e = cc (h x e.0, map_same h xs e.1)

pub every_get : {A : Type 0} (P : A → Type 0) (xs : List A) (i : ℕ) (x : A) → Every P xs → slice_get xs i ≡ Some x → P x
every_get P [] i x h e = cc
every_get P (y ∷ xs) zero x h e = let same : y ≡ x = cc in subst P same h.0
every_get P (y ∷ xs) (suc i) x h e = every_get P xs i x h.1 e

pub every_at : {A : Type 0} (P : A → Type 0) (xs : List A) (i : ℕ) (x : A) → Every P xs → i < length xs → x ≡ get_or xs i x → P x
every_at P xs i x h l e = every_get P xs i x h (slice_get-get_or xs i x l ∙ ap Some (sym e))

-- one more of the first elements
every_next : {A : Type 0} (P : A → Type 0) (xs : List A) (i : ℕ) (x : A) → i < length xs → x ≡ get_or xs i x → Every P (take i xs) → P x → Every P (take (suc i) xs)
every_next P [] i x l e h p = tt
every_next P (y ∷ xs) zero x l e h p = (subst P e p, tt)
every_next P (y ∷ xs) (suc i) x l e h p = (h.0, every_next P xs i x (omega (arith, l)) e h.1 p)

pub every_more : {A : Type 0} (P : A → Type 0) (xs : List A) (i : ℕ) (x : A) → i < length xs → x ≡ get_or xs i x → Every P (take i xs) → P x → Every P (take (i + 1) xs)
every_more P xs i x l e h p = rw add-one (every_next P xs i x l e h p)

-- all but the first, as a pattern gives them
pub rest_is : {A : Type 0} (xs : List A) → take (length xs - 1) (drop 1 xs) ≡ drop 1 xs
rest_is xs = ap (λ n. take n (drop 1 xs)) (sym (length-drop 1 xs)) ∙ take-length (drop 1 xs)

-- settling takes no more once strings are settled
settle_falls : (k l : Bool) (n : ℕ) → (IsTrue k → IsTrue l) → settle_words l n ≤ settle_words k n
settle_falls k true n h = omega arith
settle_falls false false n h = omega arith
settle_falls true false n h = let e : IsTrue false = h refl in cc

pub on_ok_map : (P Q : Type 0) (r : Result (Unit {0}) StoreFault) → (P → Q) → OnOk r P → OnOk r Q
on_ok_map P Q (Ok u) f p = f p
on_ok_map P Q (Err e) f p = tt

module _ {F R : Type 0} (name : R → ℕ) where
  pub settle_still : (a b : State F) (rs : List R) → Grows a b → AllKnown a name rs → settle_most b name rs ≤ settle_most a name rs
  settle_still a b [] g h = omega arith
  settle_still a b (r ∷ rs) g h =
      let one : settle_words (b.settled (name r)) (length (text a (name r))) ≤ settle_words (a.settled (name r))
      (length (text a (name r))) = settle_falls (a.settled (name r)) (b.settled (name r)) (length (text a (name r))) (g.settled (name r)) in
      let same : text b (name r) ≡ text a (name r) = text_still g (name r) h.0 in
      let rest : settle_most b name rs ≤ settle_most a name rs = settle_still a b rs g h.1 in
      rw same (omega (arith, one, rest))

  -- what settling the first string takes, and then the others
  pub settle_front : (b c : State F) (rs : List R) (i : ℕ) (r : R) → i < length rs → r ≡ get_or rs i r → Grows b c → AllKnown b name rs →
      settle_words (b.settled (name r)) (length (text b (name r))) + settle_most c name (drop (i + 1) rs) ≤ settle_most b name (drop i rs)
  settle_front b c rs i r l p g h =
      let still : settle_most c name (drop (i + 1) rs) ≤ settle_most b name (drop (i + 1) rs) = settle_still b c (drop (i + 1) rs) g (every_drop _ rs (i + 1) h) in
      rw (drop_at rs i r l p) (omega (arith, still))

  -- the same texts, known ones, in a store that has grown
  pub texts_still : (a b : State F) (rs : List R) → Grows a b → AllKnown a name rs → known_texts b name rs ≡ known_texts a name rs
  texts_still a b rs g h = map_same (λ r k. text_still g (name r) k) rs h

  pub all_known_still : (a b : State F) (rs : List R) → Grows a b → AllKnown a name rs → AllKnown b name rs
  all_known_still a b rs g h = every_map (λ r k. known_still g (name r) k) rs h

  -- settled strings, in a store that has grown
  pub all_settled_still : (a b : State F) (rs : List R) → Grows a b → AllSettled a name rs → AllSettled b name rs
  all_settled_still a b rs g h = every_map (λ r k. g.settled (name r) k) rs h

  -- one more string is settled beside those before it
  pub settled_turn : (b c : State F) (rs : List R) (i : ℕ) (r : R) → i < length rs → r ≡ get_or rs i r → Grows b c → AllSettled b name
      (take i rs) → IsSettled c (name r) → AllSettled c name (take (i + 1) rs)
  settled_turn b c rs i r l p g h s = every_more (λ q. IsSettled c (name q)) rs i r l p (all_settled_still b c (take i rs) g h) s
