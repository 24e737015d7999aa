-- The arguments that a method takes.
use Rattle.std.proofs.Common.{arith, ◌≡◌, ℕ, zero, suc, ◌≤◌, List, [], ◌∷◌, length, map, take, ap, sym, ◌∙◌, refl}
use Rattle.std.proofs.lemmas.List.{length-map, take-map}
use Rattle.eval_tree.specs.declared.tree.Method.{Method}
use Rattle.js_store.specs.State.{State}
use Rattle.js_texts.specs.Texts.{Every}
use Rattle.eval_members.specs.Operands.{operands}
use Rattle.eval_tree.specs.Methods.{most_taken}
use Rattle.js_item.specs.declared.item.Item.{Item}
use Rattle.js_item.specs.Seen.{seen}
use Rattle.js_item.specs.Fine.{IsFine}
use Rattle.eval_values.specs.Seen.{all_seen, AllFine}

pub all_taken : {A : Type 0} (n : ℕ) (xs : List A) → length xs ≤ n → xs ≡ take n xs
all_taken zero [] l = refl
all_taken (suc n) [] l = refl
all_taken zero (x ∷ xs) l = absurd (omega (arith, l))
all_taken (suc n) (x ∷ xs) l = ap (λ ys. x ∷ ys) (all_taken n xs (omega (arith, l)))

taken_map : {A B : Type 0} (f : A → B) (m : Method) (xs : List A) → map f (operands m xs) ≡ operands m (map f xs)
taken_map f m xs = sym (take-map f (most_taken m (length xs)) xs) ∙ ap (λ n. take (most_taken m n) (map f xs)) (sym (length-map xs f))

taken_every : {A : Type 0} (P : A → Type 0) (n : ℕ) (xs : List A) → Every P xs → Every P (take n xs)
taken_every P zero xs h = tt
taken_every P (suc n) [] h = tt
taken_every P (suc n) (x ∷ xs) h = (h.0, taken_every P n xs h.1)

pub seen_taken : {F R : Type 0} (s : State F) (name : R → ℕ) (m : Method) (vs : List (Item R)) → all_seen s name (operands m vs) ≡ operands m (all_seen s name vs)
seen_taken s name m vs = taken_map (λ v. seen s name v) m vs

pub fine_taken : {F R : Type 0} (s : State F) (name : R → ℕ) (m : Method) (vs : List (Item R)) → AllFine s name vs → AllFine s name (operands m vs)
fine_taken s name m vs h = taken_every (λ v. IsFine s name v) (most_taken m (length vs)) vs h
