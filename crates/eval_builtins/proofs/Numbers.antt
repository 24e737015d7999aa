-- Calls of the functions of the String constructor: arguments as numbers, and then the string.
use Rattle.eval_builtins.specs.Parts.{number_out, made}
use Rattle.std.proofs.Common.{arith, ◌≡◌, ℕ, zero, suc, ◌+◌, ◌≤◌, ◌<◌, List, [], ◌∷◌, ◌++◌, length, length-append, map, refl, sym, subst, ◌∙◌, true, false, nat_le, All, Vec, Global, Result, Ok, Err}
use Rattle.std.specs.List.{list_all}
use Rattle.js_number.specs.declared.Num.{Num}
use Rattle.js_methods.specs.Building.{is_code_point}
use Rattle.js_store.specs.State.{State}
use Rattle.js_store.proofs.Laws.{step_refl}
use Rattle.eval_builtins.specs.declared.codes.Codes.{Codes}
use Rattle.eval_builtins.specs.declared.codes.Codes.TheVariants.{CodePoints}
use Rattle.js_item.specs.declared.item.Item.{Item}
use Rattle.eval_values.specs.declared.value.Kind.TheVariants.{RangeError}
use Rattle.eval_values.specs.declared.value.Stop.{Stop}
use Rattle.eval_values.specs.declared.value.Stop.TheVariants.{Threw}
use Rattle.js_item.specs.Seen.{Val, seen}
use Rattle.eval_values.specs.Outcome.{Out, gave, ended, each}
use Rattle.eval_values.specs.Need.{ids_in, words_in}
use Rattle.eval_builtins.specs.Codes.{from_row}
use Rattle.js_texts.specs.Texts.{Every}
use Rattle.js_item.specs.Fine.{IsFine}
use Rattle.eval_builtins.specs.Numbers.{IsFor}
use Rattle.eval_values.specs.Ran.{ComesTo}
use Rattle.eval_values.specs.Does.{GivesValue}
use Rattle.eval_builtins.specs.Numbers.{taken_of, units_of, codes_call, GivesNumber, GivesNumbers}
use Rattle.eval_values.proofs.Compose.{did_bind, did_stop, ran_of_step}

-- a vector of numbers stands for itself
same_items : (ns : List Num) → map (λ n. n) ns ≡ ns
same_items [] = refl
same_items (n ∷ ns) = cc (same_items ns)

pub as_numbers : {F : Type 0} (a b : State F) (which : Codes) (r : Result (Vec Num Global) Stop) (o : Out (List Num)) → ComesTo a b
    (λ s (v : Vec Num Global). map (λ n. n) v.items) (λ s (v : Vec Num Global). Every (λ n. IsFor which n) v.items) r o → GivesNumbers a b which r o
as_numbers a b which (Ok v) (gave x l) d = record { is = sym (same_items v.items) ∙ d.is; good = d.good; ran = d.ran }
as_numbers a b which (Ok v) (ended e l) d = absurd d
as_numbers a b which (Err s) o d = d

-- a number that was told in a state that is the first one
pub as_first : {F R : Type 0} (name : R → ℕ) (a b c d : State F) (which : Codes) (at : ℕ) (vs : List Val) (v : Item R) (r : Result Num Stop)
    → b ≡ a → d ≡ c → GivesNumber b d which r (number_out (taken_of which vs) at vs (seen b name v)) → GivesNumber a c which r
    (number_out (taken_of which vs) at vs (seen a name v))
as_first name a b c d which at vs v r e f h =
    subst (λ (q : State _). GivesNumber a q which r (number_out (taken_of which vs) at vs (seen a name v))) f
    (subst (λ (q : State _). GivesNumber q d which r (number_out (taken_of which vs) at vs (seen q name v))) e h)

pub count_push : (ns : List Num) (n : Num) (i : ℕ) → length ns ≡ i → length (ns ++ n ∷ []) ≡ i + 1
count_push ns n i h = omega (arith, length-append ns (n ∷ []), h)

pub every_all : {A : Type 0} (P : A → Type 0) (xs : List A) → Every P xs → All P xs
every_all P [] h k d l = absurd (omega (arith, l))
every_all P (x ∷ xs) h zero d l = h.0
every_all P (x ∷ xs) h (suc k) d l = every_all P xs h.1 k d (omega (arith, l))

pub all_points : (ns : List Num) → Every (IsFor CodePoints) ns → list_all is_code_point ns ≡ true
all_points [] h = refl
all_points (n ∷ ns) h = let e : list_all is_code_point ns ≡ true = all_points ns h.1 in rw (h.0, e) refl

module _ {F R : Type 0} (name : R → ℕ) (a : State F) (which : Codes) (at : ℕ) (vs : List Val) where
  no_room : 1048576 < length vs → nat_le (length vs) 1048576 ≡ false
  no_room l = grind arith

  room : length vs ≤ 1048576 → nat_le (length vs) 1048576 ≡ true
  room l = grind arith

  pub codes_throws : 1048576 < length vs → GivesValue name a a (Err (Threw RangeError)) (codes_call which at vs)
  codes_throws l = rw (no_room l) (refl, ran_of_step (ids_in (from_row vs 0)) (words_in (from_row vs 0)) (step_refl a) refl (omega arith) (omega arith))

  pub codes_stops : (b : State F) (n : Stop) → length vs ≤ 1048576 → GivesNumbers a b which (Err n)
      (each (number_out (taken_of which vs) at vs) vs) → GivesValue name a b (Err n) (codes_call which at vs)
  codes_stops b n l d = rw (room l) (did_stop {W = Item R} a b (λ s (v : Vec Num Global). v.items)
      (λ s (v : Vec Num Global). Every (IsFor which) v.items) (λ s v. seen s name v) (λ s v. IsFine s name v) n
      (each (number_out (taken_of which vs) at vs) vs) (λ ns. made vs (units_of which ns)) d)

  pub codes_does : (b c : State F) (ns : Vec Num Global) (r : Result (Item R) Stop) → length vs ≤ 1048576 → GivesNumbers a b which (Ok ns)
      (each (number_out (taken_of which vs) at vs) vs) → GivesValue name b c r (made vs (units_of which ns.items)) → GivesValue name a c r
      (codes_call which at vs)
  codes_does b c ns r l d e = rw (room l) (did_bind a b c (λ s (v : Vec Num Global). v.items)
      (λ s (v : Vec Num Global). Every (IsFor which) v.items) (λ s v. seen s name v) (λ s v. IsFine s name v) ns r
      (each (number_out (taken_of which vs) at vs) vs) (λ ms. made vs (units_of which ms)) d e)
