-- A conversion to a number, which reads the store alone, and then what is done with the number.
use Rattle.std.proofs.Common.{arith, ◌≡◌, ℕ, None, refl, subst, Result, Err}
use Rattle.js_store.specs.State.{State}
use Rattle.js_store.specs.Faults.{StoreStep}
use Rattle.eval_values.specs.declared.value.Abrupt.{Abrupt}
use Rattle.eval_values.specs.declared.value.Abrupt.TheVariants as abrupt
use Rattle.eval_values.specs.declared.value.Stop.{Stop}
use Rattle.eval_values.specs.declared.value.Stop.TheVariants.{Threw, Unsupported}
use Rattle.eval_values.specs.Need.{Row, ids_in, words_in}
use Rattle.eval_values.specs.Outcome.{unsupported, Converted, into, fails, Out, converts}
use Rattle.eval_values.specs.Operators.{paired}
use Rattle.eval_values.specs.Ran.{ComesTo}
use Rattle.eval_values.specs.Stops.{abrupt_stop, ending_of}
use Rattle.eval_values.proofs.Compose.{did_before, ran_of_step}

module _ {F V A B : Type 0} (a b : State F) (see : State F → V → A) (fine : State F → V → Type 0) (row : Row) (s : StoreStep a
    b None 0 0) (h : b.history ≡ a.history) (q : Converted B) (go : B → Out A) where
  -- one that was refused
  pub refused : (r : Abrupt) → fails (ending_of r) ≡ q → ComesTo a b see fine (Err (abrupt_stop r)) (converts row q go)
  refused (abrupt.Threw k) e = subst (λ (p : Converted B). ComesTo a b see fine (Err (Threw k)) (converts row p go)) e (refl, ran_of_step (ids_in row) (words_in row) s h (omega arith) (omega arith))
  refused (abrupt.Unsupported at) e = subst (λ (p : Converted B). ComesTo a b see fine (Err (Unsupported at)) (converts row p go)) e (refl, ran_of_step 0 0 s h (omega arith) (omega arith))

  -- one that gave a number
  pub converted : (c : State F) (x : B) (r : Result V Stop) → into x ≡ q → ComesTo b c see fine r (go x) → ComesTo a c see fine r (converts row q go)
  converted c x r e d = subst (λ (p : Converted B). ComesTo a c see fine r (converts row p go)) e (did_before a b c see fine r (go x) s h d)

-- two values of which neither becomes a number, where the first one is left out of the profile
pub both_refused : {B C : Type 0} (place : ℕ) (r : Abrupt) (p : Converted B) (q : Converted C) → fails (unsupported place) ≡ p → fails (ending_of r) ≡ q → fails (ending_of r) ≡ paired p q
both_refused {B = B} {C = C} place r p q e f =
    let left : Converted B = fails (unsupported place) in
    let given : ◌≡◌ {A = Converted (B × C)} (fails (ending_of r)) (paired left q) = subst (λ (z : Converted C). ◌≡◌ {A = Converted (B × C)} (fails (ending_of r)) (paired left z)) f refl in
    subst (λ (z : Converted B). ◌≡◌ {A = Converted (B × C)} (fails (ending_of r)) (paired z q)) e given
