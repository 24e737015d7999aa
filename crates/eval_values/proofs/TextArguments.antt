-- An argument as a string, and then what is done with it.
use Rattle.std.proofs.Common.{ℕ, List, Result, Ok, Err}
use Rattle.js_store.specs.State.{State, IsKnown, text}
use Rattle.js_item.specs.declared.item.Item.{Item}
use Rattle.eval_values.specs.declared.value.Stop.{Stop}
use Rattle.js_item.specs.Seen.{Val, seen}
use Rattle.eval_values.specs.Outcome.{Out, bind, converting}
use Rattle.eval_values.specs.Need.{Row}
use Rattle.js_item.specs.Fine.{IsFine}
use Rattle.eval_values.specs.Does.{GivesValue, GivesText}
use Rattle.eval_values.proofs.Compose.{did_bind, did_stop, did_convert, did_fail}

module _ {F R : Type 0} (name : R → ℕ) where
  -- a string, and then a value that is made of it; or an early end
  pub text_then : (a b c : State F) (w : R) (r : Result (Item R) Stop) (o : Out (List ℕ)) (go : List ℕ → Out Val) → GivesText name a b
      (Ok w) o → GivesValue name b c r (go (text b (name w))) → GivesValue name a c r (bind o go)
  text_then a b c w r o go d e = did_bind a b c (λ s v. text s (name v)) (λ s v. IsKnown s (name v)) (λ s v. seen s name v) (λ s v. IsFine s name v) w r o go d e

  pub text_stops : (a b : State F) (n : Stop) (o : Out (List ℕ)) (go : List ℕ → Out Val) → GivesText name a b (Err n) o → GivesValue name a b (Err n) (bind o go)
  text_stops a b n o go d = did_stop a b (λ s v. text s (name v)) (λ s v. IsKnown s (name v)) (λ s v. seen s name v) (λ s v. IsFine s name v) n o go d

  -- the same within an operation, whose operands need so much where it throws
  pub text_converts : (row : Row) (a b c : State F) (w : R) (r : Result (Item R) Stop) (o : Out (List ℕ)) (go : List ℕ → Out Val) →
      GivesText name a b (Ok w) o → GivesValue name b c r (go (text b (name w))) → GivesValue name a c r (converting row o go)
  text_converts row a b c w r o go d e = did_convert row a b c (λ s v. text s (name v)) (λ s v. IsKnown s (name v)) (λ s v. seen s name v) (λ s v. IsFine s name v) w r o go d e

  pub text_fails : (row : Row) (a b : State F) (n : Stop) (o : Out (List ℕ)) (go : List ℕ → Out Val) → GivesText name a b (Err n) o → GivesValue name a b (Err n) (converting row o go)
  text_fails row a b n o go d = did_fail row a b (λ s v. text s (name v)) (λ s v. IsKnown s (name v)) (λ s v. seen s name v) (λ s v. IsFine s name v) n o go d
