-- What comparisons give.
use Rattle.std.proofs.Common.{◌≡◌, ℕ, Bool, true, false, refl, ap, sym, Option, Some, None, Ok, Err}
use Rattle.js_number.specs.declared.Num.{Num}
use Rattle.js_number.specs.Arith.{sum, difference, below}
use Rattle.js_number.specs.Places.{IsLawful}
use Rattle.eval_tree.specs.declared.tree.Op.TheVariants.{Plus, Minus, Less}
use Rattle.js_store.specs.State.{State}
use Rattle.js_item.specs.declared.item.Item.{Item}
use Rattle.js_item.specs.declared.item.Item.TheVariants as value
use Rattle.eval_values.specs.declared.value.Stop.{Stop}
use Rattle.eval_values.specs.Outcome.{Out, gave, free}
use Rattle.js_item.specs.Contents.{bool, number}
use Rattle.js_item.specs.Seen.{seen}
use Rattle.js_item.specs.Fine.{IsFine}
use Rattle.eval_values.specs.Does.{GivesValue, GivesPlain}
use Rattle.eval_values.specs.Comparing.{order_by, is_less}
use Rattle.eval_values.proofs.Compose.{did_bind, did_stop, ran_free}
use Rattle.js_eval.specs.Expression.{truth_of, operated}

module _ {F R A : Type 0} (name : R → ℕ) (a b : State F) (holds : A → Bool) (o : Out A) where
  pub truth_does : (x : A) (t : Bool) → t ≡ holds x → GivesPlain a b (Ok x) o → GivesValue name a b (Ok (value.Bool t)) (truth_of holds o)
  truth_does x t e d =
      did_bind {W = Item R} a b b (λ s v. v) (λ s v. Unit {0}) (λ s v. seen s name v) (λ s v. IsFine s name v) x (Ok (value.Bool t)) o (λ y. gave (bool (holds y)) free) d
      (record { is = cc e; good = tt; ran = ran_free b })

  pub truth_stops : (n : Stop) → GivesPlain a b (Err n) o → GivesValue name a b (Err n) (truth_of holds o)
  truth_stops n d =
      did_stop {V = A} {W = Item R} a b (λ s v. v) (λ s v. Unit {0}) (λ s v. seen s name v) (λ s v. IsFine s name v) n o (λ y. gave (bool (holds y)) free) d

-- the short way of two numbers
less_of : (p q : Option Bool) (b : Bool) → p ≡ Some b → is_less (order_by p q) ≡ b
less_of (Some true) q b e = cc e
less_of (Some false) (Some true) b e = cc e
less_of (Some false) (Some false) b e = cc e
less_of (Some false) None b e = cc e
less_of None q b e = cc e

module _ {F R : Type 0} (name : R → ℕ) (s : State F) (at limit : ℕ) (m n : Num) where
  pub sum_does : (k : Num) → sum m n ≡ Some k → IsLawful k → GivesValue {R = R} name s s (Ok (value.Number k)) (operated Plus at limit (number m) (number n))
  sum_does k e l = rw e (record { is = refl; good = l; ran = ran_free s })

  pub difference_does : (k : Num) → difference m n ≡ Some k → IsLawful k → GivesValue {R = R} name s s (Ok (value.Number k)) (operated Minus at limit (number m) (number n))
  difference_does k e l = rw e (record { is = refl; good = l; ran = ran_free s })

  pub less_does : (b : Bool) → below m n ≡ Some b → GivesValue {R = R} name s s (Ok (value.Bool b)) (operated Less at limit (number m) (number n))
  less_does b e = record { is = ap bool (sym (less_of (below m n) (below n m) b e)); good = tt; ran = ran_free s }
