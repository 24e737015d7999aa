-- When what statements of the code did, printed and left is what is meant.
use Rattle.std.specs.Prelude.{◌≡◌, ℕ, List, ◌++◌, Result, Ok, Err}
use Rattle.std.specs.List.{concat}
use Rattle.js_store.specs.State.{State}
use Rattle.eval_values.specs.declared.value.Stop.{Stop}
use Rattle.eval_values.specs.declared.value.Stop.TheVariants.{Threw, Unsupported, Store}
use Rattle.eval_scopes.specs.Bindings.{Bound, Bindings}
use Rattle.js_item.specs.Seen.{Val}
use Rattle.eval_values.specs.Outcome.{Out, gave, ended}
use Rattle.js_eval.specs.Script.{Flow}
use Rattle.eval_values.specs.Ran.{ComesTo}

-- whole lines were written, the first ones of these
pub record WroteSome (x y : List ℕ) (lines : List (List ℕ)) : Type 0 where
  pub done : List (List ℕ)
  pub left : List (List ℕ)
  pub split : lines ≡ done ++ left
  pub written : y ≡ x ++ concat done

-- the lines were written, or the first ones of them where the store refused or memory ran out
abbrev pub Wrote : List ℕ → List ℕ → Result (Unit {0}) Stop → List (List ℕ) → Type 0
Wrote x y (Ok v) ls = y ≡ x ++ concat ls
Wrote x y (Err (Threw k)) ls = y ≡ x ++ concat ls
Wrote x y (Err (Unsupported at)) ls = y ≡ x ++ concat ls
Wrote x y (Err (Store f)) ls = WroteSome x y ls

-- the bindings are those that are meant, but where the store refused or memory ran out
abbrev pub Leaves : Result (Unit {0}) Stop → Bindings Val → Bindings Val → Type 0
Leaves (Ok v) after meant = after ≡ meant
Leaves (Err (Threw k)) after meant = after ≡ meant
Leaves (Err (Unsupported at)) after meant = after ≡ meant
Leaves (Err (Store f)) after meant = Unit {0}

-- what statements did, printed and left is what is meant
pub record FollowsFlow {F : Type 0} (a b : State F) (x y : List ℕ) (r : Result (Unit {0}) Stop)
    (bindings : Bindings Val) (f : Flow) : Type 0 where
  pub did : ComesTo a b (λ s v. v) (λ s v. Unit {0}) r f.out
  pub wrote : Wrote x y r f.lines
  pub leaves : Leaves r bindings f.bindings

-- the same of a whole script, whose bindings are those of the top
abbrev pub LeavesTop : Result (Unit {0}) Stop → List (Bound Val) → List (Bound Val) → Type 0
LeavesTop (Ok v) after meant = after ≡ meant
LeavesTop (Err (Threw k)) after meant = after ≡ meant
LeavesTop (Err (Unsupported at)) after meant = after ≡ meant
LeavesTop (Err (Store f)) after meant = Unit {0}

pub record WentTop {F : Type 0} (a b : State F) (x y : List ℕ) (r : Result (Unit {0}) Stop)
    (top : List (Bound Val)) (f : Flow) : Type 0 where
  pub did : ComesTo a b (λ s v. v) (λ s v. Unit {0}) r f.out
  pub wrote : Wrote x y r f.lines
  pub leaves : LeavesTop r top f.bindings.top

-- the same evaluation, of whose value so much is said
abbrev pub told : {A B : Type 0} → (A → B) → Out A → Out B
told of (gave x l) = gave (of x) l
told of (ended e l) = ended e l
