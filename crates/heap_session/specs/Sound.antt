-- What the trait of stores asks of every session at every moment.
use Rattle.std.specs.Prelude.{◌≡◌, ℕ, ◌≤◌, List, Contains}
use Rattle.std.proofs.Common.{arith, inl, ◌∙◌}
use Rattle.std.proofs.Math.Logic.{∥∥₁_elim}
use Rattle.std.proofs.Props.{props}
use Rattle.atomic_table.specs.Seated.{TableId}
use Rattle.js_store.specs.declared.limit.Limit.{Limit}
use Rattle.js_store.specs.declared.limit.Limit.TheVariants.{Bits32, Bits64}
use Rattle.js_store.specs.Limits.{limit_units}
use Rattle.js_store.specs.State.{Sound}
use Rattle.heap_rule.specs.declared.view.View.{View}
use Rattle.heap_rule.specs.Maps.{Has}
use Rattle.heap_rule.specs.Paths.{IsLegal}
use Rattle.heap_rule.specs.Sound.{IsPossible, StandsIn}
use Rattle.heap_rule.specs.Views.{history}
use Rattle.heap_rule.proofs.Legal.{legal}
use Rattle.heap_rule.proofs.MapLemmas.{key_of}
use Rattle.heap_rule.proofs.Possible.{possible_lawful, possible_short}
use Rattle.heap_rule.proofs.SlotTests.{possible_apart}
use Rattle.heap_rule.proofs.Steps.{possible_within}
use Rattle.heap_session.specs.Sessions.{state_by}
use Rattle.heap_session.specs.Ranges.{possible_range}

legal_in : (v : View) → StandsIn v → IsLegal (history v)
legal_in v (z, agents, W, vs, j, s, at, live) = legal z agents W vs s j v at live j v at live

pub possible_legal : (v : View) → IsPossible v → IsLegal (history v)
possible_legal v p u t i k c d = (
  λ e. ∥∥₁_elim p (Prim.hlevel props) (λ s. (legal_in v s u t i k c d).0 e),
  λ e. ∥∥₁_elim p (Prim.hlevel props) (λ s. (legal_in v s u t i k c d).1 e),
)

agrees_in : (v : View) → StandsIn v → (u w : List ℕ) (n : ℕ) → Contains (history v) (u, n) → Has v.units n w
    → u ≡ w
agrees_in v (z, agents, W, vs, j, s, at, live) u w n c h =
    (s.recalls j v at live u n c).1 ∙ ((s.knows j v at live).of_units n w h).1

-- a call in the history has the units that are known of its string
pub possible_agrees : (v : View) → IsPossible v → (u w : List ℕ) (n : ℕ) → Contains (history v) (u, n)
    → Has v.units n w → u ≡ w
possible_agrees v p u w n c h = ∥∥₁_elim p (Prim.hlevel props) (λ s. agrees_in v s u w n c h)

pub limit_low : (l : Limit) → 268435440 ≤ limit_units l
limit_low Bits32 = omega arith
limit_low Bits64 = omega arith

pub limit_high : (l : Limit) → limit_units l ≤ 536870888
limit_high Bits32 = omega arith
limit_high Bits64 = omega arith

pub session_sound : (v : View) (l : Limit) (t : TableId) → IsPossible v → Sound (state_by v (limit_units l) t)
session_sound v l t p = record {
  one_number = λ u m n a b. (possible_legal v p u u m n a b).0 (λ i. u);
  one_list = λ u w n a b. (possible_legal v p u w n n a b).1 (λ i. n);
  agrees = λ u w n a h. possible_agrees v p u w n a h;
  shut_apart = λ u n h a. possible_apart v p u h n a;
  numbers = λ n u h. let a = (possible_within v p).known n (inl (key_of v.units n u h)) in
      let b = (possible_lawful v p).1 in omega arith;
  lengths = λ n u h. possible_short v p n u h;
  units = λ n u h. possible_range v p n u h;
  low = limit_low l;
  high = limit_high l;
}
