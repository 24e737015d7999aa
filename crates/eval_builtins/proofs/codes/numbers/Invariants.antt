use Rattle.eval_builtins.specs.Parts.{number_out}
use Rattle.std.proofs.Common.{◌≡◌, ◌≤◌, drop, length, map, Result, Vec, Global}
use Rattle.js_number.specs.declared.Num.{Num}
use Rattle.js_store.specs.State.{State}
use Rattle.eval_values.specs.declared.value.Stop.{Stop}
use Rattle.eval_values.specs.Outcome.{each}
use Rattle.js_texts.specs.Texts.{Every}
use Rattle.js_item.specs.Seen.{seen}
use Rattle.eval_values.specs.Seen.{all_seen}
use Rattle.eval_builtins.specs.Numbers.{IsFor}
use Rattle.eval_values.specs.Ran.{ComesTo}
use Rattle.eval_builtins.specs.Numbers.{taken_of, GivesNumbers}
use Rattle.eval_values.proofs.Each.{each_behind}
use Rattle.eval_builtins.proofs.codes.numbers.Given as goal

-- whatever completes what is left, completes the whole
abbrev pub invariant-loop-value : goal.invariant-loop-value
invariant-loop-value g l =
    let number = g.S.Strings.number in
    let a = g.S.Strings.state l.fn.store in
    let vs = all_seen a number l.args in
    record {
      same : g.S.Strings.state l.store ≡ a;
      every : Every (IsFor l.which) l.numbers.items;
      count : length l.numbers.items ≡ l.value-index;
      within : l.value-index ≤ length l.args;
      completes : (b : State g.S.Strings.Frame) (r : Result (Vec Num Global) Stop) →
          ComesTo a b (λ s (w : Vec Num Global). map (λ n. n) w.items) (λ s (w : Vec Num Global). Every (λ n. IsFor l.which n) w.items) r
          (each_behind (λ v. number_out (taken_of l.which vs) l.at vs (seen a number v)) (drop l.value-index l.args) (map (λ n. n) l.numbers.items)) →
          GivesNumbers a b l.which r (each (number_out (taken_of l.which vs) l.at vs) vs);
    }
