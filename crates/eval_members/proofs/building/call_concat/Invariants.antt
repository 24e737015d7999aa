use Rattle.std.proofs.Common.{take, drop, Result}
use Rattle.js_store.specs.State.{State, Grows, IsKnown, text}
use Rattle.js_texts.specs.Texts.{Every}
use Rattle.js_item.specs.declared.item.Item.{Item}
use Rattle.eval_values.specs.declared.value.Stop.{Stop}
use Rattle.eval_members.specs.Building.{concat_call}
use Rattle.eval_values.specs.Seen.{all_seen, AllFine}
use Rattle.eval_values.specs.Does.{GivesValue}
use Rattle.eval_values.specs.Settled.{ElementsSettled}
use Rattle.eval_members.proofs.building.call_concat.Given as goal

-- whatever completes what is left, completes the whole
abbrev pub invariant-loop-value : goal.invariant-loop-value
invariant-loop-value g l =
    let state = g.S.Strings.state in
    let number = g.S.Strings.number in
    let a = state l.fn.store in
    record {
      grows : Grows a (state l.store);
      fine : AllFine (state l.store) number l.args;
      known : IsKnown (state l.store) (number l.text);
      read : Every (λ v. ElementsSettled (state l.store) number v) (take l.value-index l.args);
      completes : (c : State g.S.Strings.Frame) (r : Result (Item g.row.S-Ref.Denot) Stop) →
          GivesValue number (state l.store) c r (concat_call a.limit (text (state l.store) (number l.text)) (all_seen a number (drop l.value-index l.args))) →
          GivesValue number a c r (concat_call a.limit (text a (number l.fn.s)) (all_seen a number l.args));
    }
