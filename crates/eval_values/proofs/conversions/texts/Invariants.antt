use Rattle.std.proofs.Common.{◌+◌, ◌≤◌, take, drop, Result, Vec, Global}
use Rattle.js_store.specs.State.{State, Grows}
use Rattle.eval_values.specs.declared.value.Stop.{Stop}
use Rattle.eval_values.specs.Outcome.{each}
use Rattle.eval_values.specs.Conversions.{to_string}
use Rattle.js_texts.specs.Texts.{known_texts as texts_seen, Every, AllKnown, settle_most}
use Rattle.js_item.specs.Seen.{seen}
use Rattle.eval_values.specs.Seen.{all_seen, AllFine}
use Rattle.eval_values.specs.Does.{GivesTexts, string_words}
use Rattle.eval_values.specs.Settled.{ElementsSettled}
use Rattle.eval_values.proofs.Each.{each_behind}
use Rattle.eval_values.proofs.conversions.texts.Given as goal

-- whatever completes what is left, completes the whole
abbrev pub invariant-loop-value : goal.invariant-loop-value
invariant-loop-value g l =
    let state = g.S.Strings.state in
    let number = g.S.Strings.number in
    record {
      grows : Grows (state l.fn.store) (state l.store);
      fine : AllFine (state l.store) number l.values;
      known : AllKnown (state l.store) number l.texts.items;
      read : Every (λ v. ElementsSettled (state l.store) number v) (take l.value-index l.values);
      settles : settle_most (state l.store) number l.texts.items + string_words
          (all_seen (state l.fn.store) number (drop l.value-index l.values)) ≤ string_words (all_seen (state l.fn.store) number l.values);
      completes : (c : State g.S.Strings.Frame) (r : Result (Vec g.row.S-Ref.Denot Global) Stop) →
          GivesTexts number (state l.store) c r (each_behind (λ v. to_string (state l.fn.store).limit (seen (state l.fn.store) number v))
          (drop l.value-index l.values) (texts_seen (state l.store) number l.texts.items)) →
          GivesTexts number (state l.fn.store) c r (each (to_string (state l.fn.store).limit) (all_seen (state l.fn.store) number l.values));
    }
