use Rattle.std.proofs.Common.{drop, Result, Vec, Global}
use Rattle.js_store.specs.State.{State, Grows}
use Rattle.eval_values.specs.declared.value.Stop.{Stop}
use Rattle.eval_values.specs.Outcome.{each}
use Rattle.js_texts.specs.Texts.{AllKnown, known_texts as texts_seen}
use Rattle.js_eval.specs.Pieces.{literal_out}
use Rattle.eval_values.specs.Does.{GivesTexts}
use Rattle.eval_values.proofs.Each.{each_behind}
use Rattle.js_eval.proofs.literals.intern_literals.Given as goal

-- whatever completes what is left, completes the whole
abbrev pub invariant-loop-units : goal.invariant-loop-units
invariant-loop-units g l =
    let state = g.S.Strings.state in
    let number = g.S.Strings.number in
    let limit = (state l.fn.store).limit in
    record {
      grows : Grows (state l.fn.store) (state l.store);
      known : AllKnown (state l.store) number l.interned.items;
      completes : (c : State g.S.Strings.Frame) (r : Result (Vec g.row.S-Ref.Denot Global) Stop) →
          GivesTexts number (state l.store) c r (each_behind (literal_out limit) (drop l.units-index l.literals) (texts_seen (state l.store) number l.interned.items)) →
          GivesTexts number (state l.fn.store) c r (each (literal_out limit) l.literals);
    }
