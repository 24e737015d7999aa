use Rattle.std.proofs.Common.{◌≡◌, ◌∙◌, ap, sym, false, ℕ, List, [], ◌∷◌, ◌++◌, drop_of_length-le}
use Rattle.js_parse.specs.NameFaults.{marked, all_marked}
use Rattle.js_parse.specs.NameWalk.{has, letters_of}
use Rattle.js_parse.proofs.Marks.{turn, hidden_more, hidden_same}
use Rattle.js_parse.proofs.name_set.NameSet.hide.Goals.{then-remove+in_ok-push, else-remove}
use Rattle.js_parse.proofs.name_set.NameSet.hide.Goals as goal

pub loop-name-preserved : goal.loop-name-preserved
loop-name-preserved c =
    let x = c.as_bytes-letters.result in
    let test = has c.loop-name.self in
    let new = has c.remove.new.self in
    record {
      without = turn false c.args.names.now c.loop-name.name-index c.name-item.result test new c.loop-name-test.true c.name-item.is
          (c.remove.ensures.names ∙ ap (λ (l : List ℕ). marked false l test) c.as_bytes-letters.ensures)
          ∙ c.loop-name.invariant.without;
      again = elim c.if-remove.branch [
        | then-remove+in_ok-push w ↦
            let m : c.if-remove.hidden.items ≡ c.loop-name.hidden.items ++ x ∷ [] = rw w.hidden-is w.in_ok-push.ensures.items in
            hidden_more c.loop-name.hidden.items c.if-remove.hidden.items x test new m (sym c.remove.ensures.had ∙ w.if-remove.true) c.remove.ensures.names ∙ c.loop-name.invariant.again
        | else-remove w ↦
            rw w.hidden-is (hidden_same (letters_of c.loop-name.hidden.items) x.now test new (sym c.remove.ensures.had ∙ w.if-remove.false) c.remove.ensures.names ∙ c.loop-name.invariant.again)
      ];
    }

pub returns-clause-without : goal.returns-clause-without
returns-clause-without c =
    let past = drop_of_length-le c.args.names.now {i = c.loop-name.name-index} c.loop-name-test.false in
    ap (λ (ns : List (List ℕ)). all_marked false ns (has c.loop-name.self)) (sym past) ∙ c.loop-name.invariant.without
