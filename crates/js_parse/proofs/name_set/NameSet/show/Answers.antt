use Rattle.std.proofs.Common.{◌∙◌, ap, sym, true, ℕ, List, Bor, drop_of_length-le}
use Rattle.js_parse.specs.NameFaults.{all_marked}
use Rattle.js_parse.specs.NameWalk.{has, letters_of}
use Rattle.js_parse.proofs.Marks.{turn_refs}
use Rattle.js_parse.proofs.name_set.NameSet.show.Goals as goal

pub loop-letters-preserved : goal.loop-letters-preserved
loop-letters-preserved c =
    turn_refs c.args.hidden.now c.loop-letters.letters-index _ (has c.loop-letters.self) (has c.insert.new.self) c.loop-letters-test.true c.in_ok-insert.ensures.names ∙ c.loop-letters.invariant

pub returns : goal.returns
returns c =
    let past = drop_of_length-le c.args.hidden.now {i = c.loop-letters.letters-index} c.loop-letters-test.false in
    ap (λ (ns : List (Bor (List ℕ))). all_marked true (letters_of ns) (has c.loop-letters.self)) (sym past) ∙ c.loop-letters.invariant
