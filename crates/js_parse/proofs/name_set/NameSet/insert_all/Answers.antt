use Rattle.std.proofs.Common.{◌∙◌, ap, sym, true, ℕ, List, drop_of_length-le}
use Rattle.js_parse.specs.NameFaults.{marked, all_marked}
use Rattle.js_parse.specs.NameWalk.{has}
use Rattle.js_parse.proofs.Marks.{turn}
use Rattle.js_parse.proofs.name_set.NameSet.insert_all.Goals as goal

pub loop-name-preserved : goal.loop-name-preserved
loop-name-preserved c =
    turn true c.args.names.now c.loop-name.name-index c.name-item.result (has c.loop-name.self) (has c.insert.new.self)
    c.loop-name-test.true c.name-item.is (c.in_ok-insert.ensures.names ∙ ap (λ (l : List ℕ). marked true l (has c.loop-name.self)) c.as_bytes.ensures)
    ∙ c.loop-name.invariant

pub returns : goal.returns
returns c =
    let past = drop_of_length-le c.args.names.now {i = c.loop-name.name-index} c.loop-name-test.false in
    ap (λ (ns : List (List ℕ)). all_marked true ns (has c.loop-name.self)) (sym past) ∙ c.loop-name.invariant
