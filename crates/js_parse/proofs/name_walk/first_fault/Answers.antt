use Rattle.js_parse.specs.NameWalk.{has}
use Rattle.js_parse.proofs.Walks.{first_found}
use Rattle.js_parse.proofs.name_walk.first_fault.Goals as goal

pub returns : goal.returns
returns c =
    first_found c.args.outer.now c.args.script.now c.deref.result.now c.as_slice.result.now (has c.new-loops.result) _ (has c.insert_all.new.self) (has c.new-before.result) c.args.first c.among.result
    c.deref.ensures.value c.as_slice.ensures c.new-loops.ensures c.new-before.ensures c.in_ok-insert_all.ensures c.among.ensures
