use Rattle.eval_tree.specs.Tree.{tree_of}
use Rattle.js_parse.specs.NameWalk.{found_of}
use Rattle.js_parse.proofs.Parsed.{spelled, told_of_names}
use Rattle.js_parse.proofs.parser.read.Goals as goal

pub returns-in-None-clause-spells : goal.returns-in-None-clause-spells
returns-in-None-clause-spells c =
    spelled c.args.role c.args.outer.now c.args.bytes.now (tree_of c.in_ok-script.script) (found_of c.in_ok-script.found) c.in_ok-script.ensures.parses (rw c.in-None.is at c.in_ok-first_fault.ensures)

pub returns-in-Some-clause-refused : goal.returns-in-Some-clause-refused
returns-in-Some-clause-refused c =
    rw c.name_fault.ensures (told_of_names c.args.role c.args.outer.now c.args.bytes.now (tree_of c.in_ok-script.script)
    (found_of c.in_ok-script.found) c.in-Some.fault c.in_ok-script.ensures.parses (rw c.in-Some.is at c.in_ok-first_fault.ensures))
