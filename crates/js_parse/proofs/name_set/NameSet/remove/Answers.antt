use Rattle.std.proofs.Common.{false}
use Rattle.js_parse.proofs.Marks.{updated}
use Rattle.js_parse.proofs.name_set.NameSet.remove.Goals as goal

pub returns-clause-names : goal.returns-clause-names
returns-clause-names c = updated c.args.letters.now c.args.self.now.names c.remove.new.self false c.remove.ensures.updates
