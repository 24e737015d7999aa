use Rattle.std.proofs.Common.{true}
use Rattle.js_parse.proofs.Marks.{updated}
use Rattle.js_parse.proofs.name_set.NameSet.insert.Goals as goal

pub returns-in-Ok-clause-names : goal.returns-in-Ok-clause-names
returns-in-Ok-clause-names c = updated c.args.letters.now c.args.self.now.names c.insert.new.self true c.in-Ok.ensures.updates
