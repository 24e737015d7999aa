use Rattle.js_parse.proofs.Parsed.{is_found}
use Rattle.js_parse.proofs.parser.parse.Goals as goal

pub returns-clause-found : goal.returns-clause-found
returns-clause-found c = is_found c.args.role c.args.outer.now c.args.bytes.now c.read.result c.read.ensures.spells c.read.ensures.refused
