use Rattle.parse_tokens.proofs.OneSource.{only_source, only_fault}
use Rattle.parse_tokens.proofs.read.tokens.Goals as goal

pub returns-clause-found : goal.returns-clause-found
returns-clause-found c = only_source c.args.bytes.now c.read.result c.read.ensures.read c.read.ensures.refused

pub returns-clause-faults : goal.returns-clause-faults
returns-clause-faults c = only_fault c.args.bytes.now c.read.result c.read.ensures.read c.read.ensures.refused
