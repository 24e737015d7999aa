use Rattle.parse_tokens.proofs.Scan.{bytes_fault}
use Rattle.parse_tokens.proofs.read.read.Goals as goal

pub returns-in-Ok-clause-refused : goal.returns-in-Ok-clause-refused
returns-in-Ok-clause-refused c = bytes_fault c.args.bytes.now c.in-Ok.text.now c.scan.result (c.in-Ok.ensures.text.0) (c.in-Ok.ensures.text.1) c.scan.ensures.refused
