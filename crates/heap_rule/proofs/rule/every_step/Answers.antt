use Rattle.heap_rule.proofs.KindsKept.{kinds_keep}
use Rattle.heap_rule.proofs.InTurn.{claims_in_turn}
use Rattle.heap_rule.proofs.Making.{keeps_making}
use Rattle.heap_rule.proofs.Splitting.{keeps_split}
use Rattle.heap_rule.proofs.Joining.{keeps_joined}
use Rattle.heap_rule.proofs.Legal.{legal}
use Rattle.heap_rule.proofs.rule.every_step.Goals as goal

pub returns-clause-kinds : goal.returns-clause-kinds
returns-clause-kinds c = kinds_keep

pub returns-clause-in_turn : goal.returns-clause-in_turn
returns-clause-in_turn c = claims_in_turn

pub returns-clause-making : goal.returns-clause-making
returns-clause-making c = keeps_making

pub returns-clause-splitting : goal.returns-clause-splitting
returns-clause-splitting c z agents W vs j v give s at live some less = keeps_split z agents W vs s j v at live give some less

pub returns-clause-joining : goal.returns-clause-joining
returns-clause-joining c z agents W vs j o v b s ne at live at_other may = keeps_joined z agents W vs s j o v b ne at live at_other may.0

pub returns-clause-legal : goal.returns-clause-legal
returns-clause-legal c = legal
