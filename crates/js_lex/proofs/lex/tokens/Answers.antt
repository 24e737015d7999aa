use Rattle.js_lex.proofs.OneList.{only_tokens, only_fault}
use Rattle.js_lex.proofs.Texts.{tokens_order, tokens_within, tokens_texts}
use Rattle.js_lex.proofs.lex.tokens.Goals as goal

pub returns-clause-found : goal.returns-clause-found
returns-clause-found c = only_tokens (λ v. v.items) c.args.bytes.now c.read.result c.read.ensures.ok c.read.ensures.err

pub returns-clause-faults : goal.returns-clause-faults
returns-clause-faults c = only_fault (λ v. v.items) c.args.bytes.now c.read.result c.read.ensures.ok c.read.ensures.err

pub returns-clause-spans : goal.returns-clause-spans
returns-clause-spans c = tokens_order (λ v. v.items) c.args.bytes.now c.read.result c.read.ensures.ok

pub returns-clause-texts : goal.returns-clause-texts
returns-clause-texts c = tokens_texts (λ v. v.items) c.args.bytes.now c.read.result c.read.ensures.ok

pub returns-clause-within : goal.returns-clause-within
returns-clause-within c = tokens_within (λ v. v.items) c.args.bytes.now c.read.result c.read.ensures.ok
