use Rattle.js_lex.specs.Next.{nothing, more}
use Rattle.js_lex.proofs.NextToken.{goes_on, lexes_none, fails_here}
use Rattle.js_lex.proofs.lex.next_token.Goals as goal

pub separators-init : goal.separators-init
separators-init c = record {
  within = c.requires.cut.0;
  cut = c.requires.cut;
  apart = nothing;
}

pub returns-in-Ok-End-clause-given : goal.returns-in-Ok-End-clause-given
returns-in-Ok-End-clause-given c =
    let m = rw c.in-Ok-End.field-0-is at c.in-Ok-End.ensures in
    lexes_none c.args.text.now c.args.at c.separators.from c.separators.invariant.apart m

pub separators-preserved : goal.separators-preserved
separators-preserved c =
    let m = rw c.in-Ok-Skip.field-0-is at c.in-Ok-Skip.ensures in
    record {
      within = m.1.within;
      cut = m.1.cut;
      apart = more c.separators.from c.in-Ok-Skip.end c.separators.invariant.apart (m.0);
    }

pub returns-in-Ok-Token-clause-goes_on : goal.returns-in-Ok-Token-clause-goes_on
returns-in-Ok-Token-clause-goes_on c =
    let m = rw c.in-Ok-Token.field-0-is at c.in-Ok-Token.ensures in
    goes_on c.args.text.now c.args.at _ c.utf8.text c.separators.invariant.cut (record { apart = c.separators.invariant.apart; stands = m.0 })

pub returns-in-Err-clause-fault : goal.returns-in-Err-clause-fault
returns-in-Err-clause-fault c = fails_here c.args.text.now c.args.at c.separators.from c.in-Err.fault c.separators.invariant.apart c.in-Err.ensures
