use Rattle.std.proofs.Common.{◌∙◌, ap, arith, refl}
use Rattle.std.specs.FinMap.{get}
use Rattle.heap_rule.specs.declared.view.View.{View}
use Rattle.heap_reserve.proofs.Kept.{grown_claimed, own_claimed_words, reserve_grown}
use Rattle.heap_reserve.proofs.reserve.Reserve.claim_words.Goals as goal

pub returns-clause-own : goal.returns-clause-own
returns-clause-own g c = let v : View = c.args.reader.now.agent.seat.me.0 in own_claimed_words v c.claim_words.new.self.seat.me.0
    c.in_ok-start.start c.args.words c.in_ok-start.ensures.view c.in_ok-start.ensures.above_own

pub returns-clause-reserve : goal.returns-clause-reserve
returns-clause-reserve g c = let v : View = c.args.reader.now.agent.seat.me.0 in
    reserve_grown v c.claim_words.new.self.seat.me.0 c.args.self.now _ c.in_ok-start.start c.args.words c.in_ok-start.ensures.view
    c.in_ok-start.ensures.above_own c.requires.reserve refl refl c.run_from-self.ensures.behind c.run_from-self.ensures.other

pub returns-clause-forms : goal.returns-clause-forms
returns-clause-forms g c i f h = ap (λ (v : View). get v.forms i) c.in_ok-start.ensures.view ∙ h

pub returns-clause-ok : goal.returns-clause-ok
returns-clause-ok g c = let v : View = c.args.reader.now.agent.seat.me.0 in
    grown_claimed v c.claim_words.new.self.seat.me.0 c.args.self.now _ c.in_ok-start.start c.args.words (omega (arith, c.if-words-eq0.false)) c.in_ok-start.ensures.view
    c.in_ok-start.ensures.above_own refl refl c.run_from-self.ensures.behind c.run_from-self.ensures.other
