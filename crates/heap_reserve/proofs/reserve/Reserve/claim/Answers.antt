use Rattle.std.proofs.Common.{◌≡◌, ap, inl, refl, subst}
use Rattle.std.specs.Prelude.{IfErr}
use Rattle.heap_rule.specs.declared.size.HeapSize.{HeapSize}
use Rattle.heap_rule.specs.declared.view.View.{View}
use Rattle.heap_table.specs.Agents.{size_of}
use Rattle.heap_reserve.specs.Claims.{IsClaimAnswer, IsIdRefused}
use Rattle.heap_reserve.specs.Reserves.{IsReserve}
use Rattle.heap_reserve.proofs.Kept.{claim_answer, claim_roomy, claimed_none, reserve_still}
use Rattle.heap_reserve.proofs.reserve.Reserve.claim.Goals as goal

pub returns-clause-answer : goal.returns-clause-answer
returns-clause-answer g c = let v : View = c.args.text.now.reader.agent.seat.me.0 in let w : View = c.claim_words.new.reader.agent.seat.me.0 in let x : View = c.claim_ids.new.reader.agent.seat.me.0 in
    let r = c.args.self.now in let q = c.make_room.new.self in let s = c.claim_words.new.self in let t = c.claim_ids.new.self in let ids = c.args.ids in let answer = c.claim_ids.result in
    let same : size_of (g.H.HeapRef.reached c.claim_words.new.reader.heap) ≡ size_of (g.H.HeapRef.reached c.args.text.now.reader.heap) = ap
    (λ y. size_of (g.H.HeapRef.reached y)) c.claim_words.ensures.continues.heap in
    let z : HeapSize = size_of (g.H.HeapRef.reached c.args.text.now.reader.heap) in
    claim_roomy v x z r q t ids c.args.words answer c.make_room.ensures.ids c.make_room.ensures.words
    (claim_answer v w x z q s t ids c.args.words answer c.in_default-claim_words.ensures.ok c.claim_ids.ensures.ok
    (subst (λ (y : HeapSize). IfErr answer (λ f. IsIdRefused w x y s t ids 0 f)) same c.claim_ids.ensures.refused))

pub returns-clause-forms : goal.returns-clause-forms
returns-clause-forms g c i f h = c.claim_ids.ensures.forms i f (c.claim_words.ensures.forms i f h)

pub claim_words-requires : goal.claim_words-requires
claim_words-requires g c = record { reserve = reserve_still c.args.text.now.reader.agent.seat.me.0 c.args.self.now c.make_room.new.self c.make_room.ensures.ids c.make_room.ensures.words c.requires.reserve }
