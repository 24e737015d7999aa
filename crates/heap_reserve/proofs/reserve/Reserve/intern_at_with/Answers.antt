use Rattle.std.proofs.Common.{◌≡◌, ◌∙◌, ℕ, List, subst, sym}
use Rattle.js_units.specs.Lanes.{words_over}
use Rattle.heap_rule.specs.declared.view.View.{View}
use Rattle.heap_intern.specs.Keys.{units_of_key}
use Rattle.heap_reserve.specs.Interning.{IsOffered}
use Rattle.heap_reserve.specs.Making.{words_holding}
use Rattle.heap_reserve.specs.Reserves.{HasEnough, IsTakenFrom}
use Rattle.heap_reserve.proofs.Interned.{offered_given, taken_from}
use Rattle.heap_reserve.proofs.Kept.{reserve_taken}
use Rattle.heap_reserve.proofs.reserve.Reserve.intern_at_with.Goals as goal

pub intern_key_at-answer-requires-clause-given : goal.intern_key_at-answer-requires-clause-given
intern_key_at-answer-requires-clause-given g c = let v : View = c.args.text.now.reader.agent.seat.me.0 in let us : List ℕ = units_of_key c.args.key.now in
    let all : c.words_for-words.result ≡ words_holding us = c.words_for-words.ensures ∙ (λ j. words_over (c.is_wide.ensures j) (c.len.ensures j)) in
    offered_given v c.args.self.now (words_holding us) c.offer-given.result c.requires.reserve c.requires.enough
    (subst (λ (n : ℕ). IsOffered c.args.self.now n c.offer-given.result) all c.offer-given.ensures)

pub take-requires : goal.take-requires
take-requires g c = let us : List ℕ = units_of_key c.args.key.now in
    let all : c.words_for-words.result ≡ words_holding us = c.words_for-words.ensures ∙ (λ j. words_over (c.is_wide.ensures j) (c.len.ensures j)) in
    subst (λ (n : ℕ). HasEnough c.args.self.now n) (sym all) c.requires.enough

pub returns-clause-reserve : goal.returns-clause-reserve
returns-clause-reserve g c = let v : View = c.args.text.now.reader.agent.seat.me.0 in let w : View = c.intern_key_at-answer.new.reader.agent.seat.me.0 in
    let us : List ℕ = units_of_key c.args.key.now in let p = c.offer-given.result in let answer = c.intern_key_at-answer.result in
    let r = c.args.self.now in let s = c.take.new.self in let e = c.take.ensures in let h = c.intern_key_at-answer.ensures in
    let all : c.words_for-words.result ≡ words_holding us = c.words_for-words.ensures ∙ (λ j. words_over (c.is_wide.ensures j) (c.len.ensures j)) in
    let offered : IsOffered r (words_holding us) p = subst (λ (m : ℕ). IsOffered r m p) all c.offer-given.ensures in
    let taken : IsTakenFrom v w r s p.id (words_holding us) = taken_from v w r s us p c.take.result.0 (words_holding us) c.words_for-words.result answer c.requires.enough offered h.interns.0.settled h.interns.1 all e.ids e.words in
    reserve_taken v w r s p.id (words_holding us) c.requires.reserve taken

pub returns-clause-interns : goal.returns-clause-interns
returns-clause-interns g c = let v : View = c.args.text.now.reader.agent.seat.me.0 in let w : View = c.intern_key_at-answer.new.reader.agent.seat.me.0 in
    let us : List ℕ = units_of_key c.args.key.now in let p = c.offer-given.result in let answer = c.intern_key_at-answer.result in
    let r = c.args.self.now in let s = c.take.new.self in let e = c.take.ensures in let h = c.intern_key_at-answer.ensures in
    let all : c.words_for-words.result ≡ words_holding us = c.words_for-words.ensures ∙ (λ j. words_over (c.is_wide.ensures j) (c.len.ensures j)) in
    let offered : IsOffered r (words_holding us) p = subst (λ (m : ℕ). IsOffered r m p) all c.offer-given.ensures in record {
      given = p;
      offered = offered;
      interned = h.interns.0;
      taken = taken_from v w r s us p c.take.result.0 (words_holding us) c.words_for-words.result answer c.requires.enough offered h.interns.0.settled h.interns.1 all e.ids e.words;
    }
