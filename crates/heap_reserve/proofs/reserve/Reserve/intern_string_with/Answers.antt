use Rattle.std.proofs.Common.{◌≡◌, ◌∙◌, ℕ, List, subst}
use Rattle.heap_rule.specs.declared.view.View.{View}
use Rattle.heap_intern.specs.Headers.{header_plan}
use Rattle.heap_reserve.specs.Interning.{IsOffered}
use Rattle.heap_reserve.specs.Reserves.{HasEnough, IsTakenFrom}
use Rattle.heap_reserve.proofs.Interned.{taken_from}
use Rattle.heap_reserve.proofs.Kept.{reserve_taken}
use Rattle.heap_reserve.proofs.reserve.Reserve.intern_string_with.Goals as goal

pub returns-clause-reserve : goal.returns-clause-reserve
returns-clause-reserve g c = let v : View = c.args.text.now.reader.agent.seat.me.0 in let w : View = c.intern_string_at-answer.new.reader.agent.seat.me.0 in
    let us : List ℕ = c.requires.opening.0 in let o = c.requires.opening.1 in let n : ℕ = (header_plan c.args.opening.sought us).words in
    let p = c.offer-given.result in let answer = c.intern_string_at-answer.result in
    let r = c.args.self.now in let s = c.take.new.self in let e = c.take.ensures in let h = c.intern_string_at-answer.ensures.interns us o in
    let all : c.words-words.result ≡ n = c.words-words.ensures ∙ o.words in
    let offered : IsOffered r n p = subst (λ (m : ℕ). IsOffered r m p) all c.offer-given.ensures in
    let taken : IsTakenFrom v w r s p.id n = taken_from v w r s us p c.take.result.0 n c.words-words.result answer (subst (HasEnough r) o.words c.requires.enough) offered h.0.settled h.1 all e.ids e.words in
    reserve_taken v w r s p.id n c.requires.reserve taken

pub returns-clause-interns : goal.returns-clause-interns
returns-clause-interns g c us o = let v : View = c.args.text.now.reader.agent.seat.me.0 in let w : View = c.intern_string_at-answer.new.reader.agent.seat.me.0 in
    let n : ℕ = (header_plan c.args.opening.sought us).words in
    let p = c.offer-given.result in let answer = c.intern_string_at-answer.result in
    let r = c.args.self.now in let s = c.take.new.self in let e = c.take.ensures in let h = c.intern_string_at-answer.ensures.interns us o in
    let all : c.words-words.result ≡ n = c.words-words.ensures ∙ o.words in
    let offered : IsOffered r n p = subst (λ (m : ℕ). IsOffered r m p) all c.offer-given.ensures in record {
      given = p;
      offered = offered;
      interned = h.0;
      taken = taken_from v w r s us p c.take.result.0 n c.words-words.result answer (subst (HasEnough r) o.words c.requires.enough) offered h.0.settled h.1 all e.ids e.words;
    }
