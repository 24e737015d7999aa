use Rattle.std.proofs.Common.{ℕ, List, Option, sym, subst}
use Rattle.std.specs.Prelude.{IfSome}
use Rattle.std.proofs.lemmas.Result.{IfOk-weaker}
use Rattle.heap_rule.specs.declared.view.View.{View}
use Rattle.heap_intern.specs.declared.table.given.Given.{Given}
use Rattle.heap_intern.specs.Answers.{HeaderPlan, IsInternAnswer, copy_plan, words_of_copy}
use Rattle.heap_intern.specs.Keys.{units_of_key}
use Rattle.heap_intern.specs.Seats.{id_in}
use Rattle.heap_intern.specs.Taking.{AnswersAt, HasGiven}
use Rattle.heap_intern.proofs.Opened.{opening_place, opening_taken}
use Rattle.heap_intern.proofs.table.searching.place_key.Goals as goal

pub place_given-requires-clause-place : goal.place_given-requires-clause-place
place_given-requires-clause-place g c = opening_place c.args.reader.now.agent.seat.me.0 (units_of_key c.args.key.now) c.args.opening c.requires.opening

pub place_given-requires-clause-given : goal.place_given-requires-clause-given
place_given-requires-clause-given g c = let v : View = c.args.reader.now.agent.seat.me.0 in
    subst (λ (o : Option Given). IfSome o (HasGiven v (words_of_copy (units_of_key c.args.key.now)))) c.in-Some.is c.requires.given

pub place_new-requires-clause-wanted : goal.place_new-requires-clause-wanted
place_new-requires-clause-wanted g c = (units_of_key c.args.key.now, c.wanted.ensures.wanted c.args.reader.now.agent.seat.me.0, c.requires.opening)

pub returns-in-Some-clause-interns : goal.returns-in-Some-clause-interns
returns-in-Some-clause-interns g c = let v : View = c.args.reader.now.agent.seat.me.0 in let w : View = c.place_given.new.reader.agent.seat.me.0 in let us : List ℕ = units_of_key c.args.key.now in let e = c.place_given.ensures in
    subst (λ (o : Option Given). AnswersAt v w us (copy_plan us) o (id_in c.place_given.result)) (sym c.in-Some.is)
    (opening_taken v w us (copy_plan us) c.in-Some.given (id_in c.place_given.result) c.args.opening c.args.reader.now.belongs.5 c.requires.opening e.places e.flat, e.nothing)

pub returns-in-None-clause-interns : goal.returns-in-None-clause-interns
returns-in-None-clause-interns g c = let v : View = c.args.reader.now.agent.seat.me.0 in let w : View = c.place_new.new.reader.agent.seat.me.0 in let us : List ℕ = units_of_key c.args.key.now in
    subst (λ (o : Option Given). AnswersAt v w us (copy_plan us) o (id_in c.place_new.result)) (sym c.in-None.is)
    (subst (λ (p : HeaderPlan). IsInternAnswer v w us p (id_in c.place_new.result)) (c.wanted.ensures.plan us) (c.place_new.ensures.interns us (c.wanted.ensures.wanted v)))

pub returns-in-None-clause-stands : goal.returns-in-None-clause-stands
returns-in-None-clause-stands g c = let v : View = c.args.reader.now.agent.seat.me.0 in
    IfOk-weaker c.place_new.result _ _ (λ s t. t (units_of_key c.args.key.now) (c.wanted.ensures.wanted v)) c.place_new.ensures.stands

pub returns-in-None-clause-loads : goal.returns-in-None-clause-loads
returns-in-None-clause-loads g c = let v : View = c.args.reader.now.agent.seat.me.0 in
    record { once = c.place_new.ensures.once (units_of_key c.args.key.now) (c.wanted.ensures.wanted v); most = c.place_new.ensures.most }
