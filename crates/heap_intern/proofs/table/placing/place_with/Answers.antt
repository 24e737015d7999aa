use Rattle.std.proofs.Common.{subst, sym, Option}
use Rattle.std.specs.Prelude.{IfSome}
use Rattle.std.proofs.lemmas.Result.{IfOk-weaker}
use Rattle.heap_rule.specs.declared.view.View.{View}
use Rattle.heap_intern.specs.declared.table.given.Given.{Given}
use Rattle.heap_intern.specs.Headers.{header_plan}
use Rattle.heap_intern.specs.Seats.{id_in}
use Rattle.heap_intern.specs.Taking.{AnswersAt, HasGiven}
use Rattle.heap_intern.proofs.table.placing.place_with.Goals as goal

pub place_string-requires-clause-given : goal.place_string-requires-clause-given
place_string-requires-clause-given g c = let v : View = c.args.reader.now.agent.seat.me.0 in
    subst (λ (o : Option Given). IfSome o (HasGiven v c.args.opening.words)) c.in-Some.is c.requires.given

pub place_new-requires-clause-wanted : goal.place_new-requires-clause-wanted
place_new-requires-clause-wanted g c = let o = c.requires.opening in (o.0, (o.1.sought, o.1.units, o.1.frozen), o.1.opening)

pub returns-in-Some-clause-interns : goal.returns-in-Some-clause-interns
returns-in-Some-clause-interns g c us h = let v : View = c.args.reader.now.agent.seat.me.0 in let w : View = c.place_string.new.reader.agent.seat.me.0 in
    subst (λ (o : Option Given). AnswersAt v w us (header_plan c.args.opening.sought us) o (id_in c.place_string.result)) (sym c.in-Some.is)
    (c.place_string.ensures.interns us h, c.place_string.ensures.nothing)

pub returns-in-None-clause-interns : goal.returns-in-None-clause-interns
returns-in-None-clause-interns g c us h = let v : View = c.args.reader.now.agent.seat.me.0 in let w : View = c.place_new.new.reader.agent.seat.me.0 in
    subst (λ (o : Option Given). AnswersAt v w us (header_plan c.args.opening.sought us) o (id_in c.place_new.result)) (sym c.in-None.is)
    (c.place_new.ensures.interns us (h.sought, h.units, h.frozen))

pub returns-in-None-clause-stands : goal.returns-in-None-clause-stands
returns-in-None-clause-stands g c = IfOk-weaker c.place_new.result _ _ (λ s t us h. t us (h.sought, h.units, h.frozen)) c.place_new.ensures.stands

pub returns-in-None-clause-once : goal.returns-in-None-clause-once
returns-in-None-clause-once g c us h = c.place_new.ensures.once us (h.sought, h.units, h.frozen)
