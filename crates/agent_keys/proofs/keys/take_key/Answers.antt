use Rattle.std.proofs.Common.{ℕ, List, Ok, Option, subst, sym}
use Rattle.std.proofs.lemmas.Result.{err_from_is_err_and}
use Rattle.heap_rule.specs.declared.view.View.{View}
use Rattle.heap_rule.proofs.MapLemmas.{key_of}
use Rattle.heap_intern.specs.Answers.{copy_plan}
use Rattle.heap_intern.specs.Keys.{units_of_key}
use Rattle.heap_agents.specs.Held.{view_by}
use Rattle.heap_read.specs.Reads.{HoldsForms}
use Rattle.heap_agents.specs.Shared.{SharedText, view_if}
use Rattle.agent_keys.proofs.Interned.{leaves_at}
use Rattle.agent_keys.proofs.Opened.{held_at, marked_at, refused_at}
use Rattle.agent_keys.proofs.keys.take_key.Goals as goal

pub mark_interned-requires-clause-held : goal.mark_interned-requires-clause-held
mark_interned-requires-clause-held c = let call = c.intern_at-answer in let e = call.ensures in
    held_at c.args.agent.now call.new.text call.new.seats call.new.reserve c.requires.held e.there e.same e.noted e.reserved (units_of_key c.args.key.now) (copy_plan (units_of_key c.args.key.now)) c.args.opening e.loads call.result e.interns

pub mark_interned-requires-clause-known : goal.mark_interned-requires-clause-known
mark_interned-requires-clause-known c = let v : View = view_by c.args.agent.now in let w : View = view_if c.intern_at-answer.new.text in let us : List ℕ = units_of_key c.args.key.now in
    key_of w.units c.in_ok-id.id us (leaves_at v w c.args.agent.now.reserve c.intern_at-answer.new.reserve us (copy_plan us) (Ok c.in_ok-id.id) c.in_ok-id.ensures.interns).entered.units

pub mark_interned-requires-clause-call : goal.mark_interned-requires-clause-call
mark_interned-requires-clause-call c = let v : View = view_by c.args.agent.now in let w : View = view_if c.intern_at-answer.new.text in let us : List ℕ = units_of_key c.args.key.now in
    (us, (leaves_at v w c.args.agent.now.reserve c.intern_at-answer.new.reserve us (copy_plan us) (Ok c.in_ok-id.id) c.in_ok-id.ensures.interns).entered.call)

pub returns-clause-takes : goal.returns-clause-takes
returns-clause-takes c = let call = c.intern_at-answer in let e = call.ensures in let mark = c.mark_interned in
    marked_at c.args.agent.now call.new.text call.new.seats call.new.reserve c.requires.held e.there e.same e.noted e.reserved (units_of_key c.args.key.now) (copy_plan (units_of_key c.args.key.now)) c.args.opening e.loads
    mark.new.self mark.ensures.text c.in_ok-id.id mark.ensures.held mark.ensures.marks mark.ensures.marked c.in_ok-id.ensures.interns

pub returns-in_err-id-clause-takes : goal.returns-in_err-id-clause-takes
returns-in_err-id-clause-takes c = let call = c.intern_at-answer in let e = call.ensures in let p = err_from_is_err_and c.from_residual.result c.from_residual.ensures.1 in
    rw (p.1, p.2) (refused_at c.args.agent.now call.new.text call.new.seats call.new.reserve c.requires.held e.there e.same e.noted e.reserved (units_of_key c.args.key.now) (copy_plan (units_of_key c.args.key.now)) c.args.opening e.loads
    c.in_err-id.field-0.0 c.in_err-id.ensures.interns)

pub returns-clause-forms : goal.returns-clause-forms
returns-clause-forms c = subst (λ (o : Option SharedText). HoldsForms (view_by c.args.agent.now) (view_if o)) (sym c.mark_interned.ensures.text) c.intern_at-answer.ensures.forms
