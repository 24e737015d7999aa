use Rattle.std.proofs.Common.{Ok, Option, subst, sym}
use Rattle.std.proofs.lemmas.Result.{err_from_is_err_and}
use Rattle.heap_rule.specs.declared.view.View.{View}
use Rattle.heap_rule.proofs.MapLemmas.{key_of}
use Rattle.heap_intern.specs.Answers.{IsForwarded}
use Rattle.heap_intern.specs.Headers.{header_plan}
use Rattle.heap_agents.specs.Held.{view_by}
use Rattle.heap_agents.specs.Shared.{SharedText, view_if}
use Rattle.agent_keys.proofs.Interned.{leaves_at}
use Rattle.agent_keys.proofs.Opened.{held_at, marked_at, refused_at}
use Rattle.agent_keys.proofs.table.take_string.Goals as goal

pub mark_interned-requires-clause-held : goal.mark_interned-requires-clause-held
mark_interned-requires-clause-held c = let call = c.intern_string_at-answer in let e = call.ensures in let o = c.requires.opening in
    held_at c.args.agent.now call.new.text call.new.seats call.new.reserve c.requires.held e.there e.same e.noted e.reserved o.0 (header_plan c.args.opening.sought o.0) c.args.opening.opening
    (e.loads o.0 o.1) call.result (e.interns o.0 o.1)

pub mark_interned-requires-clause-known : goal.mark_interned-requires-clause-known
mark_interned-requires-clause-known c = let v : View = view_by c.args.agent.now in let w : View = view_if c.intern_string_at-answer.new.text in let o = c.requires.opening in
    key_of w.units c.in_ok-id.id o.0 (leaves_at v w c.args.agent.now.reserve c.intern_string_at-answer.new.reserve o.0 (header_plan c.args.opening.sought o.0) (Ok c.in_ok-id.id)
    (c.in_ok-id.ensures.interns o.0 o.1)).entered.units

pub mark_interned-requires-clause-call : goal.mark_interned-requires-clause-call
mark_interned-requires-clause-call c = let v : View = view_by c.args.agent.now in let w : View = view_if c.intern_string_at-answer.new.text in let o = c.requires.opening in
    (o.0, (leaves_at v w c.args.agent.now.reserve c.intern_string_at-answer.new.reserve o.0 (header_plan c.args.opening.sought o.0) (Ok c.in_ok-id.id) (c.in_ok-id.ensures.interns o.0 o.1)).entered.call)

pub returns-clause-takes : goal.returns-clause-takes
returns-clause-takes c us h = let call = c.intern_string_at-answer in let e = call.ensures in let mark = c.mark_interned in
    marked_at c.args.agent.now call.new.text call.new.seats call.new.reserve c.requires.held e.there e.same e.noted e.reserved us (header_plan c.args.opening.sought us) c.args.opening.opening
    (e.loads us h) mark.new.self mark.ensures.text c.in_ok-id.id mark.ensures.held mark.ensures.marks mark.ensures.marked (c.in_ok-id.ensures.interns us h)

pub returns-in_err-id-clause-takes : goal.returns-in_err-id-clause-takes
returns-in_err-id-clause-takes c us h = let call = c.intern_string_at-answer in let e = call.ensures in let p = err_from_is_err_and c.from_residual.result c.from_residual.ensures.1 in
    rw (p.1, p.2) (refused_at c.args.agent.now call.new.text call.new.seats call.new.reserve c.requires.held e.there e.same e.noted e.reserved us (header_plan c.args.opening.sought us) c.args.opening.opening
    (e.loads us h) c.in_err-id.field-0.0 (c.in_err-id.ensures.interns us h))

pub returns-clause-forwards : goal.returns-clause-forwards
returns-clause-forwards c = subst (λ (o : Option SharedText). IsForwarded (view_if o) c.args.opening.sought.id c.in_ok-id.id) (sym c.mark_interned.ensures.text) c.in_ok-id.ensures.forwards
