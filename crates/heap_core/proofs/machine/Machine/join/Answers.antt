use Rattle.std.proofs.Common.{◌∙◌, ◌+◌, ◌<◌, ◌^◌, Ok, length, get_or, ap, sym, subst, arith}
use Rattle.std.proofs.lemmas.List.{length-set}
use Rattle.heap_rule.specs.declared.view.View.{View}
use Rattle.heap_rule.specs.Agents.{spent, MayJoin, joined_view}
use Rattle.heap_core.specs.declared.event.Event.TheVariants.{Join}
use Rattle.heap_core.specs.Core.{Core, core_of}
use Rattle.heap_core.specs.Events.{LiveIn, looked, Made}
use Rattle.heap_core.proofs.StateLemmas.{view_inside, join_done, join_fits}
use Rattle.heap_core.proofs.machine.Machine.join.Goals as goal

pub view-requires : goal.view-requires
view-requires c = view_inside c.args.self.now.views.items c.args.view (λ (v : View). LiveIn c.args.self.now.views.items c.args.other (λ (b : View). MayJoin v b)) c.requires.can.1

pub view-requires-2 : goal.view-requires-2
view-requires-2 c = view_inside c.args.self.now.views.items c.args.other (λ (b : View). MayJoin c.requires.can.1.0 b) c.requires.can.1.3

pub joined-requires-clause-shares : goal.joined-requires-clause-shares
joined-requires-clause-shares c = subst (λ (p : View × View). p.0.share + p.1.share < 2 ^ 32)
    (λ i. (sym c.view.ensures i, sym c.view-2.ensures i)) (join_fits (core_of c.args.self.now) c.args.view c.args.other spent spent
    (let few = c.args.self.now.few in omega arith) c.requires.core c.requires.can).0

pub joined-requires-clause-ids : goal.joined-requires-clause-ids
joined-requires-clause-ids c = subst (λ (p : View × View). p.0.used.ids + p.1.used.ids < 2 ^ 32)
    (λ i. (sym c.view.ensures i, sym c.view-2.ensures i)) (join_fits (core_of c.args.self.now) c.args.view c.args.other spent spent
    (let few = c.args.self.now.few in omega arith) c.requires.core c.requires.can).1

pub joined-requires-clause-words : goal.joined-requires-clause-words
joined-requires-clause-words c = subst (λ (p : View × View). p.0.used.words + p.1.used.words < 2 ^ 32)
    (λ i. (sym c.view.ensures i, sym c.view-2.ensures i)) (join_fits (core_of c.args.self.now) c.args.view c.args.other spent spent
    (let few = c.args.self.now.few in omega arith) c.requires.core c.requires.can).2

pub look-requires : goal.look-requires
look-requires c = view_inside c.args.self.now.views.items c.args.view (λ (v : View). LiveIn c.args.self.now.views.items c.args.other (λ (b : View). MayJoin v b)) c.requires.can.1

pub look-requires-2 : goal.look-requires-2
look-requires-2 c = let l = view_inside c.args.self.now.views.items c.args.other
    (λ (b : View). MayJoin c.requires.can.1.0 b) c.requires.can.1.3 in
    let e = ap (λ (u : Core). length u.views) c.look.ensures ∙ length-set c.args.self.now.views.items c.args.view c.in_ok-joined.joined in omega arith

pub returns : goal.returns
returns c = subst (λ (t : Core). Made (core_of c.args.self.now) (Join c.args.view c.args.other) t (Ok c.word.result))
    (sym (c.look-2.ensures ∙ ap (λ (u : Core). looked u c.args.other c.spent.result) c.look.ensures))
    (join_done (core_of c.args.self.now) c.args.view c.args.other c.word.result spent spent c.in_ok-joined.joined c.spent.result
    c.requires.can (c.word.ensures ∙ ap (λ (u : Core). get_or u.words 0 0)
    (c.look-2.ensures ∙ ap (λ (u : Core). looked u c.args.other c.spent.result) c.look.ensures))
    (c.in_ok-joined.ensures ∙ (λ i. joined_view (c.view.ensures i) (c.view-2.ensures i))) c.spent.ensures)
