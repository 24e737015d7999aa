use Rattle.std.proofs.Common.{ap, ℕ, ◌<◌, sym, subst}
use Rattle.heap_rule.specs.declared.view.View.{View}
use Rattle.heap_reserve.proofs.Kept.{reserve_kept}
use Rattle.heap_agents.specs.Held.{held_size, view_by}
use Rattle.heap_agents.specs.Shared.{view_if}
use Rattle.heap_agents.proofs.Marks.{added_here, has_own, joined_held, same_ids}
use Rattle.heap_agents.proofs.held.Held.join.Goals as goal

pub returns-clause-held : goal.returns-clause-held
returns-clause-held c = let j = c.join_text.ensures in let x = c.args.self.now in let o = c.args.other in let w : View = view_if c.join_text.new.text in
    joined_held c.args.self.now c.args.other c.join_text.new.text c.requires.held c.requires.other j.there j.same c.requires.beside c.requires.may j.known j.known_of_other j.history
    c.add_all.new.self c.add_all-2.new.self c.add_all.ensures.room c.add_all.ensures.only c.add_all-2.ensures.room c.add_all-2.ensures.only (ap (λ (v : View). v.agents) j.view)
    c.add_all.ensures.kept (λ i h. added_here c.args.self.now c.args.other c.requires.held c.requires.other c.requires.beside c.add_all.new.self c.add_all.ensures.there i h)
    c.take_over.new.self (c.take_over.ensures.reserve w (reserve_kept (view_by x) w x.reserve (has_own (view_by x) w j.all) c.requires.held.reserved)
    (reserve_kept (view_by o) w o.reserve (has_own (view_by o) w j.all_of_other) c.requires.other.reserved))

pub returns-clause-known : goal.returns-clause-known
returns-clause-known c i h = added_here c.args.self.now c.args.other c.requires.held c.requires.other c.requires.beside c.add_all.new.self c.add_all.ensures.there i h

pub returns-clause-interned : goal.returns-clause-interned
returns-clause-interned c i h = let x = c.args.self.now in let o = c.args.other in
    c.add_all-2.ensures.there (held_size x).ids i c.requires.held.marked.calls_room
    (subst (λ (n : ℕ). i < n) (sym (same_ids x.text o.text c.requires.beside)) (c.requires.other.marked.calls_below i h)) h

pub returns-clause-only : goal.returns-clause-only
returns-clause-only c i h = c.add_all.ensures.only i h

pub returns-clause-only_interned : goal.returns-clause-only_interned
returns-clause-only_interned c i h = c.add_all-2.ensures.only i h
