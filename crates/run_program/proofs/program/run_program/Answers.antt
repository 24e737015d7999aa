use Rattle.std.proofs.Common.{◌≡◌, List, ap, subst, sym, ◌∙◌}
use Rattle.js_store.specs.Limits.{limit_units}
use Rattle.js_store.specs.State.{State}
use Rattle.eval_tree.specs.Tree.{Tree}
use Rattle.heap_rule.specs.declared.view.View.{View}
use Rattle.heap_table.specs.Agents.{view_of}
use Rattle.heap_session.specs.Sessions.{SessionFrame, state_by, state_in, table_of, session_view}
use Rattle.run_program.specs.declared.ran.Ran.{Ran}
use Rattle.run_program.specs.Ran.{state_kept, tree_if, trees_of}
use Rattle.run_program.specs.Stages.{IsRunOver, job_trees}
use Rattle.run_program.proofs.Telling.{begun, is_ran, kept_limit, kept_of, kept_told, same_state}
use Rattle.run_program.proofs.program.run_program.Goals as goal

pub invariant_of-result : goal.invariant_of-result
invariant_of-result g c = let h = c.in-Ok.heap in let setup = c.args.setup in let f = c.run_files-first in let k = c.count_if-interned in
    let is : state_in c.note_slots.new.self ≡ begun setup (table_of h) = c.note_slots.ensures.state ∙ (c.new-session.ensures.state ∙ ap (λ (v : View). state_by v (limit_units setup.limit) (table_of h)) c.in-Ok.ensures.view) in
    c.into_agent-agent.ensures.belongs h (kept_of setup h (tree_if c.args.prelude) (job_trees c.deref.result.now) f.result f.new.outcomes.items k.result
    (state_in c.note_slots.new.self) (state_in f.new.session) (state_in c.totals.new.self) (state_in k.new.session)
    is c.in-Ok.ensures.size f.ensures.grows f.ensures.ran c.whole_has_all.ensures c.totals.ensures.state k.ensures.uses.step k.ensures.uses.history k.ensures.count)

pub returns-clause-told : goal.returns-clause-told
returns-clause-told g c = let h = c.in-Ok.heap in let setup = c.args.setup in let f = c.run_files-first in let k = c.count_if-interned in let s = k.new.session in let agent = c.into_agent-agent in
    let prelude = tree_if c.args.prelude in let trees = job_trees c.deref.result.now in let os = f.new.outcomes.items in
    let a = state_in c.note_slots.new.self in let b = state_in f.new.session in let t = state_in c.totals.new.self in let d = state_in s in
    let size = c.in-Ok.ensures.size in
    let is : a ≡ begun setup (table_of h) = c.note_slots.ensures.state ∙ (c.new-session.ensures.state ∙ ap (λ (v : View). state_by v (limit_units setup.limit) (table_of h)) c.in-Ok.ensures.view) in
    let of = kept_of setup h prelude trees f.result os k.result a b t d
    is size f.ensures.grows f.ensures.ran c.whole_has_all.ensures c.totals.ensures.state k.ensures.uses.step k.ensures.uses.history k.ensures.count in
    let limit = kept_limit setup h prelude trees f.result os k.result a b t d
    is size f.ensures.grows f.ensures.ran c.whole_has_all.ensures c.totals.ensures.state k.ensures.uses.step k.ensures.uses.history k.ensures.count in
    let told = subst (λ (x : State SessionFrame). IsRunOver setup x prelude trees f.result os k.result)
    (same_state (session_view s) (view_of agent.result) (limit_units s.limit) (limit_units setup.limit)
    (table_of s.text.reader.heap.now) (table_of h) (sym agent.ensures.view) limit of.0)
    (kept_told setup h prelude trees f.result os k.result a b t d
    is size f.ensures.grows f.ensures.ran c.whole_has_all.ensures c.totals.ensures.state k.ensures.uses.step k.ensures.uses.history k.ensures.count) in
    let ran : Ran = record { prelude = f.result; scripts = f.new.outcomes; interned = k.result; kept = record { heap = h; agent = agent.result } } in
    subst (λ (trees : List Tree). IsRunOver setup (state_kept setup ran.kept) prelude trees ran.prelude ran.scripts.items ran.interned)
    (ap job_trees c.deref.ensures.value ∙ c.in_ok-jobs.ensures.trees) told

pub returns-clause-ran : goal.returns-clause-ran
returns-clause-ran g c = let h = c.in-Ok.heap in let setup = c.args.setup in let f = c.run_files-first in let k = c.count_if-interned in
    let is : state_in c.note_slots.new.self ≡ begun setup (table_of h) = c.note_slots.ensures.state ∙ (c.new-session.ensures.state ∙ ap (λ (v : View). state_by v (limit_units setup.limit) (table_of h)) c.in-Ok.ensures.view) in
    let of = kept_of setup h (tree_if c.args.prelude) (job_trees c.deref.result.now) f.result f.new.outcomes.items k.result
    (state_in c.note_slots.new.self) (state_in f.new.session) (state_in c.totals.new.self) (state_in k.new.session)
    is c.in-Ok.ensures.size f.ensures.grows f.ensures.ran c.whole_has_all.ensures c.totals.ensures.state k.ensures.uses.step k.ensures.uses.history k.ensures.count in
    let ran : Ran = record { prelude = f.result; scripts = f.new.outcomes; interned = k.result; kept = record { heap = h; agent = c.into_agent-agent.result } } in
    is_ran setup (tree_if c.args.prelude) (trees_of c.args.scripts.items) ran c.in-Ok.ensures.size (c.into_agent-agent.ensures.belongs h of) (returns-clause-told g c)
