use Rattle.std.proofs.Common.{◌≡◌, ℕ, ◌∷◌, [], refl, sym, ap, subst, ◌∙◌, None}
use Rattle.js_store.specs.Limits.{limit_units}
use Rattle.js_store.specs.State.{State}
use Rattle.js_store.proofs.Laws.{step_refl}
use Rattle.eval_tree.specs.Tree.{tree_of}
use Rattle.eval_scopes.specs.Seen.{bounds_of}
use Rattle.heap_rule.specs.declared.view.View.{View}
use Rattle.heap_table.specs.Agents.{size_of, view_of}
use Rattle.heap_session.specs.Sessions.{SessionFrame, state_by, state_in, table_of, session_view}
use Rattle.run_program.specs.Ran.{tree_if}
use Rattle.run_program.specs.Stages.{IsRunOver}
use Rattle.run_program.proofs.Telling.{begun, kept_limit, kept_of, kept_told, same_state}
use Rattle.run_here.specs.Here.{one_agent}
use Rattle.run_here.specs.Left.{LeavesMeant, script_by}
use Rattle.run_here.proofs.Leaving.{left_total}
use Rattle.run_here.proofs.here.run_on.Goals as goal

pub returns-clause-belongs : goal.returns-clause-belongs
returns-clause-belongs c = let h = c.args.heap.now in let setup = one_agent (size_of h) c.args.limit in let f = c.run_files-first in let t = state_in c.totals.new.self in
    let is : state_in c.note_slots.new.self ≡ begun setup (table_of h) = c.note_slots.ensures.state ∙ (c.new-session.ensures.state ∙ ap (λ (v : View). state_by v (limit_units c.args.limit) (table_of h)) c.requires.view) in
    c.into_agent.ensures.belongs h (kept_of setup h (tree_if c.args.prelude) (tree_of c.args.script.now ∷ []) f.result f.new.places.items None
    (state_in c.note_slots.new.self) (state_in f.new.session) t t
    is refl f.ensures.grows f.ensures.ran c.whole_has_all.ensures c.totals.ensures.state (step_refl t) refl refl)

pub returns-clause-told : goal.returns-clause-told
returns-clause-told c = let h = c.args.heap.now in let setup = one_agent (size_of h) c.args.limit in let f = c.run_files-first in let s = c.totals.new.self in let t = state_in s in
    let prelude = tree_if c.args.prelude in let trees = tree_of c.args.script.now ∷ [] in let os = f.new.places.items in
    let a = state_in c.note_slots.new.self in let b = state_in f.new.session in
    let is : a ≡ begun setup (table_of h) = c.note_slots.ensures.state ∙ (c.new-session.ensures.state ∙ ap (λ (v : View). state_by v (limit_units c.args.limit) (table_of h)) c.requires.view) in
    let of = kept_of setup h prelude trees f.result os None a b t t is refl f.ensures.grows f.ensures.ran c.whole_has_all.ensures c.totals.ensures.state (step_refl t) refl refl in
    let limit = kept_limit setup h prelude trees f.result os None a b t t is refl f.ensures.grows f.ensures.ran c.whole_has_all.ensures c.totals.ensures.state (step_refl t) refl refl in
    subst (λ (x : State SessionFrame). IsRunOver setup x prelude trees f.result os None)
    (same_state (session_view s) (view_of c.into_agent.result) (limit_units s.limit) (limit_units c.args.limit)
    (table_of s.text.reader.heap.now) (table_of h) (sym c.into_agent.ensures.view) limit of.0)
    (kept_told setup h prelude trees f.result os None a b t t is refl f.ensures.grows f.ensures.ran c.whole_has_all.ensures c.totals.ensures.state (step_refl t) refl refl)

pub returns-clause-left : goal.returns-clause-left
returns-clause-left c = let h = c.args.heap.now in let setup = one_agent (size_of h) c.args.limit in let f = c.run_files-first in let s = c.totals.new.self in let t = state_in s in
    let prelude = tree_if c.args.prelude in let tree = tree_of c.args.script.now in let trees = tree ∷ [] in let os = f.new.places.items in let bounds = bounds_of f.new.env in
    let a = state_in c.note_slots.new.self in let b = state_in f.new.session in
    let is : a ≡ begun setup (table_of h) = c.note_slots.ensures.state ∙ (c.new-session.ensures.state ∙ ap (λ (v : View). state_by v (limit_units c.args.limit) (table_of h)) c.requires.view) in
    let of = kept_of setup h prelude trees f.result os None a b t t is refl f.ensures.grows f.ensures.ran c.whole_has_all.ensures c.totals.ensures.state (step_refl t) refl refl in
    let limit = kept_limit setup h prelude trees f.result os None a b t t is refl f.ensures.grows f.ensures.ran c.whole_has_all.ensures c.totals.ensures.state (step_refl t) refl refl in
    subst (λ (x : State SessionFrame). LeavesMeant x (script_by (limit_units c.args.limit) prelude tree) bounds os)
    (same_state (session_view s) (view_of c.into_agent.result) (limit_units s.limit) (limit_units c.args.limit)
    (table_of s.text.reader.heap.now) (table_of h) (sym c.into_agent.ensures.view) limit of.0)
    (subst (λ (x : State SessionFrame). LeavesMeant x (script_by (limit_units c.args.limit) prelude tree) bounds os) (sym c.totals.ensures.state)
    (left_total b (script_by (limit_units c.args.limit) prelude tree) bounds os
    (subst (λ (l : ℕ). LeavesMeant b (script_by l prelude tree) bounds os) (ap (λ (x : State SessionFrame). x.limit) is) f.ensures.left)))
