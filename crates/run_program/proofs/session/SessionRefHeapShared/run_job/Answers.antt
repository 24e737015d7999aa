use Rattle.std.proofs.Common.{[], refl, subst, List, ℕ}
use Rattle.js_store.proofs.Laws.{grows_refl}
use Rattle.eval_tree.specs.Tree.{tree_of}
use Rattle.eval_scopes.specs.Bindings.{Bound}
use Rattle.eval_scopes.specs.Seen.{bounds_of}
use Rattle.js_item.specs.Seen.{Val}
use Rattle.js_eval.specs.Script.{meaning}
use Rattle.js_eval.specs.Seen.{bounds_seen}
use Rattle.js_eval.specs.Evaluates.{Evaluates}
use Rattle.heap_session.specs.Sessions.{state_in}
use Rattle.run_program.specs.Jobs.{number, means}
use Rattle.run_program.proofs.Copies.{bounds_copy, bounds_fine_copy}
use Rattle.run_program.proofs.Jobs.{ran_one, ran_not}
use Rattle.run_program.proofs.session.SessionRefHeapShared.run_job.Goals as goal

pub eval-outcome-requires : goal.eval-outcome-requires
eval-outcome-requires c = bounds_fine_copy (state_in c.args.self.now) number c.in-Ok.copy c.args.env.now c.in-Ok.ensures c.requires.env

pub returns-in_default : goal.returns-in_default
returns-in_default c = let a = state_in c.args.self.now in
    ran_not (means a c.args.env.now) a a (grows_refl a) c.args.job.now _ refl refl refl c.requires.empty

pub returns : goal.returns
returns c = let a = state_in c.args.self.now in
    let e = c.eval-outcome in
    let b = state_in e.new.store in
    let after : List (Bound Val) = bounds_seen b number (bounds_of e.new.env) in
    ran_one (means a c.args.env.now) a b e.ensures.grows c.args.job.now _ refl after e.result refl
    (subst (λ (bs : List (Bound Val)). Evaluates a b [] e.new.lines after e.result
    (meaning (tree_of c.args.job.now.script) bs a.limit)) (bounds_copy a number c.in-Ok.copy c.args.env.now c.in-Ok.ensures)
    (subst (λ (x : List ℕ). Evaluates a b x e.new.lines after e.result
    (meaning (tree_of c.args.job.now.script) (bounds_seen a number (bounds_of c.in-Ok.copy)) a.limit)) c.requires.empty e.ensures.meaning))
