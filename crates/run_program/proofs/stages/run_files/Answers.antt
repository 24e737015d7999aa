use Rattle.std.proofs.Common.{◌≡◌, ℕ, true, false, List, [], length, drop, Option, None, Some, refl, sym, ap, subst, ◌∙◌, arith}
use Rattle.std.proofs.lemmas.List.{take_at}
use Rattle.std.specs.Borrow.{Bor}
use Rattle.eval_tree.specs.declared.tree.Script.{Script}
use Rattle.eval_tree.specs.Tree.{tree_of}
use Rattle.eval_scopes.specs.declared.binding_list.Binding.{Binding}
use Rattle.eval_scopes.specs.Bindings.{Bound}
use Rattle.eval_scopes.specs.Seen.{bounds_of}
use Rattle.js_item.specs.declared.item.Item.{Item}
use Rattle.js_item.specs.Seen.{Val}
use Rattle.js_eval.specs.Evaluates.{Evaluates}
use Rattle.js_eval.specs.Script.{meaning}
use Rattle.js_eval.specs.Seen.{bounds_seen}
use Rattle.heap_read.specs.declared.string.JsStr.{JsStr}
use Rattle.heap_session.specs.Sessions.{state_in}
use Rattle.run_program.specs.declared.job.Outcome.{Outcome}
use Rattle.run_program.specs.Jobs.{RunsEachJob, means, number}
use Rattle.run_program.specs.Ran.{tree_if}
use Rattle.run_program.specs.Stages.{HaveRunFrom, job_trees}
use Rattle.run_program.proofs.Having.{have_alone, have_behind, have_stopped}
use Rattle.run_program.proofs.Numbered.{as_many}
use Rattle.run_program.proofs.stages.run_files.Goals as goal

pub returns-in-None-clause-ran : goal.returns-in-None-clause-ran
returns-in-None-clause-ran g c = let a = state_in c.args.session.now in let b = state_in c.run_all.new.session in
    let js = c.args.jobs.now in let outs = c.run_all.new.outcomes in let places = c.as_mut_slice-places in let r = c.run_all.ensures.ran in
    let many : length outs ≡ length js = as_many (means a c.new-env.result) b js outs r.parts r.each in
    let room : length places.result.now ≡ length c.args.outcomes.now.items = ap (λ (os : List Outcome). length os) places.ensures.value in
    let back = take_at outs (drop (length outs) c.args.outcomes.now.items) c.args.outcomes.now.len (omega (arith, many, c.requires.lengths, places.ensures.len, room)) in
    subst (λ (os : List Outcome). HaveRunFrom a b (tree_if c.args.prelude) (job_trees js) None os) (sym back)
    (subst (λ (p : Option (Bor Script)). HaveRunFrom a b (tree_if p) (job_trees js) None outs) (sym c.in-None.is)
    (have_alone a b js outs c.requires.unused c.requires.numbered
    (subst (λ (env : List (Binding (Item JsStr))). RunsEachJob a b env js outs) c.new-env.ensures r)))

pub returns-then-not-is_done-clause-ran : goal.returns-then-not-is_done-clause-ran
returns-then-not-is_done-clause-ran g c = let a = state_in c.args.session.now in let e = c.eval-end in let b = state_in e.new.store in let script = c.in-Some.script.now in let tree = tree_of script in
    let o : Outcome = record { index = 0; lines = e.new.lines; end = e.result } in
    let after : List (Bound Val) = bounds_seen b number (bounds_of e.new.env) in
    subst (λ (os : List Outcome). HaveRunFrom a b (tree_if c.args.prelude) (job_trees c.args.jobs.now) (Some o) os) (sym {A = List Outcome} c.clear.ensures.items)
    (subst (λ (p : Option (Bor Script)). HaveRunFrom a b (tree_if p) (job_trees c.args.jobs.now) (Some o) []) (sym c.in-Some.is)
    (have_stopped a b script o after c.requires.unused e.ensures.grows
    (subst (λ (env : List (Binding (Item JsStr))). Evaluates a b [] e.new.lines after e.result (meaning tree (bounds_seen a number (bounds_of env)) a.limit)) c.new-env.ensures
    (subst (λ (x : List ℕ). Evaluates a b x e.new.lines after e.result (meaning tree (bounds_seen a number (bounds_of c.new-env.result)) a.limit)) c.new-lines.ensures e.ensures.meaning))
    (job_trees c.args.jobs.now)
    (λ done. let both : true ≡ false = sym (c.is_done.ensures.1 done) ∙ c.if-not-is_done.true in cc)))

pub returns-clause-ran : goal.returns-clause-ran
returns-clause-ran g c = let a = state_in c.args.session.now in let e = c.eval-end in let b = state_in e.new.store in let d = state_in c.run_all-2.new.session in
    let script = c.in-Some.script.now in let tree = tree_of script in
    let o : Outcome = record { index = 0; lines = e.new.lines; end = e.result } in
    let after : List (Bound Val) = bounds_seen b number (bounds_of e.new.env) in
    let js = c.args.jobs.now in let outs = c.run_all-2.new.outcomes in let places = c.as_mut_slice-places-2 in let r = c.run_all-2.ensures.ran in
    let many : length outs ≡ length js = as_many (means b e.new.env) d js outs r.parts r.each in
    let room : length places.result.now ≡ length c.args.outcomes.now.items = ap (λ (os : List Outcome). length os) places.ensures.value in
    let back = take_at outs (drop (length outs) c.args.outcomes.now.items) c.args.outcomes.now.len (omega (arith, many, c.requires.lengths, places.ensures.len, room)) in
    subst (λ (os : List Outcome). HaveRunFrom a d (tree_if c.args.prelude) (job_trees js) (Some o) os) (sym back)
    (subst (λ (p : Option (Bor Script)). HaveRunFrom a d (tree_if p) (job_trees js) (Some o) outs) (sym c.in-Some.is)
    (have_behind a b script o after c.requires.unused e.ensures.grows
    (subst (λ (env : List (Binding (Item JsStr))). Evaluates a b [] e.new.lines after e.result (meaning tree (bounds_seen a number (bounds_of env)) a.limit)) c.new-env.ensures
    (subst (λ (x : List ℕ). Evaluates a b x e.new.lines after e.result (meaning tree (bounds_seen a number (bounds_of c.new-env.result)) a.limit)) c.new-lines.ensures e.ensures.meaning))
    d e.new.env js outs refl (c.is_done.ensures.0 c.if-not-is_done.false) r c.requires.numbered))
