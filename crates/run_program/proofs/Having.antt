-- What was run, by what the prelude and the scripts did.
use Rattle.std.proofs.Common.{◌≡◌, ℕ, List, [], ◌∷◌, map, refl, sym, ap, subst, ◌∙◌, Some, None}
use Rattle.js_store.specs.State.{State, Grows}
use Rattle.eval_tree.specs.declared.tree.Script.{Script}
use Rattle.eval_tree.specs.Tree.{Tree, tree_of}
use Rattle.eval_scopes.specs.declared.binding_list.Binding.{Binding}
use Rattle.eval_scopes.specs.Bindings.{Bound}
use Rattle.eval_scopes.specs.Seen.{bounds_of}
use Rattle.js_item.specs.declared.item.Item.{Item}
use Rattle.js_item.specs.Seen.{Val}
use Rattle.js_eval.specs.declared.ending.End.{End}
use Rattle.js_eval.specs.declared.ending.End.TheVariants.{Done, Threw, Unsupported, Full, Memory}
use Rattle.js_eval.specs.Evaluates.{Evaluates, Finished}
use Rattle.js_eval.specs.Script.{Flow, meaning}
use Rattle.js_eval.specs.Seen.{bounds_seen}
use Rattle.heap_read.specs.declared.string.JsStr.{JsStr}
use Rattle.heap_session.specs.Sessions.{SessionFrame}
use Rattle.run_program.specs.declared.job.Job.{Job}
use Rattle.run_program.specs.declared.job.Outcome.{Outcome}
use Rattle.run_program.specs.Jobs.{JobUse, RunFile, RunsEachJob, number, means}
use Rattle.run_program.specs.Files.{WereRun, AfterPrelude}
use Rattle.run_program.proofs.Files.{run_jobs, run_one}
use Rattle.run_program.proofs.Jobs.{file_of}
use Rattle.run_program.specs.Meant.{scripts_meant}
use Rattle.run_program.specs.Stages.{AreNumbered, HaveRunFrom, IsUnused, job_trees}
use Rattle.run_program.proofs.Numbered.{in_places, means_jobs}

-- scripts alone
pub have_alone : (a b : State SessionFrame) (js : List Job) (os : List Outcome) → IsUnused a → AreNumbered 0 js → RunsEachJob a b [] js os → HaveRunFrom a b None (job_trees js) None os
have_alone a b js os unused numbered r = let more = run_jobs a b [] unused (means a []) js os r in record {
  files = more.0;
  are = more.1.means ∙ means_jobs js [] a.limit;
  came = more.1.came;
  has_prelude = refl;
  in_places = in_places (means a []) b 0 js os r.parts numbered r.each;
  run = more.2;
}

stopped : (e : End) (scripts : List Flow) → (e ≡ Done → ⊥) → AfterPrelude e scripts []
stopped Done scripts never = absurd (never refl)
stopped (Threw k) scripts never = refl
stopped (Unsupported at) scripts never = refl
stopped (Full r) scripts never = refl
stopped Memory scripts never = refl

-- scripts behind a prelude
module _ (a b : State SessionFrame) (script : Script) (o : Outcome) (after : List (Bound Val)) (unused : IsUnused a) (g : Grows a b)
    (ev : Evaluates a b [] o.lines after o.end (meaning (tree_of script) [] a.limit)) where
  abbrev flow : Flow
  flow = meaning (tree_of script) [] a.limit

  first : (p : JobUse) × WereRun b (file_of flow o p ∷ [])
  first = run_one a b [] unused flow (record { index = o.index; script = script }) o after refl g ev

  abbrev file : RunFile
  file = file_of flow o first.0

  pub have_stopped : (trees : List Tree) → (o.end ≡ Done → ⊥) → HaveRunFrom a b (Some (tree_of script)) trees (Some o) []
  have_stopped trees never = record {
    files = file ∷ [];
    are = (refl, stopped o.end (scripts_meant a.limit (Some (tree_of script)) trees) never);
    came = refl;
    has_prelude = refl;
    in_places = tt;
    run = first.1;
  }

  -- the bindings that it left are those that it is meant to leave
  leaves : o.end ≡ Done → after ≡ flow.bindings.top
  leaves done = let h : Finished a b [] o.lines after Done flow = subst (λ (e : End). Evaluates a b [] o.lines after e flow) done ev in h.bindings

  module _ (c : State SessionFrame) (env : List (Binding (Item JsStr))) (js : List Job) (os : List Outcome) (is : after ≡ bounds_seen
      b number (bounds_of env)) (done : o.end ≡ Done) (r : RunsEachJob b c env js os) where
    as_meant : map (means b env) js ≡ scripts_meant a.limit (Some (tree_of script)) (job_trees js)
    as_meant = means_jobs js (bounds_seen b number (bounds_of env)) b.limit
        ∙ (ap (λ (top : List (Bound Val)). map (λ t. meaning t top b.limit) (job_trees js)) (sym is ∙ leaves done)
        ∙ ap (λ (l : ℕ). map (λ t. meaning t flow.bindings.top l) (job_trees js)) g.limit)

    pub have_behind : AreNumbered 0 js → HaveRunFrom a c (Some (tree_of script)) (job_trees js) (Some o) os
    have_behind numbered = let more = run_jobs b c (file ∷ []) first.1 (means b env) js os r in record {
      files = file ∷ more.0;
      are = (refl, subst (λ (e : End). AfterPrelude e (scripts_meant a.limit (Some (tree_of script)) (job_trees js)) more.0) (sym done) (more.1.means ∙ as_meant));
      came = ap (λ x. o ∷ x) more.1.came;
      has_prelude = refl;
      in_places = in_places (means b env) c 0 js os r.parts numbered r.each;
      run = more.2;
    }
