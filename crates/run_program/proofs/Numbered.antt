-- Jobs with the numbers of their places, one after the other.
use Rattle.std.proofs.Common.{◌≡◌, ℕ, ◌+◌, List, [], ◌∷◌, ◌++◌, length, map, refl, sym, ap, ◌∙◌, arith}
use Rattle.std.proofs.lemmas.List.{map-append}
use Rattle.js_store.specs.State.{State}
use Rattle.eval_tree.specs.declared.tree.Script.{Script}
use Rattle.eval_tree.specs.Tree.{tree_of}
use Rattle.eval_scopes.specs.Bindings.{Bound}
use Rattle.js_item.specs.Seen.{Val}
use Rattle.js_eval.specs.Script.{Flow, meaning}
use Rattle.run_program.specs.declared.job.Job.{Job}
use Rattle.run_program.specs.declared.job.Outcome.{Outcome}
use Rattle.run_program.specs.Jobs.{JobUse, CameOf, AtEach}
use Rattle.run_program.specs.Stages.{AreInPlaces, AreNumbered, job_trees}

-- one more job
pub numbered_more : (place : ℕ) (js : List Job) (j : Job) → AreNumbered place js → j.index ≡ place + length js → AreNumbered place (js ++ j ∷ [])
numbered_more place [] j h is = (omega (arith, is), tt)
numbered_more place (k ∷ js) j h is = (h.0, numbered_more (place + 1) js j h.1 (omega (arith, is)))

pub trees_more : (js : List Job) (j : Job) (scripts : List Script) → job_trees js ≡ map tree_of scripts → job_trees (js ++ j ∷ []) ≡ map tree_of (scripts ++ j.script ∷ [])
trees_more js j scripts h = map-append (λ (k : Job). tree_of k.script) js (j ∷ []) ∙ (ap (λ x. x ++ tree_of j.script ∷ []) h ∙ sym (map-append tree_of scripts (j.script ∷ [])))

-- what jobs mean is what their scripts mean
pub means_jobs : (js : List Job) (top : List (Bound Val)) (l : ℕ) → map (λ j. meaning (tree_of j.script) top l) js ≡ map (λ t. meaning t top l) (job_trees js)
means_jobs [] top l = refl
means_jobs (j ∷ js) top l = ap (λ x. meaning (tree_of j.script) top l ∷ x) (means_jobs js top l)

-- each outcome has its job's number
module _ {F : Type 0} (mean : Job → Flow) (s : State F) where
  pub in_places : (place : ℕ) (js : List Job) (os : List Outcome) (ps : List JobUse) → AreNumbered place js → AtEach (λ j. CameOf s (mean j) j) js os ps → AreInPlaces place os
  in_places place [] [] [] n h = tt
  in_places place (j ∷ js) (o ∷ os) (p ∷ ps) n h = (h.0.index ∙ n.0, in_places (place + 1) js os ps n.1 h.1)
  in_places place [] [] (p ∷ ps) n h = absurd h
  in_places place [] (o ∷ os) ps n h = absurd h
  in_places place (j ∷ js) [] ps n h = absurd h
  in_places place (j ∷ js) (o ∷ os) [] n h = absurd h

  -- and there are as many outcomes as jobs
  pub as_many : (js : List Job) (os : List Outcome) (ps : List JobUse) → AtEach (λ j. CameOf s (mean j) j) js os ps → length os ≡ length js
  as_many [] [] [] h = refl
  as_many (j ∷ js) (o ∷ os) (p ∷ ps) h = omega (arith, as_many js os ps h.1)
  as_many [] [] (p ∷ ps) h = absurd h
  as_many [] (o ∷ os) ps h = absurd h
  as_many (j ∷ js) [] ps h = absurd h
  as_many (j ∷ js) (o ∷ os) [] h = absurd h
