-- Files that were run on one heap, and what of them is in the heap afterwards.
use Rattle.std.specs.Prelude.{◌≡◌, ℕ, List, [], ◌∷◌, map, flat_map, Option, Some, None}
use Rattle.js_store.specs.State.{State}
use Rattle.js_store.specs.declared.faults.FullReport.{FullReport}
use Rattle.js_texts.specs.Texts.{Every}
use Rattle.eval_values.specs.Conversions.{sum_over}
use Rattle.js_eval.specs.declared.ending.End.{End}
use Rattle.js_eval.specs.declared.ending.End.TheVariants.{Done, Full, Memory}
use Rattle.js_eval.specs.Evaluates.{script_end}
use Rattle.js_eval.specs.Script.{Flow}
use Rattle.run_program.specs.declared.job.Job.{Job}
use Rattle.run_program.specs.declared.job.Outcome.{Outcome}
use Rattle.run_program.specs.Jobs.{RunFile, WasFileRun, Reports}

-- what the files mean, in their order
abbrev pub means_of : List RunFile → List Flow
means_of files = map (λ f. f.mean) files

-- what came of the files, in their order
abbrev pub outcomes_of : List RunFile → List Outcome
outcomes_of files = map (λ f. f.outcome) files

-- These files were run on a heap, with a reason for each full heap, and nothing else was done: the history is
-- what they interned, in their order, and what was used is what they used.
pub record AreRun {F : Type 0} (s : State F) (Why : RunFile → FullReport → List (List ℕ) → Type 0)
    (files : List RunFile) : Type 0 where
  pub each : Every (WasFileRun s Why) files
  pub history : s.history ≡ flat_map (λ f. f.part.pairs) files
  pub used_ids : s.used_ids ≡ sum_over (λ f. f.part.ids) files
  pub used_words : s.used_words ≡ sum_over (λ f. f.part.words) files

-- the same at any moment of a run, by what each report says
abbrev pub WereRun : {F : Type 0} → State F → List RunFile → Type 0
WereRun s files = AreRun s (Reports s) files

-- files that are these jobs, in their order
pub record AreJobs (mean : Job → Flow) (jobs : List Job) (outcomes : List Outcome)
    (files : List RunFile) : Type 0 where
  pub means : means_of files ≡ map mean jobs
  pub came : outcomes_of files ≡ outcomes

-- the end is the meaning's
abbrev pub IsAsMeant : RunFile → Type 0
IsAsMeant f = f.outcome.end ≡ script_end f.mean.out

-- the end is neither Full nor out of memory
abbrev pub IsOwnEnd : End → Type 0
IsOwnEnd (Full report) = ⊥
IsOwnEnd Memory = ⊥
IsOwnEnd _ = Unit {0}

-- After a prelude that ended so: all scripts were run where it ended Done, and else none was.
abbrev pub AfterPrelude : End → List Flow → List RunFile → Type 0
AfterPrelude Done scripts files = means_of files ≡ scripts
AfterPrelude _ scripts files = files ≡ []

-- The files that were run are the prelude with its meaning, if there is one, and then the scripts with
-- theirs, in their order.
abbrev pub AreFilesOf : Option Flow → List Flow → List RunFile → Type 0
AreFilesOf None scripts files = means_of files ≡ scripts
AreFilesOf (Some prelude) scripts [] = ⊥
AreFilesOf (Some prelude) scripts (f ∷ files) = (f.mean ≡ prelude) × AfterPrelude f.outcome.end scripts files
