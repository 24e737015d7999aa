-- What the stages of a run leave.
use Rattle.std.specs.Prelude.{◌≡◌, ℕ, ◌+◌, ◌≤◌, List, [], ◌∷◌, map, Option, option_to_list, ◌++◌}
use Rattle.std.specs.Prelude.{if◌then◌else◌, Some, None, is_some}
use Rattle.js_store.specs.State.{State}
use Rattle.eval_tree.specs.Tree.{Tree, tree_of}
use Rattle.js_eval.specs.Script.{Flow}
use Rattle.heap_intern.specs.Counting.{different}
use Rattle.heap_session.specs.Sessions.{SessionFrame}
use Rattle.heap_session.specs.Shares.{IsWhole}
use Rattle.run_program.specs.declared.job.Job.{Job}
use Rattle.run_program.specs.declared.job.Outcome.{Outcome}
use Rattle.run_program.specs.Jobs.{RunFile}
use Rattle.run_program.specs.Files.{WereRun, AreFilesOf, outcomes_of}
use Rattle.run_program.specs.Meant.{prelude_meant, scripts_meant}
use Rattle.run_program.specs.declared.ran.Setup.{Setup}
use Rattle.js_store.specs.Limits.{limit_units}

abbrev pub job_trees : List Job → List Tree
job_trees jobs = map (λ job. tree_of job.script) jobs

-- each job has the number of its place, from this one up
abbrev pub AreNumbered : ℕ → List Job → Type 0
AreNumbered place [] = Unit {0}
AreNumbered place (job ∷ jobs) = (job.index ≡ place) × AreNumbered (place + 1) jobs

-- the numbers of their places, from this one up
abbrev pub AreInPlaces : ℕ → List Outcome → Type 0
AreInPlaces place [] = Unit {0}
AreInPlaces place (outcome ∷ outcomes) = (outcome.index ≡ place) × AreInPlaces (place + 1) outcomes

-- no file was run
abbrev pub IsUnused : State SessionFrame → Type 0
IsUnused s = WereRun s []

-- Files with these meanings were run, and these are their outcomes: there is one of the prelude exactly where
-- there is a prelude, and each of a script has the number of its place.
pub record HaveRun (s : State SessionFrame) (prelude : Option Flow) (scripts : List Flow)
    (first : Option Outcome) (outcomes : List Outcome) : Type 0 where
  pub files : List RunFile
  pub are : AreFilesOf prelude scripts files
  pub came : outcomes_of files ≡ option_to_list first ++ outcomes
  pub has_prelude : is_some prelude ≡ is_some first
  pub in_places : AreInPlaces 0 outcomes
  pub run : WereRun s files

-- between two moments, on a heap where no file was run before
abbrev pub HaveRunFrom : State SessionFrame → State SessionFrame → Option Tree → List Tree → Option Outcome
    → List Outcome → Type 0
HaveRunFrom a b prelude scripts first outcomes =
    HaveRun b (prelude_meant a.limit prelude) (scripts_meant a.limit prelude scripts) first outcomes

-- the same on a heap that was made for it, by an agent with the whole share that has seen both counters where
-- they are, and what is reported of the heap
pub record IsRunOver (setup : Setup) (s : State SessionFrame) (prelude : Option Tree) (scripts : List Tree)
    (first : Option Outcome) (outcomes : List Outcome) (interned : Option ℕ) : Type 0 where
  pub have : HaveRun s (prelude_meant (limit_units setup.limit) prelude)
      (scripts_meant (limit_units setup.limit) prelude scripts) first outcomes
  pub agents : s.frame.agents ≡ setup.jobs
  pub whole : IsWhole s
  pub seen_ids : s.used_ids ≤ s.low_ids
  pub seen_words : s.used_words ≤ s.low_words
  pub counts : interned ≡ (if setup.count then Some (different s.history) else None)
