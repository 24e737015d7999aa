-- What jobs leave that were run on one heap: each outcome in its job's place, and what all did together.
use Rattle.eval_values.specs.Conversions.{sum_over}
use Rattle.std.specs.Prelude.{◌≡◌, ℕ, ◌+◌, ◌<◌, ◌≤◌, List, [], ◌∷◌, ◌++◌, length, map, max, All, Contains}
use Rattle.std.specs.Prelude.{Option, Some, None, IsSome, IsTrue, flat_map, ⊤}
use Rattle.std.specs.List.{concat}
use Rattle.js_store.specs.State.{State, NamesUnits, Grows}
use Rattle.js_store.specs.Faults.{ids_wanted, words_wanted}
use Rattle.js_store.specs.declared.faults.FullReport.{FullReport}
use Rattle.js_store.specs.declared.faults.FullReport.TheVariants.{Ids, Words, Slots}
use Rattle.js_store.specs.declared.faults.StoreFault.{StoreFault}
use Rattle.js_store.specs.declared.faults.StoreFault.TheVariants as store
use Rattle.eval_tree.specs.Tree.{tree_of}
use Rattle.eval_scopes.specs.declared.binding_list.Binding.{Binding}
use Rattle.eval_scopes.specs.Seen.{bounds_of}
use Rattle.js_item.specs.declared.item.Item.{Item}
use Rattle.js_eval.specs.declared.ending.End.{End}
use Rattle.js_eval.specs.declared.ending.End.TheVariants.{Full, Memory}
use Rattle.js_eval.specs.Evaluates.{script_end}
use Rattle.js_eval.specs.Script.{Flow, meaning, flow_ledger}
use Rattle.js_eval.specs.Seen.{BoundsFine, bounds_seen}
use Rattle.heap_rule.specs.Paths.{StartsWith}
use Rattle.heap_read.specs.declared.string.JsStr.{JsStr}
use Rattle.heap_session.specs.Sessions.{SessionFrame}
use Rattle.run_program.specs.declared.job.Job.{Job}
use Rattle.run_program.specs.declared.job.Outcome.{Outcome}

-- the number of a string of the heap
abbrev pub number : JsStr → ℕ
number s = s.id

-- what a job means that begins with these bindings in a store
abbrev pub means : {F : Type 0} → State F → List (Binding (Item JsStr)) → Job → Flow
means s env job = meaning (tree_of job.script) (bounds_seen s number (bounds_of env)) s.limit

-- what one job did to the store: the pairs that it added to the history, and the ids and content words that
-- it used
pub record JobUse : Type 0 where
  pub pairs : List (List ℕ × ℕ)
  pub ids : ℕ
  pub words : ℕ

-- a file that was run: what it means, what came of it, and what it did to the heap
pub record RunFile : Type 0 where
  pub mean : Flow
  pub outcome : Outcome
  pub part : JobUse

-- A job that came to its own end: the end and the lines are those that are meant, it interned what is meant,
-- and every string that an expression gave is known.
pub record Whole {F : Type 0} (s : State F) (m : Flow) (lines : List ℕ) (end : End)
    (part : JobUse) : Type 0 where
  pub end_is : end ≡ script_end m.out
  pub lines_are : lines ≡ concat m.lines
  pub interned : map (λ p. p.0) part.pairs ≡ (flow_ledger m).interned
  pub texts : (u : List ℕ) → Contains (flow_ledger m).texts u → (n : ℕ) × NamesUnits s n u

-- A job that was broken off, for this reason: the first ones of the lines are there, each of them whole, and
-- the first ones of what is meant were interned. The reason may speak of the lists that are left.
pub record Broken (Why : List (List ℕ) → Type 0) (m : Flow) (lines : List ℕ) (part : JobUse) : Type 0 where
  pub lines_done : List (List ℕ)
  pub lines_left : List (List ℕ)
  pub lines_split : m.lines ≡ lines_done ++ lines_left
  pub lines_are : lines ≡ concat lines_done
  pub left : List (List ℕ)
  pub interned : (flow_ledger m).interned ≡ map (λ p. p.0) part.pairs ++ left
  pub why : Why left

-- A job came to this end: its own; or that of a full store, for a reason that its report has; or that of lack
-- of memory.
abbrev pub HasJobEnd : {F : Type 0} → State F → (FullReport → List (List ℕ) → Type 0) → Flow → List ℕ → End
    → JobUse → Type 0
HasJobEnd s Why m lines (Full report) part = Broken (Why report) m lines part
HasJobEnd s Why m lines Memory part = Broken (λ left. ⊤) m lines part
HasJobEnd s Why m lines end part = Whole s m lines end part

-- What came of a file, said of the heap at any moment afterwards, with a reason for each full heap. What it
-- used is at most its need.
pub record WasFileRun {F : Type 0} (s : State F) (Why : RunFile → FullReport → List (List ℕ) → Type 0)
    (f : RunFile) : Type 0 where
  pub ended : HasJobEnd s (Why f) f.mean f.outcome.lines f.outcome.end f.part
  pub within_ids : f.part.ids ≤ (flow_ledger f.mean).ids
  pub within_words : f.part.words ≤ (flow_ledger f.mean).words

-- What a report says of a store at the moment when it came and at every later one: what was requested passes
-- the end of the counter from a value that it had, the end is the store's, and what the job used is with this
-- request at most its need. Where the string table was full, the next list is shut.
abbrev pub Reports : {F : Type 0} → State F → RunFile → FullReport → List (List ℕ) → Type 0
Reports s f (Ids at want end) left = (end < at + want) × (end ≡ s.sizes.ids) × (at ≤ s.low_ids) × (want ≡ 1)
    × (f.part.ids + want ≤ (flow_ledger f.mean).ids)
Reports s f (Words at want end) left = (end < at + want) × (end ≡ s.sizes.words) × (at ≤ s.low_words)
    × (f.part.words + want ≤ (flow_ledger f.mean).words)
Reports s f (Slots slots) [] = ⊥
Reports s f (Slots slots) (next ∷ rest) = (slots ≡ s.sizes.slots) × IsTrue (s.shut next)

-- a job and what came of it, said of the store at any moment afterwards
pub record CameOf {F : Type 0} (s : State F) (m : Flow) (job : Job) (outcome : Outcome)
    (part : JobUse) : Type 0 where
  pub index : outcome.index ≡ job.index
  pub run : WasFileRun s (Reports s) (record { mean = m; outcome = outcome; part = part })

-- three lists of one length, and so it is at each place
abbrev pub AtEach : {X Y Z : Type 0} → (X → Y → Z → Type 0) → List X → List Y → List Z → Type 0
AtEach P [] [] [] = Unit {0}
AtEach P (x ∷ xs) (y ∷ ys) (z ∷ zs) = P x y z × AtEach P xs ys zs
AtEach P [] [] (z ∷ zs) = ⊥
AtEach P [] (y ∷ ys) zs = ⊥
AtEach P (x ∷ xs) [] zs = ⊥
AtEach P (x ∷ xs) (y ∷ ys) [] = ⊥

-- what the parts are together, in the order of the jobs
abbrev pub pairs_of : List JobUse → List (List ℕ × ℕ)
pairs_of parts = flat_map (λ p. p.pairs) parts

-- the ids and the content words that the parts used together
abbrev pub ids_of : List JobUse → ℕ
ids_of parts = sum_over (λ p. p.ids) parts

abbrev pub words_of : List JobUse → ℕ
words_of parts = sum_over (λ p. p.words) parts

-- Between two moments these jobs were run and nothing else. Each outcome is in its job's place. What
-- stays of the store stays: its heap, share, sizes and limit, the history at its split, and all that is
-- known. The history is the one before, followed by what the jobs added, in their order, and what was used is
-- what they used.
pub record RanJobs {F : Type 0} (mean : Job → Flow) (before after : State F) (jobs : List Job)
    (outcomes : List Outcome) : Type 0 where
  pub grows : Grows before after
  pub parts : List JobUse
  pub each : AtEach (λ job. CameOf after (mean job) job) jobs outcomes parts
  pub history : after.history ≡ before.history ++ pairs_of parts
  pub used_ids : after.used_ids ≡ before.used_ids + ids_of parts
  pub used_words : after.used_words ≡ before.used_words + words_of parts

-- every job began with these bindings
abbrev pub RunsEachJob : {F : Type 0} → State F → State F → List (Binding (Item JsStr)) → List Job
    → List Outcome → Type 0
RunsEachJob before after env jobs outcomes = RanJobs (means before env) before after jobs outcomes

-- the fault of the store, or the lack of memory, by which a script ended
abbrev pub fault_in : End → Option StoreFault
fault_in (Full report) = Some (store.Full report)
fault_in Memory = Some store.Memory
fault_in _ = None

-- what the jobs need together, and the greatest request that one of their reports has
abbrev pub job_ids_needed : (Job → Flow) → List Job → ℕ
job_ids_needed mean [] = 0
job_ids_needed mean (j ∷ js) = (flow_ledger (mean j)).ids + job_ids_needed mean js

abbrev pub job_words_needed : (Job → Flow) → List Job → ℕ
job_words_needed mean [] = 0
job_words_needed mean (j ∷ js) = (flow_ledger (mean j)).words + job_words_needed mean js

abbrev pub most_ids_wanted : List Outcome → ℕ
most_ids_wanted [] = 0
most_ids_wanted (o ∷ os) = max (ids_wanted (fault_in o.end)) (most_ids_wanted os)

abbrev pub most_words_wanted : List Outcome → ℕ
most_words_wanted [] = 0
most_words_wanted (o ∷ os) = max (words_wanted (fault_in o.end)) (most_words_wanted os)

abbrev pub HasNoLines : Outcome → Type 0
HasNoLines o = o.lines ≡ []

-- Jobs may be run in so many groups: the session has a share for each, and its history begins with that at
-- its split. No public contract cites this.
pub record MayRun (s : State SessionFrame) (groups : ℕ) (env : List (Binding (Item JsStr))) (jobs : List Job)
    (outcomes : List Outcome) : Type 0 where
  pub some : 1 ≤ groups
  pub share : groups ≤ s.frame.share
  pub lengths : length outcomes ≡ length jobs
  pub empty : All HasNoLines outcomes
  pub fine : BoundsFine s number (bounds_of env)
  pub begins : StartsWith s.history s.frame.seen

-- What a later moment keeps of a session, also where it was split or joined in between. No public contract
-- cites this.
pub record Later {F : Type 0} (b c : State F) : Type 0 where
  pub known : (n : ℕ) → IsSome (b.known n) → c.known n ≡ b.known n
  pub shut : (u : List ℕ) → IsTrue (b.shut u) → IsTrue (c.shut u)
  pub low_ids : b.low_ids ≤ c.low_ids
  pub low_words : b.low_words ≤ c.low_words
  pub sizes : c.sizes ≡ b.sizes
