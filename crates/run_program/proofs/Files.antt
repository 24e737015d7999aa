-- Files that are run one after another, or as jobs, on one heap.
use Rattle.std.proofs.Common.{◌≡◌, ◌+◌, ℕ, List, [], ◌∷◌, ◌++◌, refl, sym, ap, ◌∙◌, arith, None, flat_map}
use Rattle.std.proofs.lemmas.List.Concat.{flat_map-append}
use Rattle.js_store.specs.State.{State, Grows}
use Rattle.js_store.specs.Faults.{StoreStep}
use Rattle.eval_scopes.specs.Bindings.{Bound}
use Rattle.eval_values.specs.Conversions.{sum_over}
use Rattle.js_texts.specs.Texts.{Every}
use Rattle.js_texts.proofs.Lists.{every_map}
use Rattle.js_item.specs.Seen.{Val}
use Rattle.js_eval.specs.Evaluates.{Evaluates}
use Rattle.js_eval.specs.Script.{Flow}
use Rattle.heap_session.specs.Sessions.{SessionFrame}
use Rattle.heap_session.specs.Shares.{total_by}
use Rattle.heap_session.specs.Whole.{HasWholeCounts}
use Rattle.run_program.specs.declared.job.Job.{Job}
use Rattle.run_program.specs.declared.job.Outcome.{Outcome}
use Rattle.run_program.specs.Jobs.{JobUse, RunFile, WasFileRun, Reports, CameOf, AtEach, pairs_of, ids_of, words_of, Later, RanJobs}
use Rattle.run_program.proofs.Jobs.{file_of, file_later, grows_later, ran_one}
use Rattle.run_program.specs.Files.{WereRun, AreJobs}

-- a later moment
pub run_later : {F : Type 0} (s t : State F) (files : List RunFile) → WereRun s files → Later s t → t.history ≡ s.history
    → t.used_ids ≡ s.used_ids → t.used_words ≡ s.used_words → WereRun t files
run_later s t files r l history ids words = record {
  each = every_map (file_later l) files r.each;
  history = history ∙ r.history;
  used_ids = ids ∙ r.used_ids;
  used_words = words ∙ r.used_words;
}

-- a call that uses nothing and leaves the history
pub run_stays : {F : Type 0} (s t : State F) (files : List RunFile) → WereRun s files → StoreStep s t None 0 0 → t.history ≡ s.history → WereRun t files
run_stays s t files r step history = let a = step.grows.used_ids in let b = step.grows.used_words in let c = step.within_ids in let d = step.within_words in
    run_later s t files r (grows_later step.grows) history (omega arith) (omega arith)

-- both counters were read, by whom all of it was used
pub run_totals : (s : State SessionFrame) (files : List RunFile) → HasWholeCounts s → WereRun s files → WereRun (total_by s) files
run_totals s files all r = run_later s (total_by s) files r (record { known = λ n k. refl; shut = λ u k. k; low_ids = all.low_ids; low_words = all.low_words; sizes = refl }) refl refl refl

-- no file
pub run_none : {F : Type 0} (s : State F) → s.history ≡ [] → s.used_ids ≡ 0 → s.used_words ≡ 0 → WereRun s []
run_none s history ids words = record { each = tt; history = history; used_ids = ids; used_words = words }

-- some files, and then jobs
every_append : {A : Type 0} (P : A → Type 0) (xs ys : List A) → Every P xs → Every P ys → Every P (xs ++ ys)
every_append P [] ys h k = k
every_append P (x ∷ xs) ys h k = (h.0, every_append P xs ys h.1 k)

sum_append : {A : Type 0} (f : A → ℕ) (xs ys : List A) → sum_over f (xs ++ ys) ≡ sum_over f xs + sum_over f ys
sum_append f [] ys = omega arith
sum_append f (x ∷ xs) ys = omega (arith, sum_append f xs ys)

abbrev files_of : (Job → Flow) → List Job → List Outcome → List JobUse → List RunFile
files_of mean [] os ps = []
files_of mean (j ∷ js) [] ps = []
files_of mean (j ∷ js) (o ∷ os) [] = []
files_of mean (j ∷ js) (o ∷ os) (p ∷ ps) = file_of (mean j) o p ∷ files_of mean js os ps

-- what these files did is what the jobs did
record SameUse (files : List RunFile) (ps : List JobUse) : Type 0 where
  pairs : flat_map (λ f. f.part.pairs) files ≡ pairs_of ps
  ids : sum_over (λ f. f.part.ids) files ≡ ids_of ps
  words : sum_over (λ f. f.part.words) files ≡ words_of ps

module _ {F : Type 0} (mean : Job → Flow) (t : State F) where
  jobs_came : (js : List Job) (os : List Outcome) (ps : List JobUse) → AtEach (λ j. CameOf t (mean j) j) js os ps → Every (WasFileRun t (Reports t)) (files_of mean js os ps)
  jobs_came [] os ps h = tt
  jobs_came (j ∷ js) [] ps h = tt
  jobs_came (j ∷ js) (o ∷ os) [] h = tt
  jobs_came (j ∷ js) (o ∷ os) (p ∷ ps) h = (h.0.run, jobs_came js os ps h.1)

  parts_same : (js : List Job) (os : List Outcome) (ps : List JobUse) → AtEach (λ j. CameOf t (mean j) j) js os ps → SameUse (files_of mean js os ps) ps
  parts_same [] [] [] h = record { pairs = refl; ids = refl; words = refl }
  parts_same (j ∷ js) (o ∷ os) (p ∷ ps) h = let r = parts_same js os ps h.1 in record {
    pairs = ap (λ x. p.pairs ++ x) r.pairs;
    ids = ap (λ n. p.ids + n) r.ids;
    words = ap (λ n. p.words + n) r.words;
  }
  parts_same [] [] (p ∷ ps) h = absurd h
  parts_same [] (o ∷ os) ps h = absurd h
  parts_same (j ∷ js) [] ps h = absurd h
  parts_same (j ∷ js) (o ∷ os) [] h = absurd h

  are_jobs : (js : List Job) (os : List Outcome) (ps : List JobUse) → AtEach (λ j. CameOf t (mean j) j) js os ps → AreJobs mean js os (files_of mean js os ps)
  are_jobs [] [] [] h = record { means = refl; came = refl }
  are_jobs (j ∷ js) (o ∷ os) (p ∷ ps) h = let r = are_jobs js os ps h.1 in record { means = ap (λ x. mean j ∷ x) r.means; came = ap (λ x. o ∷ x) r.came }
  are_jobs [] [] (p ∷ ps) h = absurd h
  are_jobs [] (o ∷ os) ps h = absurd h
  are_jobs (j ∷ js) [] ps h = absurd h
  are_jobs (j ∷ js) (o ∷ os) [] h = absurd h

module _ {F : Type 0} (s t : State F) (files : List RunFile) (a : WereRun s files) where
  jobs_more : (mean : Job → Flow) (js : List Job) (os : List Outcome) (r : RanJobs mean s t js os) → WereRun t (files ++ files_of mean js os r.parts)
  jobs_more mean js os r = let fs : List RunFile = files_of mean js os r.parts in let same = parts_same mean t js os r.parts r.each in record {
    each = every_append (WasFileRun t (Reports t)) files fs (every_map (file_later (grows_later r.grows)) files a.each) (jobs_came mean t js os r.parts r.each);
    history = r.history ∙ (ap (λ h. h ++ pairs_of r.parts) a.history ∙ (ap (λ x. flat_map (λ (f : RunFile). f.part.pairs) files ++ x) (sym same.pairs)
        ∙ sym (flat_map-append (λ (f : RunFile). f.part.pairs) files fs)));
    used_ids = omega (arith, r.used_ids, a.used_ids, same.ids, sum_append (λ (f : RunFile). f.part.ids) files fs);
    used_words = omega (arith, r.used_words, a.used_words, same.words, sum_append (λ (f : RunFile). f.part.words) files fs);
  }

  pub run_jobs : (mean : Job → Flow) (js : List Job) (os : List Outcome) → RanJobs mean s t js os → (more : List RunFile) × AreJobs mean js os more × WereRun t (files ++ more)
  run_jobs mean js os r = (files_of mean js os r.parts, are_jobs mean t js os r.parts r.each, jobs_more mean js os r)

  one_file : (m : Flow) (j : Job) (o : Outcome) (ps : List JobUse) → AtEach (λ i. CameOf t m i) (j ∷ []) (o ∷ []) ps → WereRun t (files ++ files_of (λ i. m) (j ∷ []) (o ∷ []) ps)
      → (p : JobUse) × WereRun t (files ++ file_of m o p ∷ [])
  one_file m j o [] h r = absurd h
  one_file m j o (p ∷ []) h r = (p, r)
  one_file m j o (p ∷ q ∷ ps) h r = absurd h.1

  -- some files, and then one more that is evaluated by itself, as any job would be
  pub run_one : (m : Flow) (j : Job) (o : Outcome) (after : List (Bound Val)) → o.index ≡ j.index → Grows s t → Evaluates s t [] o.lines after o.end m
      → (p : JobUse) × WereRun t (files ++ file_of m o p ∷ [])
  run_one m j o after index g ev = let r = ran_one (λ i. m) s t g j o index after o.end refl ev in one_file m j o r.parts r.each (jobs_more (λ i. m) (j ∷ []) (o ∷ []) r)
