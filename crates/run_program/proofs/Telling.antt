-- What is told of a heap on which all files were run.
use Rattle.std.proofs.Common.{◌≡◌, ℕ, List, refl, sym, ap, ap₂, subst, ◌∙◌, arith, Option, Some, None, if◌then◌else◌, is_some}
use Rattle.atomic_table.specs.Seated.{TableId}
use Rattle.js_store.specs.Faults.{StoreStep}
use Rattle.js_store.specs.Limits.{limit_units}
use Rattle.js_store.specs.State.{State, Grows}
use Rattle.eval_tree.specs.Tree.{Tree}
use Rattle.js_eval.specs.Script.{Flow}
use Rattle.heap_rule.specs.Agents.{first_view}
use Rattle.heap_rule.specs.declared.size.Counters.{Counters}
use Rattle.heap_rule.specs.declared.size.HeapSize.{HeapSize}
use Rattle.heap_rule.specs.declared.view.View.{View}
use Rattle.heap_table.specs.Agents.{Belongs, size_of, view_of}
use Rattle.heap_table.specs.declared.heap.Heap.{Heap}
use Rattle.heap_intern.specs.Counting.{different}
use Rattle.heap_session.specs.Sessions.{SessionFrame, state_by, table_of}
use Rattle.heap_session.specs.Shares.{IsWhole, IsOf, total_by}
use Rattle.heap_session.specs.Sound.{session_sound}
use Rattle.heap_session.specs.Whole.{HasWholeCounts}
use Rattle.heap_session.proofs.Whole.{whole_all}
use Rattle.run_program.specs.declared.job.Outcome.{Outcome}
use Rattle.run_program.specs.Jobs.{RunFile, Reports}
use Rattle.run_program.specs.Files.{WereRun}
use Rattle.run_program.proofs.Files.{run_stays, run_totals}
use Rattle.run_program.proofs.First.{are_first}
use Rattle.run_program.proofs.Tells.{tells}
use Rattle.run_program.specs.declared.ran.Ran.{Ran}
use Rattle.run_program.specs.declared.ran.Setup.{Setup}
use Rattle.run_program.specs.Meant.{prelude_meant, scripts_meant}
use Rattle.run_program.specs.Ran.{IsRan, state_kept}
use Rattle.run_program.specs.Stages.{HaveRun, HaveRunFrom, IsRunOver}
use Rattle.run_program.specs.Fits.{all_meant}

-- the first moment of a session on a new heap
abbrev pub begun : Setup → TableId → State SessionFrame
begun setup table = state_by (first_view setup.size setup.jobs) (limit_units setup.limit) table

pub same_state : (v w : View) (l m : ℕ) (t u : TableId) → v ≡ w → l ≡ m → t ≡ u → state_by v l t ≡ state_by w m u
same_state v w l m t u a b c = ap (λ (x : View). state_by x l t) a ∙ (ap (λ (n : ℕ). state_by w n t) b ∙ ap (λ (x : TableId). state_by w m x) c)

-- a later moment of the same session, at which the same files were run
have_later : (s t : State SessionFrame) (prelude : Option Flow) (scripts : List Flow) (first : Option Outcome) (os : List Outcome)
    → ((files : List RunFile) → WereRun s files → WereRun t files) → HaveRun s prelude scripts first os → HaveRun t prelude scripts first os
have_later s t prelude scripts first os later h = record {
  files = h.files;
  are = h.are;
  came = h.came;
  has_prelude = h.has_prelude;
  in_places = h.in_places;
  run = later h.files h.run;
}

-- The files were run, both counters were read, and then the lists counted or not.
module _ (setup : Setup) (table : TableId) (prelude : Option Tree) (trees : List Tree) (first : Option Outcome) (os : List Outcome) (interned : Option ℕ) (b d : State SessionFrame)
    (g : Grows (begun setup table) b) (have : HaveRunFrom (begun setup table) b prelude trees first os) where
  is_whole : IsWhole b
  is_whole = ap (λ (f : SessionFrame). f.share) g.frame ∙ sym (ap (λ (f : SessionFrame). f.agents) g.frame)

  module _ (all : HasWholeCounts b) (step : StoreStep (total_by b) d None 0 0) (history : d.history ≡ b.history) (counts : interned ≡ (if setup.count then Some (different b.history) else None)) where
    frame : d.frame ≡ (begun setup table).frame
    frame = step.grows.frame ∙ g.frame

    told : IsRunOver setup d prelude trees first os interned
    told = record {
      have = have_later b d (prelude_meant (limit_units setup.limit) prelude) (scripts_meant (limit_units setup.limit) prelude trees) first os
          (λ files r. run_stays (total_by b) d files (run_totals b files all r) step history) have;
      agents = ap (λ (f : SessionFrame). f.agents) frame;
      whole = ap (λ (f : SessionFrame). f.share) frame ∙ sym (ap (λ (f : SessionFrame). f.agents) frame);
      seen_ids = (let w = step.within_ids in let l = step.grows.low_ids in omega arith);
      seen_words = (let w = step.within_words in let l = step.grows.low_words in omega arith);
      counts = counts ∙ ap (λ h. (if setup.count then Some (different h) else None)) (sym history);
    }

    table_is : d.frame.table ≡ table
    table_is = ap (λ (f : SessionFrame). f.table) frame

    limit_is : d.limit ≡ limit_units setup.limit
    limit_is = step.grows.limit ∙ g.limit

    is_of : (h : Heap) → table ≡ table_of h → size_of h ≡ setup.size → IsOf d h
    is_of h same size = (table_is ∙ same, step.grows.sizes ∙ (g.sizes ∙ ap (λ (z : HeapSize). record { ids = z.ids; words = z.words; slots = z.slots }) (sym size)))

-- the same by what each call tells: of a session of this heap, b after the files were run, t after both counters were read, d at last
module _ (setup : Setup) (h : Heap) (prelude : Option Tree) (trees : List Tree) (first : Option Outcome) (os : List Outcome) (interned : Option ℕ) (a b t d : State SessionFrame)
    (is : a ≡ begun setup (table_of h)) (size : size_of h ≡ setup.size) (g : Grows a b) (have : HaveRunFrom a b prelude trees first os) (all : IsWhole b → HasWholeCounts b)
    (total : t ≡ total_by b) (step : StoreStep t d None 0 0) (history : d.history ≡ t.history) (counts : interned ≡ (if setup.count then Some (different t.history) else None)) where
  grows_begun : Grows (begun setup (table_of h)) b
  grows_begun = subst (λ (x : State SessionFrame). Grows x b) is g

  have_begun : HaveRunFrom (begun setup (table_of h)) b prelude trees first os
  have_begun = subst (λ (x : State SessionFrame). HaveRunFrom x b prelude trees first os) is have

  has_all : HasWholeCounts b
  has_all = all (is_whole setup (table_of h) prelude trees first os interned b d grows_begun have_begun)

  step_total : StoreStep (total_by b) d None 0 0
  step_total = subst (λ (x : State SessionFrame). StoreStep x d None 0 0) total step

  same_history : d.history ≡ b.history
  same_history = history ∙ ap (λ (x : State SessionFrame). x.history) total

  counts_begun : interned ≡ (if setup.count then Some (different b.history) else None)
  counts_begun = counts ∙ ap (λ (x : State SessionFrame). (if setup.count then Some (different x.history) else None)) total

  pub kept_of : IsOf d h
  kept_of = is_of setup (table_of h) prelude trees first os interned b d grows_begun have_begun has_all step_total same_history counts_begun h refl size

  pub kept_limit : d.limit ≡ limit_units setup.limit
  kept_limit = limit_is setup (table_of h) prelude trees first os interned b d grows_begun have_begun has_all step_total same_history counts_begun

  pub kept_told : IsRunOver setup d prelude trees first os interned
  kept_told = told setup (table_of h) prelude trees first os interned b d grows_begun have_begun has_all step_total same_history counts_begun

same_counts : (a b : Counters) → a.ids ≡ b.ids → a.words ≡ b.words → a ≡ b
same_counts a b i w = ap₂ (λ (m n : ℕ). counters m n) i w
  where
    counters : ℕ → ℕ → Counters
    counters m n = record { ids = m; words = n }

-- what is kept
same_prelude : (limit : ℕ) (prelude : Option Tree) (first : Option Outcome) → is_some (prelude_meant limit prelude) ≡ is_some first → is_some prelude ≡ is_some first
same_prelude limit None first h = h
same_prelude limit (Some tree) first h = h

pub is_ran : (setup : Setup) (prelude : Option Tree) (trees : List Tree) (ran : Ran) → size_of ran.kept.heap ≡ setup.size → Belongs ran.kept.agent ran.kept.heap
    → IsRunOver setup (state_kept setup ran.kept) prelude trees ran.prelude ran.scripts.items ran.interned → IsRan setup prelude trees ran
is_ran setup prelude trees ran size belongs t = let h = t.have in
    let v = view_of ran.kept.agent in
    let s : State SessionFrame = state_kept setup ran.kept in
    let table = table_of ran.kept.heap in
    let all : HasWholeCounts s = whole_all v (limit_units setup.limit) table belongs.5 t.whole in
    let ids : s.low_ids ≡ s.used_ids = omega (arith, all.low_ids, t.seen_ids) in
    let words : s.low_words ≡ s.used_words = omega (arith, all.low_words, t.seen_words) in
    let meant = prelude_meant (limit_units setup.limit) prelude in
    let scripts = scripts_meant (limit_units setup.limit) prelude trees in record {
      files = h.files;
      are = h.are;
      came = h.came;
      has_prelude = same_prelude (limit_units setup.limit) prelude ran.prelude h.has_prelude;
      tells = tells s (all_meant meant scripts) h.files all (session_sound v setup.limit table belongs.5) h.run (are_first s (Reports s) meant scripts h.files h.run.each h.are);
      sizes = size;
      belongs = belongs;
      agents = t.agents;
      whole = t.whole ∙ t.agents;
      seen = same_counts v.low v.used ids words;
      interned = t.counts;
    }
