-- How files ended that were run, and what is meant.
use Rattle.std.proofs.Common.{◌≡◌, ◌⊎◌, inl, inr, ⊎_elim, ℕ, List, [], ◌∷◌, ◌++◌, map, Option, None, Some, refl, sym, ap, ap₂, ◌∙◌, append-nil, arith, subst, option_to_list, flat_map, is_some}
use Rattle.std.specs.List.{concat}
use Rattle.js_store.specs.State.{State, StoreSizes}
use Rattle.eval_tree.specs.Tree.{Tree}
use Rattle.js_texts.specs.Texts.{Every}
use Rattle.js_eval.specs.declared.ending.End.{End}
use Rattle.js_eval.specs.declared.ending.End.TheVariants.{Done, Threw, Unsupported, Full, Memory}
use Rattle.js_eval.specs.Evaluates.{script_end}
use Rattle.js_eval.specs.Script.{Flow}
use Rattle.run_program.specs.declared.job.Outcome.{Outcome}
use Rattle.heap_rule.specs.declared.size.HeapSize.{HeapSize}
use Rattle.run_program.specs.Jobs.{RunFile, WasFileRun, HasJobEnd, Whole}
use Rattle.run_program.specs.Files.{IsAsMeant, means_of, outcomes_of}
use Rattle.run_program.specs.Fits.{Fits, all_meant}
use Rattle.run_program.specs.Tells.{RanOut}
use Rattle.run_program.proofs.First.{AreFirst, are_first}
use Rattle.run_program.proofs.Tells.{fits_meant, lines_meant}
use Rattle.run_command.specs.Words.{Request}
use Rattle.run_sources.specs.Program.{FileName, Program, in_order}
use Rattle.run_program.specs.declared.ran.Ran.{Ran}
use Rattle.run_program.specs.Ran.{IsRan, setup_sizes, state_kept}
use Rattle.js_run.specs.Asked.{setup_of}
use Rattle.js_run.specs.Meant.{all_flows, ends_meant, run_after, status_meant, out_meant}
use Rattle.js_run.specs.Rows.{FirstFull}
use Rattle.js_run.specs.Verdict.{WasRun, count_line, end_line, end_lines, ends_of, err_of, out_of, report_of, status_of, status_or}
use Rattle.js_io.specs.Report.{Printed}
use Rattle.js_store.specs.Limits.{limit_units}
use Rattle.run_program.specs.Meant.{prelude_meant, scripts_meant}

-- ---- the statuses of files that were run

abbrev pub IsRunStatus : ℕ → Type 0
IsRunStatus n = (n ≡ 0) ⊎ ((n ≡ 1) ⊎ ((n ≡ 5) ⊎ (n ≡ 6)))

status_one : (e : End) (later : ℕ) → IsRunStatus later → IsRunStatus (status_or e later)
status_one Done later is = is
status_one (Threw k) later is = inr (inl refl)
status_one (Unsupported at) later is = inr (inl refl)
status_one (Full report) later is = inr (inr (inl refl))
status_one Memory later is = inr (inr (inr refl))

pub status_is : (es : List End) → IsRunStatus (status_of es)
status_is [] = inl refl
status_is (e ∷ es) = status_one e (status_of es) (status_is es)

-- ---- where the status is 0, all ended Done, and no line is told

done_one : (e : End) (later : ℕ) → status_or e later ≡ 0 → (e ≡ Done) × (later ≡ 0)
done_one Done later is = (refl, is)
done_one (Threw k) later is = absurd (omega (arith, is))
done_one (Unsupported at) later is = absurd (omega (arith, is))
done_one (Full report) later is = absurd (omega (arith, is))
done_one Memory later is = absurd (omega (arith, is))

pub quiet : (names : List FileName) (es : List End) → status_of es ≡ 0 → end_lines names es ≡ []
quiet [] es is = refl
quiet (name ∷ names) [] is = refl
quiet (name ∷ names) (e ∷ es) is =
    let one = done_one e (status_of es) is in
    ap (λ (x : End). end_line name x ++ end_lines names es) one.0 ∙ quiet names es one.1

abbrev file_ends : List RunFile → List End
file_ends files = map (λ o. o.end) (outcomes_of files)

-- ---- what files tell that were run

module _ {F : Type 0} (s : State F) (means : List Flow) where
  abbrev Tells : RunFile → Type 0
  Tells f = WasFileRun s (RanOut s means) f

  abbrev IsEndOf : RunFile → End → Type 0
  IsEndOf f e = HasJobEnd s (RanOut s means f) f.mean f.outcome.lines e f.part

  -- where all ended Done, all ended as they are meant
  done_meant : (files : List RunFile) → Every Tells files → status_of (file_ends files) ≡ 0 → Every IsAsMeant files
  done_meant [] tells is = tt
  done_meant (f ∷ files) tells is =
      let one = done_one f.outcome.end (status_of (file_ends files)) is in
      let whole : Whole s f.mean f.outcome.lines Done f.part = subst (IsEndOf f) one.0 tells.0.ended in
      (one.0 ∙ whole.end_is, done_meant files tells.1 one.1)

  early_one : (e : End) (f : RunFile) (later other : ℕ) → IsEndOf f e → status_or e later ≡ 1 → (later ≡ 1 → other ≡ 1) → status_or (script_end f.mean.out) other ≡ 1
  early_one Done f later other ended is more = subst (λ (e : End). status_or e other ≡ 1) ended.end_is (more is)
  early_one (Threw k) f later other ended is more = subst (λ (e : End). status_or e other ≡ 1) ended.end_is refl
  early_one (Unsupported at) f later other ended is more = subst (λ (e : End). status_or e other ≡ 1) ended.end_is refl
  early_one (Full report) f later other ended is more = absurd (omega (arith, is))
  early_one Memory f later other ended is more = absurd (omega (arith, is))

  -- where the first file that didn't end Done has status 1, it is the first that isn't meant to end Done
  early_meant : (files : List RunFile) (rest : List Flow) → Every Tells files → status_of (file_ends files) ≡ 1 → status_of (ends_meant (means_of files ++ rest)) ≡ 1
  early_meant [] rest tells is = absurd (omega (arith, is))
  early_meant (f ∷ files) rest tells is =
      early_one f.outcome.end f (status_of (file_ends files)) (status_of (ends_meant (means_of files ++ rest))) tells.0.ended is (early_meant files rest tells.1)

  full_one : (f : RunFile) (files : List RunFile) (e : End) → f.outcome.end ≡ e → IsEndOf f e → status_or e (status_of (file_ends files)) ≡ 5
      → (status_of (file_ends files) ≡ 5 → FirstFull s means files) → FirstFull s means (f ∷ files)
  full_one f files Done is ended five more =
      let r = more five in
      record {
        before = f ∷ r.before;
        file = r.file;
        after = r.after;
        split = ap (λ fs. f ∷ fs) r.split;
        done = (is, r.done);
        report = r.report;
        full = r.full;
        broken = r.broken;
      }
  full_one f files (Full report) is ended five more =
      record { before = []; file = f; after = files; split = refl; done = tt; report = report; full = is; broken = ended }
  full_one f files (Threw k) is ended five more = absurd (omega (arith, five))
  full_one f files (Unsupported at) is ended five more = absurd (omega (arith, five))
  full_one f files Memory is ended five more = absurd (omega (arith, five))

  -- the first file that didn't end Done ended Full
  first_full : (files : List RunFile) → Every Tells files → status_of (file_ends files) ≡ 5 → FirstFull s means files
  first_full [] tells is = absurd (omega (arith, is))
  first_full (f ∷ files) tells is = full_one f files f.outcome.end refl tells.0.ended is (first_full files tells.1)

  -- where all ended as they are meant, they printed what they are meant to
  meant_lines : (files : List RunFile) → Every Tells files → Every IsAsMeant files → map (λ o. o.lines) (outcomes_of files) ≡ map (λ m. concat m.lines) (means_of files)
  meant_lines [] run all = refl
  meant_lines (f ∷ files) run all = ap₂ (λ l ls. l ∷ ls) (lines_meant s (RanOut s means) f run.0 all.0) (meant_lines files run.1 all.1)

meant_ends : (files : List RunFile) → Every IsAsMeant files → file_ends files ≡ ends_meant (means_of files)
meant_ends [] all = refl
meant_ends (f ∷ files) all = ap₂ (λ e es. e ∷ es) all.0 (meant_ends files all.1)

without_memory : (files : List RunFile) → Every (λ f. IsAsMeant f ⊎ (f.outcome.end ≡ Memory)) files → Every (λ e. e ≡ Memory → ⊥) (file_ends files) → Every IsAsMeant files
without_memory [] all none = tt
without_memory (f ∷ files) all none = (⊎_elim (λ is. is) (λ is. absurd (none.0 is)) all.0, without_memory files all.1 none.1)

-- ---- the lines of scripts, without those of the prelude

abbrev behind : {X : Type 0} → List X → List X
behind [] = []
behind (x ∷ xs) = xs

printed_is : (os : List Outcome) → flat_map (λ (o : Outcome). o.lines) os ≡ concat (map (λ o. o.lines) os)
printed_is [] = refl
printed_is (o ∷ os) = ap (λ l. o.lines ++ l) (printed_is os)

meant_is : (ms : List Flow) → flat_map (λ (m : Flow). concat m.lines) ms ≡ concat (map (λ m. concat m.lines) ms)
meant_is [] = refl
meant_is (m ∷ ms) = ap (λ l. concat m.lines ++ l) (meant_is ms)

same_lines : (os : List Outcome) (ms : List Flow) → map (λ o. o.lines) os ≡ map (λ m. concat m.lines) ms → flat_map (λ (o : Outcome). o.lines) os ≡ flat_map (λ (m : Flow). concat m.lines) ms
same_lines os ms is = printed_is os ∙ ap concat is ∙ sym (meant_is ms)

-- the prelude, if there is one, has the first lines
scripts_lines : (tree : Option Tree) (outcome : Option Outcome) (os : List Outcome) (flow : Option Flow) (flows : List Flow) → is_some tree ≡ is_some outcome
    → ((t : Tree) → tree ≡ Some t → (m : Flow) × (flow ≡ Some m)) → (tree ≡ None → flow ≡ None)
    → map (λ o. o.lines) (option_to_list outcome ++ os) ≡ map (λ m. concat m.lines) (all_meant flow flows) → flat_map
    (λ (o : Outcome). o.lines) os ≡ flat_map (λ (m : Flow). concat m.lines) (run_after flow flows)
scripts_lines None None os None flows has some none is = same_lines os flows is
scripts_lines None None os (Some m) flows has some none is = absurd (cc (none refl))
scripts_lines (Some t) (Some o) os (Some m) flows has some none is = same_lines os (run_after (Some m) flows) (ap behind is)
scripts_lines (Some t) (Some o) os None flows has some none is = absurd (cc (some t refl).1)
scripts_lines None (Some o) os flow flows has some none is = absurd (cc has)
scripts_lines (Some t) None os flow flows has some none is = absurd (cc has)

-- ---- a program that was run

module _ (request : Request) (trees : Program Tree) (ran : Ran) (p : IsRan (setup_of request) trees.prelude trees.scripts ran) where
  flows : List Flow
  flows = all_flows request trees

  first : AreFirst (all_flows request trees) p.files
  first = are_first (state_kept (setup_of request) ran.kept) (RanOut (state_kept (setup_of request) ran.kept) (all_flows request trees)) (prelude_meant (limit_units request.limit) trees.prelude)
      (scripts_meant (limit_units request.limit) trees.prelude trees.scripts) p.files p.tells.run.each p.are

  ends_are : file_ends p.files ≡ ends_of ran
  ends_are = ap (map (λ o. o.end)) p.came

  status_same : status_of (ends_of ran) ≡ status_of (file_ends p.files)
  status_same = ap status_of (sym ends_are)

  means_same : Every IsAsMeant p.files → all_flows request trees ≡ means_of p.files
  means_same all = first.split ∙ (ap (λ x. means_of p.files ++ x) (first.all all) ∙ append-nil (means_of p.files))

  ends_same : Every IsAsMeant p.files → ends_of ran ≡ ends_meant (all_flows request trees)
  ends_same all = sym ends_are ∙ meant_ends p.files all ∙ ap ends_meant (sym (means_same all))

  has_flow : (tree : Option Tree) (t : Tree) → tree ≡ Some t → (m : Flow) × (prelude_meant (limit_units request.limit) tree ≡ Some m)
  has_flow None t is = absurd (cc is)
  has_flow (Some x) t is = (_, refl)

  no_flow : (tree : Option Tree) → tree ≡ None → prelude_meant (limit_units request.limit) tree ≡ None
  no_flow None is = refl
  no_flow (Some x) is = absurd (cc is)

  lines_same : Every IsAsMeant p.files → flat_map (λ (o : Outcome). o.lines) ran.scripts.items ≡ flat_map (λ (m : Flow). concat m.lines)
      (run_after (prelude_meant (limit_units request.limit) trees.prelude) (scripts_meant (limit_units request.limit) trees.prelude trees.scripts))
  lines_same all =
      let means : map (λ m. concat m.lines) (means_of p.files) ≡ map (λ m. concat m.lines) (all_flows request trees) = ap (map (λ m. concat m.lines)) (sym (means_same all)) in
      let printed = meant_lines (state_kept (setup_of request) ran.kept) (all_flows request trees) p.files p.tells.run.each all in
      scripts_lines trees.prelude ran.prelude ran.scripts.items (prelude_meant (limit_units request.limit) trees.prelude)
      (scripts_meant (limit_units request.limit) trees.prelude trees.scripts) p.has_prelude
      (has_flow trees.prelude) (no_flow trees.prelude) (ap (map (λ o. o.lines)) (sym p.came) ∙ printed ∙ means)

  out_same : Every IsAsMeant p.files → out_of ran ≡ out_meant request trees ran.interned
  out_same all = ap (λ l. l ++ count_line ran.interned) (lines_same all)

  -- what is reported is what is meant
  report_same : (names : Program FileName) → Every IsAsMeant p.files → report_of (WasRun names ran) ≡ Printed (status_meant request trees)
      (out_meant request trees ran.interned) (end_lines (in_order names) (ends_meant (all_flows request trees)))
  report_same names all =
      let ends = ends_same all in
      ap (λ es. Printed (status_of es) (out_of ran) (end_lines (in_order names) es)) ends
      ∙ ap (λ l. Printed (status_meant request trees) l (end_lines (in_order names) (ends_meant (all_flows request trees)))) (out_same all)

  pub all_done : status_of (ends_of ran) ≡ 0 → Every IsAsMeant p.files
  all_done is = done_meant (state_kept (setup_of request) ran.kept) (all_flows request trees) p.files p.tells.run.each (sym status_same ∙ is)

  pub done_status : status_of (ends_of ran) ≡ 0 → status_meant request trees ≡ 0
  done_status is = ap status_of (sym (ends_same (all_done is))) ∙ is

  pub done_out : status_of (ends_of ran) ≡ 0 → out_of ran ≡ out_meant request trees ran.interned
  done_out is = out_same (all_done is)

  pub done_err : (names : Program FileName) → status_of (ends_of ran) ≡ 0 → err_of names ran ≡ []
  done_err names is = quiet (in_order names) (ends_of ran) is

  pub early_status : status_of (ends_of ran) ≡ 1 → status_meant request trees ≡ 1
  early_status is = ap (λ ms. status_of (ends_meant ms)) first.split
      ∙ early_meant (state_kept (setup_of request) ran.kept) (all_flows request trees) p.files first.rest p.tells.run.each (sym status_same ∙ is)

  pub full_first : status_of (ends_of ran) ≡ 5 → FirstFull (state_kept (setup_of request) ran.kept) (all_flows request trees) p.files
  full_first is = first_full (state_kept (setup_of request) ran.kept) (all_flows request trees) p.files p.tells.run.each (sym status_same ∙ is)

  -- the heap has the sizes that are asked for
  sizes_are : (state_kept (setup_of request) ran.kept).sizes ≡ setup_sizes (setup_of request)
  sizes_are = ap (λ (z : HeapSize). record { ids = z.ids; words = z.words; slots = z.slots }) (p.belongs.1 ∙ p.sizes)

  pub complete : (names : Program FileName) → Fits (setup_sizes (setup_of request)) (all_flows request trees) → Every (λ e. e ≡ Memory → ⊥) (ends_of ran)
      → report_of (WasRun names ran) ≡ Printed (status_meant request trees) (out_meant request trees ran.interned) (end_lines (in_order names) (ends_meant (all_flows request trees)))
  complete names fits none = report_same names (without_memory p.files
      (fits_meant (state_kept (setup_of request) ran.kept) (all_flows request trees) p.files p.tells (subst (λ (z : StoreSizes). Fits z (all_flows request trees)) (sym sizes_are) fits))
      (subst (Every (λ e. e ≡ Memory → ⊥)) (sym ends_are) none))
