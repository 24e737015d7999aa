-- Of the files that are meant the first ones were run.
use Rattle.std.proofs.Common.{◌≡◌, ℕ, List, [], ◌∷◌, ◌++◌, refl, sym, ap, subst, ◌∙◌, append-nil, Option, Some, None}
use Rattle.js_store.specs.State.{State}
use Rattle.js_texts.specs.Texts.{Every}
use Rattle.eval_values.specs.Outcome.{Out, gave, ended, threw, unsupported}
use Rattle.js_eval.specs.declared.ending.End.{End}
use Rattle.js_eval.specs.declared.ending.End.TheVariants.{Done, Threw, Unsupported, Full, Memory}
use Rattle.js_eval.specs.Evaluates.{script_end}
use Rattle.js_eval.specs.Script.{Flow}
use Rattle.js_store.specs.declared.faults.FullReport.{FullReport}
use Rattle.run_program.specs.Jobs.{RunFile, WasFileRun, HasJobEnd}
use Rattle.run_program.specs.Fits.{all_meant, after_prelude}
use Rattle.run_program.specs.Files.{IsAsMeant, AfterPrelude, AreFilesOf, means_of}

-- all of them where every end is the meaning's
pub record AreFirst (means : List Flow) (files : List RunFile) : Type 0 where
  pub rest : List Flow
  pub split : means ≡ means_of files ++ rest
  pub all : Every IsAsMeant files → rest ≡ []

-- a prelude that is meant to come to its end, and one that isn't
goes_on : (o : Out (Unit {0})) (scripts : List Flow) → Done ≡ script_end o → after_prelude o scripts ≡ scripts
goes_on (gave x l) scripts h = refl
goes_on (ended (threw k) l) scripts h = cc
goes_on (ended (unsupported at) l) scripts h = cc

stops : (o : Out (Unit {0})) (scripts : List Flow) (e : End) → (e ≡ Done → ⊥) → e ≡ script_end o → after_prelude o scripts ≡ []
stops (gave x l) scripts e never h = absurd (never h)
stops (ended i l) scripts e never h = refl

module _ {F : Type 0} (s : State F) (Why : FullReport → List (List ℕ) → Type 0) (prelude : RunFile) (scripts : List Flow) where
  abbrev AreThese : List RunFile → Type 0
  AreThese files = AreFirst (prelude.mean ∷ after_prelude prelude.mean.out scripts) (prelude ∷ files)

  alone : (files : List RunFile) → (prelude.outcome.end ≡ Done → ⊥) → files ≡ [] → AreThese files
  alone files never none = subst AreThese (sym none)
      (record { rest = after_prelude prelude.mean.out scripts; split = refl; all = λ h. stops prelude.mean.out scripts prelude.outcome.end never h.0 })

  followed : (files : List RunFile) → Done ≡ script_end prelude.mean.out → means_of files ≡ scripts → AreThese files
  followed files done same = record {
    rest = [];
    split = ap (λ ms. prelude.mean ∷ ms) (goes_on prelude.mean.out scripts done ∙ (sym same ∙ sym (append-nil (means_of files))));
    all = λ h. refl;
  }

  after : (files : List RunFile) (e : End) → prelude.outcome.end ≡ e → HasJobEnd s Why prelude.mean prelude.outcome.lines e prelude.part → AfterPrelude e scripts files → AreThese files
  after files Done is h a = followed files h.end_is a
  after files (Threw k) is h a = alone files (λ d. let both : Threw k ≡ Done = sym is ∙ d in cc) a
  after files (Unsupported at) is h a = alone files (λ d. let both : Unsupported at ≡ Done = sym is ∙ d in cc) a
  after files (Full r) is h a = alone files (λ d. let both : Full r ≡ Done = sym is ∙ d in cc) a
  after files Memory is h a = alone files (λ d. let both : Memory ≡ Done = sym is ∙ d in cc) a

pub are_first : {F : Type 0} (s : State F) (Why : RunFile → FullReport → List (List ℕ) → Type 0) (prelude : Option Flow) (scripts : List Flow) (files : List RunFile)
    → Every (WasFileRun s Why) files → AreFilesOf prelude scripts files → AreFirst (all_meant prelude scripts) files
are_first s Why None scripts files c h = record { rest = []; split = sym h ∙ sym (append-nil (means_of files)); all = λ m. refl }
are_first s Why (Some m) scripts [] c h = absurd h
are_first s Why (Some m) scripts (f ∷ files) c h = subst (λ (x : Flow). AreFirst (x ∷ after_prelude x.out scripts) (f ∷ files)) h.0 (after s (Why f) f scripts files f.outcome.end refl c.0.ended h.1)
