-- What was written, and why a call ends so.
use Rattle.std.proofs.Common.{◌≡◌, inl, inr, ℕ, ◌+◌, ◌≤◌, arith, ◌++◌, List, [], ◌∷◌, length, map, take, refl, sym, ap, ◌∙◌, subst, codes, Option, Some, None, Result, Ok, Err, ne_eqb}
use Rattle.std.specs.Prelude.{decimal, ◌==◌, true}
use Rattle.std.proofs.lemmas.Bool.{and_parts, cond-false, leb-true}
use Rattle.heap_rule.specs.Layout.{IsLawfulSize}
use Rattle.js_io.specs.Counts.{next_count}
use Rattle.js_io.specs.declared.files.TheConstants.{FILE_MAX}
use Rattle.js_io.specs.FilesState.{FilesState, IsTooLarge, IsToldAs}
use Rattle.js_io.specs.SinkState.{SinkState, WritesAll}
use Rattle.heap_core.specs.Core.{Core}
use Rattle.heap_core.specs.Events.{IsSoundCore}
use Rattle.heap_schedule.specs.declared.line.Line.{Line}
use Rattle.heap_schedule.specs.declared.line.Making.{Making}
use Rattle.heap_schedule.specs.Lines.{Turn, is_small, turn_named}
use Rattle.heap_schedule.specs.Text.{reads, refuses, schedule_of}
use Rattle.heap_schedule.specs.Play.{EndsAfter, all_played, machine_made, words_for}
use Rattle.heap_schedule.specs.Kept.{WasPlayed}
use Rattle.heap_schedule.specs.Shown.{shown_lines}
use Rattle.heap_schedule.specs.Outcome.{FileOutcome, HasPlayCause, IsFileRead, HasNoReadFault, IsShown, PlayOutcome, TextOutcome, PlayVerdict, CauseBy, IsOf}
use Rattle.heap_schedule.specs.Outcome.{bad_words, file_in, no_memory, not_of_form, not_read, play_status, play_report, stop_line, too_large, was_played}
use Rattle.heap_schedule.proofs.Kept.{play_kept}
use Rattle.js_io.specs.Report.{IsEnd, IsTold, Sinks, TakesAll, TakesUntil, Printed, sinks}

module _ {E : Type 0} (lines n : ℕ) (bytes : List ℕ) (o p e f : SinkState) where
  -- a line isn't enabled, and telling it was cut
  pub stop_cut : (fault : E) (next : ℕ) (ds : List ℕ) → next ≡ n + 2 → ds ≡ bytes → (n ≡ lines → ⊥) → WritesAll {E = E} (Ok tt) o p ds
      → WritesAll {E = E} (Err fault) e f (decimal next ++ codes ": not enabled\n")
      → IsEnd (Printed (play_status lines n) bytes (stop_line lines n)) 7 (sinks o e) (sinks p f)
  stop_cut fault next ds is same at v w =
      let w' : WritesAll {E = E} (Err fault) e f (decimal (n + 2) ++ codes ": not enabled\n") =
      subst (λ k. WritesAll {E = E} (Err fault) e f (decimal k ++ codes ": not enabled\n")) is w in
      let v' : WritesAll {E = E} (Ok tt) o p bytes = subst (λ bs. WritesAll {E = E} (Ok tt) o p bs) same v in
      inr (inr (record {
        status = refl;
        out = record { took = v'.all; calm = v'.calm };
        err = subst (TakesUntil e f) (sym (cond-false _ _ _ (ne_eqb n lines at))) (record { took = w'.prefix; once = w'.once; counted = w'.counted });
      }))

-- ---- of a play

-- the lines were played, the bytes are made from what they found and led to
pub play_shown : (m : Making) (ls ds : List Line) (s t : Core) (xs ys bytes : List ℕ) (n : ℕ) → ds ≡ ls → s ≡ machine_made m → IsSoundCore s
    → EndsAfter (map turn_named ds) s (length xs) → t ≡ all_played (take (length xs) (map turn_named ds)) s → xs ≡ words_for (take (length xs) (map turn_named ds)) s
    → bytes ≡ shown_lines t ys → ys ≡ xs → n ≡ length xs → IsShown m (map turn_named ls) bytes n
play_shown m ls ds s t xs ys bytes n lines first sound ends after found made_of same long =
    let P : ℕ → Core → Type 0 = λ k c. WasPlayed (map turn_named ds) c k
    × (bytes ≡ shown_lines (all_played (take k (map turn_named ds)) c) (words_for (take k (map turn_named ds)) c)) in
    let here : P (length xs) s = (
      play_kept ds (length xs) s sound ends,
      made_of ∙ ap (shown_lines t) same ∙ ap (λ c. shown_lines c xs) after ∙ ap (shown_lines (all_played (take (length xs) (map turn_named ds)) s)) found,
    ) in
    let counted : P n s = subst (λ k. P k s) (sym long) here in
    let begun : P n (machine_made m) = subst (P n) first counted in
    subst (λ l. IsShown m (map turn_named l) bytes n) lines begun

-- ---- of a text

module _ (text : List ℕ) (code : ℕ) (old new : Sinks) where
  pub text_refused : (k : ℕ) → schedule_of text ≡ refuses k → IsEnd (play_report (not_of_form k)) code old new → TextOutcome text code old new
  text_refused k is end = record { verdict = not_of_form k; cause = is; ending = end }

  pub text_memory : IsEnd (play_report no_memory) code old new → TextOutcome text code old new
  text_memory end = record { verdict = no_memory; cause = tt; ending = end }

  pub text_played : (m : Making) (ts : List Turn) (n lines : ℕ) (bytes : List ℕ) → schedule_of text ≡ reads m ts → IsShown m ts bytes n → lines ≡ length ts
      → IsEnd (Printed (play_status lines n) bytes (stop_line lines n)) code old new → TextOutcome text code old new
  text_played m ts n lines bytes is shows long end = record {
    verdict = was_played m ts n;
    cause = (is, shows.0);
    ending = subst (λ bs. IsEnd (Printed (play_status (length ts) n) bs (stop_line (length ts) n)) code old new) shows.1
        (subst (λ l. IsEnd (Printed (play_status l n) bytes (stop_line l n)) code old new) long end);
  }

-- ---- of a file

module _ (name : List ℕ) (old new : FilesState) (code : ℕ) (s t : Sinks) where
  pub file_text : (text : List ℕ) → IsToldAs (old.held name) text → length text ≤ FILE_MAX → HasNoReadFault old new → TextOutcome text code s t → FileOutcome name old new code s t
  file_text text tells small quiet o = by o.verdict o.cause o.ending where
    held : IsFileRead name old new text
    held = record { bytes = tells; small = small; quiet = quiet }

    by : (v : PlayVerdict) → IsOf text v → IsEnd (play_report v) code s t → FileOutcome name old new code s t
    by bad_words cause end = absurd cause
    by (not_read n) cause end = absurd cause
    by (too_large n) cause end = absurd cause
    by (not_of_form k) cause end = record { verdict = not_of_form k; cause = (text, held, cause); ending = end }
    by no_memory cause end = record { verdict = no_memory; cause = quiet; ending = end }
    by (was_played m ts n) cause end = record { verdict = was_played m ts n; cause = (text, held, cause.0, cause.1); ending = end }

  pub file_unread : new.faults ≡ next_count old.faults → new.blamed ≡ name → IsEnd (play_report (not_read name)) code s t → FileOutcome name old new code s t
  file_unread faults blamed end = record { verdict = not_read name; cause = (refl, faults, blamed); ending = end }

  pub file_large : IsTooLarge (old.held name) old.oversize new.oversize → new.faults ≡ old.faults → new.blamed ≡ name
      → IsEnd (play_report (too_large name)) code s t → FileOutcome name old new code s t
  file_large large calm blamed end = record { verdict = too_large name; cause = (refl, large, calm, blamed); ending = end }

  pub file_memory : HasNoReadFault old new → IsEnd (play_report no_memory) code s t → FileOutcome name old new code s t
  file_memory quiet end = record { verdict = no_memory; cause = quiet; ending = end }

-- ---- of the words

module _ (words : List (List ℕ)) (old new : FilesState) (code : ℕ) (s t : Sinks) where
  pub words_bad : file_in words ≡ None → HasNoReadFault old new → IsEnd (play_report bad_words) code s t → PlayOutcome words old new code s t
  words_bad none quiet end = record { verdict = bad_words; cause = (none, quiet); ending = end }

  pub words_good : (name : List ℕ) → file_in words ≡ Some name → FileOutcome name old new code s t → PlayOutcome words old new code s t
  words_good name is o = by o.verdict o.cause o.ending where
    by : (v : PlayVerdict) → CauseBy name old new v → IsEnd (play_report v) code s t → PlayOutcome words old new code s t
    by bad_words cause end = absurd cause
    by (not_read n) cause end = record { verdict = not_read n; cause = (is ∙ ap Some (sym cause.0), cause.1, cause.2 ∙ sym cause.0); ending = end }
    by (too_large n) cause end = record {
      verdict = too_large n;
      cause = (is ∙ ap Some (sym cause.0), subst (λ x. IsTooLarge (old.held x) old.oversize new.oversize) (sym cause.0) cause.1, cause.2, cause.3 ∙ sym cause.0);
      ending = end;
    }
    by (not_of_form k) cause end = record { verdict = not_of_form k; cause = (cause.0, (name, is, cause.1), cause.2); ending = end }
    by no_memory cause end = record { verdict = no_memory; cause = (name, is, cause); ending = end }
    by (was_played m ts n) cause end = record { verdict = was_played m ts n; cause = (cause.0, (name, is, cause.1), cause.2, cause.3); ending = end }

-- ---- the first line

pub lawful_size : (m : Making) → is_small m ≡ true → IsLawfulSize m.size
lawful_size m small =
    let a = and_parts _ _ small in
    let b = and_parts _ _ a.0 in
    let c = and_parts _ _ b.0 in
    let d = and_parts _ _ b.1 in
    let i = leb-true _ _ c.0 in
    let w = leb-true _ _ c.1 in
    let k = leb-true _ _ d.0 in
    let all = leb-true _ _ d.1 in
    (i, omega arith, w, omega arith, k, omega arith, omega arith)

pub lawful_agents : (m : Making) → is_small m ≡ true → (1 ≤ m.agents) × (m.agents ≤ 64)
lawful_agents m small =
    let a = and_parts _ _ small in
    let b = and_parts _ _ a.1 in
    (leb-true _ _ b.0, leb-true _ _ b.1)
