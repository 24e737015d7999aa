-- What is written of files that were run, one behind the other.
use Rattle.std.proofs.Common.{◌≡◌, ◌+◌, ◌<◌, ◌++◌, ℕ, zero, suc, List, [], ◌∷◌, length, map, option_map, Option, None, Some, drop, get_or, Result, Ok, Err}
use Rattle.std.proofs.Common.{refl, sym, ap, ap₂, ◌∙◌, subst, arith, option_to_list}
use Rattle.js_io.specs.SinkState.{SinkState, WritesAll}
use Rattle.js_io.proofs.Prefixes.{Appends-nil, then_second, first_failed}
use Rattle.js_eval.specs.declared.ending.End.{End}
use Rattle.js_eval.specs.declared.ending.End.TheVariants.{Done, Threw, Unsupported, Full, Memory}
use Rattle.run_program.specs.declared.job.Outcome.{Outcome}
use Rattle.run_sources.specs.declared.sources.SourceText.{SourceText}
use Rattle.run_sources.specs.Answers.{source_for}
use Rattle.js_run.specs.Answer.{SamePrelude, outcome_ends, source_names}
use Rattle.js_run.specs.Verdict.{end_line, end_lines, status_of, status_or}

-- an item, and those behind it
pub front : {X : Type 0} (xs : List X) (i : ℕ) (x : X) → i < length xs → x ≡ get_or xs i x → drop i xs ≡ x ∷ drop (i + 1) xs
front [] i x lt is = absurd (omega (arith, lt))
front (y ∷ xs) zero x lt is = ap (λ z. z ∷ xs) (sym is)
front (y ∷ xs) (suc i) x lt is =
    let on : suc i + 1 ≡ suc (i + 1) = omega arith in
    front xs i x (omega (arith, lt)) is ∙ ap (λ n. x ∷ drop n (y ∷ xs)) (sym on)

pub nothing : {E : Type 0} (a : SinkState) → WritesAll {E = E} (Ok tt) a a []
nothing a = record { all = Appends-nil a.taken; calm = refl; prefix = tt; once = tt; counted = omega arith }

-- ---- a list of pieces

module _ {X : Type 0} (piece : X → List ℕ) (whole : List X → List ℕ) (law : (x : X) (xs : List X) → whole (x ∷ xs) ≡ piece x ++ whole xs)
    (xs : List X) (i : ℕ) (x : X) (lt : i < length xs) (is : x ≡ get_or xs i x) where
  split : whole (drop i xs) ≡ piece x ++ whole (drop (i + 1) xs)
  split = ap whole (front xs i x lt is) ∙ law x (drop (i + 1) xs)

  -- a piece was written, and then those behind it
  pub piece_then : {E : Type 0} (r : Result Unit E) (a b c : SinkState) → WritesAll {E = E} (Ok tt) a b (piece x) → WritesAll r b c (whole (drop (i + 1) xs)) → WritesAll r a c (whole (drop i xs))
  piece_then r a b c v w = subst (λ (l : List ℕ). WritesAll r a c l) (sym split) (then_second r a b c (piece x) (whole (drop (i + 1) xs)) v w)

  -- the write of a piece failed
  pub piece_failed : {E : Type 0} (e : E) (a b : SinkState) → WritesAll {E = E} (Err e) a b (piece x) → WritesAll {E = E} (Err e) a b (whole (drop i xs))
  piece_failed {E} e a b v = subst (λ (l : List ℕ). WritesAll {E = E} (Err e) a b l) (sym split) (first_failed e a b (piece x) (whole (drop (i + 1) xs)) v)

-- ---- the lines of files, each with its name

abbrev pub lines_from : List SourceText → List Outcome → List ℕ
lines_from sources outcomes = end_lines (source_names sources) (outcome_ends outcomes)

module _ (sources : List SourceText) (outcomes : List Outcome) (i : ℕ) (s : SourceText) (o : Outcome) (first : i < length sources) (second : i < length outcomes)
    (s_is : s ≡ get_or sources i s) (o_is : o ≡ get_or outcomes i o) where
  split_line : lines_from (drop i sources) (drop i outcomes) ≡ end_line s.name.now o.end ++ lines_from (drop (i + 1) sources) (drop (i + 1) outcomes)
  split_line = ap (λ l. lines_from l (drop i outcomes)) (front sources i s first s_is) ∙ ap (λ l. lines_from (s ∷ drop (i + 1) sources) l) (front outcomes i o second o_is)

  -- the line is that of these two, also where it was written of what stands in these places
  named_line : {E : Type 0} (r : Result Unit E) (a b : SinkState) → WritesAll r a b (end_line (get_or sources i s).name.now (get_or outcomes i o).end) → WritesAll r a b (end_line s.name.now o.end)
  named_line r a b w = subst (λ (y : Outcome). WritesAll r a b (end_line s.name.now y.end)) (sym o_is)
      (subst (λ (x : SourceText). WritesAll r a b (end_line x.name.now (get_or outcomes i o).end)) (sym s_is) w)

  pub line_then : {E : Type 0} (r : Result Unit E) (a b c : SinkState) → WritesAll {E = E} (Ok tt) a b (end_line (get_or sources i s).name.now (get_or outcomes i o).end)
      → WritesAll r b c (lines_from (drop (i + 1) sources) (drop (i + 1) outcomes)) → WritesAll r a c (lines_from (drop i sources) (drop i outcomes))
  line_then {E} r a b c v w = subst (λ (l : List ℕ). WritesAll r a c l) (sym split_line)
      (then_second r a b c (end_line s.name.now o.end) (lines_from (drop (i + 1) sources) (drop (i + 1) outcomes)) (named_line {E = E} (Ok tt) a b v) w)

  pub line_failed : {E : Type 0} (e : E) (a b : SinkState) → WritesAll {E = E} (Err e) a b (end_line (get_or sources i s).name.now (get_or outcomes i o).end)
      → WritesAll {E = E} (Err e) a b (lines_from (drop i sources) (drop i outcomes))
  line_failed {E} e a b v = subst (λ (l : List ℕ). WritesAll {E = E} (Err e) a b l) (sym split_line)
      (first_failed e a b (end_line s.name.now o.end) (lines_from (drop (i + 1) sources) (drop (i + 1) outcomes)) (named_line {E = E} (Err e) a b v))

names_are : (sources : List SourceText) → map (λ s. s.name) (map source_for sources) ≡ source_names sources
names_are [] = refl
names_are (s ∷ sources) = ap (λ ns. s.name.now ∷ ns) (names_are sources)

abbrev all_lines : Option SourceText → List SourceText → Option Outcome → List Outcome → List ℕ
all_lines prelude sources first outcomes = end_lines (option_to_list (option_map (λ s. s.name) (option_map source_for prelude)) ++
    (map (λ s. s.name) (map source_for sources))) (outcome_ends (option_to_list first ++ outcomes))

-- the lines of all files, without a prelude and with one
pub without_prelude : (prelude : Option SourceText) (sources : List SourceText) (first : Option Outcome) (outcomes : List Outcome) → SamePrelude prelude first → prelude ≡ None
    → all_lines prelude sources first outcomes ≡ lines_from sources outcomes
without_prelude None sources None outcomes same is = ap (λ ns. end_lines ns (outcome_ends outcomes)) (names_are sources)
without_prelude None sources (Some o) outcomes same is = absurd same
without_prelude (Some s) sources first outcomes same is = absurd (cc is)

pub behind_prelude : (s : SourceText) (o : Outcome) (prelude : Option SourceText) (sources : List SourceText) (first : Option Outcome) (outcomes : List Outcome) → prelude ≡ Some s → first ≡ Some o
    → all_lines prelude sources first outcomes ≡ end_line s.name.now o.end ++ lines_from sources outcomes
behind_prelude s o prelude sources first outcomes is first_is =
    ap₂ (λ p f. all_lines p sources f outcomes) is first_is ∙ ap (λ ns. end_line s.name.now o.end ++ end_lines ns (outcome_ends outcomes)) (names_are sources)

-- no line is left where no outcome is
pub no_lines : (sources : List SourceText) (outcomes : List Outcome) → outcomes ≡ [] → lines_from sources outcomes ≡ []
no_lines [] outcomes is = refl
no_lines (s ∷ sources) outcomes is = ap (λ (os : List Outcome). lines_from (s ∷ sources) os) is

-- ---- the status of one file and of those behind it

pub passed : (e : End) (later : ℕ) → status_or e 0 ≡ 0 → status_or e later ≡ later
passed Done later is = refl
passed (Threw kind) later is = absurd (omega (arith, is))
passed (Unsupported at) later is = absurd (omega (arith, is))
passed (Full report) later is = absurd (omega (arith, is))
passed Memory later is = absurd (omega (arith, is))

pub stopped : (e : End) (later : ℕ) → (status_or e 0 ≡ 0 → ⊥) → status_or e 0 ≡ status_or e later
stopped Done later is = absurd (is refl)
stopped (Threw kind) later is = refl
stopped (Unsupported at) later is = refl
stopped (Full report) later is = refl
stopped Memory later is = refl

module _ (os : List Outcome) (i : ℕ) (o : Outcome) (lt : i < length os) (is : o ≡ get_or os i o) where
  pub status_passed : status_or o.end 0 ≡ 0 → status_of (outcome_ends (drop (i + 1) os)) ≡ status_of (outcome_ends (drop i os))
  status_passed none = sym (ap (λ l. status_of (outcome_ends l)) (front os i o lt is) ∙ passed o.end (status_of (outcome_ends (drop (i + 1) os))) none)

  pub status_stopped : (status_or o.end 0 ≡ 0 → ⊥) → status_or o.end 0 ≡ status_of (outcome_ends (drop i os))
  status_stopped some = stopped o.end (status_of (outcome_ends (drop (i + 1) os))) some ∙ sym (ap (λ l. status_of (outcome_ends l)) (front os i o lt is))
