-- Lines that are written, one after the other.
use Rattle.std.proofs.Common.{◌≡◌, ℕ, zero, suc, ◌+◌, ◌<◌, List, [], ◌∷◌, ◌++◌, length, drop, get_or, refl, sym, ap, ◌∙◌, subst, arith}
use Rattle.std.specs.Prelude.{slice_index}
use Rattle.std.proofs.lemmas.List.{append_assoc, append-nil}
use Rattle.heap_core.specs.Core.{Core}
use Rattle.heap_schedule.specs.Shown.{found_line, found_lines, line_of_id, string_lines, unit_text, unit_texts}

one_on : (n : ℕ) → suc n ≡ n + 1
one_on n = omega arith

pub found_more : (xs old out more : List ℕ) (k : ℕ) → out ≡ old ++ found_lines xs k → more ≡ out ++ found_line (k + 2) (slice_index xs k)
    → more ≡ old ++ found_lines xs (k + 1)
found_more xs old out more k e is = is ∙ ap (λ l. l ++ found_line (k + 2) (slice_index xs k)) e
    ∙ append_assoc old (found_lines xs k) (found_line (k + 2) (slice_index xs k)) ∙ ap (λ n. old ++ found_lines xs n) (one_on k)

pub strings_more : (s : Core) (old out more : List ℕ) (i : ℕ) → out ≡ old ++ string_lines s i → more ≡ out ++ line_of_id s i
    → more ≡ old ++ string_lines s (i + 1)
strings_more s old out more i e is = is ∙ ap (λ l. l ++ line_of_id s i) e
    ∙ append_assoc old (string_lines s i) (line_of_id s i) ∙ ap (λ n. old ++ string_lines s n) (one_on i)

drop_unit : (us : List ℕ) (i u d : ℕ) → i < length us → u ≡ get_or us i d → drop i us ≡ u ∷ drop (suc i) us
drop_unit [] i u d h e = absurd (omega arith)
drop_unit (x ∷ xs) zero u d h e = ap (λ y. y ∷ xs) (sym e)
drop_unit (x ∷ xs) (suc i) u d h e = drop_unit xs i u d (omega arith) e

pub units_more : (us whole out more : List ℕ) (i u d : ℕ) → i < length us → u ≡ get_or us i d → more ≡ out ++ unit_text u
    → out ++ unit_texts (drop i us) ≡ whole → more ++ unit_texts (drop (i + 1) us) ≡ whole
units_more us whole out more i u d h e is so = ap (λ l. l ++ unit_texts (drop (i + 1) us)) is
    ∙ append_assoc out (unit_text u) (unit_texts (drop (i + 1) us))
    ∙ ap (λ n. out ++ (unit_text u ++ unit_texts (drop n us))) (sym (one_on i))
    ∙ ap (λ l. out ++ unit_texts l) (sym (drop_unit us i u d h e)) ∙ so
