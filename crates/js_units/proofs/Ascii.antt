-- ASCII units are their own UTF-8.
use Rattle.std.proofs.Common.{◌≡◌, ℕ, zero, suc, ◌-◌, ◌<◌, ◌≤◌, List, [], ◌∷◌, ◌++◌, length, take, drop, All, slice_index_or, ◌+◌, refl, sym, ap, subst, ◌∙◌, append_assoc, arith, rules}
use Rattle.std.proofs.lemmas.List.{take_all, take-append-drop, length-drop}
use Rattle.std.proofs.lemmas.List.Elements.{All-push}
use Rattle.std.proofs.Math.Seq.{take-suc, take-append_seam}
use Rattle.js_units.specs.Text.{utf8}

abbrev pub is_ascii : ℕ → Type 0
is_ascii u = u < 0x80

pub ascii_one : (u : ℕ) (rest : List ℕ) → u < 0x80 → utf8 (u ∷ rest) ≡ u ∷ utf8 rest
unfolding lib.Utf8.encode
ascii_one u [] h = search rules
ascii_one u (v ∷ rest) h = search rules

pub ascii_front : (run rest : List ℕ) → All is_ascii run → utf8 (run ++ rest) ≡ run ++ utf8 rest
ascii_front [] rest h = refl
ascii_front (u ∷ run) rest h = ascii_one u (run ++ rest) (h zero 0 (omega arith)) ∙ ap (λ r. u ∷ r) (ascii_front run rest (λ k d lt. h (suc k) d (omega (arith, lt))))

pub ascii_next : (xs : List ℕ) (i : ℕ) → i < length xs → is_ascii (slice_index_or xs i 0) → All is_ascii (take i xs) → All is_ascii (take (i + 1) xs)
ascii_next xs i lt h hs =
    let next : suc i ≡ i + 1 = omega arith in
    subst (λ j. All is_ascii (take j xs)) next (subst (All is_ascii) (sym (take-suc xs i 0 lt)) (All-push is_ascii (take i xs) (slice_index_or xs i 0) hs h))

pub kept_front : (out more added : List ℕ) → more ≡ out ++ added → take (length out) more ≡ out
kept_front out more added h = ap (take (length out)) h ∙ take-append_seam out added

-- the rest behind n units of ASCII, which were added
pub front_added : (xs out more : List ℕ) (n : ℕ) → n ≤ length xs → All is_ascii (take n xs) → more ≡ out ++ take n xs → more ++ utf8 (take (length xs - n) (drop n xs)) ≡ out ++ utf8 xs
front_added xs out more n le h hm =
    let rest = drop n xs in
    let whole : take (length xs - n) rest ≡ rest = take_all (length xs - n) rest (omega (arith, length-drop n xs)) in
    let split : utf8 xs ≡ take n xs ++ utf8 rest = ap utf8 (sym (take-append-drop n xs)) ∙ ascii_front (take n xs) rest h in
    ap (λ r. more ++ utf8 r) whole ∙ (ap (λ m. m ++ utf8 rest) hm ∙ (append_assoc out (take n xs) (utf8 rest) ∙ ap (λ r. out ++ r) (sym split)))
