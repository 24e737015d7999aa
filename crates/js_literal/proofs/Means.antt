-- What the reader says is in the table, and what can't be read breaks there.
use Rattle.std.proofs.Common.{◌≡◌, ℕ, List, [], ◌∷◌, ◌++◌, Option, Some, None, Bool, true, false, cond, refl, sym, ap, ◌∙◌, subst, arith, nat_eq}
use Rattle.std.proofs.lemmas.Bool.Decides.{nat_tests}
use Rattle.std.specs.Prelude.{nat_le, ◌&&◌, ◌||◌}
use Rattle.js_units.specs.Text.{utf16_of}
use Rattle.js_literal.specs.Literal.{is_quote, hex_number, letter_unit, is_plain, is_itself, LiteralPiece, plain, letter, null, two, four, braces, both_ends}
use Rattle.js_literal.specs.Literal.{return, line_end, itself, StringFaultKind, Unclosed, RawLineEnd, BadEscape, CodePointTooLarge, LegacyOctal}
use Rattle.js_literal.specs.Literal.{IsCodePointTooLarge, large, BreaksLiteral, ended, ended_escape, raw_line_end, octal, octal_zero, too_large, bad}
use Rattle.js_literal.specs.Reader.{hex_front, two_front, four_front, hex_run, run_braces, close_braces, braces_of, unicode_of, one_unit, after_return}
use Rattle.js_literal.specs.Reader.{other_escape, chosen_escape, escape_of, reading, Reading, Take, Shut, Break, begins_digit}
use Rattle.js_literal.proofs.Fronts.{front_some, two_some, four_some, run_some}
use Rattle.js_literal.proofs.Exact.{is, at_backslash, null_looks, x_looks, u_looks, braces_looks, octal_looks, piece_looks}

abbrev pub Means : ℕ → List ℕ → Reading → Type 0
Means q s (Take us rest) = LiteralPiece q s us rest
Means q s (Shut rest) = s ≡ q ∷ rest
Means q s (Break k) = BreaksLiteral q s k

large_looks : (s : List ℕ) → IsCodePointTooLarge s → escape_of s ≡ Break CodePointTooLarge
large_looks _ (large d ds v rest h lt) = braces_looks d ds v rest h ∙ (let e : nat_le v 0x10FFFF ≡ false = grind (arith, nat_tests) in rw e refl)

-- x or u, and what follows is refused as bad
bad_breaks : (q c : ℕ) (rest : List ℕ) → is_quote q ≡ true → (nat_eq c 120 || nat_eq c 117) ≡ true → escape_of (c ∷ rest) ≡ Break BadEscape → BreaksLiteral q (92 ∷ c ∷ rest) BadEscape
bad_breaks q c rest hq hc h = bad c rest hc
    (λ us after p. let e = piece_looks q (92 ∷ c ∷ rest) us after hq p in let f = at_backslash q (c ∷ rest) hq in absurd cc)
    (λ l. let e = large_looks (c ∷ rest) l in absurd cc)

-- what may come of a u
abbrev UMeans : ℕ → List ℕ → Reading → Type 0
UMeans q s (Take us rest) = LiteralPiece q (92 ∷ 117 ∷ s) us rest
UMeans q s (Shut rest) = ⊥
UMeans q s (Break BadEscape) = Unit {0}
UMeans q s (Break CodePointTooLarge) = IsCodePointTooLarge (117 ∷ s)
UMeans q s (Break _) = ⊥

shut_means : (q d : ℕ) (ds : List ℕ) (v : ℕ) (r s : List ℕ) → hex_number 0 (d ∷ ds) ≡ Some v → s ≡ 123 ∷ d ∷ (ds ++ r) → UMeans q s (close_braces v r)
shut_means q d ds v [] s h e = tt
shut_means q d ds v (c ∷ rest) s h e = go (nat_eq c 125) refl
  where
    whole : nat_eq c 125 ≡ true → 123 ∷ d ∷ (ds ++ 125 ∷ rest) ≡ s
    whole t = subst (λ k. 123 ∷ d ∷ (ds ++ k ∷ rest) ≡ s) (is c 125 t) (sym e)

    within : (b : Bool) → nat_eq c 125 ≡ true → nat_le v 0x10FFFF ≡ b → UMeans q s (cond b (Take (utf16_of v) rest) (Break CodePointTooLarge))
    within true t b = subst (λ r. LiteralPiece q (92 ∷ 117 ∷ r) (utf16_of v) rest) (whole t) (braces d ds v rest h (grind (arith, nat_tests)))
    within false t b = subst (λ r. IsCodePointTooLarge (117 ∷ r)) (whole t) (large d ds v rest h (grind (arith, nat_tests)))

    go : (t : Bool) → nat_eq c 125 ≡ t → UMeans q s (cond t (cond (nat_le v 0x10FFFF) (Take (utf16_of v) rest) (Break CodePointTooLarge)) (Break BadEscape))
    go true t = within (nat_le v 0x10FFFF) t refl
    go false t = tt

braces_means : (q : ℕ) (s : List ℕ) → UMeans q (123 ∷ s) (braces_of s)
braces_means q s = go (hex_front 0 s) refl
  where
    go : (o : Option (ℕ × List ℕ)) → hex_front 0 s ≡ o → UMeans q (123 ∷ s) (run_braces o)
    go None e = tt
    go (Some p) e =
        let one = front_some 0 s p e in
        let run = run_some (p.0) (p.1) in
        shut_means q (one.0) (run.0) ((hex_run (p.0) (p.1)).0) ((hex_run (p.0) (p.1)).1) (123 ∷ s) (one.2 (run.0) ∙ run.2) (ap (λ r. 123 ∷ r) (one.1 ∙ ap (λ r. one.0 ∷ r) (run.1)))

four_means : (q : ℕ) (s : List ℕ) → UMeans q s (one_unit (four_front s))
four_means q s = go (four_front s) refl
  where
    go : (o : Option (ℕ × List ℕ)) → four_front s ≡ o → UMeans q s (one_unit o)
    go None e = tt
    go (Some p) e =
        let r = four_some s p e in
        subst (λ t. LiteralPiece q (92 ∷ 117 ∷ t) (p.0 ∷ []) (p.1)) (sym (r.4)) (four (r.0) (r.1) (r.2) (r.3) (p.0) (p.1) (r.5))

u_means : (q : ℕ) (s : List ℕ) → UMeans q s (unicode_of s)
u_means q [] = tt
u_means q (c ∷ s) = go (nat_eq c 123) refl
  where
    go : (t : Bool) → nat_eq c 123 ≡ t → UMeans q (c ∷ s) (cond t (braces_of s) (one_unit (four_front (c ∷ s))))
    go true e = subst (λ k. UMeans q (k ∷ s) (braces_of s)) (sym (is c 123 e)) (braces_means q s)
    go false e = four_means q (c ∷ s)

u_breaks : (q : ℕ) (s : List ℕ) → is_quote q ≡ true → Means q (92 ∷ 117 ∷ s) (unicode_of s)
u_breaks q s hq = go (unicode_of s) refl (u_means q s)
  where
    go : (g : Reading) → unicode_of s ≡ g → UMeans q s g → Means q (92 ∷ 117 ∷ s) g
    go (Take us rest) e m = m
    go (Shut rest) e m = absurd m
    go (Break Unclosed) e m = absurd m
    go (Break RawLineEnd) e m = absurd m
    go (Break BadEscape) e m = bad_breaks q 117 s hq refl (u_looks s ∙ e)
    go (Break CodePointTooLarge) e m = too_large (117 ∷ s) m
    go (Break LegacyOctal) e m = absurd m

x_breaks : (q : ℕ) (s : List ℕ) → is_quote q ≡ true → Means q (92 ∷ 120 ∷ s) (one_unit (two_front 0 s))
x_breaks q s hq = go (two_front 0 s) refl
  where
    go : (o : Option (ℕ × List ℕ)) → two_front 0 s ≡ o → Means q (92 ∷ 120 ∷ s) (one_unit o)
    go None e = bad_breaks q 120 s hq refl (x_looks s ∙ ap one_unit e)
    go (Some p) e =
        let r = two_some 0 s p e in
        subst (λ t. LiteralPiece q (92 ∷ 120 ∷ t) (p.0 ∷ []) (p.1)) (sym (r.2)) (two (r.0) (r.1) (p.0) (p.1) (r.3 []))

return_means : (q : ℕ) (s : List ℕ) → LiteralPiece q (92 ∷ 13 ∷ s) [] (after_return s)
return_means q [] = return [] refl
return_means q (c ∷ s) = go (nat_eq c 10) refl
  where
    go : (t : Bool) → nat_eq c 10 ≡ t → LiteralPiece q (92 ∷ 13 ∷ c ∷ s) [] (cond t s (c ∷ s))
    go true e = subst (λ k. LiteralPiece q (92 ∷ 13 ∷ k ∷ s) [] s) (sym (is c 10 e)) (both_ends s)
    go false e = return (c ∷ s) e

zero_means : (q : ℕ) (s : List ℕ) (b : Bool) → begins_digit s ≡ b → Means q (92 ∷ 48 ∷ s) (cond b (Break LegacyOctal) (Take (0 ∷ []) s))
zero_means q s true e = octal_zero s e
zero_means q s false e = null s e

other_means : (q c : ℕ) (s : List ℕ) → is_quote q ≡ true → letter_unit c ≡ None → Means q (92 ∷ c ∷ s) (other_escape c s)
other_means q c s hq e =
    go (nat_eq c 48) (nat_le 49 c && nat_le c 57) (nat_eq c 120) (nat_eq c 117) (nat_eq c 13) (nat_eq c 10 || nat_eq c 0x2028 || nat_eq c 0x2029) refl refl refl refl refl refl
  where
    at : (n : ℕ) (g : Reading) → nat_eq c n ≡ true → Means q (92 ∷ n ∷ s) g → Means q (92 ∷ c ∷ s) g
    at n g h m = subst (λ k. Means q (92 ∷ k ∷ s) g) (sym (is c n h)) m

    none : nat_eq c 48 ≡ false → (nat_le 49 c && nat_le c 57) ≡ false → nat_eq c 120 ≡ false → nat_eq c 117 ≡ false → nat_eq c 13 ≡ false →
        (nat_eq c 10 || nat_eq c 0x2028 || nat_eq c 0x2029) ≡ false → is_itself c ≡ true
    none h1 h2 h3 h4 h5 h6 = grind (arith, nat_tests)

    go : (z o x u r l : Bool) → nat_eq c 48 ≡ z → (nat_le 49 c && nat_le c 57) ≡ o → nat_eq c 120 ≡ x → nat_eq c 117 ≡ u → nat_eq c 13 ≡ r →
        (nat_eq c 10 || nat_eq c 0x2028 || nat_eq c 0x2029) ≡ l → Means q (92 ∷ c ∷ s)
        (cond z (cond (begins_digit s) (Break LegacyOctal) (Take (0 ∷ []) s))
        (cond o (Break LegacyOctal) (cond x (one_unit (two_front 0 s)) (cond u (unicode_of s)
        (cond r (Take [] (after_return s)) (cond l (Take [] s) (Take (utf16_of c) s)))))))
    go true o x u r l h1 h2 h3 h4 h5 h6 = at 48 (cond (begins_digit s) (Break LegacyOctal) (Take (0 ∷ []) s)) h1 (zero_means q s (begins_digit s) refl)
    go false true x u r l h1 h2 h3 h4 h5 h6 = octal c s h2
    go false false true u r l h1 h2 h3 h4 h5 h6 = at 120 (one_unit (two_front 0 s)) h3 (x_breaks q s hq)
    go false false false true r l h1 h2 h3 h4 h5 h6 = at 117 (unicode_of s) h4 (u_breaks q s hq)
    go false false false false true l h1 h2 h3 h4 h5 h6 = at 13 (Take [] (after_return s)) h5 (return_means q s)
    go false false false false false true h1 h2 h3 h4 h5 h6 = line_end c s h6
    go false false false false false false h1 h2 h3 h4 h5 h6 = itself c s e (none h1 h2 h3 h4 h5 h6)

escape_means : (q : ℕ) (s : List ℕ) → is_quote q ≡ true → Means q (92 ∷ s) (escape_of s)
unfolding escape_of
escape_means q [] hq = ended_escape
escape_means q (c ∷ s) hq = go (letter_unit c) refl
  where
    go : (o : Option ℕ) → letter_unit c ≡ o → Means q (92 ∷ c ∷ s) (chosen_escape o c s)
    go None e = other_means q c s hq e
    go (Some u) e = letter c u s e

pub reading_means : (q : ℕ) (s : List ℕ) → is_quote q ≡ true → Means q s (reading q s)
unfolding reading
reading_means q [] hq = ended
reading_means q (c ∷ s) hq = go (nat_eq c q) (nat_eq c 92) (nat_eq c 10 || nat_eq c 13) refl refl refl
  where
    none : nat_eq c q ≡ false → nat_eq c 92 ≡ false → (nat_eq c 10 || nat_eq c 13) ≡ false → is_plain q c ≡ true
    none h1 h2 h3 = grind (arith, nat_tests)

    go : (t b r : Bool) → nat_eq c q ≡ t → nat_eq c 92 ≡ b → (nat_eq c 10 || nat_eq c 13) ≡ r → Means q (c ∷ s)
        (cond t (Shut s) (cond b (escape_of s) (cond r (Break RawLineEnd) (Take (utf16_of c) s))))
    go true b r h1 h2 h3 = ap (λ k. k ∷ s) (is c q h1)
    go false true r h1 h2 h3 = subst (λ k. Means q (k ∷ s) (escape_of s)) (sym (is c 92 h2)) (escape_means q s hq)
    go false false true h1 h2 h3 = raw_line_end c s h3
    go false false false h1 h2 h3 = plain c s (none h1 h2 h3)

-- each break is seen
pub breaks_looks : (q : ℕ) (s : List ℕ) (k : StringFaultKind) → is_quote q ≡ true → BreaksLiteral q s k → reading q s ≡ Break k
unfolding reading escape_of
breaks_looks q _ _ hq ended = refl
breaks_looks q _ _ hq ended_escape = at_backslash q [] hq
breaks_looks q _ _ hq (raw_line_end c rest h) =
    let e : nat_eq c q ≡ false = grind (arith, nat_tests) in
    let e92 : nat_eq c 92 ≡ false = grind (arith, nat_tests) in
    rw (e, e92, h) refl
breaks_looks q _ _ hq (octal c rest h) = at_backslash q (c ∷ rest) hq ∙ octal_looks c rest h
breaks_looks q _ _ hq (octal_zero rest h) = at_backslash q (48 ∷ rest) hq ∙ null_looks rest true h
breaks_looks q _ _ hq (too_large s h) = at_backslash q s hq ∙ large_looks s h
breaks_looks q _ _ hq (bad c rest h never not_large) = at_backslash q (c ∷ rest) hq ∙ go (nat_eq c 120) (nat_eq c 117) refl refl h
  where
    x_only : (o : Option (ℕ × List ℕ)) → ((us after : List ℕ) → Means q (92 ∷ 120 ∷ rest) (Take us after) → ⊥) → Means q (92 ∷ 120 ∷ rest) (one_unit o) → one_unit o ≡ Break BadEscape
    x_only None never m = refl
    x_only (Some p) never m = absurd (never (p.0 ∷ []) (p.1) m)

    u_only : (g : Reading) → ((us after : List ℕ) → LiteralPiece q (92 ∷ 117 ∷ rest) us after → ⊥) → (IsCodePointTooLarge (117 ∷ rest) → ⊥) → UMeans q rest g → g ≡ Break BadEscape
    u_only (Take us after) never not_large m = absurd (never us after m)
    u_only (Shut r) never not_large m = absurd m
    u_only (Break Unclosed) never not_large m = absurd m
    u_only (Break RawLineEnd) never not_large m = absurd m
    u_only (Break BadEscape) never not_large m = refl
    u_only (Break CodePointTooLarge) never not_large m = absurd (not_large m)
    u_only (Break LegacyOctal) never not_large m = absurd m

    go : (x u : Bool) → nat_eq c 120 ≡ x → nat_eq c 117 ≡ u → (x || u) ≡ true → escape_of (c ∷ rest) ≡ Break BadEscape
    go true u ex eu t =
        let e = is c 120 ex in
        subst (λ k. escape_of (k ∷ rest) ≡ Break BadEscape) (sym e) (x_looks rest ∙ x_only (two_front 0 rest)
        (λ us after m. never us after (subst (λ k. LiteralPiece q (92 ∷ k ∷ rest) us after) (sym e) m)) (x_breaks q rest hq))
    go false true ex eu t =
        let e = is c 117 eu in
        subst (λ k. escape_of (k ∷ rest) ≡ Break BadEscape) (sym e) (u_looks rest ∙ u_only (unicode_of rest)
        (λ us after m. never us after (subst (λ k. LiteralPiece q (92 ∷ k ∷ rest) us after) (sym e) m))
        (λ l. not_large (subst (λ k. IsCodePointTooLarge (k ∷ rest)) (sym e) l)) (u_means q rest))
    go false false ex eu t = absurd cc
