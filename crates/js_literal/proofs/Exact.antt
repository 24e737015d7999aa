-- The table of escapes and the reader say the same.
use Rattle.std.proofs.Common.{◌≡◌, ℕ, ◌+◌, ◌*◌, List, [], ◌∷◌, ◌++◌, Some, None, Bool, true, false, cond, refl, sym, ap, ◌∙◌, subst, arith, nat_eq}
use Rattle.std.proofs.lemmas.Bool.Decides.{nat_tests}
use Rattle.std.specs.Prelude.{nat_le, ◌&&◌, ◌||◌}
use Rattle.js_units.specs.Text.{utf16_of}
use Rattle.js_literal.specs.Literal.{is_quote, hex_value, hex_number, letter_unit, is_plain, is_itself, LiteralPiece, plain, letter, null, two, four, braces}
use Rattle.js_literal.specs.Literal.{both_ends, return, line_end, itself, RawLineEnd, CodePointTooLarge, LegacyOctal}
use Rattle.js_literal.specs.Reader.{two_front, close_braces, unicode_of, one_unit, after_return, escape_of, reading, Take, Shut, Break, begins_digit, begins_line_feed}
use Rattle.js_literal.proofs.Fronts.{front_number, two_reads, four_reads, run_reads}

pub is : (c n : ℕ) → nat_eq c n ≡ true → c ≡ n
is c n h = grind (arith, nat_tests)

-- each row is read

pub at_backslash : (q : ℕ) (t : List ℕ) → is_quote q ≡ true → reading q (92 ∷ t) ≡ escape_of t
unfolding reading
at_backslash q t h =
    let e : nat_eq 92 q ≡ false = grind (arith, nat_tests) in
    rw e refl

pub plain_looks : (q c : ℕ) (rest : List ℕ) → is_plain q c ≡ true → reading q (c ∷ rest) ≡ Take (utf16_of c) rest
unfolding reading
plain_looks q c rest h = go (nat_eq c q) (nat_eq c 92) (nat_eq c 10) (nat_eq c 13) h
  where
    go : (a b d e : Bool) → cond a false (cond b false (cond d false (cond e false true))) ≡ true → cond a (Shut rest)
        (cond b (escape_of rest) (cond (d || e) (Break RawLineEnd) (Take (utf16_of c) rest))) ≡ Take (utf16_of c) rest
    go true b d e h = cc
    go false true d e h = cc
    go false false true e h = cc
    go false false false true h = cc
    go false false false false h = refl

pub letter_looks : (c u : ℕ) (rest : List ℕ) → letter_unit c ≡ Some u → escape_of (c ∷ rest) ≡ Take (u ∷ []) rest
unfolding escape_of
letter_looks c u rest h = rw h refl

pub null_looks : (rest : List ℕ) (b : Bool) → begins_digit rest ≡ b → escape_of (48 ∷ rest) ≡ cond b (Break LegacyOctal) (Take (0 ∷ []) rest)
unfolding escape_of
null_looks rest b h = ap (λ x. cond x (Break LegacyOctal) (Take (0 ∷ []) rest)) h

pub x_looks : (rest : List ℕ) → escape_of (120 ∷ rest) ≡ one_unit (two_front 0 rest)
unfolding escape_of
x_looks rest = refl

pub u_looks : (rest : List ℕ) → escape_of (117 ∷ rest) ≡ unicode_of rest
unfolding escape_of
u_looks rest = refl

pub return_looks : (rest : List ℕ) → escape_of (13 ∷ rest) ≡ Take [] (after_return rest)
unfolding escape_of
return_looks rest = refl

stays : (rest : List ℕ) → begins_line_feed rest ≡ false → after_return rest ≡ rest
stays [] h = refl
stays (c ∷ rest) h = rw h refl

pub line_looks : (c : ℕ) (rest : List ℕ) → (nat_eq c 10 || nat_eq c 0x2028 || nat_eq c 0x2029) ≡ true → escape_of (c ∷ rest) ≡ Take [] rest
unfolding escape_of
line_looks c rest h = go (nat_eq c 10) (nat_eq c 0x2028) (nat_eq c 0x2029) refl refl refl h
  where
    at : (n : ℕ) → nat_eq c n ≡ true → escape_of (n ∷ rest) ≡ Take [] rest → escape_of (c ∷ rest) ≡ Take [] rest
    at n e h = subst (λ k. escape_of (k ∷ rest) ≡ Take [] rest) (sym (is c n e)) h

    go : (a b d : Bool) → nat_eq c 10 ≡ a → nat_eq c 0x2028 ≡ b → nat_eq c 0x2029 ≡ d → (a || b || d) ≡ true → escape_of (c ∷ rest) ≡ Take [] rest
    go true b d ea eb ed h = at 10 ea refl
    go false true d ea eb ed h = at 0x2028 eb refl
    go false false true ea eb ed h = at 0x2029 ed refl
    go false false false ea eb ed h = absurd cc

pub itself_looks : (c : ℕ) (rest : List ℕ) → letter_unit c ≡ None → is_itself c ≡ true → escape_of (c ∷ rest) ≡ Take (utf16_of c) rest
unfolding escape_of
itself_looks c rest e h =
    let e48 : nat_eq c 48 ≡ false = grind (arith, nat_tests) in
    let e49 : (nat_le 49 c && nat_le c 57) ≡ false = grind (arith, nat_tests) in
    let e120 : nat_eq c 120 ≡ false = grind (arith, nat_tests) in
    let e117 : nat_eq c 117 ≡ false = grind (arith, nat_tests) in
    let e13 : nat_eq c 13 ≡ false = grind (arith, nat_tests) in
    let ends : (nat_eq c 10 || nat_eq c 0x2028 || nat_eq c 0x2029) ≡ false = grind (arith, nat_tests) in
    rw (e, e48, e49, e120, e117, e13, ends) refl

pub octal_looks : (c : ℕ) (rest : List ℕ) → (nat_le 49 c && nat_le c 57) ≡ true → escape_of (c ∷ rest) ≡ Break LegacyOctal
unfolding escape_of
octal_looks c rest h =
    let e : letter_unit c ≡ None = grind (arith, nat_tests) in
    let e48 : nat_eq c 48 ≡ false = grind (arith, nat_tests) in
    rw (e, e48, h) refl

pub braces_looks : (d : ℕ) (ds : List ℕ) (v : ℕ) (rest : List ℕ) → hex_number 0 (d ∷ ds) ≡ Some v → escape_of
    (117 ∷ 123 ∷ d ∷ (ds ++ 125 ∷ rest)) ≡ cond (nat_le v 0x10FFFF) (Take (utf16_of v) rest) (Break CodePointTooLarge)
unfolding escape_of
braces_looks d ds v rest h =
    let one = front_number 0 d v ds h in
    let run = run_reads (16 * 0 + one.0) v ds rest (one.2) in
    rw (one.1) (ap (λ (r : ℕ × List ℕ). close_braces (r.0) (r.1)) run)

no_brace : (a x : ℕ) → hex_value a ≡ Some x → nat_eq a 123 ≡ false
no_brace a x h = go (nat_eq a 123) refl
  where
    go : (t : Bool) → nat_eq a 123 ≡ t → t ≡ false
    go false e = refl
    go true e = let g : hex_value 123 ≡ Some x = subst (λ k. hex_value k ≡ Some x) (is a 123 e) h in absurd cc

four_looks : (a b c d v : ℕ) (rest : List ℕ) → hex_number 0 (a ∷ b ∷ c ∷ d ∷ []) ≡ Some v → unicode_of (a ∷ b ∷ c ∷ d ∷ rest) ≡ Take (v ∷ []) rest
four_looks a b c d v rest h =
    let one = front_number 0 a v (b ∷ c ∷ d ∷ []) h in
    let e : nat_eq a 123 ≡ false = no_brace a (one.0) (one.1) in
    rw e (ap one_unit (four_reads a b c d v rest h))

pub piece_looks : (q : ℕ) (s us rest : List ℕ) → is_quote q ≡ true → LiteralPiece q s us rest → reading q s ≡ Take us rest
piece_looks q _ _ _ hq (plain c rest h) = plain_looks q c rest h
piece_looks q _ _ _ hq (letter c u rest h) = at_backslash q (c ∷ rest) hq ∙ letter_looks c u rest h
piece_looks q _ _ _ hq (null rest h) = at_backslash q (48 ∷ rest) hq ∙ null_looks rest false h
piece_looks q _ _ _ hq (two a b v rest h) = at_backslash q (120 ∷ a ∷ b ∷ rest) hq ∙
    (x_looks (a ∷ b ∷ rest) ∙ ap one_unit (let r = two_reads 0 a b v [] rest h in let e : r.0 ≡ v = cc (r.2) in r.1 ∙ ap (λ n. Some (n, rest)) e))
piece_looks q _ _ _ hq (four a b c d v rest h) = at_backslash q (117 ∷ a ∷ b ∷ c ∷ d ∷ rest) hq ∙ (u_looks (a ∷ b ∷ c ∷ d ∷ rest) ∙ four_looks a b c d v rest h)
piece_looks q _ _ _ hq (braces d ds v rest h le) = at_backslash q (117 ∷ 123 ∷ d ∷ (ds ++ 125 ∷ rest)) hq ∙
    (braces_looks d ds v rest h ∙ (let e : nat_le v 0x10FFFF ≡ true = grind (arith, nat_tests) in rw e refl))
piece_looks q _ _ _ hq (both_ends rest) = at_backslash q (13 ∷ 10 ∷ rest) hq ∙ return_looks (10 ∷ rest)
piece_looks q _ _ _ hq (return rest h) = at_backslash q (13 ∷ rest) hq ∙ (return_looks rest ∙ ap (λ r. Take [] r) (stays rest h))
piece_looks q _ _ _ hq (line_end c rest h) = at_backslash q (c ∷ rest) hq ∙ line_looks c rest h
piece_looks q _ _ _ hq (itself c rest e h) = at_backslash q (c ∷ rest) hq ∙ itself_looks c rest e h
