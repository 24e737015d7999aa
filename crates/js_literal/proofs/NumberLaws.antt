-- Where a number stands, and that a place where one begins has one answer.
use Rattle.std.proofs.Common.{◌≡◌, ℕ, ◌+◌, ◌-◌, ◌<◌, ◌≤◌, List, [], ◌∷◌, length, drop, Bool, true, false, cond, nat_lt, nat_eq, refl, sym, ap, ◌∙◌, subst, arith, ◌⊎◌, inl, inr, Ok, Err}
use Rattle.std.proofs.lemmas.Bool.Decides.{nat_tests}
use Rattle.std.specs.Prelude.{◌||◌, ◌&&◌, encode_utf8_all, slice_index, Result, IfOk, IfErr}
use Rattle.std.specs.Str.{chars, IsUtf8, IsCharBoundary}
use Rattle.std.proofs.lemmas.List.{get_or_past}
use Rattle.std.proofs.lemmas.Str.{IsCharBoundary-before_ascii}
use Rattle.js_literal.specs.Place.{StandsAt}
use Rattle.js_literal.specs.Literal.{is_digit}
use Rattle.js_literal.specs.Number.{number_at, NumberOf, NumberFaultOf, BeginsNumber, begins_number, has_leading_zero, spelled_number, digits_of}
use Rattle.js_literal.specs.declared.fault.NumberFault.{NumberFault}
use Rattle.js_literal.specs.declared.fault.NumberFault.TheVariants as faults
use Rattle.js_literal.proofs.Pieces.{EndsIn}
use Rattle.js_literal.proofs.Places.{left_stands, left_fits, one_rest, one_place, moved, ascii_stands, one_byte}
use Rattle.js_literal.specs.Reader.{begins_digit}
use Rattle.js_literal.specs.NumberReader.{after_digits, begins_point, begins_tail}

abbrev value_of : ℕ × List ℕ → ℕ
value_of p = p.0

abbrev rest_of : ℕ × List ℕ → List ℕ
rest_of p = p.1

abbrev read_ok : ℕ × List ℕ → Result (ℕ × List ℕ) (ℕ → NumberFault)
read_ok p = Ok p

ok_same : (p q : ℕ × List ℕ) → read_ok p ≡ read_ok q → p ≡ q
ok_same p q h = cc

pub digits_end : (s : List ℕ) → EndsIn s (after_digits s)
digits_end [] = ([], refl)
digits_end (c ∷ s) = go (is_digit c) (digits_end s)
  where
    go : (b : Bool) → EndsIn s (after_digits s) → EndsIn (c ∷ s) (cond b (after_digits s) (c ∷ s))
    go true e = (c ∷ e.0, ap (λ r. c ∷ r) (e.1))
    go false e = ([], refl)

abbrev chosen : List ℕ → Bool → Bool → Bool → Bool → Bool → Result (ℕ × List ℕ) (ℕ → NumberFault)
chosen s a b c d e = cond a (Err faults.Fraction) (cond b (Err faults.OtherForm)
    (cond c (Err faults.Fraction) (cond d (Err faults.OtherForm) (cond e (Err faults.TooLarge) (Ok (spelled_number 0 (digits_of s), after_digits s))))))

pub number_rest : (s rest : List ℕ) (v : ℕ) → number_at s ≡ Ok (v, rest) → rest ≡ after_digits s
number_rest s rest v h = go (begins_point s) (has_leading_zero s) (begins_point (after_digits s)) (begins_tail (after_digits s)) (nat_lt 9007199254740991 (spelled_number 0 (digits_of s))) h
  where
    go : (a b c d e : Bool) → chosen s a b c d e ≡ Ok (v, rest) → rest ≡ after_digits s
    go true b c d e h = absurd cc
    go false true c d e h = absurd cc
    go false false true d e h = absurd cc
    go false false false true e h = absurd cc
    go false false false false true h = absurd cc
    go false false false false false h = sym (ap rest_of (ok_same (spelled_number 0 (digits_of s), after_digits s) (v, rest) h))

pub number_end : (s rest : List ℕ) (v : ℕ) → number_at s ≡ Ok (v, rest) → EndsIn s rest
number_end s rest v h = subst (EndsIn s) (sym (number_rest s rest v h)) (digits_end s)

number_small : (c : ℕ) (d : Bool) → (is_digit c || (nat_eq c 46 && d)) ≡ true → c < 128
number_small c true h = grind (arith, nat_tests)
number_small c false h = grind (arith, nat_tests)

pub number_cut : (text : List ℕ) (at : ℕ) → BeginsNumber text at → IsCharBoundary text at
number_cut text at b = IsCharBoundary-before_ascii text at (b.0) (number_small (slice_index text at) (is_digit (slice_index text (at + 1))) (b.1))

pub number_fits : (text : List ℕ) (at : ℕ) (s rest : List ℕ) (v left : ℕ) → IsUtf8 text → StandsAt text at s → number_at s ≡ Ok (v, rest) → length (encode_utf8_all rest) ≡ left → left ≤ length text
number_fits text at s rest v left u h e l = left_fits text at s rest left u h (number_end s rest v e) l

digit_small : (c : ℕ) → is_digit c ≡ true → c < 128
digit_small c h = grind (arith, nat_tests)

-- a digit is no byte past the end
digit_within : (text : List ℕ) (at : ℕ) → is_digit (slice_index text at) ≡ true → at < length text
digit_within text at h = go (nat_lt at (length text)) refl
  where
    go : (t : Bool) → nat_lt at (length text) ≡ t → at < length text
    go true e = grind (arith, nat_tests)
    go false e =
        let past : slice_index text at ≡ 0 = get_or_past text at 0 (grind (arith, nat_tests)) in
        let none : is_digit 0 ≡ true = subst (λ c. is_digit c ≡ true) past h in
        absurd cc

-- where a number begins by its bytes, it begins by its characters
pub number_begins : (text : List ℕ) (at : ℕ) (s : List ℕ) → IsUtf8 text → BeginsNumber text at → StandsAt text at s → begins_number s ≡ true
number_begins text at s u b h =
    let c = slice_index text at in
    let here = ascii_stands text at u (b.0) (number_small c (is_digit (slice_index text (at + 1))) (b.1)) in
    subst (λ s. begins_number s ≡ true) (one_rest text at (c ∷ chars (drop (at + 1) text)) s here h) (go (is_digit c) refl here (b.1))
  where
    go : (d : Bool) → is_digit (slice_index text at) ≡ d → StandsAt text at (slice_index text at ∷ chars (drop (at + 1) text)) →
        (d || (nat_eq (slice_index text at) 46 && is_digit (slice_index text (at + 1)))) ≡ true → begins_number
        (slice_index text at ∷ chars (drop (at + 1) text)) ≡ true
    go true ed here k = ap (λ d. d || (nat_eq (slice_index text at) 46 && begins_digit (chars (drop (at + 1) text)))) ed
    go false ed here k =
        let c = slice_index text at in
        let digit : is_digit (slice_index text (at + 1)) ≡ true = grind arith in
        let point : nat_eq c 46 ≡ true = grind arith in
        let small : c < 128 = grind (arith, nat_tests) in
        let next = ascii_stands text (at + 1) u (digit_within text (at + 1) digit) (digit_small (slice_index text (at + 1)) digit) in
        let past = subst (λ p. StandsAt text p (chars (drop (at + 1) text))) (one_byte at c small) (moved text at (c ∷ chars (drop (at + 1) text)) (chars (drop (at + 1) text)) here (c ∷ [], refl)) in
        let same = one_rest text (at + 1) (slice_index text (at + 1) ∷ chars (drop (at + 1 + 1) text)) (chars (drop (at + 1) text)) next past in
        let first : begins_digit (chars (drop (at + 1) text)) ≡ true = subst (λ s. begins_digit s ≡ true) same digit in
        rw (ed, point, first) refl

pub number_stands : (text : List ℕ) (at : ℕ) (s rest : List ℕ) (v left : ℕ) → IsUtf8 text → BeginsNumber text at → StandsAt text at s →
    number_at s ≡ Ok (v, rest) → length (encode_utf8_all rest) ≡ left → NumberOf text at v (length text - left)
number_stands text at s rest v left u b h e l = record {
  s = s;
  rest = rest;
  starts = h;
  begins = number_begins text at s u b h;
  reads = e;
  ends = left_stands text at s rest left u h (number_end s rest v e) l;
}

pub one_number : (text : List ℕ) (at v w a b : ℕ) → IsUtf8 text → NumberOf text at v a → NumberOf text at w b → (v ≡ w) × (a ≡ b)
one_number text at v w a b u h g =
    let same = one_rest text at h.s g.s h.starts g.starts in
    let e = h.reads in
    let f : number_at h.s ≡ Ok (w, g.rest) = rw same g.reads in
    let both = ok_same (v, h.rest) (w, g.rest) (sym e ∙ f) in
    let p : v ≡ w = ap value_of both in
    let r : h.rest ≡ g.rest = ap rest_of both in
    (p, one_place text a b h.rest u h.ends (subst (StandsAt text b) (sym r) g.ends))

pub no_number : (text : List ℕ) (at v a : ℕ) (f : NumberFault) → NumberOf text at v a → NumberFaultOf text at f → ⊥
no_number text at v a f h g =
    let same = one_rest text at h.s g.s h.starts g.starts in
    let e = h.reads in
    let f : number_at h.s ≡ Err g.kind = rw same g.reads in
    absurd cc

pub one_number_fault : (text : List ℕ) (at : ℕ) (f e : NumberFault) → NumberFaultOf text at f → NumberFaultOf text at e → f ≡ e
one_number_fault text at f e h g =
    let same = one_rest text at h.s g.s h.starts g.starts in
    let a = h.reads in
    let b : number_at h.s ≡ Err g.kind = rw same g.reads in
    let k : h.kind ≡ g.kind = cc in
    h.is_fault ∙ (ap (λ k. k at) k ∙ sym g.is_fault)

pub only_number : (text : List ℕ) (at : ℕ) (r : Result (ℕ × ℕ) NumberFault) → IsUtf8 text → IfOk r (λ p. NumberOf text at (p.0) (p.1)) →
    IfErr r (λ e. NumberFaultOf text at e) → (v end : ℕ) → NumberOf text at v end → r ≡ Ok (v, end)
only_number text at (Ok p) u ok err v end h =
    let same = one_number text at (p.0) v (p.1) end u ok h in
    ap (λ x. Ok (x, p.1)) (same.0) ∙ ap (λ x. Ok (v, x)) (same.1)
only_number text at (Err e) u ok err v end h = absurd (no_number text at v end e h err)

pub only_number_fault : (text : List ℕ) (at : ℕ) (r : Result (ℕ × ℕ) NumberFault) → IfOk r (λ p. NumberOf text at (p.0) (p.1)) → IfErr r
    (λ e. NumberFaultOf text at e) → (f : NumberFault) → NumberFaultOf text at f → r ≡ Err f
only_number_fault text at (Ok p) ok err f h = absurd (no_number text at (p.0) (p.1) f ok h)
only_number_fault text at (Err e) ok err f h = ap (λ x. Err x) (one_number_fault text at e f err h)

-- the fault of a number that begins here
pub number_fails : (text : List ℕ) (at : ℕ) (s : List ℕ) (k : ℕ → NumberFault) → IsUtf8 text → BeginsNumber text at → StandsAt text at s → number_at s ≡ Err k → NumberFaultOf text at (k at)
number_fails text at s k u b h e = record { s = s; kind = k; starts = h; begins = number_begins text at s u b h; reads = e; is_fault = refl }

-- a number or a fault
pub some_number : (text : List ℕ) (at : ℕ) → IsUtf8 text → BeginsNumber text at → ((v : ℕ) × (end : ℕ) × NumberOf text at v end) ⊎ ((f : NumberFault) × NumberFaultOf text at f)
some_number text at u b = go (number_at s) refl
  where
    s : List ℕ
    s = slice_index text at ∷ chars (drop (at + 1) text)

    here : StandsAt text at s
    here = ascii_stands text at u (b.0) (number_small (slice_index text at) (is_digit (slice_index text (at + 1))) (b.1))

    go : (r : Result (ℕ × List ℕ) (ℕ → NumberFault)) → number_at s ≡ r → ((v : ℕ) × (end : ℕ) × NumberOf text at v end) ⊎ ((f : NumberFault) × NumberFaultOf text at f)
    go (Ok p) e = inl (p.0, length text - length (encode_utf8_all (p.1)), number_stands text at s (p.1) (p.0) (length (encode_utf8_all (p.1))) u b here e refl)
    go (Err k) e = inr (k at, number_fails text at s k u b here e)
