-- Decoding what encoding made.
use Rattle.std.proofs.Common.{◌≡◌, ℕ, zero, suc, ◌+◌, ◌-◌, ◌*◌, ◌/◌, ◌%◌, ◌<◌, ◌≤◌, List, [], ◌∷◌, ◌++◌, length, drop, Bool, true, false, Option, Some, None}
use Rattle.std.proofs.Common.{Ok, Err, arith, refl, ap, sym, ◌∙◌, inl, inr, All}
use Rattle.std.specs.Prelude.{◌&&◌, ◌||◌, ◌==◌, nat_eq, nat_lt, if◌then◌else◌, encode_utf8, bytes_eq, flat_map}
use Rattle.std.specs.List.{list_all}
use Rattle.std.proofs.lemmas.Bool.{cases_eq, cases_lt, cases_Bool, and_parts, and_from, not-true, eqb-true, ne_eqb, lt-ltb, le-ltb, ltb-true, leb-true, cond-true, cond-false}
use Rattle.std.proofs.lemmas.Str.{encode_ascii}
use lib.Pointwise.{bytes_decides}
use Rattle.js_units.specs.Text.{is_lead, is_trail, pair_value, points, utf16_of}
use Rattle.js_uri.specs.Outcome.{UriOutcome, uri_after, uri_and_then}
use Rattle.js_uri.specs.Steps.{after_some}
use Rattle.js_uri.specs.Sets.{no_hold}
use Rattle.js_uri.specs.Encoding.{upper_hex, escape, encoded_point, encoded_points}
use Rattle.js_uri.specs.Steps.{escapes}
use Rattle.js_uri.specs.Decoding.{DecodedPart, digit, escaped_byte, escaped_bytes, sequence_len, bits, is_scalar, spelled_by}
use Rattle.js_uri.specs.Steps.{byte_of, cons_bytes, utf8_point}
use Rattle.js_uri.specs.Decoding.{escaped_part, decoded_behind, decoded}
use Rattle.js_uri.specs.Steps.{ascii_part, point_part, after_part}
use Rattle.js_uri.specs.Decoding.{first_part}
use Rattle.js_uri.specs.Laws.{UndoesEncoding}
use Rattle.js_uri.proofs.Escapes.{length-escapes}
use Rattle.js_uri.proofs.Decodings.{decoded_turn}

-- the digits, one by one
abbrev is_digit_of : Option ℕ → ℕ → Bool
is_digit_of None d = false
is_digit_of (Some x) d = nat_eq x d

abbrev digits_back : ℕ → Bool
digits_back zero = true
digits_back (suc d) = is_digit_of (digit (upper_hex d)) d && digits_back d

digit_is : (o : Option ℕ) (d : ℕ) → is_digit_of o d ≡ true → o ≡ Some d
digit_is None d h = cc
digit_is (Some x) d h = ap Some (eqb-true x d h)

digits_at : (n : ℕ) → digits_back n ≡ true → (d : ℕ) → d < n → digit (upper_hex d) ≡ Some d
digits_at zero e d h = absurd (omega arith)
digits_at (suc n) e d h =
    let p = and_parts _ _ e in
    elim (cases_eq d n) [ inl same ↦ rw same (digit_is (digit (upper_hex n)) n p.0) | inr other ↦ digits_at n p.1 d (omega arith) ]

digit_back : (d : ℕ) → d < 16 → digit (upper_hex d) ≡ Some d
digit_back d h = digits_at 16 refl d h

-- a byte, and bytes
byte_back : (b : ℕ) (w : List ℕ) → b < 256 → escaped_byte (escape b ++ w) ≡ Some b
byte_back b w h =
    let high : b / 16 < 16 = omega arith in
    let low : b % 16 < 16 = omega arith in
    let whole : b / 16 * 16 + b % 16 ≡ b = omega arith in
    ap (λ o. byte_of o (digit (upper_hex (b % 16)))) (digit_back (b / 16) high) ∙ ap (λ o. byte_of (Some (b / 16)) o) (digit_back (b % 16) low) ∙ ap Some whole

abbrev pub AreBytes : List ℕ → Type 0
AreBytes [] = Unit {0}
AreBytes (b ∷ bs) = (b < 256) × AreBytes bs

bytes_back : (bs w : List ℕ) → AreBytes bs → escaped_bytes (length bs) (flat_map escape bs ++ w) ≡ Some bs
bytes_back [] w h = refl
bytes_back (b ∷ bs) w h = ap (λ o. cons_bytes o (escaped_bytes (length bs) (flat_map escape bs ++ w))) (byte_back b (flat_map escape bs ++ w) h.0) ∙ ap (cons_bytes (Some b)) (bytes_back bs w h.1)

-- the bytes of a code point of 80 or more
pub record IsSequence (c a : ℕ) (bs : List ℕ) : Type 0 where
  pub bytes : AreBytes (a ∷ bs)
  pub high : 128 ≤ a
  pub long : sequence_len a ≡ length (a ∷ bs)
  pub whole : bits (a ∷ bs) ≡ c
  pub is : encode_utf8 c ≡ a ∷ bs

asked_two : (a : ℕ) → 0xC0 ≤ a → a < 0xE0 → sequence_len a ≡ 2
asked_two a h k = cond-false (nat_lt a 0xC0) _ _ (le-ltb a 0xC0 h) ∙ cond-true (nat_lt a 0xE0) _ _ (lt-ltb a 0xE0 k)

asked_three : (a : ℕ) → 0xE0 ≤ a → a < 0xF0 → sequence_len a ≡ 3
asked_three a h k =
    let l : 0xC0 ≤ a = omega arith in
    cond-false (nat_lt a 0xC0) _ _ (le-ltb a 0xC0 l) ∙ cond-false (nat_lt a 0xE0) _ _ (le-ltb a 0xE0 h) ∙ cond-true (nat_lt a 0xF0) _ _ (lt-ltb a 0xF0 k)

asked_four : (a : ℕ) → 0xF0 ≤ a → sequence_len a ≡ 4
asked_four a h =
    let l : 0xC0 ≤ a = omega arith in
    let m : 0xE0 ≤ a = omega arith in
    cond-false (nat_lt a 0xC0) _ _ (le-ltb a 0xC0 l) ∙ cond-false (nat_lt a 0xE0) _ _ (le-ltb a 0xE0 m) ∙ cond-false (nat_lt a 0xF0) _ _ (le-ltb a 0xF0 h)

two_bytes : (c : ℕ) → 128 ≤ c → c < 2048 → IsSequence c (192 + c / 64) ((128 + c % 64) ∷ [])
unfolding lib.Utf8.encode
two_bytes c h k = record {
  bytes = (omega arith, (omega arith, tt));
  high = omega arith;
  long = asked_two (192 + c / 64) (omega arith) (omega arith);
  whole = omega arith;
  is = cond-false (nat_lt c 128) _ _ (le-ltb c 128 h) ∙ cond-true (nat_lt c 2048) _ _ (lt-ltb c 2048 k);
}

three_bytes : (c : ℕ) → 2048 ≤ c → c < 65536 → IsSequence c (224 + c / 4096) ((128 + c / 64 % 64) ∷ (128 + c % 64) ∷ [])
unfolding lib.Utf8.encode
three_bytes c h k =
    let l : 128 ≤ c = omega arith in
    record {
      bytes = (omega arith, (omega arith, (omega arith, tt)));
      high = omega arith;
      long = asked_three (224 + c / 4096) (omega arith) (omega arith);
      whole = omega arith;
      is = cond-false (nat_lt c 128) _ _ (le-ltb c 128 l) ∙ cond-false (nat_lt c 2048) _ _ (le-ltb c 2048 h) ∙ cond-true (nat_lt c 65536) _ _ (lt-ltb c 65536 k);
    }

four_bytes : (c : ℕ) → 65536 ≤ c → c < 0x110000 → IsSequence c (240 + c / 262144) ((128 + c / 4096 % 64) ∷ (128 + c / 64 % 64) ∷ (128 + c % 64) ∷ [])
unfolding lib.Utf8.encode
four_bytes c h k =
    let l : 128 ≤ c = omega arith in
    let m : 2048 ≤ c = omega arith in
    record {
      bytes = (omega arith, (omega arith, (omega arith, (omega arith, tt))));
      high = omega arith;
      long = asked_four (240 + c / 262144) (omega arith);
      whole = omega arith;
      is = cond-false (nat_lt c 128) _ _ (le-ltb c 128 l) ∙ cond-false (nat_lt c 2048) _ _ (le-ltb c 2048 m) ∙ cond-false (nat_lt c 65536) _ _ (le-ltb c 65536 h);
    }

spelled_back : (c : ℕ) (bs : List ℕ) → is_scalar c ≡ true → encode_utf8 c ≡ bs → bits bs ≡ c → utf8_point (Some bs) ≡ Some c
spelled_back c bs s e w = ap (spelled_by bs) w ∙ cond-true (is_scalar c && bytes_eq (encode_utf8 c) bs) (Some c) None (and_from _ _ s ((bytes_decides (encode_utf8 c) bs).1 e))

part_back : (c a : ℕ) (bs w : List ℕ) → is_scalar c ≡ true → IsSequence c a bs → first_part no_hold (flat_map escape (a ∷ bs) ++ w) ≡ Some (record { units = utf16_of c; taken = 3 * length (a ∷ bs) })
part_back c a bs w s q =
    let us : List ℕ = flat_map escape (a ∷ bs) ++ w in
    ap (escaped_part no_hold us) (byte_back a (flat_map escape bs ++ w) q.bytes.0)
    ∙ cond-false (nat_lt a 0x80) (Some (ascii_part no_hold us a)) (point_part (sequence_len a) (utf8_point (escaped_bytes (sequence_len a) us))) (le-ltb a 0x80 q.high)
    ∙ ap (λ n. point_part n (utf8_point (escaped_bytes n us))) q.long
    ∙ ap (λ o. point_part (length (a ∷ bs)) (utf8_point o)) (bytes_back (a ∷ bs) w q.bytes)
    ∙ ap (point_part (length (a ∷ bs))) (spelled_back c (a ∷ bs) s q.is q.whole)

dropped : (xs ys : List ℕ) → drop (length xs) (xs ++ ys) ≡ ys
dropped [] ys = refl
dropped (x ∷ xs) ys = dropped xs ys

sequence_back : (c a : ℕ) (bs w x : List ℕ) → is_scalar c ≡ true → IsSequence c a bs → decoded w no_hold ≡ Ok x → decoded (escapes c ++ w) no_hold ≡ Ok (utf16_of c ++ x)
sequence_back c a bs w x s q h =
    let n : ℕ = 3 * length (a ∷ bs) in
    let p : DecodedPart = record { units = utf16_of c; taken = n } in
    let front : List ℕ = flat_map escape (a ∷ bs) in
    let some : 1 ≤ n = omega arith in
    let left : drop n (front ++ w) ≡ w = ap (λ k. drop k (front ++ w)) (sym (length-escapes (a ∷ bs))) ∙ dropped front w in
    ap (λ l. decoded (flat_map escape l ++ w) no_hold) q.is
    ∙ decoded_turn no_hold (front ++ w) p (part_back c a bs w s q) some
    ∙ ap (λ l. after_some n (Some (utf16_of c)) (decoded l no_hold)) left
    ∙ ap (after_some n (Some (utf16_of c))) h

-- a code point below 80, escaped
one_unit : (c : ℕ) → c < 0x10000 → utf16_of c ≡ c ∷ []
one_unit c h = cond-true (nat_lt c 0x10000) _ _ (lt-ltb c 0x10000 h)

ascii_back : (c : ℕ) (w x : List ℕ) → c < 128 → decoded w no_hold ≡ Ok x → decoded (escapes c ++ w) no_hold ≡ Ok (utf16_of c ++ x)
ascii_back c w x h e =
    let us : List ℕ = escape c ++ w in
    let small : c < 256 = omega arith in
    let narrow : c < 0x10000 = omega arith in
    let p : DecodedPart = record { units = c ∷ []; taken = 3 } in
    let part : first_part no_hold us ≡ Some p = ap (escaped_part no_hold us) (byte_back c w small) ∙ cond-true (nat_lt c 0x80) (Some p)
    (point_part (sequence_len c) (utf8_point (escaped_bytes (sequence_len c) us))) (lt-ltb c 0x80 h) in
    ap (λ l. decoded (flat_map escape l ++ w) no_hold) (encode_ascii c h)
    ∙ decoded_turn no_hold us p part (omega arith)
    ∙ ap (after_some 3 (Some (c ∷ []))) e
    ∙ ap (λ l. Ok (l ++ x)) (sym (one_unit c narrow))

-- a unit, and a code point, that stands for itself
stands : (u : ℕ) (w x : List ℕ) → (u ≡ 0x25 → ⊥) → decoded w no_hold ≡ Ok x → decoded (u ∷ w) no_hold ≡ Ok (u ∷ x)
stands u w x n e =
    ap (λ o. after_part o (λ k. decoded_behind no_hold k w)) (cond-false (u == 0x25) (escaped_part no_hold (u ∷ w) (escaped_byte (u ∷ w)))
    (Some (record { units = u ∷ []; taken = 1 })) (ne_eqb u 0x25 n))
    ∙ ap (uri_after 1 (u ∷ [])) e

kept_back : (c : ℕ) (w x : List ℕ) → c < 0x110000 → (c ≡ 0x25 → ⊥) → decoded w no_hold ≡ Ok x → decoded (utf16_of c ++ w) no_hold ≡ Ok (utf16_of c ++ x)
kept_back c w x h n e = elim (cases_lt c 0x10000) [
  | inl small ↦ rw (one_unit c small) (stands c w x n e)
  | inr large ↦
      let lead : ℕ = 0xD800 + (c - 0x10000) / 0x400 in
      let trail : ℕ = 0xDC00 + (c - 0x10000) % 0x400 in
      let two : utf16_of c ≡ lead ∷ trail ∷ [] = cond-false (nat_lt c 0x10000) _ _ (le-ltb c 0x10000 large) in
      let first : lead ≡ 0x25 → ⊥ = λ b. omega arith in
      let second : trail ≡ 0x25 → ⊥ = λ b. omega arith in
      rw two (stands lead (trail ∷ w) (trail ∷ x) first (stands trail w x second e))
]

escaped_back : (c : ℕ) (w x : List ℕ) → is_scalar c ≡ true → c < 0x110000 → decoded w no_hold ≡ Ok x → decoded (escapes c ++ w) no_hold ≡ Ok (utf16_of c ++ x)
escaped_back c w x s h e = elim (cases_lt c 128) [
  | inl one ↦ ascii_back c w x one e
  | inr k ↦ elim (cases_lt c 2048) [
    | inl two ↦ sequence_back c _ _ w x s (two_bytes c k two) e
    | inr l ↦ elim (cases_lt c 65536) [
      | inl three ↦ sequence_back c _ _ w x s (three_bytes c l three) e
      | inr m ↦ sequence_back c _ _ w x s (four_bytes c m h) e
    ]
  ]
]

-- code point by code point
abbrev back : List ℕ → UriOutcome
back vs = decoded vs no_hold

turn_back : (keep : ℕ → Bool) (n c : ℕ) (r : UriOutcome) (x : List ℕ) → keep 0x25 ≡ false → is_scalar c ≡ true → uri_and_then r back ≡ Ok x
    → uri_and_then (after_some n (encoded_point keep c) r) back ≡ Ok (utf16_of c ++ x)
turn_back keep n c (Err k) x f s h = cc
turn_back keep n c (Ok w) x f s h =
    let parts = and_parts _ _ s in
    let low : c < 0x110000 = ltb-true c 0x110000 parts.0 in
    let alone : (is_lead c || is_trail c) ≡ false = not-true _ parts.1 in
    elim (cases_Bool (keep c)) [
      | inl kept ↦
          let other : c ≡ 0x25 → ⊥ = λ e. let same : keep c ≡ keep 0x25 = ap keep e in cc in
          let is : encoded_point keep c ≡ Some (utf16_of c) = cond-false (is_lead c || is_trail c) _ _ alone ∙ cond-true (keep c) _ _ kept in
          ap (λ o. uri_and_then (after_some n o (Ok w)) back) is ∙ kept_back c w x low other h
      | inr escaped ↦
          let is : encoded_point keep c ≡ Some (escapes c) = cond-false (is_lead c || is_trail c) _ _ alone ∙ cond-false (keep c) _ _ escaped in
          ap (λ o. uri_and_then (after_some n o (Ok w)) back) is ∙ escaped_back c w x s low h
    ]

points_back : (keep : ℕ → Bool) (cs : List ℕ) → keep 0x25 ≡ false → list_all is_scalar cs ≡ true → uri_and_then (encoded_points keep cs) back ≡ Ok (flat_map utf16_of cs)
points_back keep [] f s = refl
points_back keep (c ∷ cs) f s =
    let parts = and_parts _ _ s in
    turn_back keep (length (utf16_of c)) c (encoded_points keep cs) (flat_map utf16_of cs) f parts.0 (points_back keep cs f parts.1)

-- the units of the code points are the units
pair_units : (u v : ℕ) → is_lead u ≡ true → is_trail v ≡ true → utf16_of (pair_value u v) ≡ u ∷ v ∷ []
pair_units u v h k =
    let p = and_parts _ _ h in
    let q = and_parts _ _ k in
    let a : 0xD800 ≤ u = leb-true _ _ p.0 in
    let b : u < 0xDC00 = ltb-true _ _ p.1 in
    let d : 0xDC00 ≤ v = leb-true _ _ q.0 in
    let e : v < 0xE000 = ltb-true _ _ q.1 in
    let c : ℕ = pair_value u v in
    let large : 0x10000 ≤ (u - 0xD800) * 0x400 + (v - 0xDC00) + 0x10000 = omega arith in
    let lead : 0xD800 + ((u - 0xD800) * 0x400 + (v - 0xDC00) + 0x10000 - 0x10000) / 0x400 ≡ u = omega arith in
    let trail : 0xDC00 + ((u - 0xD800) * 0x400 + (v - 0xDC00) + 0x10000 - 0x10000) % 0x400 ≡ v = omega arith in
    cond-false (nat_lt c 0x10000) _ _ (le-ltb c 0x10000 large) ∙ ap (λ l. l ∷ (0xDC00 + (c - 0x10000) % 0x400) ∷ []) lead ∙ ap (λ l. u ∷ l ∷ []) trail

units_by : (b : Bool) (c u v : ℕ) (cs ds us : List ℕ) → (b ≡ true → utf16_of c ≡ u ∷ v ∷ []) → flat_map utf16_of cs ≡ us → utf16_of u ≡ u ∷
    [] → flat_map utf16_of ds ≡ v ∷ us → flat_map utf16_of (if b then c ∷ cs else u ∷ ds) ≡ u ∷ v ∷ us
units_by true c u v cs ds us p h o k = ap (λ l. l ++ flat_map utf16_of cs) (p refl) ∙ ap (λ l. u ∷ v ∷ l) h
units_by false c u v cs ds us p h o k = ap (λ l. l ++ flat_map utf16_of ds) o ∙ ap (λ l. u ∷ l) k

behind : (u : ℕ) (us : List ℕ) → All (λ x. x < 65536) (u ∷ us) → All (λ x. x < 65536) us
behind u us h = λ k d lt. h (suc k) d (omega (arith, lt))

units_back : (us : List ℕ) → All (λ u. u < 65536) us → flat_map utf16_of (points us) ≡ us
units_back [] h = refl
units_back (u ∷ []) h = ap (λ l. l ++ []) (one_unit u (h zero 0 (omega arith)))
units_back (u ∷ v ∷ us) h =
    let pair = λ (b : (is_lead u && is_trail v) ≡ true). let p = and_parts _ _ b in pair_units u v p.0 p.1 in
    units_by (is_lead u && is_trail v) (pair_value u v) u v (points us) (points (v ∷ us)) us pair
    (units_back us (behind v us (behind u (v ∷ us) h))) (one_unit u (h zero 0 (omega arith))) (units_back (v ∷ us) (behind u (v ∷ us) h))

pub undone : (keep : ℕ → Bool) → keep 0x25 ≡ false → UndoesEncoding keep
undone keep f = λ us h s. points_back keep (points us) f s ∙ ap Ok (units_back us h)
