-- Code points in a row: the bytes that spell them, and the units that they have.
use Rattle.std.proofs.Common.{◌≡◌, ℕ, ◌+◌, ◌-◌, ◌*◌, ◌/◌, ◌%◌, ◌<◌, ◌≤◌, ⊎_elim, Bool, true, List, [], ◌∷◌, ◌++◌, length, refl, sym, ap, ap₂, ◌∙◌, arith, ltb-true}
use Rattle.std.specs.Prelude.{encode_utf8, encode_utf8_all, nat_lt, not, ◌&&◌}
use Rattle.std.specs.Str.{chars, chars_after, continuation_len, lead_bits}
use Rattle.std.proofs.lemmas.Bool.{and_parts, cases_lt, cond-true, cond-false, lt-ltb, le-ltb}
use Rattle.std.proofs.lemmas.Str.{chars-nil, encode_ascii, encode_same}
use Rattle.std.proofs.Math.Utf8.{scalar_cases}
use Rattle.js_units.specs.Text.{is_lead, is_trail}
use Rattle.heap_bytes.specs.declared.encoding.Encoding.{Encoding}
use Rattle.heap_bytes.specs.declared.encoding.Encoding.TheVariants.{Utf8, Wtf8}
use Rattle.heap_bytes.specs.Points.{IsSpelled, allowed, may_follow}
use Rattle.heap_bytes.proofs.PointBytes.{two, three, four}

after_zero : (c : ℕ) (xs : List ℕ) → chars_after 0 c xs ≡ c ∷ chars xs
unfolding chars
after_zero c [] = refl
after_zero c (b ∷ bs) = refl

by_lead : (n v b : ℕ) (bs : List ℕ) → continuation_len b ≡ n → lead_bits b ≡ v → chars (b ∷ bs) ≡ chars_after n v bs
unfolding chars
by_lead n v b bs p q = ap₂ (λ (m w : ℕ). chars_after m w bs) p q

low : (b : ℕ) → b < 128 → (continuation_len b ≡ 0) × (lead_bits b ≡ b)
low b h = let t = lt-ltb b 128 h in (cond-true (nat_lt b 128) _ _ t, cond-true (nat_lt b 128) _ _ t)

lead_two : (b : ℕ) → 128 ≤ b → b < 224 → (continuation_len b ≡ 1) × (lead_bits b ≡ b - 192)
lead_two b l h = let f = le-ltb b 128 l in let t = lt-ltb b 224 h in
    (cond-false (nat_lt b 128) _ _ f ∙ cond-true (nat_lt b 224) _ _ t, cond-false (nat_lt b 128) _ _ f ∙ cond-true (nat_lt b 224) _ _ t)

lead_three : (b : ℕ) → 224 ≤ b → b < 240 → (continuation_len b ≡ 2) × (lead_bits b ≡ b - 224)
lead_three b l h = let f = le-ltb b 128 (omega arith) in let g = le-ltb b 224 l in let t = lt-ltb b 240 h in (
  cond-false (nat_lt b 128) _ _ f ∙ (cond-false (nat_lt b 224) _ _ g ∙ cond-true (nat_lt b 240) _ _ t),
  cond-false (nat_lt b 128) _ _ f ∙ (cond-false (nat_lt b 224) _ _ g ∙ cond-true (nat_lt b 240) _ _ t),
)

lead_four : (b : ℕ) → 240 ≤ b → (continuation_len b ≡ 3) × (lead_bits b ≡ b - 240)
lead_four b l = let f = le-ltb b 128 (omega arith) in let g = le-ltb b 224 (omega arith) in let k = le-ltb b 240 l in (
  cond-false (nat_lt b 128) _ _ f ∙ (cond-false (nat_lt b 224) _ _ g ∙ cond-false (nat_lt b 240) _ _ k),
  cond-false (nat_lt b 128) _ _ f ∙ (cond-false (nat_lt b 224) _ _ g ∙ cond-false (nat_lt b 240) _ _ k),
)

module _ (c : ℕ) (rest : List ℕ) where
  ends : (v : ℕ) → v ≡ c → chars_after 0 v rest ≡ c ∷ chars rest
  ends v e = ap (λ (w : ℕ). chars_after 0 w rest) e ∙ after_zero c rest

  of_one : c < 128 → chars (encode_utf8 c ++ rest) ≡ c ∷ chars rest
  of_one h = let p = low c h in
      ap (λ (xs : List ℕ). chars (xs ++ rest)) (encode_ascii c h) ∙ (by_lead 0 c c rest p.0 p.1 ∙ ends c refl)

  of_two : 128 ≤ c → c < 2048 → chars (encode_utf8 c ++ rest) ≡ c ∷ chars rest
  of_two l h = let b = 192 + c / 64 in let p = lead_two b (omega arith) (omega arith) in
      ap (λ (xs : List ℕ). chars (xs ++ rest)) (two c l h) ∙ (by_lead 1 (b - 192) b ((128 + c % 64) ∷ rest) p.0 p.1
      ∙ ends ((b - 192) * 64 + ((128 + c % 64) - 128)) (omega arith))

  of_three : 2048 ≤ c → c < 65536 → chars (encode_utf8 c ++ rest) ≡ c ∷ chars rest
  of_three l h = let b = 224 + c / 4096 in let p = lead_three b (omega arith) (omega arith) in
      ap (λ (xs : List ℕ). chars (xs ++ rest)) (three c l h) ∙ (by_lead 2 (b - 224) b ((128 + c / 64 % 64) ∷ (128 + c % 64) ∷ rest) p.0 p.1
      ∙ ends (((b - 224) * 64 + ((128 + c / 64 % 64) - 128)) * 64 + ((128 + c % 64) - 128)) (omega arith))

  of_four : 65536 ≤ c → c < 0x110000 → chars (encode_utf8 c ++ rest) ≡ c ∷ chars rest
  of_four l h = let b = 240 + c / 262144 in let p = lead_four b (omega arith) in
      ap (λ (xs : List ℕ). chars (xs ++ rest)) (four c l) ∙ (by_lead 3 (b - 240) b ((128 + c / 4096 % 64) ∷ (128 + c / 64 % 64) ∷ (128 + c % 64) ∷ rest) p.0 p.1
      ∙ ends ((((b - 240) * 64 + ((128 + c / 4096 % 64) - 128)) * 64 + ((128 + c / 64 % 64) - 128)) * 64 + ((128 + c % 64) - 128)) (omega arith))

  -- the code points of bytes that begin with one
  pub chars_point : c < 0x110000 → chars (encode_utf8 c ++ rest) ≡ c ∷ chars rest
  chars_point h = ⊎_elim of_one (λ (a : 128 ≤ c). ⊎_elim (of_two a) (λ (b : 2048 ≤ c). ⊎_elim (of_three b) (λ (d : 65536 ≤ c). of_four d h) (cases_lt c 65536)) (cases_lt c 2048)) (cases_lt c 128)

pub may_small : (e : Encoding) (lead : Bool) (c : ℕ) → may_follow e lead c ≡ true → c < 0x110000
may_small Utf8 lead c h = ⊎_elim (λ (a : c < 55296). omega arith) (λ (a : (57344 ≤ c) × (c < 1114112)). a.1) (scalar_cases c h)
may_small Wtf8 lead c h = ltb-true c 0x110000 (and_parts (nat_lt c 0x110000) (not (lead && is_trail c)) h).0

pub spelled_nil : (e : Encoding) (lead : Bool) → IsSpelled e lead []
spelled_nil e lead = record { same = ap encode_utf8_all chars-nil; row = ap (allowed e lead) chars-nil }

module _ (e : Encoding) (lead : Bool) (c : ℕ) (xs : List ℕ) where
  pub spelled_more : may_follow e lead c ≡ true → IsSpelled e (is_lead c) xs → IsSpelled e lead (encode_utf8 c ++ xs)
  spelled_more may s = let t = chars_point c xs (may_small e lead c may) in record {
    same = ap encode_utf8_all t ∙ ap (λ (ys : List ℕ). encode_utf8 c ++ ys) s.same;
    row = ap (allowed e lead) t ∙ (ap (λ (b : Bool). b && allowed e (is_lead c) (chars xs)) may ∙ s.row);
  }

  pub spelled_less : c < 0x110000 → IsSpelled e lead (encode_utf8 c ++ xs) → (may_follow e lead c ≡ true) × IsSpelled e (is_lead c) xs
  spelled_less small s = let t = chars_point c xs small in
      let p = and_parts (may_follow e lead c) (allowed e (is_lead c) (chars xs)) (ap (allowed e lead) (sym t) ∙ s.row) in
      (p.0, record { same = (encode_same c c (encode_utf8_all (chars xs)) xs (ap encode_utf8_all (sym t) ∙ s.same)).1; row = p.1 })

-- the first code point
abbrev pub Begins : Encoding → Bool → List ℕ → Type 0
Begins e lead xs = (c : ℕ) × (rest : List ℕ) × (may_follow e lead c ≡ true) × (xs ≡ encode_utf8 c ++ rest)

begun_by : (e : Encoding) (lead : Bool) (cs xs : List ℕ) → encode_utf8_all cs ≡ xs → allowed e lead cs ≡ true → 0 < length xs → Begins e lead xs
begun_by e lead [] xs s r l = absurd (omega (arith, l, ap length s))
begun_by e lead (c ∷ cs) xs s r l = (c, encode_utf8_all cs, (and_parts (may_follow e lead c) (allowed e (is_lead c) cs) r).0, sym s)

pub begins : (e : Encoding) (lead : Bool) (xs : List ℕ) → IsSpelled e lead xs → 0 < length xs → Begins e lead xs
begins e lead xs s l = begun_by e lead (chars xs) xs s.same s.row l
