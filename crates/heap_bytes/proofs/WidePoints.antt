-- Code points over 255 by their bytes: the first byte of such a one is C4 or more, and no other byte is.
use Rattle.std.proofs.Common.{◌≡◌, ℕ, ◌+◌, ◌-◌, ◌/◌, ◌%◌, ◌<◌, ◌≤◌, ⊎_elim, Bool, true, false, suc, length, get_or, List, [], ◌∷◌, sym, ap, ap₂, ◌∙◌, arith, ltb-true, refl}
use Rattle.std.specs.Prelude.{encode_utf8, encode_utf8_all, nat_lt, ◌||◌}
use Rattle.std.specs.List.{list_any}
use Rattle.std.specs.Str.{chars}
use Rattle.std.proofs.lemmas.Bool.{and_parts, cases_lt, cond-true, cond-false, lt-ltb, le-ltb}
use Rattle.std.proofs.lemmas.Bool.Decides.{nat_tests}
use Rattle.std.proofs.lemmas.List.Folds.{list_any-append}
use Rattle.std.proofs.lemmas.Str.{encode_ascii}
use Rattle.js_units.specs.Lanes.{is_wide}
use Rattle.js_units.specs.Text.{utf16_of}
use Rattle.heap_bytes.specs.Points.{IsRead, are_points, utf16}
use Rattle.heap_bytes.proofs.PointBytes.{two, three, four}

abbrev pub is_high : List ℕ → Bool
is_high bytes = list_any (λ b. nat_lt 195 b) bytes

one_unit : (c : ℕ) → c < 0x10000 → utf16_of c ≡ c ∷ []
one_unit c h = cond-true (nat_lt c 0x10000) _ _ (lt-ltb c 0x10000 h)

two_units : (c : ℕ) → 0x10000 ≤ c → utf16_of c ≡ (0xD800 + (c - 0x10000) / 0x400) ∷ (0xDC00 + (c - 0x10000) % 0x400) ∷ []
two_units c h = cond-false (nat_lt c 0x10000) _ _ (le-ltb c 0x10000 h)

-- the tests agree where the bytes and the units are those
by_lists : (bs us cs vs : List ℕ) → bs ≡ cs → us ≡ vs → is_high cs ≡ is_wide vs → is_high bs ≡ is_wide us
by_lists bs us cs vs a b e = ap is_high a ∙ (e ∙ ap is_wide (sym b))

high_one : (c : ℕ) → c < 0x110000 → is_high (encode_utf8 c) ≡ is_wide (utf16_of c)
high_one c h = ⊎_elim
    (λ (a : c < 128). by_lists (encode_utf8 c) (utf16_of c) (c ∷ []) (c ∷ []) (encode_ascii c a) (one_unit c (omega arith)) (grind (arith, nat_tests)))
    (λ (a : 128 ≤ c). ⊎_elim
    (λ (b : c < 2048). by_lists (encode_utf8 c) (utf16_of c) ((192 + c / 64) ∷ (128 + c % 64) ∷ []) (c ∷ []) (two c a b) (one_unit c (omega arith)) (grind (arith, nat_tests)))
    (λ (b : 2048 ≤ c). ⊎_elim
    (λ (d : c < 65536). by_lists (encode_utf8 c) (utf16_of c) ((224 + c / 4096) ∷ (128 + c / 64 % 64) ∷ (128 + c % 64) ∷ []) (c ∷ []) (three c b d) (one_unit c d) (grind (arith, nat_tests)))
    (λ (d : 65536 ≤ c). by_lists (encode_utf8 c) (utf16_of c) ((240 + c / 262144) ∷ (128 + c / 4096 % 64) ∷ (128 + c / 64 % 64) ∷ (128 + c % 64) ∷ [])
    ((0xD800 + (c - 0x10000) / 0x400) ∷ (0xDC00 + (c - 0x10000) % 0x400) ∷ []) (four c d) (two_units c d) (grind (arith, nat_tests)))
    (cases_lt c 65536)) (cases_lt c 2048)) (cases_lt c 128)

high_all : (cs : List ℕ) → are_points cs ≡ true → is_high (encode_utf8_all cs) ≡ is_wide (utf16 cs)
high_all [] p = refl
high_all (c ∷ cs) p = let q = and_parts (nat_lt c 0x110000) (are_points cs) p in
    list_any-append (λ b. nat_lt 195 b) (encode_utf8 c) (encode_utf8_all cs)
    ∙ (ap₂ (λ (x y : Bool). x || y) (high_one c (ltb-true c 0x110000 q.0)) (high_all cs q.1) ∙ sym (list_any-append (λ u. nat_lt 255 u) (utf16_of c) (utf16 cs)))

pub high_points : (bytes : List ℕ) → IsRead bytes → is_high bytes ≡ is_wide (utf16 (chars bytes))
high_points bytes r = ap is_high (sym r.same) ∙ high_all (chars bytes) r.points

none_by : (b : ℕ) (bs : List ℕ) (t : Bool) → nat_lt 195 b ≡ t → b ≤ 195 → is_high bs ≡ false → (t || is_high bs) ≡ false
none_by b bs true e l h = absurd (omega (arith, ltb-true 195 b e))
none_by b bs false e l h = h

pub none_high : (bs : List ℕ) → ((q : ℕ) → q < length bs → get_or bs q 0 ≤ 195) → is_high bs ≡ false
none_high [] h = refl
none_high (b ∷ bs) h = none_by b bs (nat_lt 195 b) refl (h 0 (omega arith)) (none_high bs (λ q l. h (suc q) (omega arith)))
