-- Units and the code points that they encode, surrogates among them.
use Rattle.std.proofs.Common.{◌≡◌, ℕ, suc, ◌+◌, ◌-◌, ◌/◌, ◌%◌, ◌^◌, ◌<◌, ◌≤◌, ⊎_elim, Bool, true, false, List, [], ◌∷◌, ◌++◌, length, refl, sym, ap, ap₂, ◌∙◌, arith, subst}
use Rattle.std.specs.Prelude.{encode_utf8_all, nat_lt, not, ◌&&◌, All}
use Rattle.std.specs.Str.{chars}
use Rattle.std.proofs.lemmas.Bool.{and_parts, cases_lt, cond-true, cond-false, lt-ltb, le-ltb}
use Rattle.std.proofs.lemmas.Bool.Decides.{nat_tests}
use Rattle.std.proofs.lemmas.List.Elements.{All-append, All-cons, All-head, All-nil}
use Rattle.std.proofs.lemmas.Str.{chars-nil, encodes-chars, scalars-chars}
use lib.Utf8.{scalar, scalars}
use Rattle.js_units.specs.Text.{is_lead, is_trail, pair_value, points, utf16_of}
use Rattle.heap_bytes.specs.declared.encoding.Encoding.{Encoding}
use Rattle.heap_bytes.specs.declared.encoding.Encoding.TheVariants.{Utf8, Wtf8}
use Rattle.heap_bytes.specs.Points.{IsSpelled, allowed, may_follow}
use Rattle.heap_build.specs.Spells.{spells}
use Rattle.heap_bytes.specs.Points.{utf16}
use Rattle.heap_bytes.proofs.Rows.{chars_point, may_small}

abbrev IsUnit : ℕ → Type 0
IsUnit u = u < 2 ^ 16

abbrev Small : List ℕ → Type 0
Small us = All IsUnit us

small_tail : (u : ℕ) (us : List ℕ) → Small (u ∷ us) → Small us
small_tail u us h = λ k d l. h (suc k) d (omega arith)

-- the units of one code point
one_unit : (c : ℕ) → c < 0x10000 → utf16_of c ≡ c ∷ []
one_unit c h = cond-true (nat_lt c 0x10000) _ _ (lt-ltb c 0x10000 h)

abbrev lead_of : ℕ → ℕ
lead_of c = 0xD800 + (c - 0x10000) / 0x400

abbrev trail_of : ℕ → ℕ
trail_of c = 0xDC00 + (c - 0x10000) % 0x400

two_units : (c : ℕ) → 0x10000 ≤ c → utf16_of c ≡ lead_of c ∷ trail_of c ∷ []
two_units c h = cond-false (nat_lt c 0x10000) _ _ (le-ltb c 0x10000 h)

is_low : (u : ℕ) → 0xD800 ≤ u → u < 0xDC00 → (is_lead u ≡ true) × (is_trail u ≡ false)
is_low u l h = (grind (arith, nat_tests, l, h), grind (arith, nat_tests, l, h))

is_high : (u : ℕ) → 0xDC00 ≤ u → u < 0xE000 → is_trail u ≡ true
is_high u l h = grind (arith, nat_tests, l, h)

lead_range : (c : ℕ) → 0x10000 ≤ c → c < 0x110000 → (0xD800 ≤ lead_of c) × (lead_of c < 0xDC00)
lead_range c l h = (omega arith, omega arith)

pair_again : (c : ℕ) → 0x10000 ≤ c → c < 0x110000 → pair_value (lead_of c) (trail_of c) ≡ c
pair_again c l h = omega arith

and_no : (x : Bool) → (x && false) ≡ false
and_no true = refl
and_no false = refl

not_true : (x : Bool) → not x ≡ true → x ≡ false
not_true true h = cc
not_true false h = refl

not_false : (x : Bool) → x ≡ false → not x ≡ true
not_false x h = ap not h

-- a code point that is no surrogate pair: where it stands behind a lead it is no trail
no_pair : (lead : Bool) (c : ℕ) → may_follow Wtf8 lead c ≡ true → (lead && is_trail c) ≡ false
no_pair lead c may = not_true (lead && is_trail c) (and_parts (nat_lt c 0x110000) (not (lead && is_trail c)) may).1

-- the first unit of code points in a row
head_by : (lead : Bool) (c : ℕ) (cs : List ℕ) (v : ℕ) (vs : List ℕ) → may_follow Wtf8 lead c ≡ true → utf16_of c ++ utf16 cs ≡ v ∷ vs → (lead && is_trail v) ≡ false
head_by lead c cs v vs may e = let small = may_small Wtf8 lead c may in ⊎_elim
    (λ (a : c < 0x10000). let same : c ∷ utf16 cs ≡ v ∷ vs = ap (λ (xs : List ℕ). xs ++ utf16 cs) (sym (one_unit c a)) ∙ e in
    let k : c ≡ v = cc in subst (λ (w : ℕ). (lead && is_trail w) ≡ false) k (no_pair lead c may))
    (λ (a : 0x10000 ≤ c). let same : lead_of c ∷ trail_of c ∷ utf16 cs ≡ v ∷ vs = ap (λ (xs : List ℕ). xs ++ utf16 cs) (sym (two_units c a)) ∙ e in
    let k : lead_of c ≡ v = cc in let r = lead_range c a small in
    subst (λ (w : ℕ). (lead && is_trail w) ≡ false) k (ap (λ (b : Bool). lead && b) (is_low (lead_of c) r.0 r.1).1 ∙ and_no lead))
    (cases_lt c 0x10000)

head_of : (lead : Bool) (cs : List ℕ) (v : ℕ) (vs : List ℕ) → allowed Wtf8 lead cs ≡ true → utf16 cs ≡ v ∷ vs → (lead && is_trail v) ≡ false
head_of lead [] v vs a e = absurd (omega (arith, ap length e))
head_of lead (c ∷ cs) v vs a e = head_by lead c cs v vs (and_parts (may_follow Wtf8 lead c) (allowed Wtf8 (is_lead c) cs) a).0 e

-- units in front of others
alone_in_front : (u : ℕ) (rest : List ℕ) → ((v : ℕ) (vs : List ℕ) → rest ≡ v ∷ vs → (is_lead u && is_trail v) ≡ false) → points (u ∷ rest) ≡ u ∷ points rest
alone_in_front u [] h = refl
alone_in_front u (v ∷ vs) h = cond-false (is_lead u && is_trail v) (pair_value u v ∷ points vs) (u ∷ points (v ∷ vs)) (h v vs refl)

pair_in_front : (u v : ℕ) (us : List ℕ) → is_lead u ≡ true → is_trail v ≡ true → points (u ∷ v ∷ us) ≡ pair_value u v ∷ points us
pair_in_front u v us a b = cond-true (is_lead u && is_trail v) (pair_value u v ∷ points us) (u ∷ points (v ∷ us)) (ap₂ (λ (x y : Bool). x && y) a b)

point_in_front : (lead : Bool) (c : ℕ) (cs : List ℕ) → may_follow Wtf8 lead c ≡ true → allowed Wtf8 (is_lead c) cs ≡ true → points (utf16_of c ++ utf16 cs) ≡ c ∷ points (utf16 cs)
point_in_front lead c cs may a = let small = may_small Wtf8 lead c may in ⊎_elim
    (λ (l : c < 0x10000). ap (λ (xs : List ℕ). points (xs ++ utf16 cs)) (one_unit c l) ∙ alone_in_front c (utf16 cs) (λ v vs e. head_of (is_lead c) cs v vs a e))
    (λ (l : 0x10000 ≤ c). let r = lead_range c l small in
    ap (λ (xs : List ℕ). points (xs ++ utf16 cs)) (two_units c l)
    ∙ (pair_in_front (lead_of c) (trail_of c) (utf16 cs) (is_low (lead_of c) r.0 r.1).0 (is_high (trail_of c) (omega arith) (omega arith))
    ∙ ap (λ (d : ℕ). d ∷ points (utf16 cs)) (pair_again c l small)))
    (cases_lt c 0x10000)

-- the units of code points that may stand in a row have just these code points
pub points_back : (lead : Bool) (cs : List ℕ) → allowed Wtf8 lead cs ≡ true → points (utf16 cs) ≡ cs
points_back lead [] a = refl
points_back lead (c ∷ cs) a = let p = and_parts (may_follow Wtf8 lead c) (allowed Wtf8 (is_lead c) cs) a in
    point_in_front lead c cs p.0 p.1 ∙ ap (λ (ds : List ℕ). c ∷ ds) (points_back (is_lead c) cs p.1)

small_one : (c : ℕ) → c < 0x110000 → Small (utf16_of c)
small_one c h = ⊎_elim
    (λ (a : c < 0x10000). subst Small (sym (one_unit c a)) (All-cons IsUnit c [] (omega arith) (All-nil IsUnit)))
    (λ (a : 0x10000 ≤ c). let r = lead_range c a h in
    subst Small (sym (two_units c a)) (All-cons IsUnit (lead_of c) (trail_of c ∷ []) (omega (arith, r.1)) (All-cons IsUnit (trail_of c) [] (omega arith) (All-nil IsUnit))))
    (cases_lt c 0x10000)

pub small_units : (lead : Bool) (cs : List ℕ) → allowed Wtf8 lead cs ≡ true → Small (utf16 cs)
small_units lead [] a = All-nil IsUnit
small_units lead (c ∷ cs) a = let p = and_parts (may_follow Wtf8 lead c) (allowed Wtf8 (is_lead c) cs) a in
    All-append IsUnit (utf16_of c) (utf16 cs) (small_one c (may_small Wtf8 lead c p.0)) (small_units (is_lead c) cs p.1)

-- the code points of units may stand in a row, and have just these units
abbrev Fits : Bool → List ℕ → Type 0
Fits lead us = (allowed Wtf8 lead (points us) ≡ true) × (utf16 (points us) ≡ us)

abbrev Free : Bool → List ℕ → Type 0
Free lead us = (v : ℕ) (vs : List ℕ) → us ≡ v ∷ vs → (lead && is_trail v) ≡ false

may : (lead : Bool) (c : ℕ) → c < 0x110000 → (lead && is_trail c) ≡ false → may_follow Wtf8 lead c ≡ true
may lead c h f = ap₂ (λ (x y : Bool). x && y) (lt-ltb c 0x110000 h) (not_false (lead && is_trail c) f)

fits_on : (lead : Bool) (c : ℕ) (us vs ws : List ℕ) → points ws ≡ c ∷ points us → ws ≡ vs ++ us → utf16_of c ≡ vs → may_follow Wtf8 lead c ≡ true → Fits (is_lead c) us → Fits lead ws
fits_on lead c us vs ws p w u m f = (
  ap (allowed Wtf8 lead) p ∙ (ap (λ (b : Bool). b && allowed Wtf8 (is_lead c) (points us)) m ∙ f.0),
  ap utf16 p ∙ (ap₂ (λ (xs ys : List ℕ). xs ++ ys) u f.1 ∙ sym w),
)

pair_facts : (u v : ℕ) → is_lead u ≡ true → is_trail v ≡ true → (0x10000 ≤ pair_value u v) × (pair_value u v < 0x110000) × (lead_of (pair_value u v) ≡ u) × (trail_of (pair_value u v) ≡ v)
pair_facts u v a b = let l : (0xD800 ≤ u) × (u < 0xDC00) = (grind (arith, nat_tests, a), grind (arith, nat_tests, a)) in
    let t : (0xDC00 ≤ v) × (v < 0xE000) = (grind (arith, nat_tests, b), grind (arith, nat_tests, b)) in
    (omega (arith, l.0, t.0), omega (arith, l.1, t.1), omega (arith, l.0, l.1, t.0, t.1), omega (arith, l.0, l.1, t.0, t.1))

no_surrogate : (c : ℕ) → 0x10000 ≤ c → (is_lead c ≡ false) × (is_trail c ≡ false)
no_surrogate c h = (grind (arith, nat_tests, h), grind (arith, nat_tests, h))

fits_pair : (lead : Bool) (u v : ℕ) (us : List ℕ) → is_lead u ≡ true → is_trail v ≡ true → ((l : Bool) → l ≡ false → Fits l us) → Fits lead (u ∷ v ∷ us)
fits_pair lead u v us a b f = let k = pair_facts u v a b in let n = no_surrogate (pair_value u v) k.0 in
    fits_on lead (pair_value u v) us (u ∷ v ∷ []) (u ∷ v ∷ us) (pair_in_front u v us a b) refl
    (two_units (pair_value u v) k.0 ∙ ap₂ (λ (x y : ℕ). x ∷ y ∷ []) k.2 k.3)
    (may lead (pair_value u v) k.1 (ap (λ (x : Bool). lead && x) n.1 ∙ and_no lead)) (f (is_lead (pair_value u v)) n.0)

fits_alone : (lead : Bool) (u : ℕ) (us : List ℕ) → u < 2 ^ 16 → (lead && is_trail u) ≡ false → Free (is_lead u) us → Fits (is_lead u) us → Fits lead (u ∷ us)
fits_alone lead u us small free next f =
    fits_on lead u us (u ∷ []) (u ∷ us) (alone_in_front u us next) refl (one_unit u (omega arith)) (may lead u (omega arith) free) f

free_of : (us : List ℕ) (l : Bool) → l ≡ false → Free l us
free_of us l e v vs is = ap (λ (b : Bool). b && is_trail v) e

free_cons : (lead : Bool) (v : ℕ) (vs : List ℕ) → (lead && is_trail v) ≡ false → Free lead (v ∷ vs)
free_cons lead v vs h w ws e = let k : v ≡ w = cc in subst (λ (x : ℕ). (lead && is_trail x) ≡ false) k h

abbrev AllFit : List ℕ → Type 0
AllFit us = (l : Bool) → Small us → Free l us → Fits l us

fits_by : (b : Bool) (u v : ℕ) (us : List ℕ) (lead : Bool) → (is_lead u && is_trail v) ≡ b → AllFit us → AllFit (v ∷ us) → Small (u ∷ v ∷ us) → Free lead (u ∷ v ∷ us) → Fits lead (u ∷ v ∷ us)
fits_by true u v us lead e rest next s f = let p = and_parts (is_lead u) (is_trail v) e in
    fits_pair lead u v us p.0 p.1 (λ l h. rest l (small_tail v us (small_tail u (v ∷ us) s)) (free_of us l h))
fits_by false u v us lead e rest next s f = let n = free_cons (is_lead u) v us e in
    fits_alone lead u (v ∷ us) (All-head IsUnit u (v ∷ us) s) (f u (v ∷ us) refl) n (next (is_lead u) (small_tail u (v ∷ us) s) n)

fits : (us : List ℕ) → AllFit us
fits [] lead s f = (refl, refl)
fits (u ∷ []) lead s f = fits_alone lead u [] (All-head IsUnit u [] s) (f u [] refl) (λ v vs e. absurd (omega (arith, ap length e))) (refl, refl)
fits (u ∷ v ∷ us) lead s f = fits_by (is_lead u && is_trail v) u v us lead refl (fits us) (fits (v ∷ us)) s f

pub chars_all : (e : Encoding) (lead : Bool) (cs : List ℕ) → allowed e lead cs ≡ true → chars (encode_utf8_all cs) ≡ cs
chars_all e lead [] a = chars-nil
chars_all e lead (c ∷ cs) a = let p = and_parts (may_follow e lead c) (allowed e (is_lead c) cs) a in
    chars_point c (encode_utf8_all cs) (may_small e lead c p.0) ∙ ap (λ (ds : List ℕ). c ∷ ds) (chars_all e (is_lead c) cs p.1)

scalars_of : (lead : Bool) (cs : List ℕ) → allowed Utf8 lead cs ≡ scalars cs
scalars_of lead [] = refl
scalars_of lead (c ∷ cs) = ap (λ (b : Bool). scalar c && b) (scalars_of (is_lead c) cs)

-- the code points that bytes spell give the units that they spell
pub spelled_units : (e : Encoding) (bytes : List ℕ) → IsSpelled e false bytes → spells e bytes (utf16 (chars bytes))
spelled_units Utf8 bytes s = ((chars bytes, (sym (scalars_of false (chars bytes)) ∙ s.row, s.same)), refl)
spelled_units Wtf8 bytes s = (small_units false (chars bytes) s.row, sym s.same ∙ ap encode_utf8_all (sym (points_back false (chars bytes) s.row)))

-- and no other units
pub units_spelled : (e : Encoding) (bytes us : List ℕ) → spells e bytes us → IsSpelled e false bytes × (us ≡ utf16 (chars bytes))
units_spelled Utf8 bytes us s = (record { same = encodes-chars bytes s.0; row = scalars_of false (chars bytes) ∙ scalars-chars bytes s.0 }, s.1)
units_spelled Wtf8 bytes us s = let f = fits us false s.0 (free_of us false refl) in
    let is : chars bytes ≡ points us = ap chars s.1 ∙ chars_all Wtf8 false (points us) f.0 in
    (record { same = ap encode_utf8_all is ∙ sym s.1; row = ap (allowed Wtf8 false) is ∙ f.0 }, sym f.1 ∙ ap utf16 (sym is))
