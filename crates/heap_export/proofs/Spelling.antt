-- The code points of a string in a row, and their bytes.
use Rattle.std.proofs.Common.{◌≡◌, ℕ, suc, ◌+◌, ◌*◌, ◌<◌, ◌≤◌, Bool, true, false, List, [], ◌∷◌, ◌++◌, map, length, take, drop, get_or, drop-cons, refl, sym}
use Rattle.std.proofs.Common.{ap, ◌∙◌, arith, length-append, Some, None, subst}
use Rattle.std.specs.Prelude.{◌&&◌, encode_utf8, encode_utf8_all, if◌then◌else◌}
use Rattle.std.specs.Char.{len_utf8}
use Rattle.std.proofs.lemmas.Str.{length-encode}
use Rattle.std.proofs.lemmas.Bool.{and_parts, cond-true, cond-false}
use Rattle.std.proofs.lemmas.Bool.Decides.{nat_tests}
use Rattle.std.proofs.lemmas.List.{append-nil, drop_all, length-take-le, take_all}
use Rattle.js_units.specs.Text.{alone, is_lead, is_trail, pair_value, points, well}
use Rattle.heap_export.specs.declared.faults.Unpaired.{Unpaired}
use Rattle.heap_export.specs.declared.faults.Unpaired.TheVariants.{Replace, Refuse, Keep}
use Rattle.heap_export.specs.declared.points.Point.{Point}
use Rattle.heap_export.specs.Encoded.{bytes_of, is_unpaired, refused, unpaired}
use Rattle.heap_export.specs.Points.{IsPointAt, is_refused, written}

-- the bytes of units, code point by code point
abbrev pub spelled : Unpaired → List ℕ → List ℕ
spelled m us = encode_utf8_all (map (written m) (points us))

pub pair_range : (u v : ℕ) → is_lead u ≡ true → is_trail v ≡ true → (0x10000 ≤ pair_value u v) × (pair_value u v < 0x110000)
pair_range u v a b = (omega arith, grind (arith, nat_tests, a, b))

no_surrogate : (c : ℕ) → 0x10000 ≤ c → is_unpaired c ≡ false
no_surrogate c h = grind (arith, nat_tests, h)

-- a unit that begins no pair
pub alone_value : (u : ℕ) (rest : List ℕ) → ((v : ℕ) (vs : List ℕ) → rest ≡ v ∷ vs → (is_lead u && is_trail v) ≡ false) → points (u ∷ rest) ≡ u ∷ points rest
alone_value u [] h = refl
alone_value u (v ∷ vs) h = cond-false (is_lead u && is_trail v) (pair_value u v ∷ points vs) (u ∷ points (v ∷ vs)) (h v vs refl)

pub alone_place : (k u : ℕ) (rest : List ℕ) → ((v : ℕ) (vs : List ℕ) → rest ≡ v ∷ vs → (is_lead u && is_trail v) ≡ false)
    → unpaired k (u ∷ rest) ≡ (if is_unpaired u then Some k else unpaired (k + 1) rest)
alone_place k u [] h = refl
alone_place k u (v ∷ vs) h = cond-false (is_lead u && is_trail v) (unpaired (k + 2) vs) (if is_unpaired u then Some k else unpaired (k + 1) (v ∷ vs)) (h v vs refl)

-- U+FFFD in the place of each unpaired surrogate: among the units, or among the code points
never : (x y : Bool) → x ≡ false → (x && y) ≡ false
never x y e = ap (λ z. z && y) e

alone_leads_none : (u : ℕ) → is_lead (alone u) ≡ false
alone_leads_none u = grind (arith, nat_tests)

alone_of_pair : (u v : ℕ) → is_lead u ≡ true → is_trail v ≡ true → alone (pair_value u v) ≡ pair_value u v
alone_of_pair u v a b = cond-false (is_unpaired (pair_value u v)) 0xFFFD (pair_value u v) (no_surrogate (pair_value u v) (pair_range u v a b).0)

well_by : (b : Bool) (u v : ℕ) (us : List ℕ) → (is_lead u && is_trail v) ≡ b → points (well us) ≡ map alone (points us) → points (well (v ∷ us)) ≡ map alone (points (v ∷ us))
    → points (well (u ∷ v ∷ us)) ≡ map alone (points (u ∷ v ∷ us))
well_by true u v us e h k = let p = and_parts (is_lead u) (is_trail v) e in
    ap points (cond-true (is_lead u && is_trail v) (u ∷ v ∷ well us) (alone u ∷ well (v ∷ us)) e)
    ∙ (cond-true (is_lead u && is_trail v) (pair_value u v ∷ points (well us)) (u ∷ points (v ∷ well us)) e
    ∙ (ap (λ ps. pair_value u v ∷ ps) h
    ∙ (ap (λ c. c ∷ map alone (points us)) (sym (alone_of_pair u v p.0 p.1))
    ∙ ap (map alone) (sym (cond-true (is_lead u && is_trail v) (pair_value u v ∷ points us) (u ∷ points (v ∷ us)) e)))))
well_by false u v us e h k =
    ap points (cond-false (is_lead u && is_trail v) (u ∷ v ∷ well us) (alone u ∷ well (v ∷ us)) e)
    ∙ (alone_value (alone u) (well (v ∷ us)) (λ w ws t. never (is_lead (alone u)) (is_trail w) (alone_leads_none u))
    ∙ (ap (λ ps. alone u ∷ ps) k
    ∙ ap (map alone) (sym (cond-false (is_lead u && is_trail v) (pair_value u v ∷ points us) (u ∷ points (v ∷ us)) e))))

pub wells : (us : List ℕ) → points (well us) ≡ map alone (points us)
wells [] = refl
wells (u ∷ []) = refl
wells (u ∷ v ∷ us) = well_by (is_lead u && is_trail v) u v us refl (wells us) (wells (v ∷ us))

map_same : (cs : List ℕ) → map (written Keep) cs ≡ cs
map_same [] = refl
map_same (c ∷ cs) = ap (λ ds. c ∷ ds) (map_same cs)

pub bytes_by : (m : Unpaired) (us : List ℕ) → bytes_of m us ≡ spelled m us
bytes_by Keep us = ap encode_utf8_all (sym (map_same (points us)))
bytes_by Replace us = ap encode_utf8_all (wells us)
bytes_by Refuse us = ap encode_utf8_all (wells us)

and_false : (x : Bool) → (x && false) ≡ false
and_false true = refl
and_false false = refl

-- the code point at a place, from the units there
module _ (us : List ℕ) (i : ℕ) (l : i < length us) where
  front : drop i us ≡ get_or us i 0 ∷ drop (i + 1) us
  front = let e : suc i ≡ i + 1 = omega arith in drop-cons us i 0 l ∙ ap (λ n. get_or us i 0 ∷ drop n us) e

  pub point_alone : ((v : ℕ) (vs : List ℕ) → drop (i + 1) us ≡ v ∷ vs → (is_lead (get_or us i 0) && is_trail v) ≡ false) → get_or us i 0 <
      65536 → IsPointAt us i (record { value = get_or us i 0; count = 1 })
  point_alone h small = record {
    some = omega arith;
    within = omega arith;
    value = ap points front ∙ alone_value (get_or us i 0) (drop (i + 1) us) h;
    unpaired = ap (unpaired i) front ∙ alone_place i (get_or us i 0) (drop (i + 1) us) h;
    short = grind (arith, nat_tests, small);
    range = omega arith;
  }

  pub by_lead : is_lead (get_or us i 0) ≡ false → (v : ℕ) (vs : List ℕ) → drop (i + 1) us ≡ v ∷ vs → (is_lead (get_or us i 0) && is_trail v) ≡ false
  by_lead e v vs t = never (is_lead (get_or us i 0)) (is_trail v) e

  pub by_end : length us ≤ i + 1 → (v : ℕ) (vs : List ℕ) → drop (i + 1) us ≡ v ∷ vs → (is_lead (get_or us i 0) && is_trail v) ≡ false
  by_end h v vs t = absurd (omega (arith, ap length t, ap length (drop_all (i + 1) us h)))

  pub by_trail : i + 1 < length us → is_trail (get_or us (i + 1) 0) ≡ false → (v : ℕ) (vs : List ℕ) → drop (i + 1) us ≡ v ∷ vs → (is_lead (get_or us i 0) && is_trail v) ≡ false
  by_trail h e v vs t = let s : v ∷ vs ≡ get_or us (i + 1) 0 ∷ drop (suc (i + 1)) us = sym t ∙ drop-cons us (i + 1) 0 h in
      let w : v ≡ get_or us (i + 1) 0 = cc in
      ap (λ x. is_lead (get_or us i 0) && is_trail x) w ∙ (ap (λ b. is_lead (get_or us i 0) && b) e ∙ and_false (is_lead (get_or us i 0)))

  pub point_pair : i + 1 < length us → is_lead (get_or us i 0) ≡ true → is_trail (get_or us (i + 1) 0) ≡ true → IsPointAt us i
      (record { value = pair_value (get_or us i 0) (get_or us (i + 1) 0); count = 2 })
  point_pair l2 a b = let u = get_or us i 0 in let v = get_or us (i + 1) 0 in let next : suc (i + 1) ≡ i + 2 = omega arith in
      let whole : drop i us ≡ u ∷ v ∷ drop (i + 2) us = front ∙ ap (λ xs. u ∷ xs) (drop-cons us (i + 1) 0 l2 ∙ ap (λ n. v ∷ drop n us) next) in
      let both_true : (is_lead u && is_trail v) ≡ true = ap (λ x. x && is_trail v) a ∙ b in
      let r = pair_range u v a b in record {
        some = omega arith;
        within = omega arith;
        value = ap points whole ∙ cond-true (is_lead u && is_trail v) (pair_value u v ∷ points (drop (i + 2) us)) (u ∷ points (v ∷ drop (i + 2) us)) both_true;
        unpaired = ap (unpaired i) whole
            ∙ (cond-true (is_lead u && is_trail v) (unpaired (i + 2) (drop (i + 2) us)) (if is_unpaired u then Some i else unpaired (i + 1) (v ∷ drop (i + 2) us)) both_true
            ∙ sym (cond-false (is_unpaired (pair_value u v)) (Some i) (unpaired (i + 2) (drop (i + 2) us)) (no_surrogate (pair_value u v) r.0)));
        short = grind (arith, nat_tests, r.0);
        range = r.1;
      }

pub point_as : (us : List ℕ) (i : ℕ) (p : Point) (v n : ℕ) → p.value ≡ v → p.count ≡ n → IsPointAt us i (record { value = v; count = n }) → IsPointAt us i p
point_as us i p v n a b h = let x = sym a in let y = sym b in
    let e : record { value = v; count = n } ≡ p = λ j. record { value = x j; count = y j } in subst (IsPointAt us i) e h

-- one code point more
module _ (m : Unpaired) (us : List ℕ) (i : ℕ) (p : Point) (at : IsPointAt us i p) where
  pub spelled_next : spelled m (drop i us) ≡ encode_utf8 (written m p.value) ++ spelled m (drop (i + p.count) us)
  spelled_next = ap (λ cs. encode_utf8_all (map (written m) cs)) at.value

  pub size_next : (n all : ℕ) → n + length (spelled m (drop i us)) ≡ all → (n + len_utf8 (written m p.value)) + length (spelled m (drop (i + p.count) us)) ≡ all
  size_next n all e = omega (arith, e, ap length spelled_next, length-append (encode_utf8 (written m p.value)) (spelled m (drop (i + p.count) us)), length-encode (written m p.value))

alone_short : (b : Bool) (c n : ℕ) → 1 ≤ n → len_utf8 c ≤ 3 * n → len_utf8 (if b then 0xFFFD else c) ≤ 3 * n
alone_short true c n s h = omega (arith, s)
alone_short false c n s h = h

pub few_next : (m : Unpaired) (us : List ℕ) (i : ℕ) (p : Point) → IsPointAt us i p → len_utf8 (written m p.value) ≤ 3 * p.count
few_next Keep us i p at = at.short
few_next Replace us i p at = alone_short (is_unpaired p.value) p.value p.count at.some at.short
few_next Refuse us i p at = alone_short (is_unpaired p.value) p.value p.count at.some at.short

alone_range : (b : Bool) (c : ℕ) → c < 0x110000 → (if b then 0xFFFD else c) < 0x110000
alone_range true c h = omega arith
alone_range false c h = h

pub in_range : (m : Unpaired) (c : ℕ) → c < 0x110000 → written m c < 0x110000
in_range Keep c h = h
in_range Replace c h = alone_range (is_unpaired c) c h
in_range Refuse c h = alone_range (is_unpaired c) c h

-- the places of unpaired surrogates
pub refused_at : (m : Unpaired) (us : List ℕ) (i : ℕ) (p : Point) → IsPointAt us i p → is_refused m p.value ≡ true → (m ≡ Refuse → unpaired 0 us ≡ unpaired i (drop i us)) → refused m us ≡ Some i
refused_at Keep us i p at e h = absurd (let f : false ≡ true = e in cc)
refused_at Replace us i p at e h = absurd (let f : false ≡ true = e in cc)
refused_at Refuse us i p at e h = h refl ∙ (at.unpaired ∙ cond-true (is_unpaired p.value) (Some i) (unpaired (i + p.count) (drop (i + p.count) us)) e)

pub none_yet : (m : Unpaired) (us : List ℕ) (i : ℕ) (p : Point) → IsPointAt us i p → is_refused m p.value ≡ false → (m ≡ Refuse → unpaired 0 us ≡ unpaired i (drop i us))
    → m ≡ Refuse → unpaired 0 us ≡ unpaired (i + p.count) (drop (i + p.count) us)
none_yet m us i p at e h r = h r ∙ (at.unpaired ∙ cond-false (is_unpaired p.value) (Some i) (unpaired (i + p.count) (drop (i + p.count) us)) (ap (λ k. is_refused k p.value) (sym r) ∙ e))

pub none_at_all : (m : Unpaired) (us : List ℕ) (i : ℕ) → length us ≤ i → (m ≡ Refuse → unpaired 0 us ≡ unpaired i (drop i us)) → refused m us ≡ None
none_at_all Keep us i l h = refl
none_at_all Replace us i l h = refl
none_at_all Refuse us i l h = h refl ∙ ap (unpaired i) (drop_all i us l)

spelled_end : (m : Unpaired) (us : List ℕ) (i : ℕ) → length us ≤ i → spelled m (drop i us) ≡ []
spelled_end m us i l = ap (spelled m) (drop_all i us l)

pub size_done : (m : Unpaired) (us : List ℕ) (i n : ℕ) → length us ≤ i → n + length (spelled m (drop i us)) ≡ length (spelled m us) → n ≡ length (bytes_of m us)
size_done m us i n l h = omega (arith, h, ap length (spelled_end m us i l), ap length (bytes_by m us))

pub bytes_done : (m : Unpaired) (us out : List ℕ) (i n : ℕ) → length us ≤ i → length out ≡ length (bytes_of m us) → n ≤ length out → take n
    out ++ spelled m (drop i us) ≡ spelled m us → out ≡ bytes_of m us
bytes_done m us out i n l e r h =
    let front : take n out ≡ spelled m us = sym (append-nil (take n out)) ∙ (ap (λ bs. take n out ++ bs) (sym (spelled_end m us i l)) ∙ h) in
    let long : length out ≤ n = omega (arith, e, ap length front, length-take-le n out r, ap length (bytes_by m us)) in
    sym (take_all n out long) ∙ (front ∙ sym (bytes_by m us))

-- the room that is left suffices for one code point more
pub room_next : (m : Unpaired) (us out : List ℕ) (i n : ℕ) (p : Point) → IsPointAt us i p → length out ≡ length (bytes_of m us) → n ≤ length out → take n out ++ spelled m (drop i us) ≡ spelled m us
    → n + len_utf8 (written m p.value) ≤ length out
room_next m us out i n p at e r h = omega (
  arith,
  e,
  ap length (bytes_by m us),
  ap length h,
  length-append (take n out) (spelled m (drop i us)),
  length-take-le n out r,
  ap length (spelled_next m us i p at),
  length-append (encode_utf8 (written m p.value)) (spelled m (drop (i + p.count) us)),
  length-encode (written m p.value),
)
