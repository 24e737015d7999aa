-- Bytes that are read code point by code point.
use Rattle.std.proofs.Common.{◌≡◌, ℕ, ◌+◌, ◌-◌, ◌<◌, ◌≤◌, Bool, true, false, List, [], ◌∷◌, ◌++◌, length, take, drop, refl, sym, ap, ◌∙◌, arith, subst}
use Rattle.std.proofs.Common.{append_assoc, append-nil, length-append, eqb-true, ltb-true}
use Rattle.std.specs.Prelude.{encode_utf8, encode_utf8_all, nat_eq, nat_lt, ◌&&◌}
use Rattle.std.specs.Char.{len_utf8}
use Rattle.std.specs.Str.{chars}
use Rattle.std.proofs.Math.Seq.{take-append-add, take-append_seam}
use Rattle.std.proofs.lemmas.Bool.Decides.{nat_tests}
use Rattle.std.proofs.lemmas.List.{length-take, take-append-drop}
use Rattle.std.proofs.lemmas.Str.{chars-nil, encode_same, len_utf8_bounds, length-encode}
use Rattle.std.proofs.lemmas.Bool.{and_parts, lt-ltb}
use Rattle.js_units.specs.Text.{is_lead, utf16_of}
use Rattle.heap_bytes.specs.declared.encoding.Encoding.{Encoding}
use Rattle.heap_bytes.specs.Points.{BeginsNone, IsRead, IsSpelled, IsSpelledUpTo, allowed, are_points, may_follow, utf16}
use Rattle.heap_bytes.specs.Reading.{FollowsNone, HasRead}
use Rattle.heap_bytes.proofs.Rows.{begins, chars_point, may_small, spelled_less, spelled_more, spelled_nil}

-- units are no more than the bytes that spell them
pub most_one : (c : ℕ) → length (utf16_of c) ≤ len_utf8 c
most_one c = grind (arith, nat_tests)

pub most_all : (cs : List ℕ) → length (utf16 cs) ≤ length (encode_utf8_all cs)
most_all [] = omega arith
most_all (c ∷ cs) = omega (arith, length-append (utf16_of c) (utf16 cs), length-append (encode_utf8 c) (encode_utf8_all cs), length-encode c, most_one c, most_all cs)

pub most_units : (e : Encoding) (lead : Bool) (xs : List ℕ) → IsSpelled e lead xs → length (utf16 (chars xs)) ≤ length xs
most_units e lead xs s = subst (λ (ys : List ℕ). length (utf16 (chars xs)) ≤ length ys) s.same (most_all (chars xs))

nil_of : (xs : List ℕ) → length xs ≡ 0 → xs ≡ []
nil_of [] h = refl
nil_of (x ∷ xs) h = absurd (omega arith)

pub read_start : (e : Encoding) (bytes : List ℕ) → HasRead e bytes bytes false 0
read_start e bytes = record { front = []; split = refl; longer = λ xs s. s; shorter = λ xs s. s; units = λ xs. omega arith }

module _ (e : Encoding) (bytes rest : List ℕ) (lead : Bool) (count : ℕ) (r : HasRead e bytes rest lead count) where
  front_spelled : IsSpelled e false r.front
  front_spelled = subst (IsSpelled e false) (append-nil r.front) (r.longer [] (spelled_nil e lead))

  pub read_more : (after : List ℕ) (c n : ℕ) → may_follow e lead c ≡ true → rest ≡ encode_utf8 c ++ after → n ≡ length (utf16_of c) → HasRead e bytes after (is_lead c) (count + n)
  read_more after c n may is long = let small = may_small e lead c may in record {
    front = r.front ++ encode_utf8 c;
    split = r.split ∙ (ap (λ (ys : List ℕ). r.front ++ ys) is ∙ sym (append_assoc r.front (encode_utf8 c) after));
    longer = λ xs s. subst (IsSpelled e false) (sym (append_assoc r.front (encode_utf8 c) xs)) (r.longer (encode_utf8 c ++ xs) (spelled_more e lead c xs may s));
    shorter = λ xs s. (spelled_less e lead c xs small (r.shorter (encode_utf8 c ++ xs) (subst (IsSpelled e false) (append_assoc r.front (encode_utf8 c) xs) s))).1;
    units = λ xs. omega (
      arith,
      long,
      r.units (encode_utf8 c ++ xs),
      ap (λ (ys : List ℕ). length (utf16 ys)) (chars_point c xs small),
      length-append (utf16_of c) (utf16 (chars xs)),
      ap (λ (ys : List ℕ). length (utf16 (chars ys))) (append_assoc r.front (encode_utf8 c) xs),
    );
  }

  pub read_most : count ≤ length bytes
  read_most = omega (arith, r.units [], ap (λ (ys : List ℕ). length (utf16 (chars ys))) (append-nil r.front), most_units e false r.front front_spelled, ap length r.split, length-append r.front rest)

  pub read_all : length rest ≡ 0 → IsSpelled e false bytes × (count ≡ length (utf16 (chars bytes)))
  read_all none = let is : bytes ≡ r.front = r.split ∙ (ap (λ (ys : List ℕ). r.front ++ ys) (nil_of rest none) ∙ append-nil r.front) in (
    subst (IsSpelled e false) (sym is) front_spelled,
    omega (
      arith,
      r.units [],
      ap (λ (ys : List ℕ). length (utf16 (chars ys))) (append-nil r.front),
      ap (λ (ys : List ℕ). length (utf16 (chars ys))) is,
      ap (λ (ys : List ℕ). length (utf16 ys)) chars-nil,
    ),
  )

  module _ (none : FollowsNone e lead rest) (some : 0 < length rest) where
    no_longer : (k : ℕ) → 0 < k → ¬ (IsSpelled e false (r.front ++ take k rest))
    no_longer k l s =
        let b = begins e lead (take k rest) (r.shorter (take k rest) s) (omega (arith, length-take k rest)) in
        none b.0 (b.1 ++ drop k rest) b.2
        (sym (take-append-drop k rest) ∙ (ap (λ (ys : List ℕ). ys ++ drop k rest) b.3 ∙ append_assoc (encode_utf8 b.0) b.1 (drop k rest)))

    front_taken : (n : ℕ) → n ≡ length r.front → take n bytes ≡ r.front
    front_taken n at = ap (take n) r.split ∙ (ap (λ (k : ℕ). take k (r.front ++ rest)) at ∙ take-append_seam r.front rest)

    longer_taken : (n m : ℕ) → n ≡ length r.front → n < m → take m bytes ≡ r.front ++ take (m - n) rest
    longer_taken n m at l = ap (take m) r.split ∙ (ap (λ (k : ℕ). take k (r.front ++ rest)) (omega (arith, at, l)) ∙ take-append-add r.front rest (m - n))

    pub read_stops : (n : ℕ) → n ≡ length bytes - length rest → IsSpelledUpTo e bytes n
    read_stops n at = let here : n ≡ length r.front = omega (arith, at, ap length r.split, length-append r.front rest) in record {
      short = omega (arith, here, some, ap length r.split, length-append r.front rest);
      front = subst (IsSpelled e false) (sym (front_taken n here)) front_spelled;
      longest = λ m l s. no_longer (m - n) (omega (arith, l)) (subst (IsSpelled e false) (longer_taken n m here l) s);
    }

-- where no code point begins, none follows
pub none_follows : (e : Encoding) (lead : Bool) (bytes : List ℕ) → BeginsNone bytes → FollowsNone e lead bytes
none_follows e lead bytes h = λ c rest may is. h c rest (may_small e lead c may) is

never : false ≡ true → ⊥
never h = cc

-- the code point that begins may not follow
pub other_follows : (e : Encoding) (lead : Bool) (bytes rest : List ℕ) (c : ℕ) → bytes ≡ encode_utf8 c ++ rest → may_follow e lead c ≡ false → FollowsNone e lead bytes
other_follows e lead bytes rest c is f = λ d ys may at. let same = (encode_same c d rest ys (sym is ∙ at)).0 in
    never (sym f ∙ (ap (may_follow e lead) same ∙ may))

-- whether bytes are left
pub none_left : (xs : List ℕ) (b : Bool) → b ≡ nat_eq (length xs) 0 → b ≡ true → length xs ≡ 0
none_left xs b is t = eqb-true (length xs) 0 (sym is ∙ t)

pub some_left : (xs : List ℕ) (b : Bool) → b ≡ nat_eq (length xs) 0 → b ≡ false → 0 < length xs
some_left [] b is f = absurd (never (sym f ∙ is))
some_left (x ∷ xs) b is f = omega arith

pub shorter_by : (c : ℕ) (rest after : List ℕ) → rest ≡ encode_utf8 c ++ after → length after < length rest
shorter_by c rest after is = omega (arith, ap length is, length-append (encode_utf8 c) after, length-encode c, (len_utf8_bounds c).0)

-- bytes that were measured are read again
points_of : (e : Encoding) (lead : Bool) (cs : List ℕ) → allowed e lead cs ≡ true → are_points cs ≡ true
points_of e lead [] a = refl
points_of e lead (c ∷ cs) a = let p = and_parts (may_follow e lead c) (allowed e (is_lead c) cs) a in
    (λ i. lt-ltb c 0x110000 (may_small e lead c p.0) i && points_of e (is_lead c) cs p.1 i)

pub reads_again : (e : Encoding) (bytes : List ℕ) → IsSpelled e false bytes → IsRead bytes
reads_again e bytes s = record { same = s.same; points = points_of e false (chars bytes) s.row }

pub read_rest : (c : ℕ) (xs bytes : List ℕ) → c < 0x110000 → bytes ≡ encode_utf8 c ++ xs → IsRead bytes → IsRead xs × (chars bytes ≡ c ∷ chars xs)
read_rest c xs bytes small is r = let t : chars bytes ≡ c ∷ chars xs = ap chars is ∙ chars_point c xs small in
    let p = and_parts (nat_lt c 0x110000) (are_points (chars xs)) (ap are_points (sym t) ∙ r.points) in
    (record { same = (encode_same c c (encode_utf8_all (chars xs)) xs (ap encode_utf8_all (sym t) ∙ (r.same ∙ is))).1; points = p.1 }, t)

end_by : (cs bytes : List ℕ) → encode_utf8_all cs ≡ bytes → are_points cs ≡ true → BeginsNone bytes → cs ≡ []
end_by [] bytes s p none = refl
end_by (c ∷ cs) bytes s p none = absurd (none c (encode_utf8_all cs) (ltb-true c 0x110000 (and_parts (nat_lt c 0x110000) (are_points cs) p).0) (sym s))

pub read_end : (bytes : List ℕ) → IsRead bytes → BeginsNone bytes → chars bytes ≡ []
read_end bytes r none = end_by (chars bytes) bytes r.same r.points none
