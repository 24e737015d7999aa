-- Runs of ASCII, which are read without being decoded.
use Rattle.std.proofs.Common.{◌≡◌, ℕ, suc, ◌+◌, ◌-◌, ◌<◌, ◌≤◌, ⊎_elim, Bool, true, false, List, [], ◌∷◌, ◌++◌, length, take, drop, get_or, refl, sym, ap, ap₂}
use Rattle.std.proofs.Common.{◌∙◌, arith, subst, append_assoc, length-append, length-drop}
use Rattle.std.specs.Prelude.{encode_utf8, encode_utf8_all, nat_eq, nat_lt, ◌&&◌}
use Rattle.std.specs.Char.{len_utf8}
use Rattle.std.specs.Str.{IsAscii, chars}
use Rattle.std.proofs.Math.Utf8.{low_scalar}
use Rattle.std.proofs.lemmas.Bool.{cases_lt, cond-true, lt-ltb}
use Rattle.std.proofs.lemmas.Bool.Decides.{nat_tests}
use Rattle.std.proofs.lemmas.List.{get_or-take, get_or_past, length-take, length-take-le, take-append-drop, take_all, take_more}
use Rattle.std.proofs.lemmas.Str.{encode_ascii, length-encode}
use Rattle.std.specs.Prelude.{set}
use Rattle.js_units.specs.Text.{is_lead, utf16_of}
use Rattle.heap_bytes.specs.declared.encoding.Encoding.{Encoding}
use Rattle.heap_bytes.specs.declared.encoding.Encoding.TheVariants.{Utf8, Wtf8}
use Rattle.heap_bytes.specs.Points.{IsRead, IsSpelled, may_follow, utf16}
use Rattle.heap_bytes.specs.Reading.{HasRead}
use Rattle.heap_bytes.proofs.Pieces.{one_put}
use Rattle.heap_bytes.proofs.Reading.{most_all, most_one, read_more, read_rest}

pub follows_ascii : (e : Encoding) (lead : Bool) (c : ℕ) → c < 128 → may_follow e lead c ≡ true
follows_ascii Utf8 lead c h = low_scalar c (omega (arith, h))
follows_ascii Wtf8 true c h = grind (arith, nat_tests)
follows_ascii Wtf8 false c h = grind (arith, nat_tests)

no_lead : (c : ℕ) → c < 128 → is_lead c ≡ false
no_lead c h = grind (arith, nat_tests)

one_ascii : (c : ℕ) → c < 128 → utf16_of c ≡ c ∷ []
one_ascii c h = cond-true (nat_lt c 0x10000) _ _ (lt-ltb c 0x10000 (omega (arith, h)))

begun : (c : ℕ) (xs : List ℕ) → c < 128 → c ∷ xs ≡ encode_utf8 c ++ xs
begun c xs h = ap (λ (ys : List ℕ). ys ++ xs) (sym (encode_ascii c h))

-- a list up to a place, and behind it
pub cut_at : (n : ℕ) (xs : List ℕ) → n ≤ length xs → xs ≡ take n xs ++ take (length xs - n) (drop n xs)
cut_at n xs l = sym (take-append-drop n xs) ∙ ap (λ (ys : List ℕ). take n xs ++ ys) (sym (take_all (length xs - n) (drop n xs) (omega (arith, length-drop n xs))))

stays : (lead : Bool) → lead ≡ (lead && nat_eq 0 0)
stays true = refl
stays false = refl

no_more : (n : ℕ) → nat_eq (suc n) 0 ≡ false
no_more n = grind (arith, nat_tests)

gone : (lead first : Bool) (n : ℕ) → first ≡ false → (first && nat_eq n 0) ≡ (lead && nat_eq (suc n) 0)
gone true first n e = ap (λ (b : Bool). b && nat_eq n 0) e ∙ sym (no_more n)
gone false first n e = ap (λ (b : Bool). b && nat_eq n 0) e

-- what was read up to a run of ASCII was read up to what is behind it
module _ (e : Encoding) (bytes after : List ℕ) where
  by_run : (run : List ℕ) (lead : Bool) (count : ℕ) → IsAscii run → HasRead e bytes (run ++ after) lead count → HasRead e bytes after (lead && nat_eq (length run) 0) (count + length run)
  by_run [] lead count a r = let n : count ≡ count + 0 = omega arith in subst (λ (m : ℕ). HasRead e bytes after (lead && nat_eq 0 0) m) n
      (subst (λ (b : Bool). HasRead e bytes after b count) (stays lead) r)
  by_run (c ∷ cs) lead count a r = let small : c < 128 = a 0 in
      let next = read_more e bytes (c ∷ (cs ++ after)) lead count r (cs ++ after) c 1 (follows_ascii e lead c small) (begun c (cs ++ after) small) (ap length (sym (one_ascii c small))) in
      let n : count + 1 + length cs ≡ count + suc (length cs) = omega arith in
      subst (λ (m : ℕ). HasRead e bytes after (lead && nat_eq (suc (length cs)) 0) m) n
      (subst (λ (b : Bool). HasRead e bytes after b (count + 1 + length cs)) (gone lead (is_lead c) (length cs) (no_lead c small)) (by_run cs (is_lead c) (count + 1) (λ i. a (suc i)) next))

pub read_run : (e : Encoding) (bytes rest : List ℕ) (lead next : Bool) (count run : ℕ) → HasRead e bytes rest lead count → run ≤ length rest → IsAscii (take run rest) → next ≡ (lead && nat_eq run 0)
    → HasRead e bytes (take (length rest - run) (drop run rest)) next (count + run)
read_run e bytes rest lead next count run r l a is = let behind = take (length rest - run) (drop run rest) in let n = length-take-le run rest l in
    let it = by_run e bytes behind (take run rest) lead count a (subst (λ (xs : List ℕ). HasRead e bytes xs lead count) (cut_at run rest l) r) in
    subst (λ (b : Bool). HasRead e bytes behind b (count + run)) (sym is) (subst (λ (m : ℕ). HasRead e bytes behind (lead && nat_eq m 0) (count + m)) n it)

-- the units of a run of ASCII, and of what is behind it
by_front : (xs ys : List ℕ) → IsAscii xs → IsRead (xs ++ ys) → IsRead ys × (utf16 (chars (xs ++ ys)) ≡ xs ++ utf16 (chars ys))
by_front [] ys a r = (r, refl)
by_front (x ∷ xs) ys a r = let small : x < 128 = a 0 in let k = read_rest x (xs ++ ys) (x ∷ (xs ++ ys)) (omega (arith, small)) (begun x (xs ++ ys) small) r in
    let m = by_front xs ys (λ i. a (suc i)) k.0 in
    (m.0, ap utf16 k.1 ∙ (ap (λ (us : List ℕ). us ++ utf16 (chars (xs ++ ys))) (one_ascii x small) ∙ ap (λ (us : List ℕ). x ∷ us) m.1))

module _ (bytes : List ℕ) (run : ℕ) (l : run ≤ length bytes) (a : IsAscii (take run bytes)) (r : IsRead bytes) where
  abbrev behind : List ℕ
  behind = take (length bytes - run) (drop run bytes)

  pub behind_run : IsRead (take (length bytes - run) (drop run bytes))
  behind_run = (by_front (take run bytes) behind a (subst IsRead (cut_at run bytes l) r)).0

  pub units_run : utf16 (chars bytes) ≡ take run bytes ++ utf16 (chars (take (length bytes - run) (drop run bytes)))
  units_run = ap (λ (xs : List ℕ). utf16 (chars xs)) (cut_at run bytes l) ∙ (by_front (take run bytes) behind a (subst IsRead (cut_at run bytes l) r)).1

  -- with what was put before
  pub run_put : (before after : List ℕ) → after ≡ before ++ take run bytes → before ++ utf16 (chars bytes) ≡ after ++ utf16 (chars (take (length bytes - run) (drop run bytes)))
  run_put before after is = ap (λ (us : List ℕ). before ++ us) units_run ∙
      (sym (append_assoc before (take run bytes) (utf16 (chars behind))) ∙ ap (λ (us : List ℕ). us ++ utf16 (chars behind)) (sym is))

-- what is behind a place is no longer
pub no_longer : (n : ℕ) (xs : List ℕ) → length (take (length xs - n) (drop n xs)) ≤ length xs
no_longer n xs = omega (arith, length-take (length xs - n) (drop n xs), length-drop n xs)

-- bytes below 128 at each place
pub take_ascii : (n : ℕ) (bs : List ℕ) → ((k : ℕ) → k < n → get_or bs k 0 < 128) → IsAscii (take n bs)
take_ascii n bs h i = ⊎_elim
    (λ (l : i < n). let e = get_or-take n bs i 0 l in let s = h i l in omega (arith, e, s))
    (λ (m : n ≤ i). let e = get_or_past (take n bs) i 0 (omega (arith, m, length-take n bs)) in omega (arith, e))
    (cases_lt i n)

-- one byte more in the room
pub run_more : (room old bytes : List ℕ) (at run u : ℕ) → at + run < length room → run < length bytes → u ≡ get_or bytes run 0 → take (at + run) room ≡ take at old ++ take run bytes
    → take (at + (run + 1)) (set room (at + run) u) ≡ take at old ++ take (run + 1) bytes
run_more room old bytes at run u l m is e = let n : at + (run + 1) ≡ at + run + 1 = omega arith in
    ap (λ (k : ℕ). take k (set room (at + run) u)) n ∙ (one_put room (at + run) u l ∙
    (ap₂ (λ (xs : List ℕ) (v : ℕ). xs ++ v ∷ []) e is ∙ (append_assoc (take at old) (take run bytes) (get_or bytes run 0 ∷ []) ∙ ap
    (λ (xs : List ℕ). take at old ++ xs) (sym (take_more bytes run 0 m)))))

-- as many units as bytes are ASCII
two_less : (c : ℕ) → 128 ≤ c → length (utf16_of c) < len_utf8 c
two_less c h = grind (arith, nat_tests)

same_all : (cs : List ℕ) → length (utf16 cs) ≡ length (encode_utf8_all cs) → utf16 cs ≡ encode_utf8_all cs
same_all [] e = refl
same_all (c ∷ cs) e = let n = length-append (utf16_of c) (utf16 cs) in let m = length-append (encode_utf8 c) (encode_utf8_all cs) in ⊎_elim
    (λ (l : c < 128). ap₂ (λ (xs ys : List ℕ). xs ++ ys) (one_ascii c l ∙ sym (encode_ascii c l)) (same_all cs (omega (arith, e, n, m, length-encode c, most_one c, most_all cs))))
    (λ (h : 128 ≤ c). absurd (omega (arith, e, n, m, length-encode c, two_less c h, most_all cs)))
    (cases_lt c 128)

pub same_number : (e : Encoding) (bytes : List ℕ) (count : ℕ) → IsSpelled e false bytes → count ≡ length (utf16 (chars bytes)) → count ≡ length bytes → bytes ≡ utf16 (chars bytes)
same_number e bytes count s is n = sym (same_all (chars bytes) (omega (arith, is, n, ap length s.same)) ∙ s.same)
