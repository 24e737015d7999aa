-- A run of ASCII among the units of a string.
use Rattle.std.proofs.Common.{◌≡◌, ℕ, zero, suc, ◌+◌, ◌<◌, ◌≤◌, false, List, [], ◌∷◌, ◌++◌, length, take, drop, get_or, get_or-take, get_or-drop, refl, sym, ap, ◌∙◌, arith, length-append, subst, Some}
use Rattle.std.specs.Prelude.{encode_utf8, nat_lt}
use Rattle.std.proofs.lemmas.Bool.{cond-true, cond-false, lt-ltb}
use Rattle.std.proofs.lemmas.Bool.Decides.{nat_tests}
use Rattle.std.proofs.lemmas.Grind.{same_number_lists}
use Rattle.std.proofs.lemmas.List.{length-drop, length-take-le}
use Rattle.js_units.specs.Text.{is_lead}
use Rattle.heap_export.specs.declared.faults.Unpaired.{Unpaired}
use Rattle.heap_export.specs.declared.faults.Unpaired.TheVariants.{Replace, Refuse, Keep}
use Rattle.heap_export.specs.Encoded.{bytes_of, is_unpaired, unpaired}
use Rattle.heap_export.specs.Points.{IsPointAt, written}
use Rattle.heap_export.proofs.Spelling.{by_lead, bytes_by, point_alone, spelled, spelled_next}
use Rattle.heap_export.proofs.UnitByUnit.{front}

leads_none : (c : ℕ) → c < 128 → is_lead c ≡ false
leads_none c h = grind (arith, nat_tests, h)

plain : (c : ℕ) → c < 128 → is_unpaired c ≡ false
plain c h = grind (arith, nat_tests, h)

written_same : (m : Unpaired) (c : ℕ) → c < 128 → written m c ≡ c
written_same Keep c h = refl
written_same Replace c h = cond-false (is_unpaired c) 0xFFFD c (plain c h)
written_same Refuse c h = cond-false (is_unpaired c) 0xFFFD c (plain c h)

one_byte : (c : ℕ) → c < 128 → encode_utf8 c ≡ c ∷ []
unfolding lib.Utf8.encode
one_byte c h = cond-true (nat_lt c 128) _ _ (lt-ltb c 128 h)

is_point : (us : List ℕ) (i : ℕ) → i < length us → get_or us i 0 < 128 → IsPointAt us i (record { value = get_or us i 0; count = 1 })
is_point us i l a = point_alone us i l (by_lead us i l (leads_none (get_or us i 0) a)) (omega arith)

module _ (us : List ℕ) (i n : ℕ) (a : (k : ℕ) → k < suc n → get_or us (i + k) 0 < 128) where
  first : get_or us i 0 < 128
  first = let e : i + 0 ≡ i = omega arith in subst (λ (j : ℕ). get_or us j 0 < 128) e (a 0 (omega arith))

  others : (k : ℕ) → k < n → get_or us (i + 1 + k) 0 < 128
  others k h = let e : i + suc k ≡ i + 1 + k = omega arith in subst (λ (j : ℕ). get_or us j 0 < 128) e (a (suc k) (omega arith))

pub spelled_run : (m : Unpaired) (us : List ℕ) (i n : ℕ) → i + n ≤ length us → ((k : ℕ) → k < n → get_or us (i + k) 0 < 128)
    → spelled m (drop i us) ≡ take n (drop i us) ++ spelled m (drop (i + n) us)
spelled_run m us i zero l a = let e : i ≡ i + 0 = omega arith in ap (λ j. spelled m (drop j us)) e
spelled_run m us i (suc n) l a =
    let u = get_or us i 0 in let here = first us i n a in let in_us : i < length us = omega arith in
    let next : i + 1 + n ≡ i + suc n = omega arith in let rest = spelled m (drop (i + 1) us) in
    let on = spelled_run m us (i + 1) n (omega arith) (others us i n a) ∙ ap (λ j. take n (drop (i + 1) us) ++ spelled m (drop j us)) next in
    spelled_next m us i (record { value = u; count = 1 }) (is_point us i in_us here)
    ∙ (ap (λ c. encode_utf8 c ++ rest) (written_same m u here)
    ∙ (ap (λ bs. bs ++ rest) (one_byte u here)
    ∙ (ap (λ bs. u ∷ bs) on
    ∙ ap (λ xs. take (suc n) xs ++ spelled m (drop (i + suc n) us)) (sym (front us i in_us)))))

unpaired_run : (us : List ℕ) (i n : ℕ) → i + n ≤ length us → ((k : ℕ) → k < n → get_or us (i + k) 0 < 128)
    → unpaired i (drop i us) ≡ unpaired (i + n) (drop (i + n) us)
unpaired_run us i zero l a = let e : i ≡ i + 0 = omega arith in ap (λ j. unpaired j (drop j us)) e
unpaired_run us i (suc n) l a =
    let u = get_or us i 0 in let here = first us i n a in let next : i + 1 + n ≡ i + suc n = omega arith in
    let at = is_point us i (omega arith) here in
    at.unpaired ∙ (cond-false (is_unpaired u) (Some i) (unpaired (i + 1) (drop (i + 1) us)) (plain u here)
    ∙ (unpaired_run us (i + 1) n (omega arith) (others us i n a) ∙ ap (λ j. unpaired j (drop j us)) next))

pub run_long : (us : List ℕ) (i n : ℕ) → i + n ≤ length us → length (take n (drop i us)) ≡ n
run_long us i n l = length-take-le n (drop i us) (omega (arith, length-drop i us))

module _ (m : Unpaired) (us : List ℕ) (i n : ℕ) (l : i + n ≤ length us) (a : (k : ℕ) → k < n → get_or us (i + k) 0 < 128) where
  long : length (spelled m (drop i us)) ≡ n + length (spelled m (drop (i + n) us))
  long = omega (arith, ap length (spelled_run m us i n l a), length-append (take n (drop i us)) (spelled m (drop (i + n) us)), run_long us i n l)

  pub size_run : (k all : ℕ) → k + length (spelled m (drop i us)) ≡ all → (k + n) + length (spelled m (drop (i + n) us)) ≡ all
  size_run k all e = omega (arith, e, long)

  pub whole_run : (m ≡ Refuse → unpaired 0 us ≡ unpaired i (drop i us)) → m ≡ Refuse → unpaired 0 us ≡ unpaired (i + n) (drop (i + n) us)
  whole_run h r = h r ∙ unpaired_run us i n l a

  -- the room that is left suffices for them
  pub room_run : (out : List ℕ) (at : ℕ) → length out ≡ length (bytes_of m us) → at ≤ length out → take at out ++ spelled m (drop i us) ≡ spelled m us → at + n ≤ length out
  room_run out at e r h = omega (
    arith,
    e,
    ap length (bytes_by m us),
    ap length h,
    length-append (take at out) (spelled m (drop i us)),
    length-take-le at out r,
    long,
  )

-- units of a window that were read
pub shown_ascii : (us block : List ℕ) (i n : ℕ) → ((k : ℕ) → k < n → get_or block k 0 ≤ 127) → ((k : ℕ) → k < n → get_or block k 0 ≡ get_or us (i + k) 0)
    → (k : ℕ) → k < n → get_or us (i + k) 0 < 128
shown_ascii us block i n small same k l = omega (arith, small k l, same k l)

pub same_run : (us block : List ℕ) (i n : ℕ) → length (take n block) ≡ n → i + n ≤ length us → ((k : ℕ) → k < n → get_or block k 0 ≡ get_or us (i + k) 0) → take n block ≡ take n (drop i us)
same_run us block i n long l same =
    same_number_lists (take n block) (take n (drop i us)) (long ∙ sym (run_long us i n l)) (λ k h. let m : k < n = omega (arith, h, long) in
    get_or-take n block k 0 m ∙ (same k m ∙ sym (get_or-take n (drop i us) k 0 m ∙ get_or-drop i us k 0)))
