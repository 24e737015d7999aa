-- Each plain store is sound.
use Rattle.std.specs.Prelude.{◌≡◌, ℕ, zero, suc, ◌<◌, ◌≤◌, List, [], ◌∷◌, length, All, Some, slice_get}
use Rattle.std.specs.Prelude.{slice_index, unwrap_or, Contains}
use Rattle.std.proofs.Common.{arith, ap, sym, subst, ◌∙◌, get_or}
use Rattle.std.proofs.lemmas.List.{get_or-map, length-map}
use Rattle.std.specs.Ordering.{nat_cmp}
use Rattle.std.specs.Cmp.Lexicographic.{slice_cmp}
use Rattle.std.specs.FinMap.{FinMap, get}
use Rattle.js_store.specs.declared.limit.Limit.{Limit}
use Rattle.js_store.specs.declared.limit.Limit.TheVariants.{Bits32, Bits64}
use Rattle.js_store.specs.Limits.{limit_units}
use Rattle.js_store.specs.State.{Sound}
use Rattle.plain_store.specs.Plain.{IsConsistent, history_of, plain_state, plain_units}

abbrev pub Numbers : Type 0
Numbers = FinMap (slice_cmp nat_cmp) ℕ

pub record IsAnswerOf (strings : List (List ℕ)) (answers : List ℕ) (u : List ℕ) (n : ℕ) : Type 0 where
  pub k : ℕ
  pub here : k < length answers
  pub number : slice_index answers k ≡ n
  pub units : plain_units strings n ≡ u

-- a pair of the history is one of the answers
pub answer_of : (strings : List (List ℕ)) (answers : List ℕ) (u : List ℕ) (n : ℕ)
    → Contains (history_of strings answers) (u, n) → IsAnswerOf strings answers u n
answer_of strings answers u n h =
    let f : ℕ → List ℕ × ℕ = λ m. (plain_units strings m, m) in
    let l : h.0 < length answers = subst (λ (x : ℕ). h.0 < x) (length-map answers f) h.1 in
    let e : f (get_or answers h.0 0) ≡ (u, n) = sym (get_or-map f answers h.0 0 (u, n) l) ∙ h.2 in
    let m : get_or answers h.0 0 ≡ n = ap (λ p. p.1) e in
    record { k = h.0; here = l; number = m; units = ap (plain_units strings) (sym m) ∙ ap (λ p. p.0) e }

pub some_same : (m n : ℕ) → Some m ≡ Some n → m ≡ n
some_same m n e = ap (λ o. unwrap_or o m) e

-- the table has the number of each list interned
in_table : (strings : List (List ℕ)) (answers : List ℕ) (t : Numbers) → IsConsistent strings answers t
    → (u : List ℕ) (n : ℕ) → Contains (history_of strings answers) (u, n) → get t u ≡ Some n
in_table strings answers t k u n h =
    let a = answer_of strings answers u n h in
    ap (get t) (sym a.units ∙ ap (plain_units strings) (sym a.number)) ∙ k.answered a.k a.here ∙ ap Some
    a.number

get_within : (strings : List (List ℕ)) (n : ℕ) (u : List ℕ) → slice_get strings n ≡ Some u
    → n < length strings
get_within [] n u h = absurd (cc)
get_within (x ∷ xs) zero u h = omega arith
get_within (x ∷ xs) (suc n) u h = omega (arith, get_within xs n u h)

low : (l : Limit) → 268435440 ≤ limit_units l
low Bits32 = omega arith
low Bits64 = omega arith

high : (l : Limit) → limit_units l ≤ 536870888
high Bits32 = omega arith
high Bits64 = omega arith

pub plain_sound : (strings : List (List ℕ)) (answers : List ℕ) (l : Limit) (t : Numbers)
    → IsConsistent strings answers t → Sound (plain_state strings answers l)
plain_sound strings answers l t k = record {
  one_number = λ u m n p q. some_same m n
      (sym (in_table strings answers t k u m p) ∙ in_table strings answers t k u n q);
  one_list =
      λ u v n p q. sym (answer_of strings answers u n p).units ∙ (answer_of strings answers v n q).units;
  agrees = λ u v n p h. sym (answer_of strings answers u n p).units ∙ ap (λ o. unwrap_or o []) h;
  shut_apart = λ u n h p. cc;
  numbers = λ n u h. omega (arith, get_within strings n u h, k.count);
  lengths = λ n u h. subst (λ (v : List ℕ). length v ≤ 536870888) (ap (λ o. unwrap_or o []) h) (k.lengths n);
  units = λ n u h. subst (λ (v : List ℕ). All (λ x. x < 65536) v) (ap (λ o. unwrap_or o []) h) (k.ranges n);
  low = low l;
  high = high l;
}
