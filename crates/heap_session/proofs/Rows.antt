-- What calls on texts use, against the rows of a store.
use Rattle.std.proofs.Common.{◌≡◌, ℕ, ◌+◌, ◌-◌, ◌<◌, ◌≤◌, Bool, true, false, ◌||◌, List, [], ◌∷◌, refl, ap, ◌∙◌, arith, if◌then◌else◌, nat_eq, nat_lt, lt-ltb, ne_eqb, eqb-true}
use Rattle.js_units.specs.Lanes.{words_over}
use Rattle.js_store.specs.Rows.{cut_ids, cut_words, flat_words, intern_words, is_part_empty, is_whole, join_ids, join_words, settle_words, wide_words}
use Rattle.js_store.specs.Rows as rows
use Rattle.js_units.specs.Lanes as texts

or_is : (b c : Bool) → (b || c) ≡ (if b then true else c)
or_is true c = refl
or_is false c = refl

pub wide_same : (us : List ℕ) → texts.is_wide us ≡ rows.takes_two_bytes us
wide_same [] = refl
wide_same (u ∷ us) = or_is (nat_lt 255 u) (texts.is_wide us) ∙ ap (λ (b : Bool). if nat_lt 255 u then true else b) (wide_same us)

pub words_most : (b : Bool) (n : ℕ) → words_over b n ≤ wide_words n
words_most true n = omega arith
words_most false n = omega arith

pub few_words : (b : Bool) (n : ℕ) → n < 13 → words_over b n ≤ 3
few_words true n l = omega arith
few_words false n l = omega arith

-- neither side is empty
full_by : (m n : ℕ) → 0 < m → 0 < n → is_part_empty m n ≡ false
full_by m n a b = ap (λ (x : Bool). if x then true else nat_eq n 0) (ne_eqb m 0 (λ e. omega arith)) ∙ ne_eqb n 0 (λ e. omega arith)

pub join_ids_one : (m n : ℕ) → 0 < m → 0 < n → join_ids m n ≡ 1
join_ids_one m n a b = ap (λ (x : Bool). if x then 0 else 1) (full_by m n a b)

-- a short result is copied
pub join_words_copy : (m n : ℕ) → 0 < m → 0 < n → m + n < 13 → join_words m n ≡ 3
join_words_copy m n a b l = ap (λ (x : Bool). if x then 0 else if nat_lt (m + n) 13 then 3 else 0) (full_by m n a b) ∙ ap (λ (x : Bool). if x then 3 else 0) (lt-ltb (m + n) 13 l)

-- a part that is not the whole
part_on : (b : Bool) (from to n : ℕ) → (b ≡ true → from ≡ 0) → (from ≡ 0 → to ≡ n → ⊥) → (if b then nat_eq to n else false) ≡ false
part_on true from to n e never = ne_eqb to n (λ t. never (e refl) t)
part_on false from to n e never = refl

part_by : (from to n : ℕ) → (from ≡ 0 → to ≡ n → ⊥) → is_whole from to n ≡ false
part_by from to n never = part_on (nat_eq from 0) from to n (eqb-true from 0) never

pub cut_ids_one : (from to n : ℕ) → (from ≡ 0 → to ≡ n → ⊥) → cut_ids from to n ≡ 1
cut_ids_one from to n never = ap (λ (x : Bool). if x then 0 else 1) (part_by from to n never)

-- a short part is copied
pub cut_words_copy : (from to n : ℕ) → (from ≡ 0 → to ≡ n → ⊥) → to - from < 13 → cut_words from to n ≡ 3
cut_words_copy from to n never l = ap (λ (x : Bool). if x then 0 else if nat_lt (to - from) 13 then 3 else 0) (part_by from to n never) ∙ ap
    (λ (x : Bool). if x then 3 else 0) (lt-ltb (to - from) 13 l)

-- settling is a part of interning
pub settle_part : (b : Bool) (n : ℕ) → settle_words b n + wide_words n ≤ intern_words b n
settle_part true n = omega arith
settle_part false n = omega arith
