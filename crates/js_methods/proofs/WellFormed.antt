-- How the well-formed list goes on after one more unit.
use Rattle.std.proofs.Common.{◌≡◌, ℕ, Bool, true, false, List, [], ◌∷◌, length, refl, ap, ◌∙◌, arith}
use Rattle.std.specs.Prelude.{◌&&◌, ◌||◌, if◌then◌else◌}
use Rattle.js_units.specs.Text.{is_lead, is_trail, alone, well}

lone_by : (b c : Bool) (x y : List ℕ) → b ≡ false → (if b && c then x else y) ≡ y
lone_by false c x y h = refl
lone_by true c x y h = absurd (cc)

-- a unit that is no leading surrogate is alone
pub well_lone : (u : ℕ) (rest : List ℕ) → is_lead u ≡ false → well (u ∷ rest) ≡ alone u ∷ well rest
well_lone u [] h = refl
well_lone u (v ∷ us) h = lone_by (is_lead u) (is_trail v) (u ∷ v ∷ well us) (alone u ∷ well (v ∷ us)) h

pair_by : (b c : Bool) (x y : List ℕ) → b ≡ true → c ≡ true → (if b && c then x else y) ≡ x
pair_by true true x y h k = refl
pair_by true false x y h k = absurd (cc)
pair_by false c x y h k = absurd (cc)

pub well_pair : (v u : ℕ) (rest : List ℕ) → is_lead v ≡ true → is_trail u ≡ true → well (v ∷ u ∷ rest) ≡ v ∷ u ∷ well rest
well_pair v u rest h k = pair_by (is_lead v) (is_trail u) (v ∷ u ∷ well rest) (alone v ∷ well (u ∷ rest)) h k

apart_by : (b c : Bool) (x y : List ℕ) → c ≡ false → (if b && c then x else y) ≡ y
apart_by b true x y k = absurd (cc)
apart_by true false x y k = refl
apart_by false false x y k = refl

surrogate_by : (b c : Bool) (x : ℕ) → b ≡ true → (if b || c then 0xFFFD else x) ≡ 0xFFFD
surrogate_by true c x h = refl
surrogate_by false c x h = absurd (cc)

pub alone_lead : (v : ℕ) → is_lead v ≡ true → alone v ≡ 0xFFFD
alone_lead v h = surrogate_by (is_lead v) (is_trail v) v h

-- a leading surrogate without its trailing one
pub well_apart : (v u : ℕ) (rest : List ℕ) → is_lead v ≡ true → is_trail u ≡ false → well (v ∷ u ∷ rest) ≡ 0xFFFD ∷ well (u ∷ rest)
well_apart v u rest h k = apart_by (is_lead v) (is_trail u) (v ∷ u ∷ well rest) (alone v ∷ well (u ∷ rest)) k ∙ ap (λ x. x ∷ well (u ∷ rest)) (alone_lead v h)

length_by : (b : Bool) (x y : List ℕ) (n : ℕ) → length x ≡ n → length y ≡ n → length (if b then x else y) ≡ n
length_by true x y n h k = h
length_by false x y n h k = k

-- it has as many units
pub well_length : (u : List ℕ) → length (well u) ≡ length u
well_length [] = refl
well_length (u ∷ []) = refl
well_length (u ∷ v ∷ us) = length_by (is_lead u && is_trail v) (u ∷ v ∷ well us) (alone u ∷ well (v ∷ us)) (length (u ∷ v ∷ us)) (omega (arith, well_length us)) (omega (arith, well_length (v ∷ us)))
