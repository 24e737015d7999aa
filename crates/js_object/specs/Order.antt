-- The order of an object's keys (ECMA-262, "OrdinaryOwnPropertyKeys"): first those that are array indexes,
-- ascending, and then the others in the order in which they come. Elements are known by their indexes:
-- `index x` is the array index that the key of x is.
use Rattle.std.specs.Prelude.{◌≡◌, ◌↔◌, ℕ, ◌+◌, ◌≤◌, List, [], ◌∷◌, ◌++◌, Option, Some, IsSome, Contains}
use Rattle.std.specs.Prelude.{filter}
use Rattle.std.specs.Option.{is_none}

-- each element has an index, which is `least` or more, and more than that of the element before it
abbrev pub AscendsFrom : {X : Type 0} → (X → Option ℕ) → ℕ → List X → Type 0
AscendsFrom index least [] = Unit {0}
AscendsFrom index least (x ∷ xs) = (n : ℕ) × (index x ≡ Some n) × (least ≤ n) × AscendsFrom index (n + 1) xs

-- ys are the elements of xs in this order. Since indexes ascend, none comes twice among the first ones
pub record IsInOrder {X : Type 0} (index : X → Option ℕ) (xs ys : List X) : Type 0 where
  pub first : List X
  pub ascends : AscendsFrom index 0 first
  pub indexed : (x : X) → Contains first x ↔ (Contains xs x × IsSome (index x))
  pub split : ys ≡ first ++ filter (λ x. is_none (index x)) xs

-- ys are the one list of these elements in this order
pub record IsTheOrder {X : Type 0} (index : X → Option ℕ) (xs ys : List X) : Type 0 where
  pub in_order : IsInOrder index xs ys
  pub alone : (zs : List X) → IsInOrder index xs zs → zs ≡ ys
