-- Finite maps from ids, words and slots: what a key has, a run of keys, and one map laid over another.
use Rattle.std.specs.Prelude.{◌≡◌, ℕ, zero, suc, IsTrue, List, [], ◌∷◌, Option, Some, None}
use Rattle.std.specs.Ordering.{nat_cmp}
use Rattle.std.specs.FinMap.{FinMap, get, contains_key, insert, remove, keys}

module _ {X : Type 0} where
  -- the map has the value x at the key k
  abbrev pub Has : FinMap nat_cmp X → ℕ → X → Type 0
  Has m k x = get m k ≡ Some x

  -- the map has a value at the key k
  abbrev pub HasKey : FinMap nat_cmp X → ℕ → Type 0
  HasKey m k = IsTrue (contains_key m k)

  -- the map m with x at each of the n keys from k on
  abbrev pub with_run : FinMap nat_cmp X → ℕ → ℕ → X → FinMap nat_cmp X
  with_run m k zero x = m
  with_run m k (suc n) x = with_run (insert m k x) (suc k) n x

  -- the map m without the n keys from k on
  abbrev pub without_run : FinMap nat_cmp X → ℕ → ℕ → FinMap nat_cmp X
  without_run m k zero = m
  without_run m k (suc n) = without_run (remove m k) (suc k) n

  -- the map m with a value at the key k, if there is one
  abbrev pub put_some : FinMap nat_cmp X → ℕ → Option X → FinMap nat_cmp X
  put_some m k None = m
  put_some m k (Some x) = insert m k x

  -- the map m with what another map has at the n keys from k on
  abbrev pub with_run_of : FinMap nat_cmp X → FinMap nat_cmp X → ℕ → ℕ → FinMap nat_cmp X
  with_run_of other m k zero = m
  with_run_of other m k (suc n) = with_run_of other (put_some m k (get other k)) (suc k) n

-- one map laid over another: what is at a key is f of what the lower one has there and what the upper one
-- has
module _ {X : Type 0} (f : Option X → X → X) where
  -- the map m with f of what it has at the key k and an upper value, if there is one
  abbrev pub put_if_some : FinMap nat_cmp X → ℕ → Option X → FinMap nat_cmp X
  put_if_some m k None = m
  put_if_some m k (Some x) = insert m k (f (get m k) x)

  -- the lower map m with the upper one laid over it at these keys
  abbrev pub laid_at : FinMap nat_cmp X → FinMap nat_cmp X → List ℕ → FinMap nat_cmp X
  laid_at m upper [] = m
  laid_at m upper (k ∷ ks) = laid_at (put_if_some m k (get upper k)) upper ks

  -- the lower map m with the upper one laid over it at all keys of the upper one
  abbrev pub laid_over : FinMap nat_cmp X → FinMap nat_cmp X → FinMap nat_cmp X
  laid_over m upper = laid_at m upper (keys upper)

-- of two values the upper one
abbrev pub upper_one : {X : Type 0} → Option X → X → X
upper_one lower x = x

-- the first value that one of two, or one of a list, gives
abbrev pub first_some : {X : Type 0} → Option X → Option X → Option X
first_some (Some x) other = Some x
first_some None other = other

-- the first value that f gives on the elements of a list
abbrev pub first_in : {A X : Type 0} → (A → Option X) → List A → Option X
first_in f [] = None
first_in f (a ∷ as') = first_some (f a) (first_in f as')
