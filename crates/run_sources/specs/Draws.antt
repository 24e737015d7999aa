-- Numbers that are drawn one after the other. A state is a number below 2^32; each draw goes to the next
-- state, whose upper half gives the number.
use Rattle.std.specs.Prelude.{◌+◌, ◌*◌, ◌/◌, ◌%◌, ◌^◌, ℕ, zero, suc, List, [], ◌∷◌, ◌++◌}

-- the state after this one
unfoldable pub next : ℕ → ℕ
next x = (x * 1664525 + 1013904223) % 2 ^ 32

-- the number below `most` that is drawn next
unfoldable pub draw : ℕ → ℕ → ℕ
draw x most = next x / 65536 % most

-- the state after so many draws
unfoldable pub state_after : ℕ → ℕ → ℕ
state_after zero x = x
state_after (suc k) x = next (state_after k x)

-- the lists f 0, f 1 and so on, so many of them, put together
unfoldable pub joined_up_to : {T : Type 0} → (ℕ → List T) → ℕ → List T
joined_up_to f zero = []
joined_up_to f (suc k) = joined_up_to f k ++ f k

-- the list of f 0, f 1 and so on
abbrev pub list_up_to : {T : Type 0} → (ℕ → T) → ℕ → List T
list_up_to f k = joined_up_to (λ i. f i ∷ []) k
