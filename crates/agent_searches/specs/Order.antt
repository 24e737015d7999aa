-- What the order of two strings means.
use Rattle.std.specs.Prelude.{◌≡◌, ℕ, List}
use Rattle.std.specs.declared.cmp.Ordering.{Ordering}
use Rattle.std.specs.declared.cmp.Ordering.TheVariants.{Less, Equal, Greater}
use Rattle.js_search.specs.Order.{Precedes}

-- the units us come before vs, are the same, or come after them
abbrev pub IsOrder : List ℕ → List ℕ → Ordering → Type 0
IsOrder us vs Less = Precedes us vs
IsOrder us vs Equal = us ≡ vs
IsOrder us vs Greater = Precedes vs us
