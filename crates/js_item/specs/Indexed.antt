-- When an index leads to each member of an object.
use Rattle.std.specs.Prelude.{◌≡◌, ℕ, ◌+◌, List, Option, Some, None, cond, nat_eq}
use Rattle.std.specs.Map.{lookup}
use Rattle.js_item.specs.Contents.{Fields, no_fields, field}

-- there is an index, and it has no entry for the number
abbrev pub Lacks : Option (List (ℕ × ℕ)) → ℕ → Type 0
Lacks None n = ⊥
Lacks (Some es) n = lookup (nat_eq n) es ≡ None

-- if there is an index, the number has this place in it from now on
abbrev pub IsNoted : Option (List (ℕ × ℕ)) → Option (List (ℕ × ℕ)) → ℕ → ℕ → Type 0
IsNoted None new n place = new ≡ None
IsNoted (Some es) None n place = ⊥
IsNoted (Some es) (Some fs) n place =
    (q : ℕ) → lookup (nat_eq q) fs ≡ cond (nat_eq n q) (Some place) (lookup (nat_eq q) es)

-- the entries have for each key's number the place of its member, where the first one has the place i
abbrev pub HasPlacesFrom : {R : Type 0} → List (ℕ × ℕ) → (R → ℕ) → ℕ → Fields R → Type 0
HasPlacesFrom es name i no_fields = Unit {0}
HasPlacesFrom es name i (field key value rest) =
    (lookup (nat_eq (name key)) es ≡ Some i) × HasPlacesFrom es name (i + 1) rest

-- if there is an index, it leads to each member
abbrev pub IsIndexed : {R : Type 0} → (R → ℕ) → Option (List (ℕ × ℕ)) → Fields R → Type 0
IsIndexed name None fs = Unit {0}
IsIndexed name (Some es) fs = HasPlacesFrom es name 0 fs
