-- The scope: a list of blocks, the innermost first, over the top (ECMA-262, "Declarative Environment
-- Records"). V is the type of the values.
use Rattle.std.specs.Prelude.{ℕ, Bool, true, false, List, [], ◌∷◌, ◌++◌, Option, None, is_some}
use Rattle.std.specs.Prelude.{bytes_eq, find, if◌then◌else◌, drop}
use Rattle.std.specs.Option.{option_or}

-- a name that was declared and evaluated, whether by `const`, and its value
pub record Bound (V : Type 0) : Type 0 where
  pub name : List ℕ
  pub constant : Bool
  pub value : V

-- a block that was entered: the names that it declares, and those that were evaluated. A name that was not
-- evaluated yet hides one further out.
pub record BlockFrame (V : Type 0) : Type 0 where
  pub names : List (List ℕ)
  pub bound : List (Bound V)

-- at the top a name that was not evaluated is as one that nothing declares, so its names aren't kept
pub record Bindings (V : Type 0) : Type 0 where
  pub blocks : List (BlockFrame V)
  pub top : List (Bound V)

-- the first binding with this name, if there is one
abbrev pub bound_in : {V : Type 0} → List (Bound V) → List ℕ → Option (Bound V)
bound_in bs x = find (λ b. bytes_eq b.name x) bs

-- the name is one of these
abbrev pub is_among : List (List ℕ) → List ℕ → Bool
is_among [] x = false
is_among (n ∷ ns) x = if bytes_eq n x then true else is_among ns x

-- the innermost block that declares a name has its value, if it was evaluated
abbrev pub look : {V : Type 0} → List (BlockFrame V) → List (Bound V) → List ℕ → Option (Bound V)
look [] top x = bound_in top x
look (f ∷ fs) top x = option_or (bound_in f.bound x) (if is_among f.names x then None else look fs top x)

-- what a name means ("ResolveBinding"); None where reading it is a ReferenceError
abbrev pub meant : {V : Type 0} → Bindings V → List ℕ → Option (Bound V)
meant bs x = look bs.blocks bs.top x

-- another value for the first binding with this name
abbrev pub changed : {V : Type 0} → List (Bound V) → List ℕ → V → List (Bound V)
changed [] x v = []
changed (b ∷ bs) x v = if bytes_eq b.name x then record b { value = v } ∷ bs else b ∷ changed bs x v

-- a block before the others, as the innermost
abbrev pub inside : {V : Type 0} → BlockFrame V → Bindings V → Bindings V
inside f bs = record { blocks = f ∷ bs.blocks; top = bs.top }

-- another value where the name is first bound, from the innermost block to the top; no change where it isn't
-- bound
abbrev pub write : {V : Type 0} → List (BlockFrame V) → List (Bound V) → List ℕ → V → Bindings V
write [] top x v = record { blocks = []; top = changed top x v }
write (f ∷ fs) top x v = if is_some (bound_in f.bound x)
    then record { blocks = record f { bound = changed f.bound x v } ∷ fs; top = top }
    else inside f (write fs top x v)

-- "SetMutableBinding" of a name that has a value
abbrev pub written : {V : Type 0} → Bindings V → List ℕ → V → Bindings V
written bs x v = write bs.blocks bs.top x v

-- one more binding, behind the others of the innermost block, or of the top where no block is entered
abbrev pub declare : {V : Type 0} → List (BlockFrame V) → List (Bound V) → Bound V → Bindings V
declare [] top b = record { blocks = []; top = top ++ b ∷ [] }
declare (f ∷ fs) top b = record { blocks = record f { bound = f.bound ++ b ∷ [] } ∷ fs; top = top }

-- a declaration of the innermost block, or of the top, is evaluated ("InitializeBinding")
abbrev pub declared : {V : Type 0} → Bindings V → Bound V → Bindings V
declared bs b = declare bs.blocks bs.top b

-- a block is entered with these names, none of them evaluated ("BlockDeclarationInstantiation")
abbrev pub entered : {V : Type 0} → List (List ℕ) → Bindings V → Bindings V
entered names bs = inside (record { names = names; bound = [] }) bs

-- a turn of a `for` is entered, with its name bound ("CreatePerIterationEnvironment")
abbrev pub turned : {V : Type 0} → List ℕ → V → Bindings V → Bindings V
turned x v bs =
    inside (record { names = []; bound = record { name = x; constant = false; value = v } ∷ [] }) bs

-- the innermost block is left
abbrev pub outer : {V : Type 0} → Bindings V → Bindings V
outer bs = record bs { blocks = drop 1 bs.blocks }
