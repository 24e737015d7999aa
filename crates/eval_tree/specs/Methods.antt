-- The methods: their names, and how many arguments each uses.
use Rattle.std.specs.Prelude.{ℕ, List, [], ◌∷◌, codes, Option, Some, None, if◌then◌else◌}
use Rattle.std.specs.Str.{bytes_eq}
use Rattle.eval_tree.specs.declared.tree.Method.{Method}
use Rattle.eval_tree.specs.declared.tree.Method.TheVariants as method

-- what these letters name in a table, if they are in it
abbrev pub named : {A : Type 0} → List (List ℕ × A) → List ℕ → Option A
named [] letters = None
named (row ∷ rows) letters = if bytes_eq letters row.0 then Some row.1 else named rows letters

-- the methods by their names, those of one kind beside one another: places, searching, cutting, trimming,
-- building, replacing, splitting, testing
abbrev pub method_names : List (List ℕ × Method)
method_names =
    (codes "at", method.At) ∷ (codes "charAt", method.CharAt) ∷ (codes "charCodeAt", method.CharCodeAt) ∷
    (codes "codePointAt", method.CodePointAt) ∷
    (codes "endsWith", method.EndsWith) ∷ (codes "includes", method.Includes) ∷
    (codes "indexOf", method.IndexOf) ∷ (codes "lastIndexOf", method.LastIndexOf) ∷
    (codes "startsWith", method.StartsWith) ∷
    (codes "slice", method.Slice) ∷ (codes "substr", method.Substr) ∷ (codes "substring", method.Substring) ∷
    (codes "trim", method.Trim) ∷ (codes "trimEnd", method.TrimEnd) ∷ (codes "trimStart", method.TrimStart) ∷
    (codes "concat", method.Concat) ∷ (codes "padEnd", method.PadEnd) ∷ (codes "padStart", method.PadStart) ∷
    (codes "repeat", method.Repeat) ∷ (codes "toWellFormed", method.ToWellFormed) ∷
    (codes "replace", method.Replace) ∷ (codes "replaceAll", method.ReplaceAll) ∷
    (codes "split", method.Split) ∷ (codes "join", method.Join) ∷
    (codes "isWellFormed", method.IsWellFormed) ∷ []

-- how many of n arguments a method uses at most
abbrev pub most_taken : Method → ℕ → ℕ
most_taken method.Concat n = n
most_taken method.Trim n = 0
most_taken method.TrimEnd n = 0
most_taken method.TrimStart n = 0
most_taken method.ToWellFormed n = 0
most_taken method.IsWellFormed n = 0
most_taken method.At n = 1
most_taken method.CharAt n = 1
most_taken method.CharCodeAt n = 1
most_taken method.CodePointAt n = 1
most_taken method.Repeat n = 1
most_taken method.Join n = 1
most_taken _ n = 2
