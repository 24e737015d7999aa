-- Strings with matches replaced (ECMA-262, "String.prototype.replace", "String.prototype.replaceAll").
use Rattle.std.specs.Prelude.{ℕ, ◌+◌, List, [], ◌∷◌, ◌++◌, length, drop, slice_range}
use Rattle.js_replace.specs.Matches.{first_matches, matches}
use Rattle.js_replace.specs.Substitution.{substituted}

-- u from `from` on, where the template t replaces w at each of the places
abbrev pub replaced_at : List ℕ → List ℕ → List ℕ → ℕ → List ℕ → List ℕ
replaced_at u w t from [] = drop from u
replaced_at u w t from (k ∷ ks) =
    slice_range u from k ++ substituted t u k w ++ replaced_at u w t (k + length w) ks

-- "String.prototype.replace": the first match replaced, if there is one
abbrev pub replaced_first : List ℕ → List ℕ → List ℕ → List ℕ
replaced_first u w t = replaced_at u w t 0 (first_matches 1 u w 0)

-- "String.prototype.replaceAll": each match replaced
abbrev pub replaced_all : List ℕ → List ℕ → List ℕ → List ℕ
replaced_all u w t = replaced_at u w t 0 (matches u w)
