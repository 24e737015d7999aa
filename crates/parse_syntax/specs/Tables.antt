-- What the numbers of tokens denote.
use Rattle.std.specs.Prelude.{ℕ, List}
use Rattle.parse_syntax.specs.declared.token.Tables.{Tables as Kept}

-- by their numbers, the letters of identifiers, and the units of the strings that are keys of members
pub record TokenTables : Type 0 where
  pub names : List (List ℕ)
  pub keys : List (List ℕ)

abbrev pub tables_of : Kept → TokenTables
tables_of t = record { names = t.names.items; keys = t.keys.items }
