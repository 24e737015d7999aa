-- Helpers: no public contract reaches these definitions.
-- How faults of tokens and of the grammar are reported.
use Rattle.std.specs.Prelude.{◌≡◌, ◌⊎◌, ℕ, ◌-◌, List, length, take, Option, None}
use Rattle.js_lex.specs.declared.token.LexFault.{LexFault}
use Rattle.js_lex.specs.declared.token.LexFault.TheVariants as lexical
use Rattle.parse_syntax.specs.Reader.{Wrong, TooDeep}
use Rattle.parse_statements.specs.declared.fault.Fault.{Fault}
use Rattle.parse_statements.specs.declared.fault.Fault.TheVariants as grammatical
use Rattle.js_parse.specs.declared.fault.Role.{Role}
use Rattle.js_parse.specs.declared.fault.ParseFault.{ParseFault}
use Rattle.js_parse.specs.declared.fault.ParseFault.TheVariants as fault
use Rattle.parse_syntax.specs.declared.token.GrammarToken.{GrammarToken}
use Rattle.eval_tree.specs.Tree.{Tree}
use Rattle.js_parse.specs.Names.{NameFault}
use Rattle.js_parse.specs.NameFaults.{offers, proto_faults}
use Rattle.js_parse.specs.Spells.{Parses, Refused, misplaced}

-- the tokens before the rest
abbrev pub front_of : List GrammarToken → List GrammarToken → List GrammarToken
front_of tokens rest = take (length tokens - length rest) tokens

abbrev pub lex_fault : LexFault → ParseFault
lex_fault lexical.Memory = fault.Memory
lex_fault f = fault.Lex f

abbrev pub grammar_fault : Fault → List GrammarToken → ℕ → ParseFault
grammar_fault grammatical.Memory tokens end = fault.Memory
grammar_fault (grammatical.Wrong rest) tokens end = misplaced Wrong (front_of tokens rest.now) rest.now end
grammar_fault (grammatical.TooDeep rest) tokens end =
    misplaced TooDeep (front_of tokens rest.now) rest.now end

-- the bytes are of the grammar and give this tree, and this is the first key that is __proto__
pub record ParsesWith (role : Role) (bytes : List ℕ) (script : Tree) (found : Option NameFault) : Type 0 where
  pub parses : Parses role bytes script
  pub finds : found ≡ offers None (proto_faults parses.tables parses.tokens)

-- whatever names the prelude declares, the bytes are refused so, unless memory ran out
abbrev pub IsRefusal : Role → List ℕ → ParseFault → Type 0
IsRefusal role bytes f = (f ≡ fault.Memory) ⊎ ((outer : List (List ℕ)) → Refused role outer bytes f)

-- the same after a prelude that declares these names
abbrev pub IsTold : Role → List (List ℕ) → List ℕ → ParseFault → Type 0
IsTold role outer bytes f = (f ≡ fault.Memory) ⊎ Refused role outer bytes f
