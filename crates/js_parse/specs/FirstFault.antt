-- The first fault of the names and keys of a script.
use Rattle.std.specs.Prelude.{ℕ, ◌+◌, ◌*◌, ◌≤◌, List, [], ◌∷◌, Option, Some, None}
use Rattle.eval_tree.specs.Tree.{Tree}
use Rattle.parse_syntax.specs.declared.token.GrammarToken.{GrammarToken}
use Rattle.parse_syntax.specs.Tables.{TokenTables}
use Rattle.js_parse.specs.Names.{NameFault, Duplicate, LoopName, ProtoKey, Declaring, FaultAmong}
use Rattle.js_parse.specs.ProtoKeys.{HasProtoKey}
use Rattle.js_parse.specs.declared.name_fault.NameFault.{NameFault as Told}
use Rattle.js_parse.specs.declared.name_fault.NameFault.TheVariants as told

-- faults by their offset; no text has two of them at one, so the rest of the order is nowhere seen
abbrev pub fault_rank : NameFault → ℕ
fault_rank (Duplicate at) = 3 * at
fault_rank (LoopName at) = 3 * at + 1
fault_rank (ProtoKey at) = 3 * at + 2

-- after a prelude that declares the outer names, the script with these tokens and this tree has the fault
pub data HasNameFault (outer : List (List ℕ)) (tables : TokenTables) (tokens : List GrammarToken)
    (t : Tree) : NameFault → Type 0 where
  of_name : (f : NameFault) → FaultAmong (Declaring t.top ∷ []) outer t.body f
      → HasNameFault outer tables tokens t f
  of_key : (at : ℕ) → HasProtoKey tables tokens at → HasNameFault outer tables tokens t (ProtoKey at)

-- it has this fault, and none before it
pub record IsFirstFault (outer : List (List ℕ)) (tables : TokenTables) (tokens : List GrammarToken) (t : Tree)
    (f : NameFault) : Type 0 where
  pub has : HasNameFault outer tables tokens t f
  pub first : (g : NameFault) → HasNameFault outer tables tokens t g → fault_rank f ≤ fault_rank g

abbrev pub fault_of : Told → NameFault
fault_of (told.Duplicate at) = Duplicate at
fault_of (told.LoopName at) = LoopName at
fault_of (told.ProtoKey at) = ProtoKey at

-- this is the first fault of the script's names and keys, or there is none
abbrev pub TellsFirst : List (List ℕ) → TokenTables → List GrammarToken → Tree → Option Told → Type 0
TellsFirst outer tables tokens t None = (f : NameFault) → HasNameFault outer tables tokens t f → ⊥
TellsFirst outer tables tokens t (Some f) = IsFirstFault outer tables tokens t (fault_of f)
