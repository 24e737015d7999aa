-- Helpers: no public contract reaches these definitions.
-- All faults of names in source order, as they are read.
use Rattle.std.specs.Prelude.{ℕ, List, [], ◌∷◌, ◌++◌, Bool, true, false, Option, Some, None, if◌then◌else◌}
use Rattle.std.specs.Prelude.{nat_lt, ◌||◌}
use Rattle.std.specs.List.{list_any}
use Rattle.std.specs.Str.{bytes_eq}
use Rattle.eval_tree.specs.Tree as tree
use Rattle.eval_tree.specs.Tree.{Tree, StmtTree, BlockTree, block_of, Stmts, Arms}
use Rattle.parse_syntax.specs.declared.token.GrammarToken.{GrammarToken}
use Rattle.parse_syntax.specs.Tables.{TokenTables}
use Rattle.js_parse.specs.Names.{NameFault, Duplicate, LoopName, ProtoKey}
use Rattle.js_parse.specs.ProtoKeys.{is_proto}
use Rattle.js_parse.specs.FirstFault.{fault_rank}
use Rattle.js_lex.specs.declared.token.Mark.TheVariants.{Colon, Comma, OpenBrace}
use Rattle.parse_syntax.specs.Terminals.{is_mark}

-- { or a comma, behind which there is a key where a colon follows it
abbrev pub opens_entry : GrammarToken → Bool
opens_entry t = is_mark OpenBrace t || is_mark Comma t

-- a set of names, as the test for its members
abbrev pub NameTest : Type 0
NameTest = List ℕ → Bool

abbrev pub nobody : NameTest
nobody = λ q. false

abbrev pub is_in : List (List ℕ) → NameTest
is_in names = λ q. list_any (bytes_eq q) names

-- with another answer for one name
abbrev pub marked : Bool → List ℕ → NameTest → NameTest
marked b x test = λ q. if bytes_eq q x then b else test q

-- with another answer for each of these names
abbrev pub all_marked : Bool → List (List ℕ) → NameTest → NameTest
all_marked b names test = λ q. if list_any (bytes_eq q) names then b else test q

abbrev pub assigned_at : Bool → ℕ → List NameFault
assigned_at true at = LoopName at ∷ []
assigned_at false at = []

abbrev pub again_at : Bool → ℕ → List NameFault
again_at true at = Duplicate at ∷ []
again_at false at = []

-- a statement that declares a name again, behind others that declared these before
abbrev pub declared_again : StmtTree → NameTest → List NameFault
declared_again (tree.let_line at x init) before = again_at (before x) at
declared_again (tree.const_line at x init) before = again_at (before x) at
declared_again _ before = []

-- what is declared behind a statement
abbrev pub with_own : StmtTree → NameTest → NameTest
with_own (tree.let_line at x init) before = marked true x before
with_own (tree.const_line at x init) before = marked true x before
with_own _ before = before

-- within scopes of which these names mean those of a `for`
abbrev mutual
  pub faults_in : StmtTree → NameTest → List NameFault
  faults_in (tree.block b) loops = faults_inside b loops
  faults_in (tree.let_line at x init) loops = []
  faults_in (tree.const_line at x init) loops = []
  faults_in (tree.assign at x e) loops = assigned_at (loops x) at
  faults_in (tree.append at name_at x e) loops = assigned_at (loops x) name_at
  faults_in (tree.print args) loops = []
  faults_in (tree.if_line arms rest) loops = faults_in_arms arms loops ++ faults_inside rest loops
  faults_in (tree.for_line x bound body) loops = faults_inside body (marked true x loops)

  pub faults_inside : BlockTree → NameTest → List NameFault
  faults_inside (block_of names body) loops = faults_among body (all_marked false names loops) nobody

  pub faults_in_arms : Arms → NameTest → List NameFault
  faults_in_arms tree.no_arms loops = []
  faults_in_arms (tree.arm test body rest) loops = faults_inside body loops ++ faults_in_arms rest loops

  pub faults_among : Stmts → NameTest → NameTest → List NameFault
  faults_among tree.no_stmts loops before = []
  faults_among (tree.stmt s rest) loops before =
      declared_again s before ++ (faults_in s loops ++ faults_among rest loops (with_own s before))

-- those of a script after a prelude that declares the outer names
abbrev pub faults_of : List (List ℕ) → Tree → List NameFault
faults_of outer t = faults_among t.body (all_marked false t.top nobody) (is_in outer)

-- a key that is __proto__
abbrev pub proto_fault : TokenTables → GrammarToken → List NameFault
proto_fault tables k = if is_proto tables k then ProtoKey k.at ∷ [] else []

-- that of the first token, where a colon follows it
abbrev pub key_first : TokenTables → List GrammarToken → List NameFault
key_first tables (k ∷ c ∷ ts) = if is_mark Colon c then proto_fault tables k else []
key_first tables _ = []

-- that behind a token
abbrev pub proto_behind : TokenTables → GrammarToken → List GrammarToken → List NameFault
proto_behind tables b ts = if opens_entry b then key_first tables ts else []

abbrev pub proto_faults : TokenTables → List GrammarToken → List NameFault
proto_faults tables [] = []
proto_faults tables (b ∷ ts) = proto_behind tables b ts ++ proto_faults tables ts

abbrev pub earlier : NameFault → NameFault → NameFault
earlier f g = if nat_lt (fault_rank g) (fault_rank f) then g else f

-- the first of a fault and further ones
abbrev pub least : NameFault → List NameFault → NameFault
least f [] = f
least f (g ∷ gs) = least (earlier f g) gs

-- the first of what was found and one more
abbrev pub offer : Option NameFault → NameFault → Option NameFault
offer None g = Some g
offer (Some f) g = Some (earlier f g)

-- and of further ones
abbrev pub offers : Option NameFault → List NameFault → Option NameFault
offers found [] = found
offers found (g ∷ gs) = offers (offer found g) gs
