-- What the parser answers, by the grammar.
use Rattle.std.proofs.Common.{◌≡◌, ℕ, List, [], Bool, sym, ◌∙◌}
use Rattle.std.specs.Prelude.{Result, Ok, Err, IfOk}
use Rattle.parse_syntax.specs.Reader.{Got, Bad, Wrong, TooDeep, read_whole}
use Rattle.parse_syntax.specs.Refused.{IsRefused}
use Rattle.parse_syntax.specs.declared.token.GrammarToken.{GrammarToken}
use Rattle.parse_syntax.specs.Tables.{TokenTables}
use Rattle.eval_tree.specs.Tree.{StmtTree}
use Rattle.parse_syntax.specs.Grammar.{Statements}
use Rattle.parse_syntax.specs.Reading.{read_statements}
use Rattle.parse_syntax.proofs.Scripts.{reads_all, all_read, refuses}
use Rattle.parse_statements.specs.declared.fault.Fault.{Fault}
use Rattle.parse_statements.specs.declared.fault.Fault.TheVariants as fault
use Rattle.parse_statements.specs.Gives.{GivesAnswer, OnFault, IsFoundOrMemory}

module _ {X : Type 0} (view : X → List StmtTree) (tables : TokenTables) (prints : Bool) (n : ℕ) (ts : List GrammarToken) where
  pub is_spelled : (r : Result X Fault) → GivesAnswer view (λ _. []) r (read_whole (read_statements tables prints n) ts) → IfOk r (λ e. Statements tables prints n ts (view e))
  is_spelled (Ok e) h = all_read tables prints n ts (view e) [] h
  is_spelled (Err e) h = tt

  pub is_found : (r : Result X Fault) → GivesAnswer view (λ _. []) r (read_whole (read_statements tables prints n) ts) → (x : List StmtTree)
      → Statements tables prints n ts x → IsFoundOrMemory view r x
  is_found (Ok e) h x s = let z : Got (view e) [] ≡ Got x [] = sym h ∙ reads_all tables prints n ts x s in cc
  is_found (Err fault.Memory) h x s = tt
  is_found (Err (fault.Wrong rest)) h x s = let z : Bad Wrong rest.now ≡ Got x [] = sym h ∙ reads_all tables prints n ts x s in cc
  is_found (Err (fault.TooDeep rest)) h x s = let z : Bad TooDeep rest.now ≡ Got x [] = sym h ∙ reads_all tables prints n ts x s in cc

  pub is_refused : (r : Result X Fault) → GivesAnswer view (λ _. []) r (read_whole (read_statements tables prints n) ts) → OnFault r (IsRefused (Statements tables prints) n ts)
  is_refused (Ok e) h = tt
  is_refused (Err fault.Memory) h = tt
  is_refused (Err (fault.Wrong rest)) h = refuses tables prints n ts Wrong rest.now h
  is_refused (Err (fault.TooDeep rest)) h = refuses tables prints n ts TooDeep rest.now h
