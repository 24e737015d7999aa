-- The functions of expressions without a loop, over plain values.
use Rattle.std.proofs.Common.{◌≡◌, ℕ, ◌-◌, ◌<◌, List, Bool, false, Some, refl, sym, ap, ◌∙◌}
use Rattle.parse_syntax.specs.Reader.{Got, one_of, heads}
use Rattle.parse_syntax.specs.declared.token.GrammarToken.{GrammarToken}
use Rattle.parse_syntax.specs.Tables.{TokenTables}
use Rattle.eval_tree.specs.declared.tree.Method.{Method}
use Rattle.eval_tree.specs.Tree as tree
use Rattle.eval_tree.specs.Tree.{ExprTree, StepTree}
use Rattle.parse_syntax.specs.Terminals.{member_word, property_word, method}
use Rattle.parse_syntax.specs.Grammar.{method_step}
use Rattle.parse_syntax.specs.Reading.{index_read, unary_of}
use Rattle.parse_statements.specs.declared.fault.Fault.{Fault}
use Rattle.parse_statements.specs.Gives.{FailsWith}
use Rattle.parse_statements.specs.At.{args_at, member_at, step_at, unary_at, branches_at, expression_at}
use Rattle.parse_statements.proofs.Rooms.{member_call, step_index, unary_signed, branches_some}
use Rattle.parse_statements.proofs.Turns.{handed_on}
use Rattle.parse_syntax.specs.MarksAndWords.{opening, open_bracket, close_bracket, sign, question, colon}

module _ (tables : TokenTables) (n : ℕ) (s : List GrammarToken) where
  module _ (m : (ℕ × Method) × List ℕ) (r : List GrammarToken) (h : heads member_word s ≡ false) (p : heads
      (property_word tables) s ≡ false) (o : one_of (method tables) s ≡ Got m r) (y : Unit {0}) (r0 : List GrammarToken) (a : one_of opening r
      ≡ Got y r0) (z : 0 < n) where
    pub member_fails : (e : Fault) → FailsWith e (args_at tables n r) → FailsWith e (member_at tables n s)
    member_fails e f = handed_on e (args_at tables n r) (member_at tables n s) (λ k r' bad. member_call tables n s m r h p o y r0 a z ∙ rw bad refl) f

    pub member_done : (ts : List ExprTree) (r' : List GrammarToken) (t : StepTree) → args_at tables n r ≡ Got ts r' → t ≡ method_step m (Some ts) → member_at tables n s ≡ Got t r'
    member_done ts r' t g e = member_call tables n s m r h p o y r0 a z ∙ rw g (ap (λ t. Got t r') (sym e))

  module _ (at : ℕ) (r : List GrammarToken) (o : one_of open_bracket s ≡ Got at r) (z : 0 < n) where
    pub inside_fails : (e : Fault) → FailsWith e (expression_at tables (n - 1) r) → FailsWith e (step_at tables n s)
    inside_fails e f = handed_on e (expression_at tables (n - 1) r) (step_at tables n s) (λ k r' bad. step_index tables n s at r o z ∙ rw bad refl) f

    module _ (x : ExprTree) (r1 : List GrammarToken) (g : expression_at tables (n - 1) r ≡ Got x r1) where
      pub bracket_fails : (e : Fault) → FailsWith e (one_of close_bracket r1) → FailsWith e (step_at tables n s)
      bracket_fails e f = handed_on e (one_of close_bracket r1) (step_at tables n s) (λ k r' bad. step_index tables n s at r o z ∙ rw (g, bad) refl) f

      pub step_done : (u : Unit {0}) (r2 : List GrammarToken) (t : StepTree) → one_of close_bracket r1 ≡ Got u r2 → t ≡ index_read at x → step_at tables n s ≡ Got t r2
      step_done u r2 t b e = step_index tables n s at r o z ∙ rw (g, b) (ap (λ t. Got t r2) (sym e))

  module _ (o : ℕ × Bool) (r : List GrammarToken) (h : one_of sign s ≡ Got o r) (z : 0 < n) where
    pub unary_fails : (e : Fault) → FailsWith e (unary_at tables (n - 1) r) → FailsWith e (unary_at tables n s)
    unary_fails e f = handed_on e (unary_at tables (n - 1) r) (unary_at tables n s) (λ k r' bad. unary_signed tables n s o r h z ∙ rw bad refl) f

    pub unary_done : (x t : ExprTree) (r' : List GrammarToken) → unary_at tables (n - 1) r ≡ Got x r' → t ≡ unary_of o x → unary_at tables n s ≡ Got t r'
    unary_done x t r' g e = unary_signed tables n s o r h z ∙ rw g (ap (λ t. Got t r') (sym e))

  module _ (t : ExprTree) (r : List GrammarToken) (h : one_of question s ≡ Got tt r) (z : 0 < n) where
    pub yes_fails : (e : Fault) → FailsWith e (expression_at tables (n - 1) r) → FailsWith e (branches_at tables n t s)
    yes_fails e f = handed_on e (expression_at tables (n - 1) r) (branches_at tables n t s) (λ k r' bad. branches_some tables n t s r h z ∙ rw bad refl) f

    module _ (x : ExprTree) (r1 : List GrammarToken) (g : expression_at tables (n - 1) r ≡ Got x r1) where
      pub colon_fails : (e : Fault) → FailsWith e (one_of colon r1) → FailsWith e (branches_at tables n t s)
      colon_fails e f = handed_on e (one_of colon r1) (branches_at tables n t s) (λ k r' bad. branches_some tables n t s r h z ∙ rw (g, bad) refl) f

      module _ (u : Unit {0}) (r2 : List GrammarToken) (c : one_of colon r1 ≡ Got u r2) where
        pub no_fails : (e : Fault) → FailsWith e (expression_at tables (n - 1) r2) → FailsWith e (branches_at tables n t s)
        no_fails e f = handed_on e (expression_at tables (n - 1) r2) (branches_at tables n t s) (λ k r' bad. branches_some tables n t s r h z ∙ rw (g, c, bad) refl) f

        pub branches_done : (y w : ExprTree) (r3 : List GrammarToken) → expression_at tables (n - 1) r2 ≡ Got y r3 → w ≡ tree.conditional t x y → branches_at tables n t s ≡ Got w r3
        branches_done y w r3 g2 e = branches_some tables n t s r h z ∙ rw (g, c, g2) (ap (λ t. Got t r3) (sym e))
