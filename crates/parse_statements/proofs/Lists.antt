-- The loops of statements, over plain values.
use Rattle.std.proofs.Common.{◌≡◌, ℕ, zero, suc, ◌<◌, List, [], ◌∷◌, ◌++◌, length, map, Bool, true, false, refl, sym, ap, ◌∙◌, subst, arith}
use Rattle.std.proofs.lemmas.List.{map_push}
use Rattle.parse_syntax.specs.Lang.{One, both, one, ◌▸◌}
use Rattle.parse_syntax.specs.Reader.{Answer, Got, Bad, SyntaxFaultKind, TokenReader, one_of, all_of, and_then, heads_two, with_front, keep_second}
use Rattle.parse_syntax.proofs.Local.{IsEating}
use Rattle.parse_syntax.proofs.Part.{eats_by, next_part}
use Rattle.parse_syntax.proofs.Heads.{begins_length, over}
use Rattle.parse_syntax.proofs.Loops.{keeps_on, fails_on, ends_on}
use Rattle.parse_syntax.specs.declared.token.GrammarToken.{GrammarToken}
use Rattle.parse_syntax.specs.Tables.{TokenTables}
use Rattle.eval_tree.specs.declared.tree.Stmt.{Stmt}
use Rattle.eval_tree.specs.declared.tree.Arm.{Arm}
use Rattle.eval_tree.specs.declared.tree.Expr.{Expr}
use Rattle.std.specs.Prelude.{Some}
use Rattle.eval_tree.specs.Tree.{StmtTree, BlockTree, ArmTree, expr_tree, init_tree, stmt_tree, arm_tree, if_line, arms}
use Rattle.parse_syntax.specs.Grammar
use Rattle.parse_syntax.specs.Grammar.{Expression, Statement}
use Rattle.parse_syntax.specs.Reading.{goes_on}
use Rattle.parse_syntax.proofs.Statements.{first, arm_part, else_part}
use Rattle.parse_syntax.proofs.Scripts.{same_expressions, same_levels, starts_at}
use Rattle.parse_statements.specs.declared.fault.Fault.{Fault}
use Rattle.parse_statements.specs.Gives.{FailsWith}
use Rattle.parse_statements.specs.At.{expression_at, init_at, statement_at, statements_at, arm_at, others_at, rest_at, if_at}
use Rattle.parse_statements.proofs.Eats.{Any}
use Rattle.parse_statements.proofs.Turns.{handed_on}
use Rattle.parse_statements.proofs.Lines.{statement_is, if_is, init_some}
use Rattle.parse_syntax.specs.MarksAndWords.{else_word, if_word, assign_mark}

module _ (tables : TokenTables) (prints : Bool) where
  pub statement_eats : (n : ℕ) → IsEating (statement_at tables prints n)
  statement_eats n = subst IsEating (statement_is tables prints n) (eats_by (same_levels tables prints Any n).lawful
      (λ ts x h. begins_length (over first 0) ts ((starts_at tables prints n).by ts x h)))

  -- else if ( E ) B
  pub other_eats : (n : ℕ) → 0 < n → IsEating (and_then keep_second (one_of else_word) (arm_at tables prints n))
  unfolding arm_at
  other_eats zero h = absurd (omega arith)
  other_eats (suc n) h = eats_by (next_part keep_second (else_part Any)
      (arm_part Any tables (same_expressions tables Any n).whole (same_levels tables prints Any n) (starts_at tables prints n))).lawful long
    where
      long : (ts : List GrammarToken) (x : ArmTree) → (One else_word ▸ Grammar.if_arm (Expression tables n) (Statement tables prints n)) ts x → 0 < length ts
      long _ _ (both _ d x y (one t x2 e) hd) = omega arith

  -- statements

  pub statements_fail : (n : ℕ) (s rest : List GrammarToken) (xs : List Stmt) → goes_on rest ≡ true → with_front (map stmt_tree xs)
      (statements_at tables prints n rest) ≡ statements_at tables prints n s → (e : Fault) → FailsWith e (statement_at tables prints n rest) →
      FailsWith e (statements_at tables prints n s)
  unfolding statements_at
  statements_fail n s rest xs g inv e h = handed_on e (statement_at tables prints n rest) (statements_at tables prints n s)
      (λ k r bad. fails_on goes_on refl (statement_at tables prints n) (statement_eats n) (map stmt_tree xs) rest k r
      (all_of goes_on (statement_at tables prints n) s) g bad inv) h

  pub statement_smaller : (n : ℕ) (s rest : List GrammarToken) (x : StmtTree) → statement_at tables prints n s ≡ Got x rest → length rest < length s
  statement_smaller n s rest x h = (statement_eats n).less s x rest h

  pub statements_kept : (n : ℕ) (s after rest : List GrammarToken) (xs ys : List Stmt) (x : Stmt) → goes_on rest ≡ true → statement_at
      tables prints n rest ≡ Got (stmt_tree x) after → ys ≡ xs ++ x ∷ [] → with_front (map stmt_tree xs) (statements_at tables prints n rest)
      ≡ statements_at tables prints n s → with_front (map stmt_tree ys) (statements_at tables prints n after) ≡ statements_at tables prints n s
  unfolding statements_at
  statements_kept n s after rest xs ys x g h e inv =
      let front : map stmt_tree ys ≡ map stmt_tree xs ++ stmt_tree x ∷ [] = ap (map stmt_tree) e ∙ map_push stmt_tree xs x in
      subst (λ f. with_front f (all_of goes_on (statement_at tables prints n) after) ≡ all_of goes_on (statement_at tables prints n) s) (sym front)
      (keeps_on goes_on refl (statement_at tables prints n) (statement_eats n) (map stmt_tree xs) rest (stmt_tree x) after (all_of goes_on (statement_at tables prints n) s) g h inv)

  pub statements_done : (n : ℕ) (s rest : List GrammarToken) (xs : List Stmt) → goes_on rest ≡ false → with_front (map stmt_tree xs)
      (statements_at tables prints n rest) ≡ statements_at tables prints n s → statements_at tables prints n s ≡ Got (map stmt_tree xs) rest
  unfolding statements_at
  statements_done n s rest xs g inv = ends_on goes_on refl (statement_at tables prints n) (statement_eats n) (map stmt_tree xs) rest (all_of goes_on (statement_at tables prints n) s) g inv

  -- arms

  abbrev other_at : ℕ → TokenReader GrammarToken ArmTree
  other_at n = and_then keep_second (one_of else_word) (arm_at tables prints n)

  other_got : (n : ℕ) (s after rest : List GrammarToken) (x : ArmTree) → one_of else_word s ≡ Got tt after → arm_at tables prints n after ≡ Got x rest → other_at n s ≡ Got x rest
  other_got n s after rest x e h = rw (e, h) refl

  other_bad : (n : ℕ) (s after rest : List GrammarToken) (k : SyntaxFaultKind) → one_of else_word s ≡ Got tt after → arm_at tables prints n after ≡ Bad k rest → other_at n s ≡ Bad k rest
  other_bad n s after rest k e h = rw (e, h) refl

  pub other_smaller : (n : ℕ) → 0 < n → (s after rest : List GrammarToken) (x : ArmTree) → one_of else_word s ≡ Got tt after → arm_at tables prints n after ≡ Got x rest → length rest < length s
  other_smaller n p s after rest x e h = (other_eats n p).less s x rest (other_got n s after rest x e h)

  pub others_kept : (n : ℕ) → 0 < n → (s after rest : List GrammarToken)
      (xs ys : List Arm) (x : Arm) (all : Answer GrammarToken (List ArmTree)) → heads_two else_word if_word s ≡ true → one_of else_word s ≡
      Got tt after → arm_at tables prints n after ≡ Got (arm_tree x) rest → ys ≡ xs ++ x ∷ [] → with_front (map arm_tree xs)
      (others_at tables prints n s) ≡ all → with_front (map arm_tree ys) (others_at tables prints n rest) ≡ all
  unfolding others_at
  others_kept n p s after rest xs ys x all g e h w inv =
      let front : map arm_tree ys ≡ map arm_tree xs ++ arm_tree x ∷ [] = ap (map arm_tree) w ∙ map_push arm_tree xs x in
      subst (λ f. with_front f (all_of (heads_two else_word if_word) (other_at n) rest) ≡ all) (sym front)
      (keeps_on (heads_two else_word if_word) refl (other_at n) (other_eats n p) (map arm_tree xs) s (arm_tree x) rest all g (other_got n s after rest (arm_tree x) e h) inv)

  module _ (n : ℕ) (p : 0 < n) (s r0 r1 : List GrammarToken) (first : Arm)
      (fs xs : List Arm) (got : arm_at tables prints n s ≡ Got (arm_tree first) r0) (one_first : fs ≡ first ∷ []) (inv : with_front
      (map arm_tree xs) (others_at tables prints n r1) ≡ with_front (map arm_tree fs) (others_at tables prints n r0)) where
    starting : with_front (map arm_tree xs) (others_at tables prints n r1) ≡ with_front (arm_tree first ∷ []) (others_at tables prints n r0)
    starting = subst (λ f. with_front (map arm_tree xs) (others_at tables prints n r1) ≡ with_front (map arm_tree f) (others_at tables prints n r0)) one_first inv

    others_bad : (a : Answer GrammarToken (List ArmTree)) (k : SyntaxFaultKind) (r : List GrammarToken) → with_front (arm_tree first ∷ []) a ≡ Bad k r → a ≡ Bad k r
    others_bad (Got os r') k r e = cc
    others_bad (Bad k' r') k r e = cc

    pub if_arm_fails : (after : List GrammarToken) → heads_two else_word if_word r1 ≡ true → one_of else_word r1 ≡
        Got tt after → (e : Fault) → FailsWith e (arm_at tables prints n after) → FailsWith e (if_at tables prints n s)
    unfolding others_at
    if_arm_fails after g o e h = handed_on e (arm_at tables prints n after) (if_at tables prints n s)
        (λ k r bad. if_is tables prints n s ∙ rw (
          got,
          others_bad (all_of (heads_two else_word if_word) (other_at n) r0) k r
              (fails_on (heads_two else_word if_word) refl (other_at n) (other_eats n p) (map arm_tree xs) r1 k r
              (with_front (arm_tree first ∷ []) (all_of (heads_two else_word if_word) (other_at n) r0)) g (other_bad n r1 after r k o bad) starting),
        ) refl) h

    module _ (g : heads_two else_word if_word r1 ≡ false) where
      -- the arms behind the first one
      rest_arms : (a : Answer GrammarToken (List ArmTree)) → with_front (arm_tree first ∷ []) a ≡ Got
          (map arm_tree xs) r1 → (os : List ArmTree) × (a ≡ Got os r1) × (arm_tree first ∷ os ≡ map arm_tree xs)
      rest_arms (Got os r) e = let w : r ≡ r1 = cc in (os, ap (λ r. Got os r) w, cc)
      rest_arms (Bad k r) e = cc

      all_arms : (os : List ArmTree) × (others_at tables prints n r0 ≡ Got os r1) × (arm_tree first ∷ os ≡ map arm_tree xs)
      unfolding others_at
      all_arms = rest_arms (others_at tables prints n r0) (ends_on (heads_two else_word if_word) refl (other_at n) (other_eats n p)
          (map arm_tree xs) r1 (with_front (arm_tree first ∷ []) (all_of (heads_two else_word if_word) (other_at n) r0)) g starting)

      pub if_rest_fails : (e : Fault) → FailsWith e (rest_at tables prints n r1) → FailsWith e (if_at tables prints n s)
      if_rest_fails e h = handed_on e (rest_at tables prints n r1) (if_at tables prints n s) (λ k r bad. if_is tables prints n s ∙ rw (got, all_arms.1, bad) refl) h

      pub if_done : (r2 : List GrammarToken) (b : BlockTree) (t : StmtTree) → rest_at tables prints n r1 ≡ Got b r2 → t ≡ if_line (arms (map arm_tree xs)) b → if_at tables prints n s ≡ Got t r2
      if_done r2 b t h e = if_is tables prints n s ∙ rw (got, all_arms.1, h) (ap (λ t. Got t r2) (ap (λ l. if_line (arms l) b) all_arms.2 ∙ sym e))

-- [ = E ]

pub init_fails : (tables : TokenTables) (n : ℕ) (s r : List GrammarToken) → one_of assign_mark s ≡ Got tt r → (e : Fault) → FailsWith e (expression_at tables n r) → FailsWith e (init_at tables n s)
init_fails tables n s r o e h = handed_on e (expression_at tables n r) (init_at tables n s) (λ k r' bad. init_some tables n s r o ∙ rw bad refl) h

pub init_done : (tables : TokenTables) (n : ℕ) (s r r' : List GrammarToken) (x : Expr) → one_of assign_mark s ≡ Got tt r → expression_at
    tables n r ≡ Got (expr_tree x) r' → init_at tables n s ≡ Got (init_tree (Some x)) r'
init_done tables n s r r' x o h = init_some tables n s r o ∙ rw h refl
