-- What the reader of a whole text answers, by the grammar, at every level.
use Rattle.std.proofs.Common.{◌≡◌, ℕ, zero, suc, ◌≤◌, List, [], ◌∷◌, ◌++◌, Bool, true, false, cond, None, refl, ap, arith, append_assoc}
use Rattle.parse_syntax.specs.Lang.{one, left, right, Never, end, both, Many, more, nothing}
use Rattle.parse_syntax.specs.Reader.{Got, Bad, TokenReader, SyntaxFaultKind, TooDeep, wrong, read_whole, keep_second}
use Rattle.parse_syntax.specs.Refused.{IsRefused}
use Rattle.parse_syntax.proofs.Laws.{Holds}
use Rattle.parse_syntax.proofs.Wider.{Starts, head_gives}
use Rattle.parse_syntax.proofs.Part.{Part, above, then_part, many_part, same_room, same_end, more_room, no_such}
use Rattle.parse_syntax.proofs.Heads.{over, none_over}
use Rattle.parse_syntax.proofs.Whole as whole
use Rattle.parse_syntax.proofs.Whole.{Shallow, Family}
use Rattle.parse_syntax.specs.declared.token.GrammarToken.{GrammarToken}
use Rattle.parse_syntax.specs.declared.token.GrammarKind.{GrammarKind}
use Rattle.parse_syntax.specs.declared.token.GrammarKind.TheVariants as kind
use Rattle.eval_tree.specs.Tree as tree
use Rattle.eval_tree.specs.Tree.{ExprTree, StmtTree}
use Rattle.parse_syntax.specs.Tables.{TokenTables}
use Rattle.parse_syntax.specs.Terminals.{directive}
use Rattle.parse_syntax.specs.Grammar.{Expression, Statement, Statements}
use Rattle.parse_syntax.specs.Reading.{goes_on, read_within, read_at, read_statements, Whole, Operand, within_room}
use Rattle.parse_syntax.proofs.Stops.{sample, with_kind, stops, begins_unary}
use Rattle.parse_syntax.proofs.Expressions as expressions
use Rattle.parse_syntax.proofs.Expressions.{whole_part, unary_part, whole_starts}
use Rattle.parse_syntax.proofs.Statements as statements
use Rattle.parse_syntax.proofs.Statements.{first, directive_first, no_more, list_item, statement_part, statement_starts, strict_part}
use Rattle.parse_syntax.specs.MarksAndWords.{else_word}

module _ (tables : TokenTables) where
  -- every level of expressions

  an_operand : within_room tables 0 Operand (sample (kind.Number 0) ∷ []) (tree.number 0)
  an_operand = right (sample (kind.Number 0) ∷ []) (tree.number 0) (both (sample (kind.Number 0) ∷ []) [] (tree.number 0) []
      (left (sample (kind.Number 0) ∷ []) (tree.number 0) (one (sample (kind.Number 0)) (tree.number 0) refl)) end)

  a_number : Expression tables 0 (sample (kind.Number 0) ∷ []) (tree.number 0)
  a_number =
      let sum = both (sample (kind.Number 0) ∷ []) [] (tree.number 0) [] an_operand end in
      let comparison = both (sample (kind.Number 0) ∷ []) [] (tree.number 0) [] sum end in
      let equality = both (sample (kind.Number 0) ∷ []) [] (tree.number 0) [] comparison end in
      let conjunction = both (sample (kind.Number 0) ∷ []) [] (tree.number 0) [] equality end in
      let disjunction = both (sample (kind.Number 0) ∷ []) [] (tree.number 0) [] conjunction end in
      both (sample (kind.Number 0) ∷ []) [] (tree.number 0) None disjunction (right [] None (nothing None refl))

  -- an expression with nothing open holds a number
  pub held_lowest : Holds (Expression tables 0)
  held_lowest = record { tokens = sample (kind.Number 0) ∷ []; value = tree.number 0; spells = a_number }

  pub record Levels (P : SyntaxFaultKind → Type 0) (n m : ℕ) : Type 0 where
    pub whole : Part P (Expression tables n) (Expression tables (suc n)) (stops 1) (read_within tables n Whole) (read_within tables m Whole)
    pub operand : Part P (within_room tables n Operand) (within_room tables (suc n) Operand) (stops 7) (read_within tables n Operand) (read_within tables m Operand)
    pub starts : Starts (Expression tables n) begins_unary

  module _ (P : SyntaxFaultKind → Type 0) where
    pub lowest : (e' u' : TokenReader GrammarToken ExprTree) → expressions.Inner P false Never Never (Expression tables 0) (within_room tables 0 Operand) wrong wrong e' u'
    lowest e' u' = record {
      whole = λ h. let q : false ≡ true = h in cc;
      operand = λ h. let q : false ≡ true = h in cc;
      first_whole = λ h. let q : false ≡ true = h in cc;
      held_whole = held_lowest;
      held_operand = record { tokens = sample (kind.Number 0) ∷ []; value = tree.number 0; spells = an_operand };
    }

    end_levels : Levels P 0 0
    end_levels = record {
      whole = whole_part P tables false false same_end Never Never (Expression tables 0) (within_room tables 0 Operand) wrong wrong wrong wrong (lowest wrong wrong);
      operand = unary_part P tables false false same_end Never Never (Expression tables 0) (within_room tables 0 Operand) wrong wrong wrong wrong (lowest wrong wrong);
      starts = whole_starts P tables false false same_end Never Never (Expression tables 0) (within_room tables 0 Operand) wrong wrong wrong wrong (lowest wrong wrong);
    }

    above_levels : (P TooDeep → ⊥) → (m : ℕ) → Levels P 0 (suc m)
    above_levels less m = record {
      whole = whole_part P tables false true (more_room less) Never Never (Expression tables 0) (within_room tables 0 Operand) wrong wrong
          (read_within tables m Whole) (read_within tables m Operand) (lowest (read_within tables m Whole) (read_within tables m Operand));
      operand = unary_part P tables false true (more_room less) Never Never (Expression tables 0) (within_room tables 0 Operand) wrong wrong
          (read_within tables m Whole) (read_within tables m Operand) (lowest (read_within tables m Whole) (read_within tables m Operand));
      starts = end_levels.starts;
    }

    pub inner_levels : (n m : ℕ) → Levels P n m → expressions.Inner P true (Expression tables n) (within_room tables n Operand)
        (Expression tables (suc n)) (within_room tables (suc n) Operand) (read_within tables n Whole) (read_within tables n Operand)
        (read_within tables m Whole) (read_within tables m Operand)
    inner_levels n m l = record { whole = λ _. l.whole; operand = λ _. l.operand; first_whole = λ _. l.starts; held_whole = above l.whole; held_operand = above l.operand }

    next_levels : (n m : ℕ) → Levels P n m → Levels P (suc n) (suc m)
    next_levels n m l = record {
      whole = whole_part P tables true true same_room (Expression tables n) (within_room tables n Operand) (Expression tables (suc n))
          (within_room tables (suc n) Operand) (read_within tables n Whole) (read_within tables n Operand) (read_within tables m Whole)
          (read_within tables m Operand) (inner_levels n m l);
      operand = unary_part P tables true true same_room (Expression tables n) (within_room tables n Operand) (Expression tables (suc n))
          (within_room tables (suc n) Operand) (read_within tables n Whole) (read_within tables n Operand) (read_within tables m Whole)
          (read_within tables m Operand) (inner_levels n m l);
      starts = whole_starts P tables true true same_room (Expression tables n) (within_room tables n Operand) (Expression tables (suc n))
          (within_room tables (suc n) Operand) (read_within tables n Whole) (read_within tables n Operand) (read_within tables m Whole)
          (read_within tables m Operand) (inner_levels n m l);
    }

    pub same_expressions : (n : ℕ) → Levels P n n
    same_expressions zero = end_levels
    same_expressions (suc n) = next_levels n n (same_expressions n)

    pub more_expressions : (P TooDeep → ⊥) → (n m : ℕ) → n ≤ m → Levels P n m
    more_expressions less zero zero le = end_levels
    more_expressions less zero (suc m) le = above_levels less m
    more_expressions less (suc n) zero le = absurd (omega arith)
    more_expressions less (suc n) (suc m) le = next_levels n m (more_expressions less n m (omega arith))

  -- every level of statements

  module _ (prints : Bool) where
    pub starts_at : (n : ℕ) → Starts (Statement tables prints n) (over first 0)
    starts_at zero = statement_starts tables prints false (Expression tables 0) Never Never
    starts_at (suc n) = statement_starts tables prints true (Expression tables (suc n)) (Expression tables n) (Statement tables prints n)

    module _ (P : SyntaxFaultKind → Type 0) where
      abbrev pub Level : ℕ → ℕ → Type 0
      Level n m = Part P (Statement tables prints n) (Statement tables prints (suc n)) (no_such else_word) (read_at tables prints n) (read_at tables prints m)

      nowhere : (m : ℕ) (i' : TokenReader GrammarToken ExprTree) (s' : TokenReader GrammarToken StmtTree) → Levels P 0 m → statements.Inner
          P false (Expression tables 0) (Expression tables 1) Never (Expression tables 0) Never (Statement tables prints 0)
          (read_within tables 0 Whole) (read_within tables m Whole) wrong i' wrong s'
      nowhere m i' s' l = record {
        here = l.whole;
        test = λ h. let q : false ≡ true = h in cc;
        first_test = λ h. let q : false ≡ true = h in cc;
        law = λ h. let q : false ≡ true = h in cc;
        starts = λ h. let q : false ≡ true = h in cc;
        held_test = held_lowest;
      }

      end_level : Level 0 0
      end_level = statement_part P tables prints false false same_end (Expression tables 0) (Expression tables 1) Never
          (Expression tables 0) Never (Statement tables prints 0) (read_within tables 0 Whole) (read_within tables 0 Whole) wrong wrong wrong
          wrong (nowhere 0 wrong wrong (same_expressions P 0))

      above_level : (P TooDeep → ⊥) → (m : ℕ) → Level 0 (suc m)
      above_level less m = statement_part P tables prints false true (more_room less) (Expression tables 0) (Expression tables 1) Never
          (Expression tables 0) Never (Statement tables prints 0) (read_within tables 0 Whole) (read_within tables (suc m) Whole) wrong
          (read_within tables m Whole) wrong (read_at tables prints m) (nowhere (suc m) (read_within tables m Whole) (read_at tables prints m)
          (above_levels P less m))

      next_level : (n m : ℕ) → Levels P (suc n) (suc m) → Levels P n m → Level n m → Level (suc n) (suc m)
      next_level n m e i l = statement_part P tables prints true true same_room (Expression tables (suc n))
          (Expression tables (suc (suc n))) (Expression tables n) (Expression tables (suc n)) (Statement tables prints n)
          (Statement tables prints (suc n)) (read_within tables (suc n) Whole) (read_within tables (suc m) Whole) (read_within tables n Whole)
          (read_within tables m Whole) (read_at tables prints n) (read_at tables prints m)
          (record { here = e.whole; test = λ _. i.whole; first_test = λ _. i.starts; law = λ _. l; starts = λ _. starts_at n; held_test = above i.whole })

      pub same_levels : (n : ℕ) → Level n n
      same_levels zero = end_level
      same_levels (suc n) = next_level n n (same_expressions P (suc n)) (same_expressions P n) (same_levels n)

      pub more_levels : (P TooDeep → ⊥) → (n m : ℕ) → n ≤ m → Level n m
      more_levels less zero zero le = end_level
      more_levels less zero (suc m) le = above_level less m
      more_levels less (suc n) zero le = absurd (omega arith)
      more_levels less (suc n) (suc m) le = next_level n m (more_expressions P less (suc n) (suc m) le) (more_expressions P less n m (omega arith)) (more_levels less n m (omega arith))

      -- scripts

      -- what stands behind the directive doesn't begin with one
      no_directive : (n : ℕ) (b : List GrammarToken) (y : List StmtTree) (rest : List GrammarToken) → Many (Statement tables prints n) b y → no_more rest ≡ true → no_such directive (b ++ rest) ≡ true
      no_directive n _ _ rest end s = at_end rest s
        where
          at_end : (rest : List GrammarToken) → no_more rest ≡ true → no_such directive rest ≡ true
          at_end [] e = refl
          at_end (t ∷ s) e = go t t.kind e
            where
              go : (t : GrammarToken) (k : GrammarKind) → no_more (with_kind t k ∷ []) ≡ true → no_such directive (with_kind t k ∷ []) ≡ true
              go t kind.Directive e = cc
              go t _ e = refl
      no_directive n _ _ rest (more a b x xs ha hb) s =
          rw (append_assoc a b rest) (head_gives (over first 0) (no_such directive) true
          (λ t s q. ap (λ b. cond b false true) (none_over first directive 0 0 directive_first (omega arith) t s q)) a (b ++ rest) ((starts_at n).by a x ha))

      script_part : (n m : ℕ) → Level n m → Part P (Statements tables prints n) (Statements tables prints (suc n)) no_more (read_statements tables prints n) (read_statements tables prints m)
      script_part n m l = then_part keep_second (strict_part P) (many_part goes_on no_more l (list_item (Statement tables prints n) (starts_at n))) (no_directive n)

    -- the scripts by how many may be open
    pub scripts : Family (Statements tables prints) no_more (read_statements tables prints)
    scripts = record {
      at_nothing = refl;
      same = λ n. script_part (λ k. Unit {0}) n n (same_levels (λ k. Unit {0}) n);
      more = λ n m le. script_part Shallow n m (more_levels Shallow (λ d. d refl) n m le);
    }

    -- a text is a script exactly where the reader gives it, and is refused where and as the reader says

    pub reads_all : (n : ℕ) (ts : List GrammarToken) (x : List StmtTree) → Statements tables prints n ts x → read_whole (read_statements tables prints n) ts ≡ Got x []
    reads_all = whole.reads_all scripts

    pub all_read : (n : ℕ) (ts : List GrammarToken) (x : List StmtTree) (rest : List GrammarToken) → read_whole (read_statements tables prints n) ts ≡ Got x rest → Statements tables prints n ts x
    all_read = whole.all_read scripts

    pub one_list : (n m : ℕ) (ts : List GrammarToken) (x y : List StmtTree) → Statements tables prints n ts x → Statements tables prints m ts y → x ≡ y
    one_list = whole.one_script scripts

    pub refuses : (n : ℕ) (ts : List GrammarToken) (k : SyntaxFaultKind) (rest : List GrammarToken) → read_whole
        (read_statements tables prints n) ts ≡ Bad k rest → IsRefused (Statements tables prints) n ts k rest
    refuses = whole.refuses scripts
