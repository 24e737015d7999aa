-- The loops of expressions, over plain values.
use Rattle.std.proofs.Common.{◌≡◌, ℕ, ◌-◌, ◌<◌, List, [], ◌∷◌, ◌++◌, length, map, true, false, refl, sym, ap, ◌∙◌, subst}
use Rattle.std.proofs.lemmas.List.{map_push}
use Rattle.parse_syntax.specs.Reader.{Answer, Got, Bad, SyntaxFaultKind, Wrong, TooDeep, TokenReader, ◌>>=◌, one_of, all_of, and_then, heads, with_front, keep_second}
use Rattle.parse_syntax.proofs.Loops.{keeps_on, fails_on, ends_on}
use Rattle.parse_syntax.specs.declared.token.GrammarToken.{GrammarToken}
use Rattle.parse_syntax.specs.Tables.{TokenTables}
use Rattle.eval_tree.specs.declared.tree.Op.{Op}
use Rattle.eval_tree.specs.declared.tree.Expr.{Expr}
use Rattle.eval_tree.specs.declared.tree.Link.{Link}
use Rattle.eval_tree.specs.declared.tree.PostStep.{PostStep}
use Rattle.eval_tree.specs.Tree.{ExprTree, LinkTree, StepTree, expr_tree, step_tree, link_tree}
use Rattle.parse_syntax.specs.Grammar.{chain_of, post_of}
use Rattle.parse_syntax.specs.Reading.{step_mark, link_of, Whole}
use Rattle.parse_statements.specs.declared.fault.Fault.{Fault}
use Rattle.parse_statements.specs.declared.fault.Fault.TheVariants as fault
use Rattle.parse_statements.specs.declared.look.Level.{Level}
use Rattle.parse_statements.specs.declared.look.Level.TheVariants as level
use Rattle.parse_statements.specs.Gives.{FailsWith}
use Rattle.parse_statements.specs.Look.{operators}
use Rattle.parse_statements.specs.At.{inner, operand_at, chain_at, step_at, post_at, primary_at, args_at, expression_at}
use Rattle.parse_statements.proofs.Rooms.{head_of, inner_whole, bind_got}
use Rattle.parse_statements.proofs.Eats.{item_eats, step_eats, link_eats}
use Rattle.parse_syntax.specs.MarksAndWords.{opening, closing, comma}

-- a fault is handed on
pub handed_on : {A B : Type 0} (e : Fault) (a : Answer GrammarToken A) (b : Answer GrammarToken B) → ((k : SyntaxFaultKind) (rest : List
    GrammarToken) → a ≡ Bad k rest → b ≡ Bad k rest) → FailsWith e a → FailsWith e b
handed_on fault.Memory a b f h = tt
handed_on (fault.Wrong rest) a b f h = f Wrong rest.now h
handed_on (fault.TooDeep rest) a b f h = f TooDeep rest.now h

pub both_got : {A B C : Type 0} (f : A → B → C) (r : TokenReader GrammarToken A) (q : TokenReader GrammarToken B)
    (s between rest : List GrammarToken) (x : A) (y : B) → r s ≡ Got x between → q between ≡ Got y rest → and_then f r q s ≡ Got (f x y) rest
both_got f r q s between rest x y e h = rw (e, h) refl

pub both_bad : {A B C : Type 0} (f : A → B → C) (r : TokenReader GrammarToken A) (q : TokenReader GrammarToken B)
    (s between rest : List GrammarToken) (x : A) (k : SyntaxFaultKind) → r s ≡ Got x between → q between ≡ Bad k rest → and_then f r q s ≡ Bad k rest
both_bad f r q s between rest x k e h = rw (e, h) refl

module _ (tables : TokenTables) where
  -- a chain is an operand and its links
  pub chain_is : (n : ℕ) (level : Level) (s : List GrammarToken) → chain_at tables n level s ≡
      (operand_at tables n level s >>= λ x rest. all_of (heads (operators level))
      (and_then link_of (one_of (operators level)) (operand_at tables n level)) rest >>= λ xs rest'. Got (chain_of x xs) rest')
  unfolding chain_at operand_at
  chain_is n level.Sum s = refl
  chain_is n level.Compare s = refl
  chain_is n level.Equal s = refl
  chain_is n level.And s = refl
  chain_is n level.Or s = refl

  -- chains

  module _ (n : ℕ) (level : Level) (s rest0 : List GrammarToken) (first : ExprTree) (got : operand_at tables n level s ≡ Got first rest0) where
    chain_from : chain_at tables n level s ≡ (all_of (heads (operators level))
        (and_then link_of (one_of (operators level)) (operand_at tables n level)) rest0 >>= λ xs rest'. Got (chain_of first xs) rest')
    chain_from = chain_is n level s ∙ rw got refl

    module _ (ls : List LinkTree) (rest : List GrammarToken) (inv : with_front ls
        (all_of (heads (operators level)) (and_then link_of (one_of (operators level)) (operand_at tables n level)) rest) ≡ all_of
        (heads (operators level)) (and_then link_of (one_of (operators level)) (operand_at tables n level)) rest0) where
      pub chain_right : (op : ℕ × Op) (after : List GrammarToken) → one_of (operators level) rest ≡ Got op after → (e : Fault) → FailsWith e
          (operand_at tables n level after) → FailsWith e (chain_at tables n level s)
      chain_right op after o e h = handed_on e (operand_at tables n level after) (chain_at tables n level s) (λ k r b.
          let bad = both_bad link_of (one_of (operators level)) (operand_at tables n level) rest after r op k o b in
          chain_from ∙ rw (fails_on (heads (operators level)) refl (and_then link_of (one_of (operators level)) (operand_at tables n level))
          (link_eats tables n level) ls rest k r (all_of (heads (operators level))
          (and_then link_of (one_of (operators level)) (operand_at tables n level)) rest0) (head_of (operators level) rest op after o) bad inv) refl) h

      pub chain_done : heads (operators level) rest ≡ false → (t : ExprTree) → t ≡ chain_of first ls → chain_at tables n level s ≡ Got t rest
      chain_done h t e = chain_from ∙ rw (ends_on (heads (operators level)) refl
          (and_then link_of (one_of (operators level)) (operand_at tables n level)) (link_eats tables n level) ls rest
          (all_of (heads (operators level)) (and_then link_of (one_of (operators level)) (operand_at tables n level)) rest0) h inv) (ap (λ t. Got t rest) (sym e))

  pub chain_first : (n : ℕ) (level : Level) (s : List GrammarToken) (e : Fault) → FailsWith e (operand_at tables n level s) → FailsWith e (chain_at tables n level s)
  chain_first n level s e h = handed_on e (operand_at tables n level s) (chain_at tables n level s) (λ k r b. chain_is n level s ∙ rw b refl) h

  pub link_smaller : (n : ℕ) (level : Level) (s after rest : List GrammarToken) (op : ℕ × Op) (x : ExprTree) → one_of (operators level) s ≡
      Got op after → operand_at tables n level after ≡ Got x rest → length rest < length s
  link_smaller n level s after rest op x o h = (link_eats tables n level).less s (link_of op x) rest (both_got link_of (one_of (operators level)) (operand_at tables n level) s after rest op x o h)

  pub link_kept : (n : ℕ) (level : Level) (s after rest : List GrammarToken) (op : ℕ × Op) (x : ExprTree)
      (xs ys : List Link) (l : Link) (all : Answer GrammarToken (List LinkTree)) → one_of (operators level) s ≡ Got op after → operand_at
      tables n level after ≡ Got x rest → ys ≡ xs ++ l ∷ [] → link_tree l ≡ link_of op x → with_front (map link_tree xs)
      (all_of (heads (operators level)) (and_then link_of (one_of (operators level)) (operand_at tables n level)) s) ≡ all → with_front
      (map link_tree ys) (all_of (heads (operators level)) (and_then link_of (one_of (operators level)) (operand_at tables n level)) rest) ≡ all
  link_kept n level s after rest op x xs ys l all o h e w inv =
      let front : map link_tree ys ≡ map link_tree xs ++ link_of op x ∷ [] = ap (map link_tree) e ∙ map_push link_tree xs l ∙ ap (λ l. map link_tree xs ++ l ∷ []) w in
      subst (λ f. with_front f (all_of (heads (operators level)) (and_then link_of (one_of (operators level)) (operand_at tables n level)) rest) ≡ all) (sym front)
      (keeps_on (heads (operators level)) refl (and_then link_of (one_of (operators level)) (operand_at tables n level))
      (link_eats tables n level) (map link_tree xs) s (link_of op x) rest all (head_of (operators level) s op after o)
      (both_got link_of (one_of (operators level)) (operand_at tables n level) s after rest op x o h) inv)

  -- posts

  post_is : (n : ℕ) (s : List GrammarToken) → post_at tables n s ≡ (primary_at tables n s >>= λ x rest. all_of (heads step_mark) (step_at tables n) rest >>= λ xs rest'. Got (post_of x xs) rest')
  unfolding post_at primary_at step_at
  post_is n s = refl

  pub post_first : (n : ℕ) (s : List GrammarToken) (e : Fault) → FailsWith e (primary_at tables n s) → FailsWith e (post_at tables n s)
  post_first n s e h = handed_on e (primary_at tables n s) (post_at tables n s) (λ k r b. post_is n s ∙ rw b refl) h

  pub post_step : (n : ℕ) (s rest0 : List GrammarToken) (first : ExprTree) (ls : List StepTree) (rest : List GrammarToken) → primary_at
      tables n s ≡ Got first rest0 → with_front ls (all_of (heads step_mark) (step_at tables n) rest) ≡ all_of (heads step_mark)
      (step_at tables n) rest0 → heads step_mark rest ≡ true → (e : Fault) → FailsWith e (step_at tables n rest) → FailsWith e (post_at tables n s)
  post_step n s rest0 first ls rest got inv b e h = handed_on e (step_at tables n rest) (post_at tables n s) (λ k r bad.
      post_is n s ∙ rw (got, fails_on (heads step_mark) refl (step_at tables n) (step_eats tables n) ls rest k r (all_of (heads step_mark) (step_at tables n) rest0) b bad inv) refl) h

  pub post_done : (n : ℕ) (s rest0 : List GrammarToken) (first : ExprTree) (ls : List StepTree) (rest : List GrammarToken) → primary_at
      tables n s ≡ Got first rest0 → with_front ls (all_of (heads step_mark) (step_at tables n) rest) ≡ all_of (heads step_mark)
      (step_at tables n) rest0 → heads step_mark rest ≡ false → (t : ExprTree) → t ≡ post_of first ls → post_at tables n s ≡ Got t rest
  post_done n s rest0 first ls rest got inv b t e = post_is n s ∙ rw (
    got,
    ends_on (heads step_mark) refl (step_at tables n)
        (step_eats tables n) ls rest (all_of (heads step_mark) (step_at tables n) rest0) b inv,
  ) (ap (λ t. Got t rest) (sym e))

  pub step_smaller : (n : ℕ) (s rest : List GrammarToken) (x : StepTree) → step_at tables n s ≡ Got x rest → length rest < length s
  step_smaller n s rest x h = (step_eats tables n).less s x rest h

  pub step_kept : (n : ℕ) (s rest : List GrammarToken) (xs ys : List PostStep) (l : PostStep) (all : Answer GrammarToken (List StepTree)) →
      heads step_mark s ≡ true → step_at tables n s ≡ Got (step_tree l) rest → ys ≡ xs ++ l ∷ [] → with_front (map step_tree xs)
      (all_of (heads step_mark) (step_at tables n) s) ≡ all → with_front (map step_tree ys) (all_of (heads step_mark) (step_at tables n) rest) ≡ all
  step_kept n s rest xs ys l all b h e inv =
      let front : map step_tree ys ≡ map step_tree xs ++ step_tree l ∷ [] = ap (map step_tree) e ∙ map_push step_tree xs l in
      subst (λ f. with_front f (all_of (heads step_mark) (step_at tables n) rest) ≡ all) (sym front)
      (keeps_on (heads step_mark) refl (step_at tables n) (step_eats tables n) (map step_tree xs) s (step_tree l) rest all b h inv)

  -- arguments

  module _ (n : ℕ) (h : 0 < n) (s rest r0 : List GrammarToken) (y : Unit {0}) (first : ExprTree) (o : one_of opening s
      ≡ Got y rest) (c : heads closing rest ≡ false) (g : expression_at tables (n - 1) rest ≡ Got first r0) where
    args_from : args_at tables n s ≡ ((all_of (heads comma) (and_then keep_second (one_of comma) (inner tables n Whole)) r0 >>= λ xs r. Got
        (first ∷ xs) r) >>= λ xs r. one_of closing r >>= λ _ r'. Got xs r')
    unfolding args_at
    args_from = go (sym (ap (λ q. q rest) (inner_whole tables n h)))
      where
        go : expression_at tables (n - 1) rest ≡ inner tables n Whole rest → args_at tables n s ≡
            ((all_of (heads comma) (and_then keep_second (one_of comma) (inner tables n Whole)) r0 >>= λ xs r. Got (first ∷ xs) r) >>= λ xs r.
            one_of closing r >>= λ _ r'. Got xs r')
        go i = rw (o, c, sym i ∙ g) (bind_got ((all_of (heads comma) (and_then keep_second (one_of comma) (inner tables n Whole)) r0 >>=
            λ xs r. Got (first ∷ xs) r) >>= λ xs r. one_of closing r >>= λ _ r'. Got xs r'))

    module _ (ls fs : List ExprTree) (r1 : List GrammarToken) (one_first : fs ≡ first ∷ []) (inv : with_front ls
        (all_of (heads comma) (and_then keep_second (one_of comma) (inner tables n Whole)) r1) ≡ with_front fs
        (all_of (heads comma) (and_then keep_second (one_of comma) (inner tables n Whole)) r0)) (m : heads comma r1 ≡ false) where
      read_so_far : with_front (first ∷ []) (all_of (heads comma) (and_then keep_second (one_of comma) (inner tables n Whole)) r0) ≡ Got ls r1
      read_so_far =
          ends_on (heads comma) refl (and_then keep_second (one_of comma) (inner tables n Whole)) (item_eats tables n) ls r1
          (with_front (first ∷ []) (all_of (heads comma) (and_then keep_second (one_of comma) (inner tables n Whole)) r0)) m
          (subst (λ f. with_front ls (all_of (heads comma) (and_then keep_second (one_of comma) (inner tables n Whole)) r1) ≡ with_front f
          (all_of (heads comma) (and_then keep_second (one_of comma) (inner tables n Whole)) r0)) one_first inv)

      front_bind : (a : Answer GrammarToken (List ExprTree)) → with_front (first ∷ []) a ≡ (a >>= λ xs r. Got (first ∷ xs) r)
      front_bind (Got xs r) = refl
      front_bind (Bad k r) = refl

      args_read : args_at tables n s ≡ (one_of closing r1 >>= λ _ r'. Got ls r')
      args_read = args_from ∙ rw (sym (front_bind (all_of (heads comma) (and_then keep_second (one_of comma) (inner tables n Whole)) r0)) ∙ read_so_far) refl

      pub args_close : (e : Fault) → FailsWith e (one_of closing r1) → FailsWith e (args_at tables n s)
      args_close e f = handed_on e (one_of closing r1) (args_at tables n s) (λ k r bad. args_read ∙ rw bad refl) f

      pub args_done : (r2 : List GrammarToken) (z : Unit {0}) → one_of closing r1 ≡ Got z r2 → args_at tables n s ≡ Got ls r2
      args_done r2 z q = args_read ∙ rw q refl

  pub item_smaller : (n : ℕ) (s after rest : List GrammarToken) (y : Unit {0}) (x : ExprTree) → 0 < n → one_of comma s ≡ Got y after →
      expression_at tables (n - 1) after ≡ Got x rest → length rest < length s
  item_smaller n s after rest y x h o g = (item_eats tables n).less s x rest
      (both_got keep_second (one_of comma) (inner tables n Whole) s after rest y x o (ap (λ q. q after) (inner_whole tables n h) ∙ g))

  pub item_kept : (n : ℕ) (s after rest : List GrammarToken) (y : Unit {0})
      (xs ys : List Expr) (l : Expr) (all : Answer GrammarToken (List ExprTree)) → 0 < n → one_of comma s ≡ Got y after → expression_at tables
      (n - 1) after ≡ Got (expr_tree l) rest → ys ≡ xs ++ l ∷ [] → with_front (map expr_tree xs)
      (all_of (heads comma) (and_then keep_second (one_of comma) (inner tables n Whole)) s) ≡ all → with_front (map expr_tree ys)
      (all_of (heads comma) (and_then keep_second (one_of comma) (inner tables n Whole)) rest) ≡ all
  item_kept n s after rest y xs ys l all h o g e inv =
      let front : map expr_tree ys ≡ map expr_tree xs ++ expr_tree l ∷ [] = ap (map expr_tree) e ∙ map_push expr_tree xs l in
      subst (λ f. with_front f (all_of (heads comma) (and_then keep_second (one_of comma) (inner tables n Whole)) rest) ≡ all) (sym front)
      (keeps_on (heads comma) refl (and_then keep_second (one_of comma) (inner tables n Whole)) (item_eats tables n) (map expr_tree xs) s
      (expr_tree l) rest all (head_of comma s y after o) (both_got keep_second (one_of comma) (inner tables n Whole) s after rest y
      (expr_tree l) o (ap (λ q. q after) (inner_whole tables n h) ∙ g)) inv)
