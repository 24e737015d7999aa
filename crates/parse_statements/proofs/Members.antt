-- The members of object literals, over plain values.
use Rattle.std.proofs.Common.{◌≡◌, ℕ, ◌<◌, List, [], ◌∷◌, ◌++◌, length, map, false, refl, sym, ap, ◌∙◌, subst}
use Rattle.std.proofs.lemmas.List.{map_push}
use Rattle.parse_syntax.specs.Reader.{Answer, Got, Bad, TokenReader, ◌>>=◌, one_of, all_of, and_then, heads, with_front, keep_second}
use Rattle.parse_syntax.proofs.Local.{IsEating}
use Rattle.parse_syntax.proofs.Loops.{then_eats, keeps_on, fails_on, ends_on}
use Rattle.parse_syntax.specs.declared.token.GrammarToken.{GrammarToken}
use Rattle.parse_syntax.specs.Tables.{TokenTables}
use Rattle.eval_tree.specs.declared.tree.Expr.{Expr}
use Rattle.eval_tree.specs.Tree.{ExprTree, entry_tree}
use Rattle.parse_syntax.specs.Terminals.{key}
use Rattle.parse_syntax.specs.Grammar.{pair_of}
use Rattle.parse_statements.specs.declared.fault.Fault.{Fault}
use Rattle.parse_statements.specs.Gives.{FailsWith}
use Rattle.parse_statements.specs.At.{inner, entry_at, members_at}
use Rattle.parse_statements.proofs.Rooms.{head_of}
use Rattle.parse_statements.proofs.Eats.{inner_eats}
use Rattle.parse_statements.proofs.Turns.{handed_on, both_got, both_bad}
use Rattle.parse_syntax.specs.MarksAndWords.{comma, colon, close_brace}
use Rattle.parse_syntax.specs.Reading.{Whole}

module _ (tables : TokenTables) (n : ℕ) where
  -- a comma and a member
  abbrev pub more_at : TokenReader GrammarToken (List ℕ × ExprTree)
  more_at = and_then keep_second (one_of comma) (entry_at tables n)

  more_eats : IsEating more_at
  unfolding entry_at
  more_eats = then_eats keep_second comma (entry_at tables n) (then_eats pair_of (key tables)
      (and_then keep_second (one_of colon) (inner tables n Whole)) (then_eats keep_second colon (inner tables n Whole) (inner_eats tables n)))

  pub members_none : (s r : List GrammarToken) (y : Unit {0}) → one_of close_brace s ≡ Got y r → members_at tables n s ≡ Got [] r
  unfolding members_at
  members_none s r y o = rw (head_of close_brace s y r o, o) refl

  pub first_fails : (s : List GrammarToken) → heads close_brace s ≡ false → (e : Fault) → FailsWith e (entry_at tables n s) → FailsWith e (members_at tables n s)
  unfolding members_at entry_at
  first_fails s c e f = handed_on e (entry_at tables n s) (members_at tables n s) (λ k r bad. rw (c, bad) refl) f

  pub member_smaller : (s after rest : List GrammarToken) (y : Unit {0}) (x : List ℕ × ExprTree) → one_of comma s ≡ Got y after → entry_at tables n after ≡ Got x rest → length rest < length s
  member_smaller s after rest y x o g = more_eats.less s x rest (both_got keep_second (one_of comma) (entry_at tables n) s after rest y x o g)

  pub member_kept : (s after rest : List GrammarToken) (y : Unit {0}) (xs ys : List (List ℕ × Expr)) (l : List ℕ × Expr) (all : Answer
      GrammarToken (List (List ℕ × ExprTree))) → one_of comma s ≡ Got y after → entry_at tables n after ≡ Got (entry_tree l) rest → ys ≡ xs ++
      l ∷ [] → with_front (map entry_tree xs) (all_of (heads comma) more_at s) ≡ all → with_front (map entry_tree ys) (all_of (heads comma) more_at rest) ≡ all
  member_kept s after rest y xs ys l all o g e inv =
      let front : map entry_tree ys ≡ map entry_tree xs ++ entry_tree l ∷ [] = ap (map entry_tree) e ∙ map_push entry_tree xs l in
      subst (λ f. with_front f (all_of (heads comma) more_at rest) ≡ all) (sym front)
      (keeps_on (heads comma) refl more_at more_eats (map entry_tree xs) s (entry_tree l) rest all (head_of comma s y after o)
      (both_got keep_second (one_of comma) (entry_at tables n) s after rest y (entry_tree l) o g) inv)

  module _ (s r0 : List GrammarToken) (first : List ℕ × ExprTree) (c : heads close_brace s ≡ false) (g : entry_at tables n s ≡ Got first r0) where
    members_from : members_at tables n s ≡ ((all_of (heads comma) more_at r0 >>= λ xs r. Got (first ∷ xs) r) >>= λ xs r. one_of close_brace r >>= λ _ r'. Got xs r')
    unfolding members_at entry_at
    members_from = rw (c, g) refl

    front_bind : (a : Answer GrammarToken (List (List ℕ × ExprTree))) → with_front (first ∷ []) a ≡ (a >>= λ xs r. Got (first ∷ xs) r)
    front_bind (Got xs r) = refl
    front_bind (Bad k r) = refl

    module _ (ls fs : List (List ℕ × ExprTree)) (r1 : List GrammarToken) (one_first : fs ≡ first ∷ []) (inv : with_front ls
        (all_of (heads comma) more_at r1) ≡ with_front fs (all_of (heads comma) more_at r0)) where
      starting : with_front ls (all_of (heads comma) more_at r1) ≡ with_front (first ∷ []) (all_of (heads comma) more_at r0)
      starting = subst (λ f. with_front ls (all_of (heads comma) more_at r1) ≡ with_front f (all_of (heads comma) more_at r0)) one_first inv

      -- what is wrong in a further member
      pub member_fails : (y : Unit {0}) (after : List GrammarToken) → one_of comma r1 ≡ Got y after → (e : Fault) → FailsWith e (entry_at tables n after) → FailsWith e (members_at tables n s)
      member_fails y after o e f = handed_on e (entry_at tables n after) (members_at tables n s) (λ k r bad.
          let all = fails_on (heads comma) refl more_at more_eats ls r1 k r (with_front (first ∷ []) (all_of (heads comma) more_at r0))
          (head_of comma r1 y after o) (both_bad keep_second (one_of comma) (entry_at tables n) r1 after r y k o bad) starting in
          members_from ∙ rw (sym (front_bind (all_of (heads comma) more_at r0)) ∙ all) refl) f

      module _ (m : heads comma r1 ≡ false) where
        members_read : members_at tables n s ≡ (one_of close_brace r1 >>= λ _ r'. Got ls r')
        members_read = members_from ∙ rw (sym (front_bind (all_of (heads comma) more_at r0)) ∙ ends_on (heads comma) refl more_at more_eats
            ls r1 (with_front (first ∷ []) (all_of (heads comma) more_at r0)) m starting) refl

        pub members_close : (e : Fault) → FailsWith e (one_of close_brace r1) → FailsWith e (members_at tables n s)
        members_close e f = handed_on e (one_of close_brace r1) (members_at tables n s) (λ k r bad. members_read ∙ rw bad refl) f

        pub members_done : (r2 : List GrammarToken) (z : Unit {0}) → one_of close_brace r1 ≡ Got z r2 → members_at tables n s ≡ Got ls r2
        members_done r2 z q = members_read ∙ rw q refl
