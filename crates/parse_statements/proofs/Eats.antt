-- What the parser's loops read is something.
use Rattle.std.proofs.Common.{ℕ, zero, suc}
use Rattle.parse_syntax.specs.Lang.{Lang, Never}
use Rattle.parse_syntax.specs.Reader.{Answer, SyntaxFaultKind, wrong, and_then, one_of, keep_second}
use Rattle.parse_syntax.proofs.Local.{IsEating}
use Rattle.parse_syntax.proofs.Part.{Rooms, same_room, same_end, eats_by}
use Rattle.parse_syntax.proofs.Heads.{begins_length}
use Rattle.parse_syntax.proofs.Loops.{then_eats}
use Rattle.parse_syntax.specs.declared.token.GrammarToken.{GrammarToken}
use Rattle.parse_syntax.specs.Tables.{TokenTables}
use Rattle.eval_tree.specs.Tree.{ExprTree}
use Rattle.parse_syntax.proofs.Stops.{begins_unary, is_step}
use Rattle.parse_syntax.proofs.Expressions.{Inner, step_part, step_starts, unary_part, unary_starts, sum_part, sum_starts, comparison_part, comparison_starts}
use Rattle.parse_syntax.proofs.Expressions.{equality_part, equality_starts, conjunction_part, conjunction_starts}
use Rattle.parse_syntax.proofs.Scripts.{lowest, inner_levels, same_expressions}
use Rattle.parse_statements.specs.declared.look.Level.{Level}
use Rattle.parse_statements.specs.declared.look.Level.TheVariants as level
use Rattle.parse_statements.specs.Look.{operators}
use Rattle.parse_statements.specs.At.{has_room, inner, step_at, operand_at}
use Rattle.parse_syntax.specs.MarksAndWords.{comma}
use Rattle.parse_syntax.specs.Reading.{link_of, Which, Whole, Operand, within_room}

abbrev pub Any : SyntaxFaultKind → Type 0
Any k = Unit {0}

module _ (tables : TokenTables) where
  pub inner_eats : (n : ℕ) → IsEating (inner tables n Whole)
  inner_eats zero = record { less = λ s x rest e. let q : Answer GrammarToken ExprTree = wrong s in cc }
  inner_eats (suc n) = let l = same_expressions tables Any n in eats_by l.whole.lawful (λ ts x h. begins_length begins_unary ts (l.starts.by ts x h))

  pub item_eats : (n : ℕ) → IsEating (and_then keep_second (one_of comma) (inner tables n Whole))
  item_eats n = then_eats keep_second comma (inner tables n Whole) (inner_eats n)

  -- what an expression and an operand are where one more is open
  abbrev below : ℕ → Which → Lang GrammarToken ExprTree
  below zero w = Never
  below (suc n) w = within_room tables n w

  here : (n : ℕ) → Inner Any (has_room n) (below n Whole) (below n Operand) (within_room tables n Whole) (within_room tables n Operand)
      (inner tables n Whole) (inner tables n Operand) (inner tables n Whole) (inner tables n Operand)
  here zero = lowest tables Any wrong wrong
  here (suc n) = inner_levels tables Any n n (same_expressions tables Any n)

  rooms : (n : ℕ) → Rooms Any (has_room n) (has_room n)
  rooms zero = same_end
  rooms (suc n) = same_room

  module _ (n : ℕ) where
    pub step_eats : IsEating (step_at tables n)
    unfolding step_at
    step_eats = eats_by (step_part Any tables (has_room n) (has_room n) (rooms n) (below n Whole) (below n Operand)
        (within_room tables n Whole) (within_room tables n Operand) (inner tables n Whole) (inner tables n Operand) (inner tables n Whole)
        (inner tables n Operand) (here n)).lawful
        (λ ts x h. begins_length is_step ts ((step_starts Any tables (has_room n) (has_room n) (rooms n) (below n Whole) (below n Operand)
        (within_room tables n Whole) (within_room tables n Operand) (inner tables n Whole) (inner tables n Operand) (inner tables n Whole)
        (inner tables n Operand) (here n)).by ts x h))

    operand_eats : (level : Level) → IsEating (operand_at tables n level)
    unfolding operand_at
    operand_eats level.Sum = eats_by (unary_part Any tables (has_room n) (has_room n) (rooms n) (below n Whole) (below n Operand)
        (within_room tables n Whole) (within_room tables n Operand) (inner tables n Whole) (inner tables n Operand) (inner tables n Whole)
        (inner tables n Operand) (here n)).lawful
        (λ ts x h. begins_length begins_unary ts ((unary_starts Any tables (has_room n) (has_room n) (rooms n) (below n Whole)
        (below n Operand) (within_room tables n Whole) (within_room tables n Operand) (inner tables n Whole) (inner tables n Operand)
        (inner tables n Whole) (inner tables n Operand) (here n)).by ts x h))
    operand_eats level.Compare = eats_by (sum_part Any tables (has_room n) (has_room n) (rooms n) (below n Whole) (below n Operand)
        (within_room tables n Whole) (within_room tables n Operand) (inner tables n Whole) (inner tables n Operand) (inner tables n Whole)
        (inner tables n Operand) (here n)).lawful
        (λ ts x h. begins_length begins_unary ts ((sum_starts Any tables (has_room n) (has_room n) (rooms n) (below n Whole)
        (below n Operand) (within_room tables n Whole) (within_room tables n Operand) (inner tables n Whole) (inner tables n Operand)
        (inner tables n Whole) (inner tables n Operand) (here n)).by ts x h))
    operand_eats level.Equal = eats_by (comparison_part Any tables (has_room n) (has_room n) (rooms n) (below n Whole) (below n Operand)
        (within_room tables n Whole) (within_room tables n Operand) (inner tables n Whole) (inner tables n Operand) (inner tables n Whole)
        (inner tables n Operand) (here n)).lawful
        (λ ts x h. begins_length begins_unary ts ((comparison_starts Any tables (has_room n) (has_room n) (rooms n) (below n Whole)
        (below n Operand) (within_room tables n Whole) (within_room tables n Operand) (inner tables n Whole) (inner tables n Operand)
        (inner tables n Whole) (inner tables n Operand) (here n)).by ts x h))
    operand_eats level.And = eats_by (equality_part Any tables (has_room n) (has_room n) (rooms n) (below n Whole) (below n Operand)
        (within_room tables n Whole) (within_room tables n Operand) (inner tables n Whole) (inner tables n Operand) (inner tables n Whole)
        (inner tables n Operand) (here n)).lawful
        (λ ts x h. begins_length begins_unary ts ((equality_starts Any tables (has_room n) (has_room n) (rooms n) (below n Whole)
        (below n Operand) (within_room tables n Whole) (within_room tables n Operand) (inner tables n Whole) (inner tables n Operand)
        (inner tables n Whole) (inner tables n Operand) (here n)).by ts x h))
    operand_eats level.Or = eats_by (conjunction_part Any tables (has_room n) (has_room n) (rooms n) (below n Whole) (below n Operand)
        (within_room tables n Whole) (within_room tables n Operand) (inner tables n Whole) (inner tables n Operand) (inner tables n Whole)
        (inner tables n Operand) (here n)).lawful
        (λ ts x h. begins_length begins_unary ts ((conjunction_starts Any tables (has_room n) (has_room n) (rooms n) (below n Whole)
        (below n Operand) (within_room tables n Whole) (within_room tables n Operand) (inner tables n Whole) (inner tables n Operand)
        (inner tables n Whole) (inner tables n Operand) (here n)).by ts x h))

    pub link_eats : (level : Level) → IsEating (and_then link_of (one_of (operators level)) (operand_at tables n level))
    link_eats level = then_eats link_of (operators level) (operand_at tables n level) (operand_eats level)
