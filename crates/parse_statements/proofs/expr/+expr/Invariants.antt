use Rattle.std.proofs.Common.{◌≡◌, ℕ, length, ◌+◌, ◌*◌, map}
use Rattle.parse_syntax.specs.Tables.{tables_of}
use Rattle.parse_syntax.specs.Reader.{and_then, one_of, all_of, heads, with_front, keep_second}
use Rattle.eval_tree.specs.Tree.{expr_tree, step_tree, link_tree, entry_tree}
use Rattle.parse_syntax.specs.Reading.{step_mark, link_of, Whole}
use Rattle.parse_statements.specs.Look.{operators}
use Rattle.parse_statements.specs.At.{inner, step_at, operand_at}
use Rattle.parse_statements.specs.declared.look.Level.{Level}
use Rattle.parse_statements.specs.declared.look.Level.TheVariants as level
use Rattle.parse_statements.proofs.Members.{more_at}
use Rattle.parse_statements.proofs.expr.+expr.Given as goal
use Rattle.parse_syntax.specs.MarksAndWords.{comma}

abbrev depth : Level → ℕ
depth level.Sum = 7
depth level.Compare = 9
depth level.Equal = 11
depth level.And = 13
depth level.Or = 15

abbrev pub decreases-args : goal.decreases-args
decreases-args l = 32 * l.room

abbrev pub decreases-parens : goal.decreases-parens
decreases-parens l = 32 * l.room

abbrev pub decreases-given : goal.decreases-given
decreases-given l = 32 * l.room + 1

abbrev pub decreases-builtin_call : goal.decreases-builtin_call
decreases-builtin_call l = 32 * l.room + 2

abbrev pub decreases-entry : goal.decreases-entry
decreases-entry l = 32 * l.room

abbrev pub decreases-members : goal.decreases-members
decreases-members l = 32 * l.room + 1

abbrev pub decreases-object_literal : goal.decreases-object_literal
decreases-object_literal l = 32 * l.room + 2

abbrev pub decreases-behind_point : goal.decreases-behind_point
decreases-behind_point l = 32 * l.room + 1

abbrev pub decreases-step : goal.decreases-step
decreases-step l = 32 * l.room + 2

abbrev pub decreases-primary : goal.decreases-primary
decreases-primary l = 32 * l.room + 3

abbrev pub decreases-postfix : goal.decreases-postfix
decreases-postfix l = 32 * l.room + 4

abbrev pub decreases-unary : goal.decreases-unary
decreases-unary l = 32 * l.room + 5

abbrev pub decreases-operand : goal.decreases-operand
decreases-operand l = 32 * l.room + depth l.level

abbrev pub decreases-chained : goal.decreases-chained
decreases-chained l = 32 * l.room + depth l.level + 1

abbrev pub decreases-branches : goal.decreases-branches
decreases-branches l = 32 * l.room

abbrev pub decreases-expression : goal.decreases-expression
decreases-expression l = 32 * l.room + 17

abbrev pub invariant-args-loop-after : goal.invariant-args-loop-after
invariant-args-loop-after l = with_front (map expr_tree l.items.items)
    (all_of (heads comma) (and_then keep_second (one_of comma) (inner (tables_of l.tables) l.room Whole)) l.rest) ≡ with_front
    (map expr_tree l.initial.items.items) (all_of (heads comma) (and_then keep_second (one_of comma) (inner (tables_of l.tables) l.room Whole)) l.initial.rest)

abbrev pub decreases-args-loop-after : goal.decreases-args-loop-after
decreases-args-loop-after l = length l.rest

abbrev pub invariant-members-loop-after : goal.invariant-members-loop-after
invariant-members-loop-after l = with_front (map entry_tree l.items.items)
    (all_of (heads comma) (more_at (tables_of l.tables) l.room) l.rest) ≡ with_front (map entry_tree l.initial.items.items)
    (all_of (heads comma) (more_at (tables_of l.tables) l.room) l.initial.rest)

abbrev pub decreases-members-loop-after : goal.decreases-members-loop-after
decreases-members-loop-after l = length l.rest

abbrev pub invariant-chained-loop-op : goal.invariant-chained-loop-op
invariant-chained-loop-op l = (with_front (map link_tree l.links.items)
    (all_of (heads (operators l.level)) (and_then link_of (one_of (operators l.level)) (operand_at (tables_of l.tables) l.room l.level))
    l.rest) ≡ all_of (heads (operators l.level)) (and_then link_of (one_of (operators l.level))
    (operand_at (tables_of l.tables) l.room l.level)) l.initial.rest) × (l.first ≡ l.initial.first)

abbrev pub decreases-chained-loop-op : goal.decreases-chained-loop-op
decreases-chained-loop-op l = length l.rest

abbrev pub invariant-postfix-loop-rest : goal.invariant-postfix-loop-rest
invariant-postfix-loop-rest l = (with_front (map step_tree l.steps.items)
    (all_of (heads step_mark) (step_at (tables_of l.tables) l.room) l.rest) ≡ all_of (heads step_mark) (step_at (tables_of l.tables) l.room)
    l.initial.rest) × (l.of ≡ l.initial.of)

abbrev pub decreases-postfix-loop-rest : goal.decreases-postfix-loop-rest
decreases-postfix-loop-rest l = length l.rest
