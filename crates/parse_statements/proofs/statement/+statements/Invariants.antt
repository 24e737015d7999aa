use Rattle.std.proofs.Common.{◌≡◌, length, ◌+◌, ◌*◌, map}
use Rattle.parse_syntax.specs.Tables.{tables_of}
use Rattle.parse_syntax.specs.Reader.{with_front}
use Rattle.eval_tree.specs.Tree.{arm_tree, stmt_tree}
use Rattle.parse_statements.specs.At.{others_at, statements_at}
use Rattle.parse_statements.proofs.statement.+statements.Given as goal

abbrev pub decreases-condition : goal.decreases-condition
decreases-condition l = 16 * l.room + 1

abbrev pub decreases-inside : goal.decreases-inside
decreases-inside l = 16 * l.room

abbrev pub decreases-for_statement : goal.decreases-for_statement
decreases-for_statement l = 16 * l.room + 1

abbrev pub decreases-if_statement : goal.decreases-if_statement
decreases-if_statement l = 16 * l.room + 2

abbrev pub decreases-otherwise : goal.decreases-otherwise
decreases-otherwise l = 16 * l.room + 1

abbrev pub decreases-statement : goal.decreases-statement
decreases-statement l = 16 * l.room + 3

abbrev pub decreases-list : goal.decreases-list
decreases-list l = 16 * l.room + 4

abbrev pub invariant-if_statement-loop-after : goal.invariant-if_statement-loop-after
invariant-if_statement-loop-after l = with_front (map arm_tree l.arms.items) (others_at (tables_of l.tables) l.prints l.room l.rest) ≡
    with_front (map arm_tree l.initial.arms.items) (others_at (tables_of l.tables) l.prints l.room l.initial.rest)

abbrev pub decreases-if_statement-loop-after : goal.decreases-if_statement-loop-after
decreases-if_statement-loop-after l = length l.rest

abbrev pub invariant-list-loop-alloc : goal.invariant-list-loop-alloc
invariant-list-loop-alloc l = with_front (map stmt_tree l.items.items) (statements_at (tables_of l.tables) l.prints l.room l.rest) ≡ statements_at (tables_of l.tables) l.prints l.room l.tokens

abbrev pub decreases-list-loop-alloc : goal.decreases-list-loop-alloc
decreases-list-loop-alloc l = length l.rest
