-- The readers of statements are lawful and local, one level over the one below.
use Rattle.std.proofs.Common.{◌≡◌, ℕ, List, [], ◌∷◌, ◌++◌, Bool, true, false, cond, nat_lt, nat_eq, Option, Some, None, refl, sym, ap, arith, append_assoc}
use Rattle.std.proofs.lemmas.Bool.Decides.{nat_tests}
use Rattle.js_lex.specs.declared.token.Mark.TheVariants as mark
use Rattle.parse_syntax.specs.Lang.{Lang, One, one, Then, both, Bind, Mapped, mapped, Nothing, nothing, Either, left, right, Many, end, if_room, ◌▸◌, ◌◂◌}
use Rattle.parse_syntax.specs.Reader.{TokenReader, SyntaxFaultKind, map_by, and_then, and_bind, one_of, opens, all_of, heads, heads_two, allowed, keep_first, keep_second}
use Rattle.parse_syntax.proofs.Laws.{Holds}
use Rattle.parse_syntax.proofs.Local.{SameHead, IsTest}
use Rattle.parse_syntax.proofs.Wider.{Starts, then_starts, mapped_starts, either_starts, head_gives}
use Rattle.parse_syntax.proofs.Part.{anything, Branch, Part, both_hold, one_part, then_part, next_part, map_part, bind_part, branch, sooner, part_of}
use Rattle.parse_syntax.proofs.Part.{choose_branch, nothing_branch, never_branch, heads_test, Rooms, then_strict, first_strict, map_strict, open_branch, IsItem}
use Rattle.parse_syntax.proofs.Part.{many_part, no_such, series_part}
use Rattle.parse_syntax.proofs.Heads.{one_heads, then_heads, begins_length, room_of, in_room, deeper, IsOf, over, none_over, then_lacks, lacks, first_over, lower}
use Rattle.parse_syntax.specs.declared.token.GrammarToken.{GrammarToken}
use Rattle.parse_syntax.specs.declared.token.GrammarKind.{GrammarKind}
use Rattle.parse_syntax.specs.declared.token.GrammarKind.TheVariants as kind
use Rattle.parse_syntax.specs.declared.token.Word.TheVariants as word
use Rattle.parse_syntax.specs.declared.token.Property.TheVariants as property
use Rattle.eval_tree.specs.Tree.{ExprTree, StmtTree, BlockTree, block}
use Rattle.parse_syntax.specs.Tables.{TokenTables}
use Rattle.parse_syntax.specs.Terminals.{Identifier, directive, name, the_name, assign_op, increment, nought, bound_number}
use Rattle.parse_syntax.specs.Grammar
use Rattle.parse_syntax.specs.Grammar.{pair_of, assign_of}
use Rattle.parse_syntax.specs.Reading.{for_header, no_inside, print_of, inside_of, arm_of, if_of, let_of, const_of, for_of}
use Rattle.parse_syntax.specs.Reading.{goes_on, read_args, read_parens, read_block, read_init, read_let, read_const, read_assign, read_print, read_arm}
use Rattle.parse_syntax.specs.Reading.{read_rest, read_if, read_turns, read_header, read_for, read_statement, read_strict}
use Rattle.parse_syntax.proofs.Stops.{sample, with_kind, stops, level_of, HasLevel, begins_unary}
use Rattle.parse_syntax.proofs.Expressions.{one_stops, heads_stop, parens_part, args_part, no_args, held_parens, opening_part, closing_part}
use Rattle.std.specs.Prelude.{is_some}
use Rattle.std.specs.Bool.{then_some}
use Rattle.parse_syntax.specs.MarksAndWords.{let_word, const_word, print_word, if_word, else_word, for_word, opening, open_brace, close_brace, semicolon, less, assign_mark}

-- which statement begins with the token
abbrev kind_first : GrammarKind → ℕ
kind_first (kind.Mark mark.OpenBrace) = 1
kind_first (kind.Word word.Let number) = 2
kind_first (kind.Word word.Const number) = 3
kind_first (kind.Name n p) = 4
kind_first (kind.Word word.Print number) = 5
kind_first (kind.Word word.If number) = 6
kind_first (kind.Word word.For number) = 7
kind_first _ = 0

abbrev pub first : GrammarToken → ℕ
first t = kind_first t.kind

open_brace_of : IsOf first open_brace 1
open_brace_of = record { is = λ t x e. go t t.kind x e }
  where
    go : (t : GrammarToken) (k : GrammarKind) (x : _) → open_brace (with_kind t k) ≡ Some x → first (with_kind t k) ≡ 1
    go t (kind.Mark mark.OpenBrace) x e = refl
    go t _ x e = cc

let_first : IsOf first let_word 2
let_first = record { is = λ t x e. go t t.kind x e }
  where
    go : (t : GrammarToken) (k : GrammarKind) (x : _) → let_word (with_kind t k) ≡ Some x → first (with_kind t k) ≡ 2
    go t (kind.Word word.Let number) x e = refl
    go t _ x e = cc

const_first : IsOf first const_word 3
const_first = record { is = λ t x e. go t t.kind x e }
  where
    go : (t : GrammarToken) (k : GrammarKind) (x : _) → const_word (with_kind t k) ≡ Some x → first (with_kind t k) ≡ 3
    go t (kind.Word word.Const number) x e = refl
    go t _ x e = cc

name_first : IsOf first name 4
name_first = record { is = λ t x e. go t t.kind x e }
  where
    go : (t : GrammarToken) (k : GrammarKind) (x : Identifier) → name (with_kind t k) ≡ Some x → first (with_kind t k) ≡ 4
    go t (kind.Name n p) x e = refl
    go t _ x e = cc

print_first : IsOf first print_word 5
print_first = record { is = λ t x e. go t t.kind x e }
  where
    go : (t : GrammarToken) (k : GrammarKind) (x : _) → print_word (with_kind t k) ≡ Some x → first (with_kind t k) ≡ 5
    go t (kind.Word word.Print number) x e = refl
    go t _ x e = cc

if_first : IsOf first if_word 6
if_first = record { is = λ t x e. go t t.kind x e }
  where
    go : (t : GrammarToken) (k : GrammarKind) (x : _) → if_word (with_kind t k) ≡ Some x → first (with_kind t k) ≡ 6
    go t (kind.Word word.If number) x e = refl
    go t _ x e = cc

for_first : IsOf first for_word 7
for_first = record { is = λ t x e. go t t.kind x e }
  where
    go : (t : GrammarToken) (k : GrammarKind) (x : _) → for_word (with_kind t k) ≡ Some x → first (with_kind t k) ≡ 7
    go t (kind.Word word.For number) x e = refl
    go t _ x e = cc

else_first : IsOf first else_word 0
else_first = record { is = λ t x e. go t t.kind x e }
  where
    go : (t : GrammarToken) (k : GrammarKind) (x : _) → else_word (with_kind t k) ≡ Some x → first (with_kind t k) ≡ 0
    go t (kind.Word word.Else number) x e = refl
    go t _ x e = cc

close_brace_first : IsOf first close_brace 0
close_brace_first = record { is = λ t x e. go t t.kind x e }
  where
    go : (t : GrammarToken) (k : GrammarKind) (x : _) → close_brace (with_kind t k) ≡ Some x → first (with_kind t k) ≡ 0
    go t (kind.Mark mark.CloseBrace) x e = refl
    go t _ x e = cc

pub directive_first : IsOf first directive 0
directive_first = record { is = λ t x e. go t t.kind x e }
  where
    go : (t : GrammarToken) (k : GrammarKind) (x : _) → directive (with_kind t k) ≡ Some x → first (with_kind t k) ≡ 0
    go t kind.Directive x e = refl
    go t _ x e = cc

-- statements go on with any token that isn't the end of a block

goes_test : IsTest goes_on
goes_test = record { same = go }
  where
    go : (s u : List GrammarToken) → SameHead s u → goes_on s ≡ goes_on u
    go [] [] h = refl
    go [] (u ∷ t) h = absurd h
    go (t ∷ s) [] h = absurd h
    go (t ∷ s) (u ∷ v) h = ap (λ t. cond (is_some (close_brace t)) false true) h

goes_over : (t : GrammarToken) (s : List GrammarToken) → over first 0 t ≡ true → goes_on (t ∷ s) ≡ true
goes_over t s e = ap (λ b. cond b false true) (none_over first close_brace 0 0 close_brace_first (omega arith) t s e)

abbrev pub no_more : List GrammarToken → Bool
no_more s = cond (goes_on s) false true

pub list_item : (S : Lang GrammarToken StmtTree) → Starts S (over first 0) → IsItem goes_on (no_such else_word) no_more S
list_item S st = record {
  test = goes_test;
  none = refl;
  eats = λ ts x h. begins_length (over first 0) ts (st.by ts x h);
  begins = λ ts x rest h. head_gives (over first 0) goes_on true (λ t s q. goes_over t s q) ts rest (st.by ts x h);
  again = λ ts x rest h. head_gives (over first 0) (no_such else_word) true
      (λ t s q. ap (λ b. cond b false true) (none_over first else_word 0 0 else_first (omega arith) t s q)) ts rest (st.by ts x h);
  ends = λ rest e. ended (goes_on rest) e;
  over = at_end;
}
  where
    ended : (b : Bool) → cond b false true ≡ true → b ≡ false
    ended true e = sym e
    ended false e = refl

    at_end : (rest : List GrammarToken) → no_more rest ≡ true → no_such else_word rest ≡ true
    at_end [] e = refl
    at_end (t ∷ s) e = go t t.kind e
      where
        go : (t : GrammarToken) (k : GrammarKind) → no_more (with_kind t k ∷ []) ≡ true → no_such else_word (with_kind t k ∷ []) ≡ true
        go t (kind.Mark mark.CloseBrace) e = refl
        go t _ e = cc

-- what is known of an expression at this level, and of an expression and a statement where one more is open
pub record Inner (P : SyntaxFaultKind → Type 0) (room : Bool) (E H I J : Lang GrammarToken ExprTree) (S F : Lang GrammarToken StmtTree)
    (e e' i i' : TokenReader GrammarToken ExprTree) (s s' : TokenReader GrammarToken StmtTree) : Type 0 where
  pub here : Part P E H (stops 1) e e'
  pub test : room ≡ true → Part P I J (stops 1) i i'
  pub first_test : room ≡ true → Starts I begins_unary
  pub law : room ≡ true → Part P S F (no_such else_word) s s'
  pub starts : room ≡ true → Starts S (over first 0)
  pub held_test : Holds J

-- a semicolon ends an expression
semicolon_level : HasLevel semicolon 0
semicolon_level = record { is = λ t x e. go t t.kind x e }
  where
    go : (t : GrammarToken) (k : GrammarKind) (x : _) → semicolon (with_kind t k) ≡ Some x → level_of (with_kind t k) ≡ 0
    go t (kind.Mark mark.Semicolon) x e = refl
    go t _ x e = cc

at_semicolon_no_assign : (s : List GrammarToken) → heads semicolon s ≡ true → heads assign_mark s ≡ false
at_semicolon_no_assign [] h = refl
at_semicolon_no_assign (t ∷ s) h = go t t.kind h
  where
    go : (t : GrammarToken) (k : GrammarKind) → is_some (semicolon (with_kind t k)) ≡ true → is_some (assign_mark (with_kind t k)) ≡ false
    go t (kind.Mark mark.Assign) h = cc
    go t _ h = refl

-- what a statement begins with

module _ (tables : TokenTables) (prints room : Bool) (E I : Lang GrammarToken ExprTree) (S : Lang GrammarToken StmtTree) where
  for_starts : (k : ℕ) → nat_lt k 7 ≡ true → Starts (if_room room (Grammar.for_statement tables S)) (over first k)
  for_starts k lt = record {
    by = λ ts x h. (then_starts (for_of tables) for_header (Grammar.block_part S) (over first k)
        (first_over first for_word 7 k for_first lt)).by ts x (room_of room (Grammar.for_statement tables S) ts x h);
  }

  abbrev pub From_if : Lang GrammarToken StmtTree
  From_if = Either (if_room room (Grammar.if_statement I S)) (if_room room (Grammar.for_statement tables S))

  abbrev pub From_print : Lang GrammarToken StmtTree
  From_print = Either (if_room prints (if_room room (Grammar.print_statement I))) From_if

  abbrev pub From_assign : Lang GrammarToken StmtTree
  From_assign = Either (Grammar.assign_line tables E) From_print

  abbrev pub From_const : Lang GrammarToken StmtTree
  From_const = Either (Grammar.const_line tables E) From_assign

  abbrev pub From_let : Lang GrammarToken StmtTree
  From_let = Either (Grammar.let_line tables E) From_const

  if_starts : Starts From_if (over first 5)
  if_starts = either_starts (if_room room (Grammar.if_statement I S)) (if_room room (Grammar.for_statement tables S)) (over first 5)
      (record {
        by = λ ts x h. (then_starts if_of (Grammar.if_arm I S)
            (Then pair_of (Many (One else_word ▸ Grammar.if_arm I S)) (Either (One else_word ▸ Grammar.block_part S) (Nothing no_inside)))
            (over first 5) (first_over first if_word 6 5 if_first refl)).by ts x (room_of room (Grammar.if_statement I S) ts x h);
      })
      (for_starts 5 refl)

  print_starts : Starts From_print (over first 4)
  print_starts = either_starts (if_room prints (if_room room (Grammar.print_statement I))) From_if (over first 4)
      (record { by = λ ts x h. first_print.by ts x (room_of room (Grammar.print_statement I) ts x (room_of prints (if_room room (Grammar.print_statement I)) ts x h)) })
      (lower first 5 4 refl if_starts)
    where
      first_print : Starts (Grammar.print_statement I) (over first 4)
      first_print = first_over first print_word 5 4 print_first refl

  assign_starts : Starts From_assign (over first 3)
  assign_starts = either_starts (Grammar.assign_line tables E) From_print (over first 3) (first_over first name 4 3 name_first refl) (lower first 4 3 refl print_starts)

  const_starts : Starts From_const (over first 2)
  const_starts = either_starts (Grammar.const_line tables E) From_assign (over first 2) (first_over first const_word 3 2 const_first refl) (lower first 3 2 refl assign_starts)

  let_starts : Starts From_let (over first 1)
  let_starts = either_starts (Grammar.let_line tables E) From_const (over first 1) (first_over first let_word 2 1 let_first refl) (lower first 2 1 refl const_starts)

  pub statement_starts : Starts (Grammar.statement tables prints room E I S) (over first 0)
  statement_starts = either_starts (if_room room (Mapped block (Grammar.block_part S))) From_let (over first 0)
      (record {
        by = λ ts x h. (mapped_starts block (Grammar.block_part S) (over first 0)
            (first_over first open_brace 1 0 open_brace_of refl)).by ts x (room_of room (Mapped block (Grammar.block_part S)) ts x h);
      })
      (lower first 1 0 refl let_starts)

  block_heads : (ts : List GrammarToken) (x : StmtTree) (rest : List GrammarToken) → Mapped block (Grammar.block_part S) ts x → heads open_brace (ts ++ rest) ≡ true
  block_heads _ _ rest (mapped a x h) = then_heads open_brace a x rest h

  if_heads : (ts : List GrammarToken) (x : StmtTree) (rest : List GrammarToken) → Grammar.if_statement I S ts x → heads if_word (ts ++ rest) ≡ true
  if_heads _ _ rest (both a b x y ha hb) = rw (append_assoc a b rest) (then_heads if_word a x (b ++ rest) ha)

  for_heads : (ts : List GrammarToken) (x : StmtTree) (rest : List GrammarToken) → Grammar.for_statement tables S ts x → heads for_word (ts ++ rest) ≡ true
  for_heads _ _ rest (both a b x y ha hb) = rw (append_assoc a b rest) (then_heads for_word a x (b ++ rest) ha)

module _ (P : SyntaxFaultKind → Type 0) where
  name_part : Part P (One name) (One name) anything (one_of name) (one_of name)
  name_part = one_part P name (sample (kind.Name 0 property.Nothing)) (record { at = 0; number = 0 }) refl

  semicolon_part : Part P (One semicolon) (One semicolon) anything (one_of semicolon) (one_of semicolon)
  semicolon_part = one_part P semicolon (sample (kind.Mark mark.Semicolon)) tt refl

  assign_part : Part P (One assign_mark) (One assign_mark) anything (one_of assign_mark) (one_of assign_mark)
  assign_part = one_part P assign_mark (sample (kind.Mark mark.Assign)) tt refl

  open_brace_part : Part P (One open_brace) (One open_brace) anything (one_of open_brace) (one_of open_brace)
  open_brace_part = one_part P open_brace (sample (kind.Mark mark.OpenBrace)) tt refl

  close_brace_part : Part P (One close_brace) (One close_brace) anything (one_of close_brace) (one_of close_brace)
  close_brace_part = one_part P close_brace (sample (kind.Mark mark.CloseBrace)) tt refl

  let_part : Part P (One let_word) (One let_word) anything (one_of let_word) (one_of let_word)
  let_part = one_part P let_word (sample (kind.Word word.Let 0)) tt refl

  pub else_part : Part P (One else_word) (One else_word) anything (one_of else_word) (one_of else_word)
  else_part = one_part P else_word (sample (kind.Word word.Else 0)) tt refl

  if_part : Part P (One if_word) (One if_word) anything (one_of if_word) (one_of if_word)
  if_part = one_part P if_word (sample (kind.Word word.If 0)) tt refl

  same_name : (x : ℕ) → nat_eq x x ≡ true
  same_name x = grind (arith, nat_tests)

  the_name_part : (x : ℕ) → Part P (One (the_name x)) (One (the_name x)) anything (one_of (the_name x)) (one_of (the_name x))
  the_name_part x = one_part P (the_name x) (sample (kind.Name x property.Nothing)) tt (ap (λ b. then_some b tt) (same_name x))

  turns_part : (x : Identifier) → Part P (Grammar.loop_head x) (Grammar.loop_head x) anything (read_turns x) (read_turns x)
  turns_part x =
      let last = next_part keep_second semicolon_part (next_part keep_second (the_name_part x.number)
      (next_part keep_second (one_part P increment (sample (kind.Mark mark.Increment)) tt refl) (closing_part P))) in
      next_part keep_second assign_part (next_part keep_second (one_part P nought (sample (kind.Number 0)) tt refl)
      (next_part keep_second semicolon_part (next_part keep_second (the_name_part x.number)
      (next_part keep_second (one_part P less (sample (kind.Mark mark.Less)) tt refl)
      (next_part keep_first (one_part P bound_number (sample (kind.Number 0)) 0 refl) last)))))

  from_opening : Part P (One opening ▸ One let_word ▸ Bind pair_of (One name) Grammar.loop_head)
      (One opening ▸ One let_word ▸ Bind pair_of (One name) Grammar.loop_head) anything
      (and_then keep_second (one_of opening) (and_then keep_second (one_of let_word) (and_bind pair_of (one_of name) read_turns)))
      (and_then keep_second (one_of opening) (and_then keep_second (one_of let_word) (and_bind pair_of (one_of name) read_turns)))
  from_opening = next_part keep_second (opening_part P) (next_part keep_second let_part (bind_part pair_of name_part (λ a x h. turns_part x) (λ x. (turns_part x).local)))

  header_part : Part P for_header for_header anything read_header read_header
  header_part = next_part keep_second (one_part P for_word (sample (kind.Word word.For 0)) tt refl) from_opening

  module _ (tables : TokenTables) {E H : Lang GrammarToken ExprTree} {e e' : TokenReader GrammarToken ExprTree} (p : Part P E H (stops 1) e e') where
    ended_part : Part P (E ◂ One semicolon) (H ◂ One semicolon) anything (and_then keep_first e (one_of semicolon)) (and_then keep_first e' (one_of semicolon))
    ended_part = then_part keep_first p semicolon_part (λ b y rest h s. one_stops semicolon 0 1 semicolon_level refl b y rest h)

    init_part : Part P (Either (Mapped Some (One assign_mark ▸ E)) (Nothing None)) (Either (Mapped Some (One assign_mark ▸ H)) (Nothing None)) (heads semicolon) (read_init e) (read_init e')
    init_part = part_of
        (choose_branch (heads assign_mark) (heads_test assign_mark)
        (sooner (heads_stop semicolon 0 1 semicolon_level refl) (branch (map_part Some (next_part keep_second assign_part p)) (λ ts x h. left ts x h)))
        (nothing_branch P None)
        assign_heads ended)
        (record { tokens = []; value = None; spells = right [] None (nothing None refl) })
      where
        assign_heads : (ts : List GrammarToken) (x : Option ExprTree) (rest : List GrammarToken) → Mapped Some (One assign_mark ▸ E) ts x → heads assign_mark (ts ++ rest) ≡ true
        assign_heads _ _ rest (mapped a x h) = then_heads assign_mark a x rest h

        ended : (ts : List GrammarToken) (x : Option ExprTree) (rest : List GrammarToken) → Nothing None ts x → heads semicolon rest ≡ true → heads assign_mark (ts ++ rest) ≡ false
        ended _ _ rest (nothing x h) s = at_semicolon_no_assign rest s

    let_line_part : Part P (Grammar.let_line tables E) (Grammar.let_line tables H) anything (read_let tables e) (read_let tables e')
    let_line_part = next_part keep_second let_part (then_part keep_first (next_part (let_of tables) name_part init_part) semicolon_part (λ b y rest h s. one_heads semicolon b y rest h))

    const_line_part : Part P (Grammar.const_line tables E) (Grammar.const_line tables H) anything (read_const tables e) (read_const tables e')
    const_line_part = next_part keep_second (one_part P const_word (sample (kind.Word word.Const 0)) tt refl) (next_part (const_of tables) name_part (next_part keep_second assign_part ended_part))

    assign_line_part : Part P (Grammar.assign_line tables E) (Grammar.assign_line tables H) anything (read_assign tables e) (read_assign tables e')
    assign_line_part = next_part (assign_of tables) name_part (next_part pair_of (one_part P assign_op (sample (kind.Mark mark.Assign)) None refl) ended_part)

  module _ (tables : TokenTables) {I J : Lang GrammarToken ExprTree} {i i' : TokenReader GrammarToken ExprTree} {S F : Lang GrammarToken StmtTree} {s s' : TokenReader GrammarToken StmtTree} (q : Part
      P I J (stops 1) i i') (p : Part P S F (no_such else_word) s s') (st : Starts S (over first 0)) where
    pub block_part : Part P (Grammar.block_part S) (Grammar.block_part F) anything (read_block s) (read_block s')
    block_part = next_part keep_second open_brace_part (map_part inside_of (then_part keep_first (many_part goes_on no_more p (list_item S st)) close_brace_part closes))
      where
        closes : (b : List GrammarToken) (y : Unit {0}) (rest : List GrammarToken) → One close_brace b y → anything rest ≡ true → no_more (b ++ rest) ≡ true
        closes _ _ rest (one t y e) h = ap (λ o. cond (cond (is_some o) false true) false true) e

    pub arm_part : Part P (Grammar.if_arm I S) (Grammar.if_arm J F) anything (read_arm i s) (read_arm i' s')
    arm_part = next_part keep_second if_part (next_part arm_of (parens_part P q) block_part)

    block_no_if : (ts : List GrammarToken) (x : BlockTree) (rest : List GrammarToken) → Grammar.block_part S ts x → heads if_word (ts ++ rest) ≡ false
    block_no_if ts x rest h = then_lacks first if_first open_brace_of (λ q. omega arith) ts x rest h

    if_statement_part : Part P (Grammar.if_statement I S) (Grammar.if_statement J F) (no_such else_word) (read_if i s) (read_if i' s')
    if_statement_part = next_part if_of arm_part (series_part pair_of else_word if_word no_inside block_no_if else_part if_part (next_part arm_of (parens_part P q) block_part) block_part)

    for_statement_part : Part P (Grammar.for_statement tables S) (Grammar.for_statement tables F) anything (read_for tables s) (read_for tables s')
    for_statement_part = next_part (for_of tables) header_part block_part

  -- { } is a block at each level

  no_statements : (L : Lang GrammarToken StmtTree) → Holds (Mapped inside_of (Many L ◂ One close_brace))
  no_statements L =
      let m = both_hold keep_first (record { tokens = []; value = []; spells = end }) close_brace_part.some in
      record { tokens = m.tokens; value = inside_of m.value; spells = mapped m.tokens m.value m.spells }

  body : (L : Lang GrammarToken StmtTree) → Holds (Grammar.block_part L)
  body L = both_hold keep_second open_brace_part.some (no_statements L)

  block_rest : (L : Lang GrammarToken StmtTree) (t : GrammarToken) (y : Unit {0}) → open_brace t
      ≡ Some y → (tail : List GrammarToken) × (x : StmtTree) × Mapped block (Grammar.block_part L) (t ∷ tail) x
  block_rest L t y e = let d = deeper keep_second open_brace (no_statements L) t y e in (d.0, block d.1, mapped (t ∷ d.0) d.1 d.2)

  if_rest : {J : Lang GrammarToken ExprTree} (L : Lang GrammarToken StmtTree) → Holds J → (t : GrammarToken) (y : Unit {0}) → if_word t
      ≡ Some y → (tail : List GrammarToken) × (x : StmtTree) × Grammar.if_statement J L (t ∷ tail) x
  if_rest L held t y e =
      let d = deeper keep_second if_word (both_hold arm_of (held_parens P held) (body L)) t y e in
      (d.0 ++ [], if_of d.1 ([], no_inside), both (t ∷ d.0) [] d.1 ([], no_inside) d.2 (both [] [] [] no_inside end (right [] no_inside (nothing no_inside refl))))

  for_rest : (tables : TokenTables) (L : Lang GrammarToken StmtTree) (t : GrammarToken) (y : Unit {0}) → for_word t
      ≡ Some y → (tail : List GrammarToken) × (x : StmtTree) × Grammar.for_statement tables L (t ∷ tail) x
  for_rest tables L t y e =
      let d = deeper keep_second for_word from_opening.some t y e in
      let b = body L in
      (d.0 ++ b.tokens, for_of tables d.1 b.value, both (t ∷ d.0) b.tokens d.1 b.value d.2 b.spells)

  -- one level

  module _ (tables : TokenTables) (prints room room' : Bool) (rs : Rooms P room room') (E H I J : Lang GrammarToken ExprTree)
      (S F : Lang GrammarToken StmtTree) (e e' i i' : TokenReader GrammarToken ExprTree)
      (s s' : TokenReader GrammarToken StmtTree) (k : Inner P room E H I J S F e e' i i' s s') where
    some_statement : Holds (Grammar.statement tables prints room E I S)
    some_statement = let m = (let_line_part tables k.here).some in record { tokens = m.tokens; value = m.value; spells = right m.tokens m.value (left m.tokens m.value m.spells) }

    block_branch : Branch P (Grammar.statement tables prints room E I S) (if_room room (Mapped block (Grammar.block_part S)))
        (Mapped block (Grammar.block_part F)) (no_such else_word) (opens room (heads open_brace) (map_by block (read_block s)))
        (opens room' (heads open_brace) (map_by block (read_block s')))
    block_branch = open_branch room room' rs open_brace
        (λ r. sooner (λ q h. refl) (branch (map_part block (block_part tables (k.test r) (k.law r) (k.starts r))) (λ ts x h. left ts x (in_room room (Mapped block (Grammar.block_part S)) r ts x h))))
        some_statement (block_rest F)
        (map_strict block open_brace (read_block s') (then_strict keep_second open_brace (map_by inside_of (and_then keep_first (all_of goes_on s') (one_of close_brace)))))

    print_branch : Branch P (Grammar.statement tables prints room E I S) (if_room prints (if_room room (Grammar.print_statement I)))
        (if_room prints (Grammar.print_statement J)) (no_such else_word) (allowed prints (opens room (heads print_word) (read_print i)))
        (allowed prints (opens room' (heads print_word) (read_print i')))
    print_branch = never_branch prints some_statement (λ a. open_branch room room' rs print_word
        (λ r. sooner (λ q h. refl) (branch (next_part keep_second (one_part P print_word (sample (kind.Word word.Print 0)) tt refl)
        (map_part print_of (next_part keep_first (args_part P (k.test r) (k.first_test r)) semicolon_part)))
        (λ ts x h. right ts x (right ts x (right ts x (right ts x (left ts x
        (in_room prints (if_room room (Grammar.print_statement I)) a ts x (in_room room (Grammar.print_statement I) r ts x h)))))))))
        some_statement
        (deeper keep_second print_word printed)
        (then_strict keep_second print_word (map_by print_of (and_then keep_first (read_args i') (one_of semicolon)))))
      where
        printed : Holds (Mapped print_of (Grammar.args J ◂ One semicolon))
        printed =
            let m = both_hold keep_first (no_args P J) semicolon_part.some in
            record { tokens = m.tokens; value = print_of m.value; spells = mapped m.tokens m.value m.spells }

    if_branch : Branch P (Grammar.statement tables prints room E I S) (if_room room (Grammar.if_statement I S)) (Grammar.if_statement J F)
        (no_such else_word) (opens room (heads if_word) (read_if i s)) (opens room' (heads if_word) (read_if i' s'))
    if_branch = open_branch room room' rs if_word
        (λ r. branch (if_statement_part tables (k.test r) (k.law r) (k.starts r))
        (λ ts x h. right ts x (right ts x (right ts x (right ts x (right ts x (left ts x (in_room room (Grammar.if_statement I S) r ts x h))))))))
        some_statement
        (if_rest F k.held_test)
        (first_strict if_of if_word (read_arm i' s') (and_then pair_of
        (all_of (heads_two else_word if_word) (and_then keep_second (one_of else_word) (read_arm i' s'))) (read_rest s'))
        (then_strict keep_second if_word (and_then arm_of (read_parens i') (read_block s'))))

    for_branch : Branch P (Grammar.statement tables prints room E I S) (if_room room (Grammar.for_statement tables S))
        (Grammar.for_statement tables F) (no_such else_word) (opens room (heads for_word) (read_for tables s)) (opens room' (heads for_word) (read_for tables s'))
    for_branch = open_branch room room' rs for_word
        (λ r. sooner (λ q h. refl) (branch (for_statement_part tables (k.test r) (k.law r) (k.starts r))
        (λ ts x h. right ts x (right ts x (right ts x (right ts x (right ts x (right ts x (in_room room (Grammar.for_statement tables S) r ts x h)))))))))
        some_statement
        (for_rest tables F)
        (first_strict (for_of tables) for_word read_header (read_block s')
        (then_strict keep_second for_word (and_then keep_second (one_of opening)
        (and_then keep_second (one_of let_word) (and_bind pair_of (one_of name) read_turns)))))

    -- the statements at this level
    pub statement_part : Part P (Grammar.statement tables prints room E I S) (Grammar.statement tables prints true H J F)
        (no_such else_word) (read_statement tables prints room e i s) (read_statement tables prints room' e' i' s')
    statement_part =
        let ifs = choose_branch (heads if_word) (heads_test if_word) if_branch for_branch
        (λ ts x rest h. if_heads tables prints room E I S ts x rest (room_of room (Grammar.if_statement I S) ts x h))
        (λ ts x rest h q. lacks first if_word 6 6 if_first (omega arith) (for_starts tables prints room E I S 6 refl) ts x rest h) in
        let prints' = choose_branch (heads print_word) (heads_test print_word) print_branch ifs
        (λ ts x rest h. then_heads print_word ts x rest (room_of room (Grammar.print_statement I) ts x
        (room_of prints (if_room room (Grammar.print_statement I)) ts x h)))
        (λ ts x rest h q. lacks first print_word 5 5 print_first (omega arith) (if_starts tables prints room E I S) ts x rest h) in
        let assigns = choose_branch (heads name) (heads_test name) (sooner (λ q h. refl)
        (branch (assign_line_part tables k.here) (λ ts x h. right ts x (right ts x (right ts x (left ts x h)))))) prints'
        (λ ts x rest h. then_heads name ts x rest h) (λ ts x rest h q. lacks first name 4 4 name_first (omega arith)
        (print_starts tables prints room E I S) ts x rest h) in
        let consts = choose_branch (heads const_word) (heads_test const_word)
        (sooner (λ q h. refl) (branch (const_line_part tables k.here) (λ ts x h. right ts x (right ts x (left ts x h))))) assigns
        (λ ts x rest h. then_heads const_word ts x rest h) (λ ts x rest h q. lacks first const_word 3 3 const_first (omega arith)
        (assign_starts tables prints room E I S) ts x rest h) in
        let lets = choose_branch (heads let_word) (heads_test let_word)
        (sooner (λ q h. refl) (branch (let_line_part tables k.here) (λ ts x h. right ts x (left ts x h)))) consts
        (λ ts x rest h. then_heads let_word ts x rest h) (λ ts x rest h q. lacks first let_word 2 2 let_first (omega arith)
        (const_starts tables prints room E I S) ts x rest h) in
        part_of (choose_branch (heads open_brace) (heads_test open_brace) block_branch lets
        (λ ts x rest h. block_heads tables prints room E I S ts x rest (room_of room (Mapped block (Grammar.block_part S)) ts x h))
        (λ ts x rest h q. lacks first open_brace 1 1 open_brace_of (omega arith) (let_starts tables prints room E I S) ts x rest h)) some_statement

  -- [ Directive ; ]
  abbrev strict : Lang GrammarToken (Unit {0})
  strict = Either (One directive ▸ One semicolon) (Nothing tt)

  pub strict_part : Part P strict strict (no_such directive) read_strict read_strict
  strict_part = part_of
      (choose_branch (heads directive) (heads_test directive)
      (sooner (λ q h. refl) (branch (next_part keep_second (one_part P directive (sample kind.Directive) tt refl) semicolon_part) (λ ts x h. left ts x h)))
      (nothing_branch P tt)
      (λ ts x rest h. then_heads directive ts x rest h)
      none_there)
      (record { tokens = []; value = tt; spells = right [] tt (nothing tt refl) })
    where
      off : (b : Bool) → cond b false true ≡ true → b ≡ false
      off true e = sym e
      off false e = refl

      none_there : (ts : List GrammarToken) (x : Unit {0}) (rest : List GrammarToken) → Nothing tt ts x → no_such directive rest ≡ true → heads directive (ts ++ rest) ≡ false
      none_there _ _ rest (nothing x h) s = off (heads directive rest) s
