-- The readers of expressions are lawful and local, one level over the one below.
use Rattle.std.proofs.Common.{◌≡◌, ℕ, ◌≤◌, List, [], ◌∷◌, ◌++◌, Bool, true, false, nat_lt, Option, Some, None, refl, ap, ◌∙◌, arith, append_assoc}
use Rattle.std.specs.Prelude.{decimal, is_some}
use Rattle.js_lex.specs.declared.token.Mark.TheVariants as mark
use Rattle.parse_syntax.specs.Lang.{Lang, One, one, Then, both, Mapped, mapped, Nothing, nothing, Either, left, right, Many, end, more, if_room, ◌▸◌, ◌◂◌}
use Rattle.parse_syntax.specs.Reader.{TokenReader, SyntaxFaultKind, map_by, and_then, one_of, choose, heads, keep_first, keep_second}
use Rattle.parse_syntax.proofs.Laws.{Holds}
use Rattle.parse_syntax.proofs.Wider.{Begins, Starts, one_starts, then_starts, either_starts, head_gives, some_of}
use Rattle.parse_syntax.proofs.Part.{anything, Branch, Part, both_hold, one_part, then_part, next_part, map_part, branch, sooner, part_of, choose_branch}
use Rattle.parse_syntax.proofs.Part.{nothing_branch, heads_test, Rooms, then_strict, map_strict, open_branch, many_part}
use Rattle.parse_syntax.proofs.Heads.{one_heads, then_heads, mapped_heads, then_some, begins_length, either_lacks, room_of, in_room, deeper, over, one_lacks}
use Rattle.parse_syntax.proofs.Heads.{then_lacks, lacks, one_over, first_over, lower}
use Rattle.parse_syntax.specs.declared.token.GrammarToken.{GrammarToken}
use Rattle.parse_syntax.specs.declared.token.GrammarKind.{GrammarKind}
use Rattle.parse_syntax.specs.declared.token.GrammarKind.TheVariants as kind
use Rattle.parse_syntax.specs.declared.token.Word.TheVariants as word
use Rattle.parse_syntax.specs.declared.token.Property.TheVariants as property
use Rattle.eval_tree.specs.declared.tree.Op.{Op}
use Rattle.eval_tree.specs.declared.tree.Method.TheVariants as methods
use Rattle.eval_tree.specs.declared.tree.Builtin.{Builtin}
use Rattle.eval_tree.specs.Tree as tree
use Rattle.eval_tree.specs.Tree.{ExprTree, LinkTree, StepTree}
use Rattle.parse_syntax.specs.Tables.{TokenTables}
use Rattle.parse_syntax.specs.Terminals.{member_word, property_word, method, key, from_word, symbol_function, stringify_word, keys_word, simple}
use Rattle.parse_syntax.specs.Grammar
use Rattle.parse_syntax.specs.Grammar.{pair_of, method_step, builtin_of, post_of, chain_of, cond_of}
use Rattle.parse_syntax.specs.Reading.{method_args, index, branches, single_of, index_read, object_of, uri_of, plain_string, unary_of, branches_of, list_of, none_of, link_of}
use Rattle.parse_syntax.specs.Reading.{read_parens, read_items, read_args, read_string, read_symbol, read_json, read_uri, read_object_call, read_entry}
use Rattle.parse_syntax.specs.Reading.{read_entries, read_members, read_literal, read_primary, read_method_args, read_word, read_member, read_index, read_step}
use Rattle.parse_syntax.specs.Reading.{step_mark, read_post, read_unary, read_chain, read_sum, read_comparison, read_equality, read_conjunction}
use Rattle.parse_syntax.specs.Reading.{read_disjunction, read_branches, read_conditional}
use Rattle.parse_syntax.proofs.Stops.{sample, with_kind, stops, stops_more, HasLevel, question_level, or_level, and_level, equal_level, compare_level}
use Rattle.parse_syntax.proofs.Stops.{sum_level, step_level, opening_level, colon_level, closing_level, close_bracket_level, close_brace_level, comma_level}
use Rattle.parse_syntax.proofs.Stops.{none_of_level, class, simple_of, opening_of, string_of, symbol_of, json_of, uri_function_of, literal_of, sign_of}
use Rattle.parse_syntax.proofs.Stops.{begins_unary, sign_begins, primary_begins, no_closing, part, point_of, bracket_of, paren_of, member_of, property_of}
use Rattle.parse_syntax.proofs.Stops.{is_step, point_step, bracket_step, step_no_args, entry_class, key_of, close_brace_of}
use Rattle.parse_syntax.proofs.Stops.{object_of as object_word_of, method_of as method_word_of}
use Rattle.parse_syntax.specs.MarksAndWords.{string_word, symbol_word, json_word, object_word, uri_function, opening, closing, open_bracket, close_bracket}
use Rattle.parse_syntax.specs.MarksAndWords.{open_literal, close_brace, comma, point, question, colon, sign, or_op, and_op, equal_op, compare_op, sum_op}

-- a token of a lower level ends what is above it

pub one_stops : {A : Type 0} (v : GrammarToken → Option A) (n k : ℕ) → HasLevel v n → nat_lt n
    k ≡ true → (ts : List GrammarToken) (x : A) (rest : List GrammarToken) → One v ts x → stops k (ts ++ rest) ≡ true
one_stops v n k of h _ _ rest (one t x e) = ap (λ m. nat_lt m k) (of.is t x e) ∙ h

pub then_stops : {A B C : Type 0} (v : GrammarToken → Option A) {f : A → B → C} {M : Lang GrammarToken B} (n k : ℕ) → HasLevel v n → nat_lt
    n k ≡ true → (ts : List GrammarToken) (x : C) (rest : List GrammarToken) → Then f (One v) M ts x → stops k (ts ++ rest) ≡ true
then_stops v n k of h _ _ rest (both a b x y ha hb) = rw (append_assoc a b rest) (one_stops v n k of h a x (b ++ rest) ha)

pub heads_stop : {A : Type 0} (v : GrammarToken → Option A) (n k : ℕ) → HasLevel v n → nat_lt n k ≡ true → (s : List GrammarToken) → heads v s ≡ true → stops k s ≡ true
heads_stop v n k of h [] e = let q : false ≡ true = e in cc
heads_stop v n k of h (t ∷ s) e = let y = some_of (v t) e in ap (λ m. nat_lt m k) (of.is t y.0 y.1) ∙ h

room_starts : {A : Type 0} (room : Bool) {L : Lang GrammarToken A} (test : GrammarToken → Bool) → Starts L test → Starts (if_room room L) test
room_starts room {L = L} test st = record { by = λ ts x h. st.by ts x (room_of room L ts x h) }

-- what is known of an expression and an operand where one more is open
pub record Inner (P : SyntaxFaultKind → Type 0) (room : Bool) (E U F G : Lang GrammarToken ExprTree) (e u e' u' : TokenReader GrammarToken ExprTree) : Type 0 where
  pub whole : room ≡ true → Part P E F (stops 1) e e'
  pub operand : room ≡ true → Part P U G (stops 7) u u'
  pub first_whole : room ≡ true → Starts E begins_unary
  pub held_whole : Holds F
  pub held_operand : Holds G

module _ (P : SyntaxFaultKind → Type 0) where
  pub opening_part : Part P (One opening) (One opening) anything (one_of opening) (one_of opening)
  opening_part = one_part P opening (sample (kind.Mark mark.OpenParen)) tt refl

  pub closing_part : Part P (One closing) (One closing) anything (one_of closing) (one_of closing)
  closing_part = one_part P closing (sample (kind.Mark mark.CloseParen)) tt refl

  point_part : Part P (One point) (One point) anything (one_of point) (one_of point)
  point_part = one_part P point (sample (kind.Mark mark.Point)) tt refl

  close_bracket_part : Part P (One close_bracket) (One close_bracket) anything (one_of close_bracket) (one_of close_bracket)
  close_bracket_part = one_part P close_bracket (sample (kind.Mark mark.CloseBracket)) tt refl

  colon_part : Part P (One colon) (One colon) anything (one_of colon) (one_of colon)
  colon_part = one_part P colon (sample (kind.Mark mark.Colon)) tt refl

  from_part : Part P (One from_word) (One from_word) anything (one_of from_word) (one_of from_word)
  from_part = one_part P from_word (sample (kind.Name 0 property.FromCharCode)) _ refl

  function_part : Part P (One symbol_function) (One symbol_function) anything (one_of symbol_function) (one_of symbol_function)
  function_part = one_part P symbol_function (sample (kind.Word word.For 0)) _ refl

  stringify_part : Part P (One stringify_word) (One stringify_word) anything (one_of stringify_word) (one_of stringify_word)
  stringify_part = one_part P stringify_word (sample (kind.Name 0 property.Stringify)) _ refl

  comma_part : Part P (One comma) (One comma) anything (one_of comma) (one_of comma)
  comma_part = one_part P comma (sample (kind.Mark mark.Comma)) tt refl

  close_brace_part : Part P (One close_brace) (One close_brace) anything (one_of close_brace) (one_of close_brace)
  close_brace_part = one_part P close_brace (sample (kind.Mark mark.CloseBrace)) tt refl

  keys_part : Part P (One keys_word) (One keys_word) anything (one_of keys_word) (one_of keys_word)
  keys_part = one_part P keys_word (sample (kind.Name 0 property.Keys)) _ refl

  module _ {E F : Lang GrammarToken ExprTree} {e e' : TokenReader GrammarToken ExprTree} (p : Part P E F (stops 1) e e') where
    pub parens_part : Part P (Grammar.parens E) (Grammar.parens F) anything (read_parens e) (read_parens e')
    parens_part = next_part keep_second opening_part (then_part keep_first p closing_part (λ b y rest h s. one_stops closing 0 1 closing_level refl b y rest h))

    items_part : Part P (Grammar.items E) (Grammar.items F) (heads closing) (read_items e) (read_items e')
    items_part = then_part list_of p (many_part (heads comma) (heads closing) (next_part keep_second comma_part p) (record {
      test = heads_test comma;
      none = refl;
      eats = λ ts x h. then_some comma ts x h;
      begins = λ ts x rest h. then_heads comma ts x rest h;
      again = λ ts x rest h. then_stops comma 0 1 comma_level refl ts x rest h;
      ends = closes_commas;
      over = heads_stop closing 0 1 closing_level refl;
    })) follows
      where
        no_comma : (t : GrammarToken) (k : GrammarKind) (x : Unit {0}) → closing (with_kind t k) ≡ Some x → is_some (comma (with_kind t k)) ≡ false
        no_comma t (kind.Mark mark.CloseParen) x h = refl
        no_comma t _ x h = cc

        closes_commas : (s : List GrammarToken) → heads closing s ≡ true → heads comma s ≡ false
        closes_commas [] h = refl
        closes_commas (t ∷ s) h = let y = some_of (closing t) h in no_comma t t.kind y.0 y.1

        follows : (b : List GrammarToken) (y : List ExprTree) (rest : List GrammarToken) → Many (One comma ▸ E) b y → heads closing rest ≡ true → stops 1 (b ++ rest) ≡ true
        follows _ _ rest end s = heads_stop closing 0 1 closing_level refl rest s
        follows _ _ rest (more a b x xs ha hb) s = rw (append_assoc a b rest) (then_stops comma 0 1 comma_level refl a x (b ++ rest) ha)

    pub args_part : Starts E begins_unary → Part P (Grammar.args E) (Grammar.args F) anything (read_args e) (read_args e')
    args_part st = next_part keep_second opening_part (part_of
        (choose_branch (heads closing) (heads_test closing)
        (branch (map_part none_of closing_part) (λ ts x h. left ts x h))
        (branch (then_part keep_first items_part closing_part (λ b y rest h s. one_heads closing b y rest h)) (λ ts x h. right ts x h))
        (λ ts x rest h. mapped_heads closing ts x rest h)
        (λ ts x rest h s. head_gives begins_unary (heads closing) false (λ t q. no_closing t q) ts rest
        ((then_starts keep_first (Grammar.items E) (One closing) begins_unary (then_starts list_of E (Many (One comma ▸ E)) begins_unary st)).by ts x h)))
        (record { tokens = closing_part.some.tokens; value = []; spells = left closing_part.some.tokens [] (mapped closing_part.some.tokens tt closing_part.some.spells) }))

    string_part : Starts E begins_unary → Part P (Grammar.string_primary E) (Grammar.string_primary F) anything (read_string e) (read_string e')
    string_part st = next_part builtin_of (one_part P string_word (sample (kind.Word word.String 0)) 0 refl) (part_of
        (choose_branch (heads point) (heads_test point)
        (branch (next_part keep_second point_part (next_part pair_of from_part (args_part st))) (λ ts x h. left ts x h))
        (branch (map_part plain_string (args_part st)) (λ ts x h. right ts x h))
        (λ ts x rest h. then_heads point ts x rest h)
        (λ ts x rest h s. plain_no_point ts x rest h))
        (record { tokens = plain.some.tokens; value = plain.some.value; spells = right plain.some.tokens plain.some.value plain.some.spells }))
      where
        plain : Part P (Mapped plain_string (Grammar.args E)) (Mapped plain_string (Grammar.args F)) anything (map_by plain_string (read_args e)) (map_by plain_string (read_args e'))
        plain = map_part plain_string (args_part st)

        plain_no_point : (ts : List GrammarToken) (x : Builtin × List ExprTree) (rest : List GrammarToken) → Mapped plain_string (Grammar.args E) ts x → heads point (ts ++ rest) ≡ false
        plain_no_point _ _ rest (mapped a x h) = then_lacks part point_of paren_of (λ q. omega arith) a x rest h

    symbol_part : Starts E begins_unary → Part P (Grammar.static_call word.Symbol symbol_function (Grammar.args E))
        (Grammar.static_call word.Symbol symbol_function (Grammar.args F)) anything (read_symbol e) (read_symbol e')
    symbol_part st = next_part builtin_of (one_part P symbol_word (sample (kind.Word word.Symbol 0)) 0 refl) (next_part keep_second point_part (next_part pair_of function_part (args_part st)))

    json_part : Part P (Grammar.static_call word.Json stringify_word (Mapped single_of (Grammar.parens E)))
        (Grammar.static_call word.Json stringify_word (Mapped single_of (Grammar.parens F))) anything (read_json e) (read_json e')
    json_part = next_part builtin_of (one_part P json_word (sample (kind.Word word.Json 0)) 0 refl)
        (next_part keep_second point_part (next_part pair_of stringify_part (map_part single_of parens_part)))

    uri_part : Starts E begins_unary → Part P (Grammar.uri_primary E) (Grammar.uri_primary F) anything (read_uri e) (read_uri e')
    uri_part st = next_part uri_of (one_part P uri_function (sample (kind.Word word.EncodeUri 0)) _ refl) (args_part st)

    object_call_part : Starts E begins_unary → Part P (Grammar.static_call word.Object keys_word (Grammar.args E))
        (Grammar.static_call word.Object keys_word (Grammar.args F)) anything (read_object_call e) (read_object_call e')
    object_call_part st = next_part builtin_of (one_part P object_word (sample (kind.Word word.Object 0)) 0 refl) (next_part keep_second point_part (next_part pair_of keys_part (args_part st)))

    -- object literals
    module _ (tables : TokenTables) where
      entry_part : Part P (Grammar.entry tables E) (Grammar.entry tables F) (stops 1) (read_entry tables e) (read_entry tables e')
      entry_part = next_part pair_of (one_part P (key tables) (sample (kind.Number 0)) (decimal 0) refl) (next_part keep_second colon_part p)

      entries_part : Part P (Grammar.items (Grammar.entry tables E)) (Grammar.items (Grammar.entry tables F)) (heads close_brace) (read_entries tables e) (read_entries tables e')
      entries_part = then_part list_of entry_part (many_part (heads comma) (heads close_brace) (next_part keep_second comma_part entry_part) (record {
        test = heads_test comma;
        none = refl;
        eats = λ ts x h. then_some comma ts x h;
        begins = λ ts x rest h. then_heads comma ts x rest h;
        again = λ ts x rest h. then_stops comma 0 1 comma_level refl ts x rest h;
        ends = closes_commas;
        over = heads_stop close_brace 0 1 close_brace_level refl;
      })) follows
        where
          no_comma : (t : GrammarToken) (k : GrammarKind) (x : Unit {0}) → close_brace (with_kind t k) ≡ Some x → is_some (comma (with_kind t k)) ≡ false
          no_comma t (kind.Mark mark.CloseBrace) x h = refl
          no_comma t _ x h = cc

          closes_commas : (s : List GrammarToken) → heads close_brace s ≡ true → heads comma s ≡ false
          closes_commas [] h = refl
          closes_commas (t ∷ s) h = let y = some_of (close_brace t) h in no_comma t t.kind y.0 y.1

          follows : (b : List GrammarToken) (y : List (List ℕ × ExprTree)) (rest : List GrammarToken) → Many
              (One comma ▸ Grammar.entry tables E) b y → heads close_brace rest ≡ true → stops 1 (b ++ rest) ≡ true
          follows _ _ rest end s = heads_stop close_brace 0 1 close_brace_level refl rest s
          follows _ _ rest (more a b x xs ha hb) s = rw (append_assoc a b rest) (then_stops comma 0 1 comma_level refl a x (b ++ rest) ha)

      entries_start : Starts (Grammar.items (Grammar.entry tables E) ◂ One close_brace) (over entry_class 0)
      entries_start = then_starts keep_first (Grammar.items (Grammar.entry tables E)) (One close_brace) (over entry_class 0)
          (then_starts list_of (Grammar.entry tables E) (Many (One comma ▸ Grammar.entry tables E)) (over entry_class 0)
          (first_over entry_class (key tables) 1 0 (key_of tables) refl))

      literal_part : Part P (Grammar.object_literal tables E) (Grammar.object_literal tables F) anything (read_literal tables e) (read_literal tables e')
      literal_part = next_part object_of (one_part P open_literal (sample (kind.Mark mark.OpenBrace)) 0 refl) (part_of
          (choose_branch (heads close_brace) (heads_test close_brace)
          (branch (map_part none_of close_brace_part) (λ ts x h. left ts x h))
          (branch (then_part keep_first entries_part close_brace_part (λ b y rest h s. one_heads close_brace b y rest h)) (λ ts x h. right ts x h))
          (λ ts x rest h. mapped_heads close_brace ts x rest h)
          (λ ts x rest h s. lacks entry_class close_brace 0 0 close_brace_of (omega arith) entries_start ts x rest h))
          (record { tokens = close_brace_part.some.tokens; value = []; spells = left close_brace_part.some.tokens [] (mapped close_brace_part.some.tokens tt close_brace_part.some.spells) }))

    index_part : Part P (index E) (index F) anything (read_index e) (read_index e')
    index_part = next_part index_read (one_part P open_bracket (sample (kind.Mark mark.OpenBracket)) 0 refl)
        (then_part keep_first p close_bracket_part (λ b y rest h s. one_stops close_bracket 0 1 close_bracket_level refl b y rest h))

    branches_part : Part P (branches E) (branches F) (stops 1) (read_branches e) (read_branches e')
    branches_part = next_part keep_second (one_part P question (sample (kind.Mark mark.Question)) tt refl)
        (then_part branches_of p (next_part keep_second colon_part p) (λ b y rest h s. then_stops colon 0 1 colon_level refl b y rest h))

  -- () is a list of arguments at each level
  pub no_args : (L : Lang GrammarToken ExprTree) → Holds (Grammar.args L)
  no_args L = both_hold keep_second opening_part.some (record {
    tokens = closing_part.some.tokens;
    value = [];
    spells = left closing_part.some.tokens [] (mapped closing_part.some.tokens tt closing_part.some.spells);
  })

  -- what a word that opens goes on with

  pub held_parens : {L : Lang GrammarToken ExprTree} → Holds L → Holds (Grammar.parens L)
  held_parens h = both_hold keep_second opening_part.some (both_hold keep_first h closing_part.some)

  held_string : (L : Lang GrammarToken ExprTree) → Holds (Either (One point ▸ Then pair_of (One from_word) (Grammar.args L)) (Mapped plain_string (Grammar.args L)))
  held_string L = let m = no_args L in record { tokens = m.tokens; value = plain_string m.value; spells = right m.tokens (plain_string m.value) (mapped m.tokens m.value m.spells) }

  held_symbol : (L : Lang GrammarToken ExprTree) → Holds (One point ▸ Then pair_of (One symbol_function) (Grammar.args L))
  held_symbol L = both_hold keep_second point_part.some (both_hold pair_of function_part.some (no_args L))

  held_json : {L : Lang GrammarToken ExprTree} → Holds L → Holds (One point ▸ Then pair_of (One stringify_word) (Mapped single_of (Grammar.parens L)))
  held_json h =
      let m = held_parens h in
      both_hold keep_second point_part.some (both_hold pair_of stringify_part.some (record { tokens = m.tokens; value = single_of m.value; spells = mapped m.tokens m.value m.spells }))

  held_object_call : (L : Lang GrammarToken ExprTree) → Holds (One point ▸ Then pair_of (One keys_word) (Grammar.args L))
  held_object_call L = both_hold keep_second point_part.some (both_hold pair_of keys_part.some (no_args L))

  -- { } is an object literal at each level
  held_literal : (tables : TokenTables) (L : Lang GrammarToken ExprTree) → Holds (Either (Mapped none_of (One close_brace)) (Grammar.items (Grammar.entry tables L) ◂ One close_brace))
  held_literal tables L = record {
    tokens = close_brace_part.some.tokens;
    value = [];
    spells = left close_brace_part.some.tokens [] (mapped close_brace_part.some.tokens tt close_brace_part.some.spells);
  }

  -- ( begins a method's arguments at each level
  held_args : (L : Lang GrammarToken ExprTree) (t : GrammarToken) (y : Unit {0}) → opening t
      ≡ Some y → (tail : List GrammarToken) × (x : Option (List ExprTree)) × Mapped Some (Grammar.args L) (t ∷ tail) x
  held_args L t y q =
      let d = deeper keep_second opening {L = Either (Mapped none_of (One closing)) (Grammar.items L ◂ One closing)}
      (record {
        tokens = closing_part.some.tokens;
        value = [];
        spells = left closing_part.some.tokens []
            (mapped closing_part.some.tokens tt closing_part.some.spells);
      }) t y q in
      (d.0, Some d.1, mapped (t ∷ d.0) d.1 d.2)

  module _ (tables : TokenTables) (room room' : Bool) (rs : Rooms P room room') (E U F G : Lang GrammarToken ExprTree)
      (e u e' u' : TokenReader GrammarToken ExprTree) (i : Inner P room E U F G e u e' u') where
    -- a primary, from each of its alternatives on

    abbrev From_literal : Lang GrammarToken ExprTree
    From_literal = if_room room (Grammar.object_literal tables E)

    abbrev From_object : Lang GrammarToken ExprTree
    From_object = Either (if_room room (Grammar.static_call word.Object keys_word (Grammar.args E))) From_literal

    abbrev From_uri : Lang GrammarToken ExprTree
    From_uri = Either (if_room room (Grammar.uri_primary E)) From_object

    abbrev From_json : Lang GrammarToken ExprTree
    From_json = Either (if_room room (Grammar.static_call word.Json stringify_word (Mapped single_of (Grammar.parens E)))) From_uri

    abbrev From_symbol : Lang GrammarToken ExprTree
    From_symbol = Either (if_room room (Grammar.static_call word.Symbol symbol_function (Grammar.args E))) From_json

    abbrev From_string : Lang GrammarToken ExprTree
    From_string = Either (if_room room (Grammar.string_primary E)) From_symbol

    abbrev From_parens : Lang GrammarToken ExprTree
    From_parens = Either (if_room room (Grammar.parens E)) From_string

    literal_starts : Starts From_literal (over class 7)
    literal_starts = room_starts room (over class 7) (first_over class open_literal 8 7 literal_of refl)

    object_starts : Starts From_object (over class 6)
    object_starts = either_starts (if_room room (Grammar.static_call word.Object keys_word (Grammar.args E))) From_literal (over class 6)
        (room_starts room (over class 6) (first_over class object_word 7 6 object_word_of refl)) (lower class 7 6 refl literal_starts)

    uri_starts : Starts From_uri (over class 5)
    uri_starts = either_starts (if_room room (Grammar.uri_primary E)) From_object (over class 5)
        (room_starts room (over class 5) (first_over class uri_function 6 5 uri_function_of refl)) (lower class 6 5 refl object_starts)

    json_starts : Starts From_json (over class 4)
    json_starts = either_starts (if_room room (Grammar.static_call word.Json stringify_word (Mapped single_of (Grammar.parens E)))) From_uri
        (over class 4) (room_starts room (over class 4) (first_over class json_word 5 4 json_of refl)) (lower class 5 4 refl uri_starts)

    symbol_starts : Starts From_symbol (over class 3)
    symbol_starts = either_starts (if_room room (Grammar.static_call word.Symbol symbol_function (Grammar.args E))) From_json (over class 3)
        (room_starts room (over class 3) (first_over class symbol_word 4 3 symbol_of refl)) (lower class 4 3 refl json_starts)

    string_starts : Starts From_string (over class 2)
    string_starts = either_starts (if_room room (Grammar.string_primary E)) From_symbol (over class 2)
        (room_starts room (over class 2) (first_over class string_word 3 2 string_of refl)) (lower class 3 2 refl symbol_starts)

    parens_starts : Starts From_parens (over class 1)
    parens_starts = either_starts (if_room room (Grammar.parens E)) From_string (over class 1)
        (room_starts room (over class 1) (first_over class opening 2 1 opening_of refl)) (lower class 2 1 refl string_starts)

    primary_starts : Starts (Grammar.primary tables room E) (over class 0)
    primary_starts = either_starts (One (simple tables)) From_parens (over class 0) (one_over class (simple tables) 1 0 (simple_of tables) refl) (lower class 1 0 refl parens_starts)

    some_primary : Holds (Grammar.primary tables room E)
    some_primary = record {
      tokens = sample (kind.Number 0) ∷ [];
      value = tree.number 0;
      spells = left (sample (kind.Number 0) ∷ []) (tree.number 0) (one (sample (kind.Number 0)) (tree.number 0) refl);
    }

    primary_part : Part P (Grammar.primary tables room E) (Grammar.primary tables true F) anything (read_primary tables room e) (read_primary tables room' e')
    primary_part =
        let literals = open_branch room room' rs open_literal (λ r. branch (literal_part (i.whole r) tables)
        (λ ts x h. right ts x (right ts x (right ts x (right ts x (right ts x
        (right ts x (right ts x (in_room room (Grammar.object_literal tables E) r ts x h)))))))))
        some_primary (deeper object_of open_literal (held_literal tables F)) (then_strict object_of open_literal (read_members tables e')) in
        let objects = choose_branch (heads object_word) (heads_test object_word)
        (open_branch room room' rs object_word (λ r. branch (object_call_part (i.whole r) (i.first_whole r))
        (λ ts x h. right ts x (right ts x (right ts x (right ts x (right ts x
        (right ts x (left ts x (in_room room (Grammar.static_call word.Object keys_word (Grammar.args E)) r ts x h)))))))))
        some_primary (deeper builtin_of object_word (held_object_call F))
        (then_strict builtin_of object_word (and_then keep_second (one_of point) (and_then pair_of (one_of keys_word) (read_args e')))))
        literals (λ ts x rest h. then_heads object_word ts x rest (room_of room (Grammar.static_call word.Object keys_word (Grammar.args E))
        ts x h)) (λ ts x rest h s. lacks class object_word 7 7 object_word_of (omega arith) literal_starts ts x rest h) in
        let uris = choose_branch (heads uri_function) (heads_test uri_function)
        (open_branch room room' rs uri_function (λ r. branch (uri_part (i.whole r) (i.first_whole r))
        (λ ts x h. right ts x (right ts x (right ts x (right ts x (right ts x (left ts x (in_room room (Grammar.uri_primary E) r ts x h))))))))
        some_primary (deeper uri_of uri_function (no_args F)) (then_strict uri_of uri_function (read_args e')))
        objects (λ ts x rest h. then_heads uri_function ts x rest (room_of room (Grammar.uri_primary E) ts x h))
        (λ ts x rest h s. lacks class uri_function 6 6 uri_function_of (omega arith) object_starts ts x rest h) in
        let json = choose_branch (heads json_word) (heads_test json_word)
        (open_branch room room' rs json_word (λ r. branch (json_part (i.whole r))
        (λ ts x h. right ts x (right ts x (right ts x (right ts x (left ts x
        (in_room room (Grammar.static_call word.Json stringify_word (Mapped single_of (Grammar.parens E))) r ts x h)))))))
        some_primary (deeper builtin_of json_word (held_json i.held_whole))
        (then_strict builtin_of json_word (and_then keep_second (one_of point) (and_then pair_of (one_of stringify_word) (map_by single_of (read_parens e'))))))
        uris (λ ts x rest h. then_heads json_word ts x rest (room_of room
        (Grammar.static_call word.Json stringify_word (Mapped single_of (Grammar.parens E))) ts x h))
        (λ ts x rest h s. lacks class json_word 5 5 json_of (omega arith) uri_starts ts x rest h) in
        let symbols = choose_branch (heads symbol_word) (heads_test symbol_word)
        (open_branch room room' rs symbol_word (λ r. branch (symbol_part (i.whole r) (i.first_whole r))
        (λ ts x h. right ts x (right ts x (right ts x (left ts x (in_room room (Grammar.static_call word.Symbol symbol_function (Grammar.args E)) r ts x h))))))
        some_primary (deeper builtin_of symbol_word (held_symbol F)) (then_strict builtin_of symbol_word
        (and_then keep_second (one_of point) (and_then pair_of (one_of symbol_function) (read_args e')))))
        json (λ ts x rest h. then_heads symbol_word ts x rest (room_of room
        (Grammar.static_call word.Symbol symbol_function (Grammar.args E)) ts x h))
        (λ ts x rest h s. lacks class symbol_word 4 4 symbol_of (omega arith) json_starts ts x rest h) in
        let strings = choose_branch (heads string_word) (heads_test string_word)
        (open_branch room room' rs string_word (λ r. branch (string_part (i.whole r) (i.first_whole r))
        (λ ts x h. right ts x (right ts x (left ts x (in_room room (Grammar.string_primary E) r ts x h)))))
        some_primary (deeper builtin_of string_word (held_string F)) (then_strict builtin_of string_word
        (choose (heads point) (and_then keep_second (one_of point) (and_then pair_of (one_of from_word) (read_args e'))) (map_by plain_string (read_args e')))))
        symbols (λ ts x rest h. then_heads string_word ts x rest (room_of room (Grammar.string_primary E) ts x h))
        (λ ts x rest h s. lacks class string_word 3 3 string_of (omega arith) symbol_starts ts x rest h) in
        let opened = choose_branch (heads opening) (heads_test opening)
        (open_branch room room' rs opening (λ r. branch (parens_part (i.whole r)) (λ ts x h. right ts x (left ts x (in_room room (Grammar.parens E) r ts x h))))
        some_primary (deeper keep_second opening (both_hold keep_first i.held_whole closing_part.some)) (then_strict keep_second opening (and_then keep_first e' (one_of closing))))
        strings (λ ts x rest h. then_heads opening ts x rest (room_of room (Grammar.parens E) ts x h)) (λ ts x rest h s. lacks class opening 2 2 opening_of (omega arith) string_starts ts x rest h) in
        part_of (choose_branch (heads (simple tables)) (heads_test (simple tables)) (branch (one_part P (simple tables) (sample (kind.Number 0)) (tree.number 0) refl) (λ ts x h. left ts x h)) opened
        (one_heads (simple tables)) (λ ts x rest h s. lacks class (simple tables) 1 1 (simple_of tables) (omega arith) parens_starts ts x rest h)) some_primary

    -- what stands behind a method's word

    args_heads : (ts : List GrammarToken) (x : Option (List ExprTree)) (rest : List GrammarToken) → Mapped Some (Grammar.args E) ts x → heads opening (ts ++ rest) ≡ true
    args_heads _ _ rest (mapped a x h) = then_heads opening a x rest h

    no_args_here : (ts : List GrammarToken) (x : Option (List ExprTree)) (rest : List GrammarToken) → Nothing None ts x → stops 8 rest ≡ true → heads opening (ts ++ rest) ≡ false
    no_args_here _ _ rest (nothing x h) s = none_of_level opening 8 8 opening_level (omega arith) rest s

    some_method_args : Holds (method_args room E)
    some_method_args = record { tokens = []; value = None; spells = right [] None (nothing None refl) }

    method_args_part : Part P (method_args room E) (method_args true F) (stops 8) (read_method_args room e) (read_method_args room' e')
    method_args_part = part_of
        (choose_branch (heads opening) (heads_test opening)
        (open_branch room room' rs opening
        (λ r. sooner (λ q h. refl) (branch (map_part Some (args_part (i.whole r) (i.first_whole r))) (λ ts x h. left ts x (in_room room (Mapped Some (Grammar.args E)) r ts x h))))
        some_method_args (held_args F)
        (map_strict Some opening (read_args e') (then_strict keep_second opening (choose (heads closing) (map_by none_of (one_of closing)) (and_then keep_first (read_items e') (one_of closing))))))
        (nothing_branch P None)
        (λ ts x rest h. args_heads ts x rest (room_of room (Mapped Some (Grammar.args E)) ts x h))
        no_args_here)
        some_method_args

    -- what stands behind a point

    abbrev Word : Lang GrammarToken StepTree
    Word = Either (One member_word) (Either (One (property_word tables)) (Then method_step (One (method tables)) (method_args room E)))

    some_word : Holds Word
    some_word = record {
      tokens = sample (kind.Name 0 property.Length) ∷ [];
      value = tree.of_length;
      spells = left (sample (kind.Name 0 property.Length) ∷ []) tree.of_length (one (sample (kind.Name 0 property.Length)) tree.of_length refl);
    }

    no_member : (ts : List GrammarToken) (x : StepTree) (rest : List GrammarToken) → Either (One (property_word tables))
        (Then method_step (One (method tables)) (method_args room E)) ts x → heads member_word (ts ++ rest) ≡ false
    no_member = either_lacks member_word
        (one_lacks part member_of (property_of tables) (λ q. omega arith))
        (then_lacks part member_of (method_word_of tables) (λ q. omega arith))

    methods_branch : Branch P Word (Then method_step (One (method tables)) (method_args room E))
        (Then method_step (One (method tables)) (method_args true F)) (stops 8)
        (and_then method_step (one_of (method tables)) (read_method_args room e)) (and_then method_step (one_of (method tables)) (read_method_args room' e'))
    methods_branch = branch (next_part method_step (one_part P (method tables) (sample (kind.Name 0 (property.Method methods.At))) _ refl) method_args_part) (λ ts x h. right ts x (right ts x h))

    word_part : Part P Word (Either (One member_word) (Either (One (property_word tables))
        (Then method_step (One (method tables)) (method_args true F)))) (stops 8) (read_word tables room e) (read_word tables room' e')
    word_part =
        let properties = choose_branch (heads (property_word tables)) (heads_test (property_word tables))
        (sooner (λ q h. refl) (branch (one_part P (property_word tables) (sample (kind.Name 0 property.Nothing)) _ refl) (λ ts x h. right ts x (left ts x h))))
        methods_branch
        (one_heads (property_word tables))
        (λ ts x rest h s. then_lacks part (property_of tables) (method_word_of tables) (λ q. omega arith) ts x rest h) in
        part_of
        (choose_branch (heads member_word) (heads_test member_word)
        (sooner (λ q h. refl) (branch (one_part P member_word (sample (kind.Name 0 property.Length)) tree.of_length refl) (λ ts x h. left ts x h)))
        properties
        (one_heads member_word)
        (λ ts x rest h s. no_member ts x rest h))
        some_word

    member_part : Part P (Grammar.member tables room E) (Grammar.member tables true F) (stops 8) (read_member tables room e) (read_member tables room' e')
    member_part = next_part keep_second point_part word_part

    some_step : Holds (Grammar.step tables room E)
    some_step = record { tokens = member_part.some.tokens; value = member_part.some.value; spells = left member_part.some.tokens member_part.some.value member_part.some.spells }

    pub step_part : Part P (Grammar.step tables room E) (Grammar.step tables true F) (stops 8) (read_step tables room e) (read_step tables room' e')
    step_part = part_of
        (choose_branch (heads point) (heads_test point)
        (branch member_part (λ ts x h. left ts x h))
        (open_branch room room' rs open_bracket (λ r. sooner (λ q h. refl) (branch (index_part (i.whole r)) (λ ts x h. right ts x (in_room room (index E) r ts x h))))
        some_step
        (deeper index_read open_bracket (both_hold keep_first i.held_whole close_bracket_part.some))
        (then_strict index_read open_bracket (and_then keep_first e' (one_of close_bracket))))
        (λ ts x rest h. then_heads point ts x rest h)
        (λ ts x rest h s. then_lacks part point_of bracket_of (λ q. omega arith) ts x rest (room_of room (index E) ts x h)))
        some_step

    pub step_starts : Starts (Grammar.step tables room E) is_step
    step_starts = either_starts (Grammar.member tables room E) (if_room room (index E)) is_step
        (then_starts keep_second (One point) Word is_step (one_starts point is_step point_step))
        (room_starts room is_step (then_starts index_read (One open_bracket) (E ◂ One close_bracket) is_step (one_starts open_bracket is_step bracket_step)))

    post_part : Part P (Grammar.post tables room E) (Grammar.post tables true F) (stops 7) (read_post tables room e) (read_post tables room' e')
    post_part = next_part post_of primary_part (many_part (heads step_mark) (stops 7) step_part (record {
      test = heads_test step_mark;
      none = refl;
      eats = λ ts x h. begins_length is_step ts (step_starts.by ts x h);
      begins = λ ts x rest h. head_gives is_step (heads step_mark) true (λ t s q. q) ts rest (step_starts.by ts x h);
      again = λ ts x rest h. head_gives is_step (stops 8) true (λ t s q. step_no_args t q) ts rest (step_starts.by ts x h);
      ends = none_of_level step_mark 7 7 step_level (omega arith);
      over = λ rest s. stops_more 7 8 rest (omega arith) s;
    }))

    post_starts : Starts (Grammar.post tables room E) (over class 0)
    post_starts = then_starts post_of (Grammar.primary tables room E) (Many (Grammar.step tables room E)) (over class 0) primary_starts

    some_unary : Holds (Grammar.unary tables room E U)
    some_unary = record { tokens = post_part.some.tokens; value = post_part.some.value; spells = right post_part.some.tokens post_part.some.value post_part.some.spells }

    pub unary_part : Part P (Grammar.unary tables room E U) (Grammar.unary tables true F G) (stops 7) (read_unary tables room e u) (read_unary tables room' e' u')
    unary_part = part_of
        (choose_branch (heads sign) (heads_test sign)
        (open_branch room room' rs sign (λ r. branch (next_part unary_of (one_part P sign (sample (kind.Mark mark.Minus)) _ refl)
        (i.operand r)) (λ ts x h. left ts x (in_room room (Then unary_of (One sign) U) r ts x h)))
        some_unary (deeper unary_of sign i.held_operand) (then_strict unary_of sign u'))
        (branch post_part (λ ts x h. right ts x h))
        (λ ts x rest h. then_heads sign ts x rest (room_of room (Then unary_of (One sign) U) ts x h))
        (λ ts x rest h s. lacks class sign 0 0 sign_of (omega arith) post_starts ts x rest h))
        some_unary

    pub unary_starts : Starts (Grammar.unary tables room E U) begins_unary
    unary_starts = either_starts (if_room room (Then unary_of (One sign) U)) (Grammar.post tables room E) begins_unary
        (room_starts room begins_unary (then_starts unary_of (One sign) U begins_unary (one_starts sign begins_unary sign_begins)))
        (record { by = λ ts x h. raised ts (post_starts.by ts x h) })
      where
        raised : (ts : List GrammarToken) → Begins (over class 0) ts → Begins begins_unary ts
        raised [] h = absurd h
        raised (t ∷ ts) h = primary_begins t h

  -- a chain of level k over what the level above ends
  pub chain_part : (o : GrammarToken → Option (ℕ × Op)) (k k' : ℕ) → HasLevel o k → nat_lt k k' ≡ true →
      k ≤ k' → (t : GrammarToken) (x : ℕ × Op) → o t ≡ Some x → {L D : Lang GrammarToken ExprTree} {r r' : TokenReader GrammarToken ExprTree}
      → Part P L D (stops k') r r' → Part P (Then chain_of L (Many (Then link_of (One o) L)))
      (Then chain_of D (Many (Then link_of (One o) D))) (stops k) (read_chain o r) (read_chain o r')
  chain_part o k k' of lt le t x some_op {L = L} p = then_part chain_of p (many_part (heads o) (stops k) (next_part link_of (one_part P o t x some_op) p) (record {
    test = heads_test o;
    none = refl;
    eats = λ ts x h. then_some o ts x h;
    begins = λ ts x rest h. then_heads o ts x rest h;
    again = λ ts x rest h. then_stops o k k' of lt ts x rest h;
    ends = none_of_level o k k of (omega arith);
    over = λ rest s. stops_more k k' rest le s;
  })) follows
    where
      follows : (b : List GrammarToken) (y : List LinkTree) (rest : List GrammarToken) → Many (Then link_of (One o) L) b y → stops k rest ≡ true → stops k' (b ++ rest) ≡ true
      follows _ _ rest end s = stops_more k k' rest le s
      follows _ _ rest (more a b x xs ha hb) s = rw (append_assoc a b rest) (then_stops o k k' of lt a x (b ++ rest) ha)

  module _ (tables : TokenTables) (room room' : Bool) (rs : Rooms P room room') (E U F G : Lang GrammarToken ExprTree)
      (e u e' u' : TokenReader GrammarToken ExprTree) (i : Inner P room E U F G e u e' u') where
    pub sum_part : Part P (Grammar.additive tables room E U) (Grammar.additive tables true F G) (stops 6) (read_sum tables room e u) (read_sum tables room' e' u')
    sum_part = chain_part sum_op 6 7 sum_level refl (omega arith) (sample (kind.Mark mark.Plus)) _ refl (unary_part tables room room' rs E U F G e u e' u' i)

    pub comparison_part : Part P (Grammar.comparison tables room E U) (Grammar.comparison tables true F G) (stops 5) (read_comparison tables room e u) (read_comparison tables room' e' u')
    comparison_part = chain_part compare_op 5 6 compare_level refl (omega arith) (sample (kind.Mark mark.Less)) _ refl sum_part

    pub equality_part : Part P (Grammar.equality tables room E U) (Grammar.equality tables true F G) (stops 4) (read_equality tables room e u) (read_equality tables room' e' u')
    equality_part = chain_part equal_op 4 5 equal_level refl (omega arith) (sample (kind.Mark mark.StrictEqual)) _ refl comparison_part

    pub conjunction_part : Part P (Grammar.conjunction tables room E U) (Grammar.conjunction tables true F G) (stops 3) (read_conjunction tables room e u) (read_conjunction tables room' e' u')
    conjunction_part = chain_part and_op 3 4 and_level refl (omega arith) (sample (kind.Mark mark.And)) _ refl equality_part

    pub disjunction_part : Part P (Grammar.disjunction tables room E U) (Grammar.disjunction tables true F G) (stops 2) (read_disjunction tables room e u) (read_disjunction tables room' e' u')
    disjunction_part = chain_part or_op 2 3 or_level refl (omega arith) (sample (kind.Mark mark.Or)) _ refl conjunction_part

    pub whole_part : Part P (Grammar.conditional tables room E U) (Grammar.conditional tables true F G) (stops 1) (read_conditional tables room e u) (read_conditional tables room' e' u')
    whole_part = then_part cond_of disjunction_part (part_of
        (choose_branch (heads question) (heads_test question)
        (open_branch room room' rs question (λ r. branch (branches_part (i.whole r)) (λ ts x h. left ts x (in_room room (branches E) r ts x h)))
        none_here
        (deeper keep_second question (both_hold branches_of i.held_whole (both_hold keep_second colon_part.some i.held_whole)))
        (then_strict keep_second question (and_then branches_of e' (and_then keep_second (one_of colon) e'))))
        (nothing_branch P None)
        (λ ts x rest h. then_heads question ts x rest (room_of room (branches E) ts x h))
        ended)
        none_here) follows
      where
        none_here : Holds (Either (if_room room (branches E)) (Nothing None))
        none_here = record { tokens = []; value = None; spells = right [] None (nothing None refl) }

        ended : (ts : List GrammarToken) (x : Option (ExprTree × ExprTree)) (rest : List GrammarToken) → Nothing None ts x → stops 1 rest ≡ true → heads question (ts ++ rest) ≡ false
        ended _ _ rest (nothing x h) s = none_of_level question 1 1 question_level (omega arith) rest s

        nothing_stops : (b : List GrammarToken) (y : Option (ExprTree × ExprTree)) (rest : List GrammarToken) → Nothing None b y → stops 1 rest ≡ true → stops 2 (b ++ rest) ≡ true
        nothing_stops _ _ rest (nothing x h) s = stops_more 1 2 rest (omega arith) s

        follows : (b : List GrammarToken) (y : Option (ExprTree × ExprTree)) (rest : List GrammarToken) → Either (if_room room (branches E))
            (Nothing None) b y → stops 1 rest ≡ true → stops 2 (b ++ rest) ≡ true
        follows _ _ rest (left b y h) s = then_stops question 1 2 question_level refl b y rest (room_of room (branches E) b y h)
        follows _ _ rest (right b y h) s = nothing_stops b y rest h s

    pub sum_starts : Starts (Grammar.additive tables room E U) begins_unary
    sum_starts = then_starts chain_of (Grammar.unary tables room E U) (Many (Then link_of (One sum_op) (Grammar.unary tables room E U)))
        begins_unary (unary_starts tables room room' rs E U F G e u e' u' i)

    pub comparison_starts : Starts (Grammar.comparison tables room E U) begins_unary
    comparison_starts = then_starts chain_of (Grammar.additive tables room E U) (Many (Then link_of (One compare_op) (Grammar.additive tables room E U))) begins_unary sum_starts

    pub equality_starts : Starts (Grammar.equality tables room E U) begins_unary
    equality_starts = then_starts chain_of (Grammar.comparison tables room E U) (Many (Then link_of (One equal_op) (Grammar.comparison tables room E U))) begins_unary comparison_starts

    pub conjunction_starts : Starts (Grammar.conjunction tables room E U) begins_unary
    conjunction_starts = then_starts chain_of (Grammar.equality tables room E U) (Many (Then link_of (One and_op) (Grammar.equality tables room E U))) begins_unary equality_starts

    pub disjunction_starts : Starts (Grammar.disjunction tables room E U) begins_unary
    disjunction_starts = then_starts chain_of (Grammar.conjunction tables room E U) (Many (Then link_of (One or_op) (Grammar.conjunction tables room E U))) begins_unary conjunction_starts

    pub whole_starts : Starts (Grammar.conditional tables room E U) begins_unary
    whole_starts = then_starts cond_of (Grammar.disjunction tables room E U) (Either (if_room room (branches E)) (Nothing None)) begins_unary disjunction_starts
