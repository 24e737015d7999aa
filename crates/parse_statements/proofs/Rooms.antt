-- The readers of expressions at their first tokens, over those that the parser's functions call.
use Rattle.std.proofs.Common.{◌≡◌, ℕ, zero, suc, ◌-◌, ◌<◌, Bool, true, false, List, [], ◌∷◌, Option, Some, None, refl, sym, ap, ◌∙◌, subst, arith}
use Rattle.js_lex.specs.declared.token.Mark.TheVariants as mark
use Rattle.parse_syntax.specs.Reader.{Answer, Got, Bad, Wrong, TokenReader, ◌>>=◌, wrong, too_deep, and_then, map_by, take_or, one_of, choose, opens, heads, keep_first, keep_second}
use Rattle.parse_syntax.proofs.Part.{then_strict}
use Rattle.parse_syntax.proofs.Stops.{with_kind}
use Rattle.parse_syntax.specs.declared.token.GrammarToken.{GrammarToken}
use Rattle.parse_syntax.specs.Tables.{TokenTables}
use Rattle.parse_syntax.specs.declared.token.GrammarKind.{GrammarKind}
use Rattle.parse_syntax.specs.declared.token.GrammarKind.TheVariants as kind
use Rattle.parse_syntax.specs.declared.token.Word.TheVariants as word
use Rattle.parse_syntax.specs.declared.token.Property.TheVariants as property
use Rattle.eval_tree.specs.declared.tree.Method.{Method}
use Rattle.eval_tree.specs.declared.tree.Builtin.{Builtin}
use Rattle.eval_tree.specs.declared.tree.Builtin.TheVariants as builtin
use Rattle.eval_tree.specs.Tree as tree
use Rattle.eval_tree.specs.Tree.{ExprTree, StepTree}
use Rattle.parse_syntax.specs.Terminals.{member_word, property_word, method, key, simple, from_word, symbol_function, stringify_word, keys_word}
use Rattle.parse_syntax.specs.Grammar.{pair_of, builtin_of, method_step, cond_of}
use Rattle.parse_syntax.specs.Reading.{single_of, plain_string, uri_of, object_of, index_read, unary_of, branches_of, Whole, Operand}
use Rattle.parse_syntax.specs.Reading.{read_within, read_parens, read_args, read_index, read_members, read_literal, read_method_args, read_word}
use Rattle.parse_statements.specs.declared.look.Level.TheVariants as level
use Rattle.parse_statements.specs.declared.look.Opener.{Opener}
use Rattle.parse_statements.specs.declared.look.Opener.TheVariants as opener
use Rattle.parse_statements.specs.Look.{opener_of, openers, read_string_called, read_called}
use Rattle.parse_statements.specs.At.{has_room, inner, parens_at, args_at, given_at, builtin_at, entry_at, members_at, literal_at, primary_at, member_at}
use Rattle.parse_statements.specs.At.{step_at, post_at, unary_at, chain_at, branches_at, expression_at}
use Rattle.std.specs.Prelude.{is_some}
use Rattle.parse_syntax.specs.MarksAndWords.{opening, closing, open_bracket, close_bracket, open_literal, point, question, colon, sign, string_word, symbol_word, json_word, object_word, uri_function}

-- answers

pub bind_got : {A : Type 0} (a : Answer GrammarToken A) → (a >>= λ x r. Got x r) ≡ a
bind_got (Got x r) = refl
bind_got (Bad k r) = refl

pub bind_bind : {A B C : Type 0} (a : Answer GrammarToken A) (f : A → List GrammarToken → Answer GrammarToken B) (g : B → List GrammarToken
    → Answer GrammarToken C) → ((a >>= f) >>= g) ≡ (a >>= λ x r. f x r >>= g)
bind_bind (Got x r) f g = refl
bind_bind (Bad k r) f g = refl

-- a word, and then what hands on its value
module _ {A B : Type 0} (v : GrammarToken → Option A) (q : TokenReader GrammarToken B) where
  then_got : (a : Answer GrammarToken A) → (a >>= λ x r. q r >>= λ y r'. Got y r') ≡ (a >>= λ _ r. q r)
  then_got (Bad k r) = refl
  then_got (Got x r) = bind_got (q r)

  pub word_then : (s : List GrammarToken) → and_then keep_second (one_of v) q s ≡ (one_of v s >>= λ _ r. q r)
  word_then s = then_got (one_of v s)

pub head_of : {A : Type 0} (v : GrammarToken → Option A) (s : List GrammarToken) (x : A) (rest : List GrammarToken) → one_of v s ≡ Got x rest → heads v s ≡ true
head_of v [] x rest e = cc
head_of v (t ∷ s) x rest e = go (v t) e
  where
    go : (o : Option _) → take_or o t s ≡ Got x rest → is_some o ≡ true
    go None e = cc
    go (Some y) e = refl

-- rooms

pub room_for : (n : ℕ) → 0 < n → has_room n ≡ true
room_for zero h = absurd (omega arith)
room_for (suc n) h = refl

pub no_room_for : (n : ℕ) → n ≡ 0 → has_room n ≡ false
no_room_for zero h = refl
no_room_for (suc n) h = absurd (omega arith)

pub less_one : (n : ℕ) → suc n - 1 ≡ n
less_one n = omega arith

-- none of these begins a primary

-- what opens nothing isn't of a kind that does
none_opens : {A : Type 0} (v : GrammarToken → Option A) → ((t : GrammarToken) (k : GrammarKind) → opener_of (with_kind t k) ≡ None → is_some
    (v (with_kind t k)) ≡ false) → (s : List GrammarToken) → openers s ≡ None → heads v s ≡ false
none_opens v h [] o = refl
none_opens v h (t ∷ s) o = h t t.kind o

no_opening : (s : List GrammarToken) → openers s ≡ None → heads opening s ≡ false
no_opening = none_opens opening go
  where
    go : (t : GrammarToken) (k : GrammarKind) → opener_of (with_kind t k) ≡ None → is_some (opening (with_kind t k)) ≡ false
    go t (kind.Mark mark.OpenParen) o = cc
    go t _ o = refl

no_string : (s : List GrammarToken) → openers s ≡ None → heads string_word s ≡ false
no_string = none_opens string_word go
  where
    go : (t : GrammarToken) (k : GrammarKind) → opener_of (with_kind t k) ≡ None → is_some (string_word (with_kind t k)) ≡ false
    go t (kind.Word word.String number) o = cc
    go t _ o = refl

no_symbol : (s : List GrammarToken) → openers s ≡ None → heads symbol_word s ≡ false
no_symbol = none_opens symbol_word go
  where
    go : (t : GrammarToken) (k : GrammarKind) → opener_of (with_kind t k) ≡ None → is_some (symbol_word (with_kind t k)) ≡ false
    go t (kind.Word word.Symbol number) o = cc
    go t _ o = refl

no_json : (s : List GrammarToken) → openers s ≡ None → heads json_word s ≡ false
no_json = none_opens json_word go
  where
    go : (t : GrammarToken) (k : GrammarKind) → opener_of (with_kind t k) ≡ None → is_some (json_word (with_kind t k)) ≡ false
    go t (kind.Word word.Json number) o = cc
    go t _ o = refl

no_uri : (s : List GrammarToken) → openers s ≡ None → heads uri_function s ≡ false
no_uri = none_opens uri_function go
  where
    go : (t : GrammarToken) (k : GrammarKind) → opener_of (with_kind t k) ≡ None → is_some (uri_function (with_kind t k)) ≡ false
    go t (kind.Word word.EncodeUri number) o = cc
    go t (kind.Word word.EncodeUriComponent number) o = cc
    go t (kind.Word word.DecodeUri number) o = cc
    go t (kind.Word word.DecodeUriComponent number) o = cc
    go t _ o = refl

no_object : (s : List GrammarToken) → openers s ≡ None → heads object_word s ≡ false
no_object = none_opens object_word go
  where
    go : (t : GrammarToken) (k : GrammarKind) → opener_of (with_kind t k) ≡ None → is_some (object_word (with_kind t k)) ≡ false
    go t (kind.Word word.Object number) o = cc
    go t _ o = refl

no_literal : (s : List GrammarToken) → openers s ≡ None → heads open_literal s ≡ false
no_literal = none_opens open_literal go
  where
    go : (t : GrammarToken) (k : GrammarKind) → opener_of (with_kind t k) ≡ None → is_some (open_literal (with_kind t k)) ≡ false
    go t (kind.Mark mark.OpenBrace) o = cc
    go t _ o = refl

-- the functions of String, Symbol and Object have any number of arguments

from_plain : (s r : List GrammarToken) (w : Builtin) → one_of from_word s ≡ Got w r → w ≡ builtin.Stringify → ⊥
from_plain [] r w e = cc
from_plain (t ∷ s) r w e = go t t.kind e
  where
    go : (t : GrammarToken) (k : GrammarKind) → take_or (from_word (with_kind t k)) t s ≡ Got w r → w ≡ builtin.Stringify → ⊥
    go t (kind.Name n property.FromCharCode) e = λ h. let q : builtin.FromCharCode ≡ w = cc in let z : builtin.FromCharCode ≡ builtin.Stringify = q ∙ h in cc
    go t (kind.Name n property.FromCodePoint) e = λ h. let q : builtin.FromCodePoint ≡ w = cc in let z : builtin.FromCodePoint ≡ builtin.Stringify = q ∙ h in cc
    go t _ e = cc

symbol_plain : (s r : List GrammarToken) (w : Builtin) → one_of symbol_function s ≡ Got w r → w ≡ builtin.Stringify → ⊥
symbol_plain [] r w e = cc
symbol_plain (t ∷ s) r w e = go t t.kind e
  where
    go : (t : GrammarToken) (k : GrammarKind) → take_or (symbol_function (with_kind t k)) t s ≡ Got w r → w ≡ builtin.Stringify → ⊥
    go t (kind.Word word.For number) e = λ h. let q : builtin.SymbolFor ≡ w = cc in let z : builtin.SymbolFor ≡ builtin.Stringify = q ∙ h in cc
    go t (kind.Name n property.KeyFor) e = λ h. let q : builtin.KeyFor ≡ w = cc in let z : builtin.KeyFor ≡ builtin.Stringify = q ∙ h in cc
    go t _ e = cc

keys_plain : (s r : List GrammarToken) (w : Builtin) → one_of keys_word s ≡ Got w r → w ≡ builtin.Stringify → ⊥
keys_plain [] r w e = cc
keys_plain (t ∷ s) r w e = go t t.kind e
  where
    go : (t : GrammarToken) (k : GrammarKind) → take_or (keys_word (with_kind t k)) t s ≡ Got w r → w ≡ builtin.Stringify → ⊥
    go t (kind.Name n property.Keys) e = λ h. let q : builtin.Keys ≡ w = cc in let z : builtin.Keys ≡ builtin.Stringify = q ∙ h in cc
    go t _ e = cc

json_one : (s r : List GrammarToken) (w : Builtin) → one_of stringify_word s ≡ Got w r → w ≡ builtin.Stringify
json_one [] r w e = cc
json_one (t ∷ s) r w e = go t t.kind e
  where
    go : (t : GrammarToken) (k : GrammarKind) → take_or (stringify_word (with_kind t k)) t s ≡ Got w r → w ≡ builtin.Stringify
    go t (kind.Name n property.Stringify) e = let q : builtin.Stringify ≡ w = cc in sym q
    go t _ e = cc

module _ (tables : TokenTables) where
  whole_is : (n : ℕ) → read_within tables n Whole ≡ expression_at tables n
  unfolding expression_at
  whole_is zero = refl
  whole_is (suc n) = refl

  operand_is : (n : ℕ) → read_within tables n Operand ≡ unary_at tables n
  unfolding unary_at
  operand_is zero = refl
  operand_is (suc n) = refl

  pub inner_whole : (n : ℕ) → 0 < n → inner tables n Whole ≡ expression_at tables (n - 1)
  inner_whole zero h = absurd (omega arith)
  inner_whole (suc n) h = subst (λ m. read_within tables n Whole ≡ expression_at tables m) (sym (less_one n)) (whole_is n)

  pub inner_operand : (n : ℕ) → 0 < n → inner tables n Operand ≡ unary_at tables (n - 1)
  inner_operand zero h = absurd (omega arith)
  inner_operand (suc n) h = subst (λ m. read_within tables n Operand ≡ unary_at tables m) (sym (less_one n)) (operand_is n)

  pub parens_is : (n : ℕ) (s : List GrammarToken) → 0 < n → parens_at tables n s ≡ (one_of opening s >>= λ _ r. expression_at tables (n - 1) r >>= λ x r. one_of closing r >>= λ _ r. Got x r)
  unfolding parens_at
  parens_is n s h = word_then opening (and_then keep_first (inner tables n Whole) (one_of closing)) s ∙ ap
      (λ q. one_of opening s >>= λ _ r. q r >>= λ x r. one_of closing r >>= λ _ r. Got x r) (inner_whole n h)

  -- built-in functions

  pub given_args : (n : ℕ) (w : Builtin) (s : List GrammarToken) → (w ≡ builtin.Stringify → ⊥) → given_at tables n w s ≡ args_at tables n s
  unfolding given_at args_at
  given_args n builtin.Stringify s h = absurd (h refl)
  given_args n _ s h = refl

  pub given_one : (n : ℕ) (w : Builtin) (s : List GrammarToken) → w ≡ builtin.Stringify → given_at tables n w s ≡ (parens_at tables n s >>= λ x r. Got (x ∷ []) r)
  unfolding given_at parens_at
  given_one n w s h = rw h refl

  -- what is called, with its arguments
  abbrev calling : ℕ → ℕ → Builtin → List GrammarToken → Answer GrammarToken ExprTree
  calling n at w r = given_at tables n w r >>= λ ts r'. Got (builtin_of at (w, ts)) r'

  plain_call : (n at : ℕ) (s : List GrammarToken) → (map_by plain_string (read_args (inner tables n Whole)) s >>= λ p r. Got (builtin_of at p) r) ≡ calling n at builtin.String s
  unfolding given_at
  plain_call n at s = bind_bind (read_args (inner tables n Whole) s) (λ ts r. Got (plain_string ts) r) (λ p r. Got (builtin_of at p) r)

  -- a function behind a point, where its arguments are read by a
  function_call : (n at : ℕ) (v : GrammarToken → Option Builtin) (a : TokenReader GrammarToken
      (List ExprTree)) (r : List GrammarToken) → ((w : Builtin) (r' : List GrammarToken) → one_of v r ≡ Got w r' → a r' ≡ given_at tables n w
      r') → (and_then pair_of (one_of v) a r >>= λ p r. Got (builtin_of at p) r) ≡ (one_of v r >>= λ w r'. calling n at w r')
  function_call n at v a r h = go (one_of v r) refl
    where
      args : (w : Builtin) (r' : List GrammarToken) → a r' ≡ given_at tables n w r' → ((a r' >>= λ ts r''. Got (pair_of w ts) r'') >>= λ p r. Got (builtin_of at p) r) ≡ calling n at w r'
      args w r' e = bind_bind (a r') (λ ts r''. Got (pair_of w ts) r'') (λ p r. Got (builtin_of at p) r) ∙ ap (λ q. q >>= λ ts r''. Got (builtin_of at (w, ts)) r'') e

      go : (b : Answer GrammarToken Builtin) → one_of v r ≡ b → ((b >>= λ w r'. a r' >>= λ ts r''. Got (pair_of w ts) r'') >>= λ p r. Got (builtin_of at p) r) ≡ (b >>= λ w r'. calling n at w r')
      go (Bad k r') e = refl
      go (Got w r') e = args w r' (h w r' e)

  behind : {A : Type 0} (s : List GrammarToken) (q : TokenReader GrammarToken A) (g : A → List GrammarToken → Answer GrammarToken ExprTree)
      → (and_then keep_second (one_of point) q s >>= g) ≡ (one_of point s >>= λ _ r. q r >>= g)
  behind s q g = ap (λ a. a >>= g) (word_then point q s) ∙ bind_bind (one_of point s) (λ _ r. q r) g

  given_plain : (n : ℕ) (w : Builtin) (r : List GrammarToken) → (w ≡ builtin.Stringify → ⊥) → read_args (inner tables n Whole) r ≡ given_at tables n w r
  unfolding args_at
  given_plain n w r h = sym (given_args n w r h)

  given_single : (n : ℕ) (w : Builtin) (r : List GrammarToken) → w ≡ builtin.Stringify → map_by single_of (read_parens (inner tables n Whole)) r ≡ given_at tables n w r
  unfolding given_at
  given_single n w r h = rw h refl

  -- so have the URI handling functions
  uri_call : (n at : ℕ) (w : Builtin) (s : List GrammarToken) → (w ≡ builtin.Stringify → ⊥) → (read_args (inner tables n Whole) s >>= λ ts r. Got (uri_of (at, w) ts) r) ≡ calling n at w s
  uri_call n at w s h = ap (λ a. a >>= λ ts r. Got (uri_of (at, w) ts) r) (given_plain n w s h)

  string_call : (n at : ℕ) (s : List GrammarToken) → (choose (heads point)
      (and_then keep_second (one_of point) (and_then pair_of (one_of from_word) (read_args (inner tables n Whole))))
      (map_by plain_string (read_args (inner tables n Whole))) s >>= λ p r. Got (builtin_of at p) r) ≡ (read_string_called s >>= λ w r. calling n at w r)
  string_call n at s = go (heads point s) refl
    where
      go : (b : Bool) → heads point s ≡ b → (choose (heads point) (and_then keep_second (one_of point)
          (and_then pair_of (one_of from_word) (read_args (inner tables n Whole)))) (map_by plain_string (read_args (inner tables n Whole))) s
          >>= λ p r. Got (builtin_of at p) r) ≡ (read_string_called s >>= λ w r. calling n at w r)
      go true h = rw h (behind s (and_then pair_of (one_of from_word) (read_args (inner tables n Whole))) (λ p r. Got (builtin_of at p) r)
          ∙ ap (λ f. one_of point s >>= f) (λ i _ r. function_call n at from_word (read_args (inner tables n Whole)) r (λ w r' e. given_plain n w r' (from_plain r r' w e)) i)
          ∙ sym (behind s (one_of from_word) (λ w r. calling n at w r)))
      go false h = rw h (plain_call n at s)

  paired : (at : ℕ) (a : Answer GrammarToken Builtin) (g : ℕ × Builtin → List GrammarToken → Answer GrammarToken ExprTree) → ((a >>= λ w r. Got (pair_of at w) r) >>= g) ≡ (a >>= λ w r. g (at, w) r)
  paired at (Got w r) g = refl
  paired at (Bad k r) g = refl

  pub builtin_is : (n : ℕ) (s : List GrammarToken) → builtin_at tables n s ≡ (read_called s >>= λ c r. given_at tables n c.1 r >>= λ ts r'. Got (builtin_of c.0 (c.1, ts)) r')
  unfolding builtin_at
  builtin_is n [] = refl
  builtin_is n (t ∷ s) = go t t.kind
    where
      go : (t : GrammarToken) (k : GrammarKind) → builtin_at tables n (with_kind t k ∷ s) ≡
          (read_called (with_kind t k ∷ s) >>= λ c r. given_at tables n c.1 r >>= λ ts r'. Got (builtin_of c.0 (c.1, ts)) r')
      go t (kind.Word word.String number) = string_call n t.at s ∙ sym (paired t.at (read_string_called s) (λ c r. calling n c.0 c.1 r))
      go t (kind.Word word.Symbol number) =
          behind s (and_then pair_of (one_of symbol_function) (read_args (inner tables n Whole))) (λ p r. Got (builtin_of t.at p) r)
          ∙ ap (λ f. one_of point s >>= f) (λ i _ r. function_call n t.at symbol_function (read_args (inner tables n Whole)) r (λ w r' e. given_plain n w r' (symbol_plain r r' w e)) i)
          ∙ sym (behind s (one_of symbol_function) (λ w r. calling n t.at w r))
          ∙ sym (paired t.at (and_then keep_second (one_of point) (one_of symbol_function) s) (λ c r. calling n c.0 c.1 r))
      go t (kind.Word word.Json number) =
          behind s (and_then pair_of (one_of stringify_word) (map_by single_of (read_parens (inner tables n Whole)))) (λ p r. Got (builtin_of t.at p) r)
          ∙ ap (λ f. one_of point s >>= f) (λ i _ r. function_call n t.at stringify_word
          (map_by single_of (read_parens (inner tables n Whole))) r (λ w r' e. given_single n w r' (json_one r r' w e)) i)
          ∙ sym (behind s (one_of stringify_word) (λ w r. calling n t.at w r))
          ∙ sym (paired t.at (and_then keep_second (one_of point) (one_of stringify_word) s) (λ c r. calling n c.0 c.1 r))
      go t (kind.Word word.Object number) =
          behind s (and_then pair_of (one_of keys_word) (read_args (inner tables n Whole))) (λ p r. Got (builtin_of t.at p) r)
          ∙ ap (λ f. one_of point s >>= f) (λ i _ r. function_call n t.at keys_word (read_args (inner tables n Whole)) r (λ w r' e. given_plain n w r' (keys_plain r r' w e)) i)
          ∙ sym (behind s (one_of keys_word) (λ w r. calling n t.at w r))
          ∙ sym (paired t.at (and_then keep_second (one_of point) (one_of keys_word) s) (λ c r. calling n c.0 c.1 r))
      go t (kind.Word word.EncodeUri number) = uri_call n t.at builtin.EncodeUri s (λ h. cc)
      go t (kind.Word word.EncodeUriComponent number) = uri_call n t.at builtin.EncodeUriComponent s (λ h. cc)
      go t (kind.Word word.DecodeUri number) = uri_call n t.at builtin.DecodeUri s (λ h. cc)
      go t (kind.Word word.DecodeUriComponent number) = uri_call n t.at builtin.DecodeUriComponent s (λ h. cc)
      go t _ = refl

  -- primaries

  pub primary_simple : (n : ℕ) (s : List GrammarToken) (x : ExprTree) (r : List GrammarToken) → one_of (simple tables) s ≡ Got x r → primary_at tables n s ≡ Got x r
  unfolding primary_at
  primary_simple n s x r e = rw (head_of (simple tables) s x r e) e

  pub primary_none : (n : ℕ) (s : List GrammarToken) → heads (simple tables) s ≡ false → openers s ≡ None → primary_at tables n s ≡ wrong s
  unfolding primary_at
  primary_none n s h o = rw (h, no_opening s o, no_string s o, no_symbol s o, no_json s o, no_uri s o, no_object s o) (last n)
    where
      last : (n : ℕ) → opens (has_room n) (heads open_literal) (read_literal tables (inner tables n Whole)) s ≡ wrong s
      last zero = rw (no_literal s o) refl
      last (suc n) = (then_strict object_of open_literal (read_members tables (inner tables (suc n) Whole))).fails s (no_literal s o)

  pub primary_deep : (n : ℕ) (s : List GrammarToken) (o : Opener) → openers s ≡ Some o → n ≡ 0 → primary_at tables n s ≡ too_deep s
  unfolding primary_at
  primary_deep n [] o e h = absurd cc
  primary_deep n (t ∷ s) o e h = go t t.kind e
    where
      go : (t : GrammarToken) (k : GrammarKind) → opener_of (with_kind t k) ≡ Some o → primary_at tables n (with_kind t k ∷ s) ≡ too_deep (with_kind t k ∷ s)
      go t (kind.Mark mark.OpenParen) e = rw (no_room_for n h) refl
      go t (kind.Mark mark.OpenBrace) e = rw (no_room_for n h) refl
      go t (kind.Word word.String number) e = rw (no_room_for n h) refl
      go t (kind.Word word.Symbol number) e = rw (no_room_for n h) refl
      go t (kind.Word word.Json number) e = rw (no_room_for n h) refl
      go t (kind.Word word.Object number) e = rw (no_room_for n h) refl
      go t (kind.Word word.EncodeUri number) e = rw (no_room_for n h) refl
      go t (kind.Word word.EncodeUriComponent number) e = rw (no_room_for n h) refl
      go t (kind.Word word.DecodeUri number) e = rw (no_room_for n h) refl
      go t (kind.Word word.DecodeUriComponent number) e = rw (no_room_for n h) refl
      go t _ e = absurd cc

  pub primary_paren : (n : ℕ) (s : List GrammarToken) → openers s ≡ Some opener.Paren → 0 < n → primary_at tables n s ≡ parens_at tables n s
  unfolding primary_at parens_at
  primary_paren n [] e h = absurd cc
  primary_paren n (t ∷ s) e h = go t t.kind e
    where
      go : (t : GrammarToken) (k : GrammarKind) → opener_of (with_kind t k) ≡ Some opener.Paren → primary_at tables n (with_kind t k ∷ s) ≡ parens_at tables n (with_kind t k ∷ s)
      go t (kind.Mark mark.OpenParen) e = rw (room_for n h) refl
      go t (kind.Mark mark.OpenBrace) e = absurd cc
      go t (kind.Word word.String number) e = absurd cc
      go t (kind.Word word.Symbol number) e = absurd cc
      go t (kind.Word word.Json number) e = absurd cc
      go t (kind.Word word.Object number) e = absurd cc
      go t (kind.Word word.EncodeUri number) e = absurd cc
      go t (kind.Word word.EncodeUriComponent number) e = absurd cc
      go t (kind.Word word.DecodeUri number) e = absurd cc
      go t (kind.Word word.DecodeUriComponent number) e = absurd cc
      go t _ e = absurd cc

  pub primary_builtin : (n : ℕ) (s : List GrammarToken) → openers s ≡ Some opener.Builtin → 0 < n → primary_at tables n s ≡ builtin_at tables n s
  unfolding primary_at builtin_at
  primary_builtin n [] e h = absurd cc
  primary_builtin n (t ∷ s) e h = go t t.kind e
    where
      go : (t : GrammarToken) (k : GrammarKind) → opener_of (with_kind t k) ≡ Some opener.Builtin → primary_at tables n (with_kind t k ∷ s) ≡ builtin_at tables n (with_kind t k ∷ s)
      go t (kind.Word word.String number) e = rw (room_for n h) refl
      go t (kind.Word word.Symbol number) e = rw (room_for n h) refl
      go t (kind.Word word.Json number) e = rw (room_for n h) refl
      go t (kind.Word word.Object number) e = rw (room_for n h) refl
      go t (kind.Word word.EncodeUri number) e = rw (room_for n h) refl
      go t (kind.Word word.EncodeUriComponent number) e = rw (room_for n h) refl
      go t (kind.Word word.DecodeUri number) e = rw (room_for n h) refl
      go t (kind.Word word.DecodeUriComponent number) e = rw (room_for n h) refl
      go t (kind.Mark mark.OpenParen) e = absurd cc
      go t (kind.Mark mark.OpenBrace) e = absurd cc
      go t _ e = absurd cc

  pub primary_literal : (n : ℕ) (s : List GrammarToken) → openers s ≡ Some opener.Literal → 0 < n → primary_at tables n s ≡ literal_at tables n s
  unfolding primary_at literal_at
  primary_literal n [] e h = absurd cc
  primary_literal n (t ∷ s) e h = go t t.kind e
    where
      go : (t : GrammarToken) (k : GrammarKind) → opener_of (with_kind t k) ≡ Some opener.Literal → primary_at tables n (with_kind t k ∷ s) ≡ literal_at tables n (with_kind t k ∷ s)
      go t (kind.Mark mark.OpenBrace) e = rw (room_for n h) refl
      go t (kind.Mark mark.OpenParen) e = absurd cc
      go t (kind.Word word.String number) e = absurd cc
      go t (kind.Word word.Symbol number) e = absurd cc
      go t (kind.Word word.Json number) e = absurd cc
      go t (kind.Word word.Object number) e = absurd cc
      go t (kind.Word word.EncodeUri number) e = absurd cc
      go t (kind.Word word.EncodeUriComponent number) e = absurd cc
      go t (kind.Word word.DecodeUri number) e = absurd cc
      go t (kind.Word word.DecodeUriComponent number) e = absurd cc
      go t _ e = absurd cc

  -- object literals

  pub literal_is : (n : ℕ) (s : List GrammarToken) → literal_at tables n s ≡ (one_of open_literal s >>= λ at r. members_at tables n r >>= λ ms r'. Got (object_of at ms) r')
  unfolding literal_at members_at
  literal_is n s = refl

  pub entry_is : (n : ℕ) (s : List GrammarToken) → 0 < n → entry_at tables n s ≡ (one_of (key tables) s >>= λ k r. one_of colon r >>= λ _ r. expression_at tables (n - 1) r >>= λ x r. Got (k, x) r)
  unfolding entry_at
  entry_is n s h = go (expression_at tables (n - 1)) (inner_whole n h)
    where
      value : (k : List ℕ) (a : Answer GrammarToken ExprTree) → ((a >>= λ y r. Got y r) >>= λ y r. Got (pair_of k y) r) ≡ (a >>= λ y r. Got (k, y) r)
      value k (Bad w r) = refl
      value k (Got y r) = refl

      behind_key : (q : TokenReader GrammarToken ExprTree) (k : List ℕ) (a : Answer GrammarToken (Unit {0})) →
          ((a >>= λ _ r. q r >>= λ y r. Got y r) >>= λ y r. Got (pair_of k y) r) ≡ (a >>= λ _ r. q r >>= λ y r. Got (k, y) r)
      behind_key q k (Bad w r) = refl
      behind_key q k (Got u r) = value k (q r)

      first : (q : TokenReader GrammarToken ExprTree) (a : Answer GrammarToken (List ℕ)) →
          (a >>= λ k r. (one_of colon r >>= λ _ r. q r >>= λ y r. Got y r) >>= λ y r. Got (pair_of k y) r) ≡
          (a >>= λ k r. one_of colon r >>= λ _ r. q r >>= λ y r. Got (k, y) r)
      first q (Bad w r) = refl
      first q (Got k r) = behind_key q k (one_of colon r)

      go : (q : TokenReader GrammarToken ExprTree) → inner tables n Whole ≡ q → entry_at tables n s ≡ (one_of (key tables) s >>= λ k r. one_of colon r >>= λ _ r. q r >>= λ x r. Got (k, x) r)
      go q i = rw i (first q (one_of (key tables) s))

  -- steps

  pub member_plain : (n : ℕ) (s : List GrammarToken) (x : StepTree) (r : List GrammarToken) → one_of member_word s ≡ Got x r → member_at tables n s ≡ Got x r
  unfolding member_at
  member_plain n s x r e = rw (head_of member_word s x r e) e

  pub member_property : (n : ℕ) (s : List GrammarToken) (x : StepTree) (r : List GrammarToken) → heads member_word s ≡ false → one_of
      (property_word tables) s ≡ Got x r → member_at tables n s ≡ Got x r
  unfolding member_at
  member_property n s x r h e = rw (h, head_of (property_word tables) s x r e) e

  pub member_none : (n : ℕ) (s : List GrammarToken) → heads member_word s ≡ false → heads (property_word tables) s ≡ false → heads (method tables) s ≡ false → member_at tables n s ≡ wrong s
  unfolding member_at
  member_none n s h p m = rw (h, p) (none s m)
    where
      none : (s : List GrammarToken) → heads (method tables) s ≡ false →
          (one_of (method tables) s >>= λ x r. read_method_args (has_room n) (inner tables n Whole) r >>= λ y r. Got (method_step x y) r) ≡ wrong s
      none [] e = refl
      none (t ∷ s) e = go (method tables t) e
        where
          go : (o : Option ((ℕ × Method) × List ℕ)) → is_some o ≡ false →
              (take_or o t s >>= λ x r. read_method_args (has_room n) (inner tables n Whole) r >>= λ y r. Got (method_step x y) r) ≡ wrong (t ∷ s)
          go None e = refl
          go (Some x) e = let q : true ≡ false = e in cc

  -- a method
  module _ (n : ℕ) (s : List GrammarToken) (m : (ℕ × Method) × List ℕ) (r : List GrammarToken) (h : heads member_word s ≡ false) (p : heads
      (property_word tables) s ≡ false) (e : one_of (method tables) s ≡ Got m r) where
    pub member_bare : heads opening r ≡ false → member_at tables n s ≡ Got (tree.of_property m.0.0 m.1) r
    unfolding member_at
    member_bare b = rw (h, p, e, b) refl

    pub member_deep : (y : Unit {0}) (r' : List GrammarToken) → one_of opening r ≡ Got y r' → n ≡ 0 → member_at tables n s ≡ too_deep r
    unfolding member_at
    member_deep y r' o z = rw (h, p, e, head_of opening r y r' o, no_room_for n z, head_of opening r y r' o) refl

    pub member_call : (y : Unit {0}) (r' : List GrammarToken) → one_of opening r ≡ Got y r' → 0 < n → member_at tables n s ≡ (args_at tables n r >>= λ ts r'. Got (method_step m (Some ts)) r')
    unfolding member_at args_at
    member_call y r' o z = rw (h, p, e, head_of opening r y r' o, room_for n z) (flat (read_args (inner tables n Whole) r))
      where
        flat : (a : Answer GrammarToken (List ExprTree)) → ((a >>= λ x r. Got (Some x) r) >>= λ y r. Got (method_step m y) r) ≡ (a >>= λ ts r'. Got (method_step m (Some ts)) r')
        flat (Got x r) = refl
        flat (Bad k r) = refl

  no_step : (n : ℕ) (s : List GrammarToken) → heads open_bracket s ≡ false → heads point s ≡ false → opens (has_room n) (heads open_bracket) (read_index (inner tables n Whole)) s ≡ wrong s
  no_step zero s h p = rw h refl
  no_step (suc n) s h p = (then_strict index_read open_bracket (and_then keep_first (inner tables (suc n) Whole) (one_of close_bracket))).fails s h

  pub step_member : (n : ℕ) (s : List GrammarToken) → heads open_bracket s ≡ false → step_at tables n s ≡ (one_of point s >>= λ _ r. member_at tables n r)
  unfolding step_at member_at
  step_member n s h = go (heads point s) refl
    where
      none : (s : List GrammarToken) → heads point s ≡ false → one_of point s ≡ Bad Wrong s
      none [] p = refl
      none (t ∷ s) p = by (point t) p
        where
          by : (o : Option (Unit {0})) → is_some o ≡ false → take_or o t s ≡ Bad Wrong (t ∷ s)
          by None p = refl
          by (Some x) p = cc

      go : (b : Bool) → heads point s ≡ b → step_at tables n s ≡ (one_of point s >>= λ _ r. member_at tables n r)
      go true p = rw p (word_then point (read_word tables (has_room n) (inner tables n Whole)) s)
      go false p = rw (p, none s p) (no_step n s h p)

  bracket_no_point : (s r : List GrammarToken) (at : ℕ) → one_of open_bracket s ≡ Got at r → heads point s ≡ false
  bracket_no_point [] r at e = refl
  bracket_no_point (t ∷ s) r at e = go t t.kind e
    where
      go : (t : GrammarToken) (k : GrammarKind) → take_or (open_bracket (with_kind t k)) t s ≡ Got at r → is_some (point (with_kind t k)) ≡ false
      go t (kind.Mark mark.Point) e = cc
      go t _ e = refl

  pub step_deep : (n : ℕ) (s : List GrammarToken) (at : ℕ) (r : List GrammarToken) → one_of open_bracket s ≡ Got at r → n ≡ 0 → step_at tables n s ≡ too_deep s
  unfolding step_at
  step_deep n s at r e z = rw (bracket_no_point s r at e, no_room_for n z, head_of open_bracket s at r e) refl

  pub step_index : (n : ℕ) (s : List GrammarToken) (at : ℕ) (r : List GrammarToken) → one_of open_bracket s ≡ Got at r → 0 < n → step_at
      tables n s ≡ (expression_at tables (n - 1) r >>= λ x r'. one_of close_bracket r' >>= λ _ r''. Got (index_read at x) r'')
  unfolding step_at
  step_index n s at r e z = rw (bracket_no_point s r at e, room_for n z, e)
      (closed (inner tables n Whole r) ∙ ap (λ q. q r >>= λ x r'. one_of close_bracket r' >>= λ _ r''. Got (index_read at x) r'') (inner_whole n z))
    where
      end : (x : ExprTree) (a : Answer GrammarToken (Unit {0})) → ((a >>= λ _ r. Got x r) >>= λ y r'. Got (index_read at y) r') ≡ (a >>= λ _ r''. Got (index_read at x) r'')
      end x (Got y r) = refl
      end x (Bad k r) = refl

      closed : (a : Answer GrammarToken ExprTree) → ((a >>= λ x r. one_of close_bracket r >>= λ _ r'. Got x r') >>= λ y r'. Got
          (index_read at y) r') ≡ (a >>= λ x r'. one_of close_bracket r' >>= λ _ r''. Got (index_read at x) r'')
      closed (Got x r) = end x (one_of close_bracket r)
      closed (Bad k r) = refl

  -- operands

  pub unary_plain : (n : ℕ) (s : List GrammarToken) → heads sign s ≡ false → unary_at tables n s ≡ post_at tables n s
  unfolding unary_at post_at
  unary_plain n s h = rw h refl

  pub unary_deep : (n : ℕ) (s : List GrammarToken) (o : ℕ × Bool) (r : List GrammarToken) → one_of sign s ≡ Got o r → n ≡ 0 → unary_at tables n s ≡ too_deep s
  unfolding unary_at
  unary_deep n s o r e z = rw (head_of sign s o r e, no_room_for n z, head_of sign s o r e) refl

  pub unary_signed : (n : ℕ) (s : List GrammarToken) (o : ℕ × Bool) (r : List GrammarToken) → one_of sign s ≡ Got o r → 0 < n → unary_at
      tables n s ≡ (unary_at tables (n - 1) r >>= λ x r'. Got (unary_of o x) r')
  unfolding unary_at
  unary_signed n s o r e z = go (unary_at tables (n - 1)) (inner_operand n z)
    where
      go : (q : TokenReader GrammarToken ExprTree) → inner tables n Operand ≡ q → unary_at tables n s ≡ (q r >>= λ x r'. Got (unary_of o x) r')
      go q i = rw (head_of sign s o r e, room_for n z, e, i) refl

  -- conditionals

  pub expression_is : (n : ℕ) (s : List GrammarToken) → expression_at tables n s ≡ (chain_at tables n level.Or s >>= λ t r. branches_at tables n t r)
  unfolding expression_at chain_at branches_at
  expression_is n s = refl

  pub branches_none : (n : ℕ) (t : ExprTree) (s : List GrammarToken) → heads question s ≡ false → branches_at tables n t s ≡ Got t s
  unfolding branches_at
  branches_none n t s h = rw h refl

  pub branches_deep : (n : ℕ) (t : ExprTree) (s r : List GrammarToken) → one_of question s ≡ Got tt r → n ≡ 0 → branches_at tables n t s ≡ too_deep s
  unfolding branches_at
  branches_deep n t s r e z = rw (head_of question s tt r e, no_room_for n z, head_of question s tt r e) refl

  pub branches_some : (n : ℕ) (t : ExprTree) (s r : List GrammarToken) → one_of question s ≡ Got tt r → 0 < n → branches_at tables n t s ≡
      (expression_at tables (n - 1) r >>= λ x r1. one_of colon r1 >>= λ _ r2. expression_at tables (n - 1) r2 >>= λ y r3. Got (tree.conditional t x y) r3)
  unfolding branches_at
  branches_some n t s r e z = go (expression_at tables (n - 1)) (inner_whole n z)
    where
      last : (q : TokenReader GrammarToken ExprTree) (x : ExprTree) (a : Answer GrammarToken (Unit {0})) →
          (((a >>= λ _ r2. q r2 >>= λ y r3. Got y r3) >>= λ y r'. Got (branches_of x y) r') >>= λ b r. Got (cond_of t b) r) ≡
          (a >>= λ _ r2. q r2 >>= λ y r3. Got (tree.conditional t x y) r3)
      last q x (Bad k r) = refl
      last q x (Got u r) = go (q r)
        where
          go : (a : Answer GrammarToken ExprTree) → (((a >>= λ y r3. Got y r3) >>= λ y r'. Got (branches_of x y) r') >>= λ b r. Got (cond_of t b) r) ≡ (a >>= λ y r3. Got (tree.conditional t x y) r3)
          go (Bad k r) = refl
          go (Got y r) = refl

      first : (q : TokenReader GrammarToken ExprTree) (a : Answer GrammarToken ExprTree) →
          ((a >>= λ x r1. (one_of colon r1 >>= λ _ r2. q r2 >>= λ y r3. Got y r3) >>= λ y r'. Got (branches_of x y) r') >>= λ b r. Got
          (cond_of t b) r) ≡ (a >>= λ x r1. one_of colon r1 >>= λ _ r2. q r2 >>= λ y r3. Got (tree.conditional t x y) r3)
      first q (Bad k r) = refl
      first q (Got x r) = last q x (one_of colon r)

      go : (q : TokenReader GrammarToken ExprTree) → inner tables n Whole ≡ q → branches_at tables n t s ≡
          (q r >>= λ x r1. one_of colon r1 >>= λ _ r2. q r2 >>= λ y r3. Got (tree.conditional t x y) r3)
      go q i = rw (head_of question s tt r e, room_for n z, e, i) (ap (λ a. a >>= λ b r. Got (cond_of t b) r)
          (bind_got (q r >>= λ x r1. (one_of colon r1 >>= λ _ r2. q r2 >>= λ y r3. Got y r3) >>= λ y r'. Got (branches_of x y) r')) ∙ first q (q r))
