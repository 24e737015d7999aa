-- The readers of statements at their first tokens, over those that the parser's functions call.
use Rattle.std.proofs.Common.{◌≡◌, ℕ, zero, suc, ◌-◌, ◌<◌, Bool, true, false, List, [], ◌∷◌, Option, Some, None, refl, sym, ap, ◌∙◌, subst, arith}
use Rattle.js_lex.specs.declared.token.Mark.TheVariants as mark
use Rattle.parse_syntax.specs.Reader.{Answer, Got, Bad, TokenReader, ◌>>=◌, wrong, too_deep, and_then, map_by, one_of, all_of, heads, at_end, read_whole, keep_first, keep_second}
use Rattle.parse_syntax.specs.declared.token.GrammarToken.{GrammarToken}
use Rattle.parse_syntax.specs.Tables.{TokenTables}
use Rattle.parse_syntax.specs.declared.token.GrammarKind.{GrammarKind}
use Rattle.parse_syntax.specs.declared.token.GrammarKind.TheVariants as kind
use Rattle.parse_syntax.specs.declared.token.Word.TheVariants as word
use Rattle.parse_syntax.specs.declared.token.Property.{Property}
use Rattle.parse_syntax.proofs.Stops.{with_kind}
use Rattle.eval_tree.specs.Tree.{StmtTree, ArmTree, block}
use Rattle.parse_syntax.specs.Terminals.{Identifier, directive, name, assign_op}
use Rattle.parse_syntax.specs.Grammar.{pair_of, assign_of}
use Rattle.parse_syntax.specs.Reading.{no_inside, print_of, arm_of, if_of, inside_of, let_of, const_of, for_of}
use Rattle.parse_syntax.specs.Reading.{goes_on, read_at, read_header, read_strict, read_statements}
use Rattle.parse_statements.specs.At.{inner_statement, expression_at, args_at, parens_at, init_at, let_at, const_at, assign_at, print_at, statement_at}
use Rattle.parse_statements.specs.At.{statements_at, block_at, arm_at, others_at, rest_at, if_at, for_at}
use Rattle.parse_statements.proofs.Rooms.{room_for, no_room_for, bind_got, bind_bind, word_then, head_of, less_one}
use Rattle.parse_syntax.specs.MarksAndWords.{semicolon, assign_mark, let_word, const_word, print_word, open_brace, close_brace, else_word, if_word}

closed_by : {A B : Type 0} (f : A → B) (v : A) (a : Answer GrammarToken (Unit {0})) → ((a >>= λ _ r. Got v r) >>= λ v r. Got (f v) r) ≡ (a >>= λ _ r. Got (f v) r)
closed_by f v (Got y r) = refl
closed_by f v (Bad k r) = refl

-- what a token ends, as another value
ended_by : {A B : Type 0} (v : GrammarToken → Option (Unit {0})) (f : A → B) (q : TokenReader GrammarToken A) (r : List GrammarToken) →
    (and_then keep_first q (one_of v) r >>= λ x r. Got (f x) r) ≡ (q r >>= λ x r. one_of v r >>= λ _ r. Got (f x) r)
ended_by v f q r = bind_bind (q r) (λ x r. one_of v r >>= λ _ r. Got x r) (λ x r. Got (f x) r) ∙ ap (λ g. q r >>= g) (λ i x r. closed_by f x (one_of v r) i)

module _ (tables : TokenTables) where
  pub init_none : (n : ℕ) (s : List GrammarToken) → heads assign_mark s ≡ false → init_at tables n s ≡ Got None s
  unfolding init_at
  init_none n s h = rw h refl

  pub init_some : (n : ℕ) (s r : List GrammarToken) → one_of assign_mark s ≡ Got tt r → init_at tables n s ≡ (expression_at tables n r >>= λ x r'. Got (Some x) r')
  unfolding init_at
  init_some n s r o = rw (head_of assign_mark s tt r o, o) (ap (λ a. a >>= λ x r'. Got (Some x) r') (bind_got (expression_at tables n r)))

  pub let_is : (n : ℕ) (s : List GrammarToken) → let_at tables n s ≡ (one_of let_word s >>= λ _ r. one_of name r >>= λ x r. init_at tables n
      r >>= λ v r. one_of semicolon r >>= λ _ r. Got (let_of tables x v) r)
  unfolding let_at init_at
  let_is n s = word_then let_word (and_then keep_first (and_then (let_of tables) (one_of name) (init_at tables n)) (one_of semicolon)) s ∙ ap (λ f. one_of let_word s >>= f) (λ i _ r. flat r i)
    where
      flat : (r : List GrammarToken) → ((one_of name r >>= λ x r. init_at tables n r >>= λ v r. Got (let_of tables x v) r) >>= λ t r. one_of
          semicolon r >>= λ _ r. Got t r) ≡ (one_of name r >>= λ x r. init_at tables n r >>= λ v r. one_of semicolon r >>= λ _ r. Got (let_of tables x v) r)
      flat r = bind_bind (one_of name r) (λ x r. init_at tables n r >>= λ v r. Got (let_of tables x v) r)
          (λ t r. one_of semicolon r >>= λ _ r. Got t r) ∙ ap (λ f. one_of name r >>= f)
          (λ i x r. bind_bind (init_at tables n r) (λ v r. Got (let_of tables x v) r) (λ t r. one_of semicolon r >>= λ _ r. Got t r) i)

  pub print_is : (n : ℕ) (s : List GrammarToken) → print_at tables n s ≡ (one_of print_word s >>= λ _ r. args_at tables n r >>= λ ts r. one_of semicolon r >>= λ _ r. Got (print_of ts) r)
  unfolding print_at args_at
  print_is n s = word_then print_word (map_by print_of (and_then keep_first (args_at tables n) (one_of semicolon))) s ∙ ap
      (λ f. one_of print_word s >>= f) (λ i _ r. ended_by semicolon print_of (args_at tables n) r i)

  pub assign_is : (n : ℕ) (s : List GrammarToken) → assign_at tables n s ≡
      (one_of name s >>= λ x r. one_of assign_op r >>= λ b r. expression_at tables n r >>= λ v r. one_of semicolon r >>= λ _ r. Got (assign_of tables x (b, v)) r)
  unfolding assign_at
  assign_is n s = ap (λ f. one_of name s >>= f) (λ i x r. after x r i)
    where
      after : (x : Identifier) (r : List GrammarToken) → ((one_of assign_op r >>= λ b r. and_then keep_first (expression_at tables n)
          (one_of semicolon) r >>= λ v r. Got (pair_of b v) r) >>= λ p r. Got (assign_of tables x p) r) ≡
          (one_of assign_op r >>= λ b r. expression_at tables n r >>= λ v r. one_of semicolon r >>= λ _ r. Got (assign_of tables x (b, v)) r)
      after x r = bind_bind (one_of assign_op r) (λ b r. and_then keep_first (expression_at tables n) (one_of semicolon) r >>= λ v r. Got
          (pair_of b v) r) (λ p r. Got (assign_of tables x p) r) ∙ ap (λ f. one_of assign_op r >>= f)
          (λ i b r. (bind_bind (and_then keep_first (expression_at tables n) (one_of semicolon) r) (λ v r. Got (pair_of b v) r)
          (λ p r. Got (assign_of tables x p) r) ∙ ended_by semicolon (λ v. assign_of tables x (b, v)) (expression_at tables n) r) i)

  pub const_is : (n : ℕ) (s : List GrammarToken) → const_at tables n s ≡
      (one_of const_word s >>= λ _ r. one_of name r >>= λ x r. one_of assign_mark r >>= λ _ r. expression_at tables n r >>= λ v r. one_of
      semicolon r >>= λ _ r. Got (const_of tables x v) r)
  unfolding const_at
  const_is n s = word_then const_word (and_then (const_of tables) (one_of name)
      (and_then keep_second (one_of assign_mark) (and_then keep_first (expression_at tables n) (one_of semicolon)))) s ∙ ap
      (λ f. one_of const_word s >>= λ _ r. one_of name r >>= f) (λ i x r. valued x r i)
    where
      valued : (x : Identifier) (r : List GrammarToken) → (and_then keep_second (one_of assign_mark)
          (and_then keep_first (expression_at tables n) (one_of semicolon)) r >>= λ v r. Got (const_of tables x v) r) ≡
          (one_of assign_mark r >>= λ _ r. expression_at tables n r >>= λ v r. one_of semicolon r >>= λ _ r. Got (const_of tables x v) r)
      valued x r = ap (λ a. a >>= λ v r. Got (const_of tables x v) r) (word_then assign_mark
          (and_then keep_first (expression_at tables n) (one_of semicolon)) r) ∙ bind_bind (one_of assign_mark r)
          (λ _ r. and_then keep_first (expression_at tables n) (one_of semicolon) r) (λ v r. Got (const_of tables x v) r) ∙ ap
          (λ f. one_of assign_mark r >>= f) (λ i _ r. ended_by semicolon (const_of tables x) (expression_at tables n) r i)

  module _ (prints : Bool) where
    pub statement_is : (n : ℕ) → read_at tables prints n ≡ statement_at tables prints n
    unfolding statement_at expression_at
    statement_is zero = refl
    statement_is (suc n) = refl

    pub inner_is : (n : ℕ) → 0 < n → inner_statement tables prints n ≡ statement_at tables prints (n - 1)
    inner_is zero h = absurd (omega arith)
    inner_is (suc n) h = subst (λ m. read_at tables prints n ≡ statement_at tables prints m) (sym (less_one n)) (statement_is n)

    pub block_is : (n : ℕ) (s : List GrammarToken) → 0 < n → block_at tables prints n s ≡
        (one_of open_brace s >>= λ _ r. statements_at tables prints (n - 1) r >>= λ ts r'. one_of close_brace r' >>= λ _ r''. Got (inside_of ts) r'')
    unfolding block_at statements_at
    block_is n s h = go (inner_statement tables prints n) (inner_is n h)
      where
        go : (q : TokenReader GrammarToken StmtTree) → q ≡ statement_at tables prints (n - 1) → and_then keep_second (one_of open_brace)
            (map_by inside_of (and_then keep_first (all_of goes_on q) (one_of close_brace))) s ≡
            (one_of open_brace s >>= λ _ r. all_of goes_on (statement_at tables prints (n - 1)) r >>= λ ts r'. one_of close_brace r' >>=
            λ _ r''. Got (inside_of ts) r'')
        go q e = rw e (word_then open_brace (map_by inside_of (and_then keep_first (all_of goes_on (statement_at tables prints (n - 1)))
            (one_of close_brace))) s ∙ ap (λ f. one_of open_brace s >>= f)
            (λ i _ r. ended_by close_brace inside_of (all_of goes_on (statement_at tables prints (n - 1))) r i))

    pub arm_is : (n : ℕ) (s : List GrammarToken) → arm_at tables prints n s ≡
        (one_of if_word s >>= λ _ r. parens_at tables n r >>= λ e r'. block_at tables prints n r' >>= λ b r''. Got (arm_of e b) r'')
    unfolding arm_at block_at parens_at
    arm_is n s = word_then if_word (and_then arm_of (parens_at tables n) (block_at tables prints n)) s

    pub if_is : (n : ℕ) (s : List GrammarToken) → if_at tables prints n s ≡
        (arm_at tables prints n s >>= λ a r. others_at tables prints n r >>= λ os r'. rest_at tables prints n r' >>= λ l r''. Got (if_of a (os, l)) r'')
    unfolding if_at arm_at others_at rest_at
    if_is n s = flat (arm_at tables prints n s)
      where
        inside : (a : ArmTree) (os : Answer GrammarToken (List ArmTree)) →
            ((os >>= λ os r'. rest_at tables prints n r' >>= λ l r''. Got (pair_of os l) r'') >>= λ p r. Got (if_of a p) r) ≡
            (os >>= λ os r'. rest_at tables prints n r' >>= λ l r''. Got (if_of a (os, l)) r'')
        inside a (Bad k r) = refl
        inside a (Got os r) = bind_bind (rest_at tables prints n r) (λ l r''. Got (pair_of os l) r'') (λ p r. Got (if_of a p) r)

        flat : (a : Answer GrammarToken ArmTree) → (a >>= λ a r. (others_at tables prints n r >>= λ os r'. rest_at tables prints n r' >>=
            λ l r''. Got (pair_of os l) r'') >>= λ p r. Got (if_of a p) r) ≡
            (a >>= λ a r. others_at tables prints n r >>= λ os r'. rest_at tables prints n r' >>= λ l r''. Got (if_of a (os, l)) r'')
        flat (Bad k r) = refl
        flat (Got a r) = inside a (others_at tables prints n r)

    pub for_is : (n : ℕ) (s : List GrammarToken) → for_at tables prints n s ≡ (read_header s >>= λ p r. block_at tables prints n r >>= λ b r'. Got (for_of tables p b) r')
    unfolding for_at block_at
    for_is n s = refl

    pub rest_none : (n : ℕ) (s : List GrammarToken) → heads else_word s ≡ false → rest_at tables prints n s ≡ Got no_inside s
    unfolding rest_at
    rest_none n s h = rw h refl

    pub rest_some : (n : ℕ) (s r : List GrammarToken) → one_of else_word s ≡ Got tt r → rest_at tables prints n s ≡ block_at tables prints n r
    unfolding rest_at block_at
    rest_some n s r o = rw (head_of else_word s tt r o, o) (bind_got (block_at tables prints n r))

    -- a statement, by its first token

    pub block_here : (n : ℕ) (t : GrammarToken) (r : List GrammarToken) → t.kind ≡ kind.Mark mark.OpenBrace → 0 < n → statement_at tables
        prints n (t ∷ r) ≡ (block_at tables prints n (t ∷ r) >>= λ b r'. Got (block b) r')
    unfolding statement_at block_at
    block_here n t r e h = rw (e, room_for n h) refl

    pub let_here : (n : ℕ) (number : ℕ) (t : GrammarToken) (r : List GrammarToken) → t.kind ≡ kind.Word word.Let number → statement_at tables prints n (t ∷ r) ≡ let_at tables n (t ∷ r)
    unfolding statement_at let_at
    let_here n number t r e = rw e refl

    pub const_here : (n : ℕ) (number : ℕ) (t : GrammarToken) (r : List GrammarToken) → t.kind ≡ kind.Word word.Const number → statement_at tables prints n (t ∷ r) ≡ const_at tables n (t ∷ r)
    unfolding statement_at const_at
    const_here n number t r e = rw e refl

    pub name_here : (n : ℕ) (m : ℕ) (p : Property) (t : GrammarToken) (r : List GrammarToken) → t.kind ≡ kind.Name m p → statement_at tables prints n (t ∷ r) ≡ assign_at tables n (t ∷ r)
    unfolding statement_at assign_at
    name_here n m p t r e = rw e refl

    pub print_here : (n : ℕ) (number : ℕ) (t : GrammarToken) (r : List GrammarToken) → t.kind ≡ kind.Word word.Print number → 0 < n → prints
        ≡ true → statement_at tables prints n (t ∷ r) ≡ print_at tables n (t ∷ r)
    unfolding statement_at print_at
    print_here n number t r e h b = rw (e, b, room_for n h) refl

    pub print_refused : (n : ℕ) (number : ℕ) (t : GrammarToken) (r : List GrammarToken) → t.kind ≡ kind.Word word.Print number → prints ≡ false → statement_at tables prints n (t ∷ r) ≡ wrong (t ∷ r)
    unfolding statement_at
    print_refused n number t r e b = rw (e, b) refl

    pub if_here : (n : ℕ) (number : ℕ) (t : GrammarToken) (r : List GrammarToken) → t.kind ≡ kind.Word word.If number → 0 < n → statement_at tables prints n (t ∷ r) ≡ if_at tables prints n (t ∷ r)
    unfolding statement_at if_at
    if_here n number t r e h = rw (e, room_for n h) refl

    pub for_here : (n : ℕ) (number : ℕ) (t : GrammarToken) (r : List GrammarToken) → t.kind ≡ kind.Word word.For number → 0 < n → statement_at tables prints n (t ∷ r) ≡ for_at tables prints n (t ∷ r)
    unfolding statement_at for_at
    for_here n number t r e h = rw (e, room_for n h) refl

    pub block_deep : (n : ℕ) (t : GrammarToken) (r : List GrammarToken) → t.kind ≡ kind.Mark mark.OpenBrace → n ≡ 0 → statement_at tables prints n (t ∷ r) ≡ too_deep (t ∷ r)
    unfolding statement_at
    block_deep n t r e h = rw (e, no_room_for n h) refl

    pub print_deep : (n : ℕ) (number : ℕ) (t : GrammarToken) (r : List GrammarToken) → t.kind ≡ kind.Word word.Print number → n ≡ 0 → prints
        ≡ true → statement_at tables prints n (t ∷ r) ≡ too_deep (t ∷ r)
    unfolding statement_at
    print_deep n number t r e h b = rw (e, b, no_room_for n h) refl

    pub if_deep : (n : ℕ) (number : ℕ) (t : GrammarToken) (r : List GrammarToken) → t.kind ≡ kind.Word word.If number → n ≡ 0 → statement_at tables prints n (t ∷ r) ≡ too_deep (t ∷ r)
    unfolding statement_at
    if_deep n number t r e h = rw (e, no_room_for n h) refl

    pub for_deep : (n : ℕ) (number : ℕ) (t : GrammarToken) (r : List GrammarToken) → t.kind ≡ kind.Word word.For number → n ≡ 0 → statement_at tables prints n (t ∷ r) ≡ too_deep (t ∷ r)
    unfolding statement_at
    for_deep n number t r e h = rw (e, no_room_for n h) refl

    pub nothing_here : (n : ℕ) → statement_at tables prints n [] ≡ wrong []
    unfolding statement_at
    nothing_here n = go prints n
      where
        go : (prints : Bool) (n : ℕ) → statement_at tables prints n [] ≡ wrong []
        go true zero = refl
        go true (suc n) = refl
        go false zero = refl
        go false (suc n) = refl

-- no statement begins with the token
abbrev pub begins_none : GrammarToken → Bool
begins_none t = elim t.kind [
  | kind.Mark mark.OpenBrace ↦ false
  | kind.Name n p ↦ false
  | kind.Word word.Let n ↦ false
  | kind.Word word.Const n ↦ false
  | kind.Word word.Print n ↦ false
  | kind.Word word.If n ↦ false
  | kind.Word word.For n ↦ false
  | _ ↦ true
]

pub other_here : (tables : TokenTables) (prints : Bool) (n : ℕ) (t : GrammarToken) (r : List GrammarToken) → begins_none t ≡ true → statement_at tables prints n (t ∷ r) ≡ wrong (t ∷ r)
unfolding statement_at
other_here tables prints n t r e = go n t t.kind e
  where
    go : (n : ℕ) (t : GrammarToken) (k : GrammarKind) → begins_none (with_kind t k) ≡ true → statement_at tables prints n (with_kind t k ∷ r) ≡ wrong (with_kind t k ∷ r)
    go n t (kind.Mark mark.OpenBrace) e = let z : ⊥ = cc in absurd z
    go n t (kind.Word word.Let number) e = let z : ⊥ = cc in absurd z
    go n t (kind.Word word.Const number) e = let z : ⊥ = cc in absurd z
    go n t (kind.Name m p) e = let z : ⊥ = cc in absurd z
    go n t (kind.Word word.Print number) e = let z : ⊥ = cc in absurd z
    go n t (kind.Word word.If number) e = let z : ⊥ = cc in absurd z
    go n t (kind.Word word.For number) e = let z : ⊥ = cc in absurd z
    go zero t _ e = refl
    go (suc n) t _ e = refl

-- scripts

pub strict_none : (s : List GrammarToken) → heads directive s ≡ false → read_strict s ≡ Got tt s
strict_none s h = rw h refl

pub strict_some : (s r : List GrammarToken) → one_of directive s ≡ Got tt r → read_strict s ≡ one_of semicolon r
strict_some s r o = rw (head_of directive s tt r o, o) (bind_got (one_of semicolon r))

pub whole_is : (tables : TokenTables) (prints : Bool) (n : ℕ) (s : List GrammarToken) → read_whole (read_statements tables prints n) s ≡
    (read_strict s >>= λ _ r. statements_at tables prints n r >>= λ ts r'. at_end r' >>= λ _ r''. Got ts r'')
unfolding statements_at
whole_is tables prints n s = flat (read_strict s)
  where
    ends : (a : Answer GrammarToken (List StmtTree)) → ((a >>= λ y r'. Got y r') >>= λ ts r. at_end r >>= λ _ r''. Got ts r'') ≡ (a >>= λ ts r'. at_end r' >>= λ _ r''. Got ts r'')
    ends (Got y r) = refl
    ends (Bad k r) = refl

    flat : (a : Answer GrammarToken (Unit {0})) → ((a >>= λ _ r. all_of goes_on (read_at tables prints n) r >>= λ y r'. Got y r') >>=
        λ ts r. at_end r >>= λ _ r''. Got ts r'') ≡ (a >>= λ _ r. all_of goes_on (statement_at tables prints n) r >>= λ ts r'. at_end r' >>= λ _ r''. Got ts r'')
    flat (Bad k r) = refl
    flat (Got y r) = ends (all_of goes_on (read_at tables prints n) r) ∙ ap (λ q. all_of goes_on q r >>= λ ts r'. at_end r' >>= λ _ r''. Got ts r'') (statement_is tables prints n)
