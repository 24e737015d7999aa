-- Each token's text is its slice of the bytes.
use Rattle.std.proofs.Common.{add-one, length, ◌≤◌, ◌+◌, ◌≡◌, ℕ, ◌<◌, List, [], ◌∷◌, ◌++◌, zero, suc, Bool, true, false, refl, sym, ap, ◌∙◌, subst, arith}
use Rattle.std.proofs.lemmas.Bool.Decides.{nat_tests}
use Rattle.std.specs.Prelude.{slice_index_or, IsUtf8, encode_utf8_all, nat_lt, Result, IfOk, Ok, Err}
use Rattle.std.specs.List.{list_all, All}
use Rattle.std.proofs.lemmas.Str.{encode_ascii}
use Rattle.js_literal.specs.Place.{StandsAt}
use Rattle.js_literal.specs.Number.{is_word_start}
use Rattle.js_lex.specs.Elements.{is_word_part}
use Rattle.js_lex.specs.Marks.{spelling, IsLongest}
use Rattle.js_lex.specs.Tokens.{Element, End, Skip, TokenOf, Fault, ElementAt, ended, blank, line, block, open_block, word, string, string_fault, number}
use Rattle.js_lex.specs.Tokens.{number_fault, mark, bad, Lexes, done, skip, token, TokensOf}
use Rattle.js_lex.specs.Spans.{InOrder, is_identifier, begins_word_part, IsWordAt, IsMarkAt, IsSpelledAt, HasItsText, IsWithin}
use Rattle.js_lex.specs.declared.token.Mark.{Mark}
use Rattle.js_lex.specs.declared.token.Mark.TheVariants.{StrictEqual, StrictUnequal, AtMost, AtLeast, And, Or, AddAssign, Increment, Decrement, OpenBrace}
use Rattle.js_lex.specs.declared.token.Mark.TheVariants.{CloseBrace, OpenParen, CloseParen, OpenBracket, CloseBracket, Point, Semicolon, Comma, Less, Greater}
use Rattle.js_lex.specs.declared.token.Mark.TheVariants.{Plus, Minus, Not, Question, Colon, Assign}
use Rattle.js_lex.specs.declared.token.Token.{Token}
use Rattle.js_lex.specs.declared.token.LexFault.{LexFault}
use Rattle.js_lex.proofs.Spans.{in_order, span_of}
use Rattle.js_lex.specs.Reader.{after_word, token_at}

-- ASCII characters are their own UTF-8
abbrev is_ascii : ℕ → Bool
is_ascii c = nat_lt c 128

ascii_bytes : (w : List ℕ) → list_all is_ascii w ≡ true → encode_utf8_all w ≡ w
ascii_bytes [] h = refl
ascii_bytes (c ∷ w) h =
    let small : c < 128 = grind (arith, nat_tests) in
    let rest : list_all is_ascii w ≡ true = grind arith in
    ap (λ e. e ++ encode_utf8_all w) (encode_ascii c small) ∙ ap (λ r. c ∷ r) (ascii_bytes w rest)

part_ascii : (c : ℕ) → is_word_part c ≡ true → is_ascii c ≡ true
part_ascii c h = grind (arith, nat_tests)

start_ascii : (c : ℕ) → is_word_start c ≡ true → is_ascii c ≡ true
start_ascii c h = grind (arith, nat_tests)

parts_ascii : (w : List ℕ) → list_all is_word_part w ≡ true → list_all is_ascii w ≡ true
parts_ascii [] h = refl
parts_ascii (c ∷ w) h =
    let first : is_word_part c ≡ true = grind arith in
    let rest : list_all is_word_part w ≡ true = grind arith in
    rw (part_ascii c first, parts_ascii w rest) refl

-- a word's parts, and that none follows
record Parts (s : List ℕ) : Type 0 where
  w : List ℕ
  splits : s ≡ w ++ after_word s
  all : list_all is_word_part w ≡ true
  whole : begins_word_part (after_word s) ≡ false

parts : (s : List ℕ) → Parts s
parts [] = record { w = []; splits = refl; all = refl; whole = refl }
parts (c ∷ s) = go (is_word_part c) refl (parts s)
  where
    go : (b : Bool) → is_word_part c ≡ b → Parts s → Parts (c ∷ s)
    go true e p = record {
      w = c ∷ p.w;
      splits = ap (λ r. c ∷ r) (p.splits ∙ ap (λ t. p.w ++ t) (sym (taken e)));
      all = rw (e, p.all) refl;
      whole = subst (λ t. begins_word_part t ≡ false) (sym (taken e)) p.whole;
    }
      where
        taken : is_word_part c ≡ true → after_word (c ∷ s) ≡ after_word s
        taken e = rw e refl
    go false e p = record {
      w = [];
      splits = sym (left e);
      all = refl;
      whole = subst (λ t. begins_word_part t ≡ false) (sym (left e)) e;
    }
      where
        left : is_word_part c ≡ false → after_word (c ∷ s) ≡ c ∷ s
        left e = rw e refl

word_spelled : (text : List ℕ) (at end c : ℕ) (s : List ℕ) → IsUtf8 text → StandsAt text at (c ∷ s) → is_word_start c ≡ true → StandsAt text end (after_word s) → IsWordAt text at end
word_spelled text at end c s u h b e =
    let p = parts s in
    let ascii : list_all is_ascii (c ∷ p.w) ≡ true = rw (start_ascii c b, parts_ascii p.w p.all) refl in
    let from = subst (StandsAt text at) (ap (λ r. c ∷ r) p.splits) h in
    let bytes = span_of text at end (c ∷ p.w) (after_word s) u from e ∙ ascii_bytes (c ∷ p.w) ascii in
    let good : is_identifier (c ∷ p.w) ≡ true = rw (b, p.all) refl in
    record { word = ap is_identifier bytes ∙ good; rest = after_word s; ends = e; whole = p.whole }

mark_ascii : (m : Mark) → list_all is_ascii (spelling m) ≡ true
mark_ascii StrictEqual = refl
mark_ascii StrictUnequal = refl
mark_ascii AtMost = refl
mark_ascii AtLeast = refl
mark_ascii And = refl
mark_ascii Or = refl
mark_ascii AddAssign = refl
mark_ascii Increment = refl
mark_ascii Decrement = refl
mark_ascii OpenBrace = refl
mark_ascii CloseBrace = refl
mark_ascii OpenParen = refl
mark_ascii CloseParen = refl
mark_ascii OpenBracket = refl
mark_ascii CloseBracket = refl
mark_ascii Point = refl
mark_ascii Semicolon = refl
mark_ascii Comma = refl
mark_ascii Less = refl
mark_ascii Greater = refl
mark_ascii Plus = refl
mark_ascii Minus = refl
mark_ascii Not = refl
mark_ascii Question = refl
mark_ascii Colon = refl
mark_ascii Assign = refl

mark_spelled : (text : List ℕ) (at end : ℕ) (s rest : List ℕ) (m : Mark) → IsUtf8 text → StandsAt text at s → IsLongest s m rest → StandsAt text end rest → IsMarkAt text at end m
mark_spelled text at end s rest m u h l e = record {
  spelled = span_of text at end (spelling m) rest u (subst (StandsAt text at) l.stands h) e ∙ ascii_bytes (spelling m) (mark_ascii m);
  rest = rest;
  ends = e;
  longest = subst (λ t. IsLongest t m rest) l.stands l;
}

-- what an element says of its bytes
abbrev Spells : List ℕ → ℕ → Element → Type 0
Spells text at (TokenOf k end) = IsSpelledAt text at end k
Spells text at (Skip end) = Unit {0}
Spells text at End = Unit {0}
Spells text at (Fault f) = Unit {0}

spells : (text : List ℕ) (at : ℕ) (m : Element) → IsUtf8 text → ElementAt text at m → Spells text at m
spells text at _ u (ended h) = tt
spells text at _ u (blank c s end h b e) = tt
spells text at _ u (line s end h e) = tt
spells text at _ u (block s rest end h b e) = tt
spells text at _ u (open_block s h b) = tt
spells text at _ u (word c s end h b e) = word_spelled text at end c s u h b e
spells text at _ u (string us end h) = h
spells text at _ u (string_fault f h) = tt
spells text at _ u (number v end h) = h
spells text at _ u (number_fault f h) = tt
spells text at _ u (mark s m rest end h n l e) = mark_spelled text at end s rest m u h l e
spells text at _ u (bad c s h b) = tt

all_more : {X : Type 0} (P : X → Type 0) (x : X) (xs : List X) → P x → All P xs → All P (x ∷ xs)
all_more P x xs p h zero d lt = p
all_more P x xs p h (suc i) d lt = h i d (omega (arith, lt))

pub all_spelled : (text : List ℕ) (at : ℕ) (ts : List Token) → IsUtf8 text → Lexes text at ts → All (HasItsText text) ts
all_spelled text _ _ u (done at h) = λ i d lt. absurd (omega (arith, lt))
all_spelled text _ _ u (skip at mid ts h t) = all_spelled text mid ts u t
all_spelled text _ _ u (token at mid k ts h t) = all_more (HasItsText text) (token_at k at mid) ts (spells text at (TokenOf k mid) u h) (all_spelled text mid ts u t)

-- what lies in order is within the text, and each span ends where the next begins or earlier
pub all_within : (text : List ℕ) (at : ℕ) (ts : List Token) → InOrder text at ts → All (IsWithin text) ts
all_within text at [] h = λ i d lt. absurd (omega (arith, lt))
all_within text at (t ∷ ts) h = all_more (IsWithin text) t ts (h.1, h.2) (all_within text t.to ts (h.3))

next_suc : (text : List ℕ) (at : ℕ) (ts : List Token) (i : ℕ) (d : Token) → InOrder text at ts → suc i < length ts → (slice_index_or ts i d).to ≤ (slice_index_or ts (suc i) d).from
next_suc text at [] i d h lt = absurd (omega (arith, lt))
next_suc text at (t ∷ []) i d h lt = absurd (omega (arith, lt))
next_suc text at (t ∷ u ∷ ts) zero d h lt = h.3.0
next_suc text at (t ∷ u ∷ ts) (suc i) d h lt = next_suc text t.to (u ∷ ts) i d (h.3) (omega (arith, lt))

pub next_later : (text : List ℕ) (at : ℕ) (ts : List Token) (i : ℕ) (d : Token) → InOrder text at ts → i + 1 < length ts → (slice_index_or ts i d).to ≤ (slice_index_or ts (i + 1) d).from
next_later text at ts i d h lt = subst (λ k. (slice_index_or ts i d).to ≤ (slice_index_or ts k d).from) (sym (add-one i)) (next_suc text at ts i d h (omega (arith, lt)))

-- the same of an answer; view gives its tokens
pub tokens_order : {A : Type 0} (view : A → List Token) (bytes : List ℕ) (r : Result A LexFault) → IfOk r (λ v. TokensOf bytes (view v)) → IfOk r (λ v. InOrder bytes 0 (view v))
tokens_order view bytes (Ok v) h = in_order bytes 0 (view v) h.utf8 h.lexes
tokens_order view bytes (Err e) h = tt

pub tokens_within : {A : Type 0} (view : A → List Token) (bytes : List ℕ) (r : Result A LexFault) → IfOk r (λ v. TokensOf bytes (view v)) → IfOk r (λ v. All (IsWithin bytes) (view v))
tokens_within view bytes (Ok v) h = all_within bytes 0 (view v) (in_order bytes 0 (view v) h.utf8 h.lexes)
tokens_within view bytes (Err e) h = tt

pub tokens_texts : {A : Type 0} (view : A → List Token) (bytes : List ℕ) (r : Result A LexFault) → IfOk r (λ v. TokensOf bytes (view v)) → IfOk r (λ v. All (HasItsText bytes) (view v))
tokens_texts view bytes (Ok v) h = all_spelled bytes 0 (view v) h.utf8 h.lexes
tokens_texts view bytes (Err e) h = tt
