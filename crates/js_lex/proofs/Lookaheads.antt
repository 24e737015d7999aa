-- What stands at a place is told by the reader's value there, so it is one thing alone.
use Rattle.std.proofs.Common.{◌≡◌, ℕ, List, [], ◌∷◌, Bool, true, false, cond, Some, None, nat_eq, refl, sym, ap, ◌∙◌, subst, arith, ◌⊎◌, inl, inr}
use Rattle.std.proofs.lemmas.Bool.Decides.{nat_tests}
use Rattle.std.specs.Prelude.{IsUtf8, ◌||◌, ◌&&◌}
use Rattle.js_literal.specs.Place.{StandsAt}
use Rattle.js_literal.specs.Literal.{is_quote, LiteralOf, LiteralFaultOf, is_digit}
use Rattle.js_literal.specs.Number.{is_word_start, begins_number, NumberOf, NumberFaultOf}
use Rattle.js_literal.specs.declared.fault.LiteralFault.{LiteralFault}
use Rattle.js_literal.specs.declared.fault.NumberFault.{NumberFault}
use Rattle.js_literal.proofs.Places.{one_rest, one_place}
use Rattle.js_literal.proofs.Laws.{one_literal, never_both, one_fault_of}
use Rattle.js_literal.proofs.NumberLaws.{one_number, no_number, one_number_fault}
use Rattle.js_lex.specs.Elements.{after_block}
use Rattle.js_lex.specs.MarkReader.{mark_front, one_mark, two_mark, three_mark, one_front, two_front, three_front, or_else}
use Rattle.js_lex.specs.Reader.{Lookahead, comment, block_ahead, mark_ahead, front, after_line, after_word, begins_comment}
use Rattle.js_lex.specs.Reader as ahead
use Rattle.js_lex.specs.Tokens.{Element, End, Skip, TokenOf, Fault, ElementAt, ended, blank, line, block, open_block, word, string, string_fault, number, number_fault, mark, bad, IsBad}
use Rattle.js_lex.proofs.MarkLaws.{longest_reads, no_mark_reads}
use Rattle.js_lex.specs.declared.token.Mark.{Mark}
use Rattle.js_lex.specs.declared.token.TokenKind.TheVariants as kinds
use Rattle.js_lex.specs.declared.token.LexFault.TheVariants as faults
use Rattle.js_units.specs.Text.{is_blank}
use Rattle.js_literal.specs.Reader.{begins_digit}

-- the element that the reader's value stands for
abbrev pub Fits : List ℕ → ℕ → Lookahead → Element → Type 0
Fits text at ahead.End m = m ≡ End
Fits text at ahead.Quote m = ((us : List ℕ) × (end : ℕ) × (m ≡ TokenOf (kinds.Text us) end) × LiteralOf text
    at us end) ⊎ ((f : LiteralFault) × (m ≡ Fault (faults.Literal f)) × LiteralFaultOf text at f)
Fits text at ahead.Number m = ((v : ℕ) × (end : ℕ) × (m ≡ TokenOf (kinds.Number v) end) × NumberOf text at v end) ⊎ ((f : NumberFault) × (m ≡ Fault (faults.Number f)) × NumberFaultOf text at f)
Fits text at ahead.Open m = m ≡ Fault (faults.OpenComment at)
Fits text at ahead.Bad m = m ≡ Fault (faults.BadCharacter at)
Fits text at (ahead.Skip rest) m = (end : ℕ) × (m ≡ Skip end) × StandsAt text end rest
Fits text at (ahead.Word rest) m = (end : ℕ) × (m ≡ TokenOf kinds.Word end) × StandsAt text end rest
Fits text at (ahead.MarkOf k rest) m = (end : ℕ) × (m ≡ TokenOf (kinds.Mark k) end) × StandsAt text end rest

same_fit : (text : List ℕ) (at : ℕ) (s : Lookahead) (m n : Element) → IsUtf8 text → Fits text at s m → Fits text at s n → m ≡ n
same_fit text at ahead.End m n u h g = h ∙ sym g
same_fit text at ahead.Open m n u h g = h ∙ sym g
same_fit text at ahead.Bad m n u h g = h ∙ sym g
same_fit text at (ahead.Skip rest) m n u h g = h.1 ∙ (ap (λ p. Skip p) (one_place text (h.0) (g.0) rest u (h.2) (g.2)) ∙ sym (g.1))
same_fit text at (ahead.Word rest) m n u h g = h.1 ∙ (ap (λ p. TokenOf kinds.Word p) (one_place text (h.0) (g.0) rest u (h.2) (g.2)) ∙ sym (g.1))
same_fit text at (ahead.MarkOf k rest) m n u h g = h.1 ∙ (ap (λ p. TokenOf (kinds.Mark k) p) (one_place text (h.0) (g.0) rest u (h.2) (g.2)) ∙ sym (g.1))
same_fit text at ahead.Quote m n u (inl h) (inl g) =
    let r = one_literal text at (h.0) (g.0) (h.1) (g.1) u (h.3) (g.3) in
    h.2 ∙ (ap (λ x. TokenOf (kinds.Text x) (h.1)) (r.0) ∙ (ap (λ p. TokenOf (kinds.Text (g.0)) p) (r.1) ∙ sym (g.2)))
same_fit text at ahead.Quote m n u (inl h) (inr g) = absurd (never_both text at (h.0) (h.1) (g.0) (h.3) (g.2))
same_fit text at ahead.Quote m n u (inr h) (inl g) = absurd (never_both text at (g.0) (g.1) (h.0) (g.3) (h.2))
same_fit text at ahead.Quote m n u (inr h) (inr g) = h.1 ∙ (ap (λ f. Fault (faults.Literal f)) (one_fault_of text at (h.0) (g.0) u (h.2) (g.2)) ∙ sym (g.1))
same_fit text at ahead.Number m n u (inl h) (inl g) =
    let r = one_number text at (h.0) (g.0) (h.1) (g.1) u (h.3) (g.3) in
    h.2 ∙ (ap (λ x. TokenOf (kinds.Number x) (h.1)) (r.0) ∙ (ap (λ p. TokenOf (kinds.Number (g.0)) p) (r.1) ∙ sym (g.2)))
same_fit text at ahead.Number m n u (inl h) (inr g) = absurd (no_number text at (h.0) (h.1) (g.0) (h.3) (g.2))
same_fit text at ahead.Number m n u (inr h) (inl g) = absurd (no_number text at (g.0) (g.1) (h.0) (g.3) (h.2))
same_fit text at ahead.Number m n u (inr h) (inr g) = h.1 ∙ (ap (λ f. Fault (faults.Number f)) (one_number_fault text at (h.0) (g.0) (h.2) (g.2)) ∙ sym (g.1))

-- the front's tests, with their results
abbrev chosen : ℕ → List ℕ → Bool → Bool → Bool → Bool → Bool → Lookahead
chosen c s a b q n k = cond a (ahead.Skip s) (cond b (ahead.Word (after_word s)) (cond q ahead.Quote (cond n ahead.Number (cond k (comment s) (mark_ahead (mark_front (c ∷ s)))))))

front_is : (c : ℕ) (s : List ℕ) (a b q n k : Bool) → is_blank c ≡ a → is_word_start c ≡ b → is_quote c ≡ q → begins_number (c ∷ s) ≡ n → nat_eq c 47 ≡ k → front (c ∷ s) ≡ chosen c s a b q n k
unfolding front
front_is c s a b q n k ea eb eq en ek = rw (ea, eb, eq, en, ek) refl

blank_front : (c : ℕ) (s : List ℕ) → is_blank c ≡ true → front (c ∷ s) ≡ ahead.Skip s
unfolding front
blank_front c s h = rw h refl

word_front : (c : ℕ) (s : List ℕ) → is_word_start c ≡ true → front (c ∷ s) ≡ ahead.Word (after_word s)
unfolding front
word_front c s h = let e : is_blank c ≡ false = grind (arith, nat_tests) in rw (e, h) refl

-- a character that begins a mark
abbrev is_mark_start : ℕ → Bool
is_mark_start c = nat_eq c 33 || nat_eq c 38 || nat_eq c 40 || nat_eq c 41 || nat_eq c 43 || nat_eq c 44 || nat_eq c 45 || nat_eq c 46 ||
    nat_eq c 58 || nat_eq c 59 || nat_eq c 60 || nat_eq c 61 || nat_eq c 62 || nat_eq c 63 || nat_eq c 91 || nat_eq c 93 || nat_eq c 123 ||
    nat_eq c 124 || nat_eq c 125

pub no_mark : (c : ℕ) (s : List ℕ) → is_mark_start c ≡ false → mark_front (c ∷ s) ≡ None
unfolding mark_front
no_mark c s h = go s
  where
    e33 : nat_eq c 33 ≡ false
    e33 = grind (arith, nat_tests)

    e38 : nat_eq c 38 ≡ false
    e38 = grind (arith, nat_tests)

    e40 : nat_eq c 40 ≡ false
    e40 = grind (arith, nat_tests)

    e41 : nat_eq c 41 ≡ false
    e41 = grind (arith, nat_tests)

    e43 : nat_eq c 43 ≡ false
    e43 = grind (arith, nat_tests)

    e44 : nat_eq c 44 ≡ false
    e44 = grind (arith, nat_tests)

    e45 : nat_eq c 45 ≡ false
    e45 = grind (arith, nat_tests)

    e46 : nat_eq c 46 ≡ false
    e46 = grind (arith, nat_tests)

    e58 : nat_eq c 58 ≡ false
    e58 = grind (arith, nat_tests)

    e59 : nat_eq c 59 ≡ false
    e59 = grind (arith, nat_tests)

    e60 : nat_eq c 60 ≡ false
    e60 = grind (arith, nat_tests)

    e61 : nat_eq c 61 ≡ false
    e61 = grind (arith, nat_tests)

    e62 : nat_eq c 62 ≡ false
    e62 = grind (arith, nat_tests)

    e63 : nat_eq c 63 ≡ false
    e63 = grind (arith, nat_tests)

    e91 : nat_eq c 91 ≡ false
    e91 = grind (arith, nat_tests)

    e93 : nat_eq c 93 ≡ false
    e93 = grind (arith, nat_tests)

    e123 : nat_eq c 123 ≡ false
    e123 = grind (arith, nat_tests)

    e124 : nat_eq c 124 ≡ false
    e124 = grind (arith, nat_tests)

    e125 : nat_eq c 125 ≡ false
    e125 = grind (arith, nat_tests)

    one : one_mark c ≡ None
    one = rw (e123, e125, e40, e41, e91, e93, e46, e59, e44, e60, e62, e43, e45, e33, e63, e58, e61) refl

    both : (b : ℕ) → two_mark c b ≡ None
    both b = rw (e60, e62, e38, e124, e43, e45) refl

    all : (b d : ℕ) → three_mark c b d ≡ None
    all b d = rw (e61, e33) refl

    go : (s : List ℕ) → or_else (three_front (c ∷ s)) (or_else (two_front (c ∷ s)) (one_front (c ∷ s))) ≡ None
    go [] = rw one refl
    go (b ∷ []) = rw (both b, one) refl
    go (b ∷ d ∷ s) = rw (all b d, both b, one) refl

mark_not : (c : ℕ) (s : List ℕ) (p : Mark × List ℕ) (t : Bool) → mark_front (c ∷ s) ≡ Some p → (t ≡ true → is_mark_start c ≡ false) → t ≡ false
mark_not c s p true h k = let e = no_mark c s (k refl) in absurd cc
mark_not c s p false h k = refl

not_blank : (c : ℕ) → is_blank c ≡ true → is_mark_start c ≡ false
not_blank c h = grind (arith, nat_tests)

not_word : (c : ℕ) → is_word_start c ≡ true → is_mark_start c ≡ false
not_word c h = grind (arith, nat_tests)

not_quote : (c : ℕ) → is_quote c ≡ true → is_mark_start c ≡ false
not_quote c h = grind (arith, nat_tests)

not_slash : (c : ℕ) → nat_eq c 47 ≡ true → is_mark_start c ≡ false
not_slash c h = grind (arith, nat_tests)

mark_front_is : (s : List ℕ) (m : Mark) (rest : List ℕ) → begins_number s ≡ false → mark_front s ≡ Some (m, rest) → front s ≡ ahead.MarkOf m rest
unfolding front mark_front
mark_front_is [] m rest n h = absurd cc
mark_front_is (c ∷ s) m rest n h =
    let ea = mark_not c s (m, rest) (is_blank c) h (not_blank c) in
    let eb = mark_not c s (m, rest) (is_word_start c) h (not_word c) in
    let eq = mark_not c s (m, rest) (is_quote c) h (not_quote c) in
    let ek = mark_not c s (m, rest) (nat_eq c 47) h (not_slash c) in
    front_is c s false false false false false ea eb eq n ek ∙ ap mark_ahead h

plain_digit : (c : ℕ) (d : Bool) → (is_digit c || (nat_eq c 46 && d)) ≡ true → (is_blank c ≡ false) × (is_word_start c ≡ false) × (is_quote c ≡ false)
plain_digit c true h = (grind (arith, nat_tests), grind (arith, nat_tests), grind (arith, nat_tests))
plain_digit c false h = (grind (arith, nat_tests), grind (arith, nat_tests), grind (arith, nat_tests))

number_front : (s : List ℕ) → begins_number s ≡ true → front s ≡ ahead.Number
number_front [] h = absurd cc
number_front (c ∷ s) h = go (begins_digit s) refl
  where
    go : (d : Bool) → begins_digit s ≡ d → front (c ∷ s) ≡ ahead.Number
    go d e =
        let h2 : (is_digit c || (nat_eq c 46 && d)) ≡ true = subst (λ x. (is_digit c || (nat_eq c 46 && x)) ≡ true) e h in
        front_is c s false false false true (nat_eq c 47) (plain_digit c d h2).0 (plain_digit c d h2).1 (plain_digit c d h2).2 h refl

quote_front : (q : ℕ) (s : List ℕ) → is_quote q ≡ true → front (q ∷ s) ≡ ahead.Quote
unfolding front
quote_front q s h =
    let ea : is_blank q ≡ false = grind (arith, nat_tests) in
    let eb : is_word_start q ≡ false = grind (arith, nat_tests) in
    rw (ea, eb, h) refl

comment_bad : (s : List ℕ) → begins_comment s ≡ false → comment s ≡ ahead.Bad
comment_bad [] h = refl
comment_bad (c ∷ s) h =
    let e : nat_eq c 47 ≡ false = grind (arith, nat_tests) in
    let f : nat_eq c 42 ≡ false = grind (arith, nat_tests) in
    rw (e, f) refl

bad_front : (c : ℕ) (s : List ℕ) → IsBad c s → front (c ∷ s) ≡ ahead.Bad
bad_front c s b = front_is c s false false false false (nat_eq c 47) (b.0) (b.1) (b.2) (b.3) refl ∙ go (nat_eq c 47) (b.4)
  where
    go : (k : Bool) → (k && begins_comment s) ≡ false → cond k (comment s) (mark_ahead (mark_front (c ∷ s))) ≡ ahead.Bad
    go true e = comment_bad s e
    go false e = ap mark_ahead (no_mark_reads (c ∷ s) (b.5))

line_front : (s : List ℕ) → front (47 ∷ 47 ∷ s) ≡ ahead.Skip (after_line s)
unfolding front
line_front s = refl

block_front : (s : List ℕ) → front (47 ∷ 42 ∷ s) ≡ block_ahead (after_block s)
unfolding front
block_front s = refl

end_front : front [] ≡ ahead.End
unfolding front
end_front = refl

-- each element fits the reader's value there
pub record Seen (text : List ℕ) (at : ℕ) (m : Element) : Type 0 where
  pub s : List ℕ
  pub stands : StandsAt text at s
  pub fits : Fits text at (front s) m

seen_by : (text : List ℕ) (at : ℕ) (m : Element) (s : List ℕ) (g : Lookahead) → StandsAt text at s → front s ≡ g → Fits text at g m → Seen text at m
seen_by text at m s g h e f = record { s = s; stands = h; fits = subst (λ g. Fits text at g m) (sym e) f }

pub seen : (text : List ℕ) (at : ℕ) (m : Element) → ElementAt text at m → Seen text at m
seen text at _ (ended h) = seen_by text at End [] ahead.End h end_front refl
seen text at _ (blank c s end h b e) = seen_by text at (Skip end) (c ∷ s) (ahead.Skip s) h (blank_front c s b) (end, refl, e)
seen text at _ (line s end h e) = seen_by text at (Skip end) (47 ∷ 47 ∷ s) (ahead.Skip (after_line s)) h (line_front s) (end, refl, e)
seen text at _ (block s rest end h b e) = seen_by text at (Skip end) (47 ∷ 42 ∷ s) (ahead.Skip rest) h (block_front s ∙ ap block_ahead b) (end, refl, e)
seen text at _ (open_block s h b) = seen_by text at (Fault (faults.OpenComment at)) (47 ∷ 42 ∷ s) ahead.Open h (block_front s ∙ ap block_ahead b) refl
seen text at _ (word c s end h b e) = seen_by text at (TokenOf kinds.Word end) (c ∷ s) (ahead.Word (after_word s)) h (word_front c s b) (end, refl, e)
seen text at _ (string us end h) = seen_by text at (TokenOf (kinds.Text us) end) (h.q ∷ h.s) ahead.Quote h.starts (quote_front h.q h.s h.quote) (inl (us, end, refl, h))
seen text at _ (string_fault f h) = seen_by text at (Fault (faults.Literal f)) (h.q ∷ h.s) ahead.Quote h.starts (quote_front h.q h.s h.quote) (inr (f, refl, h))
seen text at _ (number v end h) = seen_by text at (TokenOf (kinds.Number v) end) h.s ahead.Number h.starts (number_front h.s h.begins) (inl (v, end, refl, h))
seen text at _ (number_fault f h) = seen_by text at (Fault (faults.Number f)) h.s ahead.Number h.starts (number_front h.s h.begins) (inr (f, refl, h))
seen text at _ (mark s k rest end h n b e) = seen_by text at (TokenOf (kinds.Mark k) end) s (ahead.MarkOf k rest) h (mark_front_is s k rest n (longest_reads s rest k b)) (end, refl, e)
seen text at _ (bad c s h b) = seen_by text at (Fault (faults.BadCharacter at)) (c ∷ s) ahead.Bad h (bad_front c s b) refl

-- one element alone
pub one_element : (text : List ℕ) (at : ℕ) (m n : Element) → IsUtf8 text → ElementAt text at m → ElementAt text at n → m ≡ n
one_element text at m n u h g =
    let a = seen text at m h in
    let b = seen text at n g in
    let e = one_rest text at a.s b.s a.stands b.stands in
    same_fit text at (front a.s) m n u a.fits (subst (λ s. Fits text at (front s) n) (sym e) b.fits)
