-- What the reader's value says of the characters, and that each element ends later than it begins.
use Rattle.std.proofs.Common.{◌≡◌, ℕ, List, [], ◌∷◌, ◌++◌, length, Bool, true, false, cond, Option, Some, None, nat_eq, refl, sym, ap, ◌∙◌, subst, arith, ◌⊎◌, inl, inr}
use Rattle.std.proofs.lemmas.Bool.Decides.{nat_tests}
use Rattle.std.proofs.lemmas.List.{length-append}
use Rattle.std.specs.Prelude.{IsUtf8, encode_utf8_all, ◌&&◌, not}
use Rattle.std.specs.Str.{IsCharBoundary, all_scalars}
use Rattle.std.specs.Char.{encode_utf8}
use Rattle.std.proofs.lemmas.Str.{encodes-append, encodes-chars, scalars-chars, length-encode, len_utf8_bounds, IsCharBoundary-at_seam}
use Rattle.js_literal.specs.Place.{StandsAt}
use Rattle.js_literal.specs.Literal.{is_quote}
use Rattle.js_literal.specs.Number.{is_word_start, begins_number}
use Rattle.js_literal.proofs.Places.{bytes_of}
use Rattle.js_literal.proofs.Pieces.{EndsIn}
use Rattle.js_lex.specs.Elements.{is_word_part, is_line_end, after_block}
use Rattle.js_lex.specs.MarkReader.{mark_front}
use Rattle.js_lex.specs.Reader.{Lookahead, comment, block_ahead, mark_ahead, front, after_line, after_word, begins_comment}
use Rattle.js_lex.specs.Reader as ahead
use Rattle.js_lex.specs.Tokens.{IsBad}
use Rattle.js_lex.specs.Steps.{IsForward}
use Rattle.js_lex.proofs.Lookaheads.{no_mark}
use Rattle.js_lex.proofs.LongestMark.{none_stands}
use Rattle.js_units.specs.Text.{is_blank}

-- what a value of the reader says of the characters
abbrev pub Means : List ℕ → Lookahead → Type 0
Means s ahead.End = s ≡ []
Means s ahead.Quote = (q : ℕ) × (t : List ℕ) × (s ≡ q ∷ t) × (is_quote q ≡ true)
Means s ahead.Number = begins_number s ≡ true
Means s ahead.Open = (t : List ℕ) × (s ≡ 47 ∷ 42 ∷ t) × (after_block t ≡ None)
Means s ahead.Bad = (c : ℕ) × (t : List ℕ) × (s ≡ c ∷ t) × IsBad c t
Means s (ahead.Skip rest) = ((c : ℕ) × (s ≡ c ∷ rest) × (is_blank c ≡ true)) ⊎ (((t : List ℕ) × (s ≡ 47 ∷ 47 ∷ t) ×
    (rest ≡ after_line t)) ⊎ ((t : List ℕ) × (s ≡ 47 ∷ 42 ∷ t) × (after_block t ≡ Some rest)))
Means s (ahead.Word rest) = (c : ℕ) × (t : List ℕ) × (s ≡ c ∷ t) × (is_word_start c ≡ true) × (rest ≡ after_word t)
Means s (ahead.MarkOf m rest) = (begins_number s ≡ false) × (mark_front s ≡ Some (m, rest))

is : (c n : ℕ) → nat_eq c n ≡ true → c ≡ n
is c n h = grind (arith, nat_tests)

slash_bad : (s : List ℕ) → begins_comment s ≡ false → IsBad 47 s
slash_bad s h = (refl, refl, refl, refl, h, none_stands (47 ∷ s) (no_mark 47 s refl))

comment_means : (s : List ℕ) → Means (47 ∷ s) (comment s)
comment_means [] = (47, [], refl, slash_bad [] refl)
comment_means (c ∷ s) = go (nat_eq c 47) (nat_eq c 42) refl refl
  where
    ended : (o : Option (List ℕ)) → after_block s ≡ o → Means (47 ∷ 42 ∷ s) (block_ahead o)
    ended None e = (s, refl, e)
    ended (Some rest) e = inr (inr (s, refl, e))

    go : (a b : Bool) → nat_eq c 47 ≡ a → nat_eq c 42 ≡ b → Means (47 ∷ c ∷ s) (cond a (ahead.Skip (after_line s)) (cond b (block_ahead (after_block s)) ahead.Bad))
    go true b ea eb = inr (inl (s, ap (λ k. 47 ∷ k ∷ s) (is c 47 ea), refl))
    go false true ea eb = subst (λ k. Means (47 ∷ k ∷ s) (block_ahead (after_block s))) (sym (is c 42 eb)) (ended (after_block s) refl)
    go false false ea eb = (47, c ∷ s, refl, slash_bad (c ∷ s) (rw (ea, eb) refl))

pub front_means : (s : List ℕ) → Means s (front s)
unfolding front
front_means [] = refl
front_means (c ∷ s) = go (is_blank c) (is_word_start c) (is_quote c) (begins_number (c ∷ s)) (nat_eq c 47) refl refl refl refl refl
  where
    slash : (is_blank c ≡ false) → (is_word_start c ≡ false) → (is_quote c ≡ false) → (begins_number (c ∷ s) ≡ false) → nat_eq c 47 ≡ true → Means (c ∷ s) (comment s)
    slash ea eb eq en ek = subst (λ k. Means (k ∷ s) (comment s)) (sym (is c 47 ek)) (comment_means s)

    none : (is_blank c ≡ false) → (is_word_start c ≡ false) → (is_quote c ≡ false) → (begins_number (c ∷ s) ≡ false) → nat_eq c
        47 ≡ false → (o : _) → mark_front (c ∷ s) ≡ o → Means (c ∷ s) (mark_ahead o)
    none ea eb eq en ek None e = (c, s, refl, (ea, eb, eq, en, ap (λ k. k && begins_comment s) ek, none_stands (c ∷ s) e))
    none ea eb eq en ek (Some p) e = (en, e)

    go : (a b q n k : Bool) → is_blank c ≡ a → is_word_start c ≡ b → is_quote c ≡ q → begins_number (c ∷ s) ≡ n → nat_eq c 47 ≡ k → Means
        (c ∷ s) (cond a (ahead.Skip s) (cond b (ahead.Word (after_word s))
        (cond q ahead.Quote (cond n ahead.Number (cond k (comment s) (mark_ahead (mark_front (c ∷ s))))))))
    go true b q n k ea eb eq en ek = inl (c, refl, ea)
    go false true q n k ea eb eq en ek = (c, s, refl, eb, refl)
    go false false true n k ea eb eq en ek = (c, s, refl, eq)
    go false false false true k ea eb eq en ek = en
    go false false false false true ea eb eq en ek = slash ea eb eq en ek
    go false false false false false ea eb eq en ek = none ea eb eq en ek (mark_front (c ∷ s)) refl

-- the rest of what is seen comes after a character at least
abbrev pub Behind : List ℕ → List ℕ → Type 0
Behind s rest = (c : ℕ) × (front : List ℕ) × (s ≡ c ∷ (front ++ rest))

pub word_end : (s : List ℕ) → EndsIn s (after_word s)
word_end [] = ([], refl)
word_end (c ∷ s) = go (is_word_part c) (word_end s)
  where
    go : (b : Bool) → EndsIn s (after_word s) → EndsIn (c ∷ s) (cond b (after_word s) (c ∷ s))
    go true e = (c ∷ e.0, ap (λ r. c ∷ r) (e.1))
    go false e = ([], refl)

pub line_end : (s : List ℕ) → EndsIn s (after_line s)
line_end [] = ([], refl)
line_end (c ∷ s) = go (is_line_end c) (line_end s)
  where
    go : (b : Bool) → EndsIn s (after_line s) → EndsIn (c ∷ s) (cond (not b) (after_line s) (c ∷ s))
    go true e = ([], refl)
    go false e = (c ∷ e.0, ap (λ r. c ∷ r) (e.1))

pub block_end : (s rest : List ℕ) → after_block s ≡ Some rest → EndsIn s rest
block_end [] rest h = absurd cc
block_end (a ∷ []) rest h = absurd cc
block_end (a ∷ b ∷ s) rest h = go (nat_eq a 42 && nat_eq b 47) h (λ h. block_end (b ∷ s) rest h)
  where
    go : (t : Bool) → cond t (Some s) (after_block (b ∷ s)) ≡ Some rest → (after_block (b ∷ s) ≡ Some rest → EndsIn (b ∷ s) rest) → EndsIn (a ∷ b ∷ s) rest
    go true h ih = (a ∷ b ∷ [], ap (λ r. a ∷ b ∷ r) (let e : s ≡ rest = cc in e))
    go false h ih = let e = ih h in (a ∷ e.0, ap (λ r. a ∷ r) (e.1))

scalars_end : (xs ys : List ℕ) → all_scalars (xs ++ ys) ≡ true → all_scalars ys ≡ true
scalars_end [] ys h = h
scalars_end (x ∷ xs) ys h = scalars_end xs ys (grind arith)

pub stands_cut : (text : List ℕ) (at : ℕ) (cs : List ℕ) → IsUtf8 text → StandsAt text at cs → IsCharBoundary text at
stands_cut text at cs u h =
    let whole : text ≡ encode_utf8_all h.front ++ encode_utf8_all cs = sym (encodes-chars text u) ∙ (ap encode_utf8_all h.whole ∙ encodes-append h.front cs) in
    let good : all_scalars cs ≡ true = scalars_end h.front cs (sym (ap all_scalars h.whole) ∙ scalars-chars text u) in
    subst (IsCharBoundary text) h.bytes (IsCharBoundary-at_seam text (encode_utf8_all h.front) (encode_utf8_all cs) whole (cs, (good, refl)))

pub goes_forward : (text : List ℕ) (at end : ℕ) (s rest : List ℕ) → IsUtf8 text → StandsAt text at s → StandsAt text end rest → Behind s rest → IsForward text at end
goes_forward text at end s rest u h g b =
    let a = bytes_of text at s u h in
    let e = bytes_of text end rest u g in
    let l : length (encode_utf8_all s) ≡ length (encode_utf8 (b.0) ++ encode_utf8_all (b.1 ++ rest)) = ap (λ x. length (encode_utf8_all x)) (b.2) in
    let m = len_utf8_bounds (b.0) in
    record {
      later = omega (
        arith,
        a,
        e,
        l,
        length-append (encode_utf8 (b.0)) (encode_utf8_all (b.1 ++ rest)),
        length-encode (b.0),
        m.0,
        ap length
            (encodes-append (b.1) rest),
        length-append (encode_utf8_all (b.1)) (encode_utf8_all rest),
      );
      within = omega (arith, e);
      cut = stands_cut text end rest u g;
    }
