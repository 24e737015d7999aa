-- What one more round of a loop makes of the texts and of the state.
use Rattle.std.proofs.Common.{◌≡◌, ◌+◌, ◌*◌, ◌++◌, ℕ, zero, suc, List, [], ◌∷◌, refl, ap, ap₂, sym, ◌∙◌, append_assoc, codes, map, mul-add, arith}
use Rattle.run_sources.specs.Draws.{state_after, draw, joined_up_to, list_up_to, next}
use Rattle.run_sources.specs.Lines.{digits, generated_line, word_line}
use Rattle.run_sources.specs.Texts.{Named, before, drawn_line, named_for, named_script, prelude, script, drawn_word, word_length}
use Rattle.run_sources.specs.declared.texts.GeneratedText.{GeneratedText}
use Rattle.std.specs.String.{string_bytes}
use Rattle.std.proofs.lemmas.List.{map-append}

pub each_none : (f : ℕ → List ℕ) → joined_up_to f 0 ≡ []
unfolding joined_up_to
each_none f = refl

pub each_more : (f : ℕ → List ℕ) (k : ℕ) → joined_up_to f (k + 1) ≡ joined_up_to f k ++ f k
unfolding joined_up_to
each_more f k =
    let more : k + 1 ≡ suc k = omega arith in
    ap (joined_up_to f) more

pub listed_none : {T : Type 0} (f : ℕ → T) → list_up_to f 0 ≡ []
unfolding joined_up_to
listed_none f = refl

pub listed_more : {T : Type 0} (f : ℕ → T) (k : ℕ) → list_up_to f (k + 1) ≡ list_up_to f k ++ f k ∷ []
unfolding joined_up_to
listed_more f k =
    let more : k + 1 ≡ suc k = omega arith in
    ap (list_up_to f) more

pub after_none : (x : ℕ) → state_after 0 x ≡ x
unfolding state_after
after_none x = refl

pub after_more : (k x : ℕ) → state_after (k + 1) x ≡ next (state_after k x)
unfolding state_after
after_more k x =
    let more : k + 1 ≡ suc k = omega arith in
    ap (λ n. state_after n x) more

pub after_one : (x : ℕ) → state_after 1 x ≡ next x
unfolding state_after
after_one x = refl

pub after_two : (x : ℕ) → state_after 2 x ≡ next (next x)
unfolding state_after
after_two x = refl

pub after_three : (x : ℕ) → state_after 3 x ≡ next (next (next x))
unfolding state_after
after_three x = refl

pub after_four : (x : ℕ) → state_after 4 x ≡ next (next (next (next x)))
unfolding state_after
after_four x = refl

-- draws in a row
pub after_after : (j k x : ℕ) → state_after k (state_after j x) ≡ state_after (j + k) x
unfolding state_after
after_after j zero x =
    let none : j ≡ j + 0 = omega arith in
    ap (λ n. state_after n x) none
after_after j (suc k) x =
    let more : suc (j + k) ≡ j + suc k = omega arith in
    ap next (after_after j k x) ∙ ap (λ n. state_after n x) more

pub before_none : (n : ℕ) → before n 0 ≡ n
unfolding before
before_none n = refl

pub before_more : (n i : ℕ) → before n (i + 1) ≡ state_after (word_length (before n i)) (next (before n i))
unfolding before
before_more n i =
    let more : i + 1 ≡ suc i = omega arith in
    ap (before n) more

-- ---- one more round

pub letters_more : (y state j : ℕ) (text : List ℕ) → text ≡ joined_up_to (λ j. (97 + draw (state_after j y) 26) ∷ []) j → state ≡
    state_after j y → text ++ (97 + draw state 26) ∷ [] ≡ joined_up_to (λ j. (97 + draw (state_after j y) 26) ∷ []) (j + 1)
letters_more y state j text is at = rw (is, at) (sym (each_more (λ j. (97 + draw (state_after j y) 26) ∷ []) j))

pub state_more : (x y j : ℕ) → x ≡ state_after j y → next x ≡ state_after (j + 1) y
state_more x y j at = rw (at) (sym (after_more j y))

pub words_more : (n state i : ℕ) (text letters : List ℕ) → text ≡ joined_up_to (λ k. word_line k (drawn_word (before n k))) i → state ≡ before n i → letters ≡ drawn_word state
    → text ++ word_line i letters ≡ joined_up_to (λ k. word_line k (drawn_word (before n k))) (i + 1)
words_more n state i text letters is at drawn = rw (is, drawn, at) (sym (each_more (λ k. word_line k (drawn_word (before n k))) i))

pub before_after : (n state i : ℕ) → state ≡ before n i → state_after (word_length state) (next state) ≡ before n (i + 1)
before_after n state i at = rw (at) (sym (before_more n i))

pub lines_more : (x state l : ℕ) (front text line : List ℕ) → text ≡ front ++ joined_up_to (λ k. drawn_line (state_after (4 * k) x)) l → state ≡ state_after (4 * l) x → line ≡ drawn_line state
    → text ++ line ≡ front ++ joined_up_to (λ k. drawn_line (state_after (4 * k) x)) (l + 1)
lines_more x state l front text line is at drawn =
    rw (is, drawn, at) (append_assoc front (joined_up_to (λ k. drawn_line (state_after (4 * k) x)) l) (drawn_line (state_after (4 * l) x)) ∙
    ap (λ rest. front ++ rest) (sym (each_more (λ k. drawn_line (state_after (4 * k) x)) l)))

pub rounds_more : (size x state l : ℕ) → state ≡ state_after (size * l) x → state_after size state ≡ state_after (size * (l + 1)) x
rounds_more size x state l at =
    let more : size * l + size ≡ size * (l + 1) = omega (arith, mul-add size l 1) in
    rw (at) (after_after (size * l) size x ∙ ap (λ k. state_after k x) more)

-- ---- four draws

pub drawn_is : (x s1 s2 s3 k a b c : ℕ) → s1 ≡ next x → s2 ≡ next s1 → s3 ≡ next s2 → k ≡ draw x 6 → a ≡ draw s1 16 → b ≡ draw s2 16 → c ≡ draw s3 8 → generated_line k a b c ≡ drawn_line x
drawn_is x s1 s2 s3 k a b c e1 e2 e3 kind first second third =
    let t1 : s1 ≡ state_after 1 x = e1 ∙ sym (after_one x) in
    let t2 : s2 ≡ state_after 2 x = e2 ∙ ap next e1 ∙ sym (after_two x) in
    let t3 : s3 ≡ state_after 3 x = e3 ∙ ap next (e2 ∙ ap next e1) ∙ sym (after_three x) in
    ap₂ (λ m n. generated_line m n b c) kind (first ∙ ap (λ s. draw s 16) t1) ∙ ap₂
    (λ m n. generated_line (draw x 6) (draw (state_after 1 x) 16) m n) (second ∙ ap (λ s. draw s 16) t2) (third ∙ ap (λ s. draw s 8) t3)

pub four_is : (x s1 s2 s3 s4 : ℕ) → s1 ≡ next x → s2 ≡ next s1 → s3 ≡ next s2 → s4 ≡ next s3 → s4 ≡ state_after 4 x
four_is x s1 s2 s3 s4 e1 e2 e3 e4 = e4 ∙ ap next (e3 ∙ ap next (e2 ∙ ap next e1)) ∙ sym (after_four x)

-- ---- the list of texts

named_is : (t : GeneratedText) (name text : List ℕ) → string_bytes t.name ≡ name → string_bytes t.text ≡ text → named_for t ≡ record { name = name; text = text }
named_is t name text n e =
    let both : List ℕ → List ℕ → Named = λ a b. record { name = a; text = b } in
    ap₂ both n e

pub first_text : (n : ℕ) (items : List GeneratedText) (t : GeneratedText) → items ≡ t ∷ [] → string_bytes t.name ≡ codes "gen-prelude" → string_bytes t.text ≡ prelude n
    → map named_for items ≡ (record { name = codes "gen-prelude"; text = prelude n }) ∷ list_up_to (named_script n) 0
first_text n items t one name text =
    ap (map named_for) one ∙ ap₂ (λ (first : Named) rest. first ∷ rest) (named_is t (codes "gen-prelude") (prelude n) name text) (sym (listed_none (named_script n)))

pub next_text : (n state j : ℕ) (items more : List GeneratedText) (t : GeneratedText) → map named_for items ≡ (record { name = codes "gen-prelude"; text = prelude n }) ∷ list_up_to (named_script n) j
    → state ≡ state_after (128 * j) (before n 16) → more ≡ items ++ t ∷ [] → string_bytes t.name ≡ codes "gen-" ++ digits j → string_bytes t.text ≡ script j state
    → map named_for more ≡ (record { name = codes "gen-prelude"; text = prelude n }) ∷ list_up_to (named_script n) (j + 1)
next_text n state j items more t is at pushed name text =
    let last : named_for t ≡ named_script n j = named_is t (codes "gen-" ++ digits j) (script j (state_after (128 * j) (before n 16))) name (text ∙ ap (script j) at) in
    let start : Named = record { name = codes "gen-prelude"; text = prelude n } in
    ap (map named_for) pushed ∙ map-append named_for items (t ∷ []) ∙ ap₂ (λ (xs : List Named) (x : Named). xs ++ x ∷ []) is last
    ∙ ap (λ (rest : List Named). start ∷ rest) (sym (listed_more (named_script n) j))
