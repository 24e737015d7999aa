-- Reserved words by their length, and words that stand one behind the other.
use Rattle.std.proofs.Common.{◌≡◌, ℕ, suc, ◌+◌, ◌<◌, ◌≤◌, Bool, true, false, cond, List, [], ◌∷◌, ◌++◌, length, take, drop, refl, sym, ap, ◌∙◌, arith, eq-eqb}
use Rattle.std.proofs.Common.{eqb-true, take_at, drop_at, length-append, ◌-◌, take_all, length-drop, le_of_eq}
use Rattle.std.specs.Prelude.{nat_eq, filter, ◌||◌}
use Rattle.std.specs.List.{list_any}
use Rattle.std.specs.Str.{bytes_eq}
use Rattle.std.proofs.lemmas.Slice.Eq.{bytes_eq-Decides}
use Rattle.parse_tokens.specs.Words.{reserved_words, kept_words}
use Rattle.parse_tokens.specs.Reserved.{is_reserved}
use Rattle.parse_tokens.specs.Lengths.{of_length, spaced, all_have}

abbrev is_in : List ℕ → List (List ℕ) → Bool
is_in letters ws = list_any (bytes_eq letters) ws

in_kept : (p : List ℕ → Bool) (letters : List ℕ) → p letters ≡ true → (ws : List (List ℕ)) → is_in letters ws ≡ is_in letters (filter p ws)
in_kept p letters h [] = refl
in_kept p letters h (w ∷ ws) = go (in_kept p letters h ws) (p w) refl
  where
    other : is_in letters ws ≡ is_in letters (filter p ws) → p w ≡ false → (b : Bool) → bytes_eq letters w ≡ b → (b || is_in letters ws) ≡ is_in letters (filter p ws)
    other ih e true same = let k : letters ≡ w = (bytes_eq-Decides letters w).0 same in let f : true ≡ false = sym h ∙ (ap p k ∙ e) in absurd (cc)
    other ih e false same = ih

    go : is_in letters ws ≡ is_in letters (filter p ws) → (b : Bool) → p w ≡ b → is_in letters (w ∷ ws) ≡ is_in letters (cond b (w ∷ filter p ws) (filter p ws))
    go ih true e = ap (λ r. bytes_eq letters w || r) ih
    go ih false e = other ih e (bytes_eq letters w) refl

pub in_of_length : (letters : List ℕ) → list_any (bytes_eq letters) (of_length (length letters)) ≡ is_reserved letters
in_of_length letters = sym (in_kept (λ w. nat_eq (length w) (length letters)) letters (eq-eqb (length letters) (length letters) refl) (reserved_words ++ kept_words))

have_length : (n : ℕ) (ws : List (List ℕ)) → all_have n (filter (λ w. nat_eq (length w) n) ws) ≡ true
have_length n [] = refl
have_length n (w ∷ ws) = go (have_length n ws) (nat_eq (length w) n) refl
  where
    kept : List (List ℕ)
    kept = filter (λ v. nat_eq (length v) n) ws

    go : all_have n kept ≡ true → (b : Bool) → nat_eq (length w) n ≡ b → all_have n (cond b (w ∷ kept) kept) ≡ true
    go ih true e = ap (λ c. cond c (all_have n kept) false) e ∙ ih
    go ih false e = ih

pub all_of_length : (n : ℕ) → all_have n (of_length n) ≡ true
all_of_length n = have_length n (reserved_words ++ kept_words)

-- the first of some words, with what stands behind its blank
pub record First (n : ℕ) (text : List ℕ) (ws : List (List ℕ)) : Type 0 where
  word : List ℕ
  rest : List (List ℕ)
  whole : ws ≡ word ∷ rest
  stands : take n text ≡ word
  behind : drop 1 (drop n text) ≡ spaced rest
  all : all_have n rest ≡ true

split_first : (n : ℕ) (w : List ℕ) (ws : List (List ℕ)) → all_have n (w ∷ ws) ≡ true → (length w ≡ n) × (all_have n ws ≡ true)
split_first n w ws h = go (nat_eq (length w) n) refl h
  where
    go : (b : Bool) → nat_eq (length w) n ≡ b → cond b (all_have n ws) false ≡ true → (length w ≡ n) × (all_have n ws ≡ true)
    go true e h = (eqb-true (length w) n e, h)
    go false e h = absurd (cc)

pub first_of : (n : ℕ) (text : List ℕ) (ws : List (List ℕ)) → n < length text → all_have n ws ≡ true → text ≡ spaced ws → First n text ws
first_of n text [] more h e = absurd (let k : length text ≡ 0 = ap length e in omega arith)
first_of n text (w ∷ ws) more h e =
    let s = split_first n w ws h in
    record {
      word = w;
      rest = ws;
      whole = refl;
      stands = ap (take n) e ∙ take_at w (32 ∷ spaced ws) n s.0;
      behind = ap (λ t. drop 1 (drop n t)) e ∙ ap (drop 1) (drop_at w (32 ∷ spaced ws) n s.0);
      all = s.1;
    }

pub none_left : (letters text : List ℕ) (ws : List (List ℕ)) → length text ≤ length letters → all_have (length letters) ws ≡ true → text ≡ spaced ws → false ≡ list_any (bytes_eq letters) ws
none_left letters text [] less h e = refl
none_left letters text (w ∷ ws) less h e = absurd (
    let s = split_first (length letters) w ws h in
    let k : length text ≡ length w + length (32 ∷ spaced ws) = ap length e ∙ length-append w (32 ∷ spaced ws) in
    let m : length (32 ∷ spaced ws) ≡ suc (length (spaced ws)) = refl in
    omega arith)

pub is_first : (letters text word : List ℕ) (found : Bool) → length letters < length text → word ≡ take (length letters) text → found ≡ bytes_eq letters word → found ≡ true
    → (ws : List (List ℕ)) → all_have (length letters) ws ≡ true → text ≡ spaced ws → found ≡ is_in letters ws
is_first letters text word found more w f t ws h e =
    let s = first_of (length letters) text ws more h e in
    let same : bytes_eq letters s.word ≡ true = ap (bytes_eq letters) (sym s.stands ∙ sym w) ∙ (sym f ∙ t) in
    t ∙ sym (ap (is_in letters) s.whole ∙ ap (λ b. b || is_in letters s.rest) same)

pub is_behind : (letters text word behind rest : List ℕ) (found result : Bool) → length letters < length text → word ≡ take (length letters) text → behind ≡ drop (length letters) text
    → rest ≡ take (length behind - 1) (drop 1 behind) → found ≡ bytes_eq letters word → found ≡ false
    → ((ws : List (List ℕ)) → all_have (length letters) ws ≡ true → rest ≡ spaced ws → result ≡ list_any (bytes_eq letters) ws)
    → (ws : List (List ℕ)) → all_have (length letters) ws ≡ true → text ≡ spaced ws → result ≡ is_in letters ws
is_behind letters text word behind rest found result more w b r f t others ws h e =
    let s = first_of (length letters) text ws more h e in
    let other : bytes_eq letters s.word ≡ false = ap (bytes_eq letters) (sym s.stands ∙ sym w) ∙ (sym f ∙ t) in
    let all : take (length behind - 1) (drop 1 behind) ≡ drop 1 behind = take_all (length behind - 1) (drop 1 behind) (le_of_eq (length-drop 1 behind)) in
    let left : rest ≡ spaced s.rest = r ∙ (all ∙ (ap (drop 1) b ∙ s.behind)) in
    others s.rest s.all left ∙ sym (ap (is_in letters) s.whole ∙ ap (λ b. b || is_in letters s.rest) other)
