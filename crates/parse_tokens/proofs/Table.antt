-- One more name in the table and among the numbers.
use Rattle.std.proofs.Common.{◌≡◌, ℕ, ◌+◌, ◌≤◌, add-zero, Bool, true, false, cond, List, [], ◌∷◌, ◌++◌, length, length-append, refl, sym, ap, ◌∙◌, subst, eq-eqb, arith, Some, None, Option}
use Rattle.std.specs.Prelude.{nat_lt, nat_eq}
use Rattle.std.specs.Str.{bytes_eq}
use Rattle.std.specs.List.{position}
use Rattle.std.specs.Ordering.{nat_cmp}
use Rattle.std.specs.Cmp.Lexicographic.{slice_cmp, nat_list_cmp_total}
use Rattle.std.specs.FinMap.{FinMap, get, empty, insert, get-insert, get-empty}
use Rattle.std.proofs.lemmas.Bool.{lt-ltb, le-ltb, ltb-false}
use Rattle.std.proofs.lemmas.List.Folds.{position_or_len_push}
use Rattle.std.proofs.lemmas.List.Sums.{prefix_len-le-length}
use Rattle.std.proofs.lemmas.Map.Text.{is_eq-slice_cmp}
use Rattle.std.proofs.lemmas.Bool.Decides.{Decides-eqb}
use Rattle.std.proofs.lemmas.Slice.Eq.{bytes_eq-Decides}
use Rattle.parse_tokens.specs.Steps.{Agrees}
use Rattle.parse_tokens.specs.Tokens.{place_in}

abbrev found_at : ℕ → ℕ → Option ℕ
found_at n len = cond (nat_lt n len) (Some n) None

pub nothing_yet : (numbers : FinMap (slice_cmp nat_cmp) ℕ) → numbers ≡ empty → (names : List (List ℕ)) → names ≡ [] → Agrees numbers names
nothing_yet numbers e names f q = rw (e, f) (get-empty (slice_cmp nat_cmp) q)

pub not_found : (names : List (List ℕ)) (letters : List ℕ) → position (bytes_eq letters) names ≡ None → place_in names letters ≡ length names
not_found names letters none = go (nat_lt (place_in names letters) (length names)) refl
  where
    go : (b : Bool) → nat_lt (place_in names letters) (length names) ≡ b → place_in names letters ≡ length names
    go true e = let x : Some (place_in names letters) ≡ None = sym (ap (λ b. cond b (Some (place_in names letters)) None) e) ∙ none in absurd (cc)
    go false e = let most : place_in names letters ≤ length names = prefix_len-le-length _ names in let least : length names ≤ place_in names letters = ltb-false _ _ e in omega arith

new_at : (n len more : ℕ) → n ≡ len → more ≡ len + 1 → Some len ≡ found_at n more
new_at n len more e f = let b : nat_lt n more ≡ true = lt-ltb n more (omega arith) in rw b (ap Some (sym e))

old_at : (n new len more : ℕ) → new ≡ cond (nat_eq n len) (len + 1) n → more ≡ len + 1 → n ≤ len → found_at n len ≡ found_at new more
old_at n new len more e f most = go (nat_eq n len) refl
  where
    go : (b : Bool) → nat_eq n len ≡ b → found_at n len ≡ found_at new more
    go true h =
        let same : n ≡ len = (Decides-eqb n len).0 h in
        let x : new ≡ len + 1 = e ∙ ap (λ b. cond b (len + 1) n) h in
        let a : nat_lt n len ≡ false = le-ltb n len (omega arith) in
        let b : nat_lt new more ≡ false = le-ltb new more (omega arith) in
        rw (a, b) refl
    go false h =
        let other : n ≡ len → ⊥ = λ s. (let t : true ≡ false = sym (eq-eqb n len s) ∙ h in absurd (cc)) in
        let x : new ≡ n = e ∙ ap (λ b. cond b (len + 1) n) h in
        let a : nat_lt n len ≡ true = lt-ltb n len (omega arith) in
        let b : nat_lt new more ≡ true = lt-ltb new more (omega arith) in
        rw (a, b) (ap Some (sym x))

pub entered : (numbers : FinMap (slice_cmp nat_cmp) ℕ) (names : List (List ℕ)) (letters : List ℕ) → Agrees numbers names → position
    (bytes_eq letters) names ≡ None → Agrees (insert numbers letters (length names)) (names ++ letters ∷ [])
entered numbers names letters agrees none q = get-insert nat_list_cmp_total numbers letters (length names) q ∙
    (ap (λ b. cond b (Some (length names)) (get numbers q)) (is_eq-slice_cmp q letters) ∙ go (bytes_eq q letters) refl)
  where
    more : length (names ++ letters ∷ []) ≡ length names + 1
    more = length-append names (letters ∷ [])

    go : (b : Bool) → bytes_eq q letters ≡ b → cond b (Some (length names)) (get numbers q) ≡ position (bytes_eq q) (names ++ letters ∷ [])
    go true e =
        let same : q ≡ letters = (bytes_eq-Decides q letters).0 e in
        let old : place_in names q ≡ length names = not_found names q (subst (λ (k : List ℕ). position (bytes_eq k) names ≡ None) (sym same) none) in
        let new : place_in (names ++ letters ∷ []) q ≡ length names = position_or_len_push (bytes_eq q) names letters ∙ (rw (eq-eqb _ _ old, e) (add-zero (length names))) in
        new_at _ (length names) _ new more
    go false e = agrees q ∙ old_at (place_in names q) _ (length names) _ (position_or_len_push (bytes_eq q) names letters ∙ rw e refl) more (prefix_len-le-length _ names)

-- the same of what the calls gave
pub entered_by : (numbers more : FinMap (slice_cmp nat_cmp) ℕ) (names table : List (List ℕ)) (letters copy : List ℕ) (number : ℕ) → Agrees
    numbers names → position (bytes_eq letters) names ≡ None → number ≡ length names → more ≡ insert numbers letters number → copy ≡ letters →
    table ≡ names ++ copy ∷ [] → Agrees more table
entered_by numbers more names table letters copy number agrees none n e c t = rw (e, t, c, n) (entered numbers names letters agrees none)
