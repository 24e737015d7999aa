-- Loops of a parser: what was read so far, and what is to be read.
use Rattle.std.proofs.Common.{◌≡◌, ℕ, zero, suc, ◌<◌, ◌≤◌, List, [], ◌∷◌, ◌++◌, length, Bool, true, false, cond, Option, Some, None, refl, sym, ap, ◌∙◌, arith, append_assoc, append-nil}
use Rattle.parse_syntax.specs.Reader.{Answer, Got, Bad, SyntaxFaultKind, TokenReader, ◌>>=◌, and_then, take_or, one_of, loop, all_of, with_front}
use Rattle.parse_syntax.proofs.Local.{IsEating}

module _ {T : Type 0} where
  module _ {A : Type 0} (starts : List T → Bool) (none : starts [] ≡ false) (item : TokenReader T A) (eats : IsEating item) where
    -- more turns than tokens change nothing
    enough : (n m : ℕ) (s : List T) → length s ≤ n → length s ≤ m → loop starts item n s ≡ loop starts item m s
    enough zero zero s a b = refl
    enough zero (suc m) [] a b = rw none refl
    enough zero (suc m) (t ∷ s) a b = absurd (omega arith)
    enough (suc n) zero [] a b = rw none refl
    enough (suc n) zero (t ∷ s) a b = absurd (omega arith)
    enough (suc n) (suc m) s a b = go (enough n m) (item s) refl
      where
        go : ((s : List T) → length s ≤ n → length s ≤ m → loop starts item n s ≡ loop starts item m s) → (r : Answer T A) → item s ≡ r →
            cond (starts s) (item s >>= λ x rest. loop starts item n rest >>= λ xs rest'. Got (x ∷ xs) rest') (Got [] s) ≡ cond (starts s)
            (item s >>= λ x rest. loop starts item m rest >>= λ xs rest'. Got (x ∷ xs) rest') (Got [] s)
        go ih (Bad k rest) e = rw e refl
        go ih (Got x rest) e =
            let lt = eats.less s x rest e in
            let a' : length rest ≤ n = omega arith in
            let b' : length rest ≤ m = omega arith in
            rw (e, ih rest a' b') refl

    step_of_loop : (front : List A) (s : List T) (x : A) (rest : List T) → starts s ≡ true → item s ≡ Got x rest → with_front front
        (all_of starts item s) ≡ with_front (front ++ x ∷ []) (all_of starts item rest)
    step_of_loop front [] x rest h e = let q : true ≡ false = sym h ∙ none in cc
    step_of_loop front (t ∷ s) x rest h e =
        let lt = eats.less (t ∷ s) x rest e in
        let same = enough (length s) (length rest) rest (omega arith) (omega arith) in
        rw (h, e, same) (go (loop starts item (length rest) rest))
      where
        go : (r : Answer T (List A)) → with_front front (r >>= λ xs rest'. Got (x ∷ xs) rest') ≡ with_front (front ++ x ∷ []) r
        go (Bad k b) = refl
        go (Got xs b) = ap (λ l. Got l b) (sym (append_assoc front (x ∷ []) xs))

    pub keeps_on : (front : List A) (s : List T) (x : A) (rest : List T) (all : Answer T (List A)) → starts s ≡ true → item s ≡ Got x rest →
        with_front front (all_of starts item s) ≡ all → with_front (front ++ x ∷ []) (all_of starts item rest) ≡ all
    keeps_on front s x rest all h e i = sym (step_of_loop front s x rest h e) ∙ i

    pub fails_on : (front : List A) (s : List T) (k : SyntaxFaultKind) (rest : List T) (all : Answer T (List A)) → starts s ≡ true → item s
        ≡ Bad k rest → with_front front (all_of starts item s) ≡ all → all ≡ Bad k rest
    fails_on front [] k rest all h e i = let q : true ≡ false = sym h ∙ none in cc
    fails_on front (t ∷ s) k rest all h e i = sym i ∙ rw (h, e) refl

    pub ends_on : (front : List A) (s : List T) (all : Answer T (List A)) → starts s ≡ false → with_front front (all_of starts item s) ≡ all → all ≡ Got front s
    ends_on front [] all h i = sym i ∙ ap (λ l. Got l []) (append-nil front)
    ends_on front (t ∷ s) all h i = sym i ∙ rw h (ap (λ l. Got l (t ∷ s)) (append-nil front))

  -- what reads a token and then something that reads tokens
  pub then_eats : {A B C : Type 0} (f : A → B → C) (v : T → Option A) (q : TokenReader T B) → IsEating q → IsEating (and_then f (one_of v) q)
  then_eats f v q e = record { less = less_of }
    where
      less_of : (s : List T) (x : _) (rest : List T) → and_then f (one_of v) q s ≡ Got x rest → length rest < length s
      less_of [] x rest h = cc
      less_of (t ∷ s) x rest h = go (v t) h
        where
          second : (a : Answer T _) → q s ≡ a → (p : _) → (a >>= λ y rest'. Got (f p y) rest') ≡ Got x rest → length rest < suc (length s)
          second (Bad k b) h p i = cc
          second (Got y b) h p i =
              let w : b ≡ rest = cc in
              let lt = e.less s y b h in
              omega (arith, ap length w)

          go : (o : Option _) → (take_or o t s >>= λ p rest. q rest >>= λ y rest'. Got (f p y) rest') ≡ Got x rest → length rest < suc (length s)
          go None i = cc
          go (Some p) i = second (q s) refl p i
