-- Items that begin with the tokens v and w, and then perhaps v and something else: no further than the first token that is not taken.
use Rattle.std.proofs.Common.{◌≡◌, ℕ, zero, suc, ◌≤◌, List, [], ◌∷◌, ◌++◌, length, false, Option, Some, None, refl, sym, ap, ◌∙◌, subst, arith, append_assoc, length-append}
use Rattle.parse_syntax.specs.Reader.{Answer, Got, Bad, TokenReader, ◌>>=◌, SyntaxFaultKind, and_then, one_of, succeed, choose, loop, all_of, heads, heads_two, keep_second}
use Rattle.parse_syntax.proofs.Local.{SameHead, same_front, Stands, IsLocal}
use Rattle.std.specs.Prelude.{is_some}

module _ {T : Type 0} where
  -- an answer with other tokens left
  abbrev pub leaving : {A : Type 0} → Answer T A → List T → Answer T A
  leaving (Got x rest) v = Got x v
  leaving (Bad k rest) v = Bad k v

  abbrev pub left_by : {A : Type 0} → Answer T A → List T
  left_by (Got x rest) = rest
  left_by (Bad k rest) = rest

  abbrev pub Counts : {A : Type 0} → (SyntaxFaultKind → Type 0) → Answer T A → Type 0
  Counts P (Got x rest) = Unit {0}
  Counts P (Bad k rest) = P k

  -- both halves of locality at once
  pub stands : {A : Type 0} {P : SyntaxFaultKind → Type 0} {r q : TokenReader T A} → IsLocal P r q → (s : List T) (a : Answer T A) → r s ≡ a → Counts P a → Stands q (leaving a) s (left_by a)
  stands l s (Got x rest) e c = l.got s x rest e
  stands l s (Bad k rest) e c = l.bad s k rest c e

  pub head_kept : {A : Type 0} (v : T → Option A) (s u : List T) → SameHead s u → heads v s ≡ heads v u
  head_kept v [] [] h = refl
  head_kept v [] (t ∷ u) h = absurd h
  head_kept v (t ∷ s) [] h = absurd h
  head_kept v (t ∷ s) (t2 ∷ u) h = ap (λ t. is_some (v t)) h

  module _ {A B V W : Type 0} (v : T → Option V) (w : T → Option W) (z : B) (c : TokenReader T A) (b : TokenReader T B) where
    abbrev pub item : TokenReader T A
    item = and_then keep_second (one_of v) (and_then keep_second (one_of w) c)

    abbrev pub last : TokenReader T B
    last = choose (heads v) (and_then keep_second (one_of v) b) (succeed z)

    abbrev pub from : {R : Type 0} → (List A → B → R) → ℕ → TokenReader T R
    from h n s = loop (heads_two v w) item n s >>= λ xs rest. last rest >>= λ y rest'. Got (h xs y) rest'

    not_two : (s : List T) → heads v s ≡ false → heads_two v w s ≡ false
    not_two [] e = refl
    not_two (t ∷ s) e = rw e refl

    none_left : {R : Type 0} (h : List A → B → R) (n : ℕ) (s : List T) → heads v s ≡ false → from h n s ≡ Got (h [] z) s
    none_left h zero s e = rw e refl
    none_left h (suc n) s e = rw (not_two s e, e) refl

    no_turn : {R : Type 0} (h : List A → B → R) (n : ℕ) (s : List T) → heads_two v w s ≡ false → from h n s ≡ (last s >>= λ y rest'. Got (h [] y) rest')
    no_turn h zero s e = refl
    no_turn h (suc n) s e = rw e refl

    one_last : {R : Type 0} (h : List A → B → R) (n : ℕ) (t : T) (s : List T) (y : V) → v t ≡ Some y → heads w s ≡ false → from h n (t ∷ s) ≡ (b s >>= λ x r. Got (h [] x) r)
    one_last h n t s y e f = no_turn h n (t ∷ s) (rw (e, f) refl) ∙ go (b s) refl
      where
        go : (a : Answer T B) → b s ≡ a → (last (t ∷ s) >>= λ y rest'. Got (h [] y) rest') ≡ (a >>= λ x r. Got (h [] x) r)
        go (Got x r) g = rw (e, g) refl
        go (Bad k r) g = rw (e, g) refl

    one_more : {R : Type 0} (h : List A → B → R) (n : ℕ) (t t2 : T) (s : List T) (y : V) (y2 : W) → v t ≡ Some y → w t2 ≡ Some y2 → from h
        (suc n) (t ∷ t2 ∷ s) ≡ (c s >>= λ x r. from (λ xs. h (x ∷ xs)) n r)
    one_more h n t t2 s y y2 e f = go (c s) refl
      where
        go : (a : Answer T A) → c s ≡ a → from h (suc n) (t ∷ t2 ∷ s) ≡ (a >>= λ x r. from (λ xs. h (x ∷ xs)) n r)
        go (Bad k r) g = rw (e, f, g) refl
        go (Got x r) g = rw (e, f, g) (rest_of (loop (heads_two v w) item n r))
          where
            rest_of : (l : Answer T (List A)) → ((l >>= λ xs rest'. Got (x ∷ xs) rest') >>= λ xs rest. last rest >>= λ y rest'. Got (h xs y)
                rest') ≡ (l >>= λ xs rest. last rest >>= λ y rest'. Got (h (x ∷ xs) y) rest')
            rest_of (Bad k r) = refl
            rest_of (Got xs r) = refl

  module _ (P : SyntaxFaultKind → Type 0) {A B V W : Type 0} (v : T → Option V) (w : T → Option W) (z : B) (c c' : TokenReader T A)
      (b b' : TokenReader T B) (lc : IsLocal P c c') (lb : IsLocal P b b') where
    -- with enough turns, whatever comes after
    abbrev Agree : {R : Type 0} → (List A → B → R) → Answer T R → List T → Type 0
    Agree h a s = (front : List T) × (s ≡ front ++ left_by a) × ((u : List T) (m : ℕ) → SameHead (left_by a) u → length (front ++ u) ≤ m → from v w z c' b' h m (front ++ u) ≡ leaving a u)

    ended : {R : Type 0} (h : List A → B → R) (s : List T) → heads v s ≡ false → Agree h (Got (h [] z) s) s
    ended h s e = ([], refl, λ u m q le. none_left v w z c' b' h m u (sym (head_kept v s u q) ∙ e))

    lasts : {R : Type 0} (h : List A → B → R) (t : T) (s : List T) (y : V) → v t ≡ Some y → heads w s ≡ false → (x : Answer T B) → b
        s ≡ x → (a : Answer T R) → (x >>= λ x r. Got (h [] x) r) ≡ a → Counts P a → Agree h a (t ∷ s)
    lasts h t s y e f x g a i d = go x g a i d
      where
        kept : (x : Answer T B) (front : List T) → s ≡ front ++ left_by x → (u : List T) → SameHead (left_by x) u → heads w (front ++ u) ≡ false
        kept x front i u q = sym (head_kept w (front ++ left_by x) (front ++ u) (same_front front (left_by x) u q)) ∙ ap (heads w) (sym i) ∙ f

        go : (x : Answer T B) → b s ≡ x → (a : Answer T _) → (x >>= λ x r. Got (h [] x) r) ≡ a → Counts P a → Agree h a (t ∷ s)
        go (Got x r) g (Got x' r') i d =
            let st = stands lb s (Got x r) g tt in
            let w1 : r ≡ r' = cc in
            let w2 : h [] x ≡ x' = cc in (
              t ∷ st.front,
              ap (λ l. t ∷ l) (st.whole ∙ ap (λ r. st.front ++ r) w1),
              λ u m q le.
                  let q' : SameHead r u = subst (λ r. SameHead r u) (sym w1) q in
                  one_last v w z c' b' h m t (st.front ++ u) y e (kept (Got x r) st.front st.whole u q') ∙ rw (st.always u q') (ap (λ x. Got x u) w2),
            )
        go (Got x r) g (Bad k r') i d = cc
        go (Bad k r) g (Got x' r') i d = cc
        go (Bad k r) g (Bad k' r') i d =
            let w1 : r ≡ r' = cc in
            let w2 : k ≡ k' = cc in
            let st = stands lb s (Bad k r) g (subst P (sym w2) d) in (
              t ∷ st.front,
              ap (λ l. t ∷ l) (st.whole ∙ ap (λ r. st.front ++ r) w1),
              λ u m q le.
                  let q' : SameHead r u = subst (λ r. SameHead r u) (sym w1) q in
                  one_last v w z c' b' h m t (st.front ++ u) y e (kept (Bad k r) st.front st.whole u q') ∙ rw (st.always u q') (ap (λ k. Bad k u) w2),
            )

    -- the same for the rest of the items
    abbrev All : ℕ → Type 1
    All n = (R : Type 0) (h : List A → B → R) (s : List T) → length s ≤ n → (a : Answer T R) → from v w z c b h n s ≡ a → Counts P a → Agree h a s

    mores : (n : ℕ) → All n → {R : Type 0} (h : List A → B → R) (t t2 : T) (s : List T) (y : V) (y2 : W) → v t ≡ Some y → w t2 ≡ Some y2 →
        length (t ∷ t2 ∷ s) ≤ suc n → (x : Answer T A) → c s ≡ x → (a : Answer T R) → (x >>= λ x r. from v w z c b (λ xs. h (x ∷ xs)) n r) ≡ a
        → Counts P a → Agree h a (t ∷ t2 ∷ s)
    mores n ih h t t2 s y y2 e f le (Got x r) g a i d =
        let st = stands lc s (Got x r) g tt in
        let shorter : length r ≤ n = omega (arith, ap length st.whole, length-append st.front r) in
        let k = ih _ (λ xs. h (x ∷ xs)) r shorter a i d in
        (t ∷ t2 ∷ st.front ++ k.0, ap (λ l. t ∷ t2 ∷ l) (st.whole ∙ ap (λ r. st.front ++ r) k.1 ∙ sym (append_assoc st.front k.0 (left_by a))), again st.front k.0 st.whole k.1 st.always k.2)
      where
        again : (front front2 : List T) → s ≡ front ++ r → r ≡ front2 ++ left_by a → ((u : List T) → SameHead r u → c' (front ++ u) ≡
            Got x u) → ((u : List T) (m : ℕ) → SameHead (left_by a) u → length (front2 ++ u) ≤ m → from v w z c' b' (λ xs. h (x ∷ xs)) m
            (front2 ++ u) ≡ leaving a u) → (u : List T) (m : ℕ) → SameHead (left_by a) u → length ((t ∷ t2 ∷ front ++ front2) ++ u) ≤ m → from
            v w z c' b' h m ((t ∷ t2 ∷ front ++ front2) ++ u) ≡ leaving a u
        again front front2 i1 i2 al next u zero q le = absurd (omega arith)
        again front front2 i1 i2 al next u (suc m) q le =
            let q' : SameHead r (front2 ++ u) = subst (λ r. SameHead r (front2 ++ u)) (sym i2) (same_front front2 (left_by a) u q) in
            let le' : length (front2 ++ u) ≤ m = omega (arith, length-append (front ++ front2) u, length-append front front2, length-append front2 u) in
            rw (append_assoc front front2 u) (one_more v w z c' b' h m t t2 (front ++ (front2 ++ u)) y y2 e f ∙ rw (al (front2 ++ u) q') (next u m q le'))
    mores n ih h t t2 s y y2 e f le (Bad k r) g (Got x' r') i d = cc
    mores n ih h t t2 s y y2 e f le (Bad k r) g (Bad k' r') i d =
        let w1 : r ≡ r' = cc in
        let w2 : k ≡ k' = cc in
        let st = stands lc s (Bad k r) g (subst P (sym w2) d) in
        (t ∷ t2 ∷ st.front, ap (λ l. t ∷ t2 ∷ l) (st.whole ∙ ap (λ r. st.front ++ r) w1), λ u m q le. again st.front st.always w2 u m (subst (λ r. SameHead r u) (sym w1) q) le)
      where
        again : (front : List T) → ((u : List T) → SameHead r u → c' (front ++ u) ≡ Bad k u) → k ≡ k' → (u : List T) (m : ℕ) → SameHead r u
            → length ((t ∷ t2 ∷ front) ++ u) ≤ m → from v w z c' b' h m ((t ∷ t2 ∷ front) ++ u) ≡ Bad k' u
        again front al w2 u zero q le = absurd (omega arith)
        again front al w2 u (suc m) q le = one_more v w z c' b' h m t t2 (front ++ u) y y2 e f ∙ rw (al u q) (ap (λ k. Bad k u) w2)

    -- after the first token
    second : (n : ℕ) → ((m : ℕ) → suc m ≡ n → All m) → {R : Type 0} (h : List A → B → R) (t : T) (s : List T) (y : V) → v t ≡ Some y →
        length (t ∷ s) ≤ n → (a : Answer T R) → from v w z c b h n (t ∷ s) ≡ a → Counts P a → Agree h a (t ∷ s)
    second zero ih h t s y e le a i d = absurd (omega arith)
    second (suc n) ih h t [] y e le a i d = lasts h t [] y e refl (b []) refl a (sym (one_last v w z c b h (suc n) t [] y e refl) ∙ i) d
    second (suc n) ih h t (t2 ∷ s) y e le a i d = go (w t2) refl
      where
        go : (o : Option W) → w t2 ≡ o → Agree h a (t ∷ t2 ∷ s)
        go None f = let g : is_some (w t2) ≡ false = ap is_some f in lasts h t (t2 ∷ s) y e g (b (t2 ∷ s)) refl a (sym (one_last v w z c b h (suc n) t (t2 ∷ s) y e g) ∙ i) d
        go (Some y2) f = mores n (ih n refl) h t t2 s y y2 e f le (c s) refl a (sym (one_more v w z c b h n t t2 s y y2 e f) ∙ i) d

    each : (n : ℕ) → ((m : ℕ) → suc m ≡ n → All m) → All n
    each n ih R h [] le a i d = subst (λ a. Agree h a []) (sym (none_left v w z c b h n [] refl) ∙ i) (ended h [] refl)
    each n ih R h (t ∷ s) le a i d = go (v t) refl
      where
        go : (o : Option V) → v t ≡ o → Agree h a (t ∷ s)
        go None f = let g : is_some (v t) ≡ false = ap is_some f in subst (λ a. Agree h a (t ∷ s)) (sym (none_left v w z c b h n (t ∷ s) g) ∙ i) (ended h (t ∷ s) g)
        go (Some y) f = second n ih h t s y f le a i d

    all : (n : ℕ) → All n
    all zero = each zero (λ m e. absurd (omega arith))
    all (suc n) = go (all n)
      where
        go : All n → All (suc n)
        go ih = each (suc n) (λ m e. let e' : n ≡ m = omega arith in subst All e' ih)

    pub series_local : {R : Type 0} (h : List A → B → R) → IsLocal P (and_then h (all_of (heads_two v w) (item v w z c b)) (last v w z c b))
        (and_then h (all_of (heads_two v w) (item v w z c' b')) (last v w z c' b'))
    series_local h = record {
      got = λ s x rest e. let a = all (length s) _ h s (omega arith) (Got x rest) e tt in record { front = a.0; whole = a.1; always = λ u q. a.2 u (length (a.0 ++ u)) q (omega arith) };
      bad = λ s k rest d e. let a = all (length s) _ h s (omega arith) (Bad k rest) e d in record { front = a.0; whole = a.1; always = λ u q. a.2 u (length (a.0 ++ u)) q (omega arith) };
    }
