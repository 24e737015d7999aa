-- What holds of a reader for a language, and of readers put together.
use Rattle.std.proofs.Common.{◌≡◌, ℕ, zero, suc, ◌<◌, ◌≤◌, List, [], ◌∷◌, ◌++◌, length, Bool, true, false, cond, Option, Some, None, refl, sym, ap, ◌∙◌, subst, arith, append_assoc, length-append}
use Rattle.parse_syntax.specs.Lang.{Lang, One, one, Then, both, Mapped, mapped, Nothing, nothing, Either, left, right, Many, end, more, Never}
use Rattle.parse_syntax.specs.Reader.{Answer, Got, Bad, TokenReader, ◌>>=◌, SyntaxFaultKind, Wrong, TooDeep, wrong, too_deep, map_by, and_then, take_or, one_of, succeed, opens, choose, loop, all_of}

module _ {T : Type 0} where
  -- the front of the tokens spells the value
  pub record Front {A : Type 0} (L : Lang T A) (s : List T) (x : A) (rest : List T) : Type 0 where
    pub front : List T
    pub whole : s ≡ front ++ rest
    pub spells : L front x

  -- what stands before the rest begins what the language has
  pub record Begins {A : Type 0} (L : Lang T A) (s rest : List T) : Type 0 where
    pub front : List T
    pub more : List T
    pub value : A
    pub whole : s ≡ front ++ rest
    pub spells : L (front ++ more) value

  -- what stands up to the rest's first token begins what the language has
  pub record BeginsWith {A : Type 0} (L : Lang T A) (s rest : List T) : Type 0 where
    pub front : List T
    pub token : T
    pub after : List T
    pub more : List T
    pub value : A
    pub whole : s ≡ front ++ rest
    pub there : rest ≡ token ∷ after
    pub spells : L (front ++ token ∷ more) value

  -- r reads L; where it fails, what stands before begins V, and where there is no room, what stands up to there begins D
  pub record IsLawful {A : Type 0} (L V D : Lang T A) (stops : List T → Bool) (r : TokenReader T A) : Type 0 where
    pub sound : (s : List T) (x : A) (rest : List T) → r s ≡ Got x rest → Front L s x rest
    pub complete : (ts : List T) (x : A) (rest : List T) → L ts x → stops rest ≡ true → r (ts ++ rest) ≡ Got x rest
    pub viable : (s : List T) (k : SyntaxFaultKind) (rest : List T) → r s ≡ Bad k rest → Begins V s rest
    pub deep : (s : List T) (rest : List T) → r s ≡ Bad TooDeep rest → BeginsWith D s rest

  -- a language has a value
  pub record Holds {A : Type 0} (L : Lang T A) : Type 0 where
    pub tokens : List T
    pub value : A
    pub spells : L tokens value

  -- one after the other

  pub record Parts {A B C : Type 0} (f : A → B → C) (r : TokenReader T A) (q : TokenReader T B) (s : List T) (z : C) (rest : List T) : Type 0 where
    pub first : A
    pub second : B
    pub between : List T
    pub got_first : r s ≡ Got first between
    pub got_second : q between ≡ Got second rest
    pub value : f first second ≡ z

  pub parts : {A B C : Type 0} (f : A → B → C) (r : TokenReader T A) (q : TokenReader T B) (s : List T) (z : C) (rest : List T) → and_then f r q s ≡ Got z rest → Parts f r q s z rest
  parts f r q s z rest e = go (r s) refl e
    where
      last : (x : _) (between : List T) → r s ≡ Got x between → (b : Answer T _) → q between ≡ b → (b >>= λ y rest'. Got (f x y) rest') ≡ Got z rest → Parts f r q s z rest
      last x between ea (Bad k t) eb h = cc
      last x between ea (Got y t) eb h =
          record { first = x; second = y; between = between; got_first = ea; got_second = eb ∙ cc; value = cc }

      go : (a : Answer T _) → r s ≡ a → (a >>= λ x rest. q rest >>= λ y rest'. Got (f x y) rest') ≡ Got z rest → Parts f r q s z rest
      go (Bad k t) ea h = cc
      go (Got x between) ea h = last x between ea (q between) refl h

  -- where two readers, one after the other, fail
  pub data Fails {A B : Type 0} (r : TokenReader T A) (q : TokenReader T B) (s : List T) (k : SyntaxFaultKind) (rest : List T) : Type 0 where
    at_first : r s ≡ Bad k rest → Fails r q s k rest
    at_second : (x : A) (between : List T) → r s ≡ Got x between → q between ≡ Bad k rest → Fails r q s k rest

  pub fails : {A B C : Type 0} (f : A → B → C) (r : TokenReader T A) (q : TokenReader T B) (s : List T) (k : SyntaxFaultKind) (rest : List T) → and_then f r q s ≡ Bad k rest → Fails r q s k rest
  fails f r q s k rest e = go (r s) refl e
    where
      last : (x : _) (between : List T) → r s ≡ Got x between → (b : Answer T _) → q between ≡ b → (b >>= λ y rest'. Got (f x y) rest') ≡ Bad k rest → Fails r q s k rest
      last x between ea (Bad k' t) eb h = at_second x between ea (eb ∙ cc)
      last x between ea (Got y t) eb h = cc

      go : (a : Answer T _) → r s ≡ a → (a >>= λ x rest. q rest >>= λ y rest'. Got (f x y) rest') ≡ Bad k rest → Fails r q s k rest
      go (Bad k' t) ea h = at_first (ea ∙ cc)
      go (Got x between) ea h = last x between ea (q between) refl h

  module _ {A B C : Type 0} (f : A → B → C) (L D : Lang T A) (M E : Lang T B) (stop_r stop_q : List T → Bool) (r : TokenReader T A) (q : TokenReader T B) where
    then_sound : IsLawful L L D stop_r r → IsLawful M M E stop_q q → (s : List T) (z : C) (rest : List T) → and_then f r q s ≡ Got z rest → Front (Then f L M) s z rest
    then_sound lr lq s z rest e =
        let p = parts f r q s z rest e in
        let a = lr.sound s p.first p.between p.got_first in
        let b = lq.sound p.between p.second rest p.got_second in
        let w : s ≡ (a.front ++ b.front) ++ rest = a.whole ∙ ap (λ t. a.front ++ t) b.whole ∙ sym (append_assoc a.front b.front rest) in
        record { front = a.front ++ b.front; whole = w; spells = subst (λ v. Then f L M (a.front ++ b.front) v) p.value (both a.front b.front p.first p.second a.spells b.spells) }

    then_complete : IsLawful L L D stop_r r → IsLawful M M E stop_q q → ((b : List T) (y : B) (rest : List T) → M b y → stop_q rest ≡ true →
        stop_r (b ++ rest) ≡ true) → (ts : List T) (z : C) (rest : List T) → Then f L M ts z → stop_q rest ≡ true → and_then f r q (ts ++ rest) ≡ Got z rest
    then_complete lr lq follows _ _ rest (both a b x y ha hb) h =
        rw (append_assoc a b rest, lr.complete a x (b ++ rest) ha (follows b y rest hb h), lq.complete b y rest hb h) refl

    then_viable : IsLawful L L D stop_r r → IsLawful M M E stop_q q → Holds M → (s : List T) (k : SyntaxFaultKind) (rest : List T) → and_then f r q s ≡ Bad k rest → Begins (Then f L M) s rest
    then_viable lr lq some s k rest e = go (fails f r q s k rest e)
      where
        go : Fails r q s k rest → Begins (Then f L M) s rest
        go (at_first h) =
            let a = lr.viable s k rest h in
            record {
              front = a.front;
              more = a.more ++ some.tokens;
              value = f a.value some.value;
              whole = a.whole;
              spells = subst (λ ts. Then f L M ts (f a.value some.value)) (append_assoc a.front a.more some.tokens)
                  (both (a.front ++ a.more) some.tokens a.value some.value a.spells some.spells);
            }
        go (at_second x between h g) =
            let a = lr.sound s x between h in
            let b = lq.viable between k rest g in
            record {
              front = a.front ++ b.front;
              more = b.more;
              value = f x b.value;
              whole = a.whole ∙ ap (λ t. a.front ++ t) b.whole ∙ sym (append_assoc a.front b.front rest);
              spells = subst (λ ts. Then f L M ts (f x b.value)) (sym (append_assoc a.front b.front b.more))
                  (both a.front (b.front ++ b.more) x b.value a.spells b.spells);
            }

    then_deep : IsLawful L L D stop_r r → IsLawful M M E stop_q q → ((ts : List T) (x : A) → L ts x → D ts x) → Holds E → (s rest : List T)
        → and_then f r q s ≡ Bad TooDeep rest → BeginsWith (Then f D E) s rest
    then_deep lr lq wider some s rest e = go (fails f r q s TooDeep rest e)
      where
        go : Fails r q s TooDeep rest → BeginsWith (Then f D E) s rest
        go (at_first h) =
            let a = lr.deep s rest h in
            record {
              front = a.front;
              token = a.token;
              after = a.after;
              more = a.more ++ some.tokens;
              value = f a.value some.value;
              whole = a.whole;
              there = a.there;
              spells = subst (λ ts. Then f D E ts (f a.value some.value))
                  (append_assoc a.front (a.token ∷ a.more) some.tokens) (both (a.front ++ a.token ∷ a.more) some.tokens a.value some.value a.spells some.spells);
            }
        go (at_second x between h g) =
            let a = lr.sound s x between h in
            let b = lq.deep between rest g in
            record {
              front = a.front ++ b.front;
              token = b.token;
              after = b.after;
              more = b.more;
              value = f x b.value;
              whole = a.whole ∙ ap (λ t. a.front ++ t) b.whole ∙ sym (append_assoc a.front b.front rest);
              there = b.there;
              spells = subst (λ ts. Then f D E ts (f x b.value)) (sym (append_assoc a.front b.front (b.token ∷ b.more)))
                  (both a.front (b.front ++ b.token ∷ b.more) x b.value (wider a.front x a.spells) b.spells);
            }

    pub then_lawful : IsLawful L L D stop_r r → IsLawful M M E stop_q q → ((b : List T) (y : B) (rest : List T) → M b y → stop_q rest ≡ true
        → stop_r (b ++ rest) ≡ true) → Holds M → ((ts : List T) (x : A) → L ts x → D ts x) → Holds E → IsLawful (Then f L M) (Then f L M)
        (Then f D E) stop_q (and_then f r q)
    then_lawful lr lq follows some wider some_e = record {
      sound = then_sound lr lq;
      complete = then_complete lr lq follows;
      viable = then_viable lr lq some;
      deep = then_deep lr lq wider some_e;
    }

  -- one token

  module _ {A : Type 0} (value : T → Option A) where
    one_sound : (s : List T) (x : A) (rest : List T) → one_of value s ≡ Got x rest → Front (One value) s x rest
    one_sound [] x rest e = cc
    one_sound (t ∷ tail) x rest e = go (value t) refl e
      where
        go : (o : Option A) → value t ≡ o → take_or o t tail ≡ Got x rest → Front (One value) (t ∷ tail) x rest
        go None h e = cc
        go (Some y) h e =
            let same : y ≡ x = cc in
            let same_rest : tail ≡ rest = cc in
            record { front = t ∷ []; whole = ap (λ m. t ∷ m) same_rest; spells = one t x (h ∙ ap Some same) }

    one_complete : (ts : List T) (x : A) (rest : List T) → One value ts x → one_of value (ts ++ rest) ≡ Got x rest
    one_complete _ _ rest (one t x h) = ap (λ o. take_or o t rest) h

    one_bad : (s : List T) (k : SyntaxFaultKind) (rest : List T) → one_of value s ≡ Bad k rest → (s ≡ rest) × (k ≡ TooDeep → ⊥)
    one_bad [] k rest e = let h : Wrong ≡ k = cc in (cc, λ d. let g : Wrong ≡ TooDeep = h ∙ d in cc)
    one_bad (t ∷ tail) k rest e = go (value t) e
      where
        go : (o : Option A) → take_or o t tail ≡ Bad k rest → (t ∷ tail ≡ rest) × (k ≡ TooDeep → ⊥)
        go None e = let h : Wrong ≡ k = cc in (cc, λ d. let g : Wrong ≡ TooDeep = h ∙ d in cc)
        go (Some y) e = cc

    pub one_lawful : (D : Lang T A) (stops : List T → Bool) → Holds (One value) → IsLawful (One value) (One value) D stops (one_of value)
    one_lawful D stops some = record {
      sound = one_sound;
      complete = λ ts x rest h _. one_complete ts x rest h;
      viable = λ s k rest e. record { front = []; more = some.tokens; value = some.value; whole = (one_bad s k rest e).0; spells = some.spells };
      deep = λ s rest e. absurd ((one_bad s TooDeep rest e).1 refl);
    }

  -- another value

  module _ {A B : Type 0} (f : A → B) (r : TokenReader T A) where
    pub map_got : (s : List T) (y : B) (rest : List T) → map_by f r s ≡ Got y rest → (x : A) × (r s ≡ Got x rest) × (f x ≡ y)
    map_got s y rest e = go (r s) refl e
      where
        go : (a : Answer T A) → r s ≡ a → (a >>= λ x rest. Got (f x) rest) ≡ Got y rest → (x : A) × (r s ≡ Got x rest) × (f x ≡ y)
        go (Got x t) ea h = (x, ea ∙ cc, cc)
        go (Bad k t) ea h = cc

    pub map_bad : (s : List T) (k : SyntaxFaultKind) (rest : List T) → map_by f r s ≡ Bad k rest → r s ≡ Bad k rest
    map_bad s k rest e = go (r s) refl e
      where
        go : (a : Answer T A) → r s ≡ a → (a >>= λ x rest. Got (f x) rest) ≡ Bad k rest → r s ≡ Bad k rest
        go (Got x t) ea h = cc
        go (Bad k' t) ea h = ea ∙ cc

  module _ {A B : Type 0} (f : A → B) (L V D : Lang T A) (stops : List T → Bool) (r : TokenReader T A) where
    map_complete : IsLawful L V D stops r → (ts : List T) (y : B) (rest : List T) → Mapped f L ts y → stops rest ≡ true → map_by f r (ts ++ rest) ≡ Got y rest
    map_complete l _ _ rest (mapped a x h) e = rw (l.complete a x rest h e) refl

    pub map_lawful : IsLawful L V D stops r → IsLawful (Mapped f L) (Mapped f V) (Mapped f D) stops (map_by f r)
    map_lawful l = record {
      sound = λ s y rest e.
          let m = map_got f r s y rest e in
          let a = l.sound s m.0 rest m.1 in
          record { front = a.front; whole = a.whole; spells = subst (λ v. Mapped f L a.front v) m.2 (mapped a.front m.0 a.spells) };
      complete = map_complete l;
      viable = λ s k rest e.
          let a = l.viable s k rest (map_bad f r s k rest e) in
          record { front = a.front; more = a.more; value = f a.value; whole = a.whole; spells = mapped (a.front ++ a.more) a.value a.spells };
      deep = λ s rest e.
          let a = l.deep s rest (map_bad f r s TooDeep rest e) in
          record {
            front = a.front;
            token = a.token;
            after = a.after;
            more = a.more;
            value = f a.value;
            whole = a.whole;
            there = a.there;
            spells = mapped (a.front ++ a.token ∷ a.more) a.value a.spells;
          };
    }

  -- either

  module _ {A : Type 0} (starts : List T → Bool) (L M D E V : Lang T A) (stops : List T → Bool) (r q : TokenReader T A) where
    choose_complete : IsLawful L V D stops r → IsLawful M V E stops q → ((ts : List T) (x : A) (rest : List T) → L ts x → starts
        (ts ++ rest) ≡ true) → ((ts : List T) (x : A) (rest : List T) → M ts x → stops rest ≡ true → starts
        (ts ++ rest) ≡ false) → (ts : List T) (x : A) (rest : List T) → Either L M ts x → stops rest ≡ true → choose starts r q (ts ++ rest) ≡ Got x rest
    choose_complete lr lq hit miss _ _ rest (left a x h) e = rw (hit a x rest h, lr.complete a x rest h e) refl
    choose_complete lr lq hit miss _ _ rest (right a x h) e = rw (miss a x rest h e, lq.complete a x rest h e) refl

    choose_sound : IsLawful L V D stops r → IsLawful M V E stops q → (s : List T) (x : A) (rest : List T) → choose starts r q s ≡ Got x rest → Front (Either L M) s x rest
    choose_sound lr lq s x rest e = go (starts s) e
      where
        go : (b : Bool) → cond b (r s) (q s) ≡ Got x rest → Front (Either L M) s x rest
        go true e = let a = lr.sound s x rest e in record { front = a.front; whole = a.whole; spells = left a.front x a.spells }
        go false e = let a = lq.sound s x rest e in record { front = a.front; whole = a.whole; spells = right a.front x a.spells }

    choose_viable : IsLawful L V D stops r → IsLawful M V E stops q → (s : List T) (k : SyntaxFaultKind) (rest : List T) → choose starts r q s ≡ Bad k rest → Begins V s rest
    choose_viable lr lq s k rest e = go (starts s) e
      where
        go : (b : Bool) → cond b (r s) (q s) ≡ Bad k rest → Begins V s rest
        go true e = let a = lr.viable s k rest e in record { front = a.front; more = a.more; value = a.value; whole = a.whole; spells = a.spells }
        go false e = let a = lq.viable s k rest e in record { front = a.front; more = a.more; value = a.value; whole = a.whole; spells = a.spells }

    choose_deep : IsLawful L V D stops r → IsLawful M V E stops q → (s rest : List T) → choose starts r q s ≡ Bad TooDeep rest → BeginsWith (Either D E) s rest
    choose_deep lr lq s rest e = go (starts s) e
      where
        go : (b : Bool) → cond b (r s) (q s) ≡ Bad TooDeep rest → BeginsWith (Either D E) s rest
        go true e = let a = lr.deep s rest e in record {
          front = a.front;
          token = a.token;
          after = a.after;
          more = a.more;
          value = a.value;
          whole = a.whole;
          there = a.there;
          spells = left (a.front ++ a.token ∷ a.more) a.value a.spells;
        }
        go false e = let a = lq.deep s rest e in record {
          front = a.front;
          token = a.token;
          after = a.after;
          more = a.more;
          value = a.value;
          whole = a.whole;
          there = a.there;
          spells = right (a.front ++ a.token ∷ a.more) a.value a.spells;
        }

    pub choose_lawful : IsLawful L V D stops r → IsLawful M V E stops q → ((ts : List T) (x : A) (rest : List T) → L ts x → starts
        (ts ++ rest) ≡ true) → ((ts : List T) (x : A) (rest : List T) → M ts x → stops rest ≡ true → starts (ts ++ rest) ≡ false) → IsLawful
        (Either L M) V (Either D E) stops (choose starts r q)
    choose_lawful lr lq hit miss = record {
      sound = choose_sound lr lq;
      complete = choose_complete lr lq hit miss;
      viable = choose_viable lr lq;
      deep = choose_deep lr lq;
    }

  -- any number of times

  module _ {A : Type 0} (starts : List T → Bool) (L D : Lang T A) (stop_item stops : List T → Bool) (r : TokenReader T A) (l : IsLawful L L D stop_item r) where
    loop_sound : (n : ℕ) (s : List T) (xs : List A) (rest : List T) → loop starts r n s ≡ Got xs rest → Front (Many L) s xs rest
    loop_sound zero s xs rest e = let same : [] ≡ xs = cc in record { front = []; whole = cc; spells = subst (λ v. Many L [] v) same end }
    loop_sound (suc n) s xs rest e = go (loop_sound n) (starts s) e
      where
        none : [] ≡ xs → s ≡ rest → Front (Many L) s xs rest
        none a b = record { front = []; whole = b; spells = subst (λ v. Many L [] v) a end }

        go : ((s : List T) (xs : List A) (rest : List T) → loop starts r n s ≡ Got xs rest → Front (Many L) s xs rest) → (b : Bool) → cond b
            (r s >>= λ x rest. loop starts r n rest >>= λ xs rest'. Got (x ∷ xs) rest') (Got [] s) ≡ Got xs rest → Front (Many L) s xs rest
        go ih false e = let a : [] ≡ xs = cc in let b : s ≡ rest = cc in none a b
        go ih true e =
            let p = parts (λ x xs. x ∷ xs) r (loop starts r n) s xs rest e in
            let a = l.sound s p.first p.between p.got_first in
            let b = ih p.between p.second rest p.got_second in
            record {
              front = a.front ++ b.front;
              whole = a.whole ∙ ap (λ t. a.front ++ t) b.whole ∙ sym (append_assoc a.front b.front rest);
              spells = subst (λ v. Many L (a.front ++ b.front) v) p.value (more a.front b.front p.first p.second a.spells b.spells);
            }

    loop_viable : (n : ℕ) (s : List T) (k : SyntaxFaultKind) (rest : List T) → loop starts r n s ≡ Bad k rest → Begins (Many L) s rest
    loop_viable zero s k rest e = cc
    loop_viable (suc n) s k rest e = go (loop_viable n) (starts s) e
      where
        failed : ((s : List T) (k : SyntaxFaultKind) (rest : List T) → loop starts r n s ≡ Bad k rest → Begins (Many L) s rest) → Fails r (loop starts r n) s k rest → Begins (Many L) s rest
        failed ih (at_first h) =
            let a = l.viable s k rest h in
            record {
              front = a.front;
              more = a.more ++ [];
              value = a.value ∷ [];
              whole = a.whole;
              spells = subst (λ ts. Many L ts (a.value ∷ [])) (append_assoc a.front a.more []) (more (a.front ++ a.more) [] a.value [] a.spells end);
            }
        failed ih (at_second x between h g) =
            let a = l.sound s x between h in
            let b = ih between k rest g in
            record {
              front = a.front ++ b.front;
              more = b.more;
              value = x ∷ b.value;
              whole = a.whole ∙ ap (λ t. a.front ++ t) b.whole ∙ sym (append_assoc a.front b.front rest);
              spells = subst (λ ts. Many L ts (x ∷ b.value)) (sym (append_assoc a.front b.front b.more))
                  (more a.front (b.front ++ b.more) x b.value a.spells b.spells);
            }

        go : ((s : List T) (k : SyntaxFaultKind) (rest : List T) → loop starts r n s ≡ Bad k rest → Begins (Many L) s rest) → (b : Bool) →
            cond b (r s >>= λ x rest. loop starts r n rest >>= λ xs rest'. Got (x ∷ xs) rest') (Got [] s) ≡ Bad k rest → Begins (Many L) s rest
        go ih false e = cc
        go ih true e = failed ih (fails (λ x xs. x ∷ xs) r (loop starts r n) s k rest e)

    loop_deep : ((ts : List T) (x : A) → L ts x → D ts x) → (n : ℕ) (s : List T) (rest : List T) → loop starts r n s ≡ Bad TooDeep rest → BeginsWith (Many D) s rest
    loop_deep wider zero s rest e = cc
    loop_deep wider (suc n) s rest e = go (loop_deep wider n) (starts s) e
      where
        failed : ((s : List T) (rest : List T) → loop starts r n s ≡ Bad TooDeep rest → BeginsWith (Many D) s rest) → Fails r (loop starts r n) s TooDeep rest → BeginsWith (Many D) s rest
        failed ih (at_first h) =
            let a = l.deep s rest h in
            record {
              front = a.front;
              token = a.token;
              after = a.after;
              more = a.more ++ [];
              value = a.value ∷ [];
              whole = a.whole;
              there = a.there;
              spells = subst (λ ts. Many D ts (a.value ∷ [])) (append_assoc a.front (a.token ∷ a.more) [])
                  (more (a.front ++ a.token ∷ a.more) [] a.value [] a.spells end);
            }
        failed ih (at_second x between h g) =
            let a = l.sound s x between h in
            let b = ih between rest g in
            record {
              front = a.front ++ b.front;
              token = b.token;
              after = b.after;
              more = b.more;
              value = x ∷ b.value;
              whole = a.whole ∙ ap (λ t. a.front ++ t) b.whole ∙ sym (append_assoc a.front b.front rest);
              there = b.there;
              spells = subst (λ ts. Many D ts (x ∷ b.value)) (sym (append_assoc a.front b.front (b.token ∷ b.more)))
                  (more a.front (b.front ++ b.token ∷ b.more) x b.value (wider a.front x a.spells) b.spells);
            }

        go : ((s : List T) (rest : List T) → loop starts r n s ≡ Bad TooDeep rest → BeginsWith (Many D) s rest) → (b : Bool) → cond b
            (r s >>= λ x rest. loop starts r n rest >>= λ xs rest'. Got (x ∷ xs) rest') (Got [] s) ≡ Bad TooDeep rest → BeginsWith (Many D) s rest
        go ih false e = cc
        go ih true e = failed ih (fails (λ x xs. x ∷ xs) r (loop starts r n) s TooDeep rest e)

    -- the items are not empty and begin as items do, and what follows an item ends it
    pub record IsLoop : Type 0 where
      pub eats : (ts : List T) (x : A) → L ts x → 0 < length ts
      pub begins : (ts : List T) (x : A) (rest : List T) → L ts x → starts (ts ++ rest) ≡ true
      pub again : (ts : List T) (x : A) (rest : List T) → L ts x → stop_item (ts ++ rest) ≡ true
      pub ends : (rest : List T) → stops rest ≡ true → starts rest ≡ false
      pub over : (rest : List T) → stops rest ≡ true → stop_item rest ≡ true

    after_item : IsLoop → (ts : List T) (xs : List A) (rest : List T) → Many L ts xs → stops rest ≡ true → stop_item (ts ++ rest) ≡ true
    after_item h _ _ rest end e = h.over rest e
    after_item h _ _ rest (more a b x xs ha hb) e = rw (append_assoc a b rest) (h.again a x (b ++ rest) ha)

    loop_complete : IsLoop → (ts : List T) (xs : List A) (rest : List T) (n : ℕ) → Many L ts xs → length ts ≤ n → stops rest ≡ true → loop starts r n (ts ++ rest) ≡ Got xs rest
    loop_complete h _ _ rest zero end le e = refl
    loop_complete h _ _ rest (suc n) end le e = rw (h.ends rest e) refl
    loop_complete h _ _ rest zero (more a b x xs ha hb) le e = absurd (let p = h.eats a x ha in omega (arith, length-append a b))
    loop_complete h _ _ rest (suc n) (more a b x xs ha hb) le e =
        let p = h.eats a x ha in
        let le' : length b ≤ n = omega (arith, length-append a b) in
        rw (append_assoc a b rest, h.begins a x (b ++ rest) ha, l.complete a x (b ++ rest) ha (after_item h b xs rest hb e), loop_complete h b xs rest n hb le' e) refl

    pub loop_lawful : IsLoop → ((ts : List T) (x : A) → L ts x → D ts x) → IsLawful (Many L) (Many L) (Many D) stops (all_of starts r)
    loop_lawful h wider = record {
      sound = λ s xs rest e. loop_sound (length s) s xs rest e;
      complete = λ ts xs rest m e. loop_complete h ts xs rest (length (ts ++ rest)) m (omega (arith, length-append ts rest)) e;
      viable = λ s k rest e. loop_viable (length s) s k rest e;
      deep = λ s rest e. loop_deep wider (length s) s rest e;
    }

  -- the same for a wider language

  pub within : {A : Type 0} (L V W D : Lang T A) (stops : List T → Bool) (r : TokenReader T A) → ((ts : List T) (x : A) → V ts x → W ts x) → IsLawful L V D stops r → IsLawful L W D stops r
  within L V W D stops r wider l = record {
    sound = l.sound;
    complete = l.complete;
    deep = l.deep;
    viable = λ s k rest e. let a = l.viable s k rest e in record { front = a.front; more = a.more; value = a.value; whole = a.whole; spells = wider (a.front ++ a.more) a.value a.spells };
  }

  module _ {A : Type 0} (V D : Lang T A) (stops : List T → Bool) where
    succeed_complete : (y : A) (ts : List T) (x : A) (rest : List T) → Nothing y ts x → succeed y (ts ++ rest) ≡ Got x rest
    succeed_complete y _ _ rest (nothing x h) = ap (λ x. Got x rest) h

    pub succeed_lawful : (y : A) → IsLawful (Nothing y) V D stops (succeed y)
    succeed_lawful y = record {
      sound = λ s x rest e. let h : y ≡ x = cc in record { front = []; whole = cc; spells = nothing x h };
      complete = λ ts x rest m e. succeed_complete y ts x rest m;
      viable = λ s k rest e. cc;
      deep = λ s rest e. cc;
    }

    -- where there is no room for what begins so
    pub no_room_lawful : (L : Lang T A) (starts : List T → Bool) → ((ts : List T) (x : A) → L ts x → ⊥)
        → Holds V → ((t : T) (after : List T) → starts (t ∷ after) ≡ true → (more : List T) × (x : A) × D (t ∷ more) x) → starts
        [] ≡ false → (r : TokenReader T A) → IsLawful L V D stops (opens false starts r)
    no_room_lawful L starts none some deeper at_end r = record {
      sound = λ s x rest e. absurd (sound_of s x rest (starts s) e);
      complete = λ ts x rest h e. absurd (none ts x h);
      viable = λ s k rest e. record { front = []; more = some.tokens; value = some.value; whole = whole_of s k rest (starts s) e; spells = some.spells };
      deep = λ s rest e. deep_of s rest (starts s) refl e;
    }
      where
        sound_of : (s : List T) (x : A) (rest : List T) (b : Bool) → cond b (too_deep s) (wrong s) ≡ Got x rest → ⊥
        sound_of s x rest true e = cc
        sound_of s x rest false e = cc

        whole_of : (s : List T) (k : SyntaxFaultKind) (rest : List T) (b : Bool) → cond b (too_deep {A = A} s) (wrong s) ≡ Bad k rest → s ≡ rest
        whole_of s k rest true e = cc
        whole_of s k rest false e = cc

        head_of : (s rest : List T) → starts s ≡ true → s ≡ rest → BeginsWith D s rest
        head_of [] rest h e = let x : true ≡ false = sym h ∙ at_end in cc
        head_of (t ∷ s) rest h e =
            let d = deeper t s h in
            record { front = []; token = t; after = s; more = d.0; value = d.1; whole = e; there = sym e; spells = d.2 }

        deep_of : (s rest : List T) (b : Bool) → starts s ≡ b → cond b (too_deep {A = A} s) (wrong s) ≡ Bad TooDeep rest → BeginsWith D s rest
        deep_of s rest true h e = let w : s ≡ rest = cc in head_of s rest h w
        deep_of s rest false h e = let g : Wrong ≡ TooDeep = cc in cc

  -- no token can stand there
  module _ {A : Type 0} (V D : Lang T A) (stops : List T → Bool) where
    pub wrong_lawful : Holds V → IsLawful Never V D stops wrong
    wrong_lawful some = record {
      sound = λ s x rest e. cc;
      complete = λ ts x rest h e. absurd h;
      viable = λ s k rest e. record { front = []; more = some.tokens; value = some.value; whole = cc; spells = some.spells };
      deep = λ s rest e. let g : Wrong ≡ TooDeep = cc in cc;
    }
