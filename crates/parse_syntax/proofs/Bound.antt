-- What holds of a reader for a language, and of readers put together.
use Rattle.std.proofs.Common.{◌≡◌, List, ◌∷◌, ◌++◌, Bool, true, refl, sym, ap, ◌∙◌, subst, append_assoc}
use Rattle.parse_syntax.specs.Lang.{Lang, Bind, bound}
use Rattle.parse_syntax.specs.Reader.{Answer, Got, Bad, TokenReader, ◌>>=◌, SyntaxFaultKind, TooDeep, and_bind}
use Rattle.parse_syntax.proofs.Laws.{Front, Begins, BeginsWith, IsLawful, Holds}
use Rattle.parse_syntax.proofs.Local.{SameHead, same_front, Stands, IsLocal}

module _ {T : Type 0} where
  -- one after the other, by the first value

  pub record BoundParts {A B C : Type 0} (f : A → B → C) (r : TokenReader T A) (q : A → TokenReader T B) (s : List T) (z : C) (rest : List T) : Type 0 where
    pub first : A
    pub second : B
    pub between : List T
    pub got_first : r s ≡ Got first between
    pub got_second : q first between ≡ Got second rest
    pub value : f first second ≡ z

  pub bound_parts : {A B C : Type 0} (f : A → B → C) (r : TokenReader T A) (q : A → TokenReader T B) (s : List T) (z : C) (rest : List T) → and_bind f r q s ≡ Got z rest → BoundParts f r q s z rest
  bound_parts f r q s z rest e = go (r s) refl e
    where
      last : (x : _) (between : List T) → r s ≡ Got x between → (b : Answer T _) → q x between ≡ b → (b >>= λ y rest'. Got (f x y) rest') ≡ Got z rest → BoundParts f r q s z rest
      last x between ea (Bad k t) eb h = cc
      last x between ea (Got y t) eb h =
          record { first = x; second = y; between = between; got_first = ea; got_second = eb ∙ cc; value = cc }

      go : (a : Answer T _) → r s ≡ a → (a >>= λ x rest. q x rest >>= λ y rest'. Got (f x y) rest') ≡ Got z rest → BoundParts f r q s z rest
      go (Bad k t) ea h = cc
      go (Got x between) ea h = last x between ea (q x between) refl h

  -- where two readers, one after the other, fail
  pub data BoundFails {A B : Type 0} (r : TokenReader T A) (q : A → TokenReader T B) (s : List T) (k : SyntaxFaultKind) (rest : List T) : Type 0 where
    first_fails : r s ≡ Bad k rest → BoundFails r q s k rest
    second_fails : (x : A) (between : List T) → r s ≡ Got x between → q x between ≡ Bad k rest → BoundFails r q s k rest

  pub bound_fails : {A B C : Type 0} (f : A → B → C) (r : TokenReader T A) (q : A
      → TokenReader T B) (s : List T) (k : SyntaxFaultKind) (rest : List T) → and_bind f r q s ≡ Bad k rest → BoundFails r q s k rest
  bound_fails f r q s k rest e = go (r s) refl e
    where
      last : (x : _) (between : List T) → r s ≡ Got x between → (b : Answer T _) → q x between ≡ b → (b >>= λ y rest'. Got (f x y) rest') ≡ Bad k rest → BoundFails r q s k rest
      last x between ea (Bad k' t) eb h = second_fails x between ea (eb ∙ cc)
      last x between ea (Got y t) eb h = cc

      go : (a : Answer T _) → r s ≡ a → (a >>= λ x rest. q x rest >>= λ y rest'. Got (f x y) rest') ≡ Bad k rest → BoundFails r q s k rest
      go (Bad k' t) ea h = first_fails (ea ∙ cc)
      go (Got x between) ea h = last x between ea (q x between) refl h

  module _ {A B C : Type 0} (f : A → B → C) (L D : Lang T A) (M E : A → Lang T B)
      (stop_r stop_q : List T → Bool) (r : TokenReader T A) (q : A → TokenReader T B) (lr : IsLawful L
      L D stop_r r) (lq : (a : List T) (x : A) → L a x → IsLawful (M x) (M x) (E x) stop_q (q x)) where
    bind_sound : (s : List T) (z : C) (rest : List T) → and_bind f r q s ≡ Got z rest → Front (Bind f L M) s z rest
    bind_sound s z rest e =
        let p = bound_parts f r q s z rest e in
        let a = lr.sound s p.first p.between p.got_first in
        let b = (lq a.front p.first a.spells).sound p.between p.second rest p.got_second in
        let w : s ≡ (a.front ++ b.front) ++ rest = a.whole ∙ ap (λ t. a.front ++ t) b.whole ∙ sym (append_assoc a.front b.front rest) in
        record { front = a.front ++ b.front; whole = w; spells = subst (λ v. Bind f L M (a.front ++ b.front) v) p.value (bound a.front b.front p.first p.second a.spells b.spells) }

    bind_complete : ((x : A) (b : List T) (y : B) (rest : List T) → M x b y → stop_q rest ≡ true → stop_r
        (b ++ rest) ≡ true) → (ts : List T) (z : C) (rest : List T) → Bind f L M ts z → stop_q rest ≡ true → and_bind f r q (ts ++ rest) ≡ Got z rest
    bind_complete follows _ _ rest (bound a b x y ha hb) h =
        rw (append_assoc a b rest, lr.complete a x (b ++ rest) ha (follows x b y rest hb h), (lq a x ha).complete b y rest hb h) refl

    bind_viable : ((a : List T) (x : A) → L a x → Holds (M x)) → (s : List T) (k : SyntaxFaultKind) (rest : List T) → and_bind f r q s ≡ Bad k rest → Begins (Bind f L M) s rest
    bind_viable some s k rest e = go (bound_fails f r q s k rest e)
      where
        go : BoundFails r q s k rest → Begins (Bind f L M) s rest
        go (first_fails h) =
            let a = lr.viable s k rest h in
            let m = some (a.front ++ a.more) a.value a.spells in
            record {
              front = a.front;
              more = a.more ++ m.tokens;
              value = f a.value m.value;
              whole = a.whole;
              spells = subst (λ ts. Bind f L M ts (f a.value m.value)) (append_assoc a.front a.more m.tokens)
                  (bound (a.front ++ a.more) m.tokens a.value m.value a.spells m.spells);
            }
        go (second_fails x between h g) =
            let a = lr.sound s x between h in
            let b = (lq a.front x a.spells).viable between k rest g in
            record {
              front = a.front ++ b.front;
              more = b.more;
              value = f x b.value;
              whole = a.whole ∙ ap (λ t. a.front ++ t) b.whole ∙ sym (append_assoc a.front b.front rest);
              spells = subst (λ ts. Bind f L M ts (f x b.value)) (sym (append_assoc a.front b.front b.more))
                  (bound a.front (b.front ++ b.more) x b.value a.spells b.spells);
            }

    bind_deep : ((ts : List T) (x : A) → L ts x → D ts x) → ((a : List T) (x : A) → D a x → Holds (E x)) → (s rest : List T) → and_bind f r q s ≡ Bad TooDeep rest → BeginsWith (Bind f D E) s rest
    bind_deep wider some s rest e = go (bound_fails f r q s TooDeep rest e)
      where
        go : BoundFails r q s TooDeep rest → BeginsWith (Bind f D E) s rest
        go (first_fails h) =
            let a = lr.deep s rest h in
            let m = some (a.front ++ a.token ∷ a.more) a.value a.spells in
            record {
              front = a.front;
              token = a.token;
              after = a.after;
              more = a.more ++ m.tokens;
              value = f a.value m.value;
              whole = a.whole;
              there = a.there;
              spells = subst (λ ts. Bind f D E ts (f a.value m.value))
                  (append_assoc a.front (a.token ∷ a.more) m.tokens) (bound (a.front ++ a.token ∷ a.more) m.tokens a.value m.value a.spells m.spells);
            }
        go (second_fails x between h g) =
            let a = lr.sound s x between h in
            let b = (lq a.front x a.spells).deep between rest g in
            record {
              front = a.front ++ b.front;
              token = b.token;
              after = b.after;
              more = b.more;
              value = f x b.value;
              whole = a.whole ∙ ap (λ t. a.front ++ t) b.whole ∙ sym (append_assoc a.front b.front rest);
              there = b.there;
              spells = subst (λ ts. Bind f D E ts (f x b.value)) (sym (append_assoc a.front b.front (b.token ∷ b.more)))
                  (bound a.front (b.front ++ b.token ∷ b.more) x b.value (wider a.front x a.spells) b.spells);
            }

    pub bind_lawful : ((x : A) (b : List T) (y : B) (rest : List T) → M x b y → stop_q rest ≡ true → stop_r
        (b ++ rest) ≡ true) → ((a : List T) (x : A) → L a x → Holds (M x)) → ((ts : List T) (x : A) → L ts x → D ts x) → ((a : List T) (x : A)
        → D a x → Holds (E x)) → IsLawful (Bind f L M) (Bind f L M) (Bind f D E) stop_q (and_bind f r q)
    bind_lawful follows some wider some_e = record {
      sound = bind_sound;
      complete = bind_complete follows;
      viable = bind_viable some;
      deep = bind_deep wider some_e;
    }

  module _ (P : SyntaxFaultKind → Type 0) {A B C : Type 0} (f : A → B → C) (r r' : TokenReader T A) (q q' : A → TokenReader T B) where
    pub bind_local : IsLocal P r r' → ((x : A) → IsLocal P (q x) (q' x)) → IsLocal P (and_bind f r q) (and_bind f r' q')
    bind_local lr lq = record { got = got_both; bad = λ s k rest d e. bad_both s k rest d (bound_fails f r q s k rest e) }
      where
        got_both : (s : List T) (z : C) (rest : List T) → and_bind f r q s ≡ Got z rest → Stands (and_bind f r' q') (λ v. Got z v) s rest
        got_both s z rest e =
            let p = bound_parts f r q s z rest e in
            let a = lr.got s p.first p.between p.got_first in
            let b = (lq p.first).got p.between p.second rest p.got_second in
            let step : (v : List T) → SameHead rest v → and_bind f r' q' ((a.front ++ b.front) ++ v) ≡ Got z v = λ v h.
            let h1 : SameHead p.between (b.front ++ v) = subst (λ t. SameHead t (b.front ++ v)) (sym b.whole) (same_front b.front rest v h) in
            rw (append_assoc a.front b.front v, a.always (b.front ++ v) h1, b.always v h) (ap (λ y. Got y v) p.value) in
            record { front = a.front ++ b.front; whole = a.whole ∙ ap (λ t. a.front ++ t) b.whole ∙ sym (append_assoc a.front b.front rest); always = step }

        bad_both : (s : List T) (k : SyntaxFaultKind) (rest : List T) → P k → BoundFails r q s k rest → Stands (and_bind f r' q') (λ v. Bad k v) s rest
        bad_both s k rest d (first_fails h) =
            let a = lr.bad s k rest d h in
            record { front = a.front; whole = a.whole; always = λ v h. rw (a.always v h) refl }
        bad_both s k rest d (second_fails x between h g) =
            let a = lr.got s x between h in
            let b = (lq x).bad between k rest d g in
            let step : (v : List T) → SameHead rest v → and_bind f r' q' ((a.front ++ b.front) ++ v) ≡ Bad k v = λ v h.
            let h1 : SameHead between (b.front ++ v) = subst (λ t. SameHead t (b.front ++ v)) (sym b.whole) (same_front b.front rest v h) in
            rw (append_assoc a.front b.front v, a.always (b.front ++ v) h1, b.always v h) refl in
            record { front = a.front ++ b.front; whole = a.whole ∙ ap (λ t. a.front ++ t) b.whole ∙ sym (append_assoc a.front b.front rest); always = step }
