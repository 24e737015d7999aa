-- A reader looks no further than the first token that it does not take; with more room it answers the same.
use Rattle.std.proofs.Common.{◌≡◌, ℕ, zero, suc, ◌<◌, ◌≤◌, List, [], ◌∷◌, ◌++◌, length, Bool, true, false, cond, Option, Some, None, refl, sym, ap, ◌∙◌, subst, arith, append_assoc, length-append}
use Rattle.parse_syntax.specs.Reader.{Answer, Got, Bad, TokenReader, ◌>>=◌, SyntaxFaultKind, Wrong, TooDeep, wrong, too_deep, map_by, and_then, take_or, one_of, succeed, choose, loop, all_of}
use Rattle.parse_syntax.proofs.Laws.{parts, Fails, at_first, at_second, fails, map_got, map_bad}

module _ {T : Type 0} where
  -- the same first token, or none
  abbrev pub SameHead : List T → List T → Type 0
  SameHead [] [] = Unit {0}
  SameHead [] (u ∷ v) = ⊥
  SameHead (t ∷ s) [] = ⊥
  SameHead (t ∷ s) (u ∷ v) = t ≡ u

  pub same_front : (a s v : List T) → SameHead s v → SameHead (a ++ s) (a ++ v)
  same_front [] s v h = h
  same_front (t ∷ a) s v h = refl

  -- the answer stands for each rest with the same first token
  pub record Stands {A : Type 0} (r : TokenReader T A) (answer : List T → Answer T A) (s rest : List T) : Type 0 where
    pub front : List T
    pub whole : s ≡ front ++ rest
    pub always : (v : List T) → SameHead rest v → r (front ++ v) ≡ answer v

  -- what r answers, but for faults that P leaves out, q answers whatever comes after the first token that r does not take
  pub record IsLocal {A : Type 0} (P : SyntaxFaultKind → Type 0) (r q : TokenReader T A) : Type 0 where
    pub got : (s : List T) (x : A) (rest : List T) → r s ≡ Got x rest → Stands q (λ v. Got x v) s rest
    pub bad : (s : List T) (k : SyntaxFaultKind) (rest : List T) → P k → r s ≡ Bad k rest → Stands q (λ v. Bad k v) s rest

  -- a test that looks at the first token
  pub record IsTest (test : List T → Bool) : Type 0 where
    pub same : (s v : List T) → SameHead s v → test s ≡ test v

  module _ (P : SyntaxFaultKind → Type 0) {A B C : Type 0} (f : A → B → C) (r r' : TokenReader T A) (q q' : TokenReader T B) where
    pub then_local : IsLocal P r r' → IsLocal P q q' → IsLocal P (and_then f r q) (and_then f r' q')
    then_local lr lq = record { got = got_both; bad = λ s k rest d e. bad_both s k rest d (fails f r q s k rest e) }
      where
        got_both : (s : List T) (z : C) (rest : List T) → and_then f r q s ≡ Got z rest → Stands (and_then f r' q') (λ v. Got z v) s rest
        got_both s z rest e =
            let p = parts f r q s z rest e in
            let a = lr.got s p.first p.between p.got_first in
            let b = lq.got p.between p.second rest p.got_second in
            let step : (v : List T) → SameHead rest v → and_then f r' q' ((a.front ++ b.front) ++ v) ≡ Got z v = λ v h.
            let h1 : SameHead p.between (b.front ++ v) = subst (λ t. SameHead t (b.front ++ v)) (sym b.whole) (same_front b.front rest v h) in
            rw (append_assoc a.front b.front v, a.always (b.front ++ v) h1, b.always v h) (ap (λ y. Got y v) p.value) in
            record { front = a.front ++ b.front; whole = a.whole ∙ ap (λ t. a.front ++ t) b.whole ∙ sym (append_assoc a.front b.front rest); always = step }

        bad_both : (s : List T) (k : SyntaxFaultKind) (rest : List T) → P k → Fails r q s k rest → Stands (and_then f r' q') (λ v. Bad k v) s rest
        bad_both s k rest d (at_first h) =
            let a = lr.bad s k rest d h in
            record { front = a.front; whole = a.whole; always = λ v h. rw (a.always v h) refl }
        bad_both s k rest d (at_second x between h g) =
            let a = lr.got s x between h in
            let b = lq.bad between k rest d g in
            let step : (v : List T) → SameHead rest v → and_then f r' q' ((a.front ++ b.front) ++ v) ≡ Bad k v = λ v h.
            let h1 : SameHead between (b.front ++ v) = subst (λ t. SameHead t (b.front ++ v)) (sym b.whole) (same_front b.front rest v h) in
            rw (append_assoc a.front b.front v, a.always (b.front ++ v) h1, b.always v h) refl in
            record { front = a.front ++ b.front; whole = a.whole ∙ ap (λ t. a.front ++ t) b.whole ∙ sym (append_assoc a.front b.front rest); always = step }

  module _ (P : SyntaxFaultKind → Type 0) {A : Type 0} (value : T → Option A) where
    pub one_local : IsLocal P (one_of value) (one_of value)
    one_local = record { got = got_one; bad = bad_one }
      where
        got_one : (s : List T) (x : A) (rest : List T) → one_of value s ≡ Got x rest → Stands (one_of value) (λ v. Got x v) s rest
        got_one [] x rest e = cc
        got_one (t ∷ tail) x rest e = go (value t) refl e
          where
            go : (o : Option A) → value t ≡ o → take_or o t tail ≡ Got x rest → Stands (one_of value) (λ v. Got x v) (t ∷ tail) rest
            go None h e = cc
            go (Some y) h e =
                let same : y ≡ x = cc in
                let same_rest : tail ≡ rest = cc in
                record { front = t ∷ []; whole = ap (λ m. t ∷ m) same_rest; always = λ v _. ap (λ o. take_or o t v) h ∙ ap (λ y. Got y v) same }

        bad_one : (s : List T) (k : SyntaxFaultKind) (rest : List T) → P k → one_of value s ≡ Bad k rest → Stands (one_of value) (λ v. Bad k v) s rest
        bad_one [] k rest d e =
            let h : Wrong ≡ k = cc in
            let g : [] ≡ rest = cc in
            record { front = []; whole = g; always = λ v m. at_end v (subst (λ t. SameHead t v) (sym g) m) h }
          where
            at_end : (v : List T) → SameHead [] v → Wrong ≡ k → one_of value v ≡ Bad k v
            at_end [] m h = ap (λ k. Bad k []) h
            at_end (u ∷ v) m h = absurd m
        bad_one (t ∷ tail) k rest d e = go (value t) refl e
          where
            same : (o : Option A) → value t ≡ None → Wrong ≡ k → (v : List T) → SameHead (t ∷ tail) v → one_of value v ≡ Bad k v
            same o h g [] m = absurd m
            same o h g (u ∷ v) m = rw (sym m, h, g) refl

            go : (o : Option A) → value t ≡ o → take_or o t tail ≡ Bad k rest → Stands (one_of value) (λ v. Bad k v) (t ∷ tail) rest
            go None h e =
                let g : Wrong ≡ k = cc in
                let w : t ∷ tail ≡ rest = cc in
                record { front = []; whole = w; always = λ v m. same None h g v (subst (λ s. SameHead s v) (sym w) m) }
            go (Some y) h e = cc

  module _ (P : SyntaxFaultKind → Type 0) {A B : Type 0} (f : A → B) (r r' : TokenReader T A) where
    pub map_local : IsLocal P r r' → IsLocal P (map_by f r) (map_by f r')
    map_local l = record {
      got = λ s y rest e.
          let m = map_got f r s y rest e in
          let a = l.got s m.0 rest m.1 in
          record { front = a.front; whole = a.whole; always = λ v h. rw (a.always v h) (ap (λ y. Got y v) m.2) };
      bad = λ s k rest d e.
          let a = l.bad s k rest d (map_bad f r s k rest e) in
          record { front = a.front; whole = a.whole; always = λ v h. rw (a.always v h) refl };
    }

  module _ (P : SyntaxFaultKind → Type 0) {A : Type 0} (starts : List T → Bool) (r r' q q' : TokenReader T A) where
    pub choose_local : IsTest starts → IsLocal P r r' → IsLocal P q q' → IsLocal P (choose starts r q) (choose starts r' q')
    choose_local t lr lq = record { got = λ s x rest e. got_of s x rest (starts s) refl e; bad = λ s k rest d e. bad_of s k rest d (starts s) refl e }
      where
        moved : (s front rest v : List T) (b : Bool) → starts s ≡ b → s ≡ front ++ rest → SameHead rest v → starts (front ++ v) ≡ b
        moved s front rest v b h w m = sym (t.same (front ++ rest) (front ++ v) (same_front front rest v m)) ∙ ap starts (sym w) ∙ h

        got_of : (s : List T) (x : A) (rest : List T) (b : Bool) → starts s ≡ b → cond b (r s) (q s) ≡ Got x rest → Stands (choose starts r' q') (λ v. Got x v) s rest
        got_of s x rest true h e = let a = lr.got s x rest e in record { front = a.front; whole = a.whole; always = λ v m. rw (moved s a.front rest v true h a.whole m) (a.always v m) }
        got_of s x rest false h e = let a = lq.got s x rest e in record { front = a.front; whole = a.whole; always = λ v m. rw (moved s a.front rest v false h a.whole m) (a.always v m) }

        bad_of : (s : List T) (k : SyntaxFaultKind) (rest : List T) → P k → (b : Bool) → starts s ≡ b → cond b (r s) (q s) ≡ Bad k rest → Stands (choose starts r' q') (λ v. Bad k v) s rest
        bad_of s k rest d true h e = let a = lr.bad s k rest d e in record { front = a.front; whole = a.whole; always = λ v m. rw (moved s a.front rest v true h a.whole m) (a.always v m) }
        bad_of s k rest d false h e = let a = lq.bad s k rest d e in record { front = a.front; whole = a.whole; always = λ v m. rw (moved s a.front rest v false h a.whole m) (a.always v m) }

  -- what a reader takes is something
  pub record IsEating {A : Type 0} (r : TokenReader T A) : Type 0 where
    pub less : (s : List T) (x : A) (rest : List T) → r s ≡ Got x rest → length rest < length s

  module _ (P : SyntaxFaultKind → Type 0) {A : Type 0} (starts : List T → Bool) (r r' : TokenReader T A) (t : IsTest starts) (none : starts [] ≡ false) (lr : IsLocal P r r') (eats : IsEating r) where
    Turn : (b : Bool) → ℕ → List T → Answer T (List A)
    Turn b n s = cond b (r s >>= λ x rest. loop starts r n rest >>= λ xs rest'. Got (x ∷ xs) rest') (Got [] s)

    -- with enough turns, whatever comes after
    Agree : (answer : List T → Answer T (List A)) → List T → List T → Type 0
    Agree answer s rest = (front : List T) × (s ≡ front ++ rest) × ((v : List T) (m : ℕ) → SameHead rest v → length (front ++ v) ≤ m → loop starts r' m (front ++ v) ≡ answer v)

    stop_here : (s : List T) → starts s ≡ false → (v : List T) (m : ℕ) → SameHead s v → length v ≤ m → loop starts r' m v ≡ Got [] v
    stop_here s h v zero e le = refl
    stop_here s h v (suc m) e le = rw (sym (t.same s v e) ∙ h) refl

    go_on : (s front1 front2 rest between : List T) (x : A) (a : Answer T (List A)) (answer : List T → Answer T (List A)) → starts s ≡ true
        → s ≡ front1 ++ between → length between < length s → between ≡ front2 ++ rest → ((v : List T) → SameHead between v → r' (front1 ++ v)
        ≡ Got x v) → ((v : List T) (m : ℕ) → SameHead rest v → length (front2 ++ v) ≤ m →
        (loop starts r' m (front2 ++ v) >>= λ xs rest'. Got (x ∷ xs) rest') ≡ answer v) → (v : List T) (m : ℕ) → SameHead rest v → length
        ((front1 ++ front2) ++ v) ≤ m → loop starts r' m ((front1 ++ front2) ++ v) ≡ answer v
    go_on s front1 front2 rest between x a answer h w lt w2 al next v zero e le =
        absurd (omega (arith, length-append front1 between, ap length w, length-append (front1 ++ front2) v, length-append front1 front2))
    go_on s front1 front2 rest between x a answer h w lt w2 al next v (suc m) e le =
        let e1 : SameHead between (front2 ++ v) = subst (λ t. SameHead t (front2 ++ v)) (sym w2) (same_front front2 rest v e) in
        let e2 : starts (front1 ++ (front2 ++ v)) ≡ true = sym (t.same (front1 ++ between) (front1 ++ (front2 ++ v)) (same_front front1 between (front2 ++ v) e1)) ∙ ap starts (sym w) ∙ h in
        let le' : length (front2 ++ v) ≤ m = omega (arith, length-append front1 between, ap length w, length-append (front1 ++ front2) v, length-append front1 front2, length-append front2 v) in
        rw (append_assoc front1 front2 v, e2, al (front2 ++ v) e1) (next v m e le')

    loop_got : (n : ℕ) (s : List T) (xs : List A) (rest : List T) → length s ≤ n → loop starts r n s ≡ Got xs rest → Agree (λ v. Got xs v) s rest
    unfolding Agree
    loop_got zero s xs rest le e =
        let w : s ≡ rest = cc in
        let same : [] ≡ xs = cc in
        let empty : (q : List T) → length q ≤ 0 → starts q ≡ false = elim [ [] ↦ λ _. none | t ∷ q ↦ λ h. absurd (omega arith) ] in
        ([], w, λ v m e le'. rw (stop_here s (empty s le) v m (subst (λ q. SameHead q v) (sym w) e) le') (ap (λ xs. Got xs v) same))
    loop_got (suc n) s xs rest le e = go (loop_got n) (starts s) refl e
      where
        go : ((s : List T) (xs : List A) (rest : List T) → length s ≤ n → loop starts r n s ≡ Got xs rest → Agree
            (λ v. Got xs v) s rest) → (b : Bool) → starts s ≡ b → cond b
            (r s >>= λ x rest. loop starts r n rest >>= λ xs rest'. Got (x ∷ xs) rest') (Got [] s) ≡ Got xs rest → Agree (λ v. Got xs v) s rest
        go ih false h e =
            let w : s ≡ rest = cc in
            let same : [] ≡ xs = cc in
            ([], w, λ v m e le'. rw (stop_here s h v m (subst (λ q. SameHead q v) (sym w) e) le') (ap (λ xs. Got xs v) same))
        go ih true h e =
            let p = parts (λ x xs. x ∷ xs) r (loop starts r n) s xs rest e in
            let a = lr.got s p.first p.between p.got_first in
            let lt = eats.less s p.first p.between p.got_first in
            let le2 : length p.between ≤ n = omega arith in
            let b = ih p.between p.second rest le2 p.got_second in (
              a.front ++ b.0,
              a.whole ∙ ap (λ t. a.front ++ t) b.1 ∙ sym (append_assoc a.front b.0 rest),
              go_on s a.front b.0 rest p.between
                  p.first (Got [] []) (λ v. Got xs v) h a.whole lt b.1 a.always (λ v m e le'. rw (b.2 v m e le') (ap (λ y. Got y v) p.value)),
            )

    loop_bad : (n : ℕ) (s : List T) (k : SyntaxFaultKind) (rest : List T) → P k → length s ≤ n → loop starts r n s ≡ Bad k rest → Agree (λ v. Bad k v) s rest
    unfolding Agree
    loop_bad zero s k rest d le e = cc
    loop_bad (suc n) s k rest d le e = go (loop_bad n) (starts s) refl e
      where
        failed : ((s : List T) (k : SyntaxFaultKind) (rest : List T) → P k → length s ≤ n → loop starts r n s ≡ Bad k rest → Agree
            (λ v. Bad k v) s rest) → starts s ≡ true → Fails r (loop starts r n) s k rest → Agree (λ v. Bad k v) s rest
        failed ih h (at_first g) =
            let a = lr.bad s k rest d g in
            (a.front, a.whole, λ v m e le'. first a.front v m (sym (t.same (a.front ++ rest) (a.front ++ v) (same_front a.front rest v e)) ∙ ap starts (sym a.whole) ∙ h) (a.always v e) le')
          where
            first : (front v : List T) (m : ℕ) → starts (front ++ v) ≡ true → r' (front ++ v) ≡ Bad k v → length (front ++ v) ≤ m → loop starts r' m (front ++ v) ≡ Bad k v
            first front v zero e2 al le' = nothing (front ++ v) e2 le'
              where
                nothing : (q : List T) → starts q ≡ true → length q ≤ 0 → loop starts r' zero q ≡ Bad k v
                nothing [] e2 le' = let x : true ≡ false = sym e2 ∙ none in cc
                nothing (t ∷ q) e2 le' = absurd (omega arith)
            first front v (suc m) e2 al le' = rw (e2, al) refl
        failed ih h (at_second x between g1 g2) =
            let a = lr.got s x between g1 in
            let lt = eats.less s x between g1 in
            let le2 : length between ≤ n = omega arith in
            let b = ih between k rest d le2 g2 in (
              a.front ++ b.0,
              a.whole ∙ ap (λ t. a.front ++ t) b.1 ∙ sym (append_assoc a.front b.0 rest),
              go_on s a.front b.0 rest between x
                  (Got [] []) (λ v. Bad k v) h a.whole lt b.1 a.always (λ v m e le'. rw (b.2 v m e le') refl),
            )

        go : ((s : List T) (k : SyntaxFaultKind) (rest : List T) → P k → length s ≤ n → loop starts r n s ≡ Bad k rest → Agree
            (λ v. Bad k v) s rest) → (b : Bool) → starts s ≡ b → cond b (r s >>= λ x rest. loop starts r n rest >>= λ xs rest'. Got (x ∷ xs)
            rest') (Got [] s) ≡ Bad k rest → Agree (λ v. Bad k v) s rest
        go ih false h e = cc
        go ih true h e = failed ih h (fails (λ x xs. x ∷ xs) r (loop starts r n) s k rest e)

    pub loop_local : IsLocal P (all_of starts r) (all_of starts r')
    unfolding Agree
    loop_local = record {
      got = λ s xs rest e. let a = loop_got (length s) s xs rest (omega arith) e in record { front = a.0; whole = a.1; always = λ v m. a.2 v (length (a.0 ++ v)) m (omega arith) };
      bad = λ s k rest d e. let a = loop_bad (length s) s k rest d (omega arith) e in record { front = a.0; whole = a.1; always = λ v m. a.2 v (length (a.0 ++ v)) m (omega arith) };
    }

  module _ (P : SyntaxFaultKind → Type 0) {A : Type 0} where
    pub deep_local : IsLocal {A = A} P too_deep too_deep
    deep_local = record {
      got = λ s x rest e. cc;
      bad = λ s k rest d e. let h : TooDeep ≡ k = cc in record { front = []; whole = cc; always = λ v m. ap (λ k. Bad k v) h };
    }

    -- where there is no room, nothing is asked of more room
    pub no_room_local : (P TooDeep → ⊥) → (r : TokenReader T A) → IsLocal P too_deep r
    no_room_local less r = record {
      got = λ s x rest e. cc;
      bad = λ s k rest d e. let h : TooDeep ≡ k = cc in absurd (less (subst P (sym h) d));
    }

    pub wrong_local : IsLocal {A = A} P wrong wrong
    wrong_local = record {
      got = λ s x rest e. cc;
      bad = λ s k rest d e. let h : Wrong ≡ k = cc in record { front = []; whole = cc; always = λ v m. ap (λ k. Bad k v) h };
    }

    pub succeed_local : (x : A) → IsLocal P (succeed x) (succeed x)
    succeed_local x = record {
      got = λ s y rest e. let h : x ≡ y = cc in record { front = []; whole = cc; always = λ v m. ap (λ y. Got y v) h };
      bad = λ s k rest d e. cc;
    }
