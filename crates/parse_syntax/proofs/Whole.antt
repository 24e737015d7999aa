-- What the reader of a whole text answers, by the grammar.
use Rattle.std.proofs.Common.{◌≡◌, ℕ, zero, suc, ◌+◌, ◌<◌, ◌≤◌, List, [], ◌∷◌, ◌++◌, Bool, true, false, ◌⊎◌, inl, inr, refl, sym, ap, ◌∙◌, subst, arith, append_assoc, append-nil}
use Rattle.std.proofs.lemmas.Bool.{cases_lt}
use Rattle.std.proofs.lemmas.List.{append_cancel_right}
use Rattle.parse_syntax.specs.Lang.{Lang, Then, both, Nothing, nothing}
use Rattle.parse_syntax.specs.Reader.{Got, Bad, TokenReader, SyntaxFaultKind, Wrong, TooDeep, at_end, read_whole, keep_first}
use Rattle.parse_syntax.specs.Refused.{CanBegin, IsWrongAt, IsRefused}
use Rattle.parse_syntax.proofs.Laws.{IsLawful, Front, parts}
use Rattle.parse_syntax.proofs.Local.{SameHead, Stands, IsLocal}
use Rattle.parse_syntax.proofs.Wider.{IsIn, itself}
use Rattle.parse_syntax.proofs.Part.{Part, then_part}

-- the end

module _ {T : Type 0} where
  abbrev pub Ended : Lang T (Unit {0})
  Ended = Nothing {A = Unit {0}} tt

  abbrev pub is_empty : List T → Bool
  is_empty [] = true
  is_empty (t ∷ s) = false

  end_sound : (s : List T) (x : Unit {0}) (rest : List T) → at_end s ≡ Got x rest → Front Ended s x rest
  end_sound [] x rest e = let w : [] ≡ rest = cc in record { front = []; whole = w; spells = nothing x refl }
  end_sound (t ∷ s) x rest e = cc

  empty_of : (rest : List T) → is_empty rest ≡ true → (x : Unit {0}) → at_end rest ≡ Got x rest
  empty_of [] e x = refl
  empty_of (t ∷ s) e x = let q : false ≡ true = e in cc

  end_complete : (ts : List T) (x : Unit {0}) (rest : List T) → Ended ts x → is_empty rest ≡ true → at_end (ts ++ rest) ≡ Got x rest
  end_complete _ _ rest (nothing x h) e = empty_of rest e x

  end_bad : (s : List T) (k : SyntaxFaultKind) (rest : List T) → at_end s ≡ Bad k rest → (s ≡ rest) × (k ≡ TooDeep → ⊥)
  end_bad [] k rest e = cc
  end_bad (t ∷ s) k rest e = let a : Wrong ≡ k = cc in (cc, λ d. let g : Wrong ≡ TooDeep = a ∙ d in cc)

  end_lawful : IsLawful Ended Ended Ended is_empty at_end
  end_lawful = record {
    sound = end_sound;
    complete = end_complete;
    viable = λ s k rest e. record { front = []; more = []; value = tt; whole = (end_bad s k rest e).0; spells = nothing tt refl };
    deep = λ s rest e. absurd ((end_bad s TooDeep rest e).1 refl);
  }

  end_local : (P : SyntaxFaultKind → Type 0) → IsLocal {T = T} P at_end at_end
  end_local P = record { got = got_of; bad = bad_of }
    where
      stay : (v : List T) → SameHead [] v → (x : Unit {0}) → at_end v ≡ Got x v
      stay [] m x = refl
      stay (u ∷ v) m x = absurd m

      got_of : (s : List T) (x : Unit {0}) (rest : List T) → at_end s ≡ Got x rest → Stands at_end (λ v. Got x v) s rest
      got_of [] x rest e = let w : [] ≡ rest = cc in record { front = []; whole = w; always = λ v m. stay v (subst (λ q. SameHead q v) (sym w) m) x }
      got_of (t ∷ s) x rest e = cc

      same : (t : T) (s : List T) (k : SyntaxFaultKind) → Wrong ≡ k → (v : List T) → SameHead (t ∷ s) v → at_end v ≡ Bad k v
      same t s k a [] m = absurd m
      same t s k a (u ∷ v) m = ap (λ k. Bad k (u ∷ v)) a

      bad_of : (s : List T) (k : SyntaxFaultKind) (rest : List T) → P k → at_end s ≡ Bad k rest → Stands at_end (λ v. Bad k v) s rest
      bad_of [] k rest d e = cc
      bad_of (t ∷ s) k rest d e =
          let a : Wrong ≡ k = cc in
          let w : t ∷ s ≡ rest = cc in
          record { front = []; whole = w; always = λ v m. same t s k a v (subst (λ q. SameHead q v) (sym w) m) }

  end_part : (P : SyntaxFaultKind → Type 0) → Part P Ended Ended is_empty at_end at_end
  end_part P = record { lawful = end_lawful; wider = itself Ended; local = end_local P; some = record { tokens = []; value = tt; spells = nothing tt refl } }

abbrev pub Shallow : SyntaxFaultKind → Type 0
Shallow k = k ≡ TooDeep → ⊥

-- a family of readers for a family of languages: at each level, and one more may be open above
pub record Family {T A : Type 0} (Script : ℕ → Lang T A) (stops : List T → Bool) (read : ℕ → TokenReader T A) : Type 0 where
  pub at_nothing : stops [] ≡ true
  pub same : (n : ℕ) → Part (λ k. Unit {0}) (Script n) (Script (suc n)) stops (read n) (read n)
  pub more : (n m : ℕ) → n ≤ m → Part Shallow (Script n) (Script (suc n)) stops (read n) (read m)

module _ {T A : Type 0} {Script : ℕ → Lang T A} {stops : List T → Bool} {read : ℕ → TokenReader T A} (f : Family Script stops read) where
  abbrev AllOf : ℕ → Lang T A
  AllOf n = Then keep_first (Script n) Ended

  abbrev read_all : ℕ → TokenReader T A
  read_all n = read_whole (read n)

  empty_stops : (rest : List T) → is_empty rest ≡ true → stops rest ≡ true
  empty_stops [] e = f.at_nothing
  empty_stops (t ∷ s) e = let q : false ≡ true = e in cc

  follows : (b : List T) (y : Unit {0}) (rest : List T) → Ended b y → is_empty rest ≡ true → stops (b ++ rest) ≡ true
  follows _ _ rest (nothing x h) e = empty_stops rest e

  all_same : (n : ℕ) → Part (λ k. Unit {0}) (AllOf n) (AllOf (suc n)) is_empty (read_all n) (read_all n)
  all_same n = then_part keep_first (f.same n) (end_part (λ k. Unit {0})) follows

  all_more : (n m : ℕ) → n ≤ m → Part Shallow (AllOf n) (AllOf (suc n)) is_empty (read_all n) (read_all m)
  all_more n m le = then_part keep_first (f.more n m le) (end_part Shallow) follows

  all_law : (n : ℕ) → IsLawful (AllOf n) (AllOf n) (AllOf (suc n)) is_empty (read_all n)
  all_law n = (all_same n).lawful

  to_all : (n : ℕ) (ts : List T) (x : A) → Script n ts x → AllOf n ts x
  to_all n ts x h = subst (λ q. AllOf n q x) (append-nil ts) (both ts [] x tt h (nothing tt refl))

  from_all : (n : ℕ) (ts : List T) (x : A) → AllOf n ts x → Script n ts x
  from_all n _ _ (both a b x y h e) = go b y e
    where
      go : (b : List T) (y : Unit {0}) → Ended b y → Script n (a ++ b) x
      go _ _ (nothing y e) = subst (λ q. Script n q x) (sym (append-nil a)) h

  -- more room holds more
  pub more_from : (n m : ℕ) → n ≤ m → IsIn (Script n) (Script m)
  more_from n zero le = let e : n ≡ zero = omega arith in subst (λ k. IsIn (Script n) (Script k)) e (itself (Script n))
  more_from n (suc m) le = go (more_from n m) (cases_lt m n)
    where
      go : (n ≤ m → IsIn (Script n) (Script m)) → (m < n) ⊎ (n ≤ m) → IsIn (Script n) (Script (suc m))
      go ih (inl h) = let e : n ≡ suc m = omega arith in subst (λ k. IsIn (Script n) (Script k)) e (itself (Script n))
      go ih (inr h) =
          let l = ih h in
          record { at = λ ts x s. (f.same m).wider.at ts x (l.at ts x s) }

  pub reads_all : (n : ℕ) (ts : List T) (x : A) → Script n ts x → read_all n ts ≡ Got x []
  reads_all n ts x h = subst (λ q. read_all n q ≡ Got x []) (append-nil ts) ((all_law n).complete ts x [] (to_all n ts x h) refl)

  -- the whole text is a script exactly where the reader gives it
  pub all_read : (n : ℕ) (ts : List T) (x : A) (rest : List T) → read_all n ts ≡ Got x rest → Script n ts x
  all_read n ts x rest e = go rest (ended rest e) e
    where
      ended : (rest : List T) → read_all n ts ≡ Got x rest → rest ≡ []
      ended rest e =
          let p = parts keep_first (read n) at_end ts x rest e in
          none p.between p.second rest p.got_second
        where
          none : (b : List T) (y : Unit {0}) (rest : List T) → at_end b ≡ Got y rest → rest ≡ []
          none [] y rest e = let q : [] ≡ rest = cc in sym q
          none (t ∷ b) y rest e = cc

      go : (rest : List T) → rest ≡ [] → read_all n ts ≡ Got x rest → Script n ts x
      go rest w e =
          let a = (all_law n).sound ts x rest e in
          let all : ts ≡ a.front = a.whole ∙ ap (λ r. a.front ++ r) w ∙ append-nil a.front in
          from_all n ts x (subst (λ q. AllOf n q x) (sym all) a.spells)

  -- no tokens spell two scripts
  pub one_script : (n m : ℕ) (ts : List T) (x y : A) → Script n ts x → Script m ts y → x ≡ y
  one_script n m ts x y h g =
      let a = reads_all (n + m) ts x ((more_from n (n + m) (omega arith)).at ts x h) in
      let b = reads_all (n + m) ts y ((more_from m (n + m) (omega arith)).at ts y g) in
      let c = sym a ∙ b in
      cc

  -- what r does not take with this first token, no text that goes on so has
  module _ (n : ℕ) (ts front : List T) where
    -- with more room
    wider_none : (k : SyntaxFaultKind) (rest v : List T) → ts ≡ front ++ rest → Shallow k → read_all n ts ≡ Bad k rest → SameHead rest v → (m : ℕ) (x : A) → Script m (front ++ v) x → ⊥
    wider_none k rest v w d e h m x s =
        let a = (all_more n (n + m) (omega arith)).local.bad ts k rest d e in
        let g : a.front ≡ front = append_cancel_right a.front front rest (sym a.whole ∙ w) in
        let b = reads_all (n + m) (front ++ v) x ((more_from m (n + m) (omega arith)).at (front ++ v) x s) in
        let c : read_all (n + m) (front ++ v) ≡ Bad k v = subst (λ q. read_all (n + m) (q ++ v) ≡ Bad k v) g (a.always v h) in
        let z : Got x [] ≡ Bad k v = sym b ∙ c in
        cc

    -- with the same room
    same_none : (k : SyntaxFaultKind) (rest v : List T) → ts ≡ front ++ rest → read_all n ts ≡ Bad k rest → SameHead rest v → (x : A) → Script n (front ++ v) x → ⊥
    same_none k rest v w e h x s =
        let a = (all_same n).local.bad ts k rest tt e in
        let g : a.front ≡ front = append_cancel_right a.front front rest (sym a.whole ∙ w) in
        let b = reads_all n (front ++ v) x s in
        let c : read_all n (front ++ v) ≡ Bad k v = subst (λ q. read_all n (q ++ v) ≡ Bad k v) g (a.always v h) in
        let z : Got x [] ≡ Bad k v = sym b ∙ c in
        cc

    begins_none : (t : T) (after : List T) → ts ≡ front ++ t ∷ after → read_all n ts ≡ Bad Wrong (t ∷ after) → (m : ℕ) → CanBegin Script m (front ++ t ∷ []) → ⊥
    begins_none t after w e m c =
        wider_none Wrong (t ∷ after) (t ∷ c.0) w (λ h. cc) e refl m c.1 (subst (λ q. Script m q c.1) (append_assoc front (t ∷ []) c.0) c.2)

    deep_none : (t : T) (after : List T) → ts ≡ front ++ t ∷ after → read_all n ts ≡ Bad TooDeep (t ∷ after) → CanBegin Script n (front ++ t ∷ []) → ⊥
    deep_none t after w e c =
        same_none TooDeep (t ∷ after) (t ∷ c.0) w e refl c.1 (subst (λ q. Script n q c.1) (append_assoc front (t ∷ []) c.0) c.2)

    -- and with one more it goes on
    deep_begins : (t : T) (after : List T) → ts ≡ front ++ t ∷ after → read_all n ts ≡ Bad TooDeep (t ∷ after) → CanBegin Script (suc n) (front ++ t ∷ [])
    deep_begins t after w e =
        let a = (all_law n).deep ts (t ∷ after) e in
        let g : a.front ≡ front = append_cancel_right a.front front (t ∷ after) (sym a.whole ∙ w) in
        let same_head : t ≡ a.token = let q = a.there in cc in
        let s1 : AllOf (suc n) (front ++ t ∷ a.more) a.value = subst (λ q. AllOf (suc n) (q ++ t ∷ a.more) a.value) g
        (subst (λ u. AllOf (suc n) (a.front ++ u ∷ a.more) a.value) (sym same_head) a.spells) in
        (a.more, a.value, from_all (suc n) ((front ++ t ∷ []) ++ a.more) a.value (subst (λ q. AllOf (suc n) q a.value) (sym (append_assoc front (t ∷ []) a.more)) s1))

    -- at the end nothing is too deep
    not_deep : read_all n ts ≡ Bad TooDeep [] → ⊥
    not_deep e =
        let a = (all_law n).deep ts [] e in
        let q : [] ≡ a.token ∷ a.after = a.there in
        cc

    wrong_at : (k : SyntaxFaultKind) (rest : List T) → ts ≡ front ++ rest → read_all n ts ≡ Bad k rest → IsWrongAt Script n front k rest
    wrong_at Wrong [] w e = λ m x s. wider_none Wrong [] [] w (λ h. cc) e tt m x (subst (λ q. Script m q x) (sym (append-nil front)) s)
    wrong_at Wrong (t ∷ after) w e = begins_none t after w e
    wrong_at TooDeep [] w e = not_deep e
    wrong_at TooDeep (t ∷ after) w e = (deep_none t after w e, suc n, deep_begins t after w e)

  -- where the reader fails, the grammar says what it says
  pub refuses : (n : ℕ) (ts : List T) (k : SyntaxFaultKind) (rest : List T) → read_all n ts ≡ Bad k rest → IsRefused Script n ts k rest
  refuses n ts k rest e =
      let a = (all_law n).viable ts k rest e in
      record { front = a.front; whole = a.whole; begins = (a.more, a.value, from_all n (a.front ++ a.more) a.value a.spells); wrong = wrong_at n ts a.front k rest a.whole e }
