-- The list of faults of names has exactly the faults.
use Rattle.std.proofs.Common.{◌≡◌, ℕ, Bool, true, false, cond, ◌||◌, List, [], ◌∷◌, ◌++◌, ◌⊎◌, inl, inr, refl, sym, ◌∙◌, subst}
use Rattle.std.specs.Str.{bytes_eq}
use Rattle.std.proofs.lemmas.Slice.Eq.{bytes_eq-Decides}
use mathlib.Core.Path.{fun_ext}
use Rattle.eval_tree.specs.Tree as tree
use Rattle.eval_tree.specs.Tree.{StmtTree, BlockTree, block_of, Stmts, Arms}
use Rattle.parse_syntax.specs.Grammar.{own_name}
use Rattle.js_parse.specs.Names as names
use Rattle.js_parse.specs.Names.{NameScope, Declaring, Looping, NameFault, Duplicate, LoopName, IsAmong, IsLoopName, FaultIn, FaultInBlock, FaultInArms, FaultAmong}
use Rattle.js_parse.specs.NameFaults.{NameTest, nobody, is_in, marked, all_marked, assigned_at, again_at, declared_again, with_own, faults_in, faults_inside, faults_in_arms, faults_among}

-- members of lists

abbrev pub In : NameFault → List NameFault → Type 0
In f [] = ⊥
In f (g ∷ gs) = (f ≡ g) ⊎ In f gs

pub in_left : (f : NameFault) (xs ys : List NameFault) → In f xs → In f (xs ++ ys)
in_left f [] ys h = absurd h
in_left f (x ∷ xs) ys (inl e) = inl e
in_left f (x ∷ xs) ys (inr h) = inr (in_left f xs ys h)

pub in_right : (f : NameFault) (xs ys : List NameFault) → In f ys → In f (xs ++ ys)
in_right f [] ys h = h
in_right f (x ∷ xs) ys h = inr (in_right f xs ys h)

on_left : (f : NameFault) (x : NameFault) (xs ys : List NameFault) → In f xs ⊎ In f ys → ((f ≡ x) ⊎ In f xs) ⊎ In f ys
on_left f x xs ys (inl h) = inl (inr h)
on_left f x xs ys (inr h) = inr h

pub apart : (f : NameFault) (xs ys : List NameFault) → In f (xs ++ ys) → In f xs ⊎ In f ys
apart f [] ys h = inr h
apart f (x ∷ xs) ys (inl e) = inl (inl e)
apart f (x ∷ xs) ys (inr h) = on_left f x xs ys (apart f xs ys h)

pub either : {A B C : Type 0} → A ⊎ B → (A → C) → (B → C) → C
either (inl a) f g = f a
either (inr b) f g = g b

-- names

same_name : (x y : List ℕ) → bytes_eq x y ≡ true → x ≡ y
same_name x y = (bytes_eq-Decides x y).0

its_own : (x : List ℕ) → bytes_eq x x ≡ true
its_own x = (bytes_eq-Decides x x).1 refl

among_of : (x : List ℕ) (ys : List (List ℕ)) → is_in ys x ≡ true → IsAmong x ys
among_of x [] h = let q : false ≡ true = h in absurd (cc)
among_of x (y ∷ ys) h = go (among_of x ys) (bytes_eq x y) refl h
  where
    go : (is_in ys x ≡ true → IsAmong x ys) → (b : Bool) → bytes_eq x y ≡ b → (b || is_in ys x) ≡ true → IsAmong x (y ∷ ys)
    go ih true e h = subst (λ (z : List ℕ). IsAmong x (z ∷ ys)) (same_name x y e) (names.first ys)
    go ih false e h = names.later y ys (ih h)

in_of : (x : List ℕ) (ys : List (List ℕ)) → IsAmong x ys → is_in ys x ≡ true
in_of x _ (names.first ys) = rw (its_own x) refl
in_of x _ (names.later y ys h) = go (bytes_eq x y) (in_of x ys h)
  where
    go : (b : Bool) → is_in ys x ≡ true → (b || is_in ys x) ≡ true
    go true e = refl
    go false e = e

not_among : (x : List ℕ) (ys : List (List ℕ)) → is_in ys x ≡ false → IsAmong x ys → ⊥
not_among x ys e h = let q : false ≡ true = sym e ∙ in_of x ys h in absurd (cc)

not_in : (x : List ℕ) (ys : List (List ℕ)) → (IsAmong x ys → ⊥) → is_in ys x ≡ false
not_in x ys never = go (is_in ys x) refl
  where
    go : (b : Bool) → is_in ys x ≡ b → is_in ys x ≡ false
    go true e = absurd (never (among_of x ys e))
    go false e = e

-- the names that mean those of a `for` within these scopes
abbrev pub looped : List NameScope → NameTest
looped [] = nobody
looped (Declaring ys ∷ rest) = all_marked false ys (looped rest)
looped (Looping y ∷ rest) = marked true y (looped rest)

loop_of : (x : List ℕ) (scopes : List NameScope) → looped scopes x ≡ true → IsLoopName x scopes
loop_of x [] h = let q : false ≡ true = h in absurd (cc)
loop_of x (Declaring ys ∷ rest) h = go (loop_of x rest) (is_in ys x) refl h
  where
    go : (looped rest x ≡ true → IsLoopName x rest) → (b : Bool) → is_in ys x ≡ b → cond b false (looped rest x) ≡ true → IsLoopName x (Declaring ys ∷ rest)
    go ih true e h = let q : false ≡ true = h in absurd (cc)
    go ih false e h = names.outside ys rest (not_among x ys e) (ih h)
loop_of x (Looping y ∷ rest) h = go (loop_of x rest) (bytes_eq x y) refl h
  where
    differs : bytes_eq x y ≡ false → x ≡ y → ⊥
    differs e s = let q : false ≡ true = sym e ∙ (bytes_eq-Decides x y).1 s in absurd (cc)

    go : (looped rest x ≡ true → IsLoopName x rest) → (b : Bool) → bytes_eq x y ≡ b → cond b true (looped rest x) ≡ true → IsLoopName x (Looping y ∷ rest)
    go ih true e h = subst (λ (z : List ℕ). IsLoopName x (Looping z ∷ rest)) (same_name x y e) (names.here rest)
    go ih false e h = names.around y rest (differs e) (ih h)

of_loop : (x : List ℕ) (scopes : List NameScope) → IsLoopName x scopes → looped scopes x ≡ true
of_loop x _ (names.here rest) = rw (its_own x) refl
of_loop x _ (names.outside ys rest never h) = rw (not_in x ys never) (of_loop x rest h)
of_loop x _ (names.around y rest never h) = go (bytes_eq x y) (of_loop x rest h)
  where
    go : (b : Bool) → looped rest x ≡ true → cond b true (looped rest x) ≡ true
    go true e = refl
    go false e = e

or_is : (b c : Bool) → cond b true c ≡ (b || c)
or_is true c = refl
or_is false c = refl

-- what was declared behind a statement, as a list and as a test
own_same : (s : StmtTree) (before : List (List ℕ)) → with_own s (is_in before) ≡ is_in (own_name s ++ before)
own_same (tree.let_line at x init) before = fun_ext (λ q. or_is (bytes_eq q x) (is_in before q))
own_same (tree.const_line at x init) before = fun_ext (λ q. or_is (bytes_eq q x) (is_in before q))
own_same (tree.block b) before = refl
own_same (tree.assign at x e) before = refl
own_same (tree.append at name_at x e) before = refl
own_same (tree.print args) before = refl
own_same (tree.if_line arms other) before = refl
own_same (tree.for_line x bound body) before = refl

assigned_of : (b : Bool) (at : ℕ) (f : NameFault) → In f (assigned_at b at) → (b ≡ true) × (f ≡ LoopName at)
assigned_of true at f (inl e) = (refl, e)
assigned_of true at f (inr h) = absurd h
assigned_of false at f h = absurd h

again_of : (b : Bool) (at : ℕ) (f : NameFault) → In f (again_at b at) → (b ≡ true) × (f ≡ Duplicate at)
again_of true at f (inl e) = (refl, e)
again_of true at f (inr h) = absurd h
again_of false at f h = absurd h

-- what is in the list is a fault

again_sound : (s : StmtTree) (scopes : List NameScope) (before : List (List ℕ)) (rest : Stmts) (f : NameFault) → In f (declared_again s (is_in before)) → FaultAmong scopes before (tree.stmt s rest) f
again_sound (tree.let_line at x init) scopes before rest f h =
    let a = again_of (is_in before x) at f h in subst (FaultAmong scopes before (tree.stmt (tree.let_line at x init) rest)) (sym a.1)
    (names.let_again scopes before at x init rest (among_of x before a.0))
again_sound (tree.const_line at x init) scopes before rest f h =
    let a = again_of (is_in before x) at f h in subst (FaultAmong scopes before (tree.stmt (tree.const_line at x init) rest)) (sym a.1)
    (names.const_again scopes before at x init rest (among_of x before a.0))
again_sound (tree.block b) scopes before rest f h = absurd h
again_sound (tree.assign at x e) scopes before rest f h = absurd h
again_sound (tree.append at name_at x e) scopes before rest f h = absurd h
again_sound (tree.print args) scopes before rest f h = absurd h
again_sound (tree.if_line arms other) scopes before rest f h = absurd h
again_sound (tree.for_line x bound body) scopes before rest f h = absurd h

-- those behind a statement
abbrev behind : StmtTree → Stmts → List NameScope → List (List ℕ) → List NameFault
behind s rest scopes before = faults_among rest (looped scopes) (with_own s (is_in before))

mutual
  sound_in : (s : StmtTree) (scopes : List NameScope) (f : NameFault) → In f (faults_in s (looped scopes)) → FaultIn scopes s f
  sound_in (tree.block b) scopes f h = names.inside scopes b f (sound_inside b scopes f h)
  sound_in (tree.let_line at x init) scopes f h = absurd h
  sound_in (tree.const_line at x init) scopes f h = absurd h
  sound_in (tree.assign at x e) scopes f h = let a = assigned_of (looped scopes x) at f h in subst (FaultIn scopes (tree.assign at x e)) (sym a.1) (names.assigned scopes at x e (loop_of x scopes a.0))
  sound_in (tree.append at name_at x e) scopes f h =
      let a = assigned_of (looped scopes x) name_at f h in subst (FaultIn scopes (tree.append at name_at x e)) (sym a.1)
      (names.appended scopes at name_at x e (loop_of x scopes a.0))
  sound_in (tree.print args) scopes f h = absurd h
  sound_in (tree.if_line arms rest) scopes f h =
      either (apart f (faults_in_arms arms (looped scopes)) (faults_inside rest (looped scopes)) h)
      (λ a. names.in_arms scopes arms rest f (sound_arms arms scopes f a)) (λ b. names.in_rest scopes arms rest f (sound_inside rest scopes f b))
  sound_in (tree.for_line x bound body) scopes f h = names.in_loop scopes x bound body f (sound_inside body (Looping x ∷ scopes) f h)

  sound_inside : (b : BlockTree) (scopes : List NameScope) (f : NameFault) → In f (faults_inside b (looped scopes)) → FaultInBlock scopes b f
  sound_inside (block_of ys body) scopes f h = names.among scopes ys body f (sound_among body (Declaring ys ∷ scopes) [] f h)

  sound_arms : (arms : Arms) (scopes : List NameScope) (f : NameFault) → In f (faults_in_arms arms (looped scopes)) → FaultInArms scopes arms f
  sound_arms tree.no_arms scopes f h = absurd h
  sound_arms (tree.arm test body rest) scopes f h =
      either (apart f (faults_inside body (looped scopes)) (faults_in_arms rest (looped scopes)) h)
      (λ a. names.in_first scopes test body rest f (sound_inside body scopes f a)) (λ b. names.in_others scopes test body rest f (sound_arms rest scopes f b))

  pub sound_among : (ss : Stmts) (scopes : List NameScope) (before : List (List ℕ)) (f : NameFault) → In f (faults_among ss (looped scopes) (is_in before)) → FaultAmong scopes before ss f
  sound_among tree.no_stmts scopes before f h = absurd h
  sound_among (tree.stmt s rest) scopes before f h =
      either (apart f (declared_again s (is_in before)) (faults_in s (looped scopes) ++ behind s rest scopes before) h) (again_sound s scopes before rest f)
      (λ more. either (apart f (faults_in s (looped scopes)) (behind s rest scopes before) more) (λ a. names.in_it scopes before s rest f (sound_in s scopes f a))
      (λ b. names.behind_it scopes before s rest f (sound_among rest scopes (own_name s ++ before) f (subst (λ (t : NameTest). In f (faults_among rest (looped scopes) t)) (own_same s before) b))))

-- every fault is in the list

mutual
  complete_in : (s : StmtTree) (scopes : List NameScope) (f : NameFault) → FaultIn scopes s f → In f (faults_in s (looped scopes))
  complete_in _ _ _ (names.inside scopes b f h) = complete_inside b scopes f h
  complete_in _ _ _ (names.assigned scopes at x e h) = rw (of_loop x scopes h) (inl refl)
  complete_in _ _ _ (names.appended scopes at name_at x e h) = rw (of_loop x scopes h) (inl refl)
  complete_in _ _ _ (names.in_arms scopes arms rest f h) = in_left f (faults_in_arms arms (looped scopes)) (faults_inside rest (looped scopes)) (complete_arms arms scopes f h)
  complete_in _ _ _ (names.in_rest scopes arms rest f h) = in_right f (faults_in_arms arms (looped scopes)) (faults_inside rest (looped scopes)) (complete_inside rest scopes f h)
  complete_in _ _ _ (names.in_loop scopes x bound body f h) = complete_inside body (Looping x ∷ scopes) f h

  complete_inside : (b : BlockTree) (scopes : List NameScope) (f : NameFault) → FaultInBlock scopes b f → In f (faults_inside b (looped scopes))
  complete_inside _ _ _ (names.among scopes ys body f h) = complete_among body (Declaring ys ∷ scopes) [] f h

  complete_arms : (arms : Arms) (scopes : List NameScope) (f : NameFault) → FaultInArms scopes arms f → In f (faults_in_arms arms (looped scopes))
  complete_arms _ _ _ (names.in_first scopes test body rest f h) = in_left f (faults_inside body (looped scopes)) (faults_in_arms rest (looped scopes)) (complete_inside body scopes f h)
  complete_arms _ _ _ (names.in_others scopes test body rest f h) = in_right f (faults_inside body (looped scopes)) (faults_in_arms rest (looped scopes)) (complete_arms rest scopes f h)

  pub complete_among : (ss : Stmts) (scopes : List NameScope) (before : List (List ℕ)) (f : NameFault) → FaultAmong scopes before ss f → In f (faults_among ss (looped scopes) (is_in before))
  complete_among _ _ _ _ (names.let_again scopes before at x init rest h) = in_left (Duplicate at) (again_at (is_in before x) at) _ (rw (in_of x before h) (inl refl))
  complete_among _ _ _ _ (names.const_again scopes before at x init rest h) = in_left (Duplicate at) (again_at (is_in before x) at) _ (rw (in_of x before h) (inl refl))
  complete_among _ _ _ _ (names.in_it scopes before s rest f h) =
      in_right f (declared_again s (is_in before)) (faults_in s (looped scopes) ++ behind s rest scopes before)
      (in_left f (faults_in s (looped scopes)) (behind s rest scopes before) (complete_in s scopes f h))
  complete_among _ _ _ _ (names.behind_it scopes before s rest f h) =
      in_right f (declared_again s (is_in before)) (faults_in s (looped scopes) ++ behind s rest scopes before)
      (in_right f (faults_in s (looped scopes)) (behind s rest scopes before)
      (subst (λ (t : NameTest). In f (faults_among rest (looped scopes) t)) (sym (own_same s before)) (complete_among rest scopes (own_name s ++ before) f h)))
