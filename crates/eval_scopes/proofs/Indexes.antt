-- The index of names by their keys.
use Rattle.std.proofs.Common.{arith, ◌≡◌, ℕ, ◌<◌, min, zero, suc, ◌+◌, true, false, Bool, List, [], ◌∷◌, ◌++◌, length, length-append, map, refl, ap, sym, ◌∙◌}
use Rattle.std.proofs.Common.{subst, if◌then◌else◌, Option, Some, None, option_map, slice_get, get_or, bytes_eq, ◌⊎◌, inl, inr}
use Rattle.std.specs.Prelude.{IsSome, MatchOption}
use Rattle.std.specs.Ordering.{nat_cmp}
use Rattle.std.specs.Map.{lookup}
use Rattle.std.specs.BTreeMap.{is_at}
use Rattle.std.proofs.lemmas.Bool.Decides.{leb_tells}
use Rattle.std.proofs.lemmas.List.{map-append, length-map}
use Rattle.std.proofs.lemmas.Slice.Eq.{bytes_eq-Decides}
use Rattle.eval_tree.specs.Keys.{key_of}
use Rattle.eval_scopes.specs.declared.binding_list.Binding.{Binding}
use Rattle.eval_scopes.specs.Bindings.{Bound, bound_in, is_among}
use Rattle.eval_scopes.specs.Seen.{bounds_of, put, IsAt}
use Rattle.eval_scopes.specs.Index.{few, binding_names, NoneBefore, StandFrom, IsIndexTo, IsIndex, NoneAmong, NoneNamed}
use Rattle.eval_scopes.proofs.Places.{none_at, get_at}

-- a place that has a name
got_within : {X : Type 0} (xs : List X) (j : ℕ) (x : X) → slice_get xs j ≡ Some x → j < length xs
got_within [] j x e = cc
got_within (y ∷ xs) zero x e = omega arith
got_within (y ∷ xs) (suc j) x e = omega (arith, got_within xs j x e)

-- one more name has its place
next_stands : (ns : List (List ℕ)) (n : List ℕ) (k m : ℕ) (o : Option ℕ) → slice_get ns m ≡ Some n → (key_of n ≡ k → IsSome o ⊎ (m < few)) → StandFrom ns k m o → StandFrom ns k (m + 1) o
next_stands ns n k m (Some i) e s h = h
next_stands ns n k m None e s h = λ j x f l g q. elim (leb_tells m j) [
  | inr p ↦ h j x f p.1 g q
  | inl p ↦ (
      let same : j ≡ m = omega (arith, l, p.1) in
      let there : slice_get ns m ≡ Some x = subst (λ (i : ℕ). slice_get ns i ≡ Some x) same g in
      let one : n ≡ x = cc (e, there) in
      elim (s (ap key_of one ∙ q)) [ inl t ↦ (let no : false ≡ true = t in cc) | inr t ↦ absurd (omega (arith, f, same, t)) ])
]

pub index_next : (first : List (ℕ × ℕ)) (ns : List (List ℕ)) (n : List ℕ) (m : ℕ) → slice_get ns m ≡ Some n → IsSome
    (lookup (is_at (nat_cmp (key_of n))) first) ⊎ (m < few) → IsIndexTo first ns m → IsIndexTo first ns (m + 1)
index_next first ns n m e s h = λ k. next_stands ns n k m (lookup (is_at (nat_cmp k)) first) e (λ q. subst (λ (i : ℕ). IsSome (lookup (is_at (nat_cmp i)) first) ⊎ (m < few)) q s) (h k)

-- a name behind others
pub front_get : (ns : List (List ℕ)) (n m : List ℕ) (j : ℕ) → j < length ns → slice_get (ns ++ n ∷ []) j ≡ Some m → slice_get ns j ≡ Some m
front_get [] n m j l e = absurd (omega (arith, l))
front_get (x ∷ ns) n m zero l e = e
front_get (x ∷ ns) n m (suc j) l e = front_get ns n m j (omega (arith, l)) e

pub last_get : (ns : List (List ℕ)) (n : List ℕ) → slice_get (ns ++ n ∷ []) (length ns) ≡ Some n
last_get [] n = refl
last_get (x ∷ ns) n = last_get ns n

longer_stands : (ns : List (List ℕ)) (n : List ℕ) (k : ℕ) (o : Option ℕ) → StandFrom ns k (length ns) o → StandFrom (ns ++ n ∷ []) k (length ns) o
longer_stands ns n k (Some i) h = (omega (arith, h.0, length-append ns (n ∷ [])), λ j m f l e q. h.1 j m f l (front_get ns n m j (omega (arith, l, h.0)) e) q)
longer_stands ns n k None h = λ j m f l e q. h j m f l (front_get ns n m j l e) q

pub index_push : (first : List (ℕ × ℕ)) (ns : List (List ℕ)) (n : List ℕ) → IsSome (lookup (is_at (nat_cmp (key_of n))) first) ⊎ (length ns < few) → IsIndex first ns → IsIndex first (ns ++ n ∷ [])
index_push first ns n s h =
    let more : IsIndexTo first (ns ++ n ∷ []) (length ns + 1) = index_next first (ns ++ n ∷ []) n (length ns) (last_get ns n) s (λ k. longer_stands ns n k (lookup (is_at (nat_cmp k)) first) (h k)) in
    subst (λ (m : ℕ). IsIndexTo first (ns ++ n ∷ []) m) (sym (length-append ns (n ∷ []))) more

-- names that are told apart by their key
pub false_unless : (b : Bool) → (b ≡ true → ⊥) → b ≡ false
false_unless true h = absurd (h refl)
false_unless false h = refl

-- none of the first few is the name, and none of those behind them has its key
none_to : (ns : List (List ℕ)) (x : List ℕ) (k f i : ℕ) → k ≡ key_of x → f ≡ min few (length ns) → NoneAmong ns x f → NoneBefore ns k i → NoneAmong ns x i
none_to ns x k f i e m h b = λ j n l g. elim (leb_tells f j) [
  | inr p ↦ h j n p.1 g
  | inl p ↦ false_unless (bytes_eq n x) (λ t. b j n (omega (arith, m, p.1, got_within ns j n g)) l g (ap key_of ((bytes_eq-Decides n x).0 t) ∙ sym e))
]

-- what the index says of a name whose key is k, where none of the first few is the name
pub start_at : (first : List (ℕ × ℕ)) (ns : List (List ℕ)) (x : List ℕ) (k f i : ℕ) → k ≡ key_of x → f ≡ min few (length ns) → NoneAmong ns
    x f → IsIndex first ns → Some i ≡ lookup (is_at (nat_cmp k)) first → NoneAmong ns x i
start_at first ns x k f i e m h b s =
    let t : StandFrom ns k (length ns) (Some i) = subst (λ (o : Option ℕ). StandFrom ns k (length ns) o) (sym s) (b k) in
    none_to ns x k f i e m h t.1

pub no_start_at : (first : List (ℕ × ℕ)) (ns : List (List ℕ)) (x : List ℕ) (k f : ℕ) → k ≡ key_of x → f ≡ min few (length ns) → NoneAmong ns
    x f → IsIndex first ns → None ≡ lookup (is_at (nat_cmp k)) first → NoneAmong ns x (length ns)
no_start_at first ns x k f e m h b s =
    let t : StandFrom ns k (length ns) None = subst (λ (o : Option ℕ). StandFrom ns k (length ns) o) (sym s) (b k) in
    none_to ns x k f (length ns) e m h t

or_later : (a b : Bool) → b ≡ true → (if a then true else b) ≡ true
or_later true b e = refl
or_later false b e = e

-- a name among names
pub among_at : (ns : List (List ℕ)) (x n : List ℕ) (i : ℕ) → slice_get ns i ≡ Some n → bytes_eq n x ≡ true → is_among ns x ≡ true
among_at [] x n i e t = cc
among_at (m ∷ ns) x n zero e t = let same : m ≡ n = cc e in rw (ap (λ (q : List ℕ). bytes_eq q x) same ∙ t) refl
among_at (m ∷ ns) x n (suc i) e t = or_later (bytes_eq m x) (is_among ns x) (among_at ns x n i e t)

pub none_among : (ns : List (List ℕ)) (x : List ℕ) → NoneAmong ns x (length ns) → is_among ns x ≡ false
none_among [] x h = refl
none_among (n ∷ ns) x h = rw (h 0 n (omega arith) refl) (none_among ns x (λ j m l e. h (suc j) m (omega (arith, l)) e))

pub decided : (r b : Bool) → (r ≡ true → b ≡ true) → (r ≡ false → b ≡ false) → r ≡ b
decided true b t f = sym (t refl)
decided false b t f = sym (f refl)

-- a name that is looked at
pub name_found : (ns : List (List ℕ)) (x n : List ℕ) (i : ℕ) → i < length ns → n ≡ get_or ns i n → bytes_eq n x ≡ true → is_among ns x ≡ true
name_found ns x n i l p e = among_at ns x n i (get_at ns i n l p) e

-- the names of bindings
pub names_get : {T : Type 0} (bs : List (Binding T)) (j : ℕ) (c : Binding T) → slice_get bs j ≡ Some c → slice_get (binding_names bs) j ≡ Some c.name
names_get [] j c e = cc
names_get {T} (b ∷ bs) zero c e = ap (λ (o : Option (Binding T)). option_map (λ d. d.name) o) e
names_get (b ∷ bs) (suc j) c e = names_get bs j c e

named_get : {T : Type 0} (bs : List (Binding T)) (j : ℕ) (n : List ℕ) → slice_get (binding_names bs) j ≡ Some n → (c : Binding T) × (slice_get bs j ≡ Some c) × (c.name ≡ n)
named_get [] j n e = cc
named_get (b ∷ bs) zero n e = (b, refl, cc e)
named_get (b ∷ bs) (suc j) n e = named_get bs j n e

pub among_names : {T : Type 0} (bs : List (Binding T)) (x : List ℕ) (i : ℕ) → NoneNamed bs x i → NoneAmong (binding_names bs) x i
among_names bs x i h = λ j n l e. let t = named_get bs j n e in subst (λ (q : List ℕ). bytes_eq q x ≡ false) t.2 (h j t.0 l t.1)

pub named_among : {T : Type 0} (bs : List (Binding T)) (x : List ℕ) (i : ℕ) → NoneAmong (binding_names bs) x i → NoneNamed bs x i
named_among bs x i h = λ j c l e. h j c.name l (names_get bs j c e)

pub few_names : {T : Type 0} (bs : List (Binding T)) (f : ℕ) → f ≡ min few (length bs) → f ≡ min few (length (binding_names bs))
few_names bs f e = e ∙ ap (λ q. min few q) (sym (length-map bs (λ b. b.name)))

pub binding_start : {T : Type 0} (first : List (ℕ × ℕ)) (bs : List (Binding T)) (x : List ℕ) (k f i : ℕ) → k ≡ key_of x → f ≡ min few
    (length bs) → NoneNamed bs x f → IsIndex first (binding_names bs) → Some i ≡ lookup (is_at (nat_cmp k)) first → NoneNamed bs x i
binding_start first bs x k f i e m h b s = named_among bs x i (start_at first (binding_names bs) x k f i e (few_names bs f m) (among_names bs x f h) b s)

pub found_or_none : {T : Type 0} (r : Option ℕ) (bs : List (Binding T)) (x : List ℕ) (n : ℕ) → n ≡ length bs → MatchOption r
    (NoneNamed bs x n) (λ i. IsAt (bounds_of bs) x i) → MatchOption r (bound_in (bounds_of bs) x ≡ None) (λ i. IsAt (bounds_of bs) x i)
found_or_none None bs x n e h = none_at bs x (subst (λ (q : ℕ). NoneNamed bs x q) e h)
found_or_none (Some i) bs x n e h = h

pub no_binding_start : {T : Type 0} (first : List (ℕ × ℕ)) (bs : List (Binding T)) (x : List ℕ) (k f : ℕ) → k ≡ key_of x → f ≡ min few
    (length bs) → NoneNamed bs x f → IsIndex first (binding_names bs) → None ≡ lookup (is_at (nat_cmp k)) first → bound_in (bounds_of bs) x ≡ None
no_binding_start first bs x k f e m h b s =
    let none : NoneAmong (binding_names bs) x (length (binding_names bs)) = no_start_at first (binding_names bs) x k f e (few_names bs f m) (among_names bs x f h) b s in
    none_at bs x (named_among bs x (length bs) (subst (λ (q : ℕ). NoneAmong (binding_names bs) x q) (length-map bs (λ b. b.name)) none))

-- another value for a binding changes no name
pub bounds_names : {T : Type 0} (bs : List (Binding T)) → binding_names bs ≡ map (λ b. b.name) (bounds_of bs)
bounds_names [] = refl
bounds_names (b ∷ bs) = ap (λ q. b.name ∷ q) (bounds_names bs)

put_names : {T : Type 0} (bs : List (Bound T)) (i : ℕ) (v : T) → map (λ b. b.name) (put bs i v) ≡ map (λ b. b.name) bs
put_names [] i v = refl
put_names (b ∷ bs) zero v = refl
put_names (b ∷ bs) (suc i) v = ap (λ q. b.name ∷ q) (put_names bs i v)

pub names_put : {T : Type 0} (bs cs : List (Binding T)) (i : ℕ) (v : T) → bounds_of cs ≡ put (bounds_of bs) i v → binding_names cs ≡ binding_names bs
names_put {T} bs cs i v e = bounds_names cs ∙ (ap (λ (q : List (Bound T)). map (λ b. b.name) q) e ∙ (put_names (bounds_of bs) i v ∙ sym (bounds_names bs)))

pub names_push : {T : Type 0} (bs : List (Binding T)) (b : Binding T) → binding_names (bs ++ b ∷ []) ≡ binding_names bs ++ b.name ∷ []
names_push bs b = map-append (λ c. c.name) bs (b ∷ [])
