-- Tests for names, with other answers for some.
use Rattle.std.proofs.Common.{◌≡◌, ℕ, ◌+◌, ◌<◌, Bool, true, false, cond, not, ◌||◌, List, [], ◌∷◌, ◌++◌, length, get_or, drop, add-one, drop-cons, refl, sym, ap, ◌∙◌, Bor}
use Rattle.std.specs.List.{list_any}
use Rattle.std.specs.Str.{bytes_eq}
use Rattle.std.specs.Ordering.{nat_cmp}
use Rattle.std.specs.Cmp.Lexicographic.{slice_cmp}
use Rattle.std.specs.BTreeMap.{is_at}
use Rattle.std.specs.BTreeSet.{BTreeSet, UpdatesBy}
use Rattle.std.proofs.lemmas.Bool.Decides.{same_from_decides}
use Rattle.std.proofs.lemmas.List.{map_push}
use Rattle.std.proofs.lemmas.List.Folds.{list_any-append}
use Rattle.std.proofs.lemmas.Map.Text.{is_eq-slice_cmp}
use Rattle.std.proofs.lemmas.Slice.Eq.{bytes_eq-Decides}
use mathlib.Core.Path.{fun_ext}
use Rattle.js_parse.specs.NameFaults.{NameTest, nobody, marked, all_marked}
use Rattle.js_parse.specs.NameWalk.{has_letters, letters_of}

pub drop_is : {X : Type 0} (xs : List X) (i : ℕ) (x : X) → i < length xs → x ≡ get_or xs i x → drop i xs ≡ x ∷ drop (i + 1) xs
drop_is xs i x h e = rw (add-one, drop-cons xs i x) (cc (sym e))

eq_swaps : (x y : List ℕ) → bytes_eq x y ≡ bytes_eq y x
eq_swaps x y = same_from_decides (bytes_eq x y) (bytes_eq y x) (bytes_eq-Decides x y) (λ e. sym ((bytes_eq-Decides y x).0 e), λ e. (bytes_eq-Decides y x).1 (sym e))

-- a set that has none, or one name more or less

pub empty_has : (s : BTreeSet (Bor (List ℕ))) → s.keys ≡ [] → has_letters s ≡ nobody
empty_has s e = fun_ext (λ q. ap (λ ks. list_any (is_at (λ k. slice_cmp nat_cmp q k.now)) ks) e)

pub updated : (x : List ℕ) (s n : BTreeSet (Bor (List ℕ))) (b : Bool) → UpdatesBy (λ u v. slice_cmp nat_cmp u.now v.now)
    (λ k. slice_cmp nat_cmp x k.now) s n b → has_letters n ≡ marked b x (has_letters s)
updated x s n b h = fun_ext (λ q. h.0 (record { ref_ptr = (0, 0); now = q }) ∙ ap (λ t. cond t b (has_letters s q)) (is_eq-slice_cmp x q ∙ eq_swaps x q))

-- names one by one

one_by_one : (e r b t : Bool) → cond (e || r) b t ≡ cond r b (cond e b t)
one_by_one true true b t = refl
one_by_one true false b t = refl
one_by_one false r b t = refl

one_more : (b : Bool) (x : List ℕ) (rest : List (List ℕ)) (test : NameTest) → all_marked b (x ∷ rest) test ≡ all_marked b rest (marked b x test)
one_more b x rest test = fun_ext (λ q. one_by_one (bytes_eq q x) (list_any (bytes_eq q) rest) b (test q))

pub turn : (b : Bool) (names : List (List ℕ)) (i : ℕ) (x : List ℕ) (test new : NameTest) → i < length names → x ≡ get_or names i x → new ≡
    marked b x test → all_marked b (drop (i + 1) names) new ≡ all_marked b (drop i names) test
turn b names i x test new lt is e =
    ap (λ t. all_marked b (drop (i + 1) names) t) e
    ∙ sym (one_more b x (drop (i + 1) names) test)
    ∙ ap (λ ns. all_marked b ns test) (sym (drop_is names i x lt is))

pub turn_refs : (refs : List (Bor (List ℕ))) (i : ℕ) (d : Bor (List ℕ)) (test new : NameTest) → i < length refs → new ≡ marked true
    (get_or refs i d).now test → all_marked true (letters_of (drop (i + 1) refs)) new ≡ all_marked true (letters_of (drop i refs)) test
turn_refs refs i d test new lt e =
    let first : drop i refs ≡ get_or refs i d ∷ drop (i + 1) refs = rw (add-one, drop-cons refs i d) refl in
    ap (λ t. all_marked true (letters_of (drop (i + 1) refs)) t) e
    ∙ sym (one_more true (get_or refs i d).now (letters_of (drop (i + 1) refs)) test)
    ∙ ap (λ ns. all_marked true (letters_of ns) test) (sym first)

-- hidden names

hidden_one : (h e t : Bool) → (e ≡ true → t ≡ true) → cond (h || (e || false)) true (cond e false t) ≡ cond h true t
hidden_one true e t f = refl
hidden_one false true t f = sym (f refl)
hidden_one false false t f = refl

hidden_none : (h e t : Bool) → (e ≡ true → t ≡ false) → cond h true (cond e false t) ≡ cond h true t
hidden_none true e t f = refl
hidden_none false true t f = sym (f refl)
hidden_none false false t f = refl

same_at : (test : NameTest) (x q : List ℕ) (b : Bool) → test x ≡ b → bytes_eq q x ≡ true → test q ≡ b
same_at test x q b h e = ap test ((bytes_eq-Decides q x).0 e) ∙ h

pub hidden_more : (refs more : List (Bor (List ℕ))) (x : Bor (List ℕ)) (test new : NameTest) → more ≡ refs ++ x ∷ [] → test x.now ≡ true →
    new ≡ marked false x.now test → all_marked true (letters_of more) new ≡ all_marked true (letters_of refs) test
hidden_more refs more x test new m h e =
    ap (λ t. all_marked true (letters_of more) t) e
    ∙ ap (λ ns. all_marked true ns (marked false x.now test)) (ap letters_of m ∙ map_push (λ k. k.now) refs x)
    ∙ fun_ext (λ q.
    ap (λ b. cond b true (cond (bytes_eq q x.now) false (test q))) (list_any-append (bytes_eq q) (letters_of refs) (x.now ∷ []))
    ∙ hidden_one (list_any (bytes_eq q) (letters_of refs)) (bytes_eq q x.now) (test q) (same_at test x.now q true h))

pub hidden_same : (names : List (List ℕ)) (x : List ℕ) (test new : NameTest) → test x ≡ false → new ≡ marked false x test → all_marked true names new ≡ all_marked true names test
hidden_same names x test new h e =
    ap (λ t. all_marked true names t) e
    ∙ fun_ext (λ q. hidden_none (list_any (bytes_eq q) names) (bytes_eq q x) (test q) (same_at test x q false h))

-- a name that was put in is taken out where it was new

put_twice : (e t : Bool) → (e ≡ true → t ≡ true) → cond e true t ≡ t
put_twice true t f = sym (f refl)
put_twice false t f = refl

in_and_out : (e t : Bool) → (e ≡ true → t ≡ false) → cond e false (cond e true t) ≡ t
in_and_out true t f = sym (f refl)
in_and_out false t f = refl

pub left_again : (test inside after : NameTest) (x : List ℕ) (new : Bool) → new ≡ not (test x) → inside ≡ marked true x test → after ≡ cond new (marked false x inside) inside → after ≡ test
left_again test inside after x new n i a = go (test x) refl
  where
    go : (b : Bool) → test x ≡ b → after ≡ test
    go true h =
        a ∙ ap (λ d. cond d (marked false x inside) inside) (n ∙ ap not h) ∙ i ∙ fun_ext (λ q. put_twice (bytes_eq q x) (test q) (same_at test x q true h))
    go false h =
        a ∙ ap (λ d. cond d (marked false x inside) inside) (n ∙ ap not h) ∙ ap (λ t. marked false x t) i ∙ fun_ext (λ q. in_and_out (bytes_eq q x) (test q) (same_at test x q false h))
