-- The blocks that were entered, in front of those that were left.
use Rattle.eval_scopes.specs.Changes.{all_but_first}
use Rattle.std.proofs.Common.{arith, ◌≡◌, ℕ, ◌+◌, ◌-◌, ◌<◌, ◌≤◌, zero, suc, true, false, List, [], ◌∷◌, ◌++◌, length, map, refl, ap, sym, ◌∙◌, subst, get_or, set, take, bytes_eq, reverse}
use Rattle.std.specs.Prelude.{OnOk, OnErr, Result}
use Rattle.std.proofs.lemmas.Slice.Eq.{bytes_eq-Decides}
use Rattle.eval_scopes.specs.declared.binding_list.Binding.{Binding}
use Rattle.eval_scopes.specs.declared.frames.Frame.{Frame as CodeFrame}
use Rattle.eval_scopes.specs.Bindings.{Bound, BlockFrame, declare}
use Rattle.eval_scopes.specs.Seen.{bounds_of, frame_of, frames_of, outsides_of, hollows, with_hollows, stacked, put_in, InBlock, IsOnly}
use Rattle.eval_scopes.proofs.Hollows.{stacked_behind, stacked_declared, stacked_same}
use Rattle.eval_scopes.proofs.Places.{take_split, declare_on, declare_kept}

-- the first n of a list
pub map_taken : {X Y : Type 0} (f : X → Y) (n : ℕ) (xs : List X) → map f (take n xs) ≡ take n (map f xs)
map_taken f zero xs = refl
map_taken f (suc n) [] = refl
map_taken f (suc n) (x ∷ xs) = ap (λ q. f x ∷ q) (map_taken f n xs)

pub length_taken : {X : Type 0} (n : ℕ) (xs : List X) → n ≤ length xs → length (take n xs) ≡ n
length_taken zero xs l = refl
length_taken (suc n) [] l = absurd (omega (arith, l))
length_taken (suc n) (x ∷ xs) l = ap (λ q. suc q) (length_taken n xs (omega (arith, l)))

pub set_taken : {X : Type 0} (n : ℕ) (xs : List X) (k : ℕ) (y : X) → take n (set xs k y) ≡ set (take n xs) k y
set_taken zero xs k y = refl
set_taken (suc n) [] k y = refl
set_taken (suc n) (x ∷ xs) zero y = refl
set_taken (suc n) (x ∷ xs) (suc k) y = ap (λ q. x ∷ q) (set_taken n xs k y)

pub get_taken : {X : Type 0} (n : ℕ) (xs : List X) (k : ℕ) (y : X) → k < n → get_or (take n xs) k y ≡ get_or xs k y
get_taken zero xs k y l = absurd (omega (arith, l))
get_taken (suc n) [] k y l = refl
get_taken (suc n) (x ∷ xs) zero y l = refl
get_taken (suc n) (x ∷ xs) (suc k) y l = get_taken n xs k y (omega (arith, l))

pub kept_before : {X : Type 0} (xs : List X) (k : ℕ) (y : X) → take k (set xs k y) ≡ take k xs
kept_before xs zero y = refl
kept_before [] (suc k) y = refl
kept_before (x ∷ xs) (suc k) y = ap (λ q. x ∷ q) (kept_before xs k y)

-- another value in a block that was entered
pub in_taken : {T : Type 0} (n : ℕ) (fs : List (CodeFrame T)) (k i : ℕ) → InBlock (take n fs) k i → InBlock fs k i
in_taken zero fs k i h = absurd h
in_taken (suc n) [] k i h = absurd h
in_taken (suc n) (f ∷ fs) zero i h = h
in_taken (suc n) (f ∷ fs) (suc k) i h = in_taken n fs k i h

put_taken : {T : Type 0} (n : ℕ) (fs : List (BlockFrame T)) (k i : ℕ) (v : T) → take n (put_in fs k i v) ≡ put_in (take n fs) k i v
put_taken zero fs k i v = refl
put_taken (suc n) [] k i v = refl
put_taken (suc n) (f ∷ fs) zero i v = refl
put_taken (suc n) (f ∷ fs) (suc k) i v = ap (λ q. f ∷ q) (put_taken n fs k i v)

pub put_stacked : {T : Type 0} (n : ℕ) (fs gs : List (CodeFrame T)) (k i : ℕ) (v : T) → map frame_of gs ≡ put_in (map frame_of fs) k i v →
    map frame_of (take n gs) ≡ put_in (map frame_of (take n fs)) k i v
put_stacked n fs gs k i v e = map_taken frame_of n gs ∙ (ap (λ q. take n q) e ∙ (put_taken n (map frame_of fs) k i v ∙ ap (λ q. put_in q k i v) (sym (map_taken frame_of n fs))))

-- a block with another binding stays inside as many
pub outsides_kept : {T : Type 0} (fs : List (CodeFrame T)) (k : ℕ) (f g : CodeFrame T) → k < length fs → f ≡ get_or fs k f → g.outside ≡
    f.outside → map (λ (h : CodeFrame T). h.outside) (set fs k g) ≡ map (λ (h : CodeFrame T). h.outside) fs
outsides_kept [] k f g l p e = absurd (omega (arith, l))
outsides_kept {T} (h ∷ fs) zero f g l p e = ap (λ q. q ∷ map (λ (h : CodeFrame T). h.outside) fs) (e ∙ ap (λ (q : CodeFrame T). q.outside) p)
outsides_kept (h ∷ fs) (suc k) f g l p e = ap (λ q. h.outside ∷ q) (outsides_kept fs k f g (omega (arith, l)) p e)

outsides_taken : {T : Type 0} (n : ℕ) (fs gs : List (CodeFrame T)) → map (λ (h : CodeFrame T). h.outside) gs ≡ map
    (λ (h : CodeFrame T). h.outside) fs → outsides_of (take n gs) ≡ outsides_of (take n fs)
outsides_taken {T} n fs gs e =
    let of : CodeFrame T → ℕ = λ h. h.outside in
    ap (λ q. reverse q) (map_taken of n gs ∙ (ap (λ q. take n q) e ∙ sym (map_taken of n fs)))

pub put_in_stack : {T : Type 0} (n : ℕ) (fs gs : List (CodeFrame T)) (k i : ℕ) (v : T) → map frame_of gs ≡ put_in (map frame_of fs) k i
    v → map (λ (h : CodeFrame T). h.outside) gs ≡ map (λ (h : CodeFrame T). h.outside) fs → stacked (take n gs) ≡ with_hollows
    (outsides_of (take n fs)) (reverse (put_in (map frame_of (take n fs)) k i v))
put_in_stack n fs gs k i v p e =
    ap (λ q. with_hollows q (frames_of (take n gs))) (outsides_taken n fs gs e)
    ∙ ap (λ q. with_hollows (outsides_of (take n fs)) (reverse q)) (put_stacked n fs gs k i v p)

-- one more binding of the block that was entered last
pub declare_taken : {T E : Type 0} (r : Result (Unit {0}) E) (fs : List (CodeFrame T)) (k : ℕ) (f g : CodeFrame T) (b : Bound T) → k <
    length fs → f ≡ get_or fs k f → g.names ≡ f.names → g.outside ≡ f.outside → OnOk r
    (bounds_of g.bound ≡ bounds_of f.bound ++ b ∷ []) → OnOk r ((top : List (Bound T)) → record {
      blocks = stacked
          (take (k + 1) (set fs k g));
      top = top;
    } ≡ declare (stacked (take (k + 1) fs)) top b)
declare_taken {T} r fs k f g b l p m o e =
    stacked_declared r (take (k + 1) fs) (take (k + 1) (set fs k g)) b (outsides_taken (k + 1) fs (set fs k g) (outsides_kept fs k f g l p o))
    (subst (λ (q : List (CodeFrame T)). OnOk r ((top : List (Bound T)) → record { blocks = frames_of q; top = top } ≡ declare (frames_of (take (k + 1) fs)) top b)) (sym (set_taken (k + 1) fs k g))
    (declare_on r (take (k + 1) fs) k f g b (length_taken (k + 1) fs (omega (arith, l))) (p ∙ sym (get_taken (k + 1) fs k f (omega arith))) m e))

pub declare_taken_kept : {T E : Type 0} (r : Result (Unit {0}) E) (fs : List (CodeFrame T)) (k : ℕ) (f g : CodeFrame T) → k < length fs → f
    ≡ get_or fs k f → g.names ≡ f.names → g.outside ≡ f.outside → OnErr r (g.bound ≡ f.bound) → OnErr r
    (stacked (take (k + 1) (set fs k g)) ≡ stacked (take (k + 1) fs))
declare_taken_kept {T} r fs k f g l p m o e =
    stacked_same r (take (k + 1) fs) (take (k + 1) (set fs k g)) (outsides_taken (k + 1) fs (set fs k g) (outsides_kept fs k f g l p o))
    (subst (λ (q : List (CodeFrame T)). OnErr r (frames_of q ≡ frames_of (take (k + 1) fs))) (sym (set_taken (k + 1) fs k g))
    (declare_kept r (take (k + 1) fs) k f g (length_taken (k + 1) fs (omega (arith, l))) (p ∙ sym (get_taken (k + 1) fs k f (omega arith))) m e))

-- the block that comes next
pub set_next : {X : Type 0} (xs : List X) (k : ℕ) (y : X) → k < length xs → take (suc k) (set xs k y) ≡ take k xs ++ y ∷ []
set_next [] k y l = absurd (omega (arith, l))
set_next (x ∷ xs) zero y l = refl
set_next (x ∷ xs) (suc k) y l = ap (λ q. x ∷ q) (set_next xs k y (omega (arith, l)))

pub entered_on : {T : Type 0} (fs : List (CodeFrame T)) (k : ℕ) (g : CodeFrame T) (f : BlockFrame T) (n : ℕ) → k < length fs → frame_of g ≡
    f → g.outside ≡ n → stacked (take (k + 1) (set fs k g)) ≡ f ∷ hollows n (stacked (take k fs))
entered_on {T} fs k g f n l e o =
    let m : k + 1 ≡ suc k = omega arith in
    ap (λ (q : ℕ). stacked (take q (set fs k g))) m
    ∙ (ap stacked (set_next fs k g l)
    ∙ (stacked_behind (take k fs) g
    ∙ (ap (λ (q : BlockFrame T). q ∷ hollows g.outside (stacked (take k fs))) e ∙ ap (λ q. f ∷ hollows q (stacked (take k fs))) o)))

-- the innermost block that has a frame is left
pub left_one : {T : Type 0} (fs : List (CodeFrame T)) (n : ℕ) (f : CodeFrame T) → 0 < n → n ≤ length fs → f ≡ get_or fs (n - 1) f → hollows
    f.outside (stacked (take (n - 1) fs)) ≡ all_but_first (stacked (take n fs))
left_one fs n f z l p =
    let k = n - 1 in
    let e : n ≡ suc k = omega (arith, z) in
    sym (ap (λ (q : ℕ). all_but_first (stacked (take q fs))) e
    ∙ (ap (λ q. all_but_first (stacked q)) (take_split fs k f (omega (arith, z, l)) p)
    ∙ ap all_but_first (stacked_behind (take k fs) f)))

-- a turn's one binding
pub only_one : {T : Type 0} (bs : List (Binding T)) (b : Binding T) (x : List ℕ) → length bs ≡ 1 → b ≡ get_or bs 0 b → b.constant ≡ false → bytes_eq b.name x ≡ true → IsOnly (bounds_of bs) x
only_one [] b x l p k e = absurd (omega (arith, l))
only_one {T} (c ∷ []) b x l p k e =
    let n : c.name ≡ x = ap (λ (q : Binding T). q.name) (sym p) ∙ (bytes_eq-Decides b.name x).0 e in
    let m : c.constant ≡ false = ap (λ (q : Binding T). q.constant) (sym p) ∙ k in
    record { within = omega arith; again = λ v. cc (n, m) }
only_one (c ∷ d ∷ bs) b x l p k e = absurd (omega (arith, l))
