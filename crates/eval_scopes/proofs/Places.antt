-- Where a name stands.
use Rattle.eval_scopes.specs.Changes.{with_bound}
use Rattle.std.proofs.Common.{arith, ◌≡◌, ℕ, ◌+◌, ◌<◌, zero, suc, true, false, List, [], ◌∷◌, length, map, refl, ap, sym, ◌∙◌, subst, Some, None, slice_get}
use Rattle.std.proofs.Common.{get_or, set, take, drop, reverse, ◌++◌, append_assoc, bytes_eq, inl, inr}
use Rattle.std.proofs.Math.ListN.{drop_of_length-le}
use Rattle.std.proofs.Math.Seq.{take-length}
use Rattle.std.proofs.lemmas.Bool.Decides.{leb_tells}
use Rattle.std.proofs.lemmas.List.{map-append, reverse-append, append-nil, length-map}
use Rattle.eval_scopes.specs.declared.binding_list.Binding.{Binding}
use Rattle.std.specs.Prelude.{OnOk, OnErr, Result, Ok, Err}
use Rattle.eval_scopes.specs.declared.frames.Frame.{Frame as CodeFrame}
use Rattle.eval_scopes.specs.declared.scope.Scope.{Scope}
use Rattle.eval_scopes.specs.declared.scope.Place.TheVariants.{Top, Block}
use Rattle.eval_scopes.specs.Bindings.{Bound, BlockFrame, Bindings, bound_in, changed, is_among, look, write, inside, declare}
use Rattle.eval_scopes.specs.Seen.{bound_of, bounds_of, frame_names, frame_of, frames_of, outsides_of, blocks_of, IsPlace, IsAt, put, put_in, frame_bound, InBlock}
use Rattle.eval_scopes.proofs.Hollows.{hollowed, spread, look_blocks, write_blocks}

front : {T : Type 0} (b : Bound T) (bs : List (Bound T)) (x : List ℕ) → bytes_eq b.name x ≡ true → IsAt (b ∷ bs) x 0
front b bs x e = record { within = omega arith; reads = rw e refl; writes = λ v. rw e refl }

later : {T : Type 0} (b : Bound T) (bs : List (Bound T)) (x : List ℕ) (i : ℕ) → bytes_eq b.name x ≡ false → IsAt bs x i → IsAt (b ∷ bs) x (suc i)
later b bs x i e h = record { within = omega (arith, h.within); reads = rw e h.reads; writes = λ v. rw e (ap (λ q. b ∷ q) (h.writes v)) }

-- the first binding of a name
pub first_at : {T : Type 0} (bs : List (Binding T)) (x : List ℕ) (i : ℕ) (b : Binding T) → i < length bs → b ≡ get_or bs i b → bytes_eq
    b.name x ≡ true → ((k : ℕ) (c : Binding T) → k < i → slice_get bs k ≡ Some c → bytes_eq c.name x ≡ false) → IsAt (bounds_of bs) x i
first_at {T} [] x i b l p e h = absurd (omega (arith, l))
first_at {T} (c ∷ bs) x zero b l p e h = front (bound_of c) (bounds_of bs) x (subst (λ (q : Binding T). bytes_eq q.name x ≡ true) p e)
first_at {T} (c ∷ bs) x (suc i) b l p e h = later (bound_of c) (bounds_of bs) x i (h 0 c (omega arith) refl) (first_at bs x i b (omega (arith, l)) p e (λ k d m q. h (suc k) d (omega (arith, m)) q))

pub none_at : {T : Type 0} (bs : List (Binding T)) (x : List ℕ) → ((k : ℕ) (c : Binding T) → k < length bs → slice_get bs k ≡ Some c → bytes_eq c.name x ≡ false) → bound_in (bounds_of bs) x ≡ None
none_at [] x h = refl
none_at (c ∷ bs) x h = rw (h 0 c (omega arith) refl) (none_at bs x (λ k d m q. h (suc k) d (omega (arith, m)) q))

-- a value that is written to one binding
pub put_is : {T : Type 0} (bs : List (Binding T)) (i : ℕ) (v : T) (b : Binding T) → i < length bs → b ≡ get_or bs i b → bounds_of (set bs i (record b { value = v })) ≡ put (bounds_of bs) i v
put_is [] i v b l p = absurd (omega (arith, l))
put_is (c ∷ bs) zero v b l p = cc p
put_is (c ∷ bs) (suc i) v b l p = ap (λ q. bound_of c ∷ q) (put_is bs i v b (omega (arith, l)) p)

-- a binding of a block
pub in_block : {T : Type 0} (fs : List (CodeFrame T)) (k i : ℕ) → InBlock fs k i → k < length fs
in_block [] k i h = absurd h
in_block (f ∷ fs) zero i h = omega arith
in_block (f ∷ fs) (suc k) i h = omega (arith, in_block fs k i h)

pub at_block : {T : Type 0} (fs : List (CodeFrame T)) (k i : ℕ) (f : CodeFrame T) → InBlock fs k i → f ≡ get_or fs k f → i < length f.bound
at_block {T} [] k i f h p = absurd h
at_block {T} (g ∷ fs) zero i f h p = subst (λ (q : CodeFrame T). i < length q.bound) (sym p) h
at_block {T} (g ∷ fs) (suc k) i f h p = at_block fs k i f h p

pub block_has : {T : Type 0} (fs : List (CodeFrame T)) (k i : ℕ) (f : CodeFrame T) → k < length fs → f ≡ get_or fs k f → i < length f.bound → InBlock fs k i
block_has {T} [] k i f l p h = absurd (omega (arith, l))
block_has {T} (g ∷ fs) zero i f l p h = subst (λ (q : CodeFrame T). i < length q.bound) p h
block_has {T} (g ∷ fs) (suc k) i f l p h = block_has fs k i f (omega (arith, l)) p h

pub bound_get : {T : Type 0} (bs : List (Binding T)) (i : ℕ) (b : Binding T) → i < length bs → b ≡ get_or bs i b → slice_get (bounds_of bs) i ≡ Some (bound_of b)
bound_get [] i b l p = absurd (omega (arith, l))
bound_get (c ∷ bs) zero b l p = cc p
bound_get (c ∷ bs) (suc i) b l p = bound_get bs i b (omega (arith, l)) p

pub frame_get : {T : Type 0} (fs : List (CodeFrame T)) (k : ℕ) (f : CodeFrame T) → k < length fs → f ≡ get_or fs k f → slice_get (map frame_of fs) k ≡ Some (frame_of f)
frame_get [] k f l p = absurd (omega (arith, l))
frame_get (g ∷ fs) zero f l p = cc p
frame_get (g ∷ fs) (suc k) f l p = frame_get fs k f (omega (arith, l)) p

pub got_block : {T : Type 0} (fs : List (CodeFrame T)) (k i : ℕ) (f : CodeFrame T) (b : Binding T) → InBlock fs k i → f ≡ get_or fs k f → b
    ≡ get_or f.bound i b → Some (bound_of b) ≡ frame_bound (slice_get (map frame_of fs) k) i
got_block fs k i f b h p q = sym (ap (λ o. frame_bound o i) (frame_get fs k f (in_block fs k i h) p) ∙ bound_get f.bound i b (at_block fs k i f h p) q)

-- a list around one of its elements
pub put_in_set : {T : Type 0} (fs : List (CodeFrame T)) (k i : ℕ) (v : T) (f g : CodeFrame T) → k < length fs → f ≡ get_or fs k f → g.names
    ≡ f.names → bounds_of g.bound ≡ put (bounds_of f.bound) i v → map frame_of (set fs k g) ≡ put_in (map frame_of fs) k i v
put_in_set {T} [] k i v f g l p m e = absurd (omega (arith, l))
put_in_set {T} (h ∷ fs) zero i v f g l p m e =
    let a : frame_of g ≡ with_bound (frame_of f) (put (bounds_of f.bound) i v) = cc (m, e) in
    ap (λ q. q ∷ map frame_of fs) (a ∙ ap (λ (q : CodeFrame T). with_bound (frame_of q) (put (bounds_of q.bound) i v)) p)
put_in_set {T} (h ∷ fs) (suc k) i v f g l p m e = ap (λ q. frame_of h ∷ q) (put_in_set fs k i v f g (omega (arith, l)) p m e)

put_in_split : {T : Type 0} (fs : List (CodeFrame T)) (k i : ℕ) (v : T) (f : CodeFrame T) → k < length fs → f ≡ get_or fs k f → put_in
    (map frame_of fs) k i v ≡ map frame_of (take k fs) ++ with_bound (frame_of f) (put (bounds_of f.bound) i v) ∷ map frame_of (drop (suc k) fs)
put_in_split {T} [] k i v f l p = absurd (omega (arith, l))
put_in_split {T} (h ∷ fs) zero i v f l p = ap (λ (q : CodeFrame T). with_bound (frame_of q) (put (bounds_of q.bound) i v) ∷ map frame_of fs) (sym p)
put_in_split {T} (h ∷ fs) (suc k) i v f l p = ap (λ q. frame_of h ∷ q) (put_in_split fs k i v f (omega (arith, l)) p)

set_split : {X : Type 0} (xs : List X) (k : ℕ) (y : X) → k < length xs → set xs k y ≡ take k xs ++ y ∷ drop (suc k) xs
set_split [] k y l = absurd (omega (arith, l))
set_split (x ∷ xs) zero y l = refl
set_split (x ∷ xs) (suc k) y l = ap (λ q. x ∷ q) (set_split xs k y (omega (arith, l)))

whole_split : {X : Type 0} (xs : List X) (k : ℕ) (y : X) → k < length xs → y ≡ get_or xs k y → xs ≡ take k xs ++ y ∷ drop (suc k) xs
whole_split [] k y l p = absurd (omega (arith, l))
whole_split (x ∷ xs) zero y l p = cc p
whole_split (x ∷ xs) (suc k) y l p = ap (λ q. x ∷ q) (whole_split xs k y (omega (arith, l)) p)

pub take_split : {X : Type 0} (xs : List X) (k : ℕ) (y : X) → k < length xs → y ≡ get_or xs k y → take (suc k) xs ≡ take k xs ++ y ∷ []
take_split [] k y l p = absurd (omega (arith, l))
take_split (x ∷ xs) zero y l p = cc p
take_split (x ∷ xs) (suc k) y l p = ap (λ q. x ∷ q) (take_split xs k y (omega (arith, l)) p)

drop_split : {X : Type 0} (xs : List X) (k : ℕ) (y : X) → k < length xs → y ≡ get_or xs k y → drop k xs ≡ y ∷ drop (suc k) xs
drop_split [] k y l p = absurd (omega (arith, l))
drop_split (x ∷ xs) zero y l p = cc p
drop_split (x ∷ xs) (suc k) y l p = drop_split xs k y (omega (arith, l)) p

reverse_split : {X : Type 0} (xs ys : List X) (y : X) → reverse (xs ++ y ∷ ys) ≡ reverse ys ++ y ∷ reverse xs
reverse_split xs ys y =
    reverse-append xs (y ∷ ys)
    ∙ ap (λ q. q ++ reverse xs) (reverse-append (y ∷ []) ys)
    ∙ append_assoc (reverse ys) (y ∷ []) (reverse xs)

pub frames_split : {T : Type 0} (fs gs : List (CodeFrame T)) (f : CodeFrame T) → frames_of (fs ++ f ∷ gs) ≡ frames_of gs ++ frame_of f ∷ frames_of fs
frames_split fs gs f = ap (λ q. reverse q) (map-append frame_of fs (f ∷ gs)) ∙ reverse_split (map frame_of fs) (map frame_of gs) (frame_of f)

-- a declaration in the innermost block
pub declare_last : {T : Type 0} (fs : List (CodeFrame T)) (k : ℕ) (f g : CodeFrame T) (top : List (Bound T)) (b : Bound T) → length fs ≡ suc
    k → f ≡ get_or fs k f → g.names ≡ f.names → bounds_of g.bound ≡ bounds_of f.bound ++ b ∷
    [] → record { blocks = frames_of (set fs k g); top = top } ≡ declare (frames_of fs) top b
declare_last fs k f g top b l p m e =
    let h : k < length fs = omega arith in
    let last : drop (suc k) fs ≡ [] = drop_of_length-le fs {i = suc k} (omega arith) in
    let old : frames_of fs ≡ frame_of f ∷ frames_of (take k fs) = ap frames_of (whole_split fs k f h p) ∙ (ap (λ q. frames_of (take k fs ++ f ∷ q)) last ∙ frames_split (take k fs) [] f) in
    let new : frames_of (set fs k g) ≡ frame_of g ∷ frames_of (take k fs) = ap frames_of (set_split fs k g h) ∙ (ap (λ q. frames_of (take k fs ++ g ∷ q)) last ∙ frames_split (take k fs) [] g) in
    let one : frame_of g ≡ with_bound (frame_of f) (bounds_of f.bound ++ b ∷ []) = cc (m, e) in
    ap (λ q. record { blocks = q; top = top }) (new ∙ ap (λ q. q ∷ frames_of (take k fs)) one) ∙ ap (λ q. declare q top b) (sym old)

-- blocks in front of a scope
abbrev pub with_front : {T : Type 0} → List (BlockFrame T) → Bindings T → Bindings T
with_front fs bs = record { blocks = fs ++ bs.blocks; top = bs.top }

-- the name is sought in the first n blocks and the top
pub record Sought {T : Type 0} (fs : List (CodeFrame T)) (top : List (Bound T)) (x : List ℕ) (n : ℕ) : Type 0 where
  pub looks : look (frames_of (take n fs)) top x ≡ look (frames_of fs) top x
  pub writes : (v : T) → with_front (frames_of (drop n fs)) (write (frames_of (take n fs)) top x v) ≡ write (frames_of fs) top x v

pub sought_all : {T : Type 0} (fs : List (CodeFrame T)) (top : List (Bound T)) (x : List ℕ) (n : ℕ) → n ≡ length fs → Sought fs top x n
sought_all fs top x n e =
    let all : take n fs ≡ fs = ap (λ k. take k fs) e ∙ take-length fs in
    let none : drop n fs ≡ [] = drop_of_length-le fs {i = n} (omega arith) in
    record {
      looks = ap (λ q. look (frames_of q) top x) all;
      writes = λ v. ap (λ q. with_front (frames_of q) (write (frames_of (take n fs)) top x v)) none ∙ ap (λ q. write (frames_of q) top x v) all;
    }

some_at : {T : Type 0} (bs : List (Bound T)) (i : ℕ) → i < length bs → (b : Bound T) × slice_get bs i ≡ Some b
some_at [] i l = absurd (omega (arith, l))
some_at (b ∷ bs) zero l = (b, refl)
some_at (b ∷ bs) (suc i) l = some_at bs i (omega (arith, l))

module _ {T : Type 0} (fs : List (CodeFrame T)) (top : List (Bound T)) (x : List ℕ) (k : ℕ) (f : CodeFrame T) (l : k < length fs) (p : f ≡ get_or fs k f) where
  taken : frames_of (take (suc k) fs) ≡ frame_of f ∷ frames_of (take k fs)
  taken = ap frames_of (take_split fs k f l p) ∙ frames_split (take k fs) [] f

  dropped : frames_of (drop k fs) ≡ frames_of (drop (suc k) fs) ++ frame_of f ∷ []
  dropped = ap frames_of (drop_split fs k f l p) ∙ frames_split [] (drop (suc k) fs) f

  -- the block says nothing of the name
  pub sought_on : Sought fs top x (suc k) → bound_in (bounds_of f.bound) x ≡ None → is_among (frame_names f) x ≡ false → Sought fs top x k
  sought_on h e d =
      let one : look (frame_of f ∷ frames_of (take k fs)) top x ≡ look (frames_of (take k fs)) top x = rw (e, d) refl in
      record {
        looks = sym one ∙ (ap (λ q. look q top x) (sym taken) ∙ h.looks);
        writes = λ v.
            let two : write (frame_of f ∷ frames_of (take k fs)) top x v ≡ inside (frame_of f) (write (frames_of (take k fs)) top x v) = rw e refl in
            let w : Bindings T = write (frames_of (take k fs)) top x v in
            ap (λ q. with_front q w) dropped
            ∙ (ap (λ q. record { blocks = q; top = w.top }) (append_assoc (frames_of (drop (suc k) fs)) (frame_of f ∷ []) w.blocks)
            ∙ (ap (λ q. with_front (frames_of (drop (suc k) fs)) q) (sym two ∙ ap (λ q. write q top x v) (sym taken)) ∙ h.writes v));
      }

  -- the block declares the name, which was not evaluated
  pub sought_unset : Sought fs top x (suc k) → bound_in (bounds_of f.bound) x ≡ None → is_among (frame_names f) x ≡ true → look (frames_of fs) top x ≡ None
  sought_unset h e d =
      let one : look (frame_of f ∷ frames_of (take k fs)) top x ≡ None = rw (e, d) refl in
      sym h.looks ∙ (ap (λ q. look q top x) taken ∙ one)

  -- the block has it
  sought_block : (i : ℕ) → Sought fs top x (suc k) → IsAt (bounds_of f.bound) x i →
      (look (frames_of fs) top x ≡ frame_bound (slice_get (map frame_of fs) k) i) × ((v : T) → write (frames_of fs) top x
      v ≡ record { blocks = reverse (put_in (map frame_of fs) k i v); top = top })
  sought_block i h a =
      let t = some_at (bounds_of f.bound) i a.within in
      let e : bound_in (bounds_of f.bound) x ≡ Some t.0 = a.reads ∙ t.1 in
      let one : look (frame_of f ∷ frames_of (take k fs)) top x ≡ Some t.0 = rw e refl in
      let there : frame_bound (slice_get (map frame_of fs) k) i ≡ Some t.0 = ap (λ o. frame_bound o i) (frame_get fs k f l p) ∙ t.1 in (
        sym h.looks ∙ (ap (λ q. look q top x) taken ∙ (one ∙ sym there)),
        λ v.
            let two : write (frame_of f ∷ frames_of (take k fs)) top x
            v ≡ record { blocks = with_bound (frame_of f) (changed (bounds_of f.bound) x v) ∷ frames_of (take k fs); top = top } = rw e refl in
            let three : reverse (put_in (map frame_of fs) k i v) ≡ frames_of (drop (suc k) fs) ++ with_bound (frame_of f)
            (put (bounds_of f.bound) i v) ∷ frames_of (take k fs) = ap (λ q. reverse q) (put_in_split fs k i v f l p) ∙ reverse_split
            (map frame_of (take k fs)) (map frame_of (drop (suc k) fs)) (with_bound (frame_of f) (put (bounds_of f.bound) i v)) in
            sym (h.writes v)
            ∙ (ap (λ q. with_front (frames_of (drop (suc k) fs)) q) (ap (λ q. write q top x v) taken ∙ two)
            ∙ (ap (λ q. record { blocks = frames_of (drop (suc k) fs) ++ with_bound (frame_of f) q ∷ frames_of (take k fs); top = top }) (a.writes v)
            ∙ ap (λ q. record { blocks = q; top = top }) (sym three))),
      )

pub block_place : {T : Type 0} (s : Scope T) (x : List ℕ) (n k i : ℕ) (f : CodeFrame T) → n ≡ suc k → k < length s.blocks.frames → f ≡
    get_or s.blocks.frames k f → Sought s.blocks.frames (bounds_of s.top) x n → IsAt (bounds_of f.bound) x i → IsPlace s x (Block k i)
block_place s x n k i f e l p h a =
    let b = s.blocks in
    let h' : Sought b.frames (bounds_of s.top) x (suc k) = subst (λ q. Sought b.frames (bounds_of s.top) x q) e h in
    let t = sought_block b.frames (bounds_of s.top) x k f l p i h' a in
    let w : i < length f.bound = subst (λ q. i < q) (length-map f.bound bound_of) a.within in
    record {
      within = block_has b.frames k i f l p w;
      reads = look_blocks b (bounds_of s.top) x ∙ t.0;
      writes = λ v. write_blocks b (bounds_of s.top) x v ∙ ap (λ q. hollowed b.hollow (spread (outsides_of b.frames) q)) (t.1 v);
    }

sought_top : {T : Type 0} (fs : List (CodeFrame T)) (top : List (Bound T)) (x : List ℕ) (n : ℕ) → n ≡ 0 → Sought fs top x n →
    (look (frames_of fs) top x ≡ bound_in top x) × ((v : T) → write (frames_of fs) top x v ≡ record { blocks = frames_of fs; top = changed top x v })
sought_top fs top x n e h =
    let h' : Sought fs top x 0 = subst (λ q. Sought fs top x q) e h in
    (sym h'.looks, λ v. sym (h'.writes v) ∙ ap (λ q. record { blocks = q; top = changed top x v }) (append-nil (frames_of fs)))

-- what stands at a place
pub get_at : {X : Type 0} (xs : List X) (i : ℕ) (x : X) → i < length xs → x ≡ get_or xs i x → slice_get xs i ≡ Some x
get_at [] i x l e = absurd (omega (arith, l))
get_at (y ∷ xs) zero x l e = cc e
get_at (y ∷ xs) (suc i) x l e = get_at xs i x (omega (arith, l)) e

-- what holds of all before a place, and of what stands there
pub one_more : {X : Type 0} (P : X → Type 0) (xs : List X) (i : ℕ) (x : X) → i < length xs → x ≡ get_or xs i x
    → P x → ((j : ℕ) (y : X) → j < i → slice_get xs j ≡ Some y → P y) → (j : ℕ) (y : X) → j < i + 1 → slice_get xs j ≡ Some y → P y
one_more P xs i x l p e h = λ j y k g. elim (leb_tells i j) [
  | inr q ↦ h j y q.1 g
  | inl q ↦ (
      let same : j ≡ i = omega (arith, k, q.1) in
      let there : slice_get xs i ≡ Some y = subst (λ (a : ℕ). slice_get xs a ≡ Some y) same g in
      let one : x ≡ y = cc (get_at xs i x l p, there) in
      subst P one e)
]

pub top_place : {T : Type 0} (s : Scope T) (x : List ℕ) (n i : ℕ) → n ≡ 0 → Sought s.blocks.frames (bounds_of s.top) x n → IsAt (bounds_of s.top) x i → IsPlace s x (Top i)
top_place s x n i e h a =
    let b = s.blocks in
    let t = sought_top b.frames (bounds_of s.top) x n e h in
    let w : i < length s.top = subst (λ q. i < q) (length-map s.top bound_of) a.within in
    record {
      within = w;
      reads = look_blocks b (bounds_of s.top) x ∙ (t.0 ∙ a.reads);
      writes = λ v. write_blocks b (bounds_of s.top) x v ∙ ap (λ q. hollowed b.hollow (spread (outsides_of b.frames) q))
          (t.1 v ∙ ap (λ q. record { blocks = frames_of b.frames; top = q }) (a.writes v));
    }

pub no_place : {T : Type 0} (s : Scope T) (x : List ℕ) (n : ℕ) → n ≡ 0 → Sought s.blocks.frames (bounds_of s.top) x n → bound_in
    (bounds_of s.top) x ≡ None → look (blocks_of s.blocks) (bounds_of s.top) x ≡ None
no_place s x n e h a = look_blocks s.blocks (bounds_of s.top) x ∙ ((sought_top s.blocks.frames (bounds_of s.top) x n e h).0 ∙ a)

-- a list with the same block in one place
frame_kept : {T : Type 0} (fs : List (CodeFrame T)) (k : ℕ) (f g : CodeFrame T) → k < length fs → f ≡ get_or fs k f → frame_of g ≡ frame_of f → map frame_of (set fs k g) ≡ map frame_of fs
frame_kept [] k f g l p e = absurd (omega (arith, l))
frame_kept (h ∷ fs) zero f g l p e = cc (p, e)
frame_kept (h ∷ fs) (suc k) f g l p e = ap (λ q. frame_of h ∷ q) (frame_kept fs k f g (omega (arith, l)) p e)

pub declare_kept : {T E : Type 0} (r : Result (Unit {0}) E) (fs : List (CodeFrame T)) (k : ℕ) (f g : CodeFrame T) → length fs ≡ k + 1 → f ≡
    get_or fs k f → g.names ≡ f.names → OnErr r (g.bound ≡ f.bound) → OnErr r (frames_of (set fs k g) ≡ frames_of fs)
declare_kept (Ok v) fs k f g l p m e = tt
declare_kept (Err s) fs k f g l p m e =
    let same : frame_of g ≡ frame_of f = cc (m, e) in
    ap (λ q. reverse q) (frame_kept fs k f g (omega (arith, l)) p same)

pub declare_on : {T : Type 0} {E : Type 0} (r : Result (Unit {0}) E) (fs : List (CodeFrame T)) (k : ℕ) (f g : CodeFrame T) (b : Bound T) →
    length fs ≡ k + 1 → f ≡ get_or fs k f → g.names ≡ f.names → OnOk r (bounds_of g.bound ≡ bounds_of f.bound ++ b ∷
    []) → OnOk r ((top : List (Bound T)) → record { blocks = frames_of (set fs k g); top = top } ≡ declare (frames_of fs) top b)
declare_on (Ok v) fs k f g b l p m e = λ top. declare_last fs k f g top b (omega (arith, l)) p m e
declare_on (Err s) fs k f g b l p m e = tt
