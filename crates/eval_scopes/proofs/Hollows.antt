-- Blocks without a frame: no name is found in one, and none is written there.
use Rattle.eval_scopes.specs.Changes.{with_bound, all_but_first}
use Rattle.std.proofs.Common.{arith, ◌≡◌, ℕ, ◌+◌, zero, suc, Bool, true, false, if◌then◌else◌, List, [], ◌∷◌, ◌++◌, map, refl, ap, sym, ◌∙◌, reverse}
use Rattle.std.specs.Prelude.{OnOk, OnErr, Result, Ok, Err, is_some}
use Rattle.std.proofs.lemmas.List.{map-append, reverse-append}
use Rattle.eval_scopes.specs.declared.blocks.Blocks.{Blocks}
use Rattle.eval_scopes.specs.declared.frames.Frame.{Frame as CodeFrame}
use Rattle.eval_scopes.specs.Bindings.{Bound, BlockFrame, Bindings, bound_in, changed, is_among, look, write, inside, declare}
use Rattle.eval_scopes.specs.Blocks.{inner_first}
use Rattle.eval_scopes.specs.Seen.{frame_of, frames_of, outsides_of, hollows, with_hollows, stacked, blocks_of}

abbrev pub hollowed : {T : Type 0} → ℕ → Bindings T → Bindings T
hollowed n bs = record { blocks = hollows n bs.blocks; top = bs.top }

abbrev pub spread : {T : Type 0} → List ℕ → Bindings T → Bindings T
spread ns bs = record { blocks = with_hollows ns bs.blocks; top = bs.top }

look_hollows : {T : Type 0} (n : ℕ) (fs : List (BlockFrame T)) (top : List (Bound T)) (x : List ℕ) → look (hollows n fs) top x ≡ look fs top x
look_hollows zero fs top x = refl
look_hollows (suc n) fs top x = look_hollows n fs top x

look_with : {T : Type 0} (ns : List ℕ) (fs : List (BlockFrame T)) (top : List (Bound T)) (x : List ℕ) → look (with_hollows ns fs) top x ≡ look fs top x
look_with [] fs top x = refl
look_with (n ∷ ns) [] top x = refl
look_with (n ∷ ns) (f ∷ fs) top x = ap (λ q. inner_first (bound_in f.bound x) (is_among f.names x) q) (look_hollows n (with_hollows ns fs) top x ∙ look_with ns fs top x)

write_hollows : {T : Type 0} (n : ℕ) (fs : List (BlockFrame T)) (top : List (Bound T)) (x : List ℕ) (v : T) → write (hollows n fs) top x v ≡ hollowed n (write fs top x v)
write_hollows zero fs top x v = refl
write_hollows (suc n) fs top x v = ap (λ q. inside (record { names = []; bound = [] }) q) (write_hollows n fs top x v)

write_first : {T : Type 0} (t : Bool) (n : ℕ) (ns : List ℕ) (f g : BlockFrame T) (fs : List (BlockFrame T)) (top : List (Bound T))
    (w u : Bindings T) → w ≡ hollowed n (spread ns u) → (if t then record { blocks = g ∷ hollows n (with_hollows ns fs); top = top } else
    inside f w) ≡ spread (n ∷ ns) (if t then record { blocks = g ∷ fs; top = top } else inside f u)
write_first true n ns f g fs top w u e = refl
write_first false n ns f g fs top w u e = ap (λ q. inside f q) e

write_with : {T : Type 0} (ns : List ℕ) (fs : List (BlockFrame T)) (top : List (Bound T)) (x : List ℕ) (v : T) → write (with_hollows ns fs) top x v ≡ spread ns (write fs top x v)
write_with [] fs top x v = refl
write_with (n ∷ ns) [] top x v = refl
write_with (n ∷ ns) (f ∷ fs) top x v =
    write_first (is_some (bound_in f.bound x)) n ns f (with_bound f (changed f.bound x v)) fs top (write (hollows n (with_hollows ns fs)) top x v) (write fs top x v)
    (write_hollows n (with_hollows ns fs) top x v ∙ ap (λ q. hollowed n q) (write_with ns fs top x v))

declare_with : {T : Type 0} (ns : List ℕ) (fs : List (BlockFrame T)) (top : List (Bound T)) (b : Bound T) → declare (with_hollows ns fs) top b ≡ spread ns (declare fs top b)
declare_with [] fs top b = refl
declare_with (n ∷ ns) [] top b = refl
declare_with (n ∷ ns) (f ∷ fs) top b = refl

-- a name means what the frames say of it
pub look_blocks : {T : Type 0} (b : Blocks T) (top : List (Bound T)) (x : List ℕ) → look (blocks_of b) top x ≡ look (frames_of b.frames) top x
look_blocks b top x = look_hollows b.hollow (stacked b.frames) top x ∙ look_with (outsides_of b.frames) (frames_of b.frames) top x

pub write_blocks : {T : Type 0} (b : Blocks T) (top : List (Bound T)) (x : List ℕ) (v : T) → write (blocks_of b) top x v ≡ hollowed b.hollow
    (spread (outsides_of b.frames) (write (frames_of b.frames) top x v))
write_blocks b top x v = write_hollows b.hollow (stacked b.frames) top x v ∙ ap (λ q. hollowed b.hollow q) (write_with (outsides_of b.frames) (frames_of b.frames) top x v)

-- one more frame, the innermost
frames_behind : {T : Type 0} (fs : List (CodeFrame T)) (f : CodeFrame T) → frames_of (fs ++ f ∷ []) ≡ frame_of f ∷ frames_of fs
frames_behind fs f = ap (λ q. reverse q) (map-append frame_of fs (f ∷ [])) ∙ reverse-append (map frame_of fs) (frame_of f ∷ [])

outsides_behind : {T : Type 0} (fs : List (CodeFrame T)) (f : CodeFrame T) → outsides_of (fs ++ f ∷ []) ≡ f.outside ∷ outsides_of fs
outsides_behind {T} fs f = ap (λ q. reverse q) (map-append (λ (g : CodeFrame T). g.outside) fs (f ∷ [])) ∙ reverse-append (map (λ (g : CodeFrame T). g.outside) fs) (f.outside ∷ [])

pub stacked_behind : {T : Type 0} (fs : List (CodeFrame T)) (f : CodeFrame T) → stacked (fs ++ f ∷ []) ≡ frame_of f ∷ hollows f.outside (stacked fs)
stacked_behind fs f = ap (λ q. with_hollows q (frames_of (fs ++ f ∷ []))) (outsides_behind fs f) ∙ ap (λ q. with_hollows (f.outside ∷ outsides_of fs) q) (frames_behind fs f)

-- a binding of a block, told of frames alone, is one among frames with the same numbers
pub stacked_declared : {T E : Type 0} (r : Result (Unit {0}) E) (fs gs : List (CodeFrame T)) (b : Bound T) → outsides_of gs ≡ outsides_of
    fs → OnOk r ((top : List (Bound T)) → record { blocks = frames_of gs; top = top } ≡ declare (frames_of fs) top
    b) → OnOk r ((top : List (Bound T)) → record { blocks = stacked gs; top = top } ≡ declare (stacked fs) top b)
stacked_declared (Err s) fs gs b e h = tt
stacked_declared (Ok v) fs gs b e h = λ top.
    ap (λ q. record { blocks = with_hollows q (frames_of gs); top = top }) e
    ∙ (ap (λ q. spread (outsides_of fs) q) (h top) ∙ sym (declare_with (outsides_of fs) (frames_of fs) top b))

pub stacked_same : {T E : Type 0} (r : Result (Unit {0}) E) (fs gs : List (CodeFrame T)) → outsides_of gs ≡ outsides_of fs → OnErr r (frames_of gs ≡ frames_of fs) → OnErr r (stacked gs ≡ stacked fs)
stacked_same (Ok v) fs gs e h = tt
stacked_same (Err s) fs gs e h = ap (λ q. with_hollows q (frames_of gs)) e ∙ ap (λ q. with_hollows (outsides_of fs) q) h

-- the innermost block, which has a frame or none
pub hollow_more : {T : Type 0} (n m : ℕ) (fs : List (BlockFrame T)) → m ≡ n + 1 → hollows m fs ≡ record { names = []; bound = [] } ∷ hollows n fs
hollow_more n m fs e =
    let s : m ≡ suc n = omega (arith, e) in
    ap (λ q. hollows q fs) s

pub hollow_less : {T : Type 0} (n m : ℕ) (fs : List (BlockFrame T)) → m ≡ n + 1 → hollows n fs ≡ all_but_first (hollows m fs)
hollow_less n m fs e = sym (ap all_but_first (hollow_more n m fs e))
