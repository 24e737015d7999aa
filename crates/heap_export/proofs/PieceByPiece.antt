-- Comparing piece by piece.
use Rattle.std.proofs.Common.{◌≡◌, ◌++◌, ℕ, ◌+◌, ◌-◌, ◌≤◌, List, [], ◌∷◌, length, take, drop, min, ap, ap₂, sym, ◌∙◌, refl, arith}
use Rattle.std.specs.Prelude.{◌≢◌, slice_range}
use Rattle.std.proofs.lemmas.Bool.Decides.{nat_tests}
use Rattle.std.proofs.lemmas.List.{drop-drop, length-drop, length-take, take_min}
use Rattle.std.specs.declared.cmp.Ordering.{Ordering}
use Rattle.std.specs.declared.cmp.Ordering.TheVariants.{Less, Equal, Greater}
use Rattle.std.specs.Ordering.{nat_cmp, ordering_then}
use Rattle.js_search.proofs.Lexical.{by_front, is_same}
use Rattle.js_search.specs.Order.{units_cmp}
use Rattle.heap_export.proofs.UnitByUnit.{decided, then_equal}

grouped : (o p q : Ordering) → ordering_then o (ordering_then p q) ≡ ordering_then (ordering_then o p) q
grouped Less p q = refl
grouped Equal p q = refl
grouped Greater p q = refl

-- the order by the first piece, and else by what is behind it
front_cut : (us vs ws : List ℕ) → units_cmp us (vs ++ ws) ≡ ordering_then (units_cmp (take (length vs) us) vs) (units_cmp (drop (length vs) us) ws)
front_cut us [] ws = refl
front_cut [] (v ∷ vs) ws = refl
front_cut (u ∷ us) (v ∷ vs) ws = ap (ordering_then (nat_cmp u v)) (front_cut us vs ws) ∙ grouped (nat_cmp u v) (units_cmp (take (length vs) us) vs) (units_cmp (drop (length vs) us) ws)

same_order : (a b c : ℕ) → c ≡ a - b → b ≤ a → nat_cmp a b ≡ nat_cmp c 0
same_order a b c e l = grind (arith, nat_tests)

module _ (us piece vs ws : List ℕ) (done count : ℕ) (all o : Ordering) (long : length piece ≡ count) (split : vs ≡ piece ++ ws)
    (rest : units_cmp (drop done us) vs ≡ all) (is : o ≡ units_cmp (take (length piece) (drop done us)) piece) where
  by_piece : all ≡ ordering_then o (units_cmp (drop (done + count) us) ws)
  by_piece = sym rest ∙ (ap (units_cmp (drop done us)) split ∙ (front_cut (drop done us) piece ws
      ∙ ap₂ (λ (p : Ordering) (xs : List ℕ). ordering_then p (units_cmp xs ws)) (sym is) (ap (λ (n : ℕ). drop n (drop done us)) long ∙ drop-drop count done us)))

  pub next_piece : o ≡ Equal → units_cmp (drop (done + count) us) ws ≡ all
  next_piece e = sym (by_piece ∙ ap (λ (p : Ordering). ordering_then p (units_cmp (drop (done + count) us) ws)) e)

  pub other_piece : o ≢ Equal → o ≡ all
  other_piece d = sym (by_piece ∙ (decided o (units_cmp (drop (done + count) us) ws) Equal d ∙ then_equal o))

  -- the string has all units of a piece that is the same
  pub piece_reaches : o ≡ Equal → done ≤ length us → done + count ≤ length us
  piece_reaches e l = let same = (is_same (take (length piece) (drop done us)) piece o is).0 e in
      omega (arith, l, long, ap length same, length-take (length piece) (drop done us), length-drop done us)

-- the end
pub by_lengths : (us vs : List ℕ) (done len : ℕ) → vs ≡ [] → len ≡ length us → done ≤ len → nat_cmp len done ≡ units_cmp (drop done us) vs
by_lengths us vs done len none long l = let left = drop done us in let n = length-drop done us in
    let m : nat_cmp len done ≡ nat_cmp (length left) 0 = same_order len done (length left) (omega (arith, n, long)) l in
    m ∙ (by_front left [] 0 Equal (omega arith) refl ∙ ap (units_cmp left) (sym none))

-- the units of a block, as many as are there
pub cut_block : (us : List ℕ) (from n count len : ℕ) → len ≡ length us → count ≡ min n (len - from) → slice_range us from (from + count) ≡ take n (drop from us)
cut_block us from n count len long is = let e : from + count - from ≡ min n (length (drop from us)) = omega (arith, is, long, length-drop from us) in
    ap (λ (k : ℕ). take k (drop from us)) e ∙ take_min n (drop from us)
