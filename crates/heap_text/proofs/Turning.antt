-- One turn of the loop that fills: what was loaded of a Cons leaves the units and the own words as they were.
use Rattle.std.proofs.Common.{◌≡◌, ℕ, ◌+◌, ◌-◌, Bool, List, length, get_or, ap, sym, subst, ◌∙◌, arith}
use Rattle.heap_rule.specs.declared.view.View.{View}
use Rattle.heap_rule.specs.Maps.{HasKey}
use Rattle.heap_table.specs.Known.{KeepsKnown}
use Rattle.heap_text.specs.Filling.{IsBoth, units_at}
use Rattle.heap_read.specs.Filling.{IsFilled, own_word}
use Rattle.heap_read.specs.Reads.{OnlyLoads}
use Rattle.heap_text.proofs.Progress.{IsFilling, filled_left, filled_right}
use Rattle.heap_text.proofs.Sides.{units_are, units_there}

-- units that are known stay
pub units_kept : (v w : View) (i : ℕ) → KeepsKnown v w → HasKey v.units i → units_at w i ≡ units_at v i
units_kept v w i k h = units_are w i (units_at v i) (k.units i (units_at v i) (units_there v i h))

-- u is the view before the turn, f has loaded the form, g the length of the left side, and h is that after the side was filled
module _ (wide : Bool) (start : ℕ) (first : ℕ → ℕ) (at0 n0 : ℕ) (us0 : List ℕ) (at n : ℕ) (u f g h : View) (id left right m : ℕ) where
  pub same_own : OnlyLoads u f → OnlyLoads f g → own_word g.own_words ≡ own_word u.own_words
  same_own a b = ap own_word (b.own_words ∙ a.own_words)

  pub both_here : OnlyLoads u f → HasKey u.units id → IsFilling wide start first (own_word u.own_words) at0 n0 us0 at n (units_at u id)
      → IsBoth (units_at f id) (units_at g left) (units_at g right) m (length (units_at f id)) → IsBoth (units_at u id) (units_at g left) (units_at g right) m n
  both_here a k i b = let same = units_kept u f id a.known k in
      subst (λ (x : ℕ). IsBoth (units_at u id) (units_at g left) (units_at g right) m x) i.count (subst (λ (us : List ℕ). IsBoth us (units_at g left) (units_at g right) m (length us)) same b)

  pub turn_left : OnlyLoads u f → OnlyLoads f g → HasKey g.units right → KeepsKnown g h → IsFilling wide start first (own_word u.own_words)
      at0 n0 us0 at n (units_at u id) → IsBoth (units_at u id) (units_at g left) (units_at g right) m n
      → IsFilled wide start (own_word g.own_words) (own_word h.own_words) at m (λ k. get_or (units_at g left) k 0) → IsFilling wide start
      first (own_word h.own_words) at0 n0 us0 (at + m) (n - m) (units_at h right)
  turn_left a b k c i both done = subst (λ (us : List ℕ). IsFilling wide start first (own_word h.own_words) at0 n0 us0 (at + m) (n - m) us) (sym (units_kept g h right c k))
      (filled_left wide start first (own_word u.own_words) (own_word h.own_words) at0 n0 us0 at n (units_at u id) (units_at g left) (units_at g right) m i both
      (subst (λ (w : ℕ → ℕ). IsFilled wide start w (own_word h.own_words) at m (λ k. get_or (units_at g left) k 0)) (same_own a b) done))

  pub turn_right : OnlyLoads u f → OnlyLoads f g → HasKey g.units left → KeepsKnown g h → IsFilling wide start first (own_word u.own_words)
      at0 n0 us0 at n (units_at u id) → IsBoth (units_at u id) (units_at g left) (units_at g right) m n
      → IsFilled wide start (own_word g.own_words) (own_word h.own_words) (at + m) (n - m) (λ k. get_or (units_at g right) k 0) → IsFilling
      wide start first (own_word h.own_words) at0 n0 us0 at m (units_at h left)
  turn_right a b k c i both done = subst (λ (us : List ℕ). IsFilling wide start first (own_word h.own_words) at0 n0 us0 at m us) (sym (units_kept g h left c k))
      (filled_right wide start first (own_word u.own_words) (own_word h.own_words) at0 n0 us0 at n (units_at u id) (units_at g left) (units_at g right) m i both
      (subst (λ (w : ℕ → ℕ). IsFilled wide start w (own_word h.own_words) (at + m) (n - m) (λ k. get_or (units_at g right) k 0)) (same_own a b) done))

  -- both sides are one string: what was filled with it is copied
  pub turn_both : (x : View) → OnlyLoads u f → OnlyLoads f g → HasKey g.units right → KeepsKnown g h → IsFilling wide start first (own_word u.own_words)
      at0 n0 us0 at n (units_at u id) → IsBoth (units_at u id) (units_at g left) (units_at g right) m n
      → IsFilled wide start (own_word g.own_words) (own_word h.own_words) at m (λ k. get_or (units_at g left) k 0) → left ≡ right
      → IsFilled wide start (own_word h.own_words) (own_word x.own_words) (at + m) m (λ k. get_or (units_at h left) k 0) → IsFilled wide start first (own_word x.own_words) at0 n0 (λ k. get_or us0 k 0)
  turn_both x a b k c i both done is again = let half : m ≡ n - m = sym both.left_count ∙ (ap (λ (j : ℕ). length (units_at g j)) is ∙ both.right_count) in
      (turn_left a b k c i both done).rest (own_word x.own_words)
      (subst (λ (q : ℕ). IsFilled wide start (own_word h.own_words) (own_word x.own_words) (at + m) q (λ k. get_or (units_at h right) k 0)) half
      (subst (λ (j : ℕ). IsFilled wide start (own_word h.own_words) (own_word x.own_words) (at + m) m (λ k. get_or (units_at h j) k 0)) is again))

  -- as many units are on each side
  pub same_half : IsBoth (units_at u id) (units_at g left) (units_at g right) m n → left ≡ right → m + m ≡ n
  same_half both is = let half : m ≡ n - m = sym both.left_count ∙ (ap (λ (j : ℕ). length (units_at g j)) is ∙ both.right_count) in omega (arith, half, both.right_some)
