-- Several words of a window in one turn.
use Rattle.std.proofs.Common.{◌≡◌, ℕ, ◌+◌, ◌-◌, ◌*◌, ◌/◌, ◌%◌, ◌<◌, ◌^◌, Bool, true, false, List, get_or, sym, ap, subst, ◌∙◌, ⊎_elim, arith}
use mathlib.Core.Bool.{beq, not}
use Rattle.std.proofs.lemmas.Bool.{cases_lt}
use Rattle.js_units.specs.Lanes.{lane_count}
use Rattle.heap_rule.specs.declared.view.View.{View}
use Rattle.heap_rule.specs.Sound.{IsPossible}
use Rattle.heap_read.specs.declared.string.Window.{Window}
use Rattle.heap_read.specs.Shifted.{BeginsWord}
use Rattle.heap_read.specs.Windows.{IsFrozenWindow, IsWindow}
use Rattle.heap_read.proofs.Showing.{word_small}

-- the first unit of the word that is k words behind
behind : (wide : Bool) (start o i at k j m : ℕ) → (o + i) % lane_count wide ≡ 0 → at ≡ start + (o + i) / lane_count wide → j ≡ i + k * lane_count wide → m ≡ at + k
    → ((o + j) % lane_count wide ≡ 0) × (m ≡ start + (o + j) / lane_count wide)
behind true start o i at k j m z h e f = (omega arith, omega arith)
behind false start o i at k j m z h e f = (omega arith, omega arith)

pub begins_behind : (w : Window) (i at k j m : ℕ) → BeginsWord w i at → j ≡ i + k * lane_count w.wide → m ≡ at + k → BeginsWord w j m
begins_behind w i at k j m h e f = let p = behind w.wide w.start w.offset i at k j m h.lowest h.place e f in record { lowest = p.0; place = p.1 }

-- such a word lies in the heap
pub word_there : (v : View) (w : Window) (i at : ℕ) → IsPossible v → IsFrozenWindow v w → i < w.len → BeginsWord w i at → at < 2 ^ 29
word_there v w i at p h l b = let small = word_small v w i p h l in let place = b.place in omega arith

-- some units that are copied behind others
pub read_then : (us : List ℕ) (i next n m j at : ℕ) (old new : List ℕ) → j ≡ i + n → at ≡ next + n → ((k : ℕ) → k < n → get_or old (next + k) 0 ≡ get_or us (i + k) 0)
    → ((k : ℕ) → k < at → get_or new k 0 ≡ get_or old k 0) → ((k : ℕ) → k < m → get_or new (at + k) 0 ≡ get_or us (j + k) 0)
    → (k : ℕ) → k < n + m → get_or new (next + k) 0 ≡ get_or us (i + k) 0
read_then us i next n m j at old new d e was before inside k l = ⊎_elim
    (λ a. before (next + k) (omega arith) ∙ was k a)
    (λ a.
    let p : at + (k - n) ≡ next + k = omega arith in
    let q : j + (k - n) ≡ i + k = omega arith in
    ap (λ x. get_or new x 0) (sym p) ∙ (inside (k - n) (omega arith) ∙ ap (λ x. get_or us x 0) q))
    (cases_lt k n)

-- some units that are the same in two lists behind others that are
pub same_then : (us vs : List ℕ) (i n m j : ℕ) → j ≡ i + n → ((k : ℕ) → k < n → get_or us (i + k) 0 ≡ get_or vs (i + k) 0)
    → ((k : ℕ) → k < m → get_or us (j + k) 0 ≡ get_or vs (j + k) 0) → (k : ℕ) → k < n + m → get_or us (i + k) 0 ≡ get_or vs (i + k) 0
same_then us vs i n m j d was next k l = ⊎_elim
    (λ a. was k a)
    (λ a.
    let q : j + (k - n) ≡ i + k = omega arith in
    ap (λ x. get_or us x 0) (sym q) ∙ (next (k - n) (omega arith) ∙ ap (λ x. get_or vs x 0) q))
    (cases_lt k n)

-- some units that are not in the list behind others that aren't
pub lacks_then : (us : List ℕ) (unit i n m j : ℕ) → j ≡ i + n → ((k : ℕ) → k < n → get_or us (i + k) 0 ≡ unit → ⊥)
    → ((k : ℕ) → k < m → get_or us (j + k) 0 ≡ unit → ⊥) → (k : ℕ) → k < n + m → get_or us (i + k) 0 ≡ unit → ⊥
lacks_then us unit i n m j d was next k l e = ⊎_elim
    (λ a. was k a e)
    (λ a.
    let q : j + (k - n) ≡ i + k = omega arith in
    next (k - n) (omega arith) (ap (λ x. get_or us x 0) q ∙ e))
    (cases_lt k n)

-- from the first unit on, up to a place that the last word may reach over
pub same_before : (us vs : List ℕ) (i n most : ℕ) → ((k : ℕ) → k < i → k < most → get_or us k 0 ≡ get_or vs k 0)
    → ((k : ℕ) → k < n → i + k < most → get_or us (i + k) 0 ≡ get_or vs (i + k) 0) → (k : ℕ) → k < i + n → k < most → get_or us k 0 ≡ get_or vs k 0
same_before us vs i n most was next k l m = ⊎_elim
    (λ a. was k a m)
    (λ a.
    let f : i + (k - i) ≡ k = omega arith in
    ap (λ j. get_or us j 0) (sym f) ∙ (next (k - i) (omega arith) (omega arith) ∙ ap (λ j. get_or vs j 0) f))
    (cases_lt k i)

-- a window with its width written out
pub has_width : (v : View) (w : Window) (us : List ℕ) (wide : Bool) → w.wide ≡ wide → IsWindow v w us → IsWindow v (record w { wide = wide }) us
has_width v w us wide e h = subst (λ (b : Bool). IsWindow v (record w { wide = b }) us) e h

-- the first word of a window that begins with a word
pub begins_here : (w : Window) (at number : ℕ) → w.offset % lane_count w.wide ≡ 0 → number ≡ w.offset / lane_count w.wide → at ≡ w.start + number → BeginsWord w 0 at
begins_here w at number z e f = let none : w.offset ≡ w.offset + 0 = omega arith in record {
  lowest = subst (λ (o : ℕ). o % lane_count w.wide ≡ 0) none z;
  place = subst (λ (o : ℕ). at ≡ w.start + o / lane_count w.wide) none (omega arith);
}

-- two windows of one width
pub one_width : (a b wide : Bool) → not (beq a b) ≡ false → a ≡ wide → b ≡ wide
one_width true true wide e h = h
one_width false false wide e h = h
one_width true false wide e h = absurd (cc)
one_width false true wide e h = absurd (cc)
