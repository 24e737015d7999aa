-- A new heap meets the rule.
use Rattle.std.proofs.Common.{zero-add, ◌≡◌, ℕ, zero, suc, ◌+◌, ◌≤◌, List, [], ◌∷◌, length, get_or, sym, refl, subst, arith}
use Rattle.std.specs.Prelude.{replicate}
use mathlib.Core.Option.{some-injective, some-ne-none}
use Rattle.heap_rule.specs.declared.view.View.{View}
use Rattle.heap_rule.specs.declared.size.HeapSize.{HeapSize}
use Rattle.heap_rule.specs.Layout.{word_count, form_at, slot_at, slot, IsBorn, IsLawfulSize}
use Rattle.heap_rule.specs.Sound.{EachLive, IsSound}
use Rattle.heap_rule.specs.Agents.{first_view}
use Rattle.heap_rule.proofs.MapLemmas.{nothing_has, has_key}

abbrev zeros_of : ℕ → List ℕ
zeros_of n = replicate n 0

all_zero : (n i : ℕ) → get_or (zeros_of n) i 0 ≡ 0
all_zero zero i = refl
all_zero (suc n) zero = refl
all_zero (suc n) (suc i) = all_zero n i

count_zeros : (n : ℕ) → length (zeros_of n) ≡ n
count_zeros zero = refl
count_zeros (suc n) = omega (arith, count_zeros n)

only : (P : ℕ → View → Type 0) (w : View) → P 0 w → EachLive (w ∷ []) P
only P w h zero v e l = subst (P 0) (some-injective w v e) h
only P w h (suc j) v e l = absurd (some-ne-none v (sym e))

module _ (z : HeapSize) (agents : ℕ) (lawful : IsLawfulSize z) (some_agent : 1 ≤ agents) where
  abbrev W : List ℕ
  W = replicate (word_count z) 0

  abbrev first : View
  first = first_view z agents

  unborn : (i : ℕ) → IsBorn z W i → ⊥
  unborn i b = b.1 (all_zero (word_count z) (form_at z i))

  unused : (k i : ℕ) → slot z W k ≡ i + 1 → ⊥
  unused k i e = let o : slot z W k ≡ 0 = all_zero (word_count z) (slot_at z k) in omega arith

  zeros : (i : ℕ) → get_or W i 0 ≡ 0
  zeros = all_zero (word_count z)

  pub keeps_making : IsSound z agents W (first ∷ [])
  keeps_making = let a = zeros 0 in let b = zeros 1 in record {
    lawful = lawful;
    counted = record {
      long = count_zeros (word_count z);
      ids_end = omega arith;
      words_end = omega arith;
      no_form = λ i lo hi. zeros (form_at z i);
      no_length = λ i lo hi. zeros _;
      no_content = λ c lo hi. zeros _;
    };
    own_ids = only _ first record { each = λ i n h. absurd (nothing_has i n h) };
    own_words = only _ first record { each = λ i n h. absurd (nothing_has i n h) };
    ids_apart = only _ first (only _ first (λ ne. absurd (ne refl)));
    words_apart = only _ first (only _ first (λ ne. absurd (ne refl)));
    standing = λ i h. absurd (unborn i h);
    knows = only _ first record {
      of_met = λ i h. absurd (let p = has_key _ i h in nothing_has i p.0 p.1);
      of_units = λ i n h. absurd (nothing_has i n h);
      of_forms = λ i n h. absurd (nothing_has i n h);
      of_lengths = λ i n h. absurd (nothing_has i n h);
      of_frozen = λ i n h. absurd (nothing_has i n h);
      of_slots = λ i n h. absurd (nothing_has i n h);
    };
    slots = λ k i l e. absurd (unused k i e);
    different = λ k l i j p q e f g. absurd (unused k i e);
    recalls = only _ first (λ u i c. let n = c.1 in absurd (omega arith));
    entered = λ k i l e. absurd (unused k i e);
    added = record { ids = omega arith; words = omega arith; shares = zero-add agents };
    lows = only _ first (omega arith, omega arith);
    members = only _ first (some_agent, refl, refl);
  }
