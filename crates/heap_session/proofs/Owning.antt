-- What calls of a session leave of what its agent owns, and of what they claimed and did not use.
use Rattle.std.proofs.Common.{◌≡◌, ◌∙◌, ℕ, zero, suc, ◌+◌, ◌-◌, ◌<◌, ◌≤◌, ◌⊎◌, ⊎_elim, inl, inr, List, ◌++◌, length, ap, refl, subst, sym, arith, Ok, Err}
use Rattle.std.specs.FinMap.{FinMap}
use Rattle.std.specs.Ordering.{nat_cmp}
use mathlib.Core.Logic.{dite}
use native.Mathlib.Decide.{ℕ_discrete, dec_le}
use Rattle.js_units.specs.Lanes.{is_wide, words_over}
use Rattle.heap_rule.specs.declared.size.Counters.{Counters}
use Rattle.heap_rule.specs.declared.size.HeapSize.{HeapSize}
use Rattle.heap_rule.specs.declared.view.View.{View}
use Rattle.heap_rule.specs.Births.{part}
use Rattle.heap_rule.specs.Maps.{HasKey}
use Rattle.heap_rule.specs.Paths.{Calls}
use Rattle.heap_read.specs.Reads.{OnlyLoads}
use Rattle.heap_read.proofs.Loaded.{reads_trans}
use Rattle.heap_read.specs.declared.string.JsStr.{JsStr}
use Rattle.heap_text.specs.declared.faults.JoinFault.{JoinFault}
use Rattle.heap_text.specs.declared.faults.TextFull.{TextFull}
use Rattle.heap_text.specs.Joins.{IsCut, IsJoined}
use Rattle.heap_text.specs.Texts.{IsSpared, KeepsOwn, UsesExactly}
use Rattle.heap_intern.specs.Goes.{AddsCalls}
use Rattle.heap_session.specs.Owning.{ClaimsNoId, IsKeptOrMade}

pub own_self : (v : View) → KeepsOwn v v
own_self v = record { ids = λ i n h. h; words = λ c x h. h }

-- a call on the string table
pub own_goes : (v w : View) (calls : Calls) → AddsCalls v w calls → KeepsOwn v w
own_goes v w calls g = record { ids = g.own_ids; words = g.own_words }

pub spares_of : (v w : View) (words : ℕ) (f : TextFull) → IsSpared v w words f → ClaimsNoId v w
spares_of v w words f s = record { ids = s.used_ids; words = s.claimed }

-- nothing was claimed
spares_none : (v w : View) → w.used ≡ v.used → ClaimsNoId v w
spares_none v w e = let n = ap (λ (c : Counters). c.words) e in record {
  ids = ap (λ (c : Counters). c.ids) e;
  words = (0, 0, omega arith, λ q l. absurd (omega arith), λ q l h. omega arith);
}

pub spares_after : (v u w : View) → OnlyLoads v u → ClaimsNoId u w → ClaimsNoId v w
spares_after v u w r s = let h = s.words in record {
  ids = s.ids ∙ ap (λ (c : Counters). c.ids) r.used;
  words = (
    h.0,
    h.1,
    h.2 ∙ ap (λ (c : Counters). c.words + h.1) r.used,
    h.3,
    λ q l k. h.4 q l (subst (λ (m : FinMap nat_cmp ℕ). HasKey m (h.0 + q)) (sym r.own_words) k),
  );
}

-- a concatenation
module _ (v w : View) (z : HeapSize) (most : ℕ) (a b : JsStr) (us vs : List ℕ) (f : JoinFault) (j : IsJoined v w z most a b us vs (Err f)) where
  abbrev m : ℕ
  m = length us

  abbrev n : ℕ
  n = length vs

  within : m + n ≤ most → (i k : ℕ) → m ≡ i → n ≡ k → ClaimsNoId v w
  within le zero k e g = let q = j.left_empty le e in let bad : Err f ≡ Ok q.0 = q.1 in absurd (cc)
  within le (suc i) zero e g = let q = j.right_empty le (omega arith) g in let bad : Err f ≡ Ok q.0 = q.1 in absurd (cc)
  within le (suc i) (suc k) e g = let x : 0 < m = omega arith in let y : 0 < n = omega arith in dite (dec_le 13 (m + n))
      (λ long. ⊎_elim
      (λ q. let bad : Err f ≡ Ok q.0 = q.1 in absurd (cc))
      (λ q. spares_of v w 0 q.0 q.2.2)
      (j.rope le x y long))
      (λ never. ⊎_elim
      (λ q. let bad : Err f ≡ Ok q.0 = q.1 in absurd (cc))
      (λ q. spares_of v w (words_over (is_wide (us ++ vs)) (length (us ++ vs))) q.0 q.2.1)
      (j.short le x y (omega arith)))

  pub joined_spares : ClaimsNoId v w
  joined_spares = dite (dec_le (m + n) most) (λ le. within le m n refl refl) (λ more. spares_none v w (j.long (omega arith)).1)

-- a part of a string
module _ (v w : View) (z : HeapSize) (s : JsStr) (from to : ℕ) (us : List ℕ) (f : TextFull) (below : to ≤ length us) (j : IsCut v w z s from to us (Err f)) where
  by_part : (0 < from) ⊎ (to < length us) → ClaimsNoId v w
  by_part less = dite (dec_le 13 (to - from))
      (λ long. ⊎_elim
      (λ q. let bad : Err f ≡ Ok q.0 = q.1 in absurd (cc))
      (λ q. spares_of v w 0 q.0 q.2.2)
      (j.long less long))
      (λ never. let cut : List ℕ = part from (to - from) us in ⊎_elim
      (λ q. let bad : Err f ≡ Ok q.0 = q.1 in absurd (cc))
      (λ q. spares_of v w (words_over (is_wide cut) (length cut)) q.0 q.2.1)
      (j.short less (omega arith)))

  pub cut_spares : ClaimsNoId v w
  cut_spares = dite (ℕ_discrete from 0)
      (λ e. dite (ℕ_discrete to (length us)) (λ g. let q = j.whole e g in let bad : Err f ≡ Ok q.0 = q.1 in absurd (cc)) (λ ne. by_part (inr (omega arith))))
      (λ ne. by_part (inl (omega arith)))

-- loads before a string that is kept or made
pub made_after : (v u w : View) (us : List ℕ) → OnlyLoads v u → IsKeptOrMade u w us → IsKeptOrMade v w us
made_after v u w us r m = ⊎_elim (λ (l : OnlyLoads u w). inl (reads_trans v u w r l))
    (λ (t : UsesExactly u w 1 (words_over (is_wide us) (length us))). inr (
      t.0 ∙ ap (λ (n : Counters). n.ids + 1) r.used,
      t.1 ∙ ap (λ (n : Counters). n.words + words_over (is_wide us) (length us)) r.used,
    )) m
