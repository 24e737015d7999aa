-- Going on from an opening: with what was given, and by claims.
use Rattle.std.proofs.Common.{◌≡◌, ◌≢◌, ℕ, ◌+◌, ◌≤◌, ◌<◌, inr, List, [], ◌∷◌, ap, ◌∙◌, subst, arith, None, Result, Ok, Err}
use Rattle.std.specs.Prelude.{unwrap_or}
use mathlib.Core.Logic.{dite}
use native.Mathlib.Decide.{dec_le}
use Rattle.std.specs.FinMap.{FinMap, get}
use Rattle.std.specs.Ordering.{nat_cmp}
use Rattle.js_units.specs.Lanes.{hash_of}
use Rattle.heap_rule.specs.declared.view.View.{View}
use Rattle.heap_rule.specs.declared.size.HeapSize.{HeapSize}
use Rattle.heap_rule.specs.Paths.{rank}
use Rattle.heap_rule.specs.Sound.{IsPossible}
use Rattle.heap_table.specs.Known.{KeepsKnown}
use Rattle.heap_read.proofs.Loaded.{known_trans}
use Rattle.heap_intern.specs.declared.table.faults.TableFull.{TableFull}
use Rattle.heap_intern.specs.declared.table.faults.TableFull.TheVariants.{Ids, Words, Slots}
use Rattle.heap_intern.specs.declared.table.given.Given.{Given}
use Rattle.heap_intern.specs.declared.table.searching.Opening.{Opening}
use Rattle.heap_intern.specs.Answers.{HasLeft, HeaderPlan, IsInternAnswer, IsOpen, IsOpenAt, UsesNothing}
use Rattle.heap_intern.specs.Goes.{AddsCalls}
use Rattle.heap_intern.specs.Hashes.{AreHashes, IsNotedApart}
use Rattle.heap_intern.specs.Headers.{IsFlat, IsNoHeader, IsPlanned}
use Rattle.heap_intern.specs.Searching.{IsOpening, LoadsFrom, LoadsUpTo}
use Rattle.heap_intern.specs.SlotLoads.{loads_at}
use Rattle.heap_intern.specs.Taking.{IsGivenTaken, IsKeyAnswer, without_given}
use Rattle.heap_intern.specs.Visits.{IsPlace}
use Rattle.heap_intern.proofs.Giving.{free_near, given_known, place_kept, place_open, settled_known}
use Rattle.heap_intern.proofs.Going.{goes_self, goes_trans}
use Rattle.heap_intern.proofs.Visiting.{header_kept}

pub opening_place : (v : View) (us : List ℕ) (o : Opening) → IsOpening v us o → IsPlace v us o.slot o.rank
opening_place v us o h = record { inside = h.inside; at = h.at; passed = h.passed }

pub opening_of : (v : View) (us : List ℕ) (o : Opening) → o.hash ≡ hash_of us → IsPlace v us o.slot o.rank → get v.slots o.slot ≡ None → IsOpening v us o
opening_of v us o e h free = record { hash = e; inside = h.inside; at = h.at; passed = h.passed; free = free }

-- it is one still, where the view has the same slots
pub opening_kept : (v w : View) (us : List ℕ) (o : Opening) → IsPossible v → KeepsKnown v w → w.sizes ≡ v.sizes → w.slots ≡ v.slots → IsOpening v us o → IsOpening w us o
opening_kept v w us o p known z same h = opening_of w us o h.hash (place_kept v w us o.slot o.rank p known z (opening_place v us o h)) (ap (λ (m : FinMap nat_cmp ℕ). get m o.slot) same ∙ h.free)

-- a later view knows that it was open
pub opening_open : (v w : View) (us : List ℕ) (o : Opening) → IsPossible v → IsOpening v us o → KeepsKnown v w → w.sizes ≡ v.sizes → IsOpenAt v w us
opening_open v w us o p h known z = place_open v v w us o.slot o.rank (goes_self v).known p known z (opening_place v us o h) h.free

-- no slot that is noted with another hash is loaded
pub opening_apart : (v w : View) (us hashes : List ℕ) (o : Opening) (mark : ℕ) → AreHashes v hashes → IsOpening v us o
    → ((j : ℕ) → j ≢ o.slot → IsNotedApart hashes j mark → loads_at w j ≡ loads_at v j) → (j : ℕ) → IsNotedApart hashes j mark → loads_at w j ≡ loads_at v j
opening_apart v w us hashes o mark right h later j apart =
    later j (λ d. free_near v hashes o.slot mark right h.free (subst (λ (i : ℕ). IsNotedApart hashes i mark) d apart)) apart

-- what was given is taken
pub opening_taken : (v w : View) (us : List ℕ) (plan : HeaderPlan) (x : Given) (r : Result ℕ TableFull) (o : Opening) → IsPossible v → IsOpening v us o
    → IsKeyAnswer (without_given v plan.words x) w us r → IsFlat w plan.wide (unwrap_or plan.start x.start) us x.id → IsGivenTaken v w us plan x r
opening_taken v w us plan x r o p h settles flat = let s = settled_known (without_given v plan.words x) w us r settles in record {
  settled = settles;
  form = flat.0;
  units = flat.1;
  opened = opening_open v w us o p h (given_known v w plan.words x s.0) s.1;
}

-- no header could be made
open_still : (v u : View) (us : List ℕ) (o : Opening) → IsPossible v → IsPossible u → IsOpening v us o → AddsCalls v u [] → u.slots ≡ v.slots → IsOpen u us
open_still v u us o p q h g same = let k = o.slot in
    place_open u u u us k o.rank (goes_self u).known q (goes_self u).known (goes_self u).sizes
    (place_kept v u us k o.rank p g.known g.sizes (opening_place v us o h)) (ap (λ (m : FinMap nat_cmp ℕ). get m k) same ∙ h.free)

pub refused_new : (v u : View) (us : List ℕ) (plan : HeaderPlan) (o : Opening) (f : TableFull) → IsPossible v → IsPossible u → IsOpening v us o → AddsCalls v u [] → u.slots ≡ v.slots
    → IsNoHeader v u plan.words f → IsInternAnswer v u us plan (Err f)
refused_new v u us plan o (Ids f) p q h g same t = (g, (t.2, t.3, t.0, t.1, open_still v u us o p q h g same, t.4))
refused_new v u us plan o (Words f) p q h g same t = (g, (t.2, t.3, t.0, t.1, open_still v u us o p q h g same))
refused_new v u us plan o (Slots n) p q h g same t = absurd t

-- a header was made, and put there
module _ (v u w : View) (us : List ℕ) (plan : HeaderPlan) (o : Opening) (header : ℕ) (p : IsPossible v) (q : IsPossible u) (h : IsOpening v us o) (g : AddsCalls v u [])
    (one : u.used.ids ≡ v.used.ids + 1) (made : IsPlanned v u plan us header) (nothing : UsesNothing u w) where
  left_new : KeepsKnown u w → w.sizes ≡ u.sizes → HasLeft v w us plan
  left_new known z = inr (
    header,
    nothing.0 ∙ one,
    nothing.1 ∙ made.1,
    header_kept u w q known us plan header made.0,
    opening_open v w us o p h (known_trans v u w g.known known) (z ∙ g.sizes),
  )

  pub answer_new : (r : Result ℕ TableFull) → IsKeyAnswer u w us r → IsInternAnswer v w us plan r
  answer_new (Ok i) t = let a = nothing.0 in let b = nothing.1 in let c = made.1 in
      (goes_trans v u w [] ((us, i) ∷ []) g t.0, omega (arith, a, one), omega (arith, b, c), t.1, t.2, left_new t.0.known t.0.sizes)
  answer_new (Err (Slots n)) t = (goes_trans v u w [] [] g t.0, (t.1, t.2, left_new t.0.known t.0.sizes))
  answer_new (Err (Ids f)) t = absurd t
  answer_new (Err (Words f)) t = absurd t

-- a search up to the opening, and what goes on from there: no slot was loaded more than twice
pub opening_few : (v u z w : View) (us : List ℕ) (o : Opening) → z.sizes ≡ u.sizes → z.slot_loads ≡ u.slot_loads → LoadsUpTo v u us o → LoadsFrom z w us o → (k : ℕ) → loads_at w k ≤ loads_at v k + 2
opening_few v u z w us o sizes loads a b k = let e : loads_at z k ≡ loads_at u k = ap (λ (m : FinMap nat_cmp ℕ). unwrap_or (get m k) 0) loads in
    dite (dec_le (rank us z.sizes.slots k) o.rank)
    (λ l. let f = a.once k in let g = b.once k l in omega (arith, e, f, g))
    (λ l. let far : o.rank < rank us u.sizes.slots k = subst (λ (y : HeapSize). o.rank < rank us y.slots k) sizes (omega (arith, l)) in
    let f = a.ahead k far in let g = b.most k in omega (arith, e, f, g))
