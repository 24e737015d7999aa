-- The short lists that are kept: their strings stay in their slots over each call, and interning one again finds it.
use Rattle.std.proofs.Common.{◌≡◌, ◌∙◌, ℕ, ◌<◌, List, Ok, Some, get_or, set, length, take, replicate, sym, ap, subst, arith}
use Rattle.std.proofs.lemmas.List.{get_or-set_same, get_or-set_other, get_or-replicate, length-replicate, length-set}
use Rattle.std.proofs.lemmas.Option.{get_or_from_slice_get, slice_get-get_or, slice_get_within}
use mathlib.Core.Logic.{dite}
use native.Mathlib.Decide.{ℕ_discrete}
use Rattle.heap_rule.specs.declared.view.View.{View}
use Rattle.heap_rule.specs.Sound.{IsPossible}
use Rattle.heap_table.specs.Known.{KeepsKnown}
use Rattle.heap_intern.specs.declared.table.kept.KeptKey.{KeptKey}
use Rattle.heap_intern.specs.declared.table.probing.Seat.{Seat}
use Rattle.heap_intern.specs.declared.table.searching.KeySearch.TheVariants.{Found}
use Rattle.heap_intern.specs.Answers.{FindsString, IsBehind, StandsInSlot, copy_plan}
use Rattle.heap_intern.specs.Given.{InternsGiven}
use Rattle.heap_intern.specs.KeptKeys.{AreKeptKeys, HasKept, IsKeptKey}
use Rattle.heap_intern.specs.Searching.{SearchesKey}
use Rattle.heap_intern.specs.Seats.{IsSeatOf}
use Rattle.heap_intern.proofs.Adopting.{one_units}
use Rattle.heap_intern.proofs.Again.{find_again}
use Rattle.heap_intern.proofs.Searches.{finds_ready}
use Rattle.heap_intern.proofs.Seats.{seat_of, seat_stays}

pub keys_by : (v w : View) → IsPossible v → KeepsKnown v w → w.sizes ≡ v.sizes → (keys : List KeptKey) → AreKeptKeys v keys → AreKeptKeys w keys
keys_by v w p k sizes keys h i key at short = seat_stays v w p k sizes (take key.len key.units) key.seat (h i key at short)

-- an entry, as it is read
kept_at : (v : View) (keys : List KeptKey) (i : ℕ) (d : KeptKey) → i < length keys → AreKeptKeys v keys → IsKeptKey v (get_or keys i d)
kept_at v keys i d less h = h i (get_or keys i d) (slice_get-get_or keys i d less)

seat_kept : (v : View) (k : KeptKey) (us : List ℕ) (s : Seat) → IsSeatOf v us s → HasKept k us s → IsKeptKey v k
seat_kept v k us s h x short = subst (λ (ws : List ℕ). IsSeatOf v ws k.seat) (sym x.1) (subst (IsSeatOf v us) (sym x.2) h)

-- entries without a list
pub keys_none : (v : View) (n : ℕ) (k : KeptKey) → 16 < k.len → AreKeptKeys v (replicate n k)
keys_none v n k long i key at short = let within = slice_get_within (replicate n k) i key at in let less : i < n = subst (λ (m : ℕ). i < m) (length-replicate n k) within in
    let same : key ≡ k = sym (get_or_from_slice_get (replicate n k) i key k at) ∙ get_or-replicate n i k k less in
    let e : key.len ≡ k.len = ap (λ (x : KeptKey). x.len) same in absurd (omega arith)

-- one entry more
keys_set : (v : View) (keys : List KeptKey) (place : ℕ) (k : KeptKey) → place < length keys → AreKeptKeys v keys → IsKeptKey v k → AreKeptKeys v (set keys place k)
keys_set v keys place k less h one i key at = dite (ℕ_discrete i place)
    (λ (e : i ≡ place). let same : key ≡ k = sym (get_or_from_slice_get (set keys place k) i key k at) ∙ (ap (λ (n : ℕ). get_or (set keys place k) n k) e ∙ get_or-set_same keys place k k less) in
    subst (IsKeptKey v) (sym same) one)
    (λ ne. let same : key ≡ get_or keys i k = sym (get_or_from_slice_get (set keys place k) i key k at) ∙ get_or-set_other keys place i k k ne in
    let within = subst (λ (n : ℕ). i < n) (length-set keys place k) (slice_get_within (set keys place k) i key at) in
    subst (IsKeptKey v) (sym same) (kept_at v keys i k within h))

-- one more list
pub keys_with : (v : View) (keys : List KeptKey) (place : ℕ) (k : KeptKey) (us : List ℕ) (s : Seat) → place < length keys → HasKept k us s → AreKeptKeys v keys → IsSeatOf v us s
    → AreKeptKeys v (set keys place k)
keys_with v keys place k us s less x h seat = keys_set v keys place k less h (seat_kept v k us s seat x)

-- a list that is kept is found by the one load that interns it again
pub kept_searched : (v w : View) (us : List ℕ) (s : Seat) → IsPossible v → IsPossible w → IsSeatOf v us s → InternsGiven v w us (Ok s.id) → SearchesKey v w us (Found s)
kept_searched v w us s p q seat g = let x = seat_of v s.id s.slot seat.2 in
    let stands : StandsInSlot v us s.id = (s.slot, seat.0, subst (λ (ws : List ℕ). IsBehind v ws s.slot) (one_units v s.id x.units us x.here seat.1) x.behind) in
    let f : FindsString v w us (Some s.id) = finds_ready v w us (copy_plan us) s.id (g.again s.id seat.1 stands).1 g.answer in record {
      finds = record {
        answer = f;
        again = λ i has at. find_again v w us p q i has at (Some s.id) f;
        few = g.few;
      };
      ends = tt;
    }
