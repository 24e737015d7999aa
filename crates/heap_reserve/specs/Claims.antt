-- What claiming in advance answers.
use Rattle.std.specs.Prelude.{◌≡◌, ◌⊎◌, ℕ, ◌<◌, Result, Ok, Err}
use Rattle.heap_rule.specs.declared.size.HeapSize.{HeapSize}
use Rattle.heap_rule.specs.declared.view.View.{View}
use Rattle.heap_table.specs.Full.{IsFull}
use Rattle.heap_text.specs.declared.faults.TextFull.TheVariants as full
use Rattle.heap_reserve.specs.declared.faults.ReserveFault.{ReserveFault}
use Rattle.heap_reserve.specs.declared.faults.ReserveFault.TheVariants.{Memory, Full}
use Rattle.heap_reserve.specs.declared.reserve.Reserve.{Reserve}
use Rattle.heap_reserve.specs.Reserves.{IsClaimed}

-- Fewer ids were claimed than requested, beside the words: the heap has none left; or there is no memory for
-- the list of those that are behind the first ones.
abbrev pub IsIdRefused : View → View → HeapSize → Reserve → Reserve → ℕ → ℕ → ReserveFault → Type 0
IsIdRefused v w z r s ids words Memory = (k : ℕ) × (0 < k) × (k < ids) × IsClaimed v w r s k words
IsIdRefused v w z r s ids words (Full (full.Ids f)) = IsFull f 1 z.ids × (w.low.ids ≡ f.at)
    × ((k : ℕ) × (k < ids) × IsClaimed v w r s k words)
IsIdRefused v w z r s ids words (Full (full.Words f)) = ⊥

-- All was claimed; or nothing was, as there are not that many words, or there is no memory for the list of
-- ids; or ids are missing.
abbrev pub IsClaimAnswer : View → View → HeapSize → Reserve → Reserve → ℕ → ℕ → Result (Unit {0}) ReserveFault
    → Type 0
IsClaimAnswer v w z r s ids words (Ok u) = IsClaimed v w r s ids words
IsClaimAnswer v w z r s ids words (Err (Full (full.Words f))) = IsFull f words z.words × (w.low.words ≡ f.at)
    × IsClaimed v w r s 0 0
IsClaimAnswer v w z r s ids words (Err Memory) = IsClaimed v w r s 0 0
    ⊎ IsIdRefused v w z r s ids words Memory
IsClaimAnswer v w z r s ids words (Err f) = IsIdRefused v w z r s ids words f
