-- What is noted stays right, since what is known stays known.
use Rattle.std.proofs.Common.{◌≡◌, ℕ, zero, suc, ◌-◌, ◌<◌, Bool, true, false, if◌then◌else◌, List, [], ◌∷◌, ◌++◌, Option, None, Some, length, replicate, take, sym, subst, arith}
use Rattle.std.specs.Prelude.{IfSome}
use Rattle.heap_rule.specs.declared.view.View.{View}
use Rattle.heap_rule.specs.Sound.{IsPossible}
use Rattle.heap_table.specs.Known.{KeepsKnown}
use Rattle.heap_intern.proofs.Hashes.{hashes_kept}
use Rattle.heap_intern.proofs.KeptKeys.{keys_by, keys_none}
use Rattle.heap_intern.proofs.Seats.{seats_kept}
use Rattle.heap_intern.specs.declared.table.kept.KeptKey.{KeptKey}
use Rattle.heap_intern.specs.Hashes.{AreHashes}
use Rattle.heap_intern.specs.KeptKeys.{AreKeptKeys}
use Rattle.heap_intern.specs.Seats.{AreSeats}
use Rattle.heap_notes.specs.declared.seats.Seats.{Seats}
use Rattle.heap_notes.specs.Noted.{AreNoted}

pub notes_kept : (v w : View) → IsPossible v → KeepsKnown v w → w.sizes ≡ v.sizes → (s : Seats) → AreNoted v s → AreNoted w s
notes_kept v w p known sizes s h = (
  seats_kept v w p known sizes s.slots.items h.0,
  hashes_kept v w known s.hashes.items h.1,
  keys_by v w p known sizes s.keys.items h.2,
)

pub some_then : {A : Type 0} (r : Option A) (P Q : A → Type 0) → ((a : A) → P a → Q a) → IfSome r P → IfSome r Q
some_then None P Q f h = tt
some_then (Some a) P Q f h = f a h

-- no lists are kept
pub keys_empty : (v : View) → AreKeptKeys v []
keys_empty v i key at = let bad : None ≡ Some key = at in absurd (cc)

-- room for lists, where there was none
keys_room : (v : View) (n m : ℕ) (k : KeptKey) (keys : List KeptKey) → length keys ≡ 0 → 16 < k.len → AreKeptKeys v (take n keys ++ replicate (n - m) k)
keys_room v zero m k [] e long = keys_none v (zero - m) k long
keys_room v (suc n) m k [] e long = keys_none v (suc n - m) k long
keys_room v n m k (x ∷ keys) e long = absurd (omega (arith, e))

-- also where it was refused
pub keys_grown : (v : View) (is : Bool) (n m : ℕ) (k : KeptKey) (keys : List KeptKey) → length keys ≡ 0 → 16 < k.len → AreKeptKeys v keys
    → AreKeptKeys v (if is then take n keys ++ replicate (n - m) k else keys)
keys_grown v true n m k keys e long h = keys_room v n m k keys e long
keys_grown v false n m k keys e long h = h

-- what is noted once there is room for lists
pub notes_reached : (v : View) (s t : Seats) → t.slots ≡ s.slots → t.hashes ≡ s.hashes → ((u : View) → AreKeptKeys u s.keys.items → AreKeptKeys u t.keys.items) → AreNoted v s
    → AreNoted v t
notes_reached v s t slots hashes keys h = (
  subst (λ (l : List ℕ). AreSeats v l) (λ i. (sym slots i).items) h.0,
  subst (λ (l : List ℕ). AreHashes v l) (λ i. (sym hashes i).items) h.1,
  keys v h.2,
)
