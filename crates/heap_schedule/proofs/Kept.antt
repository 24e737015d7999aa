-- What a play keeps, from the laws of the machine.
use Rattle.std.proofs.Common.{◌≡◌, inr, ℕ, zero, suc, ◌+◌, ◌<◌, ◌≤◌, List, [], ◌∷◌, take, map, refl, sym, ap, ◌∙◌, subst, arith, Some, None}
use mathlib.Core.Option.{some-ne-none, some-injective}
use Rattle.js_header.specs.declared.form.Form.{Form}
use Rattle.heap_rule.specs.Sound.{At}
use Rattle.heap_core.specs.declared.event.Event.{Event}
use Rattle.heap_core.specs.declared.event.Event.TheVariants as event
use Rattle.heap_core.specs.Core.{Core}
use Rattle.heap_core.specs.Events.{AreEnabled, Enabled, IsSoundCore, Kept, KeepsUnits, after}
use Rattle.heap_core.proofs.EveryRun.{runs_keep, runs_legal, runs_sound}
use Rattle.heap_core.proofs.Kept.{birth_born}
use Rattle.heap_schedule.specs.declared.line.Line.{Line}
use Rattle.heap_schedule.specs.declared.line.Line.TheVariants as line
use Rattle.heap_schedule.specs.Lines.{Turn, turn_named, plain}
use Rattle.heap_schedule.specs.Play.{CanPlay, CanPlayAll, EndsAfter, all_played, slot_units, played}
use Rattle.heap_schedule.specs.Kept.{IsBornIn, AreLinesKept, WasPlayed}
use Rattle.heap_schedule.proofs.Played.{may_back, same_after}

-- the event of a line
abbrev event_in : Core → Line → Event
event_in s (line.Event e) = e
event_in s (line.Enter j k names) = event.LoadSlot j k (slot_units s j k) names

line_may : (s : Core) (l : Line) → CanPlay s (turn_named l) → Enabled s (event_in s l)
line_may s (line.Event e) may = may_back s e may
line_may s (line.Enter j k names) may = may.1

line_after : (s : Core) (l : Line) → after s (event_in s l) ≡ played s (turn_named l)
line_after s (line.Event e) = same_after s e
line_after s (line.Enter j k names) = refl

line_keeps : (s : Core) (l : Line) → IsSoundCore s → CanPlay s (turn_named l) → Kept s (played s (turn_named l))
line_keeps s l h may =
    let es = event_in s l ∷ [] in
    let en : AreEnabled es s = (line_may s l may, tt) in
    subst (Kept s) (line_after s l) (runs_sound s es h en, runs_keep s es (inr h) en)

same : (s : Core) → IsSoundCore s → Kept s s
same s h = (h, λ i b. (b, refl))

then_kept : (s t u : Core) → Kept s t → Kept t u → Kept s u
then_kept s t u one more = (more.0, λ i b. let x = one.1 i b in let y = more.1 i x.0 in (y.0, y.1 ∙ x.1))

-- the first n lines
lines_keep : (ls : List Line) (n : ℕ) (s : Core) → IsSoundCore s → CanPlayAll (take n (map turn_named ls)) s → Kept s (all_played (take n (map turn_named ls)) s)
lines_keep [] zero s h may = same s h
lines_keep [] (suc n) s h may = same s h
lines_keep (l ∷ ls) zero s h may = same s h
lines_keep (l ∷ ls) (suc n) s h may =
    let one = line_keeps s l h may.0 in
    then_kept s (played s (turn_named l)) (all_played (take n (map turn_named ls)) (played s (turn_named l))) one (lines_keep ls n (played s (turn_named l)) one.0 may.1)

-- of those the lines behind the first k
keeps_from : (ls : List Line) (n k : ℕ) (s : Core) → k ≤ n → IsSoundCore s → CanPlayAll (take n (map turn_named ls)) s
    → IsSoundCore (all_played (take k (map turn_named ls)) s) × KeepsUnits (all_played (take k (map turn_named ls)) s) (all_played (take n (map turn_named ls)) s)
keeps_from [] zero zero s le h may = same s h
keeps_from [] zero (suc k) s le h may = absurd (omega arith)
keeps_from [] (suc n) zero s le h may = same s h
keeps_from [] (suc n) (suc k) s le h may = same s h
keeps_from (l ∷ ls) zero zero s le h may = same s h
keeps_from (l ∷ ls) zero (suc k) s le h may = absurd (omega arith)
keeps_from (l ∷ ls) (suc n) zero s le h may = (h, (lines_keep (l ∷ ls) (suc n) s h may).1)
keeps_from (l ∷ ls) (suc n) (suc k) s le h may = keeps_from ls n k (played s (turn_named l)) (omega arith) (line_keeps s l h may.0).0 may.1

-- a birth among them
birth_bears : (s : Core) (t : Turn) (j i : ℕ) (f : Form) → IsSoundCore s → t ≡ plain (event.Birth j i f) → CanPlay s t → IsBornIn (played s t) i
birth_bears s t j i f h is may = subst (λ u. CanPlay s u → IsBornIn (played s u) i) (sym is) (λ m. birth_born s j i f (inr h) m) may

bears : (ls : List Line) (n k : ℕ) (s : Core) (j i : ℕ) (f : Form) → k < n → IsSoundCore s → CanPlayAll (take n (map turn_named ls)) s
    → At (map turn_named ls) k (plain (event.Birth j i f)) → IsBornIn (all_played (take (suc k) (map turn_named ls)) s) i
bears [] n k s j i f lt h may at = absurd (some-ne-none (plain (event.Birth j i f)) (sym at))
bears (l ∷ ls) zero k s j i f lt h may at = absurd (omega arith)
bears (l ∷ ls) (suc n) zero s j i f lt h may at = birth_bears s (turn_named l) j i f h (some-injective (turn_named l) (plain (event.Birth j i f)) at) may.0
bears (l ∷ ls) (suc n) (suc k) s j i f lt h may at = bears ls n k (played s (turn_named l)) j i f (omega arith) (line_keeps s l h may.0).0 may.1 at

all_kept : (ls : List Line) (n : ℕ) (s : Core) → IsSoundCore s → CanPlayAll (take n (map turn_named ls)) s → AreLinesKept (map turn_named ls) s n
all_kept ls n s h may = record {
  born = λ k i lt at.
      let next : suc k ≡ k + 1 = omega arith in
      subst (λ x. IsBornIn (all_played (take x (map turn_named ls)) s) i) next (bears ls n k s at.0 i at.1 lt h may at.2);
  units = λ k le. (keeps_from ls n k s le h may).1;
  legal = λ k le. runs_legal (all_played (take k (map turn_named ls)) s) [] (inr (keeps_from ls n k s le h may).0) tt;
}

pub play_kept : (ls : List Line) (n : ℕ) (s : Core) → IsSoundCore s → EndsAfter (map turn_named ls) s n → WasPlayed (map turn_named ls) s n
play_kept ls n s h ends = record { ends = ends; kept = all_kept ls n s h ends.play }
