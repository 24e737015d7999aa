-- Lines, one after the other.
use Rattle.std.proofs.Common.{◌≡◌, ◌⊎◌, ℕ, zero, suc, ◌+◌, ◌<◌, List, [], ◌∷◌, ◌++◌, length, map, take, drop, refl, sym, ap, ◌∙◌, subst, arith, Option, Some, None, Err}
use Rattle.std.specs.List.{prefix_len}
use Rattle.std.proofs.lemmas.List.{append_assoc, append-nil, length-append, map-append}
use Rattle.heap_schedule.specs.Fields.{differs, fields_between}
use Rattle.heap_schedule.specs.Lines.{Turn, turn_named}
use Rattle.heap_schedule.specs.Text.{GivesLines, GivesSchedule, ScheduleLines, Reading, lines_after, lines_from, reads, refuses, made_then, making_in, onto}
use Rattle.heap_schedule.specs.Text.{open_line, refused, schedule_by, schedule_of, turn_in, turn_then, turns}
use Rattle.heap_schedule.specs.declared.line.Line.{Line}
use Rattle.heap_schedule.specs.declared.line.Making.{Making}
use Rattle.heap_schedule.specs.declared.text.TextStop.{TextStop}
use Rattle.heap_schedule.specs.declared.text.TextStop.TheVariants as stop
use Rattle.heap_schedule.proofs.Pieces.{pieces_behind, pieces_some, pieces_whole}

abbrev pub behind : List Turn → ScheduleLines → ScheduleLines
behind ts (turns us) = turns (ts ++ us)
behind ts (refused k) = refused k

pub behind_none : (r : ScheduleLines) → behind [] r ≡ r
behind_none (turns us) = refl
behind_none (refused k) = refl

pub one_more : (ts : List Turn) (t : Turn) (r : ScheduleLines) → behind ts (onto t r) ≡ behind (ts ++ t ∷ []) r
one_more ts t (turns us) = ap turns (sym (append_assoc ts (t ∷ []) us))
one_more ts t (refused k) = refl

lines_cut : (k : ℕ) (bs rest : List ℕ) (n : ℕ) → prefix_len (differs 10) bs ≡ n → n < length bs → rest ≡ drop (n + 1) bs
    → lines_from k (fields_between 10 bs) ≡ turn_then k (turn_in (take n bs)) (lines_from (suc k) (fields_between 10 rest))
lines_cut k bs rest n e h is =
    let s = pieces_some 10 rest in
    ap (lines_from k) (pieces_behind 10 bs rest n e h is)
    ∙ subst (λ ps. lines_from k (take n bs ∷ ps) ≡ turn_then k (turn_in (take n bs)) (lines_from (suc k) ps)) (sym s.2) refl

open_is : (k : ℕ) (bs : List ℕ) → 0 < length bs → open_line k bs ≡ refused k
open_is k [] h = absurd (omega arith)
open_is k (c ∷ cs) h = refl

-- a line without an end
pub lines_open : (ts : List Turn) (k : ℕ) (bs : List ℕ) (n : ℕ) → prefix_len (differs 10) bs ≡ n → n ≡ length bs → 0 < length bs
    → behind ts (lines_from k (fields_between 10 bs)) ≡ refused k
lines_open ts k bs n e at h = ap (λ ps. behind ts (lines_from k ps)) (pieces_whole 10 bs (e ∙ at)) ∙ ap (behind ts) (open_is k bs h)

-- a line that is not of the form
pub lines_bad : (ts : List Turn) (k : ℕ) (bs : List ℕ) (n : ℕ) → prefix_len (differs 10) bs ≡ n → n < length bs → turn_in (take n bs) ≡ None
    → behind ts (lines_from k (fields_between 10 bs)) ≡ refused k
lines_bad ts k bs n e h is =
    let rest = drop (n + 1) bs in
    ap (behind ts) (lines_cut k bs rest n e h refl) ∙ ap (λ x. behind ts (turn_then k x (lines_from (suc k) (fields_between 10 rest)))) is

-- a line, and more behind it
pub lines_more : (xs ys : List Line) (x : Line) (bs rest : List ℕ) (n : ℕ) → prefix_len (differs 10) bs ≡ n → n < length bs
    → rest ≡ drop (n + 1) bs → turn_in (take n bs) ≡ Some (turn_named x) → ys ≡ xs ++ x ∷ []
    → behind (map turn_named ys) (lines_from (length ys + 2) (fields_between 10 rest)) ≡ behind (map turn_named xs) (lines_from (length xs + 2) (fields_between 10 bs))
lines_more xs ys x bs rest n e h is found added =
    let more : map turn_named ys ≡ map turn_named xs ++ turn_named x ∷ [] = ap (map turn_named) added ∙ map-append turn_named xs (x ∷ []) in
    let long : length ys + 2 ≡ suc (length xs + 2) = omega (arith, ap length added, length-append xs (x ∷ [])) in
    ap (λ ts. behind ts (lines_from (length ys + 2) (fields_between 10 rest))) more
    ∙ ap (λ k. behind (map turn_named xs ++ turn_named x ∷ []) (lines_from k (fields_between 10 rest))) long
    ∙ sym (ap (behind (map turn_named xs)) (lines_cut (length xs + 2) bs rest n e h is)
    ∙ ap (λ t. behind (map turn_named xs) (turn_then (length xs + 2) t (lines_from (suc (length xs + 2)) (fields_between 10 rest)))) found
    ∙ one_more (map turn_named xs) (turn_named x) (lines_from (suc (length xs + 2)) (fields_between 10 rest)))

-- the end
pub lines_end : (ts : List Turn) (k : ℕ) (bs : List ℕ) → length bs ≡ 0 → behind ts (lines_from k (fields_between 10 bs)) ≡ turns ts
lines_end ts k [] h = ap turns (append-nil ts)
lines_end ts k (c ∷ cs) h = absurd (omega (arith, h))

-- the first line
first_cut : (bs rest : List ℕ) (n : ℕ) → prefix_len (differs 10) bs ≡ n → n < length bs → rest ≡ drop (n + 1) bs
    → schedule_of bs ≡ made_then (making_in (take n bs)) (lines_from 2 (fields_between 10 rest))
first_cut bs rest n e h is =
    let s = pieces_some 10 rest in
    ap schedule_by (pieces_behind 10 bs rest n e h is)
    ∙ subst (λ ps. schedule_by (take n bs ∷ ps) ≡ made_then (making_in (take n bs)) (lines_from 2 ps)) (sym s.2) refl

pub first_made : (bs rest : List ℕ) (n : ℕ) (m : Making) → prefix_len (differs 10) bs ≡ n → n < length bs → rest ≡ drop (n + 1) bs
    → making_in (take n bs) ≡ Some m → schedule_of bs ≡ lines_after m (lines_from 2 (fields_between 10 rest))
first_made bs rest n m e h is made = first_cut bs rest n e h is ∙ ap (λ x. made_then x (lines_from 2 (fields_between 10 rest))) made

pub first_bad : (bs : List ℕ) (n : ℕ) → prefix_len (differs 10) bs ≡ n → n < length bs → making_in (take n bs) ≡ None
    → schedule_of bs ≡ refuses 1
first_bad bs n e h none = first_cut bs (drop (n + 1) bs) n e h refl ∙ ap (λ x. made_then x (lines_from 2 (fields_between 10 (drop (n + 1) bs)))) none

pub first_open : (bs : List ℕ) (n : ℕ) → prefix_len (differs 10) bs ≡ n → n ≡ length bs → schedule_of bs ≡ refuses 1
first_open bs n e at = ap schedule_by (pieces_whole 10 bs (e ∙ at))

-- the other lines
pub lines_stop : (r : Reading) (m : Making) (ls : ScheduleLines) (stop : TextStop) → r ≡ lines_after m ls → GivesLines (Err stop) ls → GivesSchedule (Err stop) r
lines_stop r m ls (stop.Refused k) is bad = is ∙ ap (lines_after m) bad
lines_stop r m ls stop.Memory is bad = tt

pub lines_whole : (r : Reading) (m : Making) (ls : ScheduleLines) (ts : List Turn) → r ≡ lines_after m ls → ls ≡ turns ts → r ≡ reads m ts
lines_whole r m ls ts is whole = is ∙ ap (lines_after m) whole
