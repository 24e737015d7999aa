-- The events of lines, and lines one after the other.
use Rattle.std.proofs.Common.{◌≡◌, ℕ, zero, suc, ◌+◌, ◌<◌, ◌≤◌, List, [], ◌∷◌, ◌++◌, length, take, drop, get_or, map, refl, sym, ap, ◌∙◌, subst, arith, Option, Some, None, Result, Ok, Err}
use Rattle.std.specs.Prelude.{IsSome, IfOk, OnErr}
use Rattle.std.proofs.lemmas.List.{length-append, length-map}
use Rattle.heap_schedule.specs.declared.line.Line.{Line}
use Rattle.heap_core.specs.Core.{Core}
use Rattle.heap_core.specs.declared.event.Event.{Event}
use Rattle.heap_core.specs.declared.event.Event.TheVariants as event
use Rattle.heap_core.specs.declared.event.Refusal.{Refusal}
use Rattle.heap_core.specs.declared.event.Refusal.TheVariants.{NotEnabled, Memory}
use Rattle.heap_core.specs.Events.{Enabled, IsSoundCore, after, found}
use Rattle.heap_schedule.specs.Lines.{Turn, turn_named, enters, loads_slot, turn_of}
use Rattle.heap_schedule.specs.Play.{CanPlay, CanPlayAll, EndsAfter, IsEntering, IsOver, IsPlayed, all_played, slot_units, played, word_for, words_for}

may : (s : Core) (e : Event) → Enabled s e → CanPlay s (turn_of e)
may s (event.Make z a) h = h
may s (event.Split j g) h = h
may s (event.Join j o) h = h
may s (event.LoadCounter j k) h = h
may s (event.Claim j k at want) h = h
may s (event.StoreWord j c n) h = h
may s (event.StoreLength j i n) h = h
may s (event.Birth j i f) h = h
may s (event.LoadHeader j i len names) h = h
may s (event.LoadWord j c names) h = h
may s (event.Flatten j i old new names) h = h
may s (event.Thin j i old t names) h = h
may s (event.LoadSlot j k entry names) h = h
may s (event.TakeSlot j k i names) h = h

pub may_back : (s : Core) (e : Event) → CanPlay s (turn_of e) → Enabled s e
may_back s (event.Make z a) h = h
may_back s (event.Split j g) h = h
may_back s (event.Join j o) h = h
may_back s (event.LoadCounter j k) h = h
may_back s (event.Claim j k at want) h = h
may_back s (event.StoreWord j c n) h = h
may_back s (event.StoreLength j i n) h = h
may_back s (event.Birth j i f) h = h
may_back s (event.LoadHeader j i len names) h = h
may_back s (event.LoadWord j c names) h = h
may_back s (event.Flatten j i old new names) h = h
may_back s (event.Thin j i old t names) h = h
may_back s (event.LoadSlot j k entry names) h = h
may_back s (event.TakeSlot j k i names) h = h

pub same_after : (s : Core) (e : Event) → after s e ≡ played s (turn_of e)
same_after s (event.Make z a) = refl
same_after s (event.Split j g) = refl
same_after s (event.Join j o) = refl
same_after s (event.LoadCounter j k) = refl
same_after s (event.Claim j k at want) = refl
same_after s (event.StoreWord j c n) = refl
same_after s (event.StoreLength j i n) = refl
same_after s (event.Birth j i f) = refl
same_after s (event.LoadHeader j i len names) = refl
same_after s (event.LoadWord j c names) = refl
same_after s (event.Flatten j i old new names) = refl
same_after s (event.Thin j i old t names) = refl
same_after s (event.LoadSlot j k entry names) = refl
same_after s (event.TakeSlot j k i names) = refl

same_word : (s : Core) (e : Event) → found s e ≡ word_for s (turn_of e)
same_word s (event.Make z a) = refl
same_word s (event.Split j g) = refl
same_word s (event.Join j o) = refl
same_word s (event.LoadCounter j k) = refl
same_word s (event.Claim j k at want) = refl
same_word s (event.StoreWord j c n) = refl
same_word s (event.StoreLength j i n) = refl
same_word s (event.Birth j i f) = refl
same_word s (event.LoadHeader j i len names) = refl
same_word s (event.LoadWord j c names) = refl
same_word s (event.Flatten j i old new names) = refl
same_word s (event.Thin j i old t names) = refl
same_word s (event.LoadSlot j k entry names) = refl
same_word s (event.TakeSlot j k i names) = refl

-- what an event did is what its line does
pub plays_event : (s t : Core) (e : Event) (r : Result ℕ Refusal) → IfOk r (λ _. Enabled s e) → IfOk r (λ _. t ≡ after s e) → IfOk r (λ x. x ≡ found s e)
    → (r ≡ Err NotEnabled → Enabled s e → ⊥) → OnErr r (t ≡ s) → IfOk r (λ _. IsSoundCore t) → IsPlayed s (turn_of e) t r
plays_event s t e (Ok x) en af fo refused un so = (may s e en, af ∙ same_after s e, fo ∙ same_word s e, so)
plays_event s t e (Err NotEnabled) en af fo refused un so = ((λ h. refused refl (may_back s e h)), un)
plays_event s t e (Err Memory) en af fo refused un so = un

of_slot : (s t : Core) (j k : ℕ) (names : List ℕ) (r : Result ℕ Refusal) → IsSome (slot_units s j k) → IsPlayed s (loads_slot j k (slot_units s j k) names) t r
    → IsPlayed s (enters j k names) t r
of_slot s t j k names (Ok x) some p = ((some, p.0), p.1, p.2, p.3)
of_slot s t j k names (Err NotEnabled) some p = ((λ h. p.0 h.1), p.1)
of_slot s t j k names (Err Memory) some p = p

pub plays_entering : (s t : Core) (j k : ℕ) (names : List ℕ) (e : Event) (r : Result ℕ Refusal) → IsEntering s j k names (Ok e) → IsPlayed s (turn_of e) t r
    → IsPlayed s (enters j k names) t r
plays_entering s t j k names e r is p = of_slot s t j k names r is.0 (subst (λ l. IsPlayed s l t r) is.1 p)

pub no_entering : (s t : Core) (j k : ℕ) (names : List ℕ) (refusal : Refusal) → IsEntering s j k names (Err refusal) → t ≡ s
    → IsPlayed s (enters j k names) t (Err refusal)
no_entering s t j k names NotEnabled is e = ((λ h. let none = is in let some = h.0 in absurd (cc)), e)
no_entering s t j k names Memory is e = e

-- one more line
pub played_more : (ts : List Turn) (t : Turn) (s : Core) → all_played (ts ++ t ∷ []) s ≡ played (all_played ts s) t
played_more [] t s = refl
played_more (u ∷ us) t s = played_more us t (played s u)

pub words_more : (ts : List Turn) (t : Turn) (s : Core) → words_for (ts ++ t ∷ []) s ≡ words_for ts s ++ word_for (all_played ts s) t ∷ []
words_more [] t s = refl
words_more (u ∷ us) t s = ap (λ xs. word_for s u ∷ xs) (words_more us t (played s u))

pub may_more : (ts : List Turn) (t : Turn) (s : Core) → CanPlayAll ts s → CanPlay (all_played ts s) t → CanPlayAll (ts ++ t ∷ []) s
may_more [] t s all h = (h, tt)
may_more (u ∷ us) t s all h = (all.0, may_more us t (played s u) all.1 h)

-- the line at a place of a list of lines
pub take_line : (xs : List Line) (i : ℕ) (x d : Line) → i < length xs → x ≡ get_or xs i d
    → take (suc i) (map turn_named xs) ≡ take i (map turn_named xs) ++ turn_named x ∷ []
take_line [] i x d h e = absurd (omega arith)
take_line (y ∷ ys) zero x d h e = ap (λ z. turn_named z ∷ []) (sym e)
take_line (y ∷ ys) (suc i) x d h e = ap (λ l. turn_named y ∷ l) (take_line ys i x d (omega arith) e)

pub drop_line : (xs : List Line) (i : ℕ) (x d : Line) → i < length xs → x ≡ get_or xs i d
    → drop i (map turn_named xs) ≡ turn_named x ∷ drop (suc i) (map turn_named xs)
drop_line [] i x d h e = absurd (omega arith)
drop_line (y ∷ ys) zero x d h e = ap (λ z. turn_named z ∷ map turn_named ys) (sym e)
drop_line (y ∷ ys) (suc i) x d h e = drop_line ys i x d (omega arith) e

-- the first i lines were played, and found these words
pub record ArePlayed (ts : List Turn) (i : ℕ) (s t : Core) (xs : List ℕ) : Type 0 where
  pub within : i ≤ length ts
  pub long : length xs ≡ i
  pub may : CanPlayAll (take i ts) s
  pub after : t ≡ all_played (take i ts) s
  pub found : xs ≡ words_for (take i ts) s
  pub sound : IsSoundCore t

played_next : (ls : List Line) (i : ℕ) (x d : Line) (s t u : Core) (xs ys : List ℕ) (w : ℕ) → i < length ls → x ≡ get_or ls i d
    → ArePlayed (map turn_named ls) i s t xs → IsPlayed t (turn_named x) u (Ok w) → ys ≡ xs ++ w ∷ [] → ArePlayed (map turn_named ls) (suc i) s u ys
played_next ls i x d s t u xs ys w h e p q added =
    let front = take i (map turn_named ls) in
    let step = take_line ls i x d h e in
    let here : CanPlay (all_played front s) (turn_named x) = subst (λ c. CanPlay c (turn_named x)) p.after q.0 in
    record {
      within = omega (arith, length-map ls turn_named);
      long = ap length added ∙ length-append xs (w ∷ []) ∙ omega (arith, p.long);
      may = subst (λ ts. CanPlayAll ts s) (sym step) (may_more front (turn_named x) s p.may here);
      after = q.1 ∙ ap (λ c. played c (turn_named x)) p.after ∙ sym (ap (λ ts. all_played ts s) step ∙ played_more front (turn_named x) s);
      found = added ∙ ap (λ l. l ++ w ∷ []) p.found ∙ ap (λ v. words_for front s ++ v ∷ []) (q.2 ∙ ap (λ c. word_for c (turn_named x)) p.after)
          ∙ sym (ap (λ ts. words_for ts s) step ∙ words_more front (turn_named x) s);
      sound = q.3;
    }

pub one_played : (ls : List Line) (i : ℕ) (x d : Line) (s t u : Core) (xs ys : List ℕ) (w : ℕ) → i < length ls → x ≡ get_or ls i d
    → ArePlayed (map turn_named ls) i s t xs → IsPlayed t (turn_named x) u (Ok w) → ys ≡ xs ++ w ∷ [] → ArePlayed (map turn_named ls) (i + 1) s u ys
one_played ls i x d s t u xs ys w h e p q added =
    let one : suc i ≡ i + 1 = omega arith in
    subst (λ n. ArePlayed (map turn_named ls) n s u ys) one (played_next ls i x d s t u xs ys w h e p q added)

-- the next line may not be played
pub ends_here : (ls : List Line) (i : ℕ) (x d : Line) (s t u : Core) (xs : List ℕ) → i < length ls → x ≡ get_or ls i d
    → ArePlayed (map turn_named ls) i s t xs → IsPlayed t (turn_named x) u (Err NotEnabled) → EndsAfter (map turn_named ls) s i
ends_here ls i x d s t u xs h e p q = record {
  within = p.within;
  play = p.may;
  over = subst (λ ts. IsOver (all_played (take i (map turn_named ls)) s) ts) (sym (drop_line ls i x d h e))
      (subst (λ c. CanPlay c (turn_named x) → ⊥) p.after q.0);
}

nothing_left : (ts : List Turn) (i : ℕ) (s : Core) → length ts ≤ i → IsOver s (drop i ts)
nothing_left [] zero s h = tt
nothing_left [] (suc i) s h = tt
nothing_left (t ∷ ts) zero s h = absurd (omega arith)
nothing_left (t ∷ ts) (suc i) s h = nothing_left ts i s (omega arith)

-- there is no further line
pub ends_last : (ls : List Line) (i : ℕ) (s t : Core) (xs : List ℕ) → length ls ≤ i → ArePlayed (map turn_named ls) i s t xs → EndsAfter (map turn_named ls) s i
ends_last ls i s t xs h p = record {
  within = p.within;
  play = p.may;
  over = nothing_left (map turn_named ls) i (all_played (take i (map turn_named ls)) s) (omega (arith, h, length-map ls turn_named));
}

pub none_played : (ls : List Line) (s : Core) (xs : List ℕ) → xs ≡ [] → IsSoundCore s → ArePlayed (map turn_named ls) 0 s s xs
none_played ls s xs e h = record {
  within = omega arith;
  long = ap length e;
  may = tt;
  after = refl;
  found = e;
  sound = h;
}
