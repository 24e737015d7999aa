-- Each event on a word is a step of its kind.
use Rattle.std.proofs.Common.{◌≡◌, ℕ, ◌+◌, true, false, cond, List, get_or, set, eqb, sym, refl}
use Rattle.std.proofs.lemmas.List.{set-get_or}
use Rattle.heap_rule.specs.declared.view.View.{View}
use Rattle.heap_rule.specs.Layout.{counter_at, content_at, length_at, form_at, slot_at}
use Rattle.heap_rule.specs.Claims.{loaded_counter, claimed}
use Rattle.heap_rule.specs.Births.{stored_word, stored_length, born}
use Rattle.heap_rule.specs.Learning.{learned}
use Rattle.heap_rule.specs.Loads.{loaded_form, loaded_length, loaded_word}
use Rattle.heap_rule.specs.Slots.{loaded_slot, took_slot}
use Rattle.heap_rule.specs.Agents.{spent}
use Rattle.heap_rule.specs.Sound.{At}
use Rattle.js_header.specs.Form.{word_of}
use Rattle.js_header.specs.declared.form.Form.TheVariants as form
use Rattle.heap_rule.specs.HeaderMoves.{flattened, thinned}
use Rattle.heap_core.specs.declared.event.Event.TheVariants.{Make, Split, Join, LoadCounter, Claim, StoreWord, StoreLength, Birth, LoadHeader, LoadWord, Flatten, Thin, LoadSlot, TakeSlot}
use Rattle.heap_core.specs.Core.{Core, core}
use Rattle.heap_core.specs.Events.{view_at}
use Rattle.heap_core.specs.Steps.{EventsAreSteps}
use Rattle.heap_rule.proofs.ListLemmas.{at_index}

-- the view at j is v, so what becomes of it is the same
same_step : (s : Core) (j : ℕ) (v : View) → At s.views j v → (f : View → View) (ws ws' : List ℕ) → ws ≡ ws' → core s.size s.agents ws
    (set s.views j (f (view_at s j))) ≡ core s.size s.agents ws' (set s.views j (f v))
same_step s j v at f ws ws' e = λ i. core s.size s.agents (e i) (set s.views j (f (at_index s.views j v spent at i)))

-- a load puts back what it found
put_back : (s : Core) (p : ℕ) → s.words ≡ set s.words p (get_or s.words p 0)
put_back s p = sym (set-get_or s.words p 0)

pub events_are_steps : EventsAreSteps
events_are_steps s (Make z agents) en = tt
events_are_steps s (Split j give) en = tt
events_are_steps s (Join j other) en = tt
events_are_steps s (LoadCounter j k) en = let x : ℕ = get_or s.words (counter_at k) 0 in
    (en.0, en.1, en.2, (tt, same_step s j en.0 en.1 (λ v. loaded_counter v k x) s.words (set s.words (counter_at k) x) (put_back s (counter_at k))))
events_are_steps s (Claim j k a want) en = let x : ℕ = get_or s.words (counter_at k) 0 in let ws : List ℕ = set s.words (counter_at k) (cond (eqb x a) (a + want) x) in
    (en.0, en.1, en.2, (en.3, same_step s j en.0 en.1 (λ v. claimed v k a want x) ws ws refl))
events_are_steps s (StoreWord j c n) en = let ws : List ℕ = set s.words (content_at s.size c) n in (en.0, en.1, en.2, (en.3, same_step s j en.0 en.1 (λ v. stored_word v c n) ws ws refl))
events_are_steps s (StoreLength j i n) en = let ws : List ℕ = set s.words (length_at s.size i) n in (en.0, en.1, en.2, (en.3, same_step s j en.0 en.1 (λ v. stored_length v i n) ws ws refl))
events_are_steps s (Birth j i f) en = let ws : List ℕ = set s.words (form_at s.size i) (word_of f) in (en.0, en.1, en.2, (en.3, same_step s j en.0 en.1 (λ v. born v i f) ws ws refl))
events_are_steps s (LoadHeader j i true names) en = let l = en.0 in let x : ℕ = get_or s.words (length_at s.size i) 0 in
    (l.0, l.1, l.2, (l.3, same_step s j l.0 l.1 (λ v. learned (loaded_length v i x) names.items) s.words (set s.words (length_at s.size i) x) (put_back s (length_at s.size i))))
events_are_steps s (LoadHeader j i false names) en = let l = en.0 in let x : ℕ = get_or s.words (form_at s.size i) 0 in
    (l.0, l.1, l.2, (l.3, same_step s j l.0 l.1 (λ v. learned (loaded_form v i x) names.items) s.words (set s.words (form_at s.size i) x) (put_back s (form_at s.size i))))
events_are_steps s (LoadWord j c names) en = let x : ℕ = get_or s.words (content_at s.size c) 0 in
    (en.0, en.1, en.2, (en.3.0, same_step s j en.0 en.1 (λ v. learned (loaded_word v c x) names.items) s.words (set s.words (content_at s.size c) x) (put_back s (content_at s.size c))))
events_are_steps s (Flatten j i old new names) en = let x : ℕ = get_or s.words (form_at s.size i) 0 in let ws : List ℕ = set s.words (form_at s.size i) (cond (eqb x (word_of old)) (word_of new) x) in
    (en.0, en.1, en.2, (en.3.0, same_step s j en.0 en.1 (λ v. learned (flattened v i old new x) names.items) ws ws refl))
events_are_steps s (Thin j i old t names) en = let x : ℕ = get_or s.words (form_at s.size i) 0 in
    let ws : List ℕ = set s.words (form_at s.size i) (cond (eqb x (word_of old)) (word_of (form.Thin t)) x) in
    (en.0, en.1, en.2, (en.3.0, same_step s j en.0 en.1 (λ v. learned (thinned v i old t x) names.items) ws ws refl))
events_are_steps s (LoadSlot j k entry names) en = let x : ℕ = get_or s.words (slot_at s.size k) 0 in
    (en.0, en.1, en.2, ((en.3.0, en.3.1), same_step s j en.0 en.1 (λ v. learned (loaded_slot v k entry x) names.items) s.words (set s.words (slot_at s.size k) x) (put_back s (slot_at s.size k))))
events_are_steps s (TakeSlot j k i names) en = let x : ℕ = get_or s.words (slot_at s.size k) 0 in let ws : List ℕ = set s.words (slot_at s.size k) (cond (eqb x 0) (i + 1) x) in
    (en.0, en.1, en.2, (en.3.0, same_step s j en.0 en.1 (λ v. learned (took_slot v k i x) names.items) ws ws refl))
