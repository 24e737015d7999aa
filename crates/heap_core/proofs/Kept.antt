-- Each enabled event keeps the rule, and the units of the born ids.
use Rattle.std.proofs.Common.{◌≡◌, ◌≢◌, ℕ, ◌+◌, ◌<◌, ◌≤◌, inr, ⊎_elim, cond, List, [], get_or, set, sym, refl, ap, ◌∙◌, subst, arith, Result, Ok, Err, eqb, eqb-true, get_or-set_same}
use Rattle.std.specs.Prelude.{IfOk, OnErr}
use Rattle.js_header.specs.Form.{word_of}
use Rattle.js_header.specs.declared.form.Form.{Form}
use Rattle.js_header.specs.declared.form.Form.TheVariants as form
use Rattle.js_header.specs.declared.form.Form.TheVariants.{Unborn, Flat, Cons, Sliced}
use Rattle.heap_rule.specs.declared.view.View.{View}
use Rattle.heap_core.specs.declared.event.Refusal.{Refusal}
use Rattle.heap_core.specs.declared.event.Refusal.TheVariants.{NotEnabled, Memory}
use Rattle.heap_core.specs.declared.event.Event.{Event}
use Rattle.heap_core.specs.declared.event.Event.TheVariants.{Make, Split, Join, LoadCounter, Claim, StoreWord, StoreLength, Birth, LoadHeader, LoadWord, Flatten, Thin, LoadSlot, TakeSlot}
use Rattle.heap_rule.specs.Layout.{counter_at, content_at, length_at, form_at, slot_at, IsBorn}
use Rattle.heap_rule.specs.Layout as layout
use Rattle.heap_rule.specs.Maps.{HasKey}
use Rattle.heap_rule.specs.Sound.{total}
use Rattle.heap_core.specs.Core.{Core, core}
use Rattle.heap_core.specs.Events.{IsCore, IsSoundCore, LiveAt, Enabled, after, found, Applied, KeepsUnits, Kept, BornBy}
use Rattle.heap_rule.specs.Claims.{loaded_counter, MayClaim, won_claim}
use Rattle.heap_rule.specs.Births.{stored_word, MayStoreLength, stored_length, FormFits, MayBear}
use Rattle.heap_rule.specs.HeaderMoves.{MayFlatten, flattened, MayThin, thinned}
use Rattle.heap_rule.specs.Views.{MayUse}
use Rattle.heap_rule.specs.Learning.{MayLearn}
use Rattle.heap_rule.specs.Loads.{MayLoadWord, loaded_word}
use Rattle.heap_rule.specs.Slots.{MayEnter, loaded_slot, MayTakeSlot, took_slot}
use Rattle.heap_rule.specs.Agents.{spent, MayJoin}
use Rattle.heap_rule.proofs.ListLemmas.{at_index}
use Rattle.heap_rule.proofs.Making.{keeps_making}
use Rattle.heap_rule.proofs.KindsKept.{counter_kept, claim_by, word_stored, length_stored}
use Rattle.heap_rule.proofs.MapLemmas.{key_of}
use Rattle.heap_core.proofs.StateLemmas.{sound_of, own_id}
use Rattle.heap_core.proofs.KnowingKept.{split_kept, join_kept, load_header_kept, load_word_kept, birth_kept, flatten_kept, thin_kept, load_slot_kept, take_slot_kept}

same_kept : (s : Core) → KeepsUnits s s
same_kept s i b = (b, refl)

-- nothing is born where there is no view
none_born : (s : Core) → IsCore s → s.views ≡ [] → (i : ℕ) → IsBorn s.size s.words i → ⊥
none_born s h e i b = ⊎_elim (λ (n : (s.words ≡ []) × (s.views ≡ [])). b.1 (ap (λ (ws : List ℕ). layout.form s.size ws i) n.0))
    (λ (g : IsSoundCore s). let below = (g.standing i b).below in let added = (g.added).ids in
    let none = subst (λ (vs : List View). get_or s.words 0 0 ≡ total (λ v. v.used.ids) vs) e added in absurd (omega arith)) h

pub enabled_keeps : (s : Core) (e : Event) → IsCore s → Enabled s e → Kept s (after s e)
enabled_keeps s (Make z agents) h en = (keeps_making z agents en.1 en.2, λ i b. absurd (none_born s h en.0 i b))
enabled_keeps s (Split j give) h en = split_kept s j give (sound_of s j (λ v. (1 ≤ give) × (give < v.share)) h en) en
enabled_keeps s (Join j other) h en = join_kept s j other (sound_of s j (λ v. LiveAt s other (λ b. MayJoin v b)) h en.1) en
enabled_keeps s (LoadCounter j k) h en = let g : IsSoundCore s = sound_of s j (λ v. Unit {0}) h en in
    subst (λ (v : View). Kept s (core s.size s.agents s.words (set s.views j (loaded_counter v k (get_or s.words (counter_at k) 0)))))
    (sym (at_index s.views j en.0 spent en.1)) (counter_kept s.size s.agents s.words s.views g j en.0 en.1 en.2 k)
enabled_keeps s (Claim j k a want) h en = let g : IsSoundCore s = sound_of s j (λ v. MayClaim v k a want) h en in let x : ℕ = get_or s.words (counter_at k) 0 in
    subst (λ (v : View). Kept s (core s.size s.agents (set s.words (counter_at k) (cond (eqb x a) (a + want) x))
    (set s.views j (cond (eqb x a) (won_claim v k a want) (loaded_counter v k x))))) (sym (at_index s.views j en.0 spent en.1))
    (claim_by s.size s.agents s.words s.views g j en.0 en.1 en.2 k a want (eqb x a) en.3 (eqb-true x a))
enabled_keeps s (StoreWord j c n) h en = let g : IsSoundCore s = sound_of s j (λ v. HasKey v.own_words c) h en in
    subst (λ (v : View). Kept s (core s.size s.agents (set s.words (content_at s.size c) n) (set s.views j (stored_word v c n)))) (sym (at_index s.views j en.0 spent en.1))
    (word_stored s.size s.agents s.words s.views g j en.0 en.1 en.2 c n en.3)
enabled_keeps s (StoreLength j i n) h en = let g : IsSoundCore s = sound_of s j (λ v. MayStoreLength v i n) h en in
    subst (λ (v : View). Kept s (core s.size s.agents (set s.words (length_at s.size i) n) (set s.views j (stored_length v i n)))) (sym (at_index s.views j en.0 spent en.1))
    (length_stored s.size s.agents s.words s.views g j en.0 en.1 en.2 i n en.3)
enabled_keeps s (Birth j i f) h en = birth_kept s j i f (sound_of s j (λ v. MayBear v i f) h en) en
enabled_keeps s (LoadHeader j i len names) h en = load_header_kept s j i len names.items (sound_of s j (λ v. MayUse v i) h en.0) en
enabled_keeps s (LoadWord j c names) h en = load_word_kept s j c names.items
    (sound_of s j (λ v. MayLoadWord v c × MayLearn (loaded_word v c (get_or s.words (content_at s.size c) 0)) names.items) h en) en
enabled_keeps s (Flatten j i old new names) h en = flatten_kept s j i old new names.items
    (sound_of s j (λ v. MayFlatten v i old new × MayLearn (flattened v i old new (get_or s.words (form_at s.size i) 0)) names.items) h en) en
enabled_keeps s (Thin j i old t names) h en = thin_kept s j i old t names.items
    (sound_of s j (λ v. MayThin v i old t × MayLearn (thinned v i old t (get_or s.words (form_at s.size i) 0)) names.items) h en) en
enabled_keeps s (LoadSlot j k entry names) h en = load_slot_kept s j k entry names.items
    (sound_of s j (λ v. (k < v.sizes.slots) × MayEnter v k entry × MayLearn (loaded_slot v k entry (get_or s.words (slot_at s.size k) 0)) names.items) h en) en
enabled_keeps s (TakeSlot j k i names) h en = take_slot_kept s j k i names.items
    (sound_of s j (λ v. MayTakeSlot v k i × MayLearn (took_slot v k i (get_or s.words (slot_at s.size k) 0)) names.items) h en) en

-- what an application leaves
pub applied_keeps : (s : Core) (e : Event) (t : Core) (r : Result ℕ Refusal) → IsCore s → Applied s e t r → IsCore t × KeepsUnits s t
applied_keeps s e t (Ok x) h a = let k : Kept s t = subst (Kept s) (sym a.1) (enabled_keeps s e h a.0) in (inr k.0, k.1)
applied_keeps s e t (Err NotEnabled) h a = subst (λ (u : Core). IsCore u × KeepsUnits s u) (sym a.1) (h, same_kept s)
applied_keeps s e t (Err Memory) h a = subst (λ (u : Core). IsCore u × KeepsUnits s u) (sym a) (h, same_kept s)

-- what an application leaves, on success and in each case
pub applied_sound : (s : Core) (e : Event) (t : Core) (r : Result ℕ Refusal) → IsCore s → Applied s e t r → IfOk r (λ _. IsSoundCore t)
applied_sound s e t (Ok x) h a = (subst (Kept s) (sym a.1) (enabled_keeps s e h a.0)).0
applied_sound s e t (Err q) h a = tt

pub applied_core : (s : Core) (e : Event) (t : Core) (r : Result ℕ Refusal) → IsCore s → Applied s e t r → IsCore t
applied_core s e t r h a = (applied_keeps s e t r h a).0

pub applied_units : (s : Core) (e : Event) (t : Core) (r : Result ℕ Refusal) → IsCore s → Applied s e t r → KeepsUnits s t
applied_units s e t r h a = (applied_keeps s e t r h a).1

-- who is born
fits_word : (v : View) (i n : ℕ) (f : Form) → FormFits v i n f → word_of f ≢ 0
fits_word v i n (Flat a b c) h e = omega arith
fits_word v i n (Cons a b c) h e = omega arith
fits_word v i n (Sliced a b c) h e = omega arith
fits_word v i n Unborn h e = absurd h
fits_word v i n (form.Thin a) h e = absurd h

pub birth_born : (s : Core) (j i : ℕ) (f : Form) → IsCore s → Enabled s (Birth j i f) → IsBorn s.size (after s (Birth j i f)).words i
birth_born s j i f h live = let m = live.3 in let own = own_id s j i h (live.0, live.1, live.2, key_of live.0.own_ids i m.0 m.1) in
    (own.1, λ e. fits_word live.0 i m.0 f m.2 (sym (get_or-set_same s.words (form_at s.size i) (word_of f) 0 own.2) ∙ e))

pub applied_born : (s : Core) (e : Event) (t : Core) (r : Result ℕ Refusal) → IsCore s → Applied s e t r → IfOk r (λ _. BornBy e t)
applied_born s (Birth j i f) t (Ok x) h a = subst (λ (u : Core). IsBorn u.size u.words i) (sym a.1) (birth_born s j i f h a.0)
applied_born s (Make z n) t (Ok x) h a = tt
applied_born s (Split j n) t (Ok x) h a = tt
applied_born s (Join j o) t (Ok x) h a = tt
applied_born s (LoadCounter j k) t (Ok x) h a = tt
applied_born s (Claim j k b w) t (Ok x) h a = tt
applied_born s (StoreWord j c w) t (Ok x) h a = tt
applied_born s (StoreLength j i n) t (Ok x) h a = tt
applied_born s (LoadHeader j i len names) t (Ok x) h a = tt
applied_born s (LoadWord j c names) t (Ok x) h a = tt
applied_born s (Flatten j i old new names) t (Ok x) h a = tt
applied_born s (Thin j i old target names) t (Ok x) h a = tt
applied_born s (LoadSlot j k entry names) t (Ok x) h a = tt
applied_born s (TakeSlot j k i names) t (Ok x) h a = tt
applied_born s e t (Err q) h a = tt

-- the clauses of an application, one by one
pub applied_enabled : (s : Core) (e : Event) (t : Core) (r : Result ℕ Refusal) → Applied s e t r → IfOk r (λ _. Enabled s e)
applied_enabled s e t (Ok x) a = a.0
applied_enabled s e t (Err q) a = tt

pub applied_after : (s : Core) (e : Event) (t : Core) (r : Result ℕ Refusal) → Applied s e t r → IfOk r (λ _. t ≡ after s e)
applied_after s e t (Ok x) a = a.1
applied_after s e t (Err q) a = tt

pub applied_found : (s : Core) (e : Event) (t : Core) (r : Result ℕ Refusal) → Applied s e t r → IfOk r (λ x. x ≡ found s e)
applied_found s e t (Ok x) a = a.2
applied_found s e t (Err q) a = tt

pub applied_not : (s : Core) (e : Event) (t : Core) (r : Result ℕ Refusal) → Applied s e t r → r ≡ Err NotEnabled → Enabled s e → ⊥
applied_not s e t (Ok x) a is h = absurd (cc)
applied_not s e t (Err NotEnabled) a is h = a.0 h
applied_not s e t (Err Memory) a is h = absurd (cc)

pub applied_same : (s : Core) (e : Event) (t : Core) (r : Result ℕ Refusal) → Applied s e t r → OnErr r (t ≡ s)
applied_same s e t (Ok x) a = tt
applied_same s e t (Err NotEnabled) a = a.1
applied_same s e t (Err Memory) a = a
