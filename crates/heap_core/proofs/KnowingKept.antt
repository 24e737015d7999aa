-- Splitting, joining and loading keep the rule: they change what views know, and no word. So do births, and the compare-exchanges of a header and of a slot.
use Rattle.std.proofs.Common.{◌≡◌, ℕ, ◌+◌, ◌<◌, eqb, Option, Bool, true, false, cond, List, [], ◌∷◌, ◌++◌, get_or, set, sym, refl, ap, ◌∙◌, subst}
use Rattle.std.specs.Prelude.{unwrap_or}
use Rattle.js_header.specs.Form.{word_of}
use Rattle.js_header.specs.declared.form.Form.{Form}
use Rattle.js_header.specs.declared.form.Form.TheVariants.{Thin}
use Rattle.std.specs.FinMap.{insert, contains_key}
use Rattle.heap_rule.specs.declared.view.View.{View}
use Rattle.heap_rule.specs.declared.size.HeapSize.{HeapSize}
use Rattle.heap_rule.specs.Layout.{form_at, length_at, content_at, slot_at}
use Rattle.heap_rule.specs.Learning.{learned}
use Rattle.heap_rule.specs.Loads.{loaded_form, loaded_length, loaded_word}
use Rattle.heap_rule.specs.Slots.{loaded_slot, took_slot}
use Rattle.heap_rule.specs.Births.{MayBear, born_with, born}
use Rattle.heap_rule.specs.HeaderMoves.{flattened, thinned}
use Rattle.heap_rule.specs.Kinds.{take_slot, flatten, thin}
use Rattle.heap_rule.specs.Agents.{spent, left_after_split, right_after_split, joined_view}
use Rattle.heap_rule.specs.Sound.{IsSound}
use Rattle.heap_core.specs.Core.{Core, core}
use Rattle.heap_core.specs.Events.{IsSoundCore, CanSplit, after_split, CanJoin, after_join, CanLoadHeader, after_load_header, CanLoadWord, after_load_word}
use Rattle.heap_core.specs.Events.{LiveAt, view_at, CanFlatten, after_flatten, CanThinTo, after_thin, CanLoadSlot, after_load_slot, CanTakeSlot}
use Rattle.heap_core.specs.Events.{after_take_slot, Kept}
use Rattle.heap_rule.proofs.ListLemmas.{at_index}
use Rattle.heap_rule.proofs.KindsKept.{form_loaded, length_loaded, word_loaded, slot_loaded, birth_by, kinds_keep}
use Rattle.heap_rule.proofs.Steps.{sizes_are}
use Rattle.heap_rule.proofs.Splitting.{keeps_split}
use Rattle.heap_rule.proofs.Joining.{keeps_joined}

-- a step that changes no word
pub still : (s : Core) (vs' : List View) → IsSound s.size s.agents s.words vs' → Kept s (core s.size s.agents s.words vs')
still s vs' h = (h, λ i b. (b, refl))

pub split_kept : (s : Core) (j give : ℕ) → IsSoundCore s → CanSplit s j give → Kept s (after_split s j give)
split_kept s j give h can = let v : View = can.0 in
    subst (λ (u : View). Kept s (core s.size s.agents s.words (set s.views j (left_after_split u give) ++ right_after_split u give ∷ []))) (sym (at_index s.views j v spent can.1))
    (still s _ (keeps_split s.size s.agents s.words s.views h j v can.1 can.2 give can.3.0 can.3.1))

pub join_kept : (s : Core) (j other : ℕ) → IsSoundCore s → CanJoin s j other → Kept s (after_join s j other)
join_kept s j other h can = let l = can.1 in let v : View = l.0 in let t = l.3 in let b : View = t.0 in
    subst (λ (u : View × View). Kept s (core s.size s.agents s.words (set (set s.views j (joined_view u.0 u.1)) other spent)))
    (λ i. (sym (at_index s.views j v spent l.1) i, sym (at_index s.views other b spent t.1) i))
    (still s _ (keeps_joined s.size s.agents s.words s.views h j other v b can.0 l.1 l.2 t.1 t.2))

pub load_header_kept : (s : Core) (j i : ℕ) (len : Bool) (names : List ℕ) → IsSoundCore s → CanLoadHeader s j i len names → Kept s (after_load_header s j i len names)
load_header_kept s j i true names h can = let l = can.0 in let v : View = l.0 in let x : ℕ = get_or s.words (length_at s.size i) 0 in
    subst (λ (u : View). Kept s (core s.size s.agents s.words (set s.views j (learned (loaded_length u i x) names)))) (sym (at_index s.views j v spent l.1))
    (length_loaded s.size s.agents s.words s.views h j v l.1 l.2 i names l.3)
load_header_kept s j i false names h can = let l = can.0 in let v : View = l.0 in let x : ℕ = get_or s.words (form_at s.size i) 0 in
    subst (λ (u : View). Kept s (core s.size s.agents s.words (set s.views j (learned (loaded_form u i x) names)))) (sym (at_index s.views j v spent l.1))
    (form_loaded s.size s.agents s.words s.views h j v l.1 l.2 i names l.3)

same_live : (v : View) (c x : ℕ) (b : Bool) → (cond b v (record v { frozen = insert v.frozen c x })).live ≡ v.live
same_live v c x true = refl
same_live v c x false = refl

pub word_live : (v : View) (c x : ℕ) → v.live ≡ true → (loaded_word v c x).live ≡ true
word_live v c x l = same_live v c x (contains_key v.own_words c) ∙ l

pub load_word_kept : (s : Core) (j c : ℕ) (names : List ℕ) → IsSoundCore s → CanLoadWord s j c names → Kept s (after_load_word s j c names)
load_word_kept s j c names h l = let v : View = l.0 in let x : ℕ = get_or s.words (content_at s.size c) 0 in
    subst (λ (u : View). Kept s (core s.size s.agents s.words (set s.views j (learned (loaded_word u c x) names)))) (sym (at_index s.views j v spent l.1))
    (word_loaded s.size s.agents s.words s.views h j v l.1 l.2 c names l.3.0)

pub load_slot_kept : (s : Core) (j k : ℕ) (entry : Option (List ℕ)) (names : List ℕ) → IsSoundCore s → CanLoadSlot s j k entry names → Kept s (after_load_slot s j k entry names)
load_slot_kept s j k entry names h l = let v : View = l.0 in let x : ℕ = get_or s.words (slot_at s.size k) 0 in
    subst (λ (u : View). Kept s (core s.size s.agents s.words (set s.views j (learned (loaded_slot u k entry x) names)))) (sym (at_index s.views j v spent l.1))
    (slot_loaded s.size s.agents s.words s.views h j v l.1 l.2 k entry names (subst (λ (z : HeapSize). k < z.slots) (sizes_are s.size s.agents s.words s.views h j v l.1 l.2) l.3.0) l.3.1)

pub take_slot_kept : (s : Core) (j k i : ℕ) (names : List ℕ) → IsSoundCore s → CanTakeSlot s j k i names → Kept s (after_take_slot s j k i names)
take_slot_kept s j k i names h l = let v : View = l.0 in let x : ℕ = get_or s.words (slot_at s.size k) 0 in
    subst (λ (u : View). Kept s (core s.size s.agents (set s.words (slot_at s.size k) (cond (eqb x 0) (i + 1) x))
    (set s.views j (learned (took_slot u k i x) names)))) (sym (at_index s.views j v spent l.1))
    (kinds_keep s.size s.agents s.words s.views j v (take_slot k i) names h l.1 l.2 l.3.0)

pub flatten_kept : (s : Core) (j i : ℕ) (old new : Form) (names : List ℕ) → IsSoundCore s → CanFlatten s j i old new names → Kept s (after_flatten s j i old new names)
flatten_kept s j i old new names h l = let v : View = l.0 in let x : ℕ = get_or s.words (form_at s.size i) 0 in
    subst (λ (u : View). Kept s (core s.size s.agents (set s.words (form_at s.size i) (cond (eqb x (word_of old)) (word_of new) x))
    (set s.views j (learned (flattened u i old new x) names)))) (sym (at_index s.views j v spent l.1))
    (kinds_keep s.size s.agents s.words s.views j v (flatten i old new) names h l.1 l.2 l.3.0)

pub thin_kept : (s : Core) (j i : ℕ) (old : Form) (t : ℕ) (names : List ℕ) → IsSoundCore s → CanThinTo s j i old t names → Kept s (after_thin s j i old t names)
thin_kept s j i old t names h l = let v : View = l.0 in let x : ℕ = get_or s.words (form_at s.size i) 0 in
    subst (λ (u : View). Kept s (core s.size s.agents (set s.words (form_at s.size i) (cond (eqb x (word_of old)) (word_of (Thin t)) x))
    (set s.views j (learned (thinned u i old t x) names)))) (sym (at_index s.views j v spent l.1))
    (kinds_keep s.size s.agents s.words s.views j v (thin i old t) names h l.1 l.2 l.3.0)

pub birth_kept : (s : Core) (j i : ℕ) (f : Form) → IsSoundCore s → LiveAt s j (λ v. MayBear v i f) → Kept s
    (core s.size s.agents (set s.words (form_at s.size i) (word_of f)) (set s.views j (born (view_at s j) i f)))
birth_kept s j i f h l = let v : View = l.0 in let n : ℕ = l.3.0 in
    let is : born (view_at s j) i f ≡ born_with v i n f = ap (λ (u : View). born u i f) (at_index s.views j v spent l.1) ∙ ap (λ (o : Option ℕ). born_with v i (unwrap_or o 0) f) l.3.1 in
    subst (λ (w : View). Kept s (core s.size s.agents (set s.words (form_at s.size i) (word_of f)) (set s.views j w))) (sym is)
    (birth_by s.size s.agents s.words s.views h j v l.1 l.2 i n f l.3.1 l.3.2)
