-- Loads and stores to own content words: what they leave.
use Rattle.std.proofs.Common.{◌≡◌, ℕ, ◌≤◌, Bool, true, false, cond, ap, refl, subst, sym, ◌∙◌, arith, Option}
use Rattle.std.specs.Prelude.{unwrap_or}
use Rattle.std.specs.FinMap.{FinMap, contains_key, get, insert}
use Rattle.std.specs.Ordering.{nat_cmp}
use Rattle.heap_rule.specs.declared.size.Counters.{Counters}
use Rattle.heap_rule.specs.declared.view.View.{View}
use Rattle.heap_rule.specs.Births.{stored_word}
use Rattle.heap_rule.specs.Learning.{learned_all}
use Rattle.heap_rule.specs.Loads.{loaded_length, loaded_word}
use Rattle.heap_rule.specs.Maps.{Has, HasKey}
use Rattle.heap_rule.specs.Views.{shown_word}
use Rattle.heap_rule.proofs.MapLemmas.{has_key, insert_other, insert_same}
use Rattle.heap_read.specs.Filling.{own_word}
use Rattle.heap_read.specs.Reads.{Continues, KeepsBelow, KeepsForms, OnlyLoads, WritesOwnWords}
use Rattle.heap_read.proofs.Going.{known_stored}
use Rattle.heap_read.proofs.Loaded.{key_more, known_refl, known_trans}
use Rattle.heap_read.proofs.Placing.{IsStored}

pub forms_length : (v w : View) (i n : ℕ) → w ≡ learned_all (loaded_length v i n) → KeepsForms v w
forms_length v w i n e = (ap (λ (x : View). x.forms) e, ap (λ (x : View). x.form_loads) e)

forms_by : (v : View) (c x : ℕ) (b : Bool) → KeepsForms v (learned_all (cond b v (record v { frozen = insert v.frozen c x })))
forms_by v c x true = (refl, refl)
forms_by v c x false = (refl, refl)

pub forms_word : (v w : View) (c x : ℕ) → w ≡ learned_all (loaded_word v c x) → KeepsForms v w
forms_word v w c x e = subst (KeepsForms v) (sym e) (forms_by v c x (contains_key v.own_words c))

-- an own word is shown as the agent stored it
pub shown_own : (v : View) (c : ℕ) → HasKey v.own_words c → shown_word v c ≡ own_word v.own_words c
shown_own v c h = let p = has_key v.own_words c h in ap (λ (o : Option ℕ). unwrap_or o (unwrap_or (get v.frozen c) 0)) p.1 ∙ sym (ap (λ (o : Option ℕ). unwrap_or o 0) p.1)

pub word_put : (m : FinMap nat_cmp ℕ) (c x : ℕ) → IsStored (own_word m) (own_word (insert m c x)) c x
word_put m c x = record {
  here = ap (λ (o : Option ℕ). unwrap_or o 0) (insert_same m c x);
  others = λ q n. ap (λ (o : Option ℕ). unwrap_or o 0) (insert_other m c q x n);
}

pub writes_refl : (v : View) → WritesOwnWords v v
writes_refl v = record {
  known = known_refl v;
  sizes = refl;
  agents = refl;
  live = refl;
  share = refl;
  used = refl;
  low = refl;
  own_ids = refl;
  own_words = λ c h. h;
  slots = refl;
  seen = refl;
  mine = refl;
  slot_loads = refl;
}

pub writes_trans : (u v w : View) → WritesOwnWords u v → WritesOwnWords v w → WritesOwnWords u w
writes_trans u v w a b = record {
  known = known_trans u v w a.known b.known;
  sizes = b.sizes ∙ a.sizes;
  agents = b.agents ∙ a.agents;
  live = b.live ∙ a.live;
  share = b.share ∙ a.share;
  used = b.used ∙ a.used;
  low = b.low ∙ a.low;
  own_ids = b.own_ids ∙ a.own_ids;
  own_words = λ c h. b.own_words c (a.own_words c h);
  slots = b.slots ∙ a.slots;
  seen = b.seen ∙ a.seen;
  mine = b.mine ∙ a.mine;
  slot_loads = b.slot_loads ∙ a.slot_loads;
}

pub writes_reads : (v w : View) → OnlyLoads v w → WritesOwnWords v w
writes_reads v w r = record {
  known = r.known;
  sizes = r.sizes;
  agents = r.agents;
  live = r.live;
  share = r.share;
  used = r.used;
  low = r.low;
  own_ids = r.own_ids;
  own_words = λ c h. subst (λ (m : FinMap nat_cmp ℕ). HasKey m c) (sym r.own_words) h;
  slots = r.slots;
  seen = r.seen;
  mine = r.mine;
  slot_loads = r.slot_loads;
}

pub writes_stored : (v : View) (c x : ℕ) → WritesOwnWords v (stored_word v c x)
writes_stored v c x = record {
  known = known_stored v c x;
  sizes = refl;
  agents = refl;
  live = refl;
  share = refl;
  used = refl;
  low = refl;
  own_ids = refl;
  own_words = λ q h. key_more v.own_words c q x h;
  slots = refl;
  seen = refl;
  mine = refl;
  slot_loads = refl;
}

pub continues_writes : (v w : View) → WritesOwnWords v w → Continues v w
continues_writes v w r = record {
  known = r.known;
  sizes = r.sizes;
  agents = r.agents;
  live = r.live;
  share = r.share;
  ids_used = subst (λ (n : Counters). v.used.ids ≤ n.ids) (sym r.used) (omega arith);
  words_used = subst (λ (n : Counters). v.used.words ≤ n.words) (sym r.used) (omega arith);
  ids_low = subst (λ (n : Counters). v.low.ids ≤ n.ids) (sym r.low) (omega arith);
  words_low = subst (λ (n : Counters). v.low.words ≤ n.words) (sym r.low) (omega arith);
  slots = r.slots;
  seen = r.seen;
  mine = r.mine;
  slot_loads = r.slot_loads;
}

pub below_reads : (start : ℕ) (v w : View) → OnlyLoads v w → KeepsBelow start v w
below_reads start v w r q x l h = subst (λ (m : FinMap nat_cmp ℕ). Has m q x) (sym r.own_words) h
