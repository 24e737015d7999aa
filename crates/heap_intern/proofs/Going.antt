-- What steps leave, one by one and in a row.
use Rattle.std.proofs.Common.{◌≡◌, ℕ, zero, suc, ◌+◌, ◌≤◌, ◌⊎◌, ⊎_elim, inr, Bool, true, false, List, [], ◌∷◌, ◌++◌, sym, refl, ap, ◌∙◌, subst, arith, append-nil, append_assoc, Option, Some, None}
use Rattle.std.specs.Prelude.{unwrap_or}
use Rattle.std.specs.FinMap.{FinMap, get, insert}
use Rattle.std.specs.Ordering.{nat_cmp}
use Rattle.js_header.specs.declared.form.Form.{Form}
use Rattle.js_header.specs.declared.form.Form.TheVariants.{Unborn, Flat, Cons, Sliced, Thin}
use Rattle.heap_rule.specs.declared.view.View.{View}
use Rattle.heap_rule.specs.declared.size.Counters.{Counters}
use Rattle.heap_rule.specs.declared.size.Counter.TheVariants.{Ids, Words}
use Rattle.heap_rule.specs.Agents.{left_after_split}
use Rattle.heap_rule.specs.Claims.{loaded_counter}
use Rattle.heap_rule.specs.Forms.{IsLater, IsSliced}
use Rattle.heap_rule.specs.Maps.{Has}
use Rattle.heap_rule.specs.Paths.{Calls}
use Rattle.heap_rule.specs.Views.{MayUse}
use Rattle.heap_rule.specs.Learning.{learned_all}
use Rattle.heap_rule.specs.Slots.{calls_entered, loaded_slot, took_slot}
use Rattle.heap_rule.specs.HeaderMoves.{seen_form}
use Rattle.heap_rule.proofs.MapLemmas.{insert_same, key_of}
use Rattle.heap_table.specs.Known.{KeepsKnown}
use Rattle.heap_read.proofs.Loaded.{known_refl, known_trans}
use Rattle.heap_intern.specs.Goes.{AddsCalls, LoadsAlone}
use Rattle.heap_read.specs.Reads.{Continues, HoldsForms, OnlyLoads}

pub goes_self : (v : View) → AddsCalls v v []
goes_self v = record {
  known = known_refl v;
  own_ids = λ i n h. h;
  own_words = λ c x h. h;
  sizes = refl;
  agents = refl;
  live = refl;
  share = refl;
  ids_used = omega arith;
  words_used = omega arith;
  ids_low = omega arith;
  words_low = omega arith;
  seen = refl;
  mine = sym (append-nil v.mine);
}

pub goes_trans : (u v w : View) (a b : Calls) → AddsCalls u v a → AddsCalls v w b → AddsCalls u w (a ++ b)
goes_trans u v w a b g h = let p = g.ids_used in let q = h.ids_used in let m = g.ids_low in let n = h.ids_low in let x = g.words_used in
    let y = h.words_used in let c = g.words_low in let d = h.words_low in record {
      known = known_trans u v w g.known h.known;
      own_ids = λ i n x. h.own_ids i n (g.own_ids i n x);
      own_words = λ c x y. h.own_words c x (g.own_words c x y);
      sizes = h.sizes ∙ g.sizes;
      agents = h.agents ∙ g.agents;
      live = h.live ∙ g.live;
      share = h.share ∙ g.share;
      ids_used = omega arith;
      words_used = omega arith;
      ids_low = omega arith;
      words_low = omega arith;
      seen = h.seen ∙ g.seen;
      mine = h.mine ∙ (ap (λ (m : Calls). m ++ b) g.mine ∙ append_assoc u.mine a b);
    }

pub looks_self : (v : View) → LoadsAlone v v
looks_self v = record { goes = goes_self v; used = refl; words = refl }

pub looks_trans : (u v w : View) → LoadsAlone u v → LoadsAlone v w → LoadsAlone u w
looks_trans u v w a b = record { goes = goes_trans u v w [] [] a.goes b.goes; used = b.used ∙ a.used; words = b.words ∙ a.words }

-- a string that was seen as a Flat is found to be no part of another
pub no_slice : (wide : Bool) (start : ℕ) (fixed : Bool) (f : Form) → (Flat wide start fixed ≡ f) ⊎ IsLater (Flat wide start fixed) f → IsSliced f → ⊥
no_slice wide start fixed f way h = ⊎_elim (λ (e : Flat wide start fixed ≡ f). subst IsSliced (sym e) h) (λ (l : IsLater (Flat wide start fixed) f). later f fixed l h) way
  where
    later : (g : Form) (b : Bool) → IsLater (Flat wide start b) g → IsSliced g → ⊥
    later Unborn b l h = h
    later (Flat x y z) b l h = h
    later (Cons x y z) b l h = h
    later (Thin t) b l h = h
    later (Sliced x y z) true l h = absurd (cc)
    later (Sliced x y z) false l h = absurd (cc)

-- forms that stay
pub forms_self : (v : View) → HoldsForms v v
forms_self v i f h = h

pub forms_trans : (u v w : View) → HoldsForms u v → HoldsForms v w → HoldsForms u w
forms_trans u v w a b i f h = b i f (a i f h)

-- a step that changes what is known, and the history
goes_by : (v w : View) (calls : Calls) → KeepsKnown v w → w.own_ids ≡ v.own_ids → w.own_words ≡ v.own_words → w.sizes ≡ v.sizes → w.agents ≡ v.agents → w.live ≡ v.live → w.share ≡ v.share
    → w.used ≡ v.used → w.low ≡ v.low → w.seen ≡ v.seen → w.mine ≡ v.mine ++ calls → AddsCalls v w calls
goes_by v w calls k oi ow z a l s u lo se m = record {
  known = k;
  own_ids = λ i n h. subst (λ (x : FinMap nat_cmp ℕ). Has x i n) (sym oi) h;
  own_words = λ c y h. subst (λ (x : FinMap nat_cmp ℕ). Has x c y) (sym ow) h;
  sizes = z;
  agents = a;
  live = l;
  share = s;
  ids_used = subst (λ (n : Counters). v.used.ids ≤ n.ids) (sym u) (omega arith);
  words_used = subst (λ (n : Counters). v.used.words ≤ n.words) (sym u) (omega arith);
  ids_low = subst (λ (n : Counters). v.low.ids ≤ n.ids) (sym lo) (omega arith);
  words_low = subst (λ (n : Counters). v.low.words ≤ n.words) (sym lo) (omega arith);
  seen = se;
  mine = m;
}

-- loads alone, as a reader makes them; and any call of a reader that leaves what is its own
pub looks_reads : (v w : View) → OnlyLoads v w → LoadsAlone v w
looks_reads v w r = record {
  goes = goes_by v w [] r.known r.own_ids r.own_words r.sizes r.agents r.live r.share r.used r.low r.seen (r.mine ∙ sym (append-nil v.mine));
  used = ap (λ (n : Counters). n.ids) r.used;
  words = ap (λ (n : Counters). n.words) r.used;
}

pub goes_continues : (v w : View) → Continues v w → w.own_ids ≡ v.own_ids → ((c x : ℕ) → Has v.own_words c x → Has w.own_words c x) → AddsCalls v w []
goes_continues v w r ids words = record {
  known = r.known;
  own_ids = λ i n h. subst (λ (x : FinMap nat_cmp ℕ). Has x i n) (sym ids) h;
  own_words = words;
  sizes = r.sizes;
  agents = r.agents;
  live = r.live;
  share = r.share;
  ids_used = r.ids_used;
  words_used = r.words_used;
  ids_low = r.ids_low;
  words_low = r.words_low;
  seen = r.seen;
  mine = r.mine ∙ sym (append-nil v.mine);
}

module _ (v : View) where
  nothing : v.mine ≡ v.mine ++ []
  nothing = sym (append-nil v.mine)

  -- a header that moves
  seen_by : (i : ℕ) (o : Option Form) → KeepsKnown v (learned_all (seen_form v i o)) → LoadsAlone v (learned_all (seen_form v i o)) × ((learned_all (seen_form v i o)).slot_loads ≡ v.slot_loads)
  seen_by i None k = (record { goes = goes_by v (learned_all v) [] k refl refl refl refl refl refl refl refl refl nothing; used = refl; words = refl }, refl)
  seen_by i (Some f) k = (record { goes = goes_by v (learned_all (seen_form v i (Some f))) [] k refl refl refl refl refl refl refl refl refl nothing; used = refl; words = refl }, refl)

  pub looks_seen : (w : View) (i : ℕ) (o : Option Form) → KeepsKnown v w → w ≡ learned_all (seen_form v i o) → LoadsAlone v w × (w.slot_loads ≡ v.slot_loads)
  looks_seen w i o k e = subst (λ (u : View). LoadsAlone v u × (u.slot_loads ≡ v.slot_loads)) (sym e) (seen_by i o (subst (KeepsKnown v) e k))

  -- a load of a slot, with the call that it enters, if any
  slot_by : (k x : ℕ) (entry : Option (List ℕ)) (calls : Calls) → calls_entered v k entry ≡ v.mine ++ calls → KeepsKnown v
      (learned_all (loaded_slot v k entry x)) → AddsCalls v (learned_all (loaded_slot v k entry x)) calls
  slot_by k zero entry calls m h = goes_by v (learned_all (loaded_slot v k entry zero)) calls h refl refl refl refl refl refl refl refl refl m
  slot_by k (suc x) entry calls m h = goes_by v (learned_all (loaded_slot v k entry (suc x))) calls h refl refl refl refl refl refl refl refl refl m

  slot_used : (k x : ℕ) (entry : Option (List ℕ)) → (learned_all (loaded_slot v k entry x)).used ≡ v.used
  slot_used k zero entry = refl
  slot_used k (suc x) entry = refl

  pub goes_slot : (w : View) (k x : ℕ) (entry : Option (List ℕ)) (calls : Calls) → calls_entered v k entry ≡ v.mine ++ calls → KeepsKnown v
      w → w ≡ learned_all (loaded_slot v k entry x) → AddsCalls v w calls × (w.used ≡ v.used)
  goes_slot w k x entry calls m h e = subst (λ (u : View). AddsCalls v u calls × (u.used ≡ v.used)) (sym e) (slot_by k x entry calls m (subst (KeepsKnown v) e h), slot_used k x entry)

  pub looks_slot : (w : View) (k x : ℕ) → KeepsKnown v w → w ≡ learned_all (loaded_slot v k None x) → LoadsAlone v w
  looks_slot w k x h e = let t = goes_slot w k x None [] nothing h e in record { goes = t.0; used = ap (λ (n : Counters). n.ids) t.1; words = ap (λ (n : Counters). n.words) t.1 }

  -- the id that was found in a slot stands there, and is known
  stands_by : (k i x : ℕ) (entry : Option (List ℕ)) → x ≡ i + 1 → Has (learned_all (loaded_slot v k entry x)).slots k i × MayUse (learned_all (loaded_slot v k entry x)) i
  stands_by k i zero entry e = absurd (omega arith)
  stands_by k i (suc x) entry e = let is : x ≡ i = omega arith in
      (insert_same v.slots k x ∙ ap Some is, inr (key_of (insert v.met x tt) i tt (ap (get (insert v.met x tt)) (sym is) ∙ insert_same v.met x tt)))

  pub stands_there : (w : View) (k i x : ℕ) (entry : Option (List ℕ)) → x ≡ i + 1 → w ≡ learned_all (loaded_slot v k entry x) → Has w.slots k i × MayUse w i
  stands_there w k i x entry is e = subst (λ (u : View). Has u.slots k i × MayUse u i) (sym e) (stands_by k i x entry is)

  -- a slot that was found free leaves what the view has of slots
  free_by : (k x : ℕ) (entry : Option (List ℕ)) → x ≡ 0 → (learned_all (loaded_slot v k entry x)).slots ≡ v.slots
  free_by k zero entry e = refl
  free_by k (suc x) entry e = absurd (omega arith)

  pub free_there : (w : View) (k x : ℕ) (entry : Option (List ℕ)) → x ≡ 0 → w ≡ learned_all (loaded_slot v k entry x) → w.slots ≡ v.slots
  free_there w k x entry is e = ap (λ (u : View). u.slots) e ∙ free_by k x entry is

  -- a claim of a slot: where it is won the call enters the history
  pub goes_won : (w : View) (k i : ℕ) (us : List ℕ) → Has v.units i us → KeepsKnown v w → w ≡ learned_all (took_slot v k i 0) → AddsCalls v w ((us, i) ∷ []) × (w.used ≡ v.used) × Has w.slots k i
  goes_won w k i us has h e = subst (λ (u : View). AddsCalls v u ((us, i) ∷ []) × (u.used ≡ v.used) × Has u.slots k i) (sym e) (
    goes_by v (learned_all (took_slot v k i 0)) ((us, i) ∷ []) (subst (KeepsKnown v) e h) refl refl refl refl refl refl refl refl refl
        (ap (λ (o : Option (List ℕ)). v.mine ++ (unwrap_or o [], i) ∷ []) has),
    refl,
    insert_same v.slots k i,
  )

  -- where it is lost the winner's id stands there
  lost_by : (k i j x : ℕ) → x ≡ j + 1 → KeepsKnown v (learned_all (took_slot v k i x)) → LoadsAlone v (learned_all (took_slot v k i x)) × Has
      (learned_all (took_slot v k i x)).slots k j × MayUse (learned_all (took_slot v k i x)) j
  lost_by k i j zero e h = absurd (omega arith)
  lost_by k i j (suc x) e h = let is : x ≡ j = omega arith in (
    record { goes = goes_by v (learned_all (took_slot v k i (suc x))) [] h refl refl refl refl refl refl refl refl refl nothing; used = refl; words = refl },
    insert_same v.slots k x ∙ ap Some is,
    inr (key_of (insert v.met x tt) j tt (ap (get (insert v.met x tt)) (sym is) ∙ insert_same v.met x tt)),
  )

  pub looks_lost : (w : View) (k i j x : ℕ) → x ≡ j + 1 → KeepsKnown v w → w ≡ learned_all (took_slot v k i x) → LoadsAlone v w × Has w.slots k j × MayUse w j
  looks_lost w k i j x is h e = subst (λ (u : View). LoadsAlone v u × Has u.slots k j × MayUse u j) (sym e) (lost_by k i j x is (subst (KeepsKnown v) e h))

-- what a view knows it knows too where counters alone were read, or a part of its share was given
pub counted_known : (v : View) (ids words : ℕ) → KeepsKnown v (loaded_counter (loaded_counter v Ids ids) Words words)
counted_known v ids words = record {
  units = λ i us h. h;
  lengths = λ i n h. h;
  flats = λ i wide start h. h;
  thins = λ i t h. h;
  settled = λ i h. h;
  frozen = λ c x h. h;
  known = λ i h. h;
  slots = λ k i h. h;
}

pub left_known : (v : View) (give : ℕ) → KeepsKnown v (left_after_split v give)
left_known v give = record {
  units = λ i us h. h;
  lengths = λ i n h. h;
  flats = λ i wide start h. h;
  thins = λ i t h. h;
  settled = λ i h. h;
  frozen = λ c x h. h;
  known = λ i h. h;
  slots = λ k i h. h;
}
