-- What settling a string leaves after a length was read, and before loads alone.
use Rattle.std.proofs.Common.{◌≡◌, ◌∙◌, ℕ, ◌+◌, ◌≤◌, Bool, List, length, Option, None, Some, Ok, Err, inl, inr, ap, subst, sym, arith, ⊎_elim}
use Rattle.std.specs.FinMap.{FinMap}
use Rattle.std.specs.Ordering.{nat_cmp}
use Rattle.js_units.specs.Lanes.{words_over}
use Rattle.js_header.specs.declared.form.Form.{Form}
use Rattle.js_header.specs.declared.form.Form.TheVariants.{Cons}
use Rattle.heap_rule.specs.declared.size.Counters.{Counters}
use Rattle.heap_rule.specs.declared.size.HeapSize.{HeapSize}
use Rattle.heap_rule.specs.declared.view.View.{View}
use Rattle.heap_rule.specs.Maps.{Has, HasKey}
use Rattle.heap_rule.proofs.MapLemmas.{has_key}
use Rattle.heap_table.specs.Agents.{size_of}
use Rattle.heap_read.specs.Reads.{OnlyLoads}
use Rattle.heap_read.proofs.Loaded.{reads_trans}
use Rattle.heap_text.specs.declared.faults.TextFull.{TextFull}
use Rattle.heap_text.specs.declared.faults.TextFull.TheVariants.{Ids, Words}
use Rattle.heap_table.specs.declared.claims.CounterFull.{CounterFull}
use Rattle.heap_text.specs.Settling.{IsBitOf, IsFlattened, IsNoRoom, IsSettling, Settles}
use Rattle.heap_text.specs.Texts.{IsSpared, KeepsOwn, text_words_wanted}
use Rattle.heap_agents.specs.declared.held.Held.{Held}
use Rattle.heap_ids.specs.declared.ids.IdSet.{IdSet}
use Rattle.heap_ids.specs.Sets.{IsIn}
use Rattle.heap_agents.specs.Held.{LeavesStrings, MarksNothing, MarksOnly, held_size, view_by}
use Rattle.heap_agents.specs.Ready.{HandleLeaves, HandleKnows, size_in, handle_view}
use Rattle.heap_agents.specs.Shared.{IsSameText, SharedText, size_if}
use Rattle.c_steps.specs.declared.answer.JsAnswer.{JsAnswer}
use Rattle.c_steps.specs.Reports.{DONE, NO_WORDS, text_report}
use Rattle.c_steps.specs.Checked.{MarksNone, MarksOne, ReadsLength, OnlyLooks, RefusesSettling, SettlesString}
use Rattle.c_steps.proofs.Going.{goes_trans}

-- after loads that load no form
module _ (v w x : View) (r : OnlyLoads v w) (forms : w.forms ≡ v.forms) where
  bit_before : (i : ℕ) (wide : Bool) → IsBitOf w i wide → IsBitOf v i wide
  bit_before i wide b = λ seen left right h. b seen left right (subst (λ (m : FinMap nat_cmp Form). Has m i (Cons seen left right)) (sym forms) h)

  own_before : KeepsOwn w x → KeepsOwn v x
  own_before k = record {
    ids = λ i n h. k.ids i n (subst (λ (m : FinMap nat_cmp ℕ). Has m i n) (sym r.own_ids) h);
    words = λ c y h. k.words c y (subst (λ (m : FinMap nat_cmp ℕ). Has m c y) (sym r.own_words) h);
  }

  flattened_before : (i : ℕ) (us : List ℕ) (wide : Bool) → IsFlattened w x i us wide → IsFlattened v x i us wide
  flattened_before i us wide f = record {
    narrow = f.narrow;
    used = subst (λ (n : Counters). (x.used.ids ≡ n.ids + 0) × (x.used.words ≡ n.words + words_over wide (length us))) r.used f.used;
    own_ids = f.own_ids ∙ r.own_ids;
    own_words = λ c k. f.own_words c (subst (λ (m : FinMap nat_cmp ℕ). HasKey m c) (sym r.own_words) k);
    sides = f.sides;
    words = (f.words.0, λ q l k. f.words.1 q l (subst (λ (m : FinMap nat_cmp ℕ). HasKey m (f.words.0 + q)) (sym r.own_words) k), f.words.2);
  }

  settling_before : (i : ℕ) (us : List ℕ) → IsSettling w x i us → IsSettling v x i us
  settling_before i us s = ⊎_elim (λ (l : OnlyLoads w x). inl (reads_trans v w x r l))
      (λ (f : (wide : Bool) × IsBitOf w i wide × IsFlattened w x i us wide). inr (f.0, bit_before i f.0 f.1, flattened_before i us f.0 f.2)) s

  spared_before : (n : ℕ) (f : TextFull) → IsSpared w x n f → IsSpared v x n f
  spared_before n f a = record {
    used_ids = subst (λ (c : Counters). x.used.ids ≡ c.ids) r.used a.used_ids;
    used_words = subst (λ (c : Counters). x.used.words + text_words_wanted f ≤ c.words + n) r.used a.used_words;
    own_ids = a.own_ids ∙ r.own_ids;
    own_words = λ c k. a.own_words c (subst (λ (m : FinMap nat_cmp ℕ). HasKey m c) (sym r.own_words) k);
    claimed = (
      a.claimed.0,
      a.claimed.1,
      subst (λ (c : Counters). x.used.words ≡ c.words + a.claimed.1) r.used a.claimed.2,
      a.claimed.3,
      λ q l k. a.claimed.4 q l (subst (λ (m : FinMap nat_cmp ℕ). HasKey m (a.claimed.0 + q)) (sym r.own_words) k),
    );
  }

  no_room_before : (z : HeapSize) (us : List ℕ) (f : TextFull) (wide : Bool) → IsNoRoom w x z us f wide → IsNoRoom v x z us f wide
  no_room_before z us f wide a = record { narrow = a.narrow; words = a.words; told = a.told; spared = spared_before (words_over wide (length us)) f a.spared }

pub none_trans : (o p q : Option Held) → MarksNone o p → MarksNone p q → MarksNone o q
none_trans None p q a b = absurd a
none_trans (Some x) None q a b = absurd a
none_trans (Some x) (Some y) None a b = absurd b
none_trans (Some x) (Some y) (Some z) a b = (b.0 ∙ a.0, b.1 ∙ a.1)

pub none_one : (o p q : Option Held) (s : ℕ) → MarksNone o p → MarksOne p q s → MarksOne o q s
none_one None p q s a b = absurd a
none_one (Some x) None q s a b = absurd a
none_one (Some x) (Some y) None s a b = absurd b
none_one (Some x) (Some y) (Some z) s a b = record {
  known = b.known;
  only = λ j h. ⊎_elim (λ (e : j ≡ s). inl e) (λ (k : IsIn y.known j). inr (subst (λ (m : IdSet). IsIn m j) a.0 k)) (b.only j h);
  interned = b.interned ∙ a.1;
}

pub one_knows : (o p : Option Held) (s : ℕ) → MarksOne o p s → HandleKnows p s
one_knows None p s a = absurd a
one_knows (Some x) None s a = absurd a
one_knows (Some x) (Some y) s a = a.known

pub looks_trans : (o p q : Option Held) → OnlyLooks o p → OnlyLooks p q → OnlyLooks o q
looks_trans o p q a b = record {
  leaves = goes_trans o p q a.leaves b.leaves;
  loads = reads_trans (handle_view o) (handle_view p) (handle_view q) a.loads b.loads;
  marks = none_trans o p q a.marks b.marks;
}

pub measures_trans : (o p q : Option Held) → ReadsLength o p → ReadsLength p q → ReadsLength o q
measures_trans o p q a b = record { looks = looks_trans o p q a.looks b.looks; forms = (b.forms.0 ∙ a.forms.0, b.forms.1 ∙ a.forms.1) }

same_sizes : (x y : Option SharedText) → IsSameText x y → size_if y ≡ size_if x
same_sizes None y e = absurd e
same_sizes (Some s) None e = absurd e
same_sizes (Some s) (Some t) e = ap size_of e.0

leaves_sizes : (o p : Option Held) → HandleLeaves o p → size_in p ≡ size_in o
leaves_sizes None p a = absurd a
leaves_sizes (Some x) None a = absurd a
leaves_sizes (Some x) (Some y) a = same_sizes x.text y.text a.same

-- where a length was read before
module _ (o m p : Option Held) (s : ℕ) (g : ReadsLength o m) where
  pub settles_before : SettlesString m p s → SettlesString o p s
  settles_before b = let v = handle_view o in let w = handle_view m in let x = handle_view p in let r = g.looks.loads in let e = g.forms.0 in record {
    leaves = goes_trans o m p g.looks.leaves b.leaves;
    own = own_before v w x r e b.own;
    marks = none_one o m p s g.looks.marks b.marks;
    settled = b.settled;
    used = λ us h. settling_before v w x r e s us (b.used us (r.known.units s us h));
    again = λ k. reads_trans v w x r (b.again (r.known.settled s k));
  }

  pub refuses_before : (a : JsAnswer) → RefusesSettling m p s a → RefusesSettling o p s a
  refuses_before a b = let v = handle_view o in let w = handle_view m in let x = handle_view p in let r = g.looks.loads in let e = g.forms.0 in record {
    leaves = goes_trans o m p g.looks.leaves b.leaves;
    own = own_before v w x r e b.own;
    marks = none_trans o m p g.looks.marks b.marks;
    unseen = λ k. b.unseen (r.known.settled s k);
    words = b.words;
    report = λ us h. let t = b.report us (r.known.units s us h) in (
      t.0,
      t.1,
      t.2,
      bit_before v w x r e s t.1 t.3,
      no_room_before v w x r e (size_in o) us t.0 t.1
          (subst (λ (z : HeapSize). IsNoRoom w x z us t.0 t.1) (leaves_sizes o m g.looks.leaves) t.4),
    );
  }

-- only words are refused
pub told_words : (full : TextFull) (r : JsAnswer) → r ≡ text_report full → (c : CounterFull) × (full ≡ Words c) → r.status ≡ NO_WORDS
told_words full r is w = ap (λ (a : JsAnswer). a.status) is ∙ ap (λ (t : TextFull). (text_report t).status) w.1

pub never_done : (full : TextFull) (r : JsAnswer) → r ≡ text_report full → r.status ≡ DONE → ⊥
never_done (Ids f) r is e = let bad = sym (ap (λ (a : JsAnswer). a.status) is) ∙ e in absurd (omega (arith, bad))
never_done (Words f) r is e = let bad = sym (ap (λ (a : JsAnswer). a.status) is) ∙ e in absurd (omega (arith, bad))

-- the same of what lies behind a handle
behind : (P : Option Held → Option Held → Type 0) (o p : Option Held) (x y : Held) → o ≡ Some x → p ≡ Some y → P (Some x) (Some y) → P o p
behind P o p x y e f h = subst (P o) (sym f) (subst (λ (q : Option Held). P q (Some y)) (sym e) h)

module _ (o p : Option Held) (x y : Held) (s : ℕ) (e : o ≡ Some x) (f : p ≡ Some y) (leaves : LeavesStrings x y) where
  pub held_settles : {A : Type 0} (a : A) → MarksOnly x y s → Settles (view_by x) (view_by y) (held_size x) s (Ok a) → SettlesString o p s
  held_settles a marks h = behind (λ q r. SettlesString q r s) o p x y e f
      record { leaves = leaves; own = h.own; marks = marks; settled = h.settled; used = h.used; again = λ k. (h.again k).1 }

  pub held_refuses : {A : Type 0} (full : TextFull) (r : JsAnswer) → r ≡ text_report full → HasKey (handle_view o).units s → MarksNothing x y
      → Settles {A = A} (view_by x) (view_by y) (held_size x) s (Err full) → RefusesSettling o p s r
  held_refuses full r is known marks h = let us = has_key (view_by x).units s (subst (λ (q : Option Held). HasKey (handle_view q).units s) e known) in
      behind (λ q z. RefusesSettling q z s r) o p x y e f record {
        leaves = leaves;
        own = h.own;
        marks = marks;
        unseen = λ k. let bad = (h.again k).0 in absurd (cc);
        words = told_words full r is (h.refused us.0 us.1).2.words;
        report = λ vs k. let t = h.refused vs k in (full, t.0, is, t.1, t.2);
      }
