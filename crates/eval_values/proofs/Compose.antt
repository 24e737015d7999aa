-- One evaluation after another.
use Rattle.std.proofs.Common.{◌≡◌, ℕ, ◌<◌, ◌≤◌, zero, suc, slice_index_or, List, [], ◌∷◌, ◌++◌, refl, ap, ◌∙◌, sym, subst, arith, append_assoc, Some, None, Result, Ok, Err, Contains, inl, inr}
use Rattle.std.proofs.lemmas.List.Elements.{Contains-append_cases}
use Rattle.std.proofs.lemmas.List.{map-append, append-nil}
use Rattle.js_store.specs.State.{State, NamesUnits}
use Rattle.js_store.specs.Faults.{Honest, StoreStep, NeverSlots}
use Rattle.js_store.proofs.Laws.{grows_trans, has_still, grows_refl, step_refl}
use Rattle.js_store.specs.declared.faults.FullReport.TheVariants.{Ids, Words, Slots}
use Rattle.js_store.specs.declared.faults.StoreFault.{StoreFault}
use Rattle.js_store.specs.declared.faults.StoreFault.TheVariants.{Full, Memory}
use Rattle.eval_values.specs.declared.value.Stop.{Stop}
use Rattle.eval_values.specs.declared.value.Stop.TheVariants.{Threw, Unsupported, Store}
use Rattle.eval_values.specs.Need.{Row, ids_in, words_in}
use Rattle.eval_values.specs.Outcome.{Ledger, both, free, cost, Out, gave, ended, threw, unsupported, after_ledger, bind, converting, ledger_of}
use Rattle.js_texts.specs.Answers.{full_part}
use Rattle.js_texts.specs.declared.faults.MethodFault.TheVariants.{Store as MethodStore}
use Rattle.js_texts.specs.Texts.{full_only}
use Rattle.eval_values.specs.Ran.{InternsLists, MeetsLedger, NextShut, EndsInPart, ComesTo}

pub interns_both : {x y z : List (List ℕ × ℕ)} {us vs : List (List ℕ)} → InternsLists x y us → InternsLists y z vs → InternsLists x z (us ++ vs)
interns_both {x} i j = record {
  pairs = i.pairs ++ j.pairs;
  grown = j.grown ∙ ap (λ l. l ++ j.pairs) i.grown ∙ append_assoc x i.pairs j.pairs;
  same = map-append _ i.pairs j.pairs ∙ cc (i.same, j.same);
}

Contains-nil : (u : List ℕ) → Contains [] u → ⊥
Contains-nil u h = absurd (omega (arith, h.1))

pub ran_free : {F : Type 0} (a : State F) → MeetsLedger a a free
ran_free a = record {
  grows = grows_refl a;
  history = record { pairs = []; grown = sym (append-nil a.history); same = refl };
  texts = λ u h. absurd (Contains-nil u h);
  within_ids = omega arith;
  within_words = omega arith;
}

pub ran_both : {F : Type 0} {a b c : State F} {l m : Ledger} → MeetsLedger a b l → MeetsLedger b c m → MeetsLedger a c (both l m)
ran_both {l = l} {m = m} r s = record {
  grows = grows_trans r.grows s.grows;
  history = interns_both r.history s.history;
  texts = λ u h. elim (Contains-append_cases l.texts m.texts u h) [
    | inl k ↦ let t = r.texts u k in (t.0, has_still s.grows t.0 u t.1)
    | inr k ↦ s.texts u k
  ];
  within_ids = omega arith;
  within_words = omega arith;
}

next_more : {F : Type 0} (b : State F) (f : StoreFault) (us vs : List (List ℕ)) → NextShut b f us → NextShut b f (us ++ vs)
next_more b (Full (Slots n)) [] vs h = absurd h
next_more b (Full (Slots n)) (u ∷ us) vs h = h
next_more b (Full (Ids x y z)) us vs h = tt
next_more b (Full (Words x y z)) us vs h = tt
next_more b Memory us vs h = tt

pub cut_more : {F : Type 0} {a b : State F} {f : StoreFault} {l : Ledger} (m : Ledger) → EndsInPart a b f l → EndsInPart a b f (both l m)
cut_more {b = b} {f = f} m r = record {
  grows = r.grows;
  honest = r.honest;
  history = record {
    done = r.history.done;
    left = r.history.left ++ m.interned;
    split = ap (λ us. us ++ m.interned) r.history.split ∙ append_assoc r.history.done r.history.left m.interned;
    interns = r.history.interns;
    next = next_more b f r.history.left m.interned r.history.next;
  };
  within_ids = omega arith;
  within_words = omega arith;
}

pub ran_cut : {F : Type 0} {a b c : State F} {f : StoreFault} {l m : Ledger} → MeetsLedger a b l → EndsInPart b c f m → EndsInPart a c f (both l m)
ran_cut {l = l} r s = record {
  grows = grows_trans r.grows s.grows;
  honest = s.honest;
  history = record {
    done = l.interned ++ s.history.done;
    left = s.history.left;
    split = ap (λ us. l.interned ++ us) s.history.split ∙ sym (append_assoc l.interned s.history.done s.history.left);
    interns = interns_both r.history s.history.interns;
    next = s.history.next;
  };
  within_ids = omega arith;
  within_words = omega arith;
}

ran_before : {F : Type 0} {a b c : State F} {l : Ledger} → StoreStep a b None 0 0 → b.history ≡ a.history → MeetsLedger b c l → MeetsLedger a c l
ran_before s h r = record {
  grows = grows_trans s.grows r.grows;
  history = record { pairs = r.history.pairs; grown = r.history.grown ∙ ap (λ p. p ++ r.history.pairs) h; same = r.history.same };
  texts = r.texts;
  within_ids = let e = s.within_ids in omega arith;
  within_words = let e = s.within_words in omega arith;
}

cut_before : {F : Type 0} {a b c : State F} {f : StoreFault} {l : Ledger} → StoreStep a b None 0 0 → b.history ≡ a.history → EndsInPart b c f l → EndsInPart a c f l
cut_before s h r = record {
  grows = grows_trans s.grows r.grows;
  honest = r.honest;
  history = record {
    done = r.history.done;
    left = r.history.left;
    split = r.history.split;
    interns = record { pairs = r.history.interns.pairs; grown = r.history.interns.grown ∙ ap (λ p. p ++ r.history.interns.pairs) h; same = r.history.interns.same };
    next = r.history.next;
  };
  within_ids = let e = s.within_ids in omega arith;
  within_words = let e = s.within_words in omega arith;
}

-- a call that uses nothing, and then an evaluation
pub did_before : {F V A : Type 0} (a b c : State F) (see : State F → V → A) (fine : State F → V → Type 0) (r : Result V Stop) (o : Out A) →
    StoreStep a b None 0 0 → b.history ≡ a.history → ComesTo b c see fine r o → ComesTo a c see fine r o
did_before a b c see fine (Ok v) (gave x m) s h d = record { is = d.is; good = d.good; ran = ran_before s h d.ran }
did_before a b c see fine (Ok v) (ended e m) s h d = absurd d
did_before a b c see fine (Err (Threw k)) (gave x m) s h d = absurd d
did_before a b c see fine (Err (Threw k)) (ended (threw n) m) s h d = (d.0, ran_before s h d.1)
did_before a b c see fine (Err (Threw k)) (ended (unsupported n) m) s h d = absurd d
did_before a b c see fine (Err (Unsupported k)) (gave x m) s h d = absurd d
did_before a b c see fine (Err (Unsupported k)) (ended (threw n) m) s h d = absurd d
did_before a b c see fine (Err (Unsupported k)) (ended (unsupported n) m) s h d = (d.0, ran_before s h d.1)
did_before a b c see fine (Err (Store f)) (gave x m) s h d = cut_before s h d
did_before a b c see fine (Err (Store f)) (ended e m) s h d = cut_before s h d

pub did_after : {F V A : Type 0} (a b c : State F) (see : State F → V → A) (fine : State F →
    V → Type 0) (l : Ledger) (r : Result V Stop) (o : Out A) → MeetsLedger a b l → ComesTo b c see fine r o → ComesTo a c see fine r (after_ledger l o)
did_after a b c see fine l (Ok v) (gave x m) r d = record { is = d.is; good = d.good; ran = ran_both r d.ran }
did_after a b c see fine l (Ok v) (ended e m) r d = absurd d
did_after a b c see fine l (Err (Threw k)) (gave x m) r d = absurd d
did_after a b c see fine l (Err (Threw k)) (ended (threw n) m) r d = (d.0, ran_both r d.1)
did_after a b c see fine l (Err (Threw k)) (ended (unsupported n) m) r d = absurd d
did_after a b c see fine l (Err (Unsupported k)) (gave x m) r d = absurd d
did_after a b c see fine l (Err (Unsupported k)) (ended (threw n) m) r d = absurd d
did_after a b c see fine l (Err (Unsupported k)) (ended (unsupported n) m) r d = (d.0, ran_both r d.1)
did_after a b c see fine l (Err (Store f)) (gave x m) r d = ran_cut r d
did_after a b c see fine l (Err (Store f)) (ended e m) r d = ran_cut r d

-- a value, and then what is done with it
pub did_bind : {F V A W B : Type 0} (a b c : State F) (see : State F → V → A) (fine : State F → V → Type 0) (see' : State F
    → W → B) (fine' : State F → W → Type 0) (v : V) (r : Result W Stop) (o : Out A) (go : A → Out B) → ComesTo a b see fine (Ok v) o → ComesTo
    b c see' fine' r (go (see b v)) → ComesTo a c see' fine' r (bind o go)
did_bind a b c see fine see' fine' v r (gave x l) go d e =
    did_after a b c see' fine' l r (go x) d.ran (subst (λ y. ComesTo b c see' fine' r (go y)) d.is e)
did_bind a b c see fine see' fine' v r (ended n l) go d e = absurd d

pub cut_after : {F A : Type 0} {a b : State F} {f : StoreFault} (l : Ledger) (o : Out A) → EndsInPart a b f l → EndsInPart a b f (ledger_of (after_ledger l o))
cut_after l (gave x m) c = cut_more m c
cut_after l (ended e m) c = cut_more m c

-- a stop, and then nothing
pub did_stop : {F V A W B : Type 0} (a b : State F) (see : State F → V → A) (fine : State F → V → Type 0) (see' : State F
    → W → B) (fine' : State F → W → Type 0) (s : Stop) (o : Out A) (go : A → Out B) → ComesTo a b see fine (Err s) o → ComesTo a b see' fine' (Err s) (bind o go)
did_stop a b see fine see' fine' (Threw k) (gave x l) go d = absurd d
did_stop a b see fine see' fine' (Threw k) (ended (threw n) l) go d = d
did_stop a b see fine see' fine' (Threw k) (ended (unsupported n) l) go d = absurd d
did_stop a b see fine see' fine' (Unsupported k) (gave x l) go d = absurd d
did_stop a b see fine see' fine' (Unsupported k) (ended (threw n) l) go d = absurd d
did_stop a b see fine see' fine' (Unsupported k) (ended (unsupported n) l) go d = d
did_stop a b see fine see' fine' (Store f) (gave x l) go d = cut_after l (go x) d
did_stop a b see fine see' fine' (Store f) (ended e l) go d = d

pub honest_full : {F : Type 0} (b : State F) (f : StoreFault) → Honest b (Some f) → Honest b (full_only f)
honest_full b (Full r) h = h
honest_full b Memory h = tt

never_next : {F : Type 0} (b : State F) (f : StoreFault) (us : List (List ℕ)) → NeverSlots (Some f) → NextShut b f us
never_next b (Full (Slots n)) us h = absurd h
never_next b (Full (Ids x y z)) us h = tt
never_next b (Full (Words x y z)) us h = tt
never_next b Memory us h = tt

-- a chain of calls that was refused
pub cut_of_step : {F : Type 0} {a b : State F} {f : StoreFault} {i w : ℕ} (l : Ledger) → StoreStep a b (Some f) i w → b.history ≡ a.history
    → NeverSlots (Some f) → i ≤ l.ids → w ≤ l.words → EndsInPart a b f l
cut_of_step {a = a} {b = b} {f = f} l s h n p q = record {
  grows = s.grows;
  honest = honest_full b f s.honest;
  history = record {
    done = [];
    left = l.interned;
    split = refl;
    interns = record { pairs = []; grown = h ∙ sym (append-nil a.history); same = refl };
    next = never_next b f l.interned n;
  };
  within_ids = let e = s.within_ids in omega arith;
  within_words = let e = s.within_words in omega arith;
}

-- out of memory of the evaluator's own
pub cut_of_memory : {F : Type 0} {a b : State F} {i w : ℕ} (l : Ledger) → StoreStep a b None i w → b.history ≡ a.history → i ≤ l.ids → w ≤ l.words → EndsInPart a b Memory l
cut_of_memory {a = a} l s h p q = record {
  grows = s.grows;
  honest = tt;
  history = record {
    done = [];
    left = l.interned;
    split = refl;
    interns = record { pairs = []; grown = h ∙ sym (append-nil a.history); same = refl };
    next = tt;
  };
  within_ids = let e = s.within_ids in omega arith;
  within_words = let e = s.within_words in omega arith;
}

-- a chain of calls of which the last may have found no memory itself
pub cut_of_full : {F : Type 0} {a b : State F} {i w : ℕ} (f : StoreFault) (l : Ledger) → StoreStep a b (full_only f) i w → b.history ≡
    a.history → NeverSlots (full_only f) → i ≤ l.ids → w ≤ l.words → EndsInPart a b f l
cut_of_full (Full r) l s h n p q = cut_of_step l s h n p q
cut_of_full Memory l s h n p q = cut_of_memory l s h p q

-- a chain of calls that was made whole, interned nothing and gave nothing
pub ran_of_step : {F : Type 0} {a b : State F} {i w : ℕ} (ids words : ℕ) → StoreStep a b None i w → b.history ≡ a.history → i ≤ ids → w ≤
    words → MeetsLedger a b (record { interned = []; texts = []; ids = ids; words = words })
ran_of_step {a = a} ids words s h p q = record {
  grows = s.grows;
  history = record { pairs = []; grown = h ∙ sym (append-nil a.history); same = refl };
  texts = λ u k. absurd (Contains-nil u k);
  within_ids = let e = s.within_ids in omega arith;
  within_words = let e = s.within_words in omega arith;
}

-- the report of a method that may find no memory itself
pub full_same : (f : StoreFault) → full_part (MethodStore f) ≡ full_only f
full_same (Full r) = refl
full_same Memory = refl

one_text : (w u : List ℕ) (k : ℕ) → k < 1 → slice_index_or (w ∷ []) k u ≡ u → w ≡ u
one_text w u zero l e = e
one_text w u (suc k) l e = absurd (omega (arith, l))

-- a chain of calls that gave one string
pub ran_of_text : {F : Type 0} {a b : State F} {i k : ℕ} (ids words : ℕ) (w : List ℕ) (n : ℕ) → NamesUnits b n w → StoreStep a b None i k →
    b.history ≡ a.history → i ≤ ids → k ≤ words → MeetsLedger a b (record { interned = []; texts = w ∷ []; ids = ids; words = words })
ran_of_text {a = a} {b = b} ids words w n z s h p q = record {
  grows = s.grows;
  history = record { pairs = []; grown = h ∙ sym (append-nil a.history); same = refl };
  texts = λ u c. (n, z ∙ ap Some (one_text w u c.0 c.1 c.2));
  within_ids = let e = s.within_ids in omega arith;
  within_words = let e = s.within_words in omega arith;
}

-- a conversion within an operation, and then what is done with its value
pub did_convert : {F V A W B : Type 0} (row : Row) (a b c : State F) (see : State F → V → A) (fine : State F → V → Type 0) (see' : State F
    → W → B) (fine' : State F → W → Type 0) (v : V) (r : Result W Stop) (o : Out A) (go : A → Out B) → ComesTo a b see fine (Ok v) o → ComesTo
    b c see' fine' r (go (see b v)) → ComesTo a c see' fine' r (converting row o go)
did_convert row a b c see fine see' fine' v r (gave x l) go d e =
    did_after a b c see' fine' l r (go x) d.ran (subst (λ y. ComesTo b c see' fine' r (go y)) d.is e)
did_convert row a b c see fine see' fine' v r (ended (threw n) l) go d e = absurd d
did_convert row a b c see fine see' fine' v r (ended (unsupported n) l) go d e = absurd d

-- a conversion that stops an operation
pub did_fail : {F V A W B : Type 0} (row : Row) (a b : State F) (see : State F → V → A) (fine : State F → V → Type 0) (see' : State F
    → W → B) (fine' : State F → W → Type 0) (s : Stop) (o : Out A) (go : A → Out B) → ComesTo a b see fine (Err s) o → ComesTo a b see' fine'
    (Err s) (converting row o go)
did_fail row a b see fine see' fine' (Threw k) (gave x l) go d = absurd d
did_fail row a b see fine see' fine' (Threw k) (ended (threw n) l) go d = (d.0, ran_both d.1 (ran_of_step (ids_in row) (words_in row) (step_refl b) refl (omega arith) (omega arith)))
did_fail row a b see fine see' fine' (Threw k) (ended (unsupported n) l) go d = absurd d
did_fail row a b see fine see' fine' (Unsupported k) (gave x l) go d = absurd d
did_fail row a b see fine see' fine' (Unsupported k) (ended (threw n) l) go d = absurd d
did_fail row a b see fine see' fine' (Unsupported k) (ended (unsupported n) l) go d = d
did_fail row a b see fine see' fine' (Store f) (gave x l) go d = cut_after l (go x) d
did_fail row a b see fine see' fine' (Store f) (ended (threw n) l) go d = cut_more (cost row) d
did_fail row a b see fine see' fine' (Store f) (ended (unsupported n) l) go d = d
