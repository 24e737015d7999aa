-- Jobs in a row.
use Rattle.std.proofs.Common.{◌≡◌, ℕ, ◌+◌, ◌-◌, ◌<◌, ◌≤◌, List, [], ◌∷◌, ◌++◌, length, take, set, get_or, refl, sym, ap, subst, ◌∙◌, arith, append_assoc, Some}
use Rattle.std.specs.Prelude.{⊤}
use Rattle.std.proofs.lemmas.List.{append-nil, take_more, take_more_set, get_or-set_other, length-set}
use Rattle.js_store.specs.State.{State, Grows}
use Rattle.js_store.specs.Faults.{Honest, ids_wanted, words_wanted}
use Rattle.js_store.specs.declared.faults.FullReport.{FullReport}
use Rattle.js_store.specs.declared.faults.FullReport.TheVariants.{Ids, Words, Slots}
use Rattle.js_store.specs.declared.faults.StoreFault.{StoreFault}
use Rattle.js_store.specs.declared.faults.StoreFault.TheVariants as store
use Rattle.js_store.proofs.Laws.{has_known, grows_refl, grows_trans}
use Rattle.js_texts.specs.Texts.{full_only}
use Rattle.eval_scopes.specs.Bindings.{Bound}
use Rattle.js_item.specs.Seen.{Val}
use Rattle.eval_values.specs.Ran.{NextShut}
use Rattle.js_eval.specs.declared.ending.End.{End}
use Rattle.js_eval.specs.declared.ending.End.TheVariants.{Done, Threw, Unsupported, Full, Memory}
use Rattle.js_eval.specs.Script.{Flow, flow_ledger}
use Rattle.js_eval.specs.Evaluates.{Finished, Interrupted, Evaluates}
use Rattle.run_program.specs.declared.job.Job.{Job}
use Rattle.run_program.specs.declared.job.Outcome.{Outcome}
use Rattle.run_program.specs.Jobs.{JobUse, RunFile, WasFileRun, fault_in, Reports, Whole, Broken, HasJobEnd, CameOf, AtEach, pairs_of, ids_of, words_of, job_ids_needed}
use Rattle.run_program.specs.Jobs.{job_words_needed, most_ids_wanted, most_words_wanted, Later, RanJobs, HasNoLines}

abbrev pub file_of : Flow → Outcome → JobUse → RunFile
file_of m o p = record { mean = m; outcome = o; part = p }

-- a job that was broken off for another reason too
pub broken_for : (P Q : List (List ℕ) → Type 0) (m : Flow) (lines : List ℕ) (p : JobUse) → ((left : List (List ℕ)) → P left → Q left) → Broken P m lines p → Broken Q m lines p
broken_for P Q m lines p f h = record {
  lines_done = h.lines_done;
  lines_left = h.lines_left;
  lines_split = h.lines_split;
  lines_are = h.lines_are;
  left = h.left;
  interned = h.interned;
  why = f h.left h.why;
}

-- lists of three
module _ {X Y Z : Type 0} where
  pub each_weaker : (P Q : X → Y → Z → Type 0) → ((x : X) (y : Y) (z : Z) → P x y z → Q x y z) → (xs : List X) (ys : List Y) (zs : List Z) → AtEach P xs ys zs → AtEach Q xs ys zs
  each_weaker P Q f [] [] [] h = tt
  each_weaker P Q f (x ∷ xs) (y ∷ ys) (z ∷ zs) h = (f x y z h.0, each_weaker P Q f xs ys zs h.1)
  each_weaker P Q f [] [] (z ∷ zs) h = absurd h
  each_weaker P Q f [] (y ∷ ys) zs h = absurd h
  each_weaker P Q f (x ∷ xs) [] zs h = absurd h
  each_weaker P Q f (x ∷ xs) (y ∷ ys) [] h = absurd h

  pub each_append : (P : X → Y → Z → Type 0) → (xs : List X) (ys : List Y) (zs : List Z) (us : List X) (vs : List Y) (ws : List Z) → AtEach
      P xs ys zs → AtEach P us vs ws → AtEach P (xs ++ us) (ys ++ vs) (zs ++ ws)
  each_append P [] [] [] us vs ws h k = k
  each_append P (x ∷ xs) (y ∷ ys) (z ∷ zs) us vs ws h k = (h.0, each_append P xs ys zs us vs ws h.1 k)
  each_append P [] [] (z ∷ zs) us vs ws h k = absurd h
  each_append P [] (y ∷ ys) zs us vs ws h k = absurd h
  each_append P (x ∷ xs) [] zs us vs ws h k = absurd h
  each_append P (x ∷ xs) (y ∷ ys) [] us vs ws h k = absurd h

-- parts
pub pairs_append : (ps qs : List JobUse) → pairs_of (ps ++ qs) ≡ pairs_of ps ++ pairs_of qs
pairs_append [] qs = refl
pairs_append (p ∷ ps) qs = ap (λ x. p.pairs ++ x) (pairs_append ps qs) ∙ sym (append_assoc p.pairs (pairs_of ps) (pairs_of qs))

pub ids_append : (ps qs : List JobUse) → ids_of (ps ++ qs) ≡ ids_of ps + ids_of qs
ids_append [] qs = omega arith
ids_append (p ∷ ps) qs = omega (arith, ids_append ps qs)

pub words_append : (ps qs : List JobUse) → words_of (ps ++ qs) ≡ words_of ps + words_of qs
words_append [] qs = omega arith
words_append (p ∷ ps) qs = omega (arith, words_append ps qs)

-- a later moment
pub grows_later : {F : Type 0} {b c : State F} → Grows b c → Later b c
grows_later g = record { known = g.known; shut = g.shut; low_ids = g.low_ids; low_words = g.low_words; sizes = g.sizes }

module _ {F : Type 0} {b c : State F} (l : Later b c) where
  reports_later : (f : RunFile) (r : FullReport) (left : List (List ℕ)) → Reports b f r left → Reports c f r left
  reports_later f (Ids at want end) left h = (h.0, h.1 ∙ ap (λ z. z.ids) (sym l.sizes), omega (arith, h.2, l.low_ids), h.3, h.4)
  reports_later f (Words at want end) left h = (h.0, h.1 ∙ ap (λ z. z.words) (sym l.sizes), omega (arith, h.2, l.low_words), h.3)
  reports_later f (Slots slots) [] h = absurd h
  reports_later f (Slots slots) (u ∷ us) h = (h.0 ∙ ap (λ z. z.slots) (sym l.sizes), l.shut u h.1)

  module _ (f : RunFile) where
    whole_later : (e : End) → Whole b f.mean f.outcome.lines e f.part → Whole c f.mean f.outcome.lines e f.part
    whole_later e h = record { end_is = h.end_is; lines_are = h.lines_are; interned = h.interned; texts = λ u k. let t = h.texts u k in (t.0, l.known t.0 (has_known b t.0 u t.1) ∙ t.1) }

    ended_later : (e : End) → HasJobEnd b (Reports b f) f.mean f.outcome.lines e f.part → HasJobEnd c (Reports c f) f.mean f.outcome.lines e f.part
    ended_later Done h = whole_later Done h
    ended_later (Threw k) h = whole_later (Threw k) h
    ended_later (Unsupported at) h = whole_later (Unsupported at) h
    ended_later (Full r) h = broken_for (Reports b f r) (Reports c f r) f.mean f.outcome.lines f.part (reports_later f r) h
    ended_later Memory h = h

  pub file_later : (f : RunFile) → WasFileRun b (Reports b) f → WasFileRun c (Reports c) f
  file_later f h = record { ended = ended_later f f.outcome.end h.ended; within_ids = h.within_ids; within_words = h.within_words }

  pub came_later : (m : Flow) (j : Job) (o : Outcome) (p : JobUse) → CameOf b m j o p → CameOf c m j o p
  came_later m j o p h = record { index = h.index; run = file_later (file_of m o p) h.run }

-- no jobs
pub ran_none : {F : Type 0} (mean : Job → Flow) (a : State F) → RanJobs mean a a [] []
ran_none mean a = record {
  grows = grows_refl a;
  parts = [];
  each = tt;
  history = sym (append-nil a.history);
  used_ids = omega arith;
  used_words = omega arith;
}

-- some jobs, and then others
pub ran_then : {F : Type 0} (mean : Job → Flow) (a b c : State F) (js : List Job) (os : List Outcome) (ks : List Job) (us : List Outcome) →
    RanJobs mean a b js os → RanJobs mean b c ks us → RanJobs mean a c (js ++ ks) (os ++ us)
ran_then mean a b c js os ks us r s = record {
  grows = grows_trans r.grows s.grows;
  parts = r.parts ++ s.parts;
  each = each_append (λ j. CameOf c (mean j) j) js os r.parts ks us s.parts
      (each_weaker (λ j. CameOf b (mean j) j) (λ j. CameOf c (mean j) j) (λ j. came_later (grows_later s.grows) (mean j) j) js os r.parts r.each) s.each;
  history = s.history ∙ (ap (λ h. h ++ pairs_of s.parts) r.history ∙ (append_assoc a.history (pairs_of r.parts) (pairs_of s.parts) ∙ ap (λ h. a.history ++ h) (sym (pairs_append r.parts s.parts))));
  used_ids = omega (arith, r.used_ids, s.used_ids, ids_append r.parts s.parts);
  used_words = omega (arith, r.used_words, s.used_words, words_append r.parts s.parts);
}

-- one more job behind the first k
pub ran_more : {F : Type 0} (mean : Job → Flow) (a b c : State F) (js : List Job) (os : List Outcome) (k : ℕ) (j : Job) (o : Outcome) → k < length js → length os ≡ length js → j ≡ get_or js k j
    → RanJobs mean a b (take k js) (take k os) → RanJobs mean b c (j ∷ []) (o ∷ []) → RanJobs mean a c (take (k + 1) js) (take (k + 1) (set os k o))
ran_more mean a b c js os k j o h len is r s =
    let e : take (k + 1) js ≡ take k js ++ j ∷ [] = take_more js k j h ∙ ap (λ x. take k js ++ x ∷ []) (sym is) in
    let f : take (k + 1) (set os k o) ≡ take k os ++ o ∷ [] = take_more_set os k o (omega arith) in
    subst (λ (x : List Job). RanJobs mean a c x (take (k + 1) (set os k o))) (sym e)
    (subst (λ (y : List Outcome). RanJobs mean a c (take k js ++ j ∷ []) y) (sym f) (ran_then mean a b c (take k js) (take k os) (j ∷ []) (o ∷ []) r s))

pub empty_more : (os : List Outcome) (k : ℕ) (o : Outcome) → ((i : ℕ) (d : Outcome) → k ≤ i → i < length os → HasNoLines
    (get_or os i d)) → (i : ℕ) (d : Outcome) → k + 1 ≤ i → i < length (set os k o) → HasNoLines (get_or (set os k o) i d)
empty_more os k o f i d m h = let P : Outcome → Type 0 = λ x. HasNoLines x in
    subst P (sym (get_or-set_other os k i o d (λ e. absurd (omega arith)))) (f i d (omega arith) (omega (arith, h, length-set os k o)))

-- one job
reports_now : {F : Type 0} (b : State F) (f : RunFile) (r : FullReport) (left : List (List ℕ)) → Honest b (Some (store.Full r)) → NextShut b (store.Full r) left
    → f.part.ids + ids_wanted (Some (store.Full r)) ≤ (flow_ledger f.mean).ids → f.part.words + words_wanted (Some (store.Full r)) ≤ (flow_ledger f.mean).words → Reports b f r left
reports_now b f (Ids at want end) left h next i w = (h.0.past_end, h.0.end_is, omega (arith, h.0.at_is), h.1, i)
reports_now b f (Words at want end) left h next i w = (h.past_end, h.end_is, omega (arith, h.at_is), w)
reports_now b f (Slots slots) [] h next i w = absurd next
reports_now b f (Slots slots) (u ∷ us) h next i w = (h.1, next)

module _ {F : Type 0} (mean : Job → Flow) (a b : State F) (g : Grows a b) (j : Job) (o : Outcome) (index : o.index ≡ j.index) where
  ran_part : (p : JobUse) → WasFileRun b (Reports b) (file_of (mean j) o p) → b.history ≡ a.history ++ p.pairs → b.used_ids ≡ a.used_ids + p.ids → b.used_words ≡ a.used_words + p.words
      → RanJobs mean a b (j ∷ []) (o ∷ [])
  ran_part p run grown ids words = record {
    grows = g;
    parts = p ∷ [];
    each = (record { index = index; run = run }, tt);
    history = grown ∙ ap (λ x. a.history ++ x) (sym (append-nil p.pairs));
    used_ids = omega (arith, ids);
    used_words = omega (arith, words);
  }

  abbrev AsEnd : JobUse → End → Type 0
  AsEnd p e = HasJobEnd b (Reports b (file_of (mean j) o p)) (mean j) o.lines e p

  from_whole : (end : End) (after : List (Bound Val)) → o.end ≡ end → ((p : JobUse) → Whole b (mean j) o.lines end p → AsEnd p end)
      → Finished a b [] o.lines after end (mean j) → RanJobs mean a b (j ∷ []) (o ∷ [])
  from_whole end after e as_end h =
      let p : JobUse = record { pairs = h.interned.pairs; ids = b.used_ids - a.used_ids; words = b.used_words - a.used_words } in
      let whole : Whole b (mean j) o.lines end p = record { end_is = h.end_is; lines_are = h.lines; interned = h.interned.same; texts = h.texts } in
      let ids : b.used_ids - a.used_ids ≤ (flow_ledger (mean j)).ids = omega (arith, h.within_ids, g.used_ids) in
      let words : b.used_words - a.used_words ≤ (flow_ledger (mean j)).words = omega (arith, h.within_words, g.used_words) in
      ran_part p (record { ended = subst (AsEnd p) (sym e) (as_end p whole); within_ids = ids; within_words = words }) h.interned.grown (omega (arith, g.used_ids)) (omega (arith, g.used_words))

  from_broken : (end : End) (f : StoreFault) (Why : JobUse → List (List ℕ) → Type 0) → o.end ≡ end → ((p : JobUse) → Broken (Why p) (mean j) o.lines p → AsEnd p end)
      → ((p : JobUse) (left : List (List ℕ)) → Honest b (full_only f) → NextShut b f left
      → p.ids + ids_wanted (Some f) ≤ (flow_ledger (mean j)).ids → p.words + words_wanted (Some f) ≤ (flow_ledger (mean j)).words → Why p left)
      → Interrupted a b [] o.lines f (mean j) → RanJobs mean a b (j ∷ []) (o ∷ [])
  from_broken end f Why e as_end reason h =
      let p : JobUse = record { pairs = h.interned.interns.pairs; ids = b.used_ids - a.used_ids; words = b.used_words - a.used_words } in
      let ids : b.used_ids - a.used_ids + ids_wanted (Some f) ≤ (flow_ledger (mean j)).ids = omega (arith, h.within_ids, g.used_ids) in
      let words : b.used_words - a.used_words + words_wanted (Some f) ≤ (flow_ledger (mean j)).words = omega (arith, h.within_words, g.used_words) in
      let few_ids : b.used_ids - a.used_ids ≤ (flow_ledger (mean j)).ids = omega (arith, ids) in
      let few_words : b.used_words - a.used_words ≤ (flow_ledger (mean j)).words = omega (arith, words) in
      let broken : Broken (Why p) (mean j) o.lines p = record {
        lines_done = h.lines.done;
        lines_left = h.lines.left;
        lines_split = h.lines.split;
        lines_are = h.lines.written;
        left = h.interned.left;
        interned = h.interned.split ∙ ap (λ x. x ++ h.interned.left) (sym h.interned.interns.same);
        why = reason p h.interned.left h.honest h.interned.next ids words;
      } in
      ran_part p (record { ended = subst (AsEnd p) (sym e) (as_end p broken); within_ids = few_ids; within_words = few_words }) h.interned.interns.grown (omega (arith, g.used_ids)) (omega (arith, g.used_words))

  pub ran_one : (after : List (Bound Val)) (end : End) → o.end ≡ end → Evaluates a b [] o.lines after end (mean j) → RanJobs mean a b (j ∷ []) (o ∷ [])
  ran_one after Done e h = from_whole Done after e (λ p k. k) h
  ran_one after (Threw k) e h = from_whole (Threw k) after e (λ p w. w) h
  ran_one after (Unsupported at) e h = from_whole (Unsupported at) after e (λ p w. w) h
  ran_one after (Full r) e h = from_broken (Full r) (store.Full r) (λ p. Reports b (file_of (mean j) o p) r) e (λ p k. k) (λ p left honest next i w. reports_now b
      (file_of (mean j) o p) r left honest next i w) h
  ran_one after Memory e h = from_broken Memory store.Memory (λ p left. ⊤) e (λ p k. k) (λ p left honest next i w. tt) h

  -- a job that found no memory before it began
  pub ran_not : b ≡ a → o.end ≡ Memory → o.lines ≡ [] → RanJobs mean a b (j ∷ []) (o ∷ [])
  ran_not same e empty =
      let p : JobUse = record { pairs = []; ids = 0; words = 0 } in
      let broken : Broken (λ left. ⊤) (mean j) o.lines p = record {
        lines_done = [];
        lines_left = (mean j).lines;
        lines_split = refl;
        lines_are = empty;
        left = (flow_ledger (mean j)).interned;
        interned = refl;
        why = tt;
      } in
      let ids : 0 ≤ (flow_ledger (mean j)).ids = omega arith in
      let words : 0 ≤ (flow_ledger (mean j)).words = omega arith in
      ran_part p (record { ended = subst (AsEnd p) (sym e) broken; within_ids = ids; within_words = words })
      (ap (λ x. x.history) same ∙ sym (append-nil a.history)) (omega (arith, ap (λ x. x.used_ids) same)) (omega (arith, ap (λ x. x.used_words) same))

-- what a job used, with the want of its report besides, is at most what it needs
module _ {F : Type 0} (b : State F) (f : RunFile) (h : WasFileRun b (Reports b) f) where
  ids_asked : (e : End) → HasJobEnd b (Reports b f) f.mean f.outcome.lines e f.part → f.part.ids + ids_wanted (fault_in e) ≤ (flow_ledger f.mean).ids
  ids_asked (Full (Ids at want end)) k = omega (arith, k.why.4)
  ids_asked (Full (Words at want end)) k = omega (arith, h.within_ids)
  ids_asked (Full (Slots slots)) k = omega (arith, h.within_ids)
  ids_asked Done k = omega (arith, h.within_ids)
  ids_asked (Threw kind) k = omega (arith, h.within_ids)
  ids_asked (Unsupported at) k = omega (arith, h.within_ids)
  ids_asked Memory k = omega (arith, h.within_ids)

  words_asked : (e : End) → HasJobEnd b (Reports b f) f.mean f.outcome.lines e f.part → f.part.words + words_wanted (fault_in e) ≤ (flow_ledger f.mean).words
  words_asked (Full (Words at want end)) k = omega (arith, k.why.3)
  words_asked (Full (Ids at want end)) k = omega (arith, h.within_words)
  words_asked (Full (Slots slots)) k = omega (arith, h.within_words)
  words_asked Done k = omega (arith, h.within_words)
  words_asked (Threw kind) k = omega (arith, h.within_words)
  words_asked (Unsupported at) k = omega (arith, h.within_words)
  words_asked Memory k = omega (arith, h.within_words)

-- what the jobs used, with the want of any one report besides, is at most what they need
pub ids_within : {F : Type 0} (mean : Job → Flow) (b : State F) (js : List Job) (os : List Outcome) (ps : List JobUse) → AtEach
    (λ j. CameOf b (mean j) j) js os ps → ids_of ps + most_ids_wanted os ≤ job_ids_needed mean js
ids_within mean b [] [] [] h = omega arith
ids_within mean b (j ∷ js) (o ∷ os) (p ∷ ps) h = let asked : p.ids + ids_wanted (fault_in o.end) ≤ (flow_ledger (mean j)).ids = ids_asked b (file_of (mean j) o p) h.0.run o.end h.0.run.ended in omega (arith, asked, ids_within mean b js os ps h.1)
ids_within mean b [] [] (z ∷ zs) h = absurd h
ids_within mean b [] (y ∷ ys) zs h = absurd h
ids_within mean b (x ∷ xs) [] zs h = absurd h
ids_within mean b (x ∷ xs) (y ∷ ys) [] h = absurd h

pub words_within : {F : Type 0} (mean : Job → Flow) (b : State F) (js : List Job) (os : List Outcome) (ps : List JobUse) → AtEach
    (λ j. CameOf b (mean j) j) js os ps → words_of ps + most_words_wanted os ≤ job_words_needed mean js
words_within mean b [] [] [] h = omega arith
words_within mean b (j ∷ js) (o ∷ os) (p ∷ ps) h = let asked : p.words + words_wanted (fault_in o.end) ≤ (flow_ledger (mean j)).words = words_asked b (file_of (mean j) o p) h.0.run o.end h.0.run.ended in omega (arith, asked, words_within mean b js os ps h.1)
words_within mean b [] [] (z ∷ zs) h = absurd h
words_within mean b [] (y ∷ ys) zs h = absurd h
words_within mean b (x ∷ xs) [] zs h = absurd h
words_within mean b (x ∷ xs) (y ∷ ys) [] h = absurd h

pub ran_within_ids : {F : Type 0} (mean : Job → Flow) (a b : State F) (js : List Job) (os : List Outcome) → RanJobs mean a b js os →
    b.used_ids + most_ids_wanted os ≤ a.used_ids + job_ids_needed mean js
ran_within_ids mean a b js os r = omega (arith, r.used_ids, ids_within mean b js os r.parts r.each)

pub ran_within_words : {F : Type 0} (mean : Job → Flow) (a b : State F) (js : List Job) (os : List Outcome) → RanJobs mean a b js os →
    b.used_words + most_words_wanted os ≤ a.used_words + job_words_needed mean js
ran_within_words mean a b js os r = omega (arith, r.used_words, words_within mean b js os r.parts r.each)
