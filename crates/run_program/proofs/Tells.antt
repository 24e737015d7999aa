-- What the ends of files tell.
use Rattle.std.proofs.Common.{◌≡◌, ℕ, ◌+◌, ◌≤◌, ◌⊎◌, inl, inr, ⊎_elim, List, [], ◌∷◌, ◌++◌, refl, sym, ap, subst, ◌∙◌, arith, append-nil, Contains, flat_map, Option}
use Rattle.std.specs.List.{concat}
use Rattle.std.specs.Map.{keys_of}
use Rattle.std.proofs.lemmas.List.{map-append}
use Rattle.std.proofs.lemmas.List.Concat.{flat_map-append}
use Rattle.std.proofs.lemmas.List.Elements.{Contains-append_left, Contains-append_right, Contains-append_cases}
use Rattle.js_store.specs.State.{State, Interned, Sound}
use Rattle.js_store.specs.declared.faults.FullReport.{FullReport}
use Rattle.js_store.specs.declared.faults.FullReport.TheVariants.{Ids, Words, Slots}
use Rattle.js_texts.specs.Texts.{Every}
use Rattle.js_texts.proofs.Lists.{every_map}
use Rattle.eval_values.specs.Outcome.{Out, gave, ended, threw, unsupported}
use Rattle.eval_values.specs.Conversions.{sum_over}
use Rattle.js_eval.specs.declared.ending.End.{End}
use Rattle.js_eval.specs.declared.ending.End.TheVariants.{Done, Threw, Unsupported, Full, Memory}
use Rattle.js_eval.specs.Evaluates.{script_end}
use Rattle.js_eval.specs.Script.{Flow, flow_ledger}
use Rattle.heap_intern.specs.Counting.{different}
use Rattle.heap_session.specs.Sessions.{SessionFrame}
use Rattle.heap_session.specs.Whole.{HasWholeCounts}
use Rattle.run_program.specs.Jobs.{RunFile, WasFileRun, Whole, HasJobEnd, Reports}
use Rattle.run_program.specs.Fits.{Fits, all_meant, count_different, ids_needed, words_needed, lists_interned}
use Rattle.run_program.specs.Files.{AreRun, WereRun, AreFilesOf, IsAsMeant, means_of}
use Rattle.run_program.specs.Tells.{RanOut, FilesTell, FilesFollow}
use Rattle.run_program.proofs.First.{AreFirst, are_first}
use Rattle.run_program.proofs.Counts.{called, different_lists, more_different}

-- the needs of some are at most those of more
ids_front : (ms ns : List Flow) → ids_needed ms ≤ ids_needed (ms ++ ns)
ids_front [] ns = omega arith
ids_front (m ∷ ms) ns = omega (arith, ids_front ms ns)

words_front : (ms ns : List Flow) → words_needed ms ≤ words_needed (ms ++ ns)
words_front [] ns = omega arith
words_front (m ∷ ms) ns = omega (arith, words_front ms ns)

-- an end that is the meaning's, and one that is the file's own
never_full : (o : Out (Unit {0})) (r : FullReport) → Full r ≡ script_end o → ⊥
never_full (gave x l) r e = cc
never_full (ended (threw k) l) r e = cc
never_full (ended (unsupported at) l) r e = cc

never_memory : (o : Out (Unit {0})) → Memory ≡ script_end o → ⊥
never_memory (gave x l) e = cc
never_memory (ended (threw k) l) e = cc
never_memory (ended (unsupported at) l) e = cc

-- the first ones of some lists
record FirstLists (lists meant : List (List ℕ)) : Type 0 where
  left : List (List ℕ)
  split : meant ≡ lists ++ left

module _ {F : Type 0} (s : State F) (Why : RunFile → FullReport → List (List ℕ) → Type 0) (f : RunFile) where
  abbrev IsEndOf : End → Type 0
  IsEndOf e = HasJobEnd s (Why f) f.mean f.outcome.lines e f.part

  whole_of : (e : End) → IsEndOf e → e ≡ script_end f.mean.out → Whole s f.mean f.outcome.lines e f.part
  whole_of Done h is = h
  whole_of (Threw k) h is = h
  whole_of (Unsupported at) h is = h
  whole_of (Full r) h is = absurd (never_full f.mean.out r is)
  whole_of Memory h is = absurd (never_memory f.mean.out is)

  lists_whole : (e : End) → Whole s f.mean f.outcome.lines e f.part → FirstLists (keys_of f.part.pairs) (flow_ledger f.mean).interned
  lists_whole e h = record { left = []; split = sym h.interned ∙ sym (append-nil (keys_of f.part.pairs)) }

  first_lists_of : (e : End) → IsEndOf e → FirstLists (keys_of f.part.pairs) (flow_ledger f.mean).interned
  first_lists_of Done h = lists_whole Done h
  first_lists_of (Threw k) h = lists_whole (Threw k) h
  first_lists_of (Unsupported at) h = lists_whole (Unsupported at) h
  first_lists_of (Full r) h = record { left = h.left; split = h.interned }
  first_lists_of Memory h = record { left = h.left; split = h.interned }

  -- a file whose end is the meaning's printed the meaning's lines
  pub lines_meant : WasFileRun s Why f → IsAsMeant f → f.outcome.lines ≡ concat f.mean.lines
  lines_meant h is = (whole_of f.outcome.end h.ended is).lines_are

-- what files did together
abbrev all_pairs : List RunFile → List (List ℕ × ℕ)
all_pairs fs = flat_map (λ f. f.part.pairs) fs

abbrev all_ids : List RunFile → ℕ
all_ids fs = sum_over (λ f. f.part.ids) fs

abbrev all_words : List RunFile → ℕ
all_words fs = sum_over (λ f. f.part.words) fs

-- what files used is at most what they need
module _ {F : Type 0} (s : State F) (Why : RunFile → FullReport → List (List ℕ) → Type 0) where
  ids_within : (fs : List RunFile) → Every (WasFileRun s Why) fs → all_ids fs ≤ ids_needed (means_of fs)
  ids_within [] h = omega arith
  ids_within (f ∷ fs) h = omega (arith, h.0.within_ids, ids_within fs h.1)

  words_within : (fs : List RunFile) → Every (WasFileRun s Why) fs → all_words fs ≤ words_needed (means_of fs)
  words_within [] h = omega arith
  words_within (f ∷ fs) h = omega (arith, h.0.within_words, words_within fs h.1)

  -- so what one file uses less is left of what all need
  ids_beside : (fs : List RunFile) → Every (WasFileRun s Why) fs → Every (λ f. all_ids fs + (flow_ledger f.mean).ids ≤ ids_needed (means_of fs) + f.part.ids) fs
  ids_beside [] h = tt
  ids_beside (f ∷ fs) h = (omega (arith, ids_within fs h.1), every_map (λ g k. omega (arith, k, h.0.within_ids)) fs (ids_beside fs h.1))

  words_beside : (fs : List RunFile) → Every (WasFileRun s Why) fs → Every (λ f. all_words fs + (flow_ledger f.mean).words ≤ words_needed (means_of fs) + f.part.words) fs
  words_beside [] h = tt
  words_beside (f ∷ fs) h = (omega (arith, words_within fs h.1), every_map (λ g k. omega (arith, k, h.0.within_words)) fs (words_beside fs h.1))

  -- the lists of a history are among those that are meant
  listed_meant : (fs : List RunFile) → Every (WasFileRun s Why) fs → (u : List ℕ) → Contains (keys_of (all_pairs fs)) u → Contains (lists_interned (means_of fs)) u
  listed_meant [] h u c = c
  listed_meant (f ∷ fs) h u c = let first = first_lists_of s Why f f.outcome.end h.0.ended in
      let d = subst (λ (x : List (List ℕ)). Contains x u) (map-append (λ (q : List ℕ × ℕ). q.0) f.part.pairs (all_pairs fs)) c in
      ⊎_elim (λ a. Contains-append_left (flow_ledger f.mean).interned (lists_interned (means_of fs)) u
      (subst (λ (x : List (List ℕ)). Contains x u) (sym first.split) (Contains-append_left (keys_of f.part.pairs) first.left u a)))
      (λ b. Contains-append_right (flow_ledger f.mean).interned (lists_interned (means_of fs)) u (listed_meant fs h.1 u b))
      (Contains-append_cases (keys_of f.part.pairs) (keys_of (all_pairs fs)) u d)

  -- where each end is the meaning's they are all of those
  listed_all : (fs : List RunFile) → Every (WasFileRun s Why) fs → Every IsAsMeant fs → keys_of (all_pairs fs) ≡ lists_interned (means_of fs)
  listed_all [] h m = refl
  listed_all (f ∷ fs) h m = map-append (λ (q : List ℕ × ℕ). q.0) f.part.pairs (all_pairs fs)
      ∙ (ap (λ x. x ++ keys_of (all_pairs fs)) (whole_of s Why f f.outcome.end h.0.ended m.0).interned ∙ ap (λ x. (flow_ledger f.mean).interned ++ x) (listed_all fs h.1 m.1))

each_meant : (fs : List RunFile) → Every (λ f. (u : List ℕ) → Contains (flow_ledger f.mean).interned u → Contains (lists_interned (means_of fs)) u) fs
each_meant [] = tt
each_meant (f ∷ fs) = (
  (λ u c. Contains-append_left (flow_ledger f.mean).interned (lists_interned (means_of fs)) u c),
  every_map
      (λ g k u c. Contains-append_right (flow_ledger f.mean).interned (lists_interned (means_of fs)) u (k u c)) fs (each_meant fs),
)

-- what is known of one file and of all together
record Facts {F : Type 0} (s : State F) (means : List Flow) (f : RunFile) : Type 0 where
  came : WasFileRun s (Reports s) f
  ids : s.used_ids + (flow_ledger f.mean).ids ≤ ids_needed means + f.part.ids
  words : s.used_words + (flow_ledger f.mean).words ≤ words_needed means + f.part.words
  lists : (u : List ℕ) → Contains (flow_ledger f.mean).interned u → Contains (lists_interned means) u

module _ (s : State SessionFrame) (means : List Flow) (all : HasWholeCounts s) (sound : Sound s) (into : (u : List ℕ) → Contains (keys_of s.history) u → Contains (lists_interned means) u) where
  module _ (f : RunFile) (k : Facts s means f) where
    next_out : (n : ℕ) (left : List (List ℕ)) → (flow_ledger f.mean).interned ≡ keys_of f.part.pairs ++ left → Reports s f (Slots n) left → RanOut s means f (Slots n) left
    next_out n [] split told = absurd told
    next_out n (u ∷ us) split told =
        let held : different s.history ≡ s.sizes.slots = all.shut u told.1 in
        let missing : (i : ℕ) → Interned s u i → ⊥ = λ i c. sound.shut_apart u i told.1 c in
        let here : Contains (flow_ledger f.mean).interned u = subst (λ (x : List (List ℕ)). Contains x u) (sym split) (Contains-append_right (keys_of f.part.pairs) (u ∷ us) u (0, omega arith, refl)) in
        let more = more_different (keys_of s.history) (lists_interned means) u (λ c. let t = called s.history u c in missing t.0 t.1) into (k.lists u here) in
        let e = different_lists s.history in
        (held, told.1, missing, omega (arith, held, more, e))

    ran_out : (r : FullReport) (left : List (List ℕ)) → (flow_ledger f.mean).interned ≡ keys_of f.part.pairs ++ left → Reports s f r left → RanOut s means f r left
    ran_out (Ids at want end) left split h = (
      omega (arith, h.0, h.1, h.2, h.3, all.low_ids, all.ids),
      omega (arith, h.3, h.4),
      omega (arith, h.0, h.1, h.2, h.3, h.4, all.low_ids, k.ids),
    )
    ran_out (Words at want end) left split h = (omega (arith, h.0, h.1, h.2, h.3, all.low_words), omega (arith, h.0, h.1, h.2, h.3, all.low_words, k.words))
    ran_out (Slots slots) left split h = next_out slots left split h

    ended_for : (e : End) → IsEndOf s (Reports s) f e → IsEndOf s (RanOut s means) f e
    ended_for Done h = h
    ended_for (Threw kind) h = h
    ended_for (Unsupported at) h = h
    ended_for (Full r) h = record {
      lines_done = h.lines_done;
      lines_left = h.lines_left;
      lines_split = h.lines_split;
      lines_are = h.lines_are;
      left = h.left;
      interned = h.interned;
      why = ran_out r h.left h.interned h.why;
    }
    ended_for Memory h = h

    file_tells : WasFileRun s (RanOut s means) f
    file_tells = record { ended = ended_for f.outcome.end k.came.ended; within_ids = k.came.within_ids; within_words = k.came.within_words }

-- where the sizes are enough nothing runs out
module _ {F : Type 0} (s : State F) (means : List Flow) (fits : Fits s.sizes means) (f : RunFile) where
  never_out : (r : FullReport) (left : List (List ℕ)) → RanOut s means f r left → ⊥
  never_out (Ids at want end) left h = omega (arith, h.2, fits.ids)
  never_out (Words at want end) left h = omega (arith, h.1, fits.words)
  never_out (Slots n) [] h = h
  never_out (Slots n) (u ∷ us) h = omega (arith, h.3, fits.slots)

  end_fits : (e : End) → IsEndOf s (RanOut s means) f e → (e ≡ script_end f.mean.out) ⊎ (e ≡ Memory)
  end_fits Done h = inl h.end_is
  end_fits (Threw k) h = inl h.end_is
  end_fits (Unsupported at) h = inl h.end_is
  end_fits (Full r) h = absurd (never_out r h.left h.why)
  end_fits Memory h = inr refl

every_both : {A : Type 0} {P Q R : A → Type 0} → ((x : A) → P x → Q x → R x) → (xs : List A) → Every P xs → Every Q xs → Every R xs
every_both f [] p q = tt
every_both f (x ∷ xs) p q = (f x p.0 q.0, every_both f xs p.1 q.1)

-- how many different lists the history has where every end is the meaning's
counts_all : {F : Type 0} (s : State F) (Why : RunFile → FullReport → List (List ℕ) → Type 0) (means : List Flow) (files : List RunFile) → AreRun s Why files → AreFirst means files
    → Every IsAsMeant files → different s.history ≡ count_different (lists_interned means)
counts_all s Why means files run first m = different_lists s.history ∙ ap count_different (ap keys_of run.history ∙ (listed_all s Why files run.each m
    ∙ ap lists_interned (sym (first.split ∙ (ap (λ x. means_of files ++ x) (first.all m) ∙ append-nil (means_of files))))))

module _ (s : State SessionFrame) (means : List Flow) (files : List RunFile) (all : HasWholeCounts s) (sound : Sound s) (run : WereRun s files) (first : AreFirst means files) where
  front : (u : List ℕ) → Contains (lists_interned (means_of files)) u → Contains (lists_interned means) u
  front u c = subst (λ (ms : List Flow). Contains (lists_interned ms) u) (sym first.split)
      (subst (λ (x : List (List ℕ)). Contains x u) (sym (flat_map-append (λ m. (flow_ledger m).interned) (means_of files) first.rest))
      (Contains-append_left (lists_interned (means_of files)) (lists_interned first.rest) u c))

  into_meant : (u : List ℕ) → Contains (keys_of s.history) u → Contains (lists_interned means) u
  into_meant u c = front u (listed_meant s (Reports s) files run.each u (subst (λ (h : List (List ℕ × ℕ)). Contains (keys_of h) u) run.history c))

  ids_all : ids_needed (means_of files) ≤ ids_needed means
  ids_all = subst (λ (ms : List Flow). ids_needed (means_of files) ≤ ids_needed ms) (sym first.split) (ids_front (means_of files) first.rest)

  words_all : words_needed (means_of files) ≤ words_needed means
  words_all = subst (λ (ms : List Flow). words_needed (means_of files) ≤ words_needed ms) (sym first.split) (words_front (means_of files) first.rest)

  abbrev WordsOf : RunFile → Type 0
  WordsOf f = (s.used_words + (flow_ledger f.mean).words ≤ words_needed means + f.part.words)
      × ((u : List ℕ) → Contains (flow_ledger f.mean).interned u → Contains (lists_interned means) u)

  abbrev IdsOf : RunFile → Type 0
  IdsOf f = s.used_ids + (flow_ledger f.mean).ids ≤ ids_needed means + f.part.ids

  words_of_each : Every WordsOf files
  words_of_each = every_both (λ f w l. (omega (arith, w, run.used_words, words_all), λ u c. front u (l u c))) files (words_beside s (Reports s) files run.each) (each_meant files)

  ids_of_each : Every IdsOf files
  ids_of_each = every_map (λ f i. omega (arith, i, run.used_ids, ids_all)) files (ids_beside s (Reports s) files run.each)

  counts_of_each : Every (λ f. IdsOf f × WordsOf f) files
  counts_of_each = every_both (λ f i w. (i, w)) files ids_of_each words_of_each

  facts : Every (Facts s means) files
  facts = every_both {Q = λ f. IdsOf f × WordsOf f} (λ f c k. record { came = c; ids = k.0; words = k.1.0; lists = k.1.1 }) files run.each counts_of_each

  pub tells : FilesTell s means files
  tells = record {
    run = record {
      each = every_map (file_tells s means all sound into_meant) files facts;
      history = run.history;
      used_ids = run.used_ids;
      used_words = run.used_words;
    };
    legal = λ u w i k c d. (λ e. sound.one_number w i k (subst (λ (x : List ℕ). Interned s x i) e c) d, λ e. sound.one_list u w k (subst (λ (n : ℕ). Interned s u n) e c) d);
    slots = all.slots;
    ids = omega (arith, all.slot_ids, all.ids);
  }

-- what follows
pub fits_meant : {F : Type 0} (s : State F) (means : List Flow) (files : List RunFile) → FilesTell s means files → Fits s.sizes means → Every (λ f. IsAsMeant f ⊎ (f.outcome.end ≡ Memory)) files
fits_meant s means files t fits = every_map (λ f h. end_fits s means fits f f.outcome.end h.ended) files t.run.each

pub follows : (s : State SessionFrame) (prelude : Option Flow) (scripts : List Flow) (files : List RunFile) → AreFilesOf prelude scripts files
    → FilesTell s (all_meant prelude scripts) files → FilesFollow s (all_meant prelude scripts) files
follows s prelude scripts files are t =
    let means = all_meant prelude scripts in
    let first = are_first s (RanOut s means) prelude scripts files t.run.each are in record {
      fits = fits_meant s means files t;
      many_for_slots = λ less m. omega (arith, less, counts_all s (RanOut s means) means files t.run first m, t.slots);
      many_for_ids = λ less m. omega (arith, less, counts_all s (RanOut s means) means files t.run first m, t.ids);
      within_ids = omega (arith, t.run.used_ids, ids_within s (RanOut s means) files t.run.each);
      within_words = omega (arith, t.run.used_words, words_within s (RanOut s means) files t.run.each);
    }
