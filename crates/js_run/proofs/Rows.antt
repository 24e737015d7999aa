-- Each status and why it comes, from the outcome.
use Rattle.std.proofs.Common.{◌≡◌, ◌⊎◌, inl, inr, ⊎_elim, ℕ, ◌≤◌, ◌<◌, List, None, Some, refl, sym, ap, ◌∙◌, subst, arith}
use Rattle.run_sources.specs.Texts.{Named}
use Rattle.js_io.specs.Counts.{next_count}
use Rattle.eval_tree.specs.Tree.{Tree}
use Rattle.run_command.specs.Words.{Request, request_of}
use Rattle.run_sources.specs.Program.{FileName, Program, in_order}
use Rattle.run_sources.specs.Reading.{IsQuiet, IsUnread, IsLarge}
use Rattle.run_sources.specs.Spelling.{Spell, FirstRefused}
use Rattle.run_program.specs.Ran.{IsRan}
use Rattle.js_run.specs.Asked.{AreTexts, names_of, setup_of}
use Rattle.js_run.specs.Verdict.{Verdict, BadWords, NotRead, TooLarge, Refused, NoMemory, WasRun, report_of, kept_of, status_of, ends_of}
use Rattle.js_run.specs.Moment.{Call}
use Rattle.js_run.specs.Cause.{HasCause, WereRead, names_in}
use Rattle.js_io.specs.Report.{TakesAll, IsTold, IsEnd, Report, Refusal, Printed, Sinks}
use Rattle.js_run.specs.Outcome.{CallOutcome}
use Rattle.js_run.specs.Rows.{NoFault, IsWant, AreGiven, IsFileFault, IsToldLarge, IsNoScript, IsToldRefused, HasRefusalStatus, IsRefusalTold, HasRun}
use Rattle.js_run.specs.Rows.{HasPrinted, PrintsAll, PrintsEarly, PrintsFull, IsCutShort, IsHonest, IsRanTo, HasRows, EachStatus}
use Rattle.js_run.proofs.Contents.{OneScript, NoneRefused, not_large, read_small, none_refused, same_trees, texts_read, texts_same}
use Rattle.js_run.proofs.Ends.{IsRunStatus, status_is, done_status, done_out, done_err, early_status, full_first, complete}

not_ran : (status wanted : ℕ) → IsRunStatus status → status ≡ wanted → 2 ≤ wanted → wanted < 5 → ⊥
not_ran status wanted (inl none) is low high = omega (arith, none, is, low)
not_ran status wanted (inr (inl one)) is low high = omega (arith, one, is, low)
not_ran status wanted (inr (inr (inl five))) is low high = omega (arith, five, is, high)
not_ran status wanted (inr (inr (inr six))) is low high = omega (arith, six, is, high)

abbrev status_in : Report → ℕ
status_in (Refusal status line) = status
status_in (Printed status written told) = status

not_seven : (status : ℕ) → IsRunStatus status → status ≡ 7 → ⊥
not_seven status (inl none) is = omega (arith, none, is)
not_seven status (inr (inl one)) is = omega (arith, one, is)
not_seven status (inr (inr (inl five))) is = omega (arith, five, is)
not_seven status (inr (inr (inr six))) is = omega (arith, six, is)

-- the status is that of the report, or 7
code_of : (r : Report) (code : ℕ) (old new : Sinks) → IsEnd r code old new → (code ≡ status_in r) ⊎ (code ≡ 7)
code_of (Refusal status line) code old new end = inl end.status
code_of (Printed status written told) code old new (inl whole) = inl whole.status
code_of (Printed status written told) code old new (inr (inl cut)) = inr cut.status
code_of (Printed status written told) code old new (inr (inr cut)) = inr cut.status

decided : (code status wanted : ℕ) → (code ≡ status) ⊎ (code ≡ 7) → code ≡ wanted → wanted < 7 → status ≡ wanted
decided code status wanted (inl is) w lt = sym is ∙ w
decided code status wanted (inr is) w lt = absurd (omega (arith, is, w, lt))

-- a read that failed was counted
counted : (before after : ℕ) → after ≡ next_count before → NoFault before after → ⊥
counted before after once calm = calm.1 (omega (arith, once, calm.0))

not_code : (code status wanted : ℕ) → IsRunStatus status → (code ≡ status) ⊎ (code ≡ 7) → code ≡ wanted → 2 ≤ wanted → wanted < 5 → ⊥
not_code code status wanted ran (inl is) w low high = not_ran status wanted ran (sym is ∙ w) low high
not_code code status wanted ran (inr is) w low high = omega (arith, is, w, high)

not_refusal : (code status : ℕ) → IsRunStatus status → (code ≡ status) ⊎ (code ≡ 7) → HasRefusalStatus code → ⊥
not_refusal code status ran is (inl two) = not_code code status 2 ran is two (omega arith) (omega arith)
not_refusal code status ran is (inr (inl three)) = not_code code status 3 ran is three (omega arith) (omega arith)
not_refusal code status ran is (inr (inr four)) = not_code code status 4 ran is four (omega arith) (omega arith)

-- a status but 2, 3 and 4
other_code : (code status : ℕ) → code ≡ status → (status < 2) ⊎ (4 < status) → HasRefusalStatus code → ⊥
other_code code status is (inl less) (inl two) = omega (arith, is, less, two)
other_code code status is (inl less) (inr (inl three)) = omega (arith, is, less, three)
other_code code status is (inl less) (inr (inr four)) = omega (arith, is, less, four)
other_code code status is (inr more) (inl two) = omega (arith, is, more, two)
other_code code status is (inr more) (inr (inl three)) = omega (arith, is, more, three)
other_code code status is (inr more) (inr (inr four)) = omega (arith, is, more, four)

-- a program was run, and reported
record RanTo (c : Call) : Type 0 where
  run : HasRun c
  end : IsEnd (report_of (WasRun run.names run.ran)) c.code c.old.sinks c.new.sinks

-- ---- what each verdict comes to, for one call

module _ (c : Call) where
  abbrev Ends : Verdict → Type 0
  Ends v = IsEnd (report_of v) c.code c.old.sinks c.new.sinks

  -- 2

  bad_words : (v : Verdict) → HasCause c v → status_in (report_of v) ≡ 2 → request_of c.words ≡ None
  bad_words BadWords why is = why.0
  bad_words (NotRead name) why is = absurd (omega (arith, is))
  bad_words (TooLarge name) why is = absurd (omega (arith, is))
  bad_words (Refused name fault) why is = absurd (omega (arith, is))
  bad_words NoMemory why is = absurd (omega (arith, is))
  bad_words (WasRun names ran) why is = absurd (not_ran _ 2 (status_is (ends_of ran)) is (omega arith) (omega arith))

  unlawful : {r : Request} {A : Type 0} → request_of c.words ≡ None → request_of c.words ≡ Some r → A
  unlawful none some = absurd (cc (sym none ∙ some))

  refused_words : request_of c.words ≡ None → (v : Verdict) → HasCause c v → Ends v → (v ≡ NoMemory → ⊥) → c.code ≡ 2
  refused_words none BadWords why end wanted = end.status
  refused_words none NoMemory why end wanted = absurd (wanted refl)
  refused_words none (NotRead name) why end wanted = unlawful none why.1
  refused_words none (TooLarge name) why end wanted = unlawful none why.1
  refused_words none (Refused name fault) why end wanted = unlawful none why.0.lawful
  refused_words none (WasRun names ran) why end wanted = unlawful none why.read.lawful

  -- 3

  -- the file that isn't read is the one that is blamed
  file_fault : (v : Verdict) → HasCause c v → status_in (report_of v) ≡ 3 → IsFileFault c
  file_fault (NotRead name) why is = inl (why.0, why.1, subst (λ (n : FileName). IsUnread c.old.files c.new.files (in_order (names_of why.0.asked)) n) (sym why.2.blames) why.2)
  file_fault (TooLarge name) why is = inr (why.0, why.1, subst (λ (n : FileName). IsLarge c.old.files c.new.files (in_order (names_of why.0.asked)) n) (sym why.2.blames) why.2)
  file_fault BadWords why is = absurd (omega (arith, is))
  file_fault (Refused name fault) why is = absurd (omega (arith, is))
  file_fault NoMemory why is = absurd (omega (arith, is))
  file_fault (WasRun names ran) why is = absurd (not_ran _ 3 (status_is (ends_of ran)) is (omega arith) (omega arith))

  -- but for 3

  quiet_but : (v : Verdict) → HasCause c v → Ends v → (c.code ≡ 3 → ⊥) → IsQuiet c.old.files c.new.files
  quiet_but BadWords why end other = why.1
  quiet_but NoMemory why end other = why
  quiet_but (NotRead name) why end other = absurd (other end.status)
  quiet_but (TooLarge name) why end other = absurd (other end.status)
  quiet_but (Refused name fault) why end other = why.0.quiet
  quiet_but (WasRun names ran) why end other = why.read.quiet

  same_request : {x y : Request} → request_of c.words ≡ Some x → request_of c.words ≡ Some y → x ≡ y
  same_request a b = cc (sym a ∙ b)

  -- where all files were read, none is told to be too large
  told_small : (large : IsToldLarge c) → WereRead c → ⊥
  told_small large read =
      let texts : AreTexts large.request.asked c.old.files.held read.sources =
      subst (λ (r : Request). AreTexts r.asked c.old.files.held read.sources) (same_request read.lawful large.lawful) read.texts in
      let (sources, all) = texts_read c.old.files.held large.request.asked read.sources texts in
      omega (arith, large.larger, read_small c.old.files.held large.before large.after large.name large.bytes (in_order (names_of large.request.asked)) sources large.is all large.split)

  large_end : IsToldLarge c → (v : Verdict) → HasCause c v → Ends v → (v ≡ NoMemory → ⊥) → c.code ≡ 3
  large_end large BadWords why end wanted = unlawful why.0 large.lawful
  large_end large (NotRead name) why end wanted = end.status
  large_end large (TooLarge name) why end wanted = end.status
  large_end large (Refused name fault) why end wanted = absurd (told_small large why.0)
  large_end large NoMemory why end wanted = absurd (wanted refl)
  large_end large (WasRun names ran) why end wanted = absurd (told_small large why.read)

  -- 4

  no_script : (v : Verdict) → HasCause c v → status_in (report_of v) ≡ 4 → IsNoScript c
  no_script (Refused name fault) why is = (name, fault, why)
  no_script BadWords why is = absurd (omega (arith, is))
  no_script (NotRead name) why is = absurd (omega (arith, is))
  no_script (TooLarge name) why is = absurd (omega (arith, is))
  no_script NoMemory why is = absurd (omega (arith, is))
  no_script (WasRun names ran) why is = absurd (not_ran _ 4 (status_is (ends_of ran)) is (omega arith) (omega arith))

  -- of given sources none is too large, no read failed, and they are those that were read
  module _ (given : AreGiven c) where
    given_small : (request : Request) (name : FileName) → request_of c.words ≡ Some request → IsLarge c.old.files c.new.files (in_order (names_of request.asked)) name → ⊥
    given_small request name lawful large =
        let why : IsLarge c.old.files c.new.files (in_order (names_of given.request.asked)) name =
        subst (λ (r : Request). IsLarge c.old.files c.new.files (in_order (names_of r.asked)) name) (same_request lawful given.lawful) large in
        let (all, read) = texts_read c.old.files.held given.request.asked given.sources given.texts in
        not_large c.old.files.held why.up_to.before why.up_to.after name (in_order (names_of given.request.asked)) all c.old.files.oversize c.new.files.oversize
        read given.told why.up_to.split why.larger

    same_sources : (read : WereRead c) → read.sources ≡ given.sources
    same_sources read = texts_same c.old.files.held given.request.asked read.sources given.sources given.told
        (subst (λ (r : Request). AreTexts r.asked c.old.files.held read.sources) (same_request read.lawful given.lawful) read.texts) given.texts

    given_read : (request : Request) (name : FileName) → IsUnread c.old.files c.new.files (in_order (names_of request.asked)) name → ⊥
    given_read request name unread = counted c.old.files.faults c.new.files.faults unread.once given.calm

  refused_end : OneScript → NoneRefused → (told : IsToldRefused c) (v : Verdict) → HasCause c v → Ends v → (v ≡ NoMemory → ⊥) → c.code ≡ 4
  refused_end one law told BadWords why end wanted = unlawful why.0 told.given.lawful
  refused_end one law told (NotRead name) why end wanted = absurd (given_read told.given why.0 name why.2)
  refused_end one law told (TooLarge name) why end wanted = absurd (given_small told.given why.0 name why.1 why.2)
  refused_end one law told (Refused name fault) why end wanted = end.status
  refused_end one law told NoMemory why end wanted = absurd (wanted refl)
  refused_end one law told (WasRun names ran) why end wanted = absurd (none_refused one law told.given.sources why.trees told.name told.fault
      (subst (λ (x : Program Named). Spell x why.trees) (same_sources told.given why.read) why.spell) told.first)

  -- what a refusal tells

  refusal_of : (v : Verdict) (status : ℕ) (line : List ℕ) → report_of v ≡ Refusal status line → HasCause c v
      → IsTold status line c.code c.old.sinks c.new.sinks → c.kept ≡ None → IsRefusalTold c
  refusal_of v status line same why told kept = record {
    verdict = v;
    cause = why;
    line = line;
    is = same ∙ ap (λ n. Refusal n line) (sym told.status);
    told = record { status = refl; silent = told.silent; told = told.told };
    kept = kept;
  }

  refusal_told : (v : Verdict) → HasCause c v → Ends v → c.kept ≡ kept_of v → HasRefusalStatus c.code → IsRefusalTold c
  refusal_told BadWords why end kept is = refusal_of BadWords 2 _ refl why end kept
  refusal_told (NotRead name) why end kept is = refusal_of (NotRead name) 3 _ refl why end kept
  refusal_told (TooLarge name) why end kept is = refusal_of (TooLarge name) 3 _ refl why end kept
  refusal_told (Refused name fault) why end kept is = refusal_of (Refused name fault) 4 _ refl why end kept
  refusal_told NoMemory why end kept is = absurd (other_code c.code 6 end.status (inr (omega arith)) is)
  refusal_told (WasRun names ran) why end kept is =
      absurd (not_refusal c.code (status_of (ends_of ran)) (status_is (ends_of ran)) (code_of (report_of (WasRun names ran)) c.code c.old.sinks c.new.sinks end) is)

  -- 0, 1, 5, 6 and 7

  -- a status other than 2, 3, 4 and the first 6 comes of a program that was run
  ran_only : (v : Verdict) → HasCause c v → Ends v → c.kept ≡ kept_of v → (v ≡ NoMemory → ⊥) → (HasRefusalStatus c.code → ⊥) → RanTo c
  ran_only BadWords why end kept wanted other = absurd (other (inl end.status))
  ran_only (NotRead name) why end kept wanted other = absurd (other (inr (inl end.status)))
  ran_only (TooLarge name) why end kept wanted other = absurd (other (inr (inl end.status)))
  ran_only (Refused name fault) why end kept wanted other = absurd (other (inr (inr end.status)))
  ran_only NoMemory why end kept wanted other = absurd (wanted refl)
  ran_only (WasRun names ran) why end kept wanted other = record { run = record { names = names; ran = ran; came = why; kept = kept }; end = end }

  prints : (status : ℕ) → status < 7 → c.code ≡ status → RanTo c → HasPrinted c status
  prints status small is r = by r.end
    where
      by : IsEnd (report_of (WasRun r.run.names r.run.ran)) c.code c.old.sinks c.new.sinks → HasPrinted c status
      by (inl whole) = record { run = r.run; ends = sym whole.status ∙ is; out = whole.out; err = whole.err }
      by (inr (inl cut)) = absurd (omega (arith, cut.status, is, small))
      by (inr (inr cut)) = absurd (omega (arith, cut.status, is, small))

  prints_all : HasPrinted c 0 → PrintsAll c
  prints_all p = let came = p.run.came in record {
    prints = p;
    meant = done_status came.read.request came.trees p.run.ran came.program p.ends;
    out = subst (λ (l : List ℕ). TakesAll c.old.sinks.out c.new.sinks.out l) (done_out came.read.request came.trees p.run.ran came.program p.ends) p.out;
    err = subst (λ (l : List ℕ). TakesAll c.old.sinks.err c.new.sinks.err l) (done_err came.read.request came.trees p.run.ran came.program p.run.names p.ends) p.err;
  }

  prints_early : HasPrinted c 1 → PrintsEarly c
  prints_early p = record { prints = p; meant = early_status p.run.came.read.request p.run.came.trees p.run.ran p.run.came.program p.ends }

  prints_full : HasPrinted c 5 → PrintsFull c
  prints_full p = record { prints = p; full = full_first p.run.came.read.request p.run.came.trees p.run.ran p.run.came.program p.ends }

  cut_short : c.code ≡ 7 → RanTo c → IsCutShort c
  cut_short is r = by r.end
    where
      by : IsEnd (report_of (WasRun r.run.names r.run.ran)) c.code c.old.sinks c.new.sinks → IsCutShort c
      by (inl whole) = absurd (not_seven (status_of (ends_of r.run.ran)) (status_is (ends_of r.run.ran)) (sym whole.status ∙ is))
      by (inr cut) = record { run = r.run; cut = cut }

  honest_end : OneScript → NoneRefused → (honest : IsHonest c) (v : Verdict) → HasCause c v → Ends v → c.kept ≡ kept_of v → (v ≡ NoMemory → ⊥) → IsRanTo c honest
  honest_end one none honest BadWords why end kept wanted = unlawful why.0 honest.given.lawful
  honest_end one none honest (NotRead name) why end kept wanted = absurd (given_read honest.given why.0 name why.2)
  honest_end one none honest (TooLarge name) why end kept wanted = absurd (given_small honest.given why.0 name why.1 why.2)
  honest_end one none honest (Refused name fault) why end kept wanted = absurd (none_refused one none honest.given.sources honest.trees name fault honest.spell
      (subst (λ (x : Program Named). FirstRefused x name fault) (same_sources honest.given why.0) why.1))
  honest_end one none honest NoMemory why end kept wanted = absurd (wanted refl)
  honest_end one none honest (WasRun names ran) why end kept wanted =
      let same = same_sources honest.given why.read in
      let trees = same_trees one honest.given.sources why.trees honest.trees (subst (λ (x : Program Named). Spell x why.trees) same why.spell) honest.spell in
      let program : IsRan (setup_of honest.given.request) honest.trees.prelude honest.trees.scripts ran =
      subst (λ (t : Program Tree). IsRan (setup_of honest.given.request) t.prelude t.scripts ran) trees
      (subst (λ (r : Request). IsRan (setup_of r) why.trees.prelude why.trees.scripts ran) (same_request why.read.lawful honest.given.lawful) why.program) in record {
        ran = ran;
        program = program;
        end = subst (λ (ns : Program FileName). IsEnd (report_of (WasRun ns ran)) c.code c.old.sinks c.new.sinks) (why.named ∙ ap names_in same) end;
        kept = kept;
        complete = complete honest.given.request honest.trees ran program (names_in honest.given.sources);
      }

  module _ (one : OneScript) (none : NoneRefused) (o : CallOutcome c) where
    ends : (c.code ≡ status_in (report_of o.verdict)) ⊎ (c.code ≡ 7)
    ends = code_of (report_of o.verdict) c.code c.old.sinks c.new.sinks o.ending

    module _ (wanted : o.verdict ≡ NoMemory → ⊥) where
      ran_to : (HasRefusalStatus c.code → ⊥) → RanTo c
      ran_to other = ran_only o.verdict o.cause o.ending o.kept wanted other

      rows : HasRows c
      rows = record {
        words = (
          (λ is. bad_words o.verdict o.cause (decided _ _ 2 ends is (omega arith))),
          (λ is. refused_words is o.verdict o.cause o.ending wanted),
        );
        read = λ is. file_fault o.verdict o.cause (decided _ _ 3 ends is (omega arith));
        quiet = λ other. quiet_but o.verdict o.cause o.ending other;
        large = λ large. large_end large o.verdict o.cause o.ending wanted;
        script = λ is. no_script o.verdict o.cause (decided _ _ 4 ends is (omega arith));
        no_script = λ told. refused_end one none told o.verdict o.cause o.ending wanted;
        told = λ is. refusal_told o.verdict o.cause o.ending o.kept is;
        memory = λ is. prints 6 (omega arith) is (ran_to (other_code c.code 6 is (inr (omega arith))));
        print = λ is. prints_all (prints 0 (omega arith) is (ran_to (other_code c.code 0 is (inl (omega arith)))));
        early = λ is. prints_early (prints 1 (omega arith) is (ran_to (other_code c.code 1 is (inl (omega arith)))));
        full = λ is. prints_full (prints 5 (omega arith) is (ran_to (other_code c.code 5 is (inr (omega arith)))));
        write = λ is. cut_short is (ran_to (other_code c.code 7 is (inr (omega arith))));
        honest = λ honest. honest_end one none honest o.verdict o.cause o.ending o.kept wanted;
      }

-- memory ran out before anything was run, or it didn't
is_want : (c : Call) (v : Verdict) → HasCause c v → IsEnd (report_of v) c.code c.old.sinks c.new.sinks → c.kept ≡ kept_of v → IsWant c ⊎ (v ≡ NoMemory → ⊥)
is_want c NoMemory why end kept = inl (record { told = end; kept = kept; quiet = why })
is_want c BadWords why end kept = inr (λ is. cc is)
is_want c (NotRead name) why end kept = inr (λ is. cc is)
is_want c (TooLarge name) why end kept = inr (λ is. cc is)
is_want c (Refused name fault) why end kept = inr (λ is. cc is)
is_want c (WasRun names ran) why end kept = inr (λ is. cc is)

pub each_status : (c : Call) → OneScript → NoneRefused → CallOutcome c → EachStatus c
each_status c one none o = ⊎_elim (λ want. inl want) (λ wanted. inr (rows c one none o wanted)) (is_want c o.verdict o.cause o.ending o.kept)
