-- What the stages of a call leave, one behind the other.
use Rattle.std.proofs.Common.{◌≡◌, ◌≤◌, ℕ, zero, suc, List, [], ◌∷◌, length, option_map, Option, None, Some, refl, sym, ap, subst, arith, option_to_list, ◌++◌, is_some}
use Rattle.std.proofs.lemmas.List.{length-append, length-map}
use Rattle.heap_rule.specs.Layout.{IsLawfulSize}
use Rattle.heap_table.specs.MayMake.{MayMake}
use Rattle.run_sources.specs.Draws.{joined_up_to, list_up_to}
use Rattle.run_sources.specs.Texts.{Named, generated, named_script}
use Rattle.js_io.specs.FilesState.{FilesState}
use Rattle.js_eval.specs.declared.ending.End.{End}
use Rattle.js_eval.specs.declared.ending.End.TheVariants.{Done, Threw, Unsupported, Full, Memory}
use Rattle.js_eval.specs.Script.{Flow, meaning}
use Rattle.run_program.specs.declared.job.Outcome.{Outcome}
use Rattle.js_store.specs.Limits.{limit_units}
use Rattle.run_program.specs.Jobs.{RunFile}
use Rattle.run_program.specs.Files.{AreFilesOf, AfterPrelude}
use Rattle.std.specs.Borrow.{Bor}
use Rattle.std.specs.Option.{option_copied}
use Rattle.eval_tree.specs.declared.tree.Script.{Script}
use Rattle.eval_tree.specs.Tree.{Tree, tree_of}
use Rattle.run_command.specs.Words.{Asked, IsRequestInRange, Request, files, made_from, request_of}
use Rattle.run_sources.specs.declared.sources.SourceText.{SourceText}
use Rattle.run_sources.specs.declared.sources.Sources.{Sources}
use Rattle.run_sources.specs.declared.stop.ScriptsFault.{ScriptsFault}
use Rattle.run_sources.specs.declared.stop.ScriptsFault.TheVariants as stop
use Rattle.run_sources.specs.Answers.{RefusesFile, RefusesScript, source_for, sources_for}
use Rattle.run_sources.specs.Program.{FileName, Program, in_order, program_from}
use Rattle.run_sources.specs.Reading as reading
use Rattle.run_sources.specs.Reading.{AreRead, IsLarge, IsQuiet, IsUnread, KeepsFiles, Read}
use Rattle.run_sources.specs.Spelling as spelling
use Rattle.run_sources.specs.Spelling.{AllSpell, Spell, SpellsPrelude}
use Rattle.run_program.specs.declared.ran.Ran.{Ran}
use Rattle.run_program.specs.declared.ran.Setup.{Setup}
use Rattle.run_program.specs.Kept.{HeapKept}
use Rattle.run_program.specs.Meant.{left_by, prelude_meant, scripts_meant}
use Rattle.run_program.specs.Ran.{IsRan, tree_if}
use Rattle.js_run.specs.Answer.{Becomes, HasCauseOf, HasNames, SamePrelude, stop_report}
use Rattle.js_run.specs.Asked.{AreTexts, names_of, setup_of}
use Rattle.js_run.specs.Cause.{HasCause, WereRead, names_in}
use Rattle.js_io.specs.Report.{IsEnd, Sinks}
use Rattle.js_run.specs.Moment.{Call, Moment}
use Rattle.js_run.specs.Outcome.{CallOutcome}
use Rattle.js_run.proofs.Told.{counts_kept}
use Rattle.js_run.specs.Verdict.{BadWords, NoMemory, NotRead, Refused, TooLarge, Verdict, WasRun, report_of}

-- ---- texts

module _ (setup : Setup) (sources : Program Named) (code : ℕ) (left : Option HeapKept) (old new : Sinks) where
  -- the texts spell no program, or memory was wanting
  pub script_stopped : (s : ScriptsFault) → RefusesScript sources s → left ≡ None → IsEnd (stop_report s) code old new → Becomes (HasCauseOf setup sources) code left old new
  script_stopped (stop.Refused name fault) why none end = record { verdict = Refused name.now fault; cause = why; ending = end; kept = none }
  script_stopped stop.NoMemory why none end = record { verdict = NoMemory; cause = tt; ending = end; kept = none }
  script_stopped (stop.NotRead name) why none end = absurd why
  script_stopped (stop.TooLarge name) why none end = absurd why

  pub memory_stopped : left ≡ None → IsEnd (stop_report stop.NoMemory) code old new → Becomes (HasCauseOf setup sources) code left old new
  memory_stopped none end = record { verdict = NoMemory; cause = tt; ending = end; kept = none }

  pub program_ran : (trees : Program Tree) (ran : Ran) → Spell sources trees → IsRan setup trees.prelude trees.scripts ran → left ≡ Some ran.kept
      → IsEnd (report_of (WasRun (names_in sources) ran)) code old new → Becomes (HasCauseOf setup sources) code left old new
  program_ran trees ran spell program kept end = record {
    verdict = WasRun (names_in sources) ran;
    cause = record { named = refl; trees = trees; spell = spell; program = program };
    ending = end;
    kept = kept;
  }

-- ---- files, and texts that were made

module _ (words : List (List ℕ)) (request : Request) (lawful : request_of words ≡ Some request) (code : ℕ) (left : Option HeapKept) (old new : Moment) where
  abbrev this : Call
  this = record { words = words; code = code; kept = left; old = old; new = new }

  abbrev Came : Type 0
  Came = Becomes (HasCause this) code left old.sinks new.sinks

  -- a file wasn't read, or memory was wanting
  pub file_stopped : (prelude : Option FileName) (scripts : List FileName) (s : ScriptsFault) → request.asked ≡ files prelude scripts →
      RefusesFile old.files new.files (in_order (record { prelude = prelude; scripts = scripts })) s
      → left ≡ None → IsEnd (stop_report s) code old.sinks new.sinks → Came
  file_stopped prelude scripts (stop.NotRead name) asked why none end = record {
    verdict = NotRead name.now;
    cause = (request, lawful, subst (λ (a : Asked). IsUnread old.files new.files (in_order (names_of a)) name.now) (sym asked) why);
    ending = end;
    kept = none;
  }
  file_stopped prelude scripts (stop.TooLarge name) asked why none end = record {
    verdict = TooLarge name.now;
    cause = (request, lawful, subst (λ (a : Asked). IsLarge old.files new.files (in_order (names_of a)) name.now) (sym asked) why);
    ending = end;
    kept = none;
  }
  file_stopped prelude scripts stop.NoMemory asked why none end = record { verdict = NoMemory; cause = why; ending = end; kept = none }
  file_stopped prelude scripts (stop.Refused name fault) asked why none end = absurd why

  -- no file was read, and memory was wanting
  pub memory_became : IsQuiet old.files new.files → left ≡ None → IsEnd (stop_report stop.NoMemory) code old.sinks new.sinks → Came
  memory_became quiet none end = record { verdict = NoMemory; cause = quiet; ending = end; kept = none }

  module _ (sources : Program Named) (texts : AreTexts request.asked old.files.held sources) (quiet : IsQuiet old.files new.files) where
    abbrev were_read : WereRead this
    were_read = record { request = request; lawful = lawful; sources = sources; texts = texts; quiet = quiet }

    of_texts : (v : Verdict) → HasCauseOf (setup_of request) sources v → HasCause this v
    of_texts BadWords why = absurd why
    of_texts (NotRead name) why = absurd why
    of_texts (TooLarge name) why = absurd why
    of_texts (Refused name fault) why = (were_read, why)
    of_texts NoMemory why = quiet
    of_texts (WasRun names ran) why = record { read = were_read; named = why.named; trees = why.trees; spell = why.spell; program = why.program }

    pub texts_became : Becomes (HasCauseOf (setup_of request) sources) code left old.sinks new.sinks → Came
    texts_became b = record { verdict = b.verdict; cause = of_texts b.verdict b.cause; ending = b.ending; kept = b.kept }

  pub files_became : (prelude : Option FileName) (scripts : List FileName) (sources : Program Named) (setup : Setup) → request.asked ≡ files prelude scripts → setup ≡ setup_of request
      → AreRead old.files.held (record { prelude = prelude; scripts = scripts }) sources → IsQuiet old.files new.files → Becomes (HasCauseOf setup sources) code left old.sinks new.sinks
      → Came
  files_became prelude scripts sources setup asked is read quiet b =
      texts_became sources (subst (λ (a : Asked). AreTexts a old.files.held sources) (sym asked) read) quiet
      (subst (λ (s : Setup). Becomes (HasCauseOf s sources) code left old.sinks new.sinks) is b)

  pub made_became : (number : ℕ) (setup : Setup) → request.asked ≡ made_from number → setup ≡ setup_of request → IsQuiet old.files new.files
      → Becomes (HasCauseOf setup (program_from (generated number))) code left old.sinks new.sinks → Came
  made_became number setup asked is quiet b =
      let sources : Program Named = program_from (generated number) in
      texts_became sources (subst (λ (a : Asked). AreTexts a old.files.held sources) (sym asked) refl) quiet
      (subst (λ (s : Setup). Becomes (HasCauseOf s sources) code left old.sinks new.sinks) is b)

-- ---- how many texts there are

listed_length : {T : Type 0} (f : ℕ → T) (k : ℕ) → length (list_up_to f k) ≡ k
unfolding joined_up_to
listed_length f zero = refl
listed_length f (suc k) = let more = length-append (list_up_to f k) (f k ∷ []) in omega (arith, more, listed_length f k)

pub made_length : (number : ℕ) → length (generated number) ≡ 33
made_length number = omega (arith, listed_length (named_script number) 32)

pub made_scripts : (number : ℕ) → length (program_from (generated number)).scripts ≡ 32
made_scripts number = listed_length (named_script number) 32

pub read_length : (held : FileName → Option (List ℕ)) (names : List FileName) (sources : List Named) → Read held names sources → length sources ≡ length names
read_length held _ _ reading.Read.none = refl
read_length held _ _ (reading.Read.next name names source sources is rest) = ap suc (read_length held names sources rest)

-- ---- each file that was run has a name

spelled_length : (outer : List (List ℕ)) (sources : List Named) (trees : List Tree) → AllSpell outer sources trees → length trees ≡ length sources
spelled_length outer _ _ spelling.AllSpell.none = refl
spelled_length outer _ _ (spelling.AllSpell.next source sources tree trees spells rest) = ap suc (spelled_length outer sources trees rest)

after_length : (e : End) (scripts : List Flow) (fs : List RunFile) → AfterPrelude e scripts fs → length fs ≤ length scripts
after_length Done scripts fs is = let same = ap length is in let long = length-map fs (λ (f : RunFile). f.mean) in omega (arith, same, long)
after_length (Threw k) scripts fs is = let same = ap length is in omega (arith, same)
after_length (Unsupported at) scripts fs is = let same = ap length is in omega (arith, same)
after_length (Full report) scripts fs is = let same = ap length is in omega (arith, same)
after_length Memory scripts fs is = let same = ap length is in omega (arith, same)

script_count : (tree : Option Tree) (outcome : Option Outcome) (os : List Outcome) (flow : Option Flow) (scripts : List Flow) (fs : List RunFile) → is_some tree ≡ is_some outcome
    → ((t : Tree) → tree ≡ Some t → (m : Flow) × (flow ≡ Some m)) → (tree ≡ None → flow ≡ None)
    → AreFilesOf flow scripts fs → length fs ≡ length (option_to_list outcome ++ os) → length os ≤ length scripts
script_count None None os None scripts fs has some none are same = let long = length-map fs (λ (f : RunFile). f.mean) in omega (arith, same, ap length are, long)
script_count None None os (Some m) scripts fs has some none are same = absurd (cc (none refl))
script_count (Some t) (Some o) os (Some m) scripts [] has some none are same = absurd are
script_count (Some t) (Some o) os (Some m) scripts (f ∷ fs) has some none are same = omega (arith, same, after_length f.outcome.end scripts fs are.1)
script_count (Some t) (Some o) os None scripts fs has some none are same = absurd (cc (some t refl).1)
script_count None (Some o) os flow scripts fs has some none are same = absurd (cc has)
script_count (Some t) None os flow scripts fs has some none are same = absurd (cc has)

module _ (setup : Setup) where
  has_flow : (tree : Option Tree) (t : Tree) → tree ≡ Some t → (m : Flow) × (prelude_meant (limit_units setup.limit) tree ≡ Some m)
  has_flow None t is = absurd (cc is)
  has_flow (Some x) t is = (_, refl)

  no_flow : (tree : Option Tree) → tree ≡ None → prelude_meant (limit_units setup.limit) tree ≡ None
  no_flow None is = refl
  no_flow (Some x) is = absurd (cc is)

  pub run_length : (prelude : Option Tree) (scripts : List Tree) (ran : Ran) → IsRan setup prelude scripts ran → length ran.scripts.items ≤ length scripts
  run_length prelude scripts ran p =
      let many = length-map p.files (λ (f : RunFile). f.outcome) in
      let meant = length-map scripts (λ (tree : Tree). meaning tree (left_by (prelude_meant (limit_units setup.limit) prelude)) (limit_units setup.limit)) in
      let same : length p.files ≡ length (option_to_list ran.prelude ++ ran.scripts.items) = omega (arith, many, ap length p.came) in
      let few = script_count prelude ran.prelude ran.scripts.items (prelude_meant (limit_units setup.limit) prelude)
      (scripts_meant (limit_units setup.limit) prelude scripts) p.files p.has_prelude (has_flow prelude) (no_flow prelude) p.are same in
      omega (arith, few, meant)

same_prelude : (source : Option SourceText) (tree : Option Tree) (outcome : Option Outcome) → SpellsPrelude (option_map source_for source)
    tree → is_some tree ≡ is_some outcome → SamePrelude source outcome
same_prelude None None None spells has = tt
same_prelude None None (Some o) spells has = absurd (cc has)
same_prelude None (Some t) outcome spells has = absurd spells
same_prelude (Some s) None outcome spells has = absurd spells
same_prelude (Some s) (Some t) None spells has = absurd (cc has)
same_prelude (Some s) (Some t) (Some o) spells has = tt

pub named : (setup : Setup) (sources : Sources) (trees : Program Tree) (ran : Ran) → Spell (sources_for sources) trees → IsRan setup trees.prelude trees.scripts ran → HasNames sources ran
named setup sources trees ran spell p = record {
  prelude = same_prelude sources.prelude trees.prelude ran.prelude spell.prelude p.has_prelude;
  scripts = (let a = run_length setup trees.prelude trees.scripts ran p in
      let b = spelled_length _ _ trees.scripts spell.scripts in
      let c = length-map sources.scripts.items source_for in
      omega (arith, a, b, c));
}

-- ---- the words

pub may_make : (request : Request) → IsRequestInRange request → MayMake (setup_of request).size (setup_of request).jobs
may_make request r =
    let lawful : IsLawfulSize (setup_of request).size = (r.ids.0, omega (arith, r.ids.1), r.heap_words.0, omega (arith, r.heap_words.1), r.slots.0, omega (arith, r.slots.1), r.together) in
    (lawful, r.jobs.0, r.jobs.1)

pub program_length : (sources : Program Named) (trees : Program Tree) → Spell sources trees → length trees.scripts ≡ length sources.scripts
program_length sources trees spell = spelled_length _ sources.scripts trees.scripts spell.scripts

still : (f : FilesState) → KeepsFiles f f
still f = record { held = λ name. refl; faults = omega arith; oversize = omega arith }

pub still_quiet : (f : FilesState) → IsQuiet f f
still_quiet f = record { calm = refl; not_large = refl; unblamed = refl }

module _ (words : List (List ℕ)) (code : ℕ) (left : Option HeapKept) where
  abbrev call_of : Moment → Moment → Call
  call_of old new = record { words = words; code = code; kept = left; old = old; new = new }

  pub outcome : (old new : Moment) → KeepsFiles old.files new.files → Becomes (HasCause (call_of old new)) code left old.sinks new.sinks → CallOutcome (call_of old new)
  outcome old new keeps b =
      let counts = counts_kept (report_of b.verdict) code old.sinks new.sinks b.ending in
      record { verdict = b.verdict; cause = b.cause; ending = b.ending; kept = b.kept; keeps = record { files = keeps; out = counts.0; err = counts.1 } }

  -- no file was read
  module _ (f : FilesState) (old new : Sinks) (none : left ≡ None) where
    abbrev still_call : Call
    still_call = call_of (record { files = f; sinks = old }) (record { files = f; sinks = new })

    pub refused_outcome : request_of words ≡ None → IsEnd (report_of BadWords) code old new → CallOutcome still_call
    refused_outcome unlawful end = outcome (record { files = f; sinks = old }) (record { files = f; sinks = new }) (still f)
        (record { verdict = BadWords; cause = (unlawful, still_quiet f); ending = end; kept = none })

    pub memory_outcome : IsEnd (report_of NoMemory) code old new → CallOutcome still_call
    memory_outcome end = outcome (record { files = f; sinks = old }) (record { files = f; sinks = new }) (still f)
        (record { verdict = NoMemory; cause = still_quiet f; ending = end; kept = none })

-- ---- a prelude that is lent

pub tree_same : (o : Option (Bor Script)) (p : Option Script) → option_copied o ≡ p → tree_if o ≡ option_map tree_of p
tree_same None p is = ap (option_map tree_of) is
tree_same (Some b) p is = ap (option_map tree_of) is
