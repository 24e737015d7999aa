-- What the stages leave, one behind the other.
use Rattle.std.proofs.Common.{◌≡◌, ◌++◌, ℕ, zero, suc, List, [], ◌∷◌, None, Some, refl, sym, ap, ◌∙◌, subst, arith, option_to_list}
use Rattle.std.specs.declared.option.Option.{Option}
use Rattle.std.specs.List.{All}
use Rattle.std.proofs.lemmas.List.Elements.{All-nil}
use Rattle.run_sources.specs.Texts.{IsSmall, Named}
use Rattle.js_io.specs.Counts.{next_count}
use Rattle.js_io.specs.FilesState.{FilesState, IsTooLarge, IsToldAs}
use Rattle.js_parse.specs.declared.fault.Role.TheVariants.{Main}
use Rattle.eval_tree.specs.Tree.{Tree}
use Rattle.run_sources.specs.declared.stop.ScriptsFault.{ScriptsFault}
use Rattle.run_sources.specs.declared.stop.ScriptsFault.TheVariants as stop
use Rattle.run_sources.specs.Program.{FileName, Program, outer_of, program_from}
use Rattle.run_sources.specs.Reading as reading
use Rattle.run_sources.specs.Reading.{AreRead, IsPreludeRead, IsQuiet, IsSourceRead, KeepsFiles, Read, ReadUpTo}
use Rattle.run_sources.specs.Spelling as spelling
use Rattle.run_sources.specs.Spelling.{AllSpell, FirstAmong, FirstRefused, SpellsPrelude}
use Rattle.run_sources.specs.Answers.{AreShort, IsPreludeShort, IsShort, RefusesAmong, RefusesFile, RefusesPrelude, RefusesPreludeText, RefusesRead, RefusesScript, RefusesText}
use Rattle.run_sources.proofs.Turns.{read_more, refused_after}

-- ---- files

pub keeps_refl : (a : FilesState) → KeepsFiles a a
keeps_refl a = record { held = λ name. refl; faults = omega arith; oversize = omega arith }

pub quiet_refl : (a : FilesState) → IsQuiet a a
quiet_refl a = record { calm = refl; not_large = refl; unblamed = refl }

pub keeps_trans : (a b c : FilesState) → KeepsFiles a b → KeepsFiles b c → KeepsFiles a c
keeps_trans a b c p q = record {
  held = λ name. q.held name ∙ p.held name;
  faults = omega (arith, p.faults, q.faults);
  oversize = omega (arith, p.oversize, q.oversize);
}

pub quiet_trans : (a b c : FilesState) → IsQuiet a b → IsQuiet b c → IsQuiet a c
quiet_trans a b c p q = record { calm = q.calm ∙ p.calm; not_large = q.not_large ∙ p.not_large; unblamed = q.unblamed ∙ p.unblamed }

-- what was read later was read of the files as they were before
is_read_of : (a b : FilesState) (name : FileName) (source : Named) → KeepsFiles a b → IsSourceRead b.held name source → IsSourceRead a.held name source
is_read_of a b name source keeps is = record { named = is.named; tells = subst (λ (o : _). IsToldAs o source.text) (keeps.held name) is.tells; small = is.small }

pub read_of : (a b : FilesState) (names : List FileName) (sources : List Named) → KeepsFiles a b → Read b.held names sources → Read a.held names sources
read_of a b _ _ keeps reading.Read.none = reading.Read.none
read_of a b _ _ keeps (reading.Read.next name names source sources is rest) =
    reading.Read.next name names source sources (is_read_of a b name source keeps is) (read_of a b names sources keeps rest)

-- one more file was read
pub read_turn : (a b : FilesState) (names : List FileName) (sources : List Named) (name : FileName) (source : Named) → KeepsFiles a b → Read a.held names sources → IsSourceRead b.held name source
    → Read a.held (names ++ name ∷ []) (sources ++ source ∷ [])
read_turn a b names sources name source keeps read is = read_more a.held names sources name source read (is_read_of a b name source keeps is)

-- what was too large later was so of the files as they were before
large_of : (a b : FilesState) (name : FileName) (later : ℕ) → KeepsFiles a b → IsQuiet a b → IsTooLarge (b.held name) b.oversize later → IsTooLarge (a.held name) a.oversize later
large_of a b name later keeps quiet larger =
    subst (λ (n : ℕ). IsTooLarge (a.held name) n later) quiet.not_large (subst (λ (o : _). IsTooLarge o b.oversize later) (keeps.held name) larger)

-- this read was not quiet, or memory was wanting
pub read_halt : (a b c : FilesState) (all before after : List FileName) (sources : List Named) (name : FileName) (s : ScriptsFault) → all ≡ before ++ name ∷ after → KeepsFiles a b → IsQuiet a b
    → Read a.held before sources → RefusesRead b c name s → RefusesFile a c all s
read_halt a b c all before after sources name (stop.NotRead blamed) split keeps quiet read (named, once, large, blames) = record {
  up_to = record { before = before; after = after; sources = sources; split = split ∙ ap (λ n. before ++ n ∷ after) (sym named); read = read };
  once = once ∙ ap next_count quiet.calm;
  not_large = large ∙ quiet.not_large;
  blames = blames ∙ sym named;
}
read_halt a b c all before after sources name (stop.TooLarge blamed) split keeps quiet read (named, calm, larger, blames) = record {
  up_to = record { before = before; after = after; sources = sources; split = split ∙ ap (λ n. before ++ n ∷ after) (sym named); read = read };
  calm = calm ∙ quiet.calm;
  larger = subst (λ (n : FileName). IsTooLarge (a.held n) a.oversize c.oversize) (sym named) (large_of a b name c.oversize keeps quiet larger);
  blames = blames ∙ sym named;
}
read_halt a b c all before after sources name stop.NoMemory split keeps quiet read more = quiet_trans a b c quiet more
read_halt a b c all before after sources name (stop.Refused blamed fault) split keeps quiet read more = absurd more

-- the prelude's read was not quiet, or memory was wanting
pub prelude_halt : (a c : FilesState) (prelude : Option FileName) (scripts : List FileName) (s : ScriptsFault) → RefusesPrelude a c prelude s → RefusesFile a c (option_to_list prelude ++ scripts) s
prelude_halt a c None scripts s why = absurd why
prelude_halt a c (Some name) scripts s why = read_halt a a c (name ∷ scripts) [] scripts [] name s refl (keeps_refl a) (quiet_refl a) reading.Read.none why

-- behind the prelude
module _ (a b : FilesState) (prelude : Option FileName) (source : Option Named) (keeps : KeepsFiles a b) (read : IsPreludeRead a.held prelude source) where
  all_read : (prelude : Option FileName) (source : Option Named) (names : List FileName) (sources : List Named) → IsPreludeRead a.held prelude source → Read a.held names sources
      → Read a.held (option_to_list prelude ++ names) (option_to_list source ++ sources)
  all_read None None names sources none rest = rest
  all_read None (Some source) names sources none rest = absurd none
  all_read (Some name) None names sources none rest = absurd none
  all_read (Some name) (Some source) names sources is rest = reading.Read.next name names source sources is rest

  parted : (prelude : Option FileName) (before after : List FileName) (name : FileName) → (option_to_list prelude ++ (before ++ name ∷ after)) ≡ (option_to_list prelude ++ before) ++ name ∷ after
  parted None before after name = refl
  parted (Some first) before after name = refl

  up_to : (scripts : List FileName) (name : FileName) → ReadUpTo b.held scripts name → ReadUpTo a.held (option_to_list prelude ++ scripts) name
  up_to scripts name up = record {
    before = option_to_list prelude ++ up.before;
    after = up.after;
    sources = option_to_list source ++ up.sources;
    split = ap (λ (ns : List FileName). option_to_list prelude ++ ns) up.split ∙ parted prelude up.before up.after name;
    read = all_read prelude source up.before up.sources read (read_of a b up.before up.sources keeps up.read);
  }

  -- a script's read was not quiet, or memory was wanting
  pub scripts_halt : (c : FilesState) (scripts : List FileName) (s : ScriptsFault) → IsQuiet a b → RefusesFile b c scripts s → RefusesFile a c (option_to_list prelude ++ scripts) s
  scripts_halt c scripts (stop.NotRead name) quiet why = record {
    up_to = up_to scripts name.now why.up_to;
    once = why.once ∙ ap next_count quiet.calm;
    not_large = why.not_large ∙ quiet.not_large;
    blames = why.blames;
  }
  scripts_halt c scripts (stop.TooLarge name) quiet why = record {
    up_to = up_to scripts name.now why.up_to;
    calm = why.calm ∙ quiet.calm;
    larger = large_of a b name.now c.oversize keeps quiet why.larger;
    blames = why.blames;
  }
  scripts_halt c scripts stop.NoMemory quiet why = quiet_trans a b c quiet why
  scripts_halt c scripts (stop.Refused name fault) quiet why = absurd why

-- ---- lengths

prelude_short : (held : FileName → Option (List ℕ)) (name : Option FileName) (source : Option Named) → IsPreludeRead held name source → IsPreludeShort source
prelude_short held None None none = tt
prelude_short held None (Some source) none = absurd none
prelude_short held (Some name) None none = absurd none
prelude_short held (Some name) (Some source) is = is.small

short_more : (source : Named) (sources : List Named) → IsShort source → All IsShort sources → All IsShort (source ∷ sources)
short_more source sources is rest zero d lt = is
short_more source sources is rest (suc k) d lt = rest k d (omega (arith, lt))

scripts_short : (held : FileName → Option (List ℕ)) (names : List FileName) (sources : List Named) → Read held names sources → All IsShort sources
scripts_short held _ _ reading.Read.none = All-nil IsShort
scripts_short held _ _ (reading.Read.next name names source sources is rest) = short_more source sources is.small (scripts_short held names sources rest)

-- what was read is short
pub read_short : (held : FileName → Option (List ℕ)) (names : Program FileName) (sources : Program Named) → AreRead held names sources → AreShort sources
read_short held names sources read = record {
  prelude = prelude_short held names.prelude sources.prelude read.prelude;
  scripts = scripts_short held names.scripts sources.scripts read.scripts;
}

-- so is what is small
pub small_short : (texts : List Named) → All IsSmall texts → AreShort (program_from texts)
small_short [] small = record { prelude = tt; scripts = All-nil IsShort }
small_short (prelude ∷ scripts) small = record {
  prelude = omega (arith, small 0 prelude (omega arith));
  scripts = λ k d lt. omega (arith, small (suc k) d (omega (arith, lt)));
}

-- ---- texts

-- this text is no script, or memory was wanting
pub script_halt : (outer : List (List ℕ)) (all before after : List Named) (trees : List Tree) (source : Named) (s : ScriptsFault) → all ≡ before ++ source ∷ after → AllSpell outer before trees
    → RefusesText Main outer source s → RefusesAmong outer all s
script_halt outer all before after trees source (stop.Refused name fault) split spell (named, refused) =
    subst (λ (l : List Named). FirstAmong outer name.now fault l) (sym split) (refused_after outer before trees name.now source after fault (sym named) spell refused)
script_halt outer all before after trees source stop.NoMemory split spell more = tt
script_halt outer all before after trees source (stop.NotRead name) split spell more = absurd more
script_halt outer all before after trees source (stop.TooLarge name) split spell more = absurd more

module _ (sources : Program Named) where
  -- the prelude is refused, or memory was wanting
  pub prelude_refused : (prelude : Option Named) (s : ScriptsFault) → sources.prelude ≡ prelude → RefusesPreludeText prelude s → RefusesScript sources s
  prelude_refused None s is why = absurd why
  prelude_refused (Some source) (stop.Refused name fault) is (named, refused) = spelling.FirstRefused.of_prelude source is (sym named) refused
  prelude_refused (Some source) stop.NoMemory is why = tt
  prelude_refused (Some source) (stop.NotRead name) is why = absurd why
  prelude_refused (Some source) (stop.TooLarge name) is why = absurd why

  -- a script is, after a prelude that isn't
  pub scripts_refused : (prelude : Option Tree) (s : ScriptsFault) → SpellsPrelude sources.prelude prelude → RefusesAmong (outer_of prelude) sources.scripts s → RefusesScript sources s
  scripts_refused prelude (stop.Refused name fault) spells why = spelling.FirstRefused.of_script prelude spells why
  scripts_refused prelude stop.NoMemory spells why = tt
  scripts_refused prelude (stop.NotRead name) spells why = absurd why
  scripts_refused prelude (stop.TooLarge name) spells why = absurd why
