-- What is to be run for a request: which sources, on which heap, and whether different strings are counted.
use Rattle.std.specs.Prelude.{◌≡◌, ℕ, List, [], Bool, true, Option, None}
use Rattle.run_sources.specs.Texts.{Named, generated}
use Rattle.run_command.specs.Words.{Asked, Request, files, made_from}
use Rattle.run_sources.specs.Program.{FileName, Program, program_from}
use Rattle.run_sources.specs.Reading.{AreRead}
use Rattle.run_program.specs.declared.ran.Setup.{Setup}

-- the names of the files that are to be read: none where sources are generated from a number
abbrev pub names_of : Asked → Program FileName
names_of (files prelude scripts) = record { prelude = prelude; scripts = scripts }
names_of (made_from number) = record { prelude = None; scripts = [] }

-- The sources are those of the files, as far as files are reported, and none is too large; or those that are
-- generated from the number.
abbrev pub AreTexts : Asked → (FileName → Option (List ℕ)) → Program Named → Type 0
AreTexts (files prelude scripts) held sources = AreRead held (names_of (files prelude scripts)) sources
AreTexts (made_from number) held sources = sources ≡ program_from (generated number)

-- sources that are generated from a number count as `--summary`
abbrev pub is_counted : Asked → Bool → Bool
is_counted (files prelude scripts) summary = summary
is_counted (made_from number) summary = true

-- how the program is run: the heap has the sizes that are asked for, and as many agents as jobs
abbrev pub setup_of : Request → Setup
setup_of request = record {
  jobs = request.jobs;
  size = record { ids = request.sizes.ids; words = request.sizes.heap_words; slots = request.sizes.slots };
  limit = request.limit;
  count = is_counted request.asked request.summary;
}
