-- What the arguments of the command line ask for.
use Rattle.std.specs.Prelude.{◌≡◌, ◌==◌, ◌&&◌, ◌||◌, not, is_some, ◌+◌, ◌^◌, ◌<◌, ◌≤◌, ⊤, ℕ, Bool, false}
use Rattle.std.specs.Prelude.{List, [], ◌∷◌, Option, None, Some, codes, if◌then◌else◌, length, map, nat_le}
use Rattle.std.specs.Prelude.{pos, option_and_then, option_map, unwrap_or}
use Rattle.std.specs.Option.{option_map_or}
use Rattle.std.specs.Str.{bytes_eq}
use Rattle.std.specs.Str.Parse.{digits_value, without_leading_sign}
use Rattle.clap.specs.ValueTests.{is_signed_in}
use Rattle.clap.specs.Walk.{is_empty}
use Rattle.clap.specs.Words.{Row as MatchRow, Text, all_of, first_of as first_match, matches_of, one_of, fault_of}
use Rattle.js_store.specs.declared.limit.Limit.{Limit}
use Rattle.js_store.specs.declared.limit.Limit.TheVariants.{Bits32, Bits64}
use Rattle.run_command.specs.Command.{command}
use Rattle.run_command.specs.declared.plan.Plan.{Plan}
use Rattle.run_command.specs.declared.plan.Sizes.{Sizes}
use Rattle.run_command.specs.declared.plan.Input.{Input}
use Rattle.run_command.specs.declared.plan.Input.TheVariants as input
use Rattle.run_command.specs.declared.plan.WordsFault.{WordsFault}
use Rattle.run_command.specs.declared.plan.WordsFault.TheVariants.{Refused, Memory}

-- what is run: a prelude or none and the scripts, by the names of their files, or the sources that are
-- generated from a number
pub data Asked : Type 0 where
  files : Option (List ℕ) → List (List ℕ) → Asked
  made_from : ℕ → Asked

-- what is asked for
pub record Request : Type 0 where
  pub asked : Asked
  pub jobs : ℕ
  pub sizes : Sizes
  pub summary : Bool
  pub limit : Limit

-- ---- values of options

-- the number that an argument spells, where it is in the range: decimal digits, behind a sign or none, as the
-- command accepts them
abbrev pub number_in : ℕ → ℕ → Text → Option ℕ
number_in least most text = if is_signed_in (pos least) (pos most) text
    then Some (digits_value 10 (without_leading_sign text)) else None

-- the number of an option
abbrev pub option_number : ℕ → ℕ → Text → List MatchRow → Option ℕ
option_number least most id rows = option_and_then (number_in least most) (first_match id rows)

-- the most jobs that may be requested
abbrev pub most_jobs : ℕ
most_jobs = 64

-- the most files that may be named, a prelude not counted
abbrev pub most_files : ℕ
most_files = 4096

-- the most that one size of a heap may be, 2^29 - 1
abbrev pub most_size : ℕ
most_size = 536870911

-- the most that the three sizes of a heap may add up to, 2^29
abbrev pub most_together : ℕ
most_together = 536870912

-- the three sizes, where each has a number and they are not too much together
abbrev pub sizes_by : Option ℕ → Option ℕ → Option ℕ → Option Sizes
sizes_by (Some ids) (Some heap_words) (Some slots) = if nat_le (ids + heap_words + slots) most_together
    then Some (record { ids = ids; heap_words = heap_words; slots = slots }) else None
sizes_by _ _ _ = None

-- the sizes that the options give, each in its range
abbrev pub sizes_in : List MatchRow → Option Sizes
sizes_in rows = sizes_by (option_number 1 most_size (codes "ids") rows)
    (option_number 1 most_size (codes "heap-words") rows) (option_number 1 most_size (codes "slots") rows)

-- the limit of the length of strings, as `--limit` gives it: 32 or 64
abbrev pub limit_in : List MatchRow → Option Limit
limit_in rows = option_and_then (λ bits. if bits == 32 then Some Bits32
    else (if bits == 64 then Some Bits64 else None)) (option_number 32 64 (codes "limit") rows)

-- `--summary` was given
abbrev pub summary_in : List MatchRow → Bool
summary_in rows = option_map_or (λ text. bytes_eq text (codes "true")) (one_of (codes "summary") rows) false

-- ---- what is run

-- the arguments that name files, in order
abbrev pub files_in : List MatchRow → List (List ℕ)
files_in rows = unwrap_or (all_of (codes "FILE") rows) []

-- files, one or more, but not too many, and a prelude or none
abbrev pub named_in : List MatchRow → Option Asked
named_in rows = if nat_le 1 (length (files_in rows)) && nat_le (length (files_in rows)) most_files
    then Some (files (first_match (codes "prelude") rows) (files_in rows)) else None

-- the number of `--generate`, and neither a prelude nor a file
abbrev pub generated_in : List MatchRow → Option Asked
generated_in rows = if is_some (first_match (codes "prelude") rows) || not (is_empty (files_in rows))
    then None else option_map made_from (option_number 0 4294967295 (codes "generate") rows)

-- files; or `--generate` with its number
abbrev pub asked_in : List MatchRow → Option Asked
asked_in rows = if is_some (first_match (codes "generate") rows) then generated_in rows else named_in rows

-- ---- the whole

-- the request of these parts; none where a number is missing
abbrev pub request_by : Asked → Option ℕ → Option Sizes → Option Limit → Bool → Option Request
request_by asked (Some jobs) (Some sizes) (Some limit) summary =
    Some (record { asked = asked; jobs = jobs; sizes = sizes; summary = summary; limit = limit })
request_by asked _ _ _ summary = None

-- the request of the command's matches: what is to be run, and the options, with the number of `--jobs`
abbrev pub request_in : List MatchRow → Option Request
request_in rows = option_and_then (λ asked. request_by asked (option_number 1 most_jobs (codes "jobs") rows)
    (sizes_in rows) (limit_in rows) (summary_in rows)) (asked_in rows)

-- valid arguments: the command gives matches for them, each number is in its range, the limit is 32 or 64,
-- the three sizes are not too much together, and either files are named, one or more but not too many, or
-- there is a number that sources are generated from, with neither a file nor a prelude
abbrev pub request_of : List Text → Option Request
request_of words = if is_empty (fault_of command words) then request_in (matches_of command words) else None

-- ---- what the code answers

abbrev pub asked_for : Input → Asked
asked_for (input.Files prelude scripts) =
    files (option_map (λ n. n.now) prelude) (map (λ n. n.now) scripts.items)
asked_for (input.Generated number) = made_from number

-- the request that a plan is
abbrev pub request_for : Plan → Request
request_for plan = record {
  asked = asked_for plan.input;
  jobs = plan.jobs;
  sizes = plan.sizes;
  summary = plan.summary;
  limit = plan.limit;
}

-- why there is no plan: the arguments ask for nothing that is valid; out of memory says nothing
abbrev pub IsRefusal : {T : Type 0} → Option T → WordsFault → Type 0
IsRefusal asked Refused = asked ≡ None
IsRefusal asked Memory = ⊤

-- 1 to 4,096 files
abbrev pub IsSomeFiles : Asked → Type 0
IsSomeFiles (files prelude scripts) = (1 ≤ length scripts) × (length scripts ≤ most_files)
IsSomeFiles (made_from number) = number < 2 ^ 32

-- what holds of every request of valid arguments
pub record IsRequestInRange (request : Request) : Type 0 where
  pub files : IsSomeFiles request.asked
  pub jobs : (1 ≤ request.jobs) × (request.jobs ≤ most_jobs)
  pub ids : (1 ≤ request.sizes.ids) × (request.sizes.ids ≤ most_size)
  pub heap_words : (1 ≤ request.sizes.heap_words) × (request.sizes.heap_words ≤ most_size)
  pub slots : (1 ≤ request.sizes.slots) × (request.sizes.slots ≤ most_size)
  pub together : request.sizes.ids + request.sizes.heap_words + request.sizes.slots ≤ most_together
