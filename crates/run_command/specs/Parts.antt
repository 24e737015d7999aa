-- Helpers: no public contract reaches these definitions.
-- A part of the request, for the contract of a private function.
use Rattle.std.specs.Prelude.{List, Option, codes}
use Rattle.clap.specs.Words.{Row as MatchRow}
use Rattle.run_command.specs.Words.{Asked, Request, option_number, most_jobs, request_by, sizes_in, limit_in}
use Rattle.run_command.specs.Words.{summary_in}

-- the request of what is to be run and of the options
abbrev pub request_with : Asked → List MatchRow → Option Request
request_with asked rows = request_by asked (option_number 1 most_jobs (codes "jobs") rows) (sizes_in rows)
    (limit_in rows) (summary_in rows)
