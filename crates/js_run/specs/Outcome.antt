-- The outcome of a call: a verdict that has its cause, what was written of it, and what is kept.
use Rattle.std.specs.Prelude.{◌≡◌, ◌≤◌}
use Rattle.run_sources.specs.Reading.{KeepsFiles}
use Rattle.js_run.specs.Verdict.{Verdict, report_of, kept_of}
use Rattle.js_run.specs.Moment.{Call, Moment}
use Rattle.js_run.specs.Cause.{HasCause}
use Rattle.js_io.specs.Report.{IsEnd}

-- what every call keeps: the files as they are reported, and no count falls
pub record KeepsMoment (old new : Moment) : Type 0 where
  pub files : KeepsFiles old.files new.files
  pub out : old.sinks.out.faults ≤ new.sinks.out.faults
  pub err : old.sinks.err.faults ≤ new.sinks.err.faults

-- a call came to one verdict, which has its cause; what the sinks received, the status and what is kept are
-- the verdict's
pub record CallOutcome (c : Call) : Type 0 where
  pub verdict : Verdict
  pub cause : HasCause c verdict
  pub ending : IsEnd (report_of verdict) c.code c.old.sinks c.new.sinks
  pub kept : c.kept ≡ kept_of verdict
  pub keeps : KeepsMoment c.old c.new
