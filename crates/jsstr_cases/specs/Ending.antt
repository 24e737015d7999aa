-- Helpers: no public contract reaches these definitions.
-- How a call ended: its status, and what both sinks received.
use Rattle.std.specs.Prelude.{◌≡◌}
use Rattle.jsstr_cases.specs.declared.case.Ending.{Ending}

-- the status is the same, and each sink received the same bytes
pub record IsSame (one other : Ending) : Type 0 where
  pub status : one.status ≡ other.status
  pub out : one.out.items ≡ other.out.items
  pub err : one.err.items ≡ other.err.items
