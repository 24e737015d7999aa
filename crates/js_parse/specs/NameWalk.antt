-- Helpers: no public contract reaches these definitions.
-- What the private functions give.
use Rattle.std.specs.Prelude.{◌≡◌, ℕ, List, Option, option_map, map}
use Rattle.std.specs.Ordering.{nat_cmp}
use Rattle.std.specs.Cmp.Lexicographic.{slice_cmp}
use Rattle.std.specs.BTreeSet.{BTreeSet, contains_by}
use Rattle.std.specs.Borrow.{Bor}
use Rattle.js_parse.specs.Names.{NameFault}
use Rattle.js_parse.specs.declared.name_fault.NameFault.{NameFault as Told}
use Rattle.js_parse.specs.declared.name_set.NameSet.{NameSet}
use Rattle.js_parse.specs.FirstFault.{fault_of}
use Rattle.js_parse.specs.NameFaults.{NameTest, offers}

-- the letters that a set refers to
abbrev pub has_letters : BTreeSet (Bor (List ℕ)) → NameTest
has_letters set = λ q. contains_by (λ k. slice_cmp nat_cmp q k.now) set

-- the names of a set
abbrev pub has : NameSet → NameTest
has set = has_letters set.names

-- the letters that are referred to
abbrev pub letters_of : List (Bor (List ℕ)) → List (List ℕ)
letters_of refs = map (λ k. k.now) refs

-- what was found, as the definitions have it
abbrev pub found_of : Option Told → Option NameFault
found_of first = option_map fault_of first

-- a walk over these faults: the names of loops are again as they were, and what was found is the first of it
-- all
pub record Walks (old new : NameTest) (first : Option Told) (faults : List NameFault)
    (found : Option Told) : Type 0 where
  pub kept : new ≡ old
  pub finds : found_of found ≡ offers (found_of first) faults
