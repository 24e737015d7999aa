-- What a compare-exchange of a header shows: the word that it found is that of the form it expects exactly
-- where it is won.
use Rattle.std.specs.Prelude.{◌≢◌, ℕ}
use Rattle.js_header.specs.Form.{word_of}
use Rattle.js_header.specs.declared.form.Form.{Form}
use Rattle.heap_table.specs.declared.stores.Step.{Step}
use Rattle.heap_table.specs.declared.stores.Step.TheVariants.{Won, Lost}

-- the word that the compare-exchange found
abbrev pub header_found : Form → Step → ℕ
header_found old Won = word_of old
header_found old (Lost word) = word

-- a compare-exchange that was lost found another word than that of the form it expected
abbrev pub IsMoved : Form → Step → Type 0
IsMoved old Won = Unit {0}
IsMoved old (Lost word) = word ≢ word_of old
