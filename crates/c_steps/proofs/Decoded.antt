-- What bytes spell, and why they spell nothing.
use Rattle.std.proofs.Common.{sym, subst, arith, ℕ, ◌≤◌, List, length, Result, Ok, Err, IfOk}
use Rattle.std.proofs.lemmas.List.{take_all}
use Rattle.heap_build.specs.Spelled.{IsSpelling, IsSpellingUpTo}
use Rattle.heap_build.specs.Spells.{spells}
use Rattle.heap_build.proofs.Given.{spelling_up_to}
use Rattle.heap_build.proofs.Surrogates.{spelled_units}
use Rattle.heap_bytes.specs.declared.encoding.Encoding.{Encoding}
use Rattle.heap_bytes.specs.declared.encoding.Encoding.TheVariants.{Utf8, Wtf8}
use Rattle.heap_bytes.specs.declared.spelling.Spelling.{Spelling}
use Rattle.heap_bytes.specs.Spellings.{IsReadAs, spelling_units}
use Rattle.c_steps.specs.declared.encoding.TextEncoding.{TextEncoding}
use Rattle.c_steps.specs.declared.encoding.TextEncoding.TheVariants as text
use Rattle.c_steps.specs.Encodings.{IsDecodedAs}

-- bytes that are read spell the units that they are read as
read_spells : (e : Encoding) (bytes : List ℕ) (s : Spelling) → IsReadAs e bytes (Ok s) → spells e bytes (spelling_units s)
read_spells e bytes s read = subst (spells e bytes) (sym read.2) (spelled_units e bytes read.0)

abbrev pub decoded_by : Encoding → TextEncoding
decoded_by Utf8 = text.Utf8
decoded_by Wtf8 = text.Wtf8

-- bytes that are read are decoded so, or aren't
pub decoded_as : (e : Encoding) (bytes : List ℕ) (t : Result Spelling ℕ) → IsReadAs e bytes t → IfOk t (λ s. length (spelling_units s) ≤ length bytes) → IsDecodedAs (decoded_by e) bytes t
decoded_as Utf8 bytes (Ok s) read most = (read.1, read_spells Utf8 bytes s read, most)
decoded_as Utf8 bytes (Err n) read most = spelling_up_to Utf8 bytes n read
decoded_as Wtf8 bytes (Ok s) read most = (read.1, read_spells Wtf8 bytes s read, most)
decoded_as Wtf8 bytes (Err n) read most = spelling_up_to Wtf8 bytes n read

-- where a front is the longest one that spells units, all bytes spell none
pub not_all : (Spells : List ℕ → List ℕ → Type 0) (bytes : List ℕ) (n : ℕ) → IsSpellingUpTo Spells bytes n → ¬ (IsSpelling Spells bytes)
not_all Spells bytes n s u = s.longest (length bytes) s.short (subst (IsSpelling Spells) (sym (take_all (length bytes) bytes (omega arith))) u)
