-- What adding to a text answers.
use Rattle.std.proofs.Common.{false, ℕ, List, take, ◌≤◌, length, subst, sym}
use Rattle.heap_bytes.specs.declared.encoding.Encoding.{Encoding}
use Rattle.heap_bytes.specs.Points.{IsSpelledUpTo}
use Rattle.heap_build.specs.Spells.{spells}
use Rattle.heap_build.specs.Spelled.{IsSpellingUpTo}
use Rattle.heap_bytes.proofs.Reading.{most_units}
use Rattle.heap_build.proofs.Surrogates.{spelled_units, units_spelled}

pub spelling_up_to : (e : Encoding) (bytes : List ℕ) (n : ℕ) → IsSpelledUpTo e bytes n → IsSpellingUpTo (spells e) bytes n
spelling_up_to e bytes n s = record {
  short = s.short;
  front = (_, spelled_units e (take n bytes) s.front);
  longest = λ m l x. s.longest m l (units_spelled e (take m bytes) x.0 x.1).0;
}

-- units are no more than the bytes that spell them
pub units_most : (e : Encoding) (bytes us : List ℕ) → spells e bytes us → length us ≤ length bytes
units_most e bytes us s = let k = units_spelled e bytes us s in subst (λ (vs : List ℕ). length vs ≤ length bytes) (sym k.1) (most_units e false bytes k.0)
