-- The units of a string, read into a vector that is as long.
use Rattle.std.proofs.Common.{◌≡◌, ◌∙◌, ◌+◌, ◌++◌, ℕ, List, length, take, subst, sym}
use Rattle.std.proofs.Math.Seq.{take-append_seam}
use Rattle.std.specs.Prelude.{slice_range}
use Rattle.heap_export.proofs.Whole.{read_whole}

pub read_over : (us out rest : List ℕ) (n m : ℕ) → length us ≡ n → m ≡ n → length out ≡ n → out ≡ slice_range us 0 (0 + n) → take m (out ++ rest) ≡ us
read_over us out rest n m e f g read = subst (λ (k : ℕ). take k (out ++ rest) ≡ us) (g ∙ sym f) (take-append_seam out rest ∙ read_whole us out n e read)
