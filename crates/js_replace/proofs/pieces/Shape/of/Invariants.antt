use Rattle.std.proofs.Common.{◌≡◌, ℕ, ◌+◌, ◌≤◌, List, length}
use Rattle.js_replace.specs.Substitution.{substituted}
use Rattle.js_replace.specs.Pieces.{pieces_of, len_of}
use Rattle.js_replace.proofs.pieces.Shape.of.Given as goal

-- how many units the pieces so far stand for, and how many the rest
abbrev pub invariant-loop-piece : goal.invariant-loop-piece
invariant-loop-piece l = record {
  lengths : (u : List ℕ) (at : ℕ) (w : List ℕ) → at + length w ≤ length u → len_of l.shape (length u) at (length w) + length (substituted l.rest u at w) ≡ length (substituted l.template u at w);
  pieces : pieces_of l.shape + length l.rest ≤ length l.template;
}

abbrev pub decreases-loop-piece : goal.decreases-loop-piece
decreases-loop-piece l = length l.rest
