use Rattle.std.proofs.Common.{◌≡◌, ℕ, ◌<◌, ◌≤◌, length, get_or, bit_or}
use Rattle.heap_ids.proofs.ids.IdSet.add_all.Given as goal

abbrev pub invariant-loop-i : goal.invariant-loop-i
invariant-loop-i l = record {
  long : length l.self.words.items ≡ length l.initial.self.words.items;
  laid : (j : ℕ) → j < l.i → get_or l.self.words.items j 0 ≡ bit_or (get_or l.initial.self.words.items j 0) (get_or l.other.words.items j 0);
  rest : (j : ℕ) → l.i ≤ j → get_or l.self.words.items j 0 ≡ get_or l.initial.self.words.items j 0;
}
