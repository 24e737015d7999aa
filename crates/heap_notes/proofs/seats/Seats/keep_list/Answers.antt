use Rattle.std.proofs.Common.{◌≡◌, ◌∙◌, ℕ, length, subst, sym}
use Rattle.std.proofs.lemmas.List.{take_at}
use Rattle.heap_intern.specs.KeptKeys.{AreKeptKeys}
use Rattle.heap_notes.proofs.seats.Seats.keep_list.Goals as goal

pub returns-clause-right : goal.returns-clause-right
returns-clause-right c v h seat = let n : ℕ = c.args.self.now.keys.len in let len : length c.keep_key.new.keys ≡ n = c.keep_key.ensures.room ∙ c.as_mut_slice.ensures.len in
    subst (AreKeptKeys v) (sym (take_at c.keep_key.new.keys _ n len)) (c.keep_key.ensures.right v (subst (AreKeptKeys v) (sym c.as_mut_slice.ensures.value) h) seat)
