-- What each call of a `Text` keeps of it. That its agent is one of its heap is a fact of the type.
use Rattle.std.specs.Prelude.{◌≡◌}
use Rattle.heap_read.specs.declared.heap_ref.HeapRef.{Ghosts}
use Rattle.heap_text.specs.declared.text.Text.{Text}

module _ {H : Type 0} {g : Ghosts H} where
  pub record KeepsText (a b : Text H g) : Type 0 where
    pub heap : b.reader.heap ≡ a.reader.heap
    pub limit : b.limit ≡ a.limit
