-- What an agent notes of the string table is right of what it knows: the slots of strings that it interned,
-- what the strings in slots hash to, and the short lists of units that it interned or found last.
use Rattle.heap_rule.specs.declared.view.View.{View}
use Rattle.heap_intern.specs.Hashes.{AreHashes}
use Rattle.heap_intern.specs.KeptKeys.{AreKeptKeys}
use Rattle.heap_intern.specs.Seats.{AreSeats}
use Rattle.heap_notes.specs.declared.seats.Seats.{Seats}

abbrev pub AreNoted : View → Seats → Type 0
AreNoted v s = AreSeats v s.slots.items × AreHashes v s.hashes.items × AreKeptKeys v s.keys.items
