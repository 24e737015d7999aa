-- What a new agent has in reserve, and what one takes over that is joined.
use Rattle.std.specs.Prelude.{◌≡◌, [], Option, None, Some}
use Rattle.heap_reserve.specs.declared.reserve.Reserve.{Reserve}
use Rattle.heap_reserve.specs.Reserves.{TakesOverReserve, kept_ids, words_kept}
use Rattle.heap_agents.specs.declared.held.Held.{Held}

-- it has no id and no content word
abbrev pub IsEmptyReserve : Reserve → Type 0
IsEmptyReserve r = (kept_ids r ≡ []) × (words_kept r ≡ 0)

-- the same, and it renews nothing
abbrev pub ReservesNothing : Held → Type 0
ReservesNothing x = IsEmptyReserve x.reserve × (x.blocks.ids ≡ 0) × (x.blocks.words ≡ 0)

abbrev pub HandleReservesNothing : Option Held → Type 0
HandleReservesNothing None = ⊥
HandleReservesNothing (Some x) = ReservesNothing x

-- the first agent took over what the second one had in reserve, which the third says
abbrev pub HandleTakesOver : Option Held → Option Held → Option Held → Type 0
HandleTakesOver None _ _ = ⊥
HandleTakesOver (Some x) None _ = ⊥
HandleTakesOver (Some x) (Some y) None = ⊥
HandleTakesOver (Some x) (Some y) (Some z) = TakesOverReserve x.reserve y.reserve z.reserve
