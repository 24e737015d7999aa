use Rattle.std.proofs.Common.{ℕ, List, Some, None}
use Rattle.heap_rule.specs.declared.view.View.{View}
use Rattle.heap_intern.specs.Answers.{FindsString}
use Rattle.heap_reserve.specs.Reserves.{IsReserve}
use Rattle.heap_reserve.proofs.Kept.{reserve_kept}
use Rattle.test_reserve.proofs.strings.intern_made.Goals as goal

pub intern_string_at-requires-clause-reserve : goal.intern_string_at-requires-clause-reserve
intern_string_at-requires-clause-reserve c = let v : View = c.args.text.now.reader.agent.seat.me.0 in let u : View = c.make_flat.new.self.reader.agent.seat.me.0 in
    let w : View = c.search_string.new.reader.agent.seat.me.0 in let r = c.args.reserve.now in let us : List ℕ = c.args.units.now in
    let f : FindsString u w us None = (c.in-Open.ensures.searches us c.in-Ok.ensures.units).searched.finds.answer in
    let first : IsReserve u r = reserve_kept v u r c.make_flat.ensures.own c.requires.reserve in
    reserve_kept u w r (record { ids = f.0.goes.own_ids; words = f.0.goes.own_words }) first

pub intern_string_at-requires-clause-opening : goal.intern_string_at-requires-clause-opening
intern_string_at-requires-clause-opening c = (c.args.units.now, (c.in-Open.ensures.searches c.args.units.now c.in-Ok.ensures.units).planned.3)

pub returns-in-Found : goal.returns-in-Found
returns-in-Found c = let v : View = c.args.text.now.reader.agent.seat.me.0 in let u : View = c.make_flat.new.self.reader.agent.seat.me.0 in
    let w : View = c.search_string.new.reader.agent.seat.me.0 in let r = c.args.reserve.now in let us : List ℕ = c.args.units.now in
    let f : FindsString u w us (Some c.in-Found.seat.id) = (c.in-Found.ensures.searches us c.in-Ok.ensures.units).searched.finds.answer in
    let first : IsReserve u r = reserve_kept v u r c.make_flat.ensures.own c.requires.reserve in
    reserve_kept u w r (record { ids = f.0.own_ids; words = f.0.own_words }) first

pub returns-in-Shut : goal.returns-in-Shut
returns-in-Shut c = let v : View = c.args.text.now.reader.agent.seat.me.0 in let u : View = c.make_flat.new.self.reader.agent.seat.me.0 in
    let w : View = c.search_string.new.reader.agent.seat.me.0 in let r = c.args.reserve.now in let us : List ℕ = c.args.units.now in
    let f : FindsString u w us None = (c.in-Shut.ensures.searches us c.in-Ok.ensures.units).searched.finds.answer in
    let first : IsReserve u r = reserve_kept v u r c.make_flat.ensures.own c.requires.reserve in
    reserve_kept u w r (record { ids = f.0.goes.own_ids; words = f.0.goes.own_words }) first
