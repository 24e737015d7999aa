use Rattle.std.proofs.Common.{ℕ, List, Some, None}
use Rattle.heap_rule.specs.declared.view.View.{View}
use Rattle.heap_intern.specs.Answers.{FindsString}
use Rattle.heap_intern.specs.Keys.{units_of_key}
use Rattle.heap_reserve.proofs.Kept.{reserve_kept}
use Rattle.test_reserve.proofs.interning.intern_one.Goals as goal

pub returns-in-Found : goal.returns-in-Found
returns-in-Found c = let v : View = c.args.text.now.reader.agent.seat.me.0 in let w : View = c.search_key.new.reader.agent.seat.me.0 in let us : List ℕ = units_of_key c.args.key.now in
    let f : FindsString v w us (Some c.in-Found.seat.id) = c.in-Found.ensures.searches.finds.answer in reserve_kept v w c.args.reserve.now (record { ids = f.0.own_ids; words = f.0.own_words }) c.requires.reserve

pub intern_at-requires-clause-reserve : goal.intern_at-requires-clause-reserve
intern_at-requires-clause-reserve c = let v : View = c.args.text.now.reader.agent.seat.me.0 in let w : View = c.search_key.new.reader.agent.seat.me.0 in let us : List ℕ = units_of_key c.args.key.now in
    let f : FindsString v w us None = c.in-Open.ensures.searches.finds.answer in reserve_kept v w c.args.reserve.now (record { ids = f.0.goes.own_ids; words = f.0.goes.own_words }) c.requires.reserve

pub returns-in-Shut : goal.returns-in-Shut
returns-in-Shut c = let v : View = c.args.text.now.reader.agent.seat.me.0 in let w : View = c.search_key.new.reader.agent.seat.me.0 in let us : List ℕ = units_of_key c.args.key.now in
    let f : FindsString v w us None = c.in-Shut.ensures.searches.finds.answer in reserve_kept v w c.args.reserve.now (record { ids = f.0.goes.own_ids; words = f.0.goes.own_words }) c.requires.reserve
