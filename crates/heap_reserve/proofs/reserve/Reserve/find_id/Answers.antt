use Rattle.heap_rule.specs.declared.view.View.{View}
use Rattle.heap_table.specs.Agents.{size_of}
use Rattle.std.proofs.Common.{◌≡◌, ◌∙◌, ℕ, length, sym}
use Rattle.heap_reserve.specs.Reserves.{kept_ids}
use Rattle.heap_reserve.proofs.Gathered.{id_found}
use Rattle.heap_reserve.proofs.reserve.Reserve.find_id.Goals as goal

pub returns-then-ids_left-eq0-clause-found : goal.returns-then-ids_left-eq0-clause-found
returns-then-ids_left-eq0-clause-found g c = let e = c.claim_id.ensures in let none : length (kept_ids c.args.self.now) ≡ 0 = sym c.ids_left.ensures ∙ c.if-ids_left-eq0.true in
    id_found c.args.reader.now.agent.seat.me.0 c.claim_id.new.self.seat.me.0 c.args.self.now (size_of (g.H.HeapRef.reached c.args.reader.now.heap)).ids none c.claim_id.result e.view e.above_own
