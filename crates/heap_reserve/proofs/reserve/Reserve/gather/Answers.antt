use Rattle.std.proofs.Common.{◌≡◌, ◌∙◌, ap, refl, subst}
use Rattle.heap_rule.specs.declared.size.HeapSize.{HeapSize}
use Rattle.heap_rule.specs.declared.view.View.{View}
use Rattle.heap_table.specs.Agents.{size_of}
use Rattle.heap_table.specs.Full.{IsFull}
use Rattle.heap_reserve.specs.Reserves.{IsReserve}
use Rattle.heap_read.proofs.Going.{continues_trans}
use Rattle.heap_read.proofs.WindowLemmas.{forms_trans}
use Rattle.heap_reserve.proofs.Gathered.{both_found, id_refused, words_refused}
use Rattle.heap_reserve.proofs.Kept.{reserve_kept}
use Rattle.heap_reserve.proofs.reserve.Reserve.gather.Goals as goal

pub find_id-requires : goal.find_id-requires
find_id-requires g c = record { reserve = reserve_kept c.args.reader.now.agent.seat.me.0 c.find_words.new.reader.agent.seat.me.0 c.args.self.now c.in-Ok.ensures.found.own c.requires.reserve }

pub returns-clause-found : goal.returns-clause-found
returns-clause-found g c = both_found c.args.reader.now.agent.seat.me.0 c.find_words.new.reader.agent.seat.me.0 c.find_id.new.reader.agent.seat.me.0
    c.args.self.now c.find_id.new.self c.leave_words.new.self c.args.words c.in-Ok-find_id.id c.in-Ok.start c.in-Ok.ensures.found c.in-Ok-find_id.ensures.found
    c.leave_words.ensures.ids c.leave_words.ensures.enough c.leave_words.ensures.less

pub returns-clause-continues : goal.returns-clause-continues
returns-clause-continues g c = record {
  heap = c.find_id.ensures.continues.heap ∙ c.find_words.ensures.continues.heap;
  view = continues_trans c.args.reader.now.agent.seat.me.0 c.find_words.new.reader.agent.seat.me.0 c.find_id.new.reader.agent.seat.me.0 c.find_words.ensures.continues.view c.find_id.ensures.continues.view;
}

pub returns-clause-forms : goal.returns-clause-forms
returns-clause-forms g c = forms_trans c.args.reader.now.agent.seat.me.0 c.find_words.new.reader.agent.seat.me.0 c.find_id.new.reader.agent.seat.me.0 c.find_words.ensures.forms c.find_id.ensures.forms

pub returns-in-Err-clause-refused : goal.returns-in-Err-clause-refused
returns-in-Err-clause-refused g c = let e = c.in-Err.ensures.refused in
    words_refused c.args.reader.now.agent.seat.me.0 c.find_words.new.reader.agent.seat.me.0 (size_of (g.H.HeapRef.reached c.args.reader.now.heap)) c.args.self.now c.args.words c.in-Err.full e.0 e.1 e.2

pub returns-in-Err-find_id-clause-refused : goal.returns-in-Err-find_id-clause-refused
returns-in-Err-find_id-clause-refused g c = let e = c.in-Err-find_id.ensures.refused in let f = c.in-Err-find_id.full in
    let same : size_of (g.H.HeapRef.reached c.find_words.new.reader.heap) ≡ size_of (g.H.HeapRef.reached c.args.reader.now.heap) = ap (λ y. size_of (g.H.HeapRef.reached y)) c.find_words.ensures.continues.heap in
    id_refused c.args.reader.now.agent.seat.me.0 c.find_words.new.reader.agent.seat.me.0 c.find_id.new.reader.agent.seat.me.0 (size_of (g.H.HeapRef.reached c.args.reader.now.heap))
    c.args.self.now c.find_id.new.self c.args.words c.in-Ok.start f c.in-Ok.ensures.found e.0 (subst (λ (z : HeapSize). IsFull f 1 z.ids) same e.1) e.2 e.3

pub returns-in-Err-find_id-clause-continues : goal.returns-in-Err-find_id-clause-continues
returns-in-Err-find_id-clause-continues g c = record {
  heap = c.find_id.ensures.continues.heap ∙ c.find_words.ensures.continues.heap;
  view = continues_trans c.args.reader.now.agent.seat.me.0 c.find_words.new.reader.agent.seat.me.0 c.find_id.new.reader.agent.seat.me.0 c.find_words.ensures.continues.view c.find_id.ensures.continues.view;
}

pub returns-in-Err-find_id-clause-forms : goal.returns-in-Err-find_id-clause-forms
returns-in-Err-find_id-clause-forms g c = forms_trans c.args.reader.now.agent.seat.me.0 c.find_words.new.reader.agent.seat.me.0 c.find_id.new.reader.agent.seat.me.0 c.find_words.ensures.forms c.find_id.ensures.forms
