use Rattle.std.proofs.Common.{◌≡◌, ◌<◌, ◌^◌, ◌∙◌, false, ap, arith, subst, sym}
use Rattle.js_header.specs.declared.form.Form.TheVariants.{Flat}
use Rattle.heap_rule.specs.declared.size.Counter.TheVariants.{Ids}
use Rattle.heap_rule.specs.declared.size.HeapSize.{HeapSize}
use Rattle.heap_rule.specs.declared.view.View.{View}
use Rattle.heap_rule.specs.Births.{MayBear, born, stored_length, stored_word}
use Rattle.heap_rule.specs.Claims.{won_claim}
use Rattle.heap_rule.specs.Maps.{Has, HasKey}
use Rattle.heap_rule.proofs.Possible.{possible_lawful}
use Rattle.test_heap.specs.Ropes.{bytes_of}
use Rattle.test_heap.proofs.Making.{eight_fits, eight_units, id_own, ready, word_own}
use Rattle.test_heap.proofs.table_ropes.eight.Goals as goal

pub store_word-requires-clause-own : goal.store_word-requires-clause-own
store_word-requires-clause-own c = subst (λ (y : View). HasKey y.own_words c.in-Ok.start) (sym c.in-Ok.ensures.view) (word_own c.args.agent.now.seat.me.0 c.in-Ok.start)

pub store_length-requires-clause-may : goal.store_length-requires-clause-may
store_length-requires-clause-may c = let id = c.in-Ok-claim_id.id in
    (subst (λ (y : View). HasKey y.own_ids id) (sym c.in-Ok-claim_id.ensures.view) (id_own c.store_word.new.self.seat.me.0 id), omega arith)

pub birth-requires-clause-fits : goal.birth-requires-clause-fits
birth-requires-clause-fits c = let v : View = c.args.agent.now.seat.me.0 in let start = c.in-Ok.start in let id = c.in-Ok-claim_id.id in
    let is : c.store_length.new.self.seat.me.0 ≡ ready v start c.args.word id = c.store_length.ensures.view
    ∙ ap (λ (y : View). stored_length y id 8) (c.in-Ok-claim_id.ensures.view ∙ ap (λ (y : View). won_claim y Ids id 1)
    (c.store_word.ensures.view ∙ ap (λ (y : View). stored_word y start c.args.word) c.in-Ok.ensures.view)) in
    let sizes = ap (λ (z : HeapSize). z.words) c.requires.belongs.1 in let lawful = (possible_lawful v c.requires.belongs.5).3 in let room = c.in-Ok.ensures.room in
    let small : start < 2 ^ 29 = omega arith in
    subst (λ (y : View). MayBear y id (Flat false start false)) (sym is) (eight_fits v start c.args.word id false small)

pub returns-clause-units : goal.returns-clause-units
returns-clause-units c = let v : View = c.args.agent.now.seat.me.0 in let start = c.in-Ok.start in let id = c.in-Ok-claim_id.id in
    let is : c.store_length.new.self.seat.me.0 ≡ ready v start c.args.word id = c.store_length.ensures.view
    ∙ ap (λ (y : View). stored_length y id 8) (c.in-Ok-claim_id.ensures.view ∙ ap (λ (y : View). won_claim y Ids id 1)
    (c.store_word.ensures.view ∙ ap (λ (y : View). stored_word y start c.args.word) c.in-Ok.ensures.view)) in
    subst (λ (y : View). Has y.units id (bytes_of c.args.word)) (sym (c.birth.ensures.view ∙ ap (λ (y : View). born y id (Flat false start false)) is)) (eight_units v start c.args.word id false)
