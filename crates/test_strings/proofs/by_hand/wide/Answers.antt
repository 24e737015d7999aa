use Rattle.std.proofs.Common.{◌≡◌, ◌<◌, ◌^◌, ◌∙◌, false, true, ap, arith, subst, sym}
use Rattle.js_header.specs.declared.form.Form.TheVariants.{Flat}
use Rattle.heap_rule.specs.declared.size.Counter.TheVariants.{Ids}
use Rattle.heap_rule.specs.declared.size.HeapSize.{HeapSize}
use Rattle.heap_rule.specs.declared.view.View.{View}
use Rattle.heap_rule.specs.Births.{MayBear, stored_length, stored_word}
use Rattle.heap_rule.specs.Claims.{won_claim}
use Rattle.heap_rule.specs.Maps.{HasKey}
use Rattle.heap_rule.proofs.Possible.{possible_lawful}
use Rattle.test_strings.proofs.Wide.{id_own, ready, wide_fits, wide_known, word_own}
use Rattle.test_strings.proofs.by_hand.wide.Goals as goal

pub store_word-requires-clause-own : goal.store_word-requires-clause-own
store_word-requires-clause-own c = subst (λ (y : View). HasKey y.own_words c.in-Ok.start) (sym c.in-Ok.ensures.view) (word_own c.args.reader.now.agent.seat.me.0 c.in-Ok.start)

pub store_length-requires-clause-may : goal.store_length-requires-clause-may
store_length-requires-clause-may c = let id = c.in-Ok-claim_id.id in
    (subst (λ (y : View). HasKey y.own_ids id) (sym c.in-Ok-claim_id.ensures.view) (id_own c.store_word.new.self.seat.me.0 id), omega arith)

pub birth-requires-clause-fits : goal.birth-requires-clause-fits
birth-requires-clause-fits c = let v : View = c.args.reader.now.agent.seat.me.0 in let start = c.in-Ok.start in let id = c.in-Ok-claim_id.id in
    let is : c.store_length.new.self.seat.me.0 ≡ ready v start c.args.word id = c.store_length.ensures.view
    ∙ ap (λ (y : View). stored_length y id 4) (c.in-Ok-claim_id.ensures.view ∙ ap (λ (y : View). won_claim y Ids id 1)
    (c.store_word.ensures.view ∙ ap (λ (y : View). stored_word y start c.args.word) c.in-Ok.ensures.view)) in
    let sizes = ap (λ (z : HeapSize). z.words) c.args.reader.now.belongs.1 in let lawful = (possible_lawful v c.args.reader.now.belongs.5).3 in let room = c.in-Ok.ensures.room in
    let small : start < 2 ^ 29 = omega arith in
    subst (λ (y : View). MayBear y id (Flat true start false)) (sym is) (wide_fits v start c.args.word id small)

pub returns-clause-known : goal.returns-clause-known
returns-clause-known c = let id = c.in-Ok-claim_id.id in
    subst (λ (y : View). HasKey y.units id) (sym c.birth.ensures.view) (wide_known c.store_length.new.self.seat.me.0 id (Flat true c.in-Ok.start false))
