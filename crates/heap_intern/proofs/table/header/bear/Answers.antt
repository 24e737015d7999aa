use Rattle.std.proofs.Common.{◌≡◌, ◌+◌, ◌≤◌, ◌∙◌, true, ap, subst, sym}
use Rattle.js_header.specs.declared.form.Form.TheVariants.{Flat}
use Rattle.heap_rule.specs.declared.view.View.{View}
use Rattle.heap_rule.specs.declared.size.HeapSize.{HeapSize}
use Rattle.heap_rule.specs.declared.size.Counter.TheVariants.{Ids}
use Rattle.heap_rule.specs.Births.{born, stored_length, MayBear}
use Rattle.heap_rule.specs.Claims.{won_claim}
use Rattle.heap_rule.specs.Maps.{HasKey}
use Rattle.heap_rule.proofs.MapLemmas.{insert_same, key_of}
use Rattle.heap_table.specs.Known.{KeepsKnown}
use Rattle.heap_table.specs.Agents.{size_of}
use Rattle.heap_table.specs.Full.{IsFull}
use Rattle.heap_intern.proofs.Bearing.{forms_born, goes_born, goes_full, header_fits, header_fixed}
use Rattle.heap_intern.proofs.Going.{goes_trans}
use Rattle.heap_read.proofs.Showing.{forms_held}
use Rattle.heap_intern.proofs.table.header.bear.Goals as goal

pub returns-in-Err-clause-goes : goal.returns-in-Err-clause-goes
returns-in-Err-clause-goes g c a b never = let v : View = c.args.reader.now.agent.seat.me.0 in
    let w : View = c.claim_id.new.self.seat.me.0 in goes_trans a v w _ _ b (goes_full v w c.in-Err.full.at c.in-Err.ensures.refused.0 c.claim_id.ensures.low)

pub returns-in-Err-clause-forms : goal.returns-in-Err-clause-forms
returns-in-Err-clause-forms g c = forms_held c.args.reader.now.agent.seat.me.0 c.claim_id.new.self.seat.me.0 (ap (λ (x : View). x.forms) c.in-Err.ensures.refused.0)

pub returns-in-Err-clause-slots : goal.returns-in-Err-clause-slots
returns-in-Err-clause-slots g c = ap (λ (x : View). x.slots) c.in-Err.ensures.refused.0

pub returns-in-Err-clause-err : goal.returns-in-Err-clause-err
returns-in-Err-clause-err g c = let e = c.in-Err.ensures.refused in (
  subst (λ (z : HeapSize). IsFull c.in-Err.full 1 z.ids) (sym (ap (λ (x : View). x.sizes) e.0 ∙ c.args.reader.now.belongs.1 ∙ sym (ap size_of c.heap.ensures))) e.1,
  ap (λ (x : View). x.low.ids) e.0,
  ap (λ (x : View). x.used.ids) e.0,
  ap (λ (x : View). x.own_words) e.0,
)

pub store_length-requires-clause-may : goal.store_length-requires-clause-may
store_length-requires-clause-may g c = let v : View = c.args.reader.now.agent.seat.me.0 in let id = c.in-Ok.id in
    (subst (λ (y : View). HasKey y.own_ids id) (sym c.in-Ok.ensures.view) (key_of _ id 0 (insert_same v.own_ids id 0)), c.requires.over.1.short)

pub birth-requires-clause-fits : goal.birth-requires-clause-fits
birth-requires-clause-fits g c = let v : View = c.args.reader.now.agent.seat.me.0 in let y : View = c.store_length.new.self.seat.me.0 in
    let id = c.in-Ok.id in let n = c.args.len in let o = c.requires.over in
    let is : y ≡ stored_length (won_claim v Ids id 1) id n = c.store_length.ensures.view ∙ ap (λ (a : View). stored_length a id n) c.in-Ok.ensures.view in
    subst (λ (a : View). MayBear a id (Flat c.args.wide c.args.start true)) (sym is) (header_fits v c.args.wide c.args.start n o.0 o.1 id)

pub returns-clause-goes : goal.returns-clause-goes
returns-clause-goes g c a b0 never = let v : View = c.args.reader.now.agent.seat.me.0 in let y : View = c.store_length.new.self.seat.me.0 in
    let w : View = c.birth.new.self.seat.me.0 in let id = c.in-Ok.id in let n = c.args.len in let o = c.requires.over in
    let f = Flat c.args.wide c.args.start true in let r : View = stored_length (won_claim v Ids id 1) id n in
    let is : y ≡ r = c.store_length.ensures.view ∙ ap (λ (b : View). stored_length b id n) c.in-Ok.ensures.view in
    let born_is : w ≡ born r id f = c.birth.ensures.view ∙ ap (λ (b : View). born b id f) is in
    let low : v.low.ids ≤ id + 1 = subst (λ (b : View). v.low.ids ≤ b.low.ids) c.in-Ok.ensures.view c.claim_id.ensures.low in
    goes_born v c.args.wide c.args.start n o.0 o.1 id a w b0 never born_is c.in-Ok.ensures.above_own low (subst (λ (b : View). KeepsKnown b w) is c.birth.ensures.known)

pub returns-clause-forms : goal.returns-clause-forms
returns-clause-forms g c = let v : View = c.args.reader.now.agent.seat.me.0 in let x : View = c.claim_id.new.self.seat.me.0 in
    let y : View = c.store_length.new.self.seat.me.0 in let w : View = c.birth.new.self.seat.me.0 in let id = c.in-Ok.id in let n = c.args.len in
    let f = Flat c.args.wide c.args.start true in let r : View = stored_length (won_claim v Ids id 1) id n in
    let is : y ≡ r = c.store_length.ensures.view ∙ ap (λ (b : View). stored_length b id n) c.in-Ok.ensures.view in
    let born_is : w ≡ born r id f = c.birth.ensures.view ∙ ap (λ (b : View). born b id f) is in forms_born v x w id n c.args.wide c.args.start c.in-Ok.ensures.belongs.5 c.in-Ok.ensures.view born_is

pub returns-clause-slots : goal.returns-clause-slots
returns-clause-slots g c = ap (λ (a : View). a.slots) c.birth.ensures.view ∙ (ap (λ (a : View). a.slots) c.store_length.ensures.view ∙ ap (λ (a : View). a.slots) c.in-Ok.ensures.view)

pub returns-clause-used : goal.returns-clause-used
returns-clause-used g c = ap (λ (a : View). a.used.ids) c.birth.ensures.view ∙ (ap (λ (a : View). a.used.ids) c.store_length.ensures.view ∙ ap (λ (a : View). a.used.ids) c.in-Ok.ensures.view)

pub returns-clause-ok : goal.returns-clause-ok
returns-clause-ok g c us h = let v : View = c.args.reader.now.agent.seat.me.0 in let y : View = c.store_length.new.self.seat.me.0 in
    let w : View = c.birth.new.self.seat.me.0 in let id = c.in-Ok.id in let n = c.args.len in
    let f = Flat c.args.wide c.args.start true in let r : View = stored_length (won_claim v Ids id 1) id n in
    let is : y ≡ r = c.store_length.ensures.view ∙ ap (λ (b : View). stored_length b id n) c.in-Ok.ensures.view in
    header_fixed v c.args.wide c.args.start n us h id w (c.birth.ensures.view ∙ ap (λ (b : View). born b id f) is)
