use Rattle.std.proofs.Common.{◌≡◌, ◌+◌, ◌∙◌, inl, inr, refl, ap, subst, sym, arith}
use Rattle.heap_rule.specs.declared.size.Counter.TheVariants.{Ids}
use Rattle.heap_rule.specs.declared.size.Counters.{Counters}
use Rattle.heap_rule.specs.declared.size.HeapSize.{HeapSize}
use Rattle.heap_rule.specs.declared.view.View.{View}
use Rattle.heap_rule.specs.Maps.{Has, HasKey}
use Rattle.heap_rule.proofs.MapLemmas.{insert_same, key_of}
use Rattle.heap_table.specs.Agents.{size_of}
use Rattle.heap_table.specs.Full.{IsFull}
use Rattle.heap_text.specs.declared.faults.TextFull.TheVariants as fault
use Rattle.heap_text.specs.Joins.{AreJoinable}
use Rattle.heap_read.proofs.Going.{continues_full_ids, continues_ids, continues_trans}
use Rattle.heap_read.proofs.Loaded.{reads_refl}
use Rattle.heap_text.proofs.Owned.{own_born, own_full, own_refl}
use Rattle.heap_text.proofs.Pieces.{spared_ids}
use Rattle.heap_text.proofs.making.link.Goals as goal

pub returns-in-Err-clause-continues : goal.returns-in-Err-clause-continues
returns-in-Err-clause-continues g c = let v : View = c.args.reader.now.agent.seat.me.0 in
    record { heap = refl; view = continues_full_ids v c.claim_id.new.self.seat.me.0 c.in-Err.full.at c.in-Err.ensures.refused.0 c.claim_id.ensures.low }

pub returns-in-Err-clause-linked : goal.returns-in-Err-clause-linked
returns-in-Err-clause-linked g c us vs h k = let v : View = c.args.reader.now.agent.seat.me.0 in
    let x : View = c.claim_id.new.self.seat.me.0 in let f = c.in-Err.ensures.refused in let full = c.in-Err.full in inr (
      fault.Ids full,
      refl,
      (
        (full, refl),
        (subst (λ (z : HeapSize). IsFull full 1 z.ids) (ap size_of c.heap.ensures) f.1, ap (λ (y : View). y.low.ids) f.0),
        spared_ids v v v x 0 0 full.at full (reads_refl v) f.0 refl (omega arith) refl (λ q w. w) (λ q l. absurd (omega arith)) (λ q l k. absurd (omega arith)),
      ),
    )

pub returns-in-Err-clause-own : goal.returns-in-Err-clause-own
returns-in-Err-clause-own g c = let v : View = c.args.reader.now.agent.seat.me.0 in own_full v v c.claim_id.new.self.seat.me.0 Ids c.in-Err.full.at c.in-Err.ensures.refused.0 (own_refl v)

pub link_to-requires-clause-own : goal.link_to-requires-clause-own
link_to-requires-clause-own g c = let v : View = c.args.reader.now.agent.seat.me.0 in let id = c.in-Ok.id in
    subst (λ (y : View). HasKey y.own_ids id) (sym c.in-Ok.ensures.view) (key_of _ id 0 (insert_same v.own_ids id 0))

pub link_to-requires-clause-above : goal.link_to-requires-clause-above
link_to-requires-clause-above g c = let v : View = c.args.reader.now.agent.seat.me.0 in let k = c.requires.known in
    (c.in-Ok.ensures.above c.args.a.id (inl (key_of v.units c.args.a.id k.0 k.2)), c.in-Ok.ensures.above c.args.b.id (inl (key_of v.units c.args.b.id k.1 k.3)))

pub link_to-requires-clause-known : goal.link_to-requires-clause-known
link_to-requires-clause-known g c = subst (λ (y : View). AreJoinable y c.args.a c.args.b c.args.n) (sym c.in-Ok.ensures.view) c.requires.known

pub returns-clause-continues : goal.returns-clause-continues
returns-clause-continues g c = let v : View = c.args.reader.now.agent.seat.me.0 in let x : View = c.claim_id.new.self.seat.me.0 in let w : View = c.link_to.new.reader.agent.seat.me.0 in
    record { heap = c.link_to.ensures.continues.heap; view = continues_trans v x w (continues_ids v x c.in-Ok.id 1 c.in-Ok.ensures.view c.claim_id.ensures.low) c.link_to.ensures.continues.view }

pub returns-clause-linked : goal.returns-clause-linked
returns-clause-linked g c us vs h k = let v : View = c.args.reader.now.agent.seat.me.0 in let w : View = c.link_to.new.reader.agent.seat.me.0 in let e = c.in-Ok.ensures.view in
    let ids : w.used.ids ≡ v.used.ids + 1 = ap (λ (m : Counters). m.ids) c.link_to.ensures.used ∙ ap (λ (a : View). a.used.ids) e in
    let words : w.used.words ≡ v.used.words = ap (λ (m : Counters). m.words) c.link_to.ensures.used ∙ ap (λ (a : View). a.used.words) e in inl (
      record { id = c.in-Ok.id },
      refl,
      (
        c.link_to.ensures.units us vs (subst (λ (y : View). Has y.units c.args.a.id us) (sym e) h) (subst (λ (y : View). Has y.units c.args.b.id vs) (sym e) k),
        c.link_to.ensures.rope,
        (ids, omega (arith, words)),
      ),
    )

pub returns-clause-own : goal.returns-clause-own
returns-clause-own g c = let v : View = c.args.reader.now.agent.seat.me.0 in
    own_born v v c.claim_id.new.self.seat.me.0 c.link_to.new.reader.agent.seat.me.0 c.in-Ok.id 0 0 (own_refl v) c.in-Ok.ensures.view
    c.in-Ok.ensures.above_own c.link_to.ensures.own (λ q l own. absurd (omega arith))
