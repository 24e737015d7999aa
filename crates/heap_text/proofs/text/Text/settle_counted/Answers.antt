use Rattle.std.proofs.Common.{◌≡◌, ℕ, Bool, List, inl, inr, refl, ap, subst, sym}
use Rattle.js_header.specs.declared.form.Form.TheVariants.{Cons}
use Rattle.std.specs.Prelude.{IfErr, IfOk}
use Rattle.heap_rule.specs.declared.size.HeapSize.{HeapSize}
use Rattle.heap_rule.specs.declared.view.View.{View}
use Rattle.heap_rule.specs.Forms.{IsCons}
use Rattle.heap_rule.specs.Maps.{Has}
use Rattle.heap_table.specs.Agents.{size_of}
use Rattle.heap_text.specs.Settling.{HasSides, IsBitOf, IsFlattened, IsNoRoom, IsSettling, Settles}
use Rattle.heap_read.proofs.Going.{continues_reads, continues_trans}
use Rattle.heap_text.proofs.Owned.{own_reads, own_trans}
use Rattle.heap_text.proofs.Settled.{err_then, flattened_after, no_cons, no_room_after, ok_then, same_bit}
use Rattle.heap_text.proofs.text.Text.settle_counted.Goals as goal

pub returns-in-Cons-clause-continues : goal.returns-in-Cons-clause-continues
returns-in-Cons-clause-continues g c = let v : View = c.args.self.now.reader.agent.seat.me.0 in
    let u : View = c.form_now-form.new.self.agent.seat.me.0 in let w : View = c.flatten.new.reader.agent.seat.me.0 in
    continues_trans v u w (continues_reads v u c.form_now-form.ensures.reads.view) c.flatten.ensures.continues.view

pub returns-in-Cons-clause-settles : goal.returns-in-Cons-clause-settles
returns-in-Cons-clause-settles g c = let v : View = c.args.self.now.reader.agent.seat.me.0 in
    let u : View = c.form_now-form.new.self.agent.seat.me.0 in let w : View = c.flatten.new.reader.agent.seat.me.0 in let i = c.args.s.id in
    let wide = c.in-Cons.wide in let r = c.form_now-form.ensures.reads.view in
    let bit : IsBitOf v i wide = λ seen l m k. same_bit seen wide l m c.in-Cons.left c.in-Cons.right c.form_now-form.result c.in-Cons.is (c.form_now-form.ensures.later (Cons seen l m) k) in
    let same : size_of (g.H.HeapRef.reached c.form_now-form.new.self.heap) ≡ size_of (g.H.HeapRef.reached c.args.self.now.reader.heap) = ap
    (λ y. size_of (g.H.HeapRef.reached y)) c.form_now-form.ensures.reads.heap in record {
      own = own_trans v u w (own_reads v u r) c.flatten.ensures.own;
      settled = c.flatten.ensures.settled;
      used = ok_then c.flatten.result (λ _. (us : List ℕ) → Has u.units i us → IsFlattened u w i us wide) (λ _. (us : List ℕ) → Has v.units i us → IsSettling v w i us)
          (λ _ h us k. inr (wide, bit, flattened_after v u w r i us wide (h us (r.known.units i us k)))) c.flatten.ensures.flat;
      refused = subst (λ (z : HeapSize). IfErr c.flatten.result (λ f. (us : List ℕ) → Has v.units i us → (b : Bool) × IsBitOf v i b × IsNoRoom v w z us f b)) same
          (err_then c.flatten.result (λ f. (us : List ℕ) → Has u.units i us → IsNoRoom u w
          (size_of (g.H.HeapRef.reached c.form_now-form.new.self.heap)) us f wide)
          (λ f. (us : List ℕ) → Has v.units i us → (b : Bool) × IsBitOf v i b × IsNoRoom v w (size_of (g.H.HeapRef.reached c.form_now-form.new.self.heap)) us f b)
          (λ f h us k. (wide, bit, no_room_after v u w r (size_of (g.H.HeapRef.reached c.form_now-form.new.self.heap)) us f wide (h us (r.known.units i us k)))) c.flatten.ensures.refused);
      rope = err_then c.flatten.result (λ f. (us : List ℕ) → Has u.units i us → HasSides w i us)
          (λ f. (us : List ℕ) → Has v.units i us → HasSides w i us) (λ f h us k. h us (r.known.units i us k)) c.flatten.ensures.rope;
      again = λ settled. absurd (c.form_now-form.ensures.settled settled (subst IsCons (sym c.in-Cons.is) tt));
      later = λ settled. absurd (c.form_now-form.ensures.settled settled (subst IsCons (sym c.in-Cons.is) tt));
    }

pub returns-in_default-clause-settles : goal.returns-in_default-clause-settles
returns-in_default-clause-settles g c = let v : View = c.args.self.now.reader.agent.seat.me.0 in let u : View = c.form_now-form.new.self.agent.seat.me.0 in
    let r = c.form_now-form.ensures.reads.view in record {
      own = own_reads v u r;
      settled = (c.form_now-form.result, c.form_now-form.ensures.seen, no_cons c.form_now-form.result c.in_default.not-Cons);
      used = λ us k. inl r;
      refused = tt;
      rope = tt;
      again = λ settled. (refl, r);
      later = λ settled f h. (c.form_now-form.result, c.form_now-form.ensures.seen, c.form_now-form.ensures.later f h);
    }
