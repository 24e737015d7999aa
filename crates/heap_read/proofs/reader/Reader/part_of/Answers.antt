use Rattle.std.proofs.Common.{◌≡◌, ◌∙◌, ℕ, ◌+◌, ◌-◌, ◌/◌, get_or, inr, ap, refl, subst, arith}
use Rattle.js_units.specs.Lanes.{lane_count}
use Rattle.heap_rule.specs.declared.view.View.{View}
use Rattle.heap_rule.specs.Contents.{lane_in}
use Rattle.heap_rule.specs.Loads.{MayLoadWord}
use Rattle.heap_rule.specs.Views.{shown_word}
use Rattle.heap_read.specs.Shifted.{HasWord}
use Rattle.heap_read.proofs.Loaded.{reads_refl}
use Rattle.heap_read.proofs.Runs.{no_lanes}
use Rattle.heap_read.proofs.ShiftedLanes.{holds_as}
use Rattle.heap_read.proofs.Showing.{forms_held, place_frozen, place_small, window_frozen, window_kept, window_unit}
use Rattle.heap_read.proofs.reader.Reader.part_of.Goals as goal

pub returns-then-count-eq0-clause-reads : goal.returns-then-count-eq0-clause-reads
returns-then-count-eq0-clause-reads g c = record { heap = refl; view = reads_refl c.args.self.now.agent.seat.me.0 }

pub returns-then-count-eq0-clause-word : goal.returns-then-count-eq0-clause-word
returns-then-count-eq0-clause-word g c us h = no_lanes c.args.w.wide c.args.count (λ k. get_or us (c.args.i + k) 0) c.if-count-eq0.true

pub overflow_add-w : goal.overflow_add-w
overflow_add-w g c = let v : View = c.args.self.now.agent.seat.me.0 in let t = c.requires.window in let some = c.if-count-eq0.false in
    let a = place_small v c.args.w c.args.i c.args.self.now.belongs.5 (window_frozen v c.args.w t.0 t.1) (omega (arith, some, c.requires.within)) in omega arith

pub lanes_in-requires-clause-may : goal.lanes_in-requires-clause-may
lanes_in-requires-clause-may g c q l m = let v : View = c.args.self.now.agent.seat.me.0 in let w = c.args.w in let t = c.requires.window in let j : ℕ = q - w.offset in
    let e : w.offset + j ≡ q = omega (arith, l) in
    subst (λ (o : ℕ). MayLoadWord v (w.start + o / lane_count w.wide)) e (inr (place_frozen v w j (window_frozen v w t.0 t.1) (omega (arith, l, m, c.requires.within))))

pub lanes_in-requires-clause-short : goal.lanes_in-requires-clause-short
lanes_in-requires-clause-short g c = let v : View = c.args.self.now.agent.seat.me.0 in let t = c.requires.window in let some = c.if-count-eq0.false in let last : ℕ = c.args.i + (c.args.count - 1) in
    let a = place_small v c.args.w last c.args.self.now.belongs.5 (window_frozen v c.args.w t.0 t.1) (omega (arith, some, c.requires.within)) in omega (arith, some, a)

pub returns-clause-word : goal.returns-clause-word
returns-clause-word g c us h = let v : View = c.args.self.now.agent.seat.me.0 in let x : View = c.lanes_in.new.self.agent.seat.me.0 in let w = c.args.w in let i : ℕ = c.args.i in
    let e = c.lanes_in.ensures in let kept = window_kept v x (forms_held v x e.forms.0) w us e.reads.view.known h in
    holds_as w.wide c.lanes_in.result c.args.count (λ k. lane_in (shown_word x) w.wide w.start (w.offset + i + k)) (λ k. get_or us (i + k) 0) e.lanes
    (λ k l. let sum : w.offset + i + k ≡ w.offset + (i + k) = omega arith in
    ap (lane_in (shown_word x) w.wide w.start) sum
    ∙ window_unit x w us (i + k) c.lanes_in.new.self.belongs.5 kept (omega (arith, l, c.requires.within))
    (subst (λ (o : ℕ). HasWord x (w.start + o / lane_count w.wide)) sum (e.has (w.offset + i + k) (omega arith) (omega (arith, l)))))
