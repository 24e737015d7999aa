use Rattle.std.proofs.Common.{◌≡◌, ◌+◌, ◌<◌, ◌≤◌, ap, ap₂, refl, false, true, get_or, length, subst, sym, ◌∙◌, ℕ, arith}
use Rattle.heap_table.specs.Agents.{view_of}
use Rattle.js_units.specs.Text.{is_lead, is_trail, pair_value}
use Rattle.heap_export.proofs.Spelling.{by_end, by_lead, by_trail, point_alone, point_as, point_pair}
use Rattle.heap_export.proofs.Windows.{loads_on, still_shown, window_len, window_there}
use Rattle.heap_export.proofs.points.point_at.Goals as goal

pub unit-second-requires-clause-window : goal.unit-second-requires-clause-window
unit-second-requires-clause-window g c = window_there (view_of c.args.text.now.reader.agent) (view_of c.unit-first.new.text.reader.agent) c.args.w c.requires.window c.unit-first.ensures.loads

pub returns-then-not-is_lead-clause-point : goal.returns-then-not-is_lead-clause-point
returns-then-not-is_lead-clause-point g c us h = let i = c.args.i in
    let n = window_len (view_of c.args.text.now.reader.agent) c.args.w us h in let t = c.requires.within in let l : i < length us = omega arith in
    let u = c.unit-first.ensures.unit us h in let e : is_lead (get_or us i 0) ≡ false = ap is_lead (sym u) ∙ (sym c.is_lead.ensures ∙ c.if-not-is_lead.true) in
    let small : get_or us i 0 < 65536 = subst (λ (x : ℕ). x < 65536) u c.unit-first.type_inv in
    point_as us i c.alone.result (get_or us i 0) 1 (c.alone.ensures.value ∙ u) c.alone.ensures.count (point_alone us i l (by_lead us i l e) small)

pub returns-then-i-w-clause-point : goal.returns-then-i-w-clause-point
returns-then-i-w-clause-point g c us h = let i = c.args.i in let n = window_len (view_of c.args.text.now.reader.agent) c.args.w us h in
    let t = c.requires.within in let l : i < length us = omega arith in
    let u = c.unit-first.ensures.unit us h in let b = c.if-i-w.true in let end : length us ≤ i + 1 = omega arith in
    let small : get_or us i 0 < 65536 = subst (λ (x : ℕ). x < 65536) u c.unit-first.type_inv in
    point_as us i c.alone-then-i-w.result (get_or us i 0) 1 (c.alone-then-i-w.ensures.value ∙ u) c.alone-then-i-w.ensures.count (point_alone us i l (by_end us i l end) small)

pub returns-then-not-is_trail-clause-loads : goal.returns-then-not-is_trail-clause-loads
returns-then-not-is_trail-clause-loads g c = loads_on (view_of c.args.text.now.reader.agent) (view_of c.unit-first.new.text.reader.agent)
    (view_of c.unit-second.new.text.reader.agent) c.unit-first.ensures.loads c.unit-second.ensures.loads

pub returns-then-not-is_trail-clause-point : goal.returns-then-not-is_trail-clause-point
returns-then-not-is_trail-clause-point g c us h = let v = view_of c.args.text.now.reader.agent in let m = view_of c.unit-first.new.text.reader.agent in
    let i = c.args.i in let n = window_len v c.args.w us h in let t = c.requires.within in let l : i < length us = omega arith in
    let b = c.if-i-w.false in let more : i + 1 < length us = omega arith in
    let u = c.unit-first.ensures.unit us h in let w = c.unit-second.ensures.unit us (still_shown v m c.args.w us c.unit-first.ensures.loads h) in
    let e : is_trail (get_or us (i + 1) 0) ≡ false = ap is_trail (sym w) ∙ (sym c.is_trail.ensures ∙ c.if-not-is_trail.true) in
    let small : get_or us i 0 < 65536 = subst (λ (x : ℕ). x < 65536) u c.unit-first.type_inv in
    point_as us i c.alone-then-not-is_trail.result (get_or us i 0) 1 (c.alone-then-not-is_trail.ensures.value ∙ u)
    c.alone-then-not-is_trail.ensures.count (point_alone us i l (by_trail us i l more e) small)

pub returns-clause-loads : goal.returns-clause-loads
returns-clause-loads g c = loads_on (view_of c.args.text.now.reader.agent) (view_of c.unit-first.new.text.reader.agent)
    (view_of c.unit-second.new.text.reader.agent) c.unit-first.ensures.loads c.unit-second.ensures.loads

pub returns-clause-point : goal.returns-clause-point
returns-clause-point g c us h = let v = view_of c.args.text.now.reader.agent in let m = view_of c.unit-first.new.text.reader.agent in
    let i = c.args.i in let n = window_len v c.args.w us h in let t = c.requires.within in let l : i < length us = omega arith in
    let b = c.if-i-w.false in let more : i + 1 < length us = omega arith in
    let u = c.unit-first.ensures.unit us h in let w = c.unit-second.ensures.unit us (still_shown v m c.args.w us c.unit-first.ensures.loads h) in
    let lead : is_lead (get_or us i 0) ≡ true = ap is_lead (sym u) ∙ (sym c.is_lead.ensures ∙ c.if-not-is_lead.false) in
    let trail : is_trail (get_or us (i + 1) 0) ≡ true = ap is_trail (sym w) ∙ (sym c.is_trail.ensures ∙ c.if-not-is_trail.false) in
    let value = c.code_point.ensures ∙ ap₂ pair_value u w in
    point_as us i (record { value = c.code_point.result; count = 2 }) (pair_value (get_or us i 0) (get_or us (i + 1) 0)) 2 value refl (point_pair us i l more lead trail)
