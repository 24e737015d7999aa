use Rattle.std.proofs.Common.{◌≡◌, ◌+◌, ◌-◌, ◌<◌, Bool, List, ℕ, drop, length, take, subst, sym, refl, arith}
use Rattle.heap_bytes.specs.Reading.{HasRead}
use Rattle.heap_bytes.proofs.AsciiRuns.{no_longer, read_run}
use Rattle.heap_bytes.proofs.Reading.{none_left, read_all, read_more, read_most, read_start, read_stops, shorter_by, some_left}
use Rattle.heap_bytes.proofs.decoding.measure.Goals as goal

pub loop-rest-init : goal.loop-rest-init
loop-rest-init c = read_start c.args.encoding c.args.bytes.now

pub overflow_add-count : goal.overflow_add-count
overflow_add-count c = let run = c.ascii_run-run in
    let m = read_run c.args.encoding c.args.bytes.now c.loop-rest.rest.now c.loop-rest.lead _ c.loop-rest.count run.result c.loop-rest.invariant run.ensures.within run.ensures.ascii refl in
    omega (arith, read_most _ _ _ _ (c.loop-rest.count + run.result) m, c.requires)

pub returns-then-is_empty : goal.returns-then-is_empty
returns-then-is_empty c = let run = c.ascii_run-run in let rest = c.loop-rest.rest.now in let behind = take (length rest - run.result) (drop run.result rest) in
    let m = read_run c.args.encoding c.args.bytes.now rest c.loop-rest.lead _ c.loop-rest.count run.result c.loop-rest.invariant run.ensures.within run.ensures.ascii refl in
    read_all c.args.encoding c.args.bytes.now behind _ (c.loop-rest.count + run.result) m (none_left behind c.is_empty-in-loop-rest.result c.is_empty-in-loop-rest.ensures c.if-is_empty.true)

pub overflow_add-count-in-Some : goal.overflow_add-count-in-Some
overflow_add-count-in-Some c = let run = c.ascii_run-run in let rest = c.loop-rest.rest.now in
    let behind = take (length rest - run.result) (drop run.result rest) in let p = c.in-Some in let n = c.units_for-count.result in
    let m = read_run c.args.encoding c.args.bytes.now rest c.loop-rest.lead c.leads.result c.loop-rest.count run.result c.loop-rest.invariant run.ensures.within run.ensures.ascii c.leads.ensures in
    let k = read_more c.args.encoding c.args.bytes.now behind c.leads.result (c.loop-rest.count + run.result) m p.after.now p.point n p.ensures.0 p.ensures.1 c.units_for-count.ensures in
    omega (arith, read_most _ _ _ _ (c.loop-rest.count + run.result + n) k, c.requires)

pub loop-rest-smaller : goal.loop-rest-smaller
loop-rest-smaller c = let run = c.ascii_run-run.result in let rest = c.loop-rest.rest.now in let behind = take (length rest - run) (drop run rest) in let p = c.in-Some in
    let less = shorter_by p.point behind p.after.now p.ensures.1 in let k : length p.after.now < length rest = omega (arith, less, no_longer run rest) in k

pub loop-rest-preserved : goal.loop-rest-preserved
loop-rest-preserved c = let run = c.ascii_run-run in let rest = c.loop-rest.rest.now in
    let behind = take (length rest - run.result) (drop run.result rest) in let p = c.in-Some in let n = c.units_for-count.result in
    let m = read_run c.args.encoding c.args.bytes.now rest c.loop-rest.lead c.leads.result c.loop-rest.count run.result c.loop-rest.invariant run.ensures.within run.ensures.ascii c.leads.ensures in
    subst (λ (b : Bool). HasRead c.args.encoding c.args.bytes.now p.after.now b (c.loop-rest.count + run.result + n)) (sym c.begins_pair-lead.ensures)
    (read_more c.args.encoding c.args.bytes.now behind c.leads.result (c.loop-rest.count + run.result) m p.after.now p.point n p.ensures.0 p.ensures.1 c.units_for-count.ensures)

pub returns-in-None : goal.returns-in-None
returns-in-None c = let run = c.ascii_run-run in let rest = c.loop-rest.rest.now in let behind = take (length rest - run.result) (drop run.result rest) in
    let m = read_run c.args.encoding c.args.bytes.now rest c.loop-rest.lead c.leads.result c.loop-rest.count run.result c.loop-rest.invariant run.ensures.within run.ensures.ascii c.leads.ensures in
    read_stops c.args.encoding c.args.bytes.now behind c.leads.result (c.loop-rest.count + run.result) m c.in-None.ensures
    (some_left behind c.is_empty-in-loop-rest.result c.is_empty-in-loop-rest.ensures c.if-is_empty.false) _ refl

pub returns : goal.returns
returns c = read_all c.args.encoding c.args.bytes.now c.loop-rest.rest.now c.loop-rest.lead c.loop-rest.count c.loop-rest.invariant
    (none_left c.loop-rest.rest.now c.is_empty.result c.is_empty.ensures c.loop-rest-test.false)
