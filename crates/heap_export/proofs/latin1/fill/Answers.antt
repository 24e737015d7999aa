use Rattle.std.proofs.Common.{◌+◌, ◌<◌, ◌≤◌, ap, sym, ◌∙◌, ◌++◌, ℕ, List, drop, length, take, arith}
use Rattle.std.proofs.lemmas.List.{append-nil, drop_all, take_all}
use Rattle.std.proofs.lemmas.Simd.{chunk-drop}
use Rattle.heap_table.specs.Agents.{view_of}
use Rattle.heap_export.proofs.Filling.{part_size, run_put}
use Rattle.heap_export.proofs.UnitByUnit.{all_narrow}
use Rattle.heap_export.proofs.Windows.{loads_on, still_shown, window_len, window_there}
use Rattle.heap_export.proofs.latin1.fill.Goals as goal

pub read_block-requires-clause-window : goal.read_block-requires-clause-window
read_block-requires-clause-window g c = window_there (view_of c.args.text.now.reader.agent) (view_of c.loop-i.text.reader.agent)
    c.args.w (c.requires.narrow.0, c.requires.narrow.1) c.loop-i.invariant.loads

pub put_small-requires-clause-small : goal.put_small-requires-clause-small
put_small-requires-clause-small g c k low = let v = view_of c.args.text.now.reader.agent in let u = view_of c.loop-i.text.reader.agent in
    let us = c.requires.narrow.0 in let shown = c.requires.narrow.1 in let i = c.loop-i.i in let n = c.read_block.result in
    let len = window_len v c.args.w us shown in let t = c.loop-i-test.true in let room = c.requires.room in let o = c.loop-i.auto.out in
    let count = c.read_block.ensures.count in let r : i + n ≤ length c.loop-i.out = omega arith in
    let m : k < n = omega (arith, low, part_size i n c.loop-i.out r) in let in_us : i + k < length us = omega arith in
    let same = c.read_block.ensures.units us (still_shown v u c.args.w us c.loop-i.invariant.loads shown) k m in
    omega (arith, same, all_narrow 0 us (i + k) c.requires.narrow.2 in_us)

pub loop-i-preserved : goal.loop-i-preserved
loop-i-preserved g c = let v = view_of c.args.text.now.reader.agent in let u = view_of c.loop-i.text.reader.agent in let inv = c.loop-i.invariant in
    let i = c.loop-i.i in let n = c.read_block.result in let out = c.loop-i.out in let read = c.read_block.ensures in let count = read.count in
    let t = c.loop-i-test.true in let room = c.requires.room in let o = c.loop-i.auto.out in let r : i + n ≤ length out = omega arith in record {
      kept = record { heap = read.kept.heap ∙ inv.kept.heap; limit = read.kept.limit ∙ inv.kept.limit };
      loads = loads_on v u (view_of c.read_block.new.text.reader.agent) inv.loads read.loads;
      within = omega arith;
      bytes = λ us h. let len = window_len v c.args.w us h in let l : i + n ≤ length us = omega arith in
          run_put i n out c.put_small.new.out c.read_block.new.block r c.put_small.auto.out c.put_small.ensures us i l (read.units us (still_shown v u c.args.w us inv.loads h))
          (drop (i + n) us) us (ap (λ (xs : List ℕ). take i out ++ xs) (sym (chunk-drop i n us)) ∙ inv.bytes us h);
    }

pub returns-clause-bytes : goal.returns-clause-bytes
returns-clause-bytes g c us h = let n = window_len (view_of c.args.text.now.reader.agent) c.args.w us h in let t = c.loop-i-test.false in let r = c.requires.room in let o = c.loop-i.auto.out in
    let left : length us ≤ c.loop-i.i = omega arith in let right : length c.loop-i.out ≤ c.loop-i.i = omega arith in
    sym (take_all c.loop-i.i c.loop-i.out right) ∙ (sym (append-nil (take c.loop-i.i c.loop-i.out))
    ∙ (ap (λ (xs : List ℕ). take c.loop-i.i c.loop-i.out ++ xs) (sym (drop_all c.loop-i.i us left)) ∙ c.loop-i.invariant.bytes us h))
