use Rattle.std.proofs.Common.{◌+◌, ◌-◌, ◌∙◌, ℕ, length, take, drop, arith, length-drop}
use Rattle.std.proofs.lemmas.List.{length-take}
use Rattle.heap_table.specs.Agents.{view_of}
use Rattle.heap_export.proofs.Whole.{read_whole}
use Rattle.heap_export.proofs.Windows.{window_len}
use Rattle.heap_build.proofs.Behind.{kept_front, read_behind}
use Rattle.heap_build.proofs.text.fill_window.Goals as goal

pub returns-clause-added : goal.returns-clause-added
returns-clause-added g c = λ us h. let old = c.args.units.now in let from = c.len-from.result in let all = c.as_mut_slice.result.now in
    let resized = c.in-Ok.ensures in let is = c.len-from.ensures in let long = window_len (view_of c.args.text.now.reader.agent) c.args.w us h in
    let part : ℕ = length (take (length all - from) (drop from all)) in
    read_behind (take from all) c.read_in.new.into _ _ old.items us c.resize.new.self.len
    (kept_front old.items _ all from (from + c.args.w.len) (c.as_mut_slice.ensures.value ∙ resized.items) (omega (arith, is, old.ok.0)) (is ∙ old.ok.0))
    (read_whole us c.read_in.new.into part (omega (arith, long, is, resized.len, c.as_mut_slice.ensures.len, length-take (length all - from) (drop from all), length-drop from all))
    (c.read_in.ensures.units us h))
    (omega (arith, resized.len, is, old.ok.0, long))
