use Rattle.std.proofs.Common.{rules, ◌≡◌, ◌+◌, ◌≤◌, ◌∙◌}
use Rattle.std.specs.Prelude.{slice_range}
use Rattle.js_store.specs.State.{text}
use Rattle.js_texts.proofs.Delimited.{kept_trans}
use Rattle.js_json.proofs.Fronts.{front_on}
use Rattle.js_json.proofs.printing.push_ascii.Goals as goal

pub loop-done-preserved : goal.loop-done-preserved
loop-done-preserved g c =
    let units = text (g.S.Strings.state c.args.store.now) (g.S.Strings.number c.args.s) in
    let line = c.loop-done.line.items in
    let more = c.push_front-ascii.new.line.items in
    let a = c.push_front-ascii.result in
    let n = c.min-count.result in
    let part : c.read.new.into ≡ slice_range units c.loop-done.done (c.loop-done.done + n) = search rules in
    let fits : a ≤ n = search rules in
    record {
      most = search rules;
      added = front_on units line more c.read.new.into c.loop-done.done n a part fits c.push_front-ascii.ensures.ascii c.push_front-ascii.ensures.added ∙ c.loop-done.invariant.added;
      kept = kept_trans c.args.line.now.items line more c.loop-done.invariant.kept c.push_front-ascii.ensures.kept;
      room = search rules;
      step = search rules;
      history = search rules;
    }

pub returns-then-ascii-count-clause-added : goal.returns-then-ascii-count-clause-added
returns-then-ascii-count-clause-added g c =
    let units = text (g.S.Strings.state c.args.store.now) (g.S.Strings.number c.args.s) in
    let line = c.loop-done.line.items in
    let more = c.push_front-ascii.new.line.items in
    let a = c.push_front-ascii.result in
    let n = c.min-count.result in
    let part : c.read.new.into ≡ slice_range units c.loop-done.done (c.loop-done.done + n) = search rules in
    let fits : a ≤ n = search rules in
    front_on units line more c.read.new.into c.loop-done.done n a part fits c.push_front-ascii.ensures.ascii c.push_front-ascii.ensures.added ∙ c.loop-done.invariant.added
