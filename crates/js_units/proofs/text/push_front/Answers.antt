use Rattle.std.proofs.Common.{take, rules}
use Rattle.js_units.proofs.Ascii.{front_added, kept_front}
use Rattle.js_units.proofs.text.push_front.Goals as goal

pub returns-then-ascii-gt0-clause-added : goal.returns-then-ascii-gt0-clause-added
returns-then-ascii-gt0-clause-added c =
    let n = c.ascii_len-ascii.result in (
      front_added c.args.units.now c.args.out.now.items c.push_ascii.new.out.items n c.ascii_len-ascii.ensures.bound c.ascii_len-ascii.ensures.ascii (search rules),
      search rules,
      kept_front c.args.out.now.items c.push_ascii.new.out.items (take n c.args.units.now) (search rules),
    )
