use Rattle.std.proofs.Common.{◌∙◌, ap}
use Rattle.std.specs.FinMap as map
use Rattle.parse_tokens.specs.Seen.{seen}
use Rattle.parse_tokens.proofs.Entries.{insert_seen}
use Rattle.parse_tokens.proofs.numbers.Numbers.insert.Goals.{in-Ok, in-Err}
use Rattle.parse_tokens.proofs.numbers.Numbers.insert.Goals as goal

pub returns : goal.returns
returns c = elim c.match-insert.branch [
  | in-Ok w ↦ rw w.result-is (insert_seen (λ v. v.items) c.self.inside.entries.entries c.insert.new.self.entries c.in_ok-key.key c.args.number w.in-Ok.ensures.entries
      ∙ (ap (λ u. map.insert (seen (λ v. v.items) c.self.inside.entries.entries) u c.args.number) c.in_ok-key.ensures.items ∙ ap (λ m. map.insert m c.args.letters.now c.args.number) c.self.view_is))
  | in-Err w ↦ rw w.result-is tt
]
