use Rattle.std.proofs.Common.{◌∙◌, ap, sym}
use Rattle.std.specs.FinMap as map
use Rattle.parse_tokens.proofs.Entries.{get_seen}
use Rattle.parse_tokens.proofs.numbers.Numbers.get.Goals as goal

pub returns : goal.returns
returns c = c.copied.ensures ∙ (c.get.ensures.value ∙ (sym (get_seen (λ v. v.items) c.self.inside.entries.entries c.args.letters.now) ∙ ap (λ m. map.get m c.args.letters.now) c.self.view_is))
