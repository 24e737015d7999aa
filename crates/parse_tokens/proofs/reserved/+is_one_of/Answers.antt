use Rattle.std.proofs.Common.{refl}
use Rattle.parse_tokens.proofs.ByLength.{none_left, is_first, is_behind}
use Rattle.parse_tokens.proofs.reserved.+is_one_of.Goals as goal

pub returns-then-words-letters : goal.returns-then-words-letters
returns-then-words-letters t c = λ ws. none_left c.args.letters.now c.args.words.now ws c.if-words-letters.true

pub returns-then-eq : goal.returns-then-eq
returns-then-eq t c = λ ws. is_first c.args.letters.now c.args.words.now c.split_at.result.0.now c.eq.result c.if-words-letters.false c.split_at.ensures.front c.eq.ensures c.if-eq.true ws

pub returns-else-eq : goal.returns-else-eq
returns-else-eq t c = λ ws. is_behind c.args.letters.now c.args.words.now c.split_at.result.0.now c.split_at.result.1.now _ c.eq.result
    c.is_one_of.result c.if-words-letters.false c.split_at.ensures.front c.split_at.ensures.back refl c.eq.ensures c.if-eq.false c.is_one_of.ensures ws
