use Rattle.std.proofs.Common.{rules, arith, ◌≡◌, ◌++◌, ◌∷◌, []}
use Rattle.plain_store.proofs.Consistency.{grows_answer}
use Rattle.plain_store.proofs.PlainStoreStrings.intern.Goals as goal

pub returns-clause-step : goal.returns-clause-step
returns-clause-step c =
    let a = c.args.self.now in
    let e : c.push.new.self.items ≡ a.answers.items ++ c.in_ok-answer.answer ∷ [] = search rules in
    record {
      grows = grows_answer a.strings.items c.number_of.new.self.strings.items a.answers.items c.push.new.self.items c.in_ok-answer.answer
          a.limit c.number_of.new.self.limit c.in_ok-answer.ensures.strings e c.in_ok-answer.ensures.limit;
      honest = tt;
      within_ids = omega arith;
      within_words = omega arith;
    }
