use Rattle.std.proofs.Common.{◌∙◌}
use Rattle.std.proofs.lemmas.Result.{IfOk-weaker}
use Rattle.run_sources.proofs.Rounds.{drawn_is, four_is}
use Rattle.run_sources.proofs.texts.drawn_line.Goals as goal

pub returns-clause-text : goal.returns-clause-text
returns-clause-text c =
    let is = drawn_is c.args.draws.now.state c.draw-kind.new.self.state c.draw-a.new.self.state c.draw-b.new.self.state c.draw-kind.result c.draw-a.result c.draw-b.result c.draw-c.result
    c.draw-kind.ensures.state c.draw-a.ensures.state c.draw-b.ensures.state c.draw-kind.ensures.value c.draw-a.ensures.value c.draw-b.ensures.value c.draw-c.ensures.value in
    IfOk-weaker c.line.result _ _ (λ text spelled. spelled ∙ is) c.line.ensures

pub returns-clause-state : goal.returns-clause-state
returns-clause-state c =
    four_is c.args.draws.now.state c.draw-kind.new.self.state c.draw-a.new.self.state c.draw-b.new.self.state c.draw-c.new.self.state
    c.draw-kind.ensures.state c.draw-a.ensures.state c.draw-b.ensures.state c.draw-c.ensures.state
