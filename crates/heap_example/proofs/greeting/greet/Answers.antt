use Rattle.heap_read.proofs.Going.{continues_trans}
use Rattle.heap_example.proofs.greeting.greet.Goals as goal

pub returns-in_err-concat-clause-goes_on : goal.returns-in_err-concat-clause-goes_on
returns-in_err-concat-clause-goes_on c = record {
  belongs = c.concat.new.self.reader.belongs;
  continues = continues_trans _ _ _ c.make_flat.ensures.continues c.concat.ensures.continues;
}

pub returns-clause-goes_on : goal.returns-clause-goes_on
returns-clause-goes_on c = record {
  belongs = c.concat.new.self.reader.belongs;
  continues = continues_trans _ _ _ c.make_flat.ensures.continues c.concat.ensures.continues;
}
