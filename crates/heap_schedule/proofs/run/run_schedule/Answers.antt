use Rattle.std.proofs.Common.{rules, ◌≡◌, None, Some, map, refl}
use Rattle.std.specs.String.{string_bytes}
use Rattle.heap_schedule.specs.Outcome.{file_in, HasNoReadFault}
use Rattle.heap_schedule.proofs.Told.{words_bad, words_good}
use Rattle.heap_schedule.proofs.run.run_schedule.Goals as goal

pub returns-in-Some : goal.returns-in-Some
returns-in-Some g c =
    let is : file_in (map string_bytes c.args.words.now) ≡ Some c.in-Some.name.now = search rules in
    record { outcome = words_good _ _ _ _ _ _ c.in-Some.name.now is c.run_file.ensures }

pub returns-in-None : goal.returns-in-None
returns-in-None g c =
    let none : file_in (map string_bytes c.args.words.now) ≡ None = search rules in
    let quiet : HasNoReadFault (g.F.Files.state c.args.files.now) (g.F.Files.state c.args.files.now) = search rules in
    record { outcome = words_bad _ _ _ _ _ _ none quiet (c.tell_refusal.ensures (g.O.Sink.state c.args.out.now)) }
