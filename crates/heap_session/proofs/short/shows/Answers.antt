use Rattle.std.proofs.Common.{◌≡◌, length, arith}
use Rattle.heap_session.proofs.MadeLately.{read_whole, same_by}
use Rattle.heap_session.proofs.short.shows.Goals as goal

pub returns-clause-shows : goal.returns-clause-shows
returns-clause-shows g c us window long = let e = c.requires.long in let room = c.requires.room in let count : length c.args.read.now ≡ length us = omega arith in
    same_by c.is_same.result us c.read_in.new.into c.args.units.now (read_whole us c.read_in.new.into (length c.args.read.now) count (c.read_in.ensures.units us window)) c.is_same.ensures
