use Rattle.heap_rule.proofs.Paths.{path_length, path_at, rank_inside, place_rank, rank_place}
use Rattle.heap_rule.proofs.Slots.{rank_one}
use Rattle.heap_rule.proofs.rule.every_path.Goals as goal

pub returns-clause-length : goal.returns-clause-length
returns-clause-length c = path_length

pub returns-clause-inside : goal.returns-clause-inside
returns-clause-inside c = rank_inside

pub returns-clause-place : goal.returns-clause-place
returns-clause-place c = path_at

pub returns-clause-once : goal.returns-clause-once
returns-clause-once c = rank_one

pub returns-clause-back : goal.returns-clause-back
returns-clause-back c = place_rank

pub returns-clause-forth : goal.returns-clause-forth
returns-clause-forth c = rank_place
