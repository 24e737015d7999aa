use Rattle.std.proofs.Common.{◌<◌, ◌∙◌, ap, length, sym, take}
use Rattle.js_units.specs.Lanes.{hash_from, hash_of}
use Rattle.heap_bytes.specs.Spellings.{spelling_units}
use Rattle.heap_bytes.proofs.Pieces.{fewer_left, hash_piece}
use Rattle.heap_bytes.proofs.spelling.Spelling.hash.Goals as goal

pub loop-count-smaller : goal.loop-count-smaller
loop-count-smaller c = let p = c.in-Some.ensures in
    let k : length (spelling_units c.in-Some.after) < length (spelling_units c.loop-count.rest) = fewer_left c.split_front.new.room
    (spelling_units c.loop-count.rest) (spelling_units c.in-Some.after) c.in-Some.count p.some p.most p.split in k

pub loop-count-preserved : goal.loop-count-preserved
loop-count-preserved c = let p = c.in-Some.ensures in let i = c.loop-count.invariant in record {
  long = c.split_front.auto.room ∙ i.long;
  small = c.hash_units-hash.type_inv;
  read = p.read;
  hashed = hash_piece c.loop-count.hash c.hash_units-hash.result (hash_of (spelling_units c.args.self.now))
      (take c.in-Some.count c.split_front.new.room) (spelling_units c.loop-count.rest) (spelling_units c.in-Some.after) p.split c.hash_units-hash.ensures i.hashed;
}

pub returns : goal.returns
returns c = sym (ap (hash_from c.loop-count.hash) c.in_default.ensures) ∙ c.loop-count.invariant.hashed
