use Rattle.std.proofs.Common.{◌≡◌, ◌∙◌, ℕ, ◌+◌, ◌-◌, ◌≤◌, List, drop, take, length, get_or-take, ap, arith}
use Rattle.std.proofs.lemmas.List.{length-take-le}
use Rattle.js_units.specs.Lanes.{hash_from, hash_of}
use Rattle.js_units.proofs.Hashing.{hash_end}
use Rattle.js_units.proofs.Shifted.{lanes_most}
use Rattle.heap_rule.specs.declared.view.View.{View}
use Rattle.heap_read.proofs.Comparison.{words_on}
use Rattle.heap_read.proofs.Loaded.{reads_trans}
use Rattle.heap_read.proofs.Showing.{window_length}
use Rattle.heap_read.proofs.WindowLemmas.{forms_trans, frozen_later, hash_word, unit_of_lane, window_later}
use Rattle.heap_read.proofs.reader.Reader.hash_in.Goals as goal

pub hold_in-held-requires-clause-frozen : goal.hold_in-held-requires-clause-frozen
hold_in-held-requires-clause-frozen g c = let v : View = c.args.self.now.agent.seat.me.0 in let u : View = c.loop-i.self.agent.seat.me.0 in let s = c.loop-i.invariant in
    frozen_later v u c.args.w c.requires.0 s.reads s.forms c.requires.1

pub loop-i-preserved : goal.loop-i-preserved
loop-i-preserved g c = let v : View = c.args.self.now.agent.seat.me.0 in let u : View = c.loop-i.self.agent.seat.me.0 in let x : View = c.hold_in-held.new.self.agent.seat.me.0 in
    let s = c.loop-i.invariant in let e = c.hold_in-held.ensures in let has = e.has in let held = c.hold_in-held.result in
    let within = e.held.within in let lanes = e.held.lanes in let i = c.loop-i.i in
    record {
      most = omega arith;
      small = c.hash_units-hash.type_inv;
      heap = e.reads.heap ∙ s.heap;
      reads = reads_trans v u x s.reads e.reads.view;
      forms = forms_trans v u x s.forms e.forms;
      hashed = λ us window. let h = e.holds us (window_later v u c.args.w us s.reads s.forms window) in
          let n : ℕ = held.count - (i - held.from) in let ls : List ℕ = c.lanes_from-lanes.result in let most = lanes_most held.wide in
          let hl = h.lanes in let hw = h.within in
          let room : n ≤ length ls = omega arith in let size : length (take n ls) ≡ n = length-take-le n ls room in
          let go : hash_from (hash_from c.loop-i.hash (take n ls)) (drop (i + n) us) ≡ hash_of us = hash_word c.loop-i.hash (hash_of us) i n us (take n ls) (omega arith) size
          (λ k l. get_or-take n ls k 0 l ∙ (c.lanes_from-lanes.ensures k (omega arith) ∙ unit_of_lane us held h i has.0 k l)) (s.hashed us window) in
          ap (λ (y : ℕ). hash_from y (drop (i + n) us)) c.hash_units-hash.ensures ∙ go;
      frozen = words_on u x c.args.w held i e.reads.view.known e.held has.0 has.1 s.frozen;
    }

pub returns-clause-hash : goal.returns-clause-hash
returns-clause-hash g c us window = let v : View = c.args.self.now.agent.seat.me.0 in let s = c.loop-i.invariant in let n = window_length v c.args.w us window in
    hash_end c.loop-i.hash (hash_of us) c.loop-i.i us (omega arith) (s.hashed us window)

pub returns-clause-frozen : goal.returns-clause-frozen
returns-clause-frozen g c = record { each = λ k l. c.loop-i.invariant.frozen k (omega arith) }
