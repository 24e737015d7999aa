use Rattle.std.proofs.Common.{◌∙◌, ◌<◌, ℕ, inl, subst}
use Rattle.heap_rule.specs.declared.view.View.{View}
use Rattle.heap_rule.specs.declared.size.HeapSize.{HeapSize}
use Rattle.heap_rule.proofs.MapLemmas.{has_key}
use Rattle.heap_rule.proofs.Possible.{possible_inside}
use Rattle.heap_read.proofs.Loaded.{reads_trans}
use Rattle.heap_intern.proofs.Adopting.{behind_from, called_slot, fixed_shows}
use Rattle.heap_intern.proofs.Going.{looks_reads, looks_trans}
use Rattle.heap_intern.proofs.table.adopting.slot_of.Goals as goal

pub fixed_window-window-requires-clause-met : goal.fixed_window-window-requires-clause-met
fixed_window-window-requires-clause-met g c = inl c.requires.known

pub fixed_window-window-requires-clause-fixed : goal.fixed_window-window-requires-clause-fixed
fixed_window-window-requires-clause-fixed g c = inl (called_slot c.args.reader.now.agent.seat.me.0 c.args.reader.now.belongs.5 c.requires.call.0 c.args.id c.requires.call.1)

pub hash_in-hash-requires : goal.hash_in-hash-requires
hash_in-hash-requires g c = let v : View = c.args.reader.now.agent.seat.me.0 in
    let u : View = c.fixed_window-window.new.self.agent.seat.me.0 in let e = c.fixed_window-window.ensures in
    let us = has_key v.units c.args.id c.requires.known in
    (us.0, fixed_shows u c.fixed_window-window.new.self.belongs.5 c.args.id c.fixed_window-window.result us.0 e.fixed (e.reads.view.known.units c.args.id us.0 us.1))

pub walk_to-requires-clause-stands : goal.walk_to-requires-clause-stands
walk_to-requires-clause-stands g c = let v : View = c.args.reader.now.agent.seat.me.0 in let t = called_slot v c.args.reader.now.belongs.5 c.requires.call.0 c.args.id c.requires.call.1 in
    (t.0, c.hash_in-hash.ensures.reads.view.known.slots t.0 c.args.id (c.fixed_window-window.ensures.reads.view.known.slots t.0 c.args.id t.1))

pub walk_to-requires-clause-hash : goal.walk_to-requires-clause-hash
walk_to-requires-clause-hash g c = let v : View = c.args.reader.now.agent.seat.me.0 in
    let u : View = c.fixed_window-window.new.self.agent.seat.me.0 in let e = c.fixed_window-window.ensures in
    let us = has_key v.units c.args.id c.requires.known in
    let here = e.reads.view.known.units c.args.id us.0 us.1 in (
      us.0,
      c.hash_in-hash.ensures.reads.view.known.units c.args.id us.0 here,
      c.hash_in-hash.ensures.hash us.0
          (fixed_shows u c.fixed_window-window.new.self.belongs.5 c.args.id c.fixed_window-window.result us.0 e.fixed here),
    )

pub returns-clause-looks : goal.returns-clause-looks
returns-clause-looks g c = let v : View = c.args.reader.now.agent.seat.me.0 in
    let u : View = c.fixed_window-window.new.self.agent.seat.me.0 in let x : View = c.hash_in-hash.new.self.agent.seat.me.0 in
    let w : View = c.walk_to.new.reader.agent.seat.me.0 in
    looks_trans v x w (looks_reads v x (reads_trans v u x c.fixed_window-window.ensures.reads.view c.hash_in-hash.ensures.reads.view)) c.walk_to.ensures.looks

pub returns-clause-inside : goal.returns-clause-inside
returns-clause-inside g c = let w : View = c.walk_to.new.reader.agent.seat.me.0 in let a = c.fixed_window-window.ensures.reads.view.sizes in let b = c.hash_in-hash.ensures.reads.view.sizes in
    let k : ℕ = c.walk_to.result in let inside = possible_inside w c.walk_to.new.reader.belongs.5 k c.args.id c.walk_to.ensures.stands in
    subst (λ (z : HeapSize). k < z.slots) (c.walk_to.ensures.looks.goes.sizes ∙ (b ∙ (a ∙ c.args.reader.now.belongs.1))) inside

pub returns-clause-few : goal.returns-clause-few
returns-clause-few g c us h = let v : View = c.args.reader.now.agent.seat.me.0 in let x : View = c.hash_in-hash.new.self.agent.seat.me.0 in let w : View = c.walk_to.new.reader.agent.seat.me.0 in
    let a = c.fixed_window-window.ensures.reads.view in let b = c.hash_in-hash.ensures.reads.view in
    behind_from v x w us c.walk_to.result (b.slot_loads ∙ a.slot_loads) (b.sizes ∙ a.sizes) (c.walk_to.ensures.few us (b.known.units c.args.id us (a.known.units c.args.id us h)))
