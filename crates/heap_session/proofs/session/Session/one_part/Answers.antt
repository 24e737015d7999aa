use Rattle.std.proofs.Common.{◌≡◌, ◌∙◌, ◌≤◌, ℕ, List, [], ◌∷◌, length, ap, subst, sym}
use Rattle.std.specs.Prelude.{slice_index, unwrap_or}
use Rattle.std.specs.FinMap.{get}
use Rattle.js_store.proofs.Laws.{text_still}
use Rattle.heap_rule.specs.declared.view.View.{View}
use Rattle.heap_rule.specs.Maps.{Has}
use Rattle.heap_text.proofs.Owned.{own_reads, own_trans}
use Rattle.heap_session.proofs.OneUnit.{one_of_part}
use Rattle.heap_session.proofs.session.Session.one_part.Goals as goal

pub invariant_of-self-in-Ok : goal.invariant_of-self-in-Ok
invariant_of-self-in-Ok g c = let p = c.part_of.new.self in let x : View = c.unit_at-unit.new.self.text.reader.agent.seat.me.0 in let w : View = p.text.reader.agent.seat.me.0 in
    let i = c.args.s.id in let us : List ℕ = unwrap_or (get x.units i) [] in let ok = c.in-Ok.ensures.ok in
    let same = text_still c.unit_at-unit.ensures.uses.step.grows i c.requires.known in
    let within : c.args.to ≤ length us = subst (λ (xs : List ℕ). c.args.to ≤ length xs) (sym same) c.requires.within in
    let unit : slice_index us c.args.from ≡ c.unit_at-unit.result = ap (λ (xs : List ℕ). slice_index xs c.args.from) same ∙ sym c.unit_at-unit.ensures.value in
    let one = subst (λ (xs : List ℕ). Has w.units c.in-Ok.part.id xs) (one_of_part us c.args.from c.args.to c.requires.one within ∙ ap (λ (u : ℕ). u ∷ []) unit) ok.0 in record {
      one_limit = p.one_limit;
      last_kept = p.last_kept;
      older_kept = p.older_kept;
      singles_kept = c.keep.ensures w p.singles_kept (one, ok.1);
      recent_kept = p.recent_kept;
      keys_kept = p.keys_kept;
      hashes_noted = p.hashes_noted;
    }

pub returns-in-Ok-clause-own : goal.returns-in-Ok-clause-own
returns-in-Ok-clause-own g c = let v : View = c.args.self.now.text.reader.agent.seat.me.0 in
    let x : View = c.unit_at-unit.new.self.text.reader.agent.seat.me.0 in let w : View = c.part_of.new.self.text.reader.agent.seat.me.0 in
    own_trans v x w (own_reads v x c.unit_at-unit.ensures.reads) c.part_of.ensures.own
