use Rattle.std.proofs.Common.{◌≡◌, List, ℕ, false, true, length, refl}
use Rattle.heap_rule.specs.declared.view.View.{View}
use Rattle.heap_table.specs.Agents.{size_of}
use Rattle.heap_bytes.specs.Spellings.{spelling_units}
use Rattle.heap_read.proofs.Loaded.{reads_refl}
use Rattle.heap_text.proofs.Pieces.{copy_answer}
use Rattle.heap_reserve.proofs.Kept.{reserve_kept}
use Rattle.heap_reserve.proofs.Tried.{flat_form, flat_shows}
use Rattle.heap_reserve.proofs.reserve.Reserve.make_from.Goals as goal

pub returns-then-not-has_some-clause-reserve : goal.returns-then-not-has_some-clause-reserve
returns-then-not-has_some-clause-reserve g c = reserve_kept c.args.text.now.reader.agent.seat.me.0 c.make_from.new.self.reader.agent.seat.me.0 c.args.self.now c.make_from.ensures.own c.requires.reserve

pub returns-then-not-has_some-clause-made : goal.returns-then-not-has_some-clause-made
returns-then-not-has_some-clause-made g c = let v : View = c.args.text.now.reader.agent.seat.me.0 in let w : View = c.make_from.new.self.reader.agent.seat.me.0 in
    let us : List ℕ = spelling_units c.args.source.now in let e = c.make_from.ensures in record {
      taken = λ some. (let bad : false ≡ true = c.if-not-has_some.ensures.1 some in absurd (cc));
      claimed = λ _. (
        refl,
        e.own,
        copy_answer v v w (size_of (g.H.HeapRef.reached c.args.text.now.reader.heap)) c.make_from.result us us (length us) refl refl (reads_refl v) e.units e.form e.used e.refused e.spared,
      );
    }

pub returns-clause-units : goal.returns-clause-units
returns-clause-units g c = flat_shows c.args.text.now.reader.agent.seat.me.0 c.spell.new.reader.agent.seat.me.0 c.args.self.now c.spell.new.self
    (size_of (g.H.HeapRef.reached c.args.text.now.reader.heap)) (spelling_units c.args.source.now) c.spell.result c.spell.ensures.made

pub returns-clause-form : goal.returns-clause-form
returns-clause-form g c = flat_form c.args.text.now.reader.agent.seat.me.0 c.spell.new.reader.agent.seat.me.0 c.args.self.now c.spell.new.self
    (size_of (g.H.HeapRef.reached c.args.text.now.reader.heap)) (spelling_units c.args.source.now) c.spell.result c.spell.ensures.made
