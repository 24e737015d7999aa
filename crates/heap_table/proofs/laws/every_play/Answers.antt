use Rattle.std.proofs.Common.{refl, sym, ◌∙◌}
use Rattle.heap_rule.specs.declared.size.Counter.TheVariants.{Ids}
use Rattle.heap_rule.proofs.InTurn.{claims_in_turn}
use Rattle.heap_table.proofs.laws.every_play.Goals as goal

pub returns-clause-counter : goal.returns-clause-counter
returns-clause-counter c k slots me me' x h = (h.1 k refl).0

pub returns-clause-claim : goal.returns-clause-claim
returns-clause-claim c k at want slots me me' x h = (h.1 k want refl refl).0

pub returns-clause-claim_ids : goal.returns-clause-claim_ids
returns-clause-claim_ids c slots at want me me' x may h = let t = claims_in_turn me.0 at want x may in (t.0, (h.1 Ids want refl refl).0 ∙ sym t.2)

pub returns-clause-word : goal.returns-clause-word
returns-clause-word c p n slots me me' x h = h.1 p refl

pub returns-clause-length : goal.returns-clause-length
returns-clause-length c i n slots me me' x h = h.1 i refl

pub returns-clause-birth : goal.returns-clause-birth
returns-clause-birth c i f range slots me me' x h = h.2 i f refl refl range

pub returns-clause-load_form : goal.returns-clause-load_form
returns-clause-load_form c i slots me me' x h = (h.3 i refl).0

pub returns-clause-load_length : goal.returns-clause-load_length
returns-clause-load_length c i slots me me' x h = h.4 i refl

pub returns-clause-load_word : goal.returns-clause-load_word
returns-clause-load_word c p slots me me' x h = (h.3 p refl).0

pub returns-clause-flatten : goal.returns-clause-flatten
returns-clause-flatten c i old new range range' slots me me' x h = (h.2 i old new refl refl refl range range').0

pub returns-clause-thin : goal.returns-clause-thin
returns-clause-thin c i t old range small slots me me' x h = (h.2 i t old refl refl refl range small).0

pub returns-clause-load_slot : goal.returns-clause-load_slot
returns-clause-load_slot c k slots me me' x h = (h.3 k refl).0

pub returns-clause-enter_slot : goal.returns-clause-enter_slot
returns-clause-enter_slot c k slots me me' x h = (h.3 k refl).0

pub returns-clause-take_slot : goal.returns-clause-take_slot
returns-clause-take_slot c k i slots me me' x h = (h.3 k i refl refl).0
