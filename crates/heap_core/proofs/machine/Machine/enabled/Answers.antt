use Rattle.std.proofs.Common.{ℕ, List, sym, subst}
use Rattle.heap_core.specs.declared.event.Event.{Event}
use Rattle.heap_core.specs.declared.event.Event.TheVariants.{Split, Join, LoadCounter, Claim, StoreWord, StoreLength, Birth}
use Rattle.heap_core.specs.Core.{core_of}
use Rattle.heap_core.specs.Events.{Enabled, CanLoadHeader, CanLoadWord, CanFlatten, CanThinTo, CanLoadSlot, CanTakeSlot}
use Rattle.heap_core.proofs.StateLemmas.{Tells}
use Rattle.heap_core.proofs.EventParts.{to_event}
use Rattle.heap_core.proofs.machine.Machine.enabled.Goals as goal

pub returns-in-Split : goal.returns-in-Split
returns-in-Split c = subst (λ (e : Event). Tells c.may_split.result (Enabled (core_of c.args.self.now) e)) (sym c.in-Split.is)
    (to_event c.view-view.result c.learn-learn.result.now (λ (j : ℕ) (_ : List ℕ). Tells c.may_split.result
    (Enabled (core_of c.args.self.now) (Split j c.in-Split.give))) c.in-Split.is c.view-view.ensures c.learn-learn.ensures c.may_split.ensures)

pub returns-in-Join : goal.returns-in-Join
returns-in-Join c = subst (λ (e : Event). Tells c.may_join.result (Enabled (core_of c.args.self.now) e)) (sym c.in-Join.is)
    (to_event c.view-view.result c.learn-learn.result.now (λ (j : ℕ) (_ : List ℕ). Tells c.may_join.result
    (Enabled (core_of c.args.self.now) (Join j c.in-Join.other))) c.in-Join.is c.view-view.ensures c.learn-learn.ensures c.may_join.ensures)

pub returns-in-LoadCounter : goal.returns-in-LoadCounter
returns-in-LoadCounter c = subst (λ (e : Event). Tells c.may_load_counter.result (Enabled (core_of c.args.self.now) e)) (sym c.in-LoadCounter.is)
    (to_event c.view-view.result c.learn-learn.result.now (λ (j : ℕ) (_ : List ℕ). Tells c.may_load_counter.result
    (Enabled (core_of c.args.self.now) (LoadCounter j c.in-LoadCounter.counter))) c.in-LoadCounter.is c.view-view.ensures
    c.learn-learn.ensures c.may_load_counter.ensures)

pub returns-in-Claim : goal.returns-in-Claim
returns-in-Claim c = subst (λ (e : Event). Tells c.may_claim.result (Enabled (core_of c.args.self.now) e)) (sym c.in-Claim.is)
    (to_event c.view-view.result c.learn-learn.result.now (λ (j : ℕ) (_ : List ℕ). Tells c.may_claim.result
    (Enabled (core_of c.args.self.now) (Claim j c.in-Claim.counter c.in-Claim.at c.in-Claim.want))) c.in-Claim.is c.view-view.ensures
    c.learn-learn.ensures c.may_claim.ensures)

pub returns-in-StoreWord : goal.returns-in-StoreWord
returns-in-StoreWord c = subst (λ (e : Event). Tells c.may_store_word.result (Enabled (core_of c.args.self.now) e)) (sym c.in-StoreWord.is)
    (to_event c.view-view.result c.learn-learn.result.now (λ (j : ℕ) (_ : List ℕ). Tells c.may_store_word.result
    (Enabled (core_of c.args.self.now) (StoreWord j c.in-StoreWord.at c.in-StoreWord.word))) c.in-StoreWord.is c.view-view.ensures
    c.learn-learn.ensures c.may_store_word.ensures)

pub returns-in-StoreLength : goal.returns-in-StoreLength
returns-in-StoreLength c = subst (λ (e : Event). Tells c.may_store_length.result (Enabled (core_of c.args.self.now) e)) (sym c.in-StoreLength.is)
    (to_event c.view-view.result c.learn-learn.result.now (λ (j : ℕ) (_ : List ℕ). Tells c.may_store_length.result
    (Enabled (core_of c.args.self.now) (StoreLength j c.in-StoreLength.id c.in-StoreLength.length))) c.in-StoreLength.is c.view-view.ensures
    c.learn-learn.ensures c.may_store_length.ensures)

pub returns-in-Birth : goal.returns-in-Birth
returns-in-Birth c = subst (λ (e : Event). Tells c.may_bear.result (Enabled (core_of c.args.self.now) e)) (sym c.in-Birth.is)
    (to_event c.view-view.result c.learn-learn.result.now (λ (j : ℕ) (_ : List ℕ). Tells c.may_bear.result
    (Enabled (core_of c.args.self.now) (Birth j c.in-Birth.id c.in-Birth.form))) c.in-Birth.is c.view-view.ensures c.learn-learn.ensures c.may_bear.ensures)

pub returns-in-LoadHeader : goal.returns-in-LoadHeader
returns-in-LoadHeader c = subst (λ (e : Event). Tells c.may_load_header.result (Enabled (core_of c.args.self.now) e)) (sym c.in-LoadHeader.is)
    (to_event c.view-view.result c.learn-learn.result.now (λ (j : ℕ) (ns : List ℕ). Tells c.may_load_header.result
    (CanLoadHeader (core_of c.args.self.now) j c.in-LoadHeader.id c.in-LoadHeader.length ns)) c.in-LoadHeader.is c.view-view.ensures
    c.learn-learn.ensures c.may_load_header.ensures)

pub returns-in-LoadWord : goal.returns-in-LoadWord
returns-in-LoadWord c = subst (λ (e : Event). Tells c.may_load_word.result (Enabled (core_of c.args.self.now) e)) (sym c.in-LoadWord.is)
    (to_event c.view-view.result c.learn-learn.result.now (λ (j : ℕ) (ns : List ℕ). Tells c.may_load_word.result
    (CanLoadWord (core_of c.args.self.now) j c.in-LoadWord.at ns)) c.in-LoadWord.is c.view-view.ensures c.learn-learn.ensures c.may_load_word.ensures)

pub returns-in-Flatten : goal.returns-in-Flatten
returns-in-Flatten c = subst (λ (e : Event). Tells c.may_flatten.result (Enabled (core_of c.args.self.now) e)) (sym c.in-Flatten.is)
    (to_event c.view-view.result c.learn-learn.result.now (λ (j : ℕ) (ns : List ℕ). Tells c.may_flatten.result
    (CanFlatten (core_of c.args.self.now) j c.in-Flatten.id c.in-Flatten.old c.in-Flatten.new ns)) c.in-Flatten.is c.view-view.ensures
    c.learn-learn.ensures c.may_flatten.ensures)

pub returns-in-Thin : goal.returns-in-Thin
returns-in-Thin c = subst (λ (e : Event). Tells c.may_thin.result (Enabled (core_of c.args.self.now) e)) (sym c.in-Thin.is)
    (to_event c.view-view.result c.learn-learn.result.now (λ (j : ℕ) (ns : List ℕ). Tells c.may_thin.result
    (CanThinTo (core_of c.args.self.now) j c.in-Thin.id c.in-Thin.old c.in-Thin.target ns)) c.in-Thin.is c.view-view.ensures
    c.learn-learn.ensures c.may_thin.ensures)

pub returns-in-LoadSlot : goal.returns-in-LoadSlot
returns-in-LoadSlot c = subst (λ (e : Event). Tells c.may_load_slot.result (Enabled (core_of c.args.self.now) e)) (sym c.in-LoadSlot.is)
    (to_event c.view-view.result c.learn-learn.result.now (λ (j : ℕ) (ns : List ℕ). Tells c.may_load_slot.result
    (CanLoadSlot (core_of c.args.self.now) j c.in-LoadSlot.slot c.in-LoadSlot.entry ns)) c.in-LoadSlot.is c.view-view.ensures
    c.learn-learn.ensures c.may_load_slot.ensures)

pub returns-in-TakeSlot : goal.returns-in-TakeSlot
returns-in-TakeSlot c = subst (λ (e : Event). Tells c.may_take_slot.result (Enabled (core_of c.args.self.now) e)) (sym c.in-TakeSlot.is)
    (to_event c.view-view.result c.learn-learn.result.now (λ (j : ℕ) (ns : List ℕ). Tells c.may_take_slot.result
    (CanTakeSlot (core_of c.args.self.now) j c.in-TakeSlot.slot c.in-TakeSlot.id ns)) c.in-TakeSlot.is c.view-view.ensures
    c.learn-learn.ensures c.may_take_slot.ensures)
