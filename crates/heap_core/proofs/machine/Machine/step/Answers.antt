use Rattle.std.proofs.Common.{ℕ, List, Ok, get_or, sym, subst}
use Rattle.heap_rule.specs.Layout.{content_at, form_at, slot_at}
use Rattle.heap_core.specs.declared.event.Event.{Event}
use Rattle.heap_core.specs.declared.event.Event.TheVariants.{Split, Join, LoadCounter, Claim, StoreWord, StoreLength, Birth}
use Rattle.heap_core.specs.Core.{core_of}
use Rattle.heap_core.specs.Events.{Enabled, Made, Became, header_at, CanLoadHeader, CanLoadWord, CanFlatten, CanThinTo, CanLoadSlot, CanTakeSlot}
use Rattle.heap_core.specs.Events.{after_load_header, after_load_word, after_flatten, after_thin, after_load_slot, after_take_slot}
use Rattle.heap_core.proofs.EventParts.{to_event, from_event}
use Rattle.heap_core.proofs.machine.Machine.step.Goals as goal

pub make-requires : goal.make-requires
make-requires c = subst (Enabled (core_of c.args.self.now)) c.in-Make.is c.requires.can

pub split-requires-clause-can : goal.split-requires-clause-can
split-requires-clause-can c = from_event c.view-view.result c.learn-learn.result.now
    (λ (j : ℕ) (_ : List ℕ). Enabled (core_of c.args.self.now) (Split j c.in-Split.give)) c.in-Split.is c.view-view.ensures
    c.learn-learn.ensures (subst (Enabled (core_of c.args.self.now)) c.in-Split.is c.requires.can)

pub returns-in-Split : goal.returns-in-Split
returns-in-Split c = subst (λ (e : Event). Made (core_of c.args.self.now) e (core_of c.split.new.self) c.split.result) (sym c.in-Split.is)
    (to_event c.view-view.result c.learn-learn.result.now (λ (j : ℕ) (_ : List ℕ). Made (core_of c.args.self.now) (Split j c.in-Split.give)
    (core_of c.split.new.self) c.split.result) c.in-Split.is c.view-view.ensures c.learn-learn.ensures c.split.ensures)

pub join-requires-clause-can : goal.join-requires-clause-can
join-requires-clause-can c = from_event c.view-view.result c.learn-learn.result.now
    (λ (j : ℕ) (_ : List ℕ). Enabled (core_of c.args.self.now) (Join j c.in-Join.other)) c.in-Join.is c.view-view.ensures
    c.learn-learn.ensures (subst (Enabled (core_of c.args.self.now)) c.in-Join.is c.requires.can)

pub returns-in-Join : goal.returns-in-Join
returns-in-Join c = subst (λ (e : Event). Made (core_of c.args.self.now) e (core_of c.join.new.self) c.join.result) (sym c.in-Join.is)
    (to_event c.view-view.result c.learn-learn.result.now (λ (j : ℕ) (_ : List ℕ). Made (core_of c.args.self.now) (Join j c.in-Join.other)
    (core_of c.join.new.self) c.join.result) c.in-Join.is c.view-view.ensures c.learn-learn.ensures c.join.ensures)

pub load_counter-requires-clause-can : goal.load_counter-requires-clause-can
load_counter-requires-clause-can c = from_event c.view-view.result c.learn-learn.result.now
    (λ (j : ℕ) (_ : List ℕ). Enabled (core_of c.args.self.now) (LoadCounter j c.in-LoadCounter.counter)) c.in-LoadCounter.is
    c.view-view.ensures c.learn-learn.ensures (subst (Enabled (core_of c.args.self.now)) c.in-LoadCounter.is c.requires.can)

pub returns-in-LoadCounter : goal.returns-in-LoadCounter
returns-in-LoadCounter c = subst (λ (e : Event). Made (core_of c.args.self.now) e (core_of c.load_counter.new.self) (Ok c.load_counter.result)) (sym c.in-LoadCounter.is)
    (to_event c.view-view.result c.learn-learn.result.now (λ (j : ℕ) (_ : List ℕ). Made (core_of c.args.self.now)
    (LoadCounter j c.in-LoadCounter.counter) (core_of c.load_counter.new.self) (Ok c.load_counter.result)) c.in-LoadCounter.is
    c.view-view.ensures c.learn-learn.ensures (c.load_counter.ensures.after, c.load_counter.ensures.found))

pub claim-requires-clause-can : goal.claim-requires-clause-can
claim-requires-clause-can c = from_event c.view-view.result c.learn-learn.result.now
    (λ (j : ℕ) (_ : List ℕ). Enabled (core_of c.args.self.now) (Claim j c.in-Claim.counter c.in-Claim.at c.in-Claim.want)) c.in-Claim.is
    c.view-view.ensures c.learn-learn.ensures (subst (Enabled (core_of c.args.self.now)) c.in-Claim.is c.requires.can)

pub returns-in-Claim : goal.returns-in-Claim
returns-in-Claim c = subst (λ (e : Event). Made (core_of c.args.self.now) e (core_of c.claim.new.self) c.claim.result) (sym c.in-Claim.is)
    (to_event c.view-view.result c.learn-learn.result.now (λ (j : ℕ) (_ : List ℕ). Made (core_of c.args.self.now)
    (Claim j c.in-Claim.counter c.in-Claim.at c.in-Claim.want) (core_of c.claim.new.self) c.claim.result) c.in-Claim.is c.view-view.ensures
    c.learn-learn.ensures c.claim.ensures)

pub store_word-requires-clause-can : goal.store_word-requires-clause-can
store_word-requires-clause-can c = from_event c.view-view.result c.learn-learn.result.now
    (λ (j : ℕ) (_ : List ℕ). Enabled (core_of c.args.self.now) (StoreWord j c.in-StoreWord.at c.in-StoreWord.word)) c.in-StoreWord.is
    c.view-view.ensures c.learn-learn.ensures (subst (Enabled (core_of c.args.self.now)) c.in-StoreWord.is c.requires.can)

pub returns-in-StoreWord : goal.returns-in-StoreWord
returns-in-StoreWord c = subst (λ (e : Event). Made (core_of c.args.self.now) e (core_of c.store_word.new.self) c.store_word.result) (sym c.in-StoreWord.is)
    (to_event c.view-view.result c.learn-learn.result.now (λ (j : ℕ) (_ : List ℕ). Made (core_of c.args.self.now)
    (StoreWord j c.in-StoreWord.at c.in-StoreWord.word) (core_of c.store_word.new.self) c.store_word.result) c.in-StoreWord.is
    c.view-view.ensures c.learn-learn.ensures c.store_word.ensures)

pub store_length-requires-clause-can : goal.store_length-requires-clause-can
store_length-requires-clause-can c = from_event c.view-view.result c.learn-learn.result.now
    (λ (j : ℕ) (_ : List ℕ). Enabled (core_of c.args.self.now) (StoreLength j c.in-StoreLength.id c.in-StoreLength.length))
    c.in-StoreLength.is c.view-view.ensures c.learn-learn.ensures (subst (Enabled (core_of c.args.self.now)) c.in-StoreLength.is c.requires.can)

pub returns-in-StoreLength : goal.returns-in-StoreLength
returns-in-StoreLength c = subst (λ (e : Event). Made (core_of c.args.self.now) e (core_of c.store_length.new.self) c.store_length.result) (sym c.in-StoreLength.is)
    (to_event c.view-view.result c.learn-learn.result.now (λ (j : ℕ) (_ : List ℕ). Made (core_of c.args.self.now)
    (StoreLength j c.in-StoreLength.id c.in-StoreLength.length) (core_of c.store_length.new.self) c.store_length.result) c.in-StoreLength.is
    c.view-view.ensures c.learn-learn.ensures c.store_length.ensures)

pub birth-requires-clause-can : goal.birth-requires-clause-can
birth-requires-clause-can c = from_event c.view-view.result c.learn-learn.result.now
    (λ (j : ℕ) (_ : List ℕ). Enabled (core_of c.args.self.now) (Birth j c.in-Birth.id c.in-Birth.form)) c.in-Birth.is c.view-view.ensures
    c.learn-learn.ensures (subst (Enabled (core_of c.args.self.now)) c.in-Birth.is c.requires.can)

pub returns-in-Birth : goal.returns-in-Birth
returns-in-Birth c = subst (λ (e : Event). Made (core_of c.args.self.now) e (core_of c.birth.new.self) c.birth.result) (sym c.in-Birth.is)
    (to_event c.view-view.result c.learn-learn.result.now (λ (j : ℕ) (_ : List ℕ). Made (core_of c.args.self.now)
    (Birth j c.in-Birth.id c.in-Birth.form) (core_of c.birth.new.self) c.birth.result) c.in-Birth.is c.view-view.ensures c.learn-learn.ensures c.birth.ensures)

pub load_header-requires-clause-can : goal.load_header-requires-clause-can
load_header-requires-clause-can c = from_event c.view-view.result c.learn-learn.result.now
    (λ (j : ℕ) (ns : List ℕ). CanLoadHeader (core_of c.args.self.now) j c.in-LoadHeader.id c.in-LoadHeader.length ns) c.in-LoadHeader.is
    c.view-view.ensures c.learn-learn.ensures (subst (Enabled (core_of c.args.self.now)) c.in-LoadHeader.is c.requires.can)

pub returns-in-LoadHeader : goal.returns-in-LoadHeader
returns-in-LoadHeader c = subst (λ (e : Event). Made (core_of c.args.self.now) e (core_of c.load_header.new.self) c.load_header.result) (sym c.in-LoadHeader.is)
    (to_event c.view-view.result c.learn-learn.result.now (λ (j : ℕ) (ns : List ℕ). Became (core_of c.args.self.now)
    (after_load_header (core_of c.args.self.now) j c.in-LoadHeader.id c.in-LoadHeader.length ns)
    (get_or c.args.self.now.words.items (header_at c.args.self.now.size c.in-LoadHeader.id c.in-LoadHeader.length) 0)
    (core_of c.load_header.new.self) c.load_header.result) c.in-LoadHeader.is c.view-view.ensures c.learn-learn.ensures c.load_header.ensures)

pub load_word-requires-clause-can : goal.load_word-requires-clause-can
load_word-requires-clause-can c = from_event c.view-view.result c.learn-learn.result.now
    (λ (j : ℕ) (ns : List ℕ). CanLoadWord (core_of c.args.self.now) j c.in-LoadWord.at ns) c.in-LoadWord.is c.view-view.ensures
    c.learn-learn.ensures (subst (Enabled (core_of c.args.self.now)) c.in-LoadWord.is c.requires.can)

pub returns-in-LoadWord : goal.returns-in-LoadWord
returns-in-LoadWord c = subst (λ (e : Event). Made (core_of c.args.self.now) e (core_of c.load_word.new.self) c.load_word.result) (sym c.in-LoadWord.is)
    (to_event c.view-view.result c.learn-learn.result.now (λ (j : ℕ) (ns : List ℕ). Became (core_of c.args.self.now)
    (after_load_word (core_of c.args.self.now) j c.in-LoadWord.at ns) (get_or c.args.self.now.words.items
    (content_at c.args.self.now.size c.in-LoadWord.at) 0) (core_of c.load_word.new.self) c.load_word.result) c.in-LoadWord.is
    c.view-view.ensures c.learn-learn.ensures c.load_word.ensures)

pub flatten-requires-clause-can : goal.flatten-requires-clause-can
flatten-requires-clause-can c = from_event c.view-view.result c.learn-learn.result.now
    (λ (j : ℕ) (ns : List ℕ). CanFlatten (core_of c.args.self.now) j c.in-Flatten.id c.in-Flatten.old c.in-Flatten.new ns) c.in-Flatten.is
    c.view-view.ensures c.learn-learn.ensures (subst (Enabled (core_of c.args.self.now)) c.in-Flatten.is c.requires.can)

pub returns-in-Flatten : goal.returns-in-Flatten
returns-in-Flatten c = subst (λ (e : Event). Made (core_of c.args.self.now) e (core_of c.flatten.new.self) c.flatten.result) (sym c.in-Flatten.is)
    (to_event c.view-view.result c.learn-learn.result.now (λ (j : ℕ) (ns : List ℕ). Became (core_of c.args.self.now)
    (after_flatten (core_of c.args.self.now) j c.in-Flatten.id c.in-Flatten.old c.in-Flatten.new ns)
    (get_or c.args.self.now.words.items (form_at c.args.self.now.size c.in-Flatten.id) 0) (core_of c.flatten.new.self) c.flatten.result)
    c.in-Flatten.is c.view-view.ensures c.learn-learn.ensures c.flatten.ensures)

pub thin-requires-clause-can : goal.thin-requires-clause-can
thin-requires-clause-can c = from_event c.view-view.result c.learn-learn.result.now
    (λ (j : ℕ) (ns : List ℕ). CanThinTo (core_of c.args.self.now) j c.in-Thin.id c.in-Thin.old c.in-Thin.target ns) c.in-Thin.is
    c.view-view.ensures c.learn-learn.ensures (subst (Enabled (core_of c.args.self.now)) c.in-Thin.is c.requires.can)

pub returns-in-Thin : goal.returns-in-Thin
returns-in-Thin c = subst (λ (e : Event). Made (core_of c.args.self.now) e (core_of c.thin.new.self) c.thin.result) (sym c.in-Thin.is)
    (to_event c.view-view.result c.learn-learn.result.now (λ (j : ℕ) (ns : List ℕ). Became (core_of c.args.self.now)
    (after_thin (core_of c.args.self.now) j c.in-Thin.id c.in-Thin.old c.in-Thin.target ns)
    (get_or c.args.self.now.words.items (form_at c.args.self.now.size c.in-Thin.id) 0) (core_of c.thin.new.self) c.thin.result) c.in-Thin.is
    c.view-view.ensures c.learn-learn.ensures c.thin.ensures)

pub load_slot-requires-clause-can : goal.load_slot-requires-clause-can
load_slot-requires-clause-can c = from_event c.view-view.result c.learn-learn.result.now
    (λ (j : ℕ) (ns : List ℕ). CanLoadSlot (core_of c.args.self.now) j c.in-LoadSlot.slot c.in-LoadSlot.entry ns) c.in-LoadSlot.is
    c.view-view.ensures c.learn-learn.ensures (subst (Enabled (core_of c.args.self.now)) c.in-LoadSlot.is c.requires.can)

pub returns-in-LoadSlot : goal.returns-in-LoadSlot
returns-in-LoadSlot c = subst (λ (e : Event). Made (core_of c.args.self.now) e (core_of c.load_slot.new.self) c.load_slot.result) (sym c.in-LoadSlot.is)
    (to_event c.view-view.result c.learn-learn.result.now (λ (j : ℕ) (ns : List ℕ). Became (core_of c.args.self.now)
    (after_load_slot (core_of c.args.self.now) j c.in-LoadSlot.slot c.in-LoadSlot.entry ns)
    (get_or c.args.self.now.words.items (slot_at c.args.self.now.size c.in-LoadSlot.slot) 0) (core_of c.load_slot.new.self)
    c.load_slot.result) c.in-LoadSlot.is c.view-view.ensures c.learn-learn.ensures c.load_slot.ensures)

pub take_slot-requires-clause-can : goal.take_slot-requires-clause-can
take_slot-requires-clause-can c = from_event c.view-view.result c.learn-learn.result.now
    (λ (j : ℕ) (ns : List ℕ). CanTakeSlot (core_of c.args.self.now) j c.in-TakeSlot.slot c.in-TakeSlot.id ns) c.in-TakeSlot.is
    c.view-view.ensures c.learn-learn.ensures (subst (Enabled (core_of c.args.self.now)) c.in-TakeSlot.is c.requires.can)

pub returns-in-TakeSlot : goal.returns-in-TakeSlot
returns-in-TakeSlot c = subst (λ (e : Event). Made (core_of c.args.self.now) e (core_of c.take_slot.new.self) c.take_slot.result) (sym c.in-TakeSlot.is)
    (to_event c.view-view.result c.learn-learn.result.now (λ (j : ℕ) (ns : List ℕ). Became (core_of c.args.self.now)
    (after_take_slot (core_of c.args.self.now) j c.in-TakeSlot.slot c.in-TakeSlot.id ns)
    (get_or c.args.self.now.words.items (slot_at c.args.self.now.size c.in-TakeSlot.slot) 0) (core_of c.take_slot.new.self)
    c.take_slot.result) c.in-TakeSlot.is c.view-view.ensures c.learn-learn.ensures c.take_slot.ensures)
