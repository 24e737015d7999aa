use Rattle.std.proofs.Common.{◌≡◌, ◌∙◌, ◌+◌, ◌<◌, ℕ, Ok, sym, ap, subst, get_or, arith}
use Rattle.heap_rule.specs.declared.view.View.{View}
use Rattle.heap_rule.specs.Layout.{counter_at, counter_value}
use Rattle.heap_rule.specs.Claims.{loaded_counter, MayClaim, won_claim}
use Rattle.heap_rule.proofs.ListLemmas.{at_index}
use Rattle.heap_core.specs.declared.event.Event.TheVariants.{Claim}
use Rattle.heap_core.specs.Core.{Core, core_of}
use Rattle.heap_core.specs.Events.{LiveIn, IsSoundCore, Made}
use Rattle.heap_core.proofs.StateLemmas.{view_inside, live_has, sound_of, claim_won, claim_lost, used_within, end_small}
use Rattle.heap_core.proofs.machine.Machine.claim.Goals as goal

pub index_mut-requires : goal.index_mut-requires
index_mut-requires c = let l = view_inside c.args.self.now.views.items c.args.view
    (λ (v : View). MayClaim v c.args.counter c.args.at c.args.want) c.requires.can in let ok = c.args.self.now.views.ok in omega arith

pub index_mut-requires-2 : goal.index_mut-requires-2
index_mut-requires-2 c = let l = view_inside c.args.self.now.views.items c.args.view
    (λ (v : View). MayClaim v c.args.counter c.args.at c.args.want) c.requires.can in let ok = c.args.self.now.views.ok in omega arith

pub returns-then-found-from : goal.returns-then-found-from
returns-then-found-from c = claim_lost (core_of c.args.self.now) c.args.view c.index_mut.result.now c.args.counter c.args.at c.args.want c.place.result c.word-found.result c.load_counter.new.view
    c.requires.can c.place.ensures c.word-found.ensures (λ e. c.if-found-from.true (e ∙ sym c.from.ensures))
    (c.load_counter.ensures ∙ ap (λ (v : View). loaded_counter v c.args.counter c.word-found.result) c.index_mut.ensures.value)

pub claim-requires-clause-may : goal.claim-requires-clause-may
claim-requires-clause-may c = subst (λ (v : View). MayClaim v c.args.counter c.args.at c.args.want) (sym c.index_mut-2.ensures.value)
    (live_has c.args.self.now.views.items c.args.view (λ (v : View). MayClaim v c.args.counter c.args.at c.args.want) c.index_mut-2.result.now c.requires.can)

pub claim-requires-clause-used : goal.claim-requires-clause-used
claim-requires-clause-used c = let s : Core = (core_of c.args.self.now) in
    let live : LiveIn c.args.self.now.views.items c.args.view (λ (v : View). MayClaim v c.args.counter c.args.at c.args.want) = c.requires.can in
    let sound : IsSoundCore s = sound_of s c.args.view (λ (v : View). MayClaim v c.args.counter c.args.at c.args.want) c.requires.core live in
    let l = used_within s c.args.view live.0 c.args.counter sound live.1 live.2 in let e = end_small s c.args.view live.0 c.args.counter sound live.1 live.2 in let m = live.3.1 in
    let found : get_or c.args.self.now.words.items (counter_at c.args.counter) 0 ≡ c.args.at = sym
    (ap (λ (q : ℕ). get_or c.args.self.now.words.items q 0) c.place.ensures) ∙ (sym c.word-found.ensures ∙ (c.if-found-from.false ∙ c.from.ensures)) in
    let goal : counter_value live.0.used c.args.counter + c.args.want < 4294967296 = omega arith in
    subst (λ (v : View). counter_value v.used c.args.counter + c.args.want < 4294967296)
    (sym (c.index_mut-2.ensures.value ∙ at_index c.args.self.now.views.items c.args.view live.0 c.index_mut-2.result.now live.1)) goal

pub claim-requires-clause-end : goal.claim-requires-clause-end
claim-requires-clause-end c = let s : Core = core_of c.args.self.now in
    let live : LiveIn c.args.self.now.views.items c.args.view (λ (v : View). MayClaim v c.args.counter c.args.at c.args.want) = c.requires.can in
    let e = end_small s c.args.view live.0 c.args.counter (sound_of s c.args.view
    (λ (v : View). MayClaim v c.args.counter c.args.at c.args.want) c.requires.core live) live.1 live.2 in let m = live.3.1 in omega arith

pub returns : goal.returns
returns c = subst (λ (t : Core). Made (core_of c.args.self.now) (Claim c.args.view c.args.counter c.args.at c.args.want) t (Ok c.word-found.result)) (sym c.store.ensures)
    (claim_won (core_of c.args.self.now) c.args.view c.index_mut-2.result.now c.args.counter c.args.at c.args.want c.place.result c.place-2.result c.word-found.result c.from-2.result c.claim.new.view
    c.requires.can c.place.ensures c.place-2.ensures c.word-found.ensures (c.if-found-from.false ∙ c.from.ensures) c.from-2.ensures
    (c.in_ok-claim.ensures.ok ∙ ap (λ (v : View). won_claim v c.args.counter c.args.at c.args.want) c.index_mut-2.ensures.value))
