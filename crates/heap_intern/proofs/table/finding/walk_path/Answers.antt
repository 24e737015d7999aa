use Rattle.std.proofs.Common.{◌≡◌, ◌+◌, ◌%◌, ◌≤◌, ◌<◌, ◌∙◌, ℕ, Some, None, ap, inl, inr, refl, subst, sym, arith}
use Rattle.heap_rule.specs.declared.size.HeapSize.{HeapSize}
use Rattle.heap_rule.specs.declared.view.View.{View}
use Rattle.heap_rule.specs.Paths.{rank}
use Rattle.heap_rule.proofs.MapLemmas.{has_key}
use Rattle.heap_rule.proofs.Possible.{possible_lawful}
use Rattle.heap_intern.specs.declared.table.finding.WalkEnd.TheVariants.{Free}
use Rattle.heap_intern.specs.declared.table.probing.Visit.{Visit}
use Rattle.heap_intern.specs.Hashes.{IsNotedApart}
use Rattle.heap_intern.specs.Visits.{IsAnswer, IsNext, LoadsOne, Visited, entries}
use Rattle.heap_intern.proofs.Going.{forms_trans, looks_trans}
use Rattle.heap_intern.proofs.Hashes.{apart_on, hashes_kept, mark_is, probing_on, walking_on}
use Rattle.heap_intern.proofs.Loading.{before_on, free_ahead, free_once, walked_all, walked_to, walking_first, walking_next, walking_start, walks_loads}
use Rattle.heap_intern.proofs.Visiting.{first_key, first_now, free_place, free_slot, next_inside, next_rank, next_probing, probed_all, probed_at, probed_to, probing_from}
use Rattle.heap_table.specs.Agents.{size_of}
use Rattle.heap_intern.proofs.table.finding.walk_path.Goals as goal

pub nonzero_rem-start : goal.nonzero_rem-start
nonzero_rem-start g c = let v : View = c.args.reader.now.agent.seat.me.0 in let some : 1 ≤ v.sizes.slots = (possible_lawful v c.args.reader.now.belongs.5).4 in
    let is : c.size-n.result.slots ≡ v.sizes.slots = ap (λ (z : HeapSize). z.slots) ((c.size-n.ensures ∙ ap size_of c.heap.ensures) ∙ sym c.args.reader.now.belongs.1) in omega arith

pub loop-r-init : goal.loop-r-init
loop-r-init g c = let a : View = c.args.reader.now.agent.seat.me.0 in let s = c.args.wanted.now in let n = c.size-n.result.slots in
    let slots : n ≡ a.sizes.slots = ap (λ (z : HeapSize). z.slots) ((c.size-n.ensures ∙ ap size_of c.heap.ensures) ∙ sym c.args.reader.now.belongs.1) in
    let q = c.next_rank-r.result in let e = c.next_rank-r.ensures in (
      refl,
      λ us h. probing_on a a s us c.args.hashes.now n c.args.hash c.max-mark.result c.args.from q slots (c.requires.hash us h)
          (mark_is c.args.hash c.max-mark.result us c.max-mark.ensures (c.requires.hash us h)) c.requires.hashed e.from e.apart
          (probing_from a s us c.args.from (c.requires.passed us h) h),
      λ us h b m p. walking_on b a us c.args.from q m c.args.steps.now e.from p,
      e.most,
      e.last,
      λ k apart. refl,
      e.from,
      λ us h k l. refl,
    )

pub look-requires-clause-wanted : goal.look-requires-clause-wanted
look-requires-clause-wanted g c = let u = c.requires.wanted in (u.0, (c.loop-r.invariant.1 u.0 u.1).wanted)

pub loop-r-preserved : goal.loop-r-preserved
loop-r-preserved g c = let a : View = c.args.reader.now.agent.seat.me.0 in let v : View = c.loop-r.reader.agent.seat.me.0 in let w : View = c.look.new.reader.agent.seat.me.0 in let s = c.args.wanted.now in let n = c.size-n.result.slots in let k : ℕ = c.slot_at-slot.result in
    let slots : n ≡ a.sizes.slots = ap (λ (z : HeapSize). z.slots) ((c.size-n.ensures ∙ ap size_of c.heap.ensures) ∙ sym c.args.reader.now.belongs.1) in
    let q = c.next_rank-r-in-loop-r.result in let e = c.next_rank-r-in-loop-r.ensures in (
      c.look.ensures.heap ∙ c.loop-r.invariant.0,
      λ us h. let i = c.loop-r.invariant.1 us h in
          let visited : IsNext v w us k = subst (λ (x : Visit). Visited v w us k x) c.in-Next.is (c.in-Some.ensures.looked us i.wanted) in
          let next = next_probing a v s us c.loop-r.r i n c.args.hash slots (c.requires.hash us h) k c.slot_at-slot.ensures w c.loop-r.reader.belongs.5 visited in
          probing_on a w s us c.args.hashes.now n c.args.hash c.max-mark.result (c.loop-r.r + 1) q slots (c.requires.hash us h)
          (mark_is c.args.hash c.max-mark.result us c.max-mark.ensures (c.requires.hash us h)) (hashes_kept a w next.looks.goes.known c.args.hashes.now c.requires.hashed)
          e.from e.apart next,
      λ us h b m p. let i = c.loop-r.invariant.1 us h in
          let visited : IsNext v w us k = subst (λ (x : Visit). Visited v w us k x) c.in-Next.is (c.in-Some.ensures.looked us i.wanted) in
          let walking = c.loop-r.invariant.2 us h b m p in let same : a.sizes ≡ b.sizes = p.sizes in
          walking_on b w us (c.loop-r.r + 1) q m c.look.new.steps e.from
          (walking_next b v w us c.loop-r.r m c.loop-r.steps c.look.new.steps k (0 + 1) walking
          (subst (λ (z : HeapSize). k < z.slots) same (next_inside a v s us c.loop-r.r i n c.args.hash slots (c.requires.hash us h) k c.slot_at-slot.ensures c.loop-r-test.true))
          (subst (λ (x : Visit). LoadsOne v w k (entries x + 1) c.loop-r.steps c.look.new.steps) c.in-Next.is c.in-Some.ensures.loads)
          (subst (λ (z : HeapSize). rank us z.slots k ≡ c.loop-r.r) same (next_rank a v s us c.loop-r.r i n c.args.hash slots (c.requires.hash us h) k c.slot_at-slot.ensures c.loop-r-test.true)) visited.looks.goes.sizes (omega arith)),
      e.most,
      e.last,
      apart_on a v w c.args.hashes.now c.slot_at-slot.result _ c.max-mark.result _ _ _ c.slot_at-slot.ensures (c.loop-r.invariant.4 c.loop-r-test.true) c.in-Some.ensures.loads c.loop-r.invariant.5,
      (let low = c.loop-r.invariant.6 in omega (arith, low, e.from)),
      λ us h. let i = c.loop-r.invariant.1 us h in
          before_on a v w us k c.args.from c.loop-r.r _ _ _ (next_rank a v s us c.loop-r.r i n c.args.hash slots (c.requires.hash us h) k c.slot_at-slot.ensures c.loop-r-test.true) c.loop-r.invariant.6 c.in-Some.ensures.loads (c.loop-r.invariant.7 us h),
    )

pub returns-in-None-clause-finds : goal.returns-in-None-clause-finds
returns-in-None-clause-finds g c us h = let a : View = c.args.reader.now.agent.seat.me.0 in let v : View = c.loop-r.reader.agent.seat.me.0 in let w : View = c.look.new.reader.agent.seat.me.0 in let s = c.args.wanted.now in let n = c.size-n.result.slots in let k : ℕ = c.slot_at-slot.result in
    let slots : n ≡ a.sizes.slots = ap (λ (z : HeapSize). z.slots) ((c.size-n.ensures ∙ ap size_of c.heap.ensures) ∙ sym c.args.reader.now.belongs.1) in let i = c.loop-r.invariant.1 us h in let l = c.in-None.ensures.looked us i.wanted in (
      looks_trans a v w i.looks l.0,
      inl (free_slot a v s us c.loop-r.r i n c.args.hash slots (c.requires.hash us h) k c.slot_at-slot.ensures w c.loop-r.reader.belongs.5 c.loop-r-test.true l.0.goes l.2),
    )

pub returns-in-Answer-clause-finds : goal.returns-in-Answer-clause-finds
returns-in-Answer-clause-finds g c us h = let a : View = c.args.reader.now.agent.seat.me.0 in let v : View = c.loop-r.reader.agent.seat.me.0 in let w : View = c.look.new.reader.agent.seat.me.0 in let s = c.args.wanted.now in let n = c.size-n.result.slots in let k : ℕ = c.slot_at-slot.result in
    let slots : n ≡ a.sizes.slots = ap (λ (z : HeapSize). z.slots) ((c.size-n.ensures ∙ ap size_of c.heap.ensures) ∙ sym c.args.reader.now.belongs.1) in let i = c.loop-r.invariant.1 us h in
    probed_to a v s us c.loop-r.r i n c.args.hash slots (c.requires.hash us h) k c.slot_at-slot.ensures w c.in-Answer.id c.loop-r.reader.belongs.5 c.loop-r-test.true
    (subst (λ (x : Visit). Visited v w us k x) c.in-Answer.is (c.in-Some.ensures.looked us i.wanted))

pub returns-clause-finds : goal.returns-clause-finds
returns-clause-finds g c us h = let a : View = c.args.reader.now.agent.seat.me.0 in let v : View = c.loop-r.reader.agent.seat.me.0 in let s = c.args.wanted.now in let n = c.size-n.result.slots in
    let slots : n ≡ a.sizes.slots = ap (λ (z : HeapSize). z.slots) ((c.size-n.ensures ∙ ap size_of c.heap.ensures) ∙ sym c.args.reader.now.belongs.1) in let e : c.loop-r.r ≡ n = omega arith in let i = c.loop-r.invariant.1 us h in
    (i.looks, inr (probed_all a v s us c.loop-r.r i (e ∙ slots)))

pub returns-in-None-clause-walks : goal.returns-in-None-clause-walks
returns-in-None-clause-walks g c us h b m p = let a : View = c.args.reader.now.agent.seat.me.0 in let v : View = c.loop-r.reader.agent.seat.me.0 in let w : View = c.look.new.reader.agent.seat.me.0 in let s = c.args.wanted.now in let n = c.size-n.result.slots in let k : ℕ = c.slot_at-slot.result in
    let slots : n ≡ a.sizes.slots = ap (λ (z : HeapSize). z.slots) ((c.size-n.ensures ∙ ap size_of c.heap.ensures) ∙ sym c.args.reader.now.belongs.1) in let i = c.loop-r.invariant.1 us h in let same : a.sizes ≡ b.sizes = p.sizes in
    walking_next b v w us c.loop-r.r m c.loop-r.steps c.look.new.steps k (0 + 1) (c.loop-r.invariant.2 us h b m p)
    (subst (λ (z : HeapSize). k < z.slots) same (next_inside a v s us c.loop-r.r i n c.args.hash slots (c.requires.hash us h) k c.slot_at-slot.ensures c.loop-r-test.true)) c.in-None.ensures.loads
    (subst (λ (z : HeapSize). rank us z.slots k ≡ c.loop-r.r) same (next_rank a v s us c.loop-r.r i n c.args.hash slots (c.requires.hash us h) k c.slot_at-slot.ensures c.loop-r-test.true)) (c.in-None.ensures.looked us i.wanted).0.goes.sizes (omega arith)

pub returns-in-Answer-clause-walks : goal.returns-in-Answer-clause-walks
returns-in-Answer-clause-walks g c us h b m p = let a : View = c.args.reader.now.agent.seat.me.0 in let v : View = c.loop-r.reader.agent.seat.me.0 in let w : View = c.look.new.reader.agent.seat.me.0 in let s = c.args.wanted.now in let n = c.size-n.result.slots in let k : ℕ = c.slot_at-slot.result in
    let slots : n ≡ a.sizes.slots = ap (λ (z : HeapSize). z.slots) ((c.size-n.ensures ∙ ap size_of c.heap.ensures) ∙ sym c.args.reader.now.belongs.1) in let i = c.loop-r.invariant.1 us h in let same : a.sizes ≡ b.sizes = p.sizes in
    let answer : IsAnswer v w us k c.in-Answer.id = subst (λ (x : Visit). Visited v w us k x) c.in-Answer.is (c.in-Some.ensures.looked us i.wanted) in
    walked_to b v w us c.loop-r.r m c.loop-r.steps c.look.new.steps k (1 + 1) (c.loop-r.invariant.2 us h b m p)
    (subst (λ (z : HeapSize). k < z.slots) same (next_inside a v s us c.loop-r.r i n c.args.hash slots (c.requires.hash us h) k c.slot_at-slot.ensures c.loop-r-test.true))
    (subst (λ (x : Visit). LoadsOne v w k (entries x + 1) c.loop-r.steps c.look.new.steps) c.in-Answer.is c.in-Some.ensures.loads)
    (subst (λ (z : HeapSize). rank us z.slots k ≡ c.loop-r.r) same (next_rank a v s us c.loop-r.r i n c.args.hash slots (c.requires.hash us h) k c.slot_at-slot.ensures c.loop-r-test.true))
    (Some c.in-Answer.id) (omega arith) (λ l. (c.in-Answer.id, refl, answer.stands))

pub returns-clause-walks : goal.returns-clause-walks
returns-clause-walks g c us h b m p = walked_all b c.loop-r.reader.agent.seat.me.0 us c.loop-r.r m c.loop-r.steps None (c.loop-r.invariant.2 us h b m p)

pub returns-in-None-clause-loads : goal.returns-in-None-clause-loads
returns-in-None-clause-loads g c = let a : View = c.args.reader.now.agent.seat.me.0 in let v : View = c.loop-r.reader.agent.seat.me.0 in let w : View = c.look.new.reader.agent.seat.me.0 in let u = c.requires.wanted in
    walks_loads a w u.0 c.args.from (Free c.slot_at-slot.result c.loop-r.r) c.args.steps.now c.look.new.steps (returns-in-None-clause-walks g c u.0 u.1)

pub returns-in-Answer-clause-loads : goal.returns-in-Answer-clause-loads
returns-in-Answer-clause-loads g c = let a : View = c.args.reader.now.agent.seat.me.0 in let u = c.requires.wanted in
    returns-in-Answer-clause-walks g c u.0 u.1 a c.args.steps.now (walking_start a u.0 c.args.from c.args.steps.now)

pub returns-clause-loads : goal.returns-clause-loads
returns-clause-loads g c = let a : View = c.args.reader.now.agent.seat.me.0 in let u = c.requires.wanted in
    returns-clause-walks g c u.0 u.1 a c.args.steps.now (walking_start a u.0 c.args.from c.args.steps.now)

pub returns-in-None-clause-first : goal.returns-in-None-clause-first
returns-in-None-clause-first g c zero us h f = let a : View = c.args.reader.now.agent.seat.me.0 in let v : View = c.loop-r.reader.agent.seat.me.0 in let w : View = c.look.new.reader.agent.seat.me.0 in let s = c.args.wanted.now in let n = c.size-n.result.slots in let k : ℕ = c.slot_at-slot.result in
    let slots : n ≡ a.sizes.slots = ap (λ (z : HeapSize). z.slots) ((c.size-n.ensures ∙ ap size_of c.heap.ensures) ∙ sym c.args.reader.now.belongs.1) in let i = c.loop-r.invariant.1 us h in let l = c.in-None.ensures.looked us i.wanted in
    let t = has_key v.slots k (first_key a v s us c.loop-r.r i n c.args.hash slots (c.requires.hash us h) k c.slot_at-slot.ensures c.loop-r.reader.belongs.5 f) in
    let bad : None ≡ Some t.0 = sym l.2 ∙ l.0.goes.known.slots k t.0 t.1 in absurd (cc)

pub returns-in-Answer-clause-first : goal.returns-in-Answer-clause-first
returns-in-Answer-clause-first g c zero us h f = let a : View = c.args.reader.now.agent.seat.me.0 in let v : View = c.loop-r.reader.agent.seat.me.0 in let s = c.args.wanted.now in let n = c.size-n.result.slots in let k : ℕ = c.slot_at-slot.result in
    let slots : n ≡ a.sizes.slots = ap (λ (z : HeapSize). z.slots) ((c.size-n.ensures ∙ ap size_of c.heap.ensures) ∙ sym c.args.reader.now.belongs.1) in let i = c.loop-r.invariant.1 us h in
    let none = walking_first a v us c.loop-r.r c.args.steps.now c.loop-r.steps
    (c.loop-r.invariant.2 us h a c.args.steps.now (walking_start a us c.args.from c.args.steps.now)) (first_now a v s us c.loop-r.r i n c.args.hash slots (c.requires.hash us h) k c.slot_at-slot.ensures c.loop-r.reader.belongs.5 f) in
    let two = c.in-Some.ensures.count in let one : entries c.in-Some.visit ≡ 1 = ap entries c.in-Answer.is in omega (arith, none, two, one)

pub returns-clause-first : goal.returns-clause-first
returns-clause-first g c zero us h f = let a : View = c.args.reader.now.agent.seat.me.0 in let v : View = c.loop-r.reader.agent.seat.me.0 in let s = c.args.wanted.now in let n = c.size-n.result.slots in
    let slots : n ≡ a.sizes.slots = ap (λ (z : HeapSize). z.slots) ((c.size-n.ensures ∙ ap size_of c.heap.ensures) ∙ sym c.args.reader.now.belongs.1) in let i = c.loop-r.invariant.1 us h in let e : c.loop-r.r ≡ n = omega arith in
    let some : 1 ≤ a.sizes.slots = (possible_lawful a c.args.reader.now.belongs.5).4 in
    let first = first_now a v s us c.loop-r.r i n c.args.hash slots (c.requires.hash us h) ((c.args.hash % n + c.loop-r.r) % n) refl c.loop-r.reader.belongs.5 f in absurd (omega (arith, some, first, e, slots))

pub returns-in-None-clause-forms : goal.returns-in-None-clause-forms
returns-in-None-clause-forms g c = let a : View = c.args.reader.now.agent.seat.me.0 in let v : View = c.loop-r.reader.agent.seat.me.0 in let w : View = c.look.new.reader.agent.seat.me.0 in let u = c.requires.wanted in let i = c.loop-r.invariant.1 u.0 u.1 in
    forms_trans a v w i.forms (c.in-None.ensures.looked u.0 i.wanted).1

pub returns-in-Answer-clause-forms : goal.returns-in-Answer-clause-forms
returns-in-Answer-clause-forms g c = let a : View = c.args.reader.now.agent.seat.me.0 in let v : View = c.loop-r.reader.agent.seat.me.0 in let w : View = c.look.new.reader.agent.seat.me.0 in let u = c.requires.wanted in let i = c.loop-r.invariant.1 u.0 u.1 in
    let answer : IsAnswer v w u.0 c.slot_at-slot.result c.in-Answer.id = subst (λ (x : Visit). Visited v w u.0 c.slot_at-slot.result x) c.in-Answer.is (c.in-Some.ensures.looked u.0 i.wanted) in
    forms_trans a v w i.forms answer.forms

pub returns-clause-forms : goal.returns-clause-forms
returns-clause-forms g c = let u = c.requires.wanted in (c.loop-r.invariant.1 u.0 u.1).forms

pub returns-in-None-clause-apart : goal.returns-in-None-clause-apart
returns-in-None-clause-apart g c k apart = let a : View = c.args.reader.now.agent.seat.me.0 in let v : View = c.loop-r.reader.agent.seat.me.0 in let w : View = c.look.new.reader.agent.seat.me.0 in
    apart_on a v w c.args.hashes.now c.slot_at-slot.result _ c.max-mark.result _ _ _ c.slot_at-slot.ensures (c.loop-r.invariant.4 c.loop-r-test.true) c.in-None.ensures.loads c.loop-r.invariant.5
    k (subst (IsNotedApart c.args.hashes.now k) (sym c.max-mark.ensures) apart)

pub returns-in-Answer-clause-apart : goal.returns-in-Answer-clause-apart
returns-in-Answer-clause-apart g c k apart = let a : View = c.args.reader.now.agent.seat.me.0 in let v : View = c.loop-r.reader.agent.seat.me.0 in let w : View = c.look.new.reader.agent.seat.me.0 in
    apart_on a v w c.args.hashes.now c.slot_at-slot.result _ c.max-mark.result _ _ _ c.slot_at-slot.ensures (c.loop-r.invariant.4 c.loop-r-test.true) c.in-Some.ensures.loads c.loop-r.invariant.5
    k (subst (IsNotedApart c.args.hashes.now k) (sym c.max-mark.ensures) apart)

pub returns-clause-apart : goal.returns-clause-apart
returns-clause-apart g c k apart = c.loop-r.invariant.5 k (subst (IsNotedApart c.args.hashes.now k) (sym c.max-mark.ensures) apart)

pub returns-in-None-clause-before : goal.returns-in-None-clause-before
returns-in-None-clause-before g c us h = let a : View = c.args.reader.now.agent.seat.me.0 in let v : View = c.loop-r.reader.agent.seat.me.0 in let w : View = c.look.new.reader.agent.seat.me.0 in let s = c.args.wanted.now in let n = c.size-n.result.slots in let k : ℕ = c.slot_at-slot.result in
    let slots : n ≡ a.sizes.slots = ap (λ (z : HeapSize). z.slots) ((c.size-n.ensures ∙ ap size_of c.heap.ensures) ∙ sym c.args.reader.now.belongs.1) in let i = c.loop-r.invariant.1 us h in
    before_on a v w us k c.args.from c.loop-r.r _ _ _ (next_rank a v s us c.loop-r.r i n c.args.hash slots (c.requires.hash us h) k c.slot_at-slot.ensures c.loop-r-test.true) c.loop-r.invariant.6 c.in-None.ensures.loads (c.loop-r.invariant.7 us h)

pub returns-in-Answer-clause-before : goal.returns-in-Answer-clause-before
returns-in-Answer-clause-before g c us h = let a : View = c.args.reader.now.agent.seat.me.0 in let v : View = c.loop-r.reader.agent.seat.me.0 in let w : View = c.look.new.reader.agent.seat.me.0 in let s = c.args.wanted.now in let n = c.size-n.result.slots in let k : ℕ = c.slot_at-slot.result in
    let slots : n ≡ a.sizes.slots = ap (λ (z : HeapSize). z.slots) ((c.size-n.ensures ∙ ap size_of c.heap.ensures) ∙ sym c.args.reader.now.belongs.1) in let i = c.loop-r.invariant.1 us h in
    before_on a v w us k c.args.from c.loop-r.r _ _ _ (next_rank a v s us c.loop-r.r i n c.args.hash slots (c.requires.hash us h) k c.slot_at-slot.ensures c.loop-r-test.true) c.loop-r.invariant.6 c.in-Some.ensures.loads (c.loop-r.invariant.7 us h)

pub returns-clause-before : goal.returns-clause-before
returns-clause-before g c us h = c.loop-r.invariant.7 us h

pub returns-in-None-clause-beyond : goal.returns-in-None-clause-beyond
returns-in-None-clause-beyond g c = c.loop-r.invariant.6

pub returns-in-Answer-clause-ends : goal.returns-in-Answer-clause-ends
returns-in-Answer-clause-ends g c us h = let a : View = c.args.reader.now.agent.seat.me.0 in let v : View = c.loop-r.reader.agent.seat.me.0 in let w : View = c.look.new.reader.agent.seat.me.0 in let s = c.args.wanted.now in let n = c.size-n.result.slots in let k : ℕ = c.slot_at-slot.result in
    let slots : n ≡ a.sizes.slots = ap (λ (z : HeapSize). z.slots) ((c.size-n.ensures ∙ ap size_of c.heap.ensures) ∙ sym c.args.reader.now.belongs.1) in let i = c.loop-r.invariant.1 us h in
    probed_at a v s us c.loop-r.r i n c.args.hash slots (c.requires.hash us h) k c.slot_at-slot.ensures w c.in-Answer.id c.loop-r.reader.belongs.5 c.loop-r-test.true
    (subst (λ (x : Visit). Visited v w us k x) c.in-Answer.is (c.in-Some.ensures.looked us i.wanted))

pub returns-in-None-clause-ends : goal.returns-in-None-clause-ends
returns-in-None-clause-ends g c us h = let a : View = c.args.reader.now.agent.seat.me.0 in let v : View = c.loop-r.reader.agent.seat.me.0 in let w : View = c.look.new.reader.agent.seat.me.0 in let s = c.args.wanted.now in let n = c.size-n.result.slots in let k : ℕ = c.slot_at-slot.result in
    let slots : n ≡ a.sizes.slots = ap (λ (z : HeapSize). z.slots) ((c.size-n.ensures ∙ ap size_of c.heap.ensures) ∙ sym c.args.reader.now.belongs.1) in let i = c.loop-r.invariant.1 us h in let l = c.in-None.ensures.looked us i.wanted in
    let walking = returns-in-None-clause-walks g c us h a c.args.steps.now (walking_start a us c.args.from c.args.steps.now) in record {
      place = free_place a v s us c.loop-r.r i n c.args.hash slots (c.requires.hash us h) k c.slot_at-slot.ensures w c.loop-r.reader.belongs.5 c.loop-r-test.true l.0.goes;
      free = l.2;
      once = free_once a w us (c.loop-r.r + 1) c.args.steps.now c.look.new.steps walking;
      ahead = free_ahead a w us c.loop-r.r c.args.steps.now c.look.new.steps (l.0.goes.sizes ∙ i.looks.goes.sizes) walking;
    }

pub returns-clause-ends : goal.returns-clause-ends
returns-clause-ends g c us h = let a : View = c.args.reader.now.agent.seat.me.0 in let v : View = c.loop-r.reader.agent.seat.me.0 in let s = c.args.wanted.now in let n = c.size-n.result.slots in
    let slots : n ≡ a.sizes.slots = ap (λ (z : HeapSize). z.slots) ((c.size-n.ensures ∙ ap size_of c.heap.ensures) ∙ sym c.args.reader.now.belongs.1) in let e : c.loop-r.r ≡ n = omega arith in
    probed_all a v s us c.loop-r.r (c.loop-r.invariant.1 us h) (e ∙ slots)
