use Rattle.std.proofs.Common.{◌≡◌, ◌≢◌, ◌+◌, ◌≤◌, ◌<◌, ◌∙◌, ℕ, List, [], ◌∷◌, Some, None, ap, refl, subst, sym, arith}
use Rattle.std.specs.Prelude.{max}
use Rattle.js_units.specs.Lanes.{hash_of}
use Rattle.heap_rule.specs.declared.size.HeapSize.{HeapSize}
use Rattle.heap_rule.specs.declared.view.View.{View}
use Rattle.heap_rule.specs.Paths.{rank}
use Rattle.heap_rule.proofs.Possible.{possible_lawful}
use Rattle.heap_table.specs.Agents.{size_of}
use Rattle.heap_intern.specs.Answers.{FindsString, IsBehind, IsFixed}
use Rattle.heap_intern.specs.Hashes.{IsNotedApart}
use Rattle.heap_intern.specs.Visits.{IsAnswer, IsFreeAt, IsNext, IsPassed, Walking}
use Rattle.heap_intern.proofs.Giving.{free_near, place_is_behind, place_next, place_passed}
use Rattle.heap_intern.proofs.Going.{forms_trans, goes_trans, looks_self, looks_trans, forms_self}
use Rattle.heap_intern.proofs.Hashes.{hashes_kept}
use Rattle.heap_intern.proofs.Loading.{none_loaded, walked_all, walked_put, walking_same}
use Rattle.heap_intern.proofs.Visiting.{behind_kept, fixed_kept, passed_there, probed_all, probing_by}
use Rattle.heap_intern.proofs.Wanting.{only_wanted, wanted_kept}
use Rattle.heap_intern.proofs.table.given.place_behind.Goals as goal

pub loop-r-init : goal.loop-r-init
loop-r-init g c = let a : View = c.args.reader.now.agent.seat.me.0 in (
  refl,
  λ us h. probing_by a a c.args.wanted.now us c.args.from (looks_self a) (forms_self a) h (c.requires.passed us h),
  λ us h b m p. p,
  subst (λ (z : HeapSize). c.args.from ≤ z.slots) (sym (c.size-n.ensures ∙ ap size_of c.heap.ensures)) c.requires.from,
  (omega arith),
  λ us h k l. refl,
  λ k apart. refl,
)

pub walk_path-requires-clause-wanted : goal.walk_path-requires-clause-wanted
walk_path-requires-clause-wanted g c = let u = c.requires.wanted in (u.0, (c.loop-r.invariant.1 u.0 u.1).wanted)

pub walk_path-requires-clause-hash : goal.walk_path-requires-clause-hash
walk_path-requires-clause-hash g c us h = let u = c.requires.wanted in let a : View = c.args.reader.now.agent.seat.me.0 in let v : View = c.loop-r.reader.agent.seat.me.0 in only_wanted v c.args.wanted.now us u.0 (λ (xs : List ℕ). c.args.hash ≡ hash_of xs) (c.loop-r.invariant.1 u.0 u.1).wanted h (c.requires.hash u.0 u.1)

pub walk_path-requires-clause-from : goal.walk_path-requires-clause-from
walk_path-requires-clause-from g c = let u = c.requires.wanted in let a : View = c.args.reader.now.agent.seat.me.0 in let v : View = c.loop-r.reader.agent.seat.me.0 in
    let slots : c.size-n.result.slots ≡ a.sizes.slots = ap (λ (z : HeapSize). z.slots) ((c.size-n.ensures ∙ ap size_of c.heap.ensures) ∙ sym c.args.reader.now.belongs.1) in
    let same : a.sizes.slots ≡ v.sizes.slots = ap (λ (z : HeapSize). z.slots) (sym (c.loop-r.invariant.1 u.0 u.1).looks.goes.sizes) in
    let low = c.loop-r.invariant.3 in subst (λ (z : HeapSize). c.loop-r.r ≤ z.slots) c.loop-r.reader.belongs.1 (omega (arith, low, slots, same))

pub walk_path-requires-clause-passed : goal.walk_path-requires-clause-passed
walk_path-requires-clause-passed g c us h = let u = c.requires.wanted in let a : View = c.args.reader.now.agent.seat.me.0 in let v : View = c.loop-r.reader.agent.seat.me.0 in let s = c.args.wanted.now in let i = c.loop-r.invariant.1 u.0 u.1 in
    only_wanted v s us u.0 (λ (xs : List ℕ). IsPassed v xs c.loop-r.r) i.wanted h (passed_there a v s u.0 c.loop-r.r i)

pub walk_path-requires-clause-hashed : goal.walk_path-requires-clause-hashed
walk_path-requires-clause-hashed g c = let u = c.requires.wanted in let a : View = c.args.reader.now.agent.seat.me.0 in let v : View = c.loop-r.reader.agent.seat.me.0 in hashes_kept a v (c.loop-r.invariant.1 u.0 u.1).looks.goes.known c.args.hashes.now c.requires.hashed

pub put-requires-clause-wanted : goal.put-requires-clause-wanted
put-requires-clause-wanted g c = let u = c.requires.wanted in let a : View = c.args.reader.now.agent.seat.me.0 in let v : View = c.loop-r.reader.agent.seat.me.0 in let w : View = c.walk_path.new.reader.agent.seat.me.0 in let s = c.args.wanted.now in let i = c.loop-r.invariant.1 u.0 u.1 in let f : FindsString v w u.0 None = c.in-Free.ensures.finds u.0 i.wanted in let e : IsFreeAt v w u.0 c.in-Free.slot c.in-Free.rank = c.in-Free.ensures.ends u.0 i.wanted in let want = wanted_kept v w f.0.goes.known c.walk_path.ensures.forms s u.0 i.wanted in (u.0, want)

pub put-requires-clause-inside : goal.put-requires-clause-inside
put-requires-clause-inside g c = let u = c.requires.wanted in let a : View = c.args.reader.now.agent.seat.me.0 in let v : View = c.loop-r.reader.agent.seat.me.0 in let w : View = c.walk_path.new.reader.agent.seat.me.0 in let s = c.args.wanted.now in let i = c.loop-r.invariant.1 u.0 u.1 in let f : FindsString v w u.0 None = c.in-Free.ensures.finds u.0 i.wanted in let e : IsFreeAt v w u.0 c.in-Free.slot c.in-Free.rank = c.in-Free.ensures.ends u.0 i.wanted in
    subst (λ (z : HeapSize). c.in-Free.slot < z.slots) c.walk_path.new.reader.belongs.1 e.place.inside

pub put-requires-clause-behind : goal.put-requires-clause-behind
put-requires-clause-behind g c us h = let u = c.requires.wanted in let a : View = c.args.reader.now.agent.seat.me.0 in let v : View = c.loop-r.reader.agent.seat.me.0 in let w : View = c.walk_path.new.reader.agent.seat.me.0 in let s = c.args.wanted.now in let i = c.loop-r.invariant.1 u.0 u.1 in let f : FindsString v w u.0 None = c.in-Free.ensures.finds u.0 i.wanted in let e : IsFreeAt v w u.0 c.in-Free.slot c.in-Free.rank = c.in-Free.ensures.ends u.0 i.wanted in let want = wanted_kept v w f.0.goes.known c.walk_path.ensures.forms s u.0 i.wanted in
    only_wanted w s us u.0 (λ (xs : List ℕ). IsBehind w xs c.in-Free.slot) want h (place_is_behind w u.0 c.in-Free.slot c.in-Free.rank e.place)

pub put-requires-clause-fixed : goal.put-requires-clause-fixed
put-requires-clause-fixed g c us h = let u = c.requires.wanted in let a : View = c.args.reader.now.agent.seat.me.0 in let v : View = c.loop-r.reader.agent.seat.me.0 in let w : View = c.walk_path.new.reader.agent.seat.me.0 in let s = c.args.wanted.now in let i = c.loop-r.invariant.1 u.0 u.1 in let f : FindsString v w u.0 None = c.in-Free.ensures.finds u.0 i.wanted in let e : IsFreeAt v w u.0 c.in-Free.slot c.in-Free.rank = c.in-Free.ensures.ends u.0 i.wanted in let want = wanted_kept v w f.0.goes.known c.walk_path.ensures.forms s u.0 i.wanted in let l = looks_trans a v w i.looks f.0 in
    only_wanted w s us u.0 (λ (xs : List ℕ). IsFixed w xs c.args.header) want h
    (fixed_kept a w c.args.reader.now.belongs.5 l.goes.known u.0 c.args.header (c.requires.fixed u.0 u.1))

pub overflow_add-r : goal.overflow_add-r
overflow_add-r g c = let u = c.requires.wanted in let a : View = c.args.reader.now.agent.seat.me.0 in let v : View = c.loop-r.reader.agent.seat.me.0 in let w : View = c.walk_path.new.reader.agent.seat.me.0 in let s = c.args.wanted.now in let i = c.loop-r.invariant.1 u.0 u.1 in let f : FindsString v w u.0 None = c.in-Free.ensures.finds u.0 i.wanted in let e : IsFreeAt v w u.0 c.in-Free.slot c.in-Free.rank = c.in-Free.ensures.ends u.0 i.wanted in
    let l = place_next w u.0 c.in-Free.slot c.in-Free.rank e.place in let small = possible_lawful w c.walk_path.new.reader.belongs.5 in omega (arith, l)

pub loop-r-preserved : goal.loop-r-preserved
loop-r-preserved g c = let a : View = c.args.reader.now.agent.seat.me.0 in let v : View = c.loop-r.reader.agent.seat.me.0 in let w : View = c.walk_path.new.reader.agent.seat.me.0 in let y : View = c.put.new.reader.agent.seat.me.0 in let s = c.args.wanted.now in let u = c.requires.wanted in let n = c.size-n.result.slots in
    let slots : n ≡ a.sizes.slots = ap (λ (z : HeapSize). z.slots) ((c.size-n.ensures ∙ ap size_of c.heap.ensures) ∙ sym c.args.reader.now.belongs.1) in
    let still = none_loaded w y c.in-Free.slot c.walk_path.new.steps c.put.new.steps c.in-Next.ensures.loads in (
      c.put.ensures.heap ∙ (c.walk_path.ensures.heap ∙ c.loop-r.invariant.0),
      λ us h. let i = c.loop-r.invariant.1 us h in let f : FindsString v w us None = c.in-Free.ensures.finds us i.wanted in let e : IsFreeAt v w us c.in-Free.slot c.in-Free.rank = c.in-Free.ensures.ends us i.wanted in let want = wanted_kept v w f.0.goes.known c.walk_path.ensures.forms s us i.wanted in let t : IsNext w y us c.in-Free.slot = c.in-Next.ensures.visited us want in
          probing_by a y s us (c.in-Free.rank + 1) (looks_trans a w y (looks_trans a v w i.looks f.0) t.looks)
          (forms_trans a w y (forms_trans a v w i.forms c.walk_path.ensures.forms) t.forms) (wanted_kept w y t.looks.goes.known t.forms s us want)
          (place_passed w y us c.in-Free.slot c.in-Free.rank c.walk_path.new.reader.belongs.5 t.looks.goes.known t.looks.goes.sizes e.place t.shut),
      λ us h b m p. let i = c.loop-r.invariant.1 us h in let f : FindsString v w us None = c.in-Free.ensures.finds us i.wanted in let e : IsFreeAt v w us c.in-Free.slot c.in-Free.rank = c.in-Free.ensures.ends us i.wanted in let want = wanted_kept v w f.0.goes.known c.walk_path.ensures.forms s us i.wanted in let t : IsNext w y us c.in-Free.slot = c.in-Next.ensures.visited us want in
          subst (λ (x : ℕ). Walking b y us (c.in-Free.rank + 1) m x) (sym still.0)
          (walking_same b w y us (c.in-Free.rank + 1) m c.walk_path.new.steps t.looks.goes.sizes still.1 (c.in-Free.ensures.walks us i.wanted b m (c.loop-r.invariant.2 us h b m p))),
      (let i = c.loop-r.invariant.1 u.0 u.1 in let f : FindsString v w u.0 None = c.in-Free.ensures.finds u.0 i.wanted in let e : IsFreeAt v w u.0 c.in-Free.slot c.in-Free.rank = c.in-Free.ensures.ends u.0 i.wanted in let l = place_next w u.0 c.in-Free.slot c.in-Free.rank e.place in
          let z : w.sizes.slots ≡ a.sizes.slots = ap (λ (x : HeapSize). x.slots) (f.0.goes.sizes ∙ i.looks.goes.sizes) in omega (arith, l, z, slots)),
      (let low = c.loop-r.invariant.4 in let more = c.in-Free.ensures.beyond in omega (arith, low, more)),
      λ us h k l. let i = c.loop-r.invariant.1 us h in let low = c.loop-r.invariant.4 in
          still.1 k ∙ (c.walk_path.ensures.before us i.wanted k (subst (λ (z : HeapSize). rank us z.slots k < c.loop-r.r) (sym i.looks.goes.sizes) (omega (arith, low, l))) ∙ c.loop-r.invariant.5 us h k l),
      λ k apart. still.1 k ∙ (c.walk_path.ensures.apart k apart ∙ c.loop-r.invariant.6 k apart),
    )

pub loop-r-smaller : goal.loop-r-smaller
loop-r-smaller g c = let a : View = c.args.reader.now.agent.seat.me.0 in let v : View = c.loop-r.reader.agent.seat.me.0 in let w : View = c.walk_path.new.reader.agent.seat.me.0 in let s = c.args.wanted.now in let u = c.requires.wanted in let n = c.size-n.result.slots in let more = c.in-Free.ensures.beyond in let test = c.loop-r-test.true in omega (arith, more, test)

pub returns-in-Found-clause-forms : goal.returns-in-Found-clause-forms
returns-in-Found-clause-forms g c = let u = c.requires.wanted in let a : View = c.args.reader.now.agent.seat.me.0 in let v : View = c.loop-r.reader.agent.seat.me.0 in let w : View = c.walk_path.new.reader.agent.seat.me.0 in let i = c.loop-r.invariant.1 u.0 u.1 in forms_trans a v w i.forms c.walk_path.ensures.forms

pub returns-in-Found-clause-places : goal.returns-in-Found-clause-places
returns-in-Found-clause-places g c us h = let a : View = c.args.reader.now.agent.seat.me.0 in let v : View = c.loop-r.reader.agent.seat.me.0 in let w : View = c.walk_path.new.reader.agent.seat.me.0 in let i = c.loop-r.invariant.1 us h in let f : FindsString v w us (Some c.in-Found.seat.id) = c.in-Found.ensures.finds us i.wanted in
    (goes_trans a v w [] ((us, c.in-Found.seat.id) ∷ []) i.looks.goes f.0, f.2, f.3)

pub returns-in-Found-clause-nothing : goal.returns-in-Found-clause-nothing
returns-in-Found-clause-nothing g c = let u = c.requires.wanted in let a : View = c.args.reader.now.agent.seat.me.0 in let v : View = c.loop-r.reader.agent.seat.me.0 in let w : View = c.walk_path.new.reader.agent.seat.me.0 in let i = c.loop-r.invariant.1 u.0 u.1 in let f : FindsString v w u.0 (Some c.in-Found.seat.id) = c.in-Found.ensures.finds u.0 i.wanted in
    (f.1.0 ∙ i.looks.used, f.1.1 ∙ i.looks.words)

pub returns-in-Found-clause-stands : goal.returns-in-Found-clause-stands
returns-in-Found-clause-stands g c us h = let a : View = c.args.reader.now.agent.seat.me.0 in let v : View = c.loop-r.reader.agent.seat.me.0 in let i = c.loop-r.invariant.1 us h in c.in-Found.ensures.ends us i.wanted

pub returns-in-Found-clause-loads : goal.returns-in-Found-clause-loads
returns-in-Found-clause-loads g c us h b m p = let i = c.loop-r.invariant.1 us h in c.in-Found.ensures.walks us i.wanted b m (c.loop-r.invariant.2 us h b m p)

pub returns-in-Found-clause-before : goal.returns-in-Found-clause-before
returns-in-Found-clause-before g c us h k l = let i = c.loop-r.invariant.1 us h in let low = c.loop-r.invariant.4 in
    c.walk_path.ensures.before us i.wanted k (subst (λ (z : HeapSize). rank us z.slots k < c.loop-r.r) (sym i.looks.goes.sizes) (omega (arith, low, l))) ∙ c.loop-r.invariant.5 us h k l

pub returns-in-Found-clause-apart : goal.returns-in-Found-clause-apart
returns-in-Found-clause-apart g c k apart = c.walk_path.ensures.apart k apart ∙ c.loop-r.invariant.6 k apart

pub returns-in-Answer-clause-forms : goal.returns-in-Answer-clause-forms
returns-in-Answer-clause-forms g c = let u = c.requires.wanted in let a : View = c.args.reader.now.agent.seat.me.0 in let v : View = c.loop-r.reader.agent.seat.me.0 in let w : View = c.walk_path.new.reader.agent.seat.me.0 in let y : View = c.put.new.reader.agent.seat.me.0 in let s = c.args.wanted.now in let i = c.loop-r.invariant.1 u.0 u.1 in let f : FindsString v w u.0 None = c.in-Free.ensures.finds u.0 i.wanted in let e : IsFreeAt v w u.0 c.in-Free.slot c.in-Free.rank = c.in-Free.ensures.ends u.0 i.wanted in let want = wanted_kept v w f.0.goes.known c.walk_path.ensures.forms s u.0 i.wanted in let t : IsAnswer w y u.0 c.in-Free.slot c.in-Answer.id = c.in-Answer.ensures.visited u.0 want in
    forms_trans a w y (forms_trans a v w i.forms c.walk_path.ensures.forms) t.forms

pub returns-in-Answer-clause-places : goal.returns-in-Answer-clause-places
returns-in-Answer-clause-places g c us h = let a : View = c.args.reader.now.agent.seat.me.0 in let v : View = c.loop-r.reader.agent.seat.me.0 in let w : View = c.walk_path.new.reader.agent.seat.me.0 in let y : View = c.put.new.reader.agent.seat.me.0 in let s = c.args.wanted.now in let i = c.loop-r.invariant.1 us h in let f : FindsString v w us None = c.in-Free.ensures.finds us i.wanted in let e : IsFreeAt v w us c.in-Free.slot c.in-Free.rank = c.in-Free.ensures.ends us i.wanted in let want = wanted_kept v w f.0.goes.known c.walk_path.ensures.forms s us i.wanted in let t : IsAnswer w y us c.in-Free.slot c.in-Answer.id = c.in-Answer.ensures.visited us want in let l = looks_trans a v w i.looks f.0 in (
  goes_trans a w y [] ((us, c.in-Answer.id) ∷ []) l.goes t.goes,
  t.fixed,
  (c.in-Free.slot, t.stands, behind_kept w y c.walk_path.new.reader.belongs.5 t.goes.known us t.goes.sizes c.in-Free.slot (place_is_behind w us c.in-Free.slot c.in-Free.rank e.place)),
)

pub returns-in-Answer-clause-nothing : goal.returns-in-Answer-clause-nothing
returns-in-Answer-clause-nothing g c = let u = c.requires.wanted in let a : View = c.args.reader.now.agent.seat.me.0 in let v : View = c.loop-r.reader.agent.seat.me.0 in let w : View = c.walk_path.new.reader.agent.seat.me.0 in let y : View = c.put.new.reader.agent.seat.me.0 in let s = c.args.wanted.now in let i = c.loop-r.invariant.1 u.0 u.1 in let f : FindsString v w u.0 None = c.in-Free.ensures.finds u.0 i.wanted in let e : IsFreeAt v w u.0 c.in-Free.slot c.in-Free.rank = c.in-Free.ensures.ends u.0 i.wanted in let want = wanted_kept v w f.0.goes.known c.walk_path.ensures.forms s u.0 i.wanted in let t : IsAnswer w y u.0 c.in-Free.slot c.in-Answer.id = c.in-Answer.ensures.visited u.0 want in let l = looks_trans a v w i.looks f.0 in
    (t.nothing.0 ∙ l.used, t.nothing.1 ∙ l.words)

pub returns-in-Answer-clause-stands : goal.returns-in-Answer-clause-stands
returns-in-Answer-clause-stands g c us h = let a : View = c.args.reader.now.agent.seat.me.0 in let v : View = c.loop-r.reader.agent.seat.me.0 in let w : View = c.walk_path.new.reader.agent.seat.me.0 in let y : View = c.put.new.reader.agent.seat.me.0 in let s = c.args.wanted.now in let i = c.loop-r.invariant.1 us h in let f : FindsString v w us None = c.in-Free.ensures.finds us i.wanted in let e : IsFreeAt v w us c.in-Free.slot c.in-Free.rank = c.in-Free.ensures.ends us i.wanted in let want = wanted_kept v w f.0.goes.known c.walk_path.ensures.forms s us i.wanted in let t : IsAnswer w y us c.in-Free.slot c.in-Answer.id = c.in-Answer.ensures.visited us want in
    (t.stands, behind_kept w y c.walk_path.new.reader.belongs.5 t.goes.known us t.goes.sizes c.in-Free.slot (place_is_behind w us c.in-Free.slot c.in-Free.rank e.place))

pub returns-in-Answer-clause-loads : goal.returns-in-Answer-clause-loads
returns-in-Answer-clause-loads g c us h b m p = let a : View = c.args.reader.now.agent.seat.me.0 in let v : View = c.loop-r.reader.agent.seat.me.0 in let w : View = c.walk_path.new.reader.agent.seat.me.0 in let y : View = c.put.new.reader.agent.seat.me.0 in let s = c.args.wanted.now in let i = c.loop-r.invariant.1 us h in let f : FindsString v w us None = c.in-Free.ensures.finds us i.wanted in let e : IsFreeAt v w us c.in-Free.slot c.in-Free.rank = c.in-Free.ensures.ends us i.wanted in let want = wanted_kept v w f.0.goes.known c.walk_path.ensures.forms s us i.wanted in let t : IsAnswer w y us c.in-Free.slot c.in-Answer.id = c.in-Answer.ensures.visited us want in
    let walking = c.in-Free.ensures.walks us i.wanted b m (c.loop-r.invariant.2 us h b m p) in
    walked_put b w y us (c.in-Free.rank + 1) m c.walk_path.new.steps c.put.new.steps c.in-Free.slot 1 walking
    (subst (λ (z : HeapSize). c.in-Free.slot < z.slots) walking.sizes e.place.inside) c.in-Answer.ensures.loads (Some c.in-Answer.id) (omega arith) c.in-Answer.id refl t.stands

pub returns-in-Answer-clause-before : goal.returns-in-Answer-clause-before
returns-in-Answer-clause-before g c us h k l = let a : View = c.args.reader.now.agent.seat.me.0 in let v : View = c.loop-r.reader.agent.seat.me.0 in let w : View = c.walk_path.new.reader.agent.seat.me.0 in let y : View = c.put.new.reader.agent.seat.me.0 in let i = c.loop-r.invariant.1 us h in let f : FindsString v w us None = c.in-Free.ensures.finds us i.wanted in let e : IsFreeAt v w us c.in-Free.slot c.in-Free.rank = c.in-Free.ensures.ends us i.wanted in let low = c.loop-r.invariant.4 in let more = c.in-Free.ensures.beyond in
    let z = f.0.goes.sizes ∙ i.looks.goes.sizes in let at : rank us a.sizes.slots c.in-Free.slot ≡ c.in-Free.rank = subst (λ (x : HeapSize). rank us x.slots c.in-Free.slot ≡ c.in-Free.rank) z e.place.at in
    let ne : k ≢ c.in-Free.slot = (λ d. let same : rank us a.sizes.slots k ≡ rank us a.sizes.slots c.in-Free.slot = ap (rank us a.sizes.slots) d in omega (arith, same, at, low, more, l)) in
    c.in-Answer.ensures.loads.others k ne ∙ (c.walk_path.ensures.before us i.wanted k (subst (λ (x : HeapSize). rank us x.slots k < c.loop-r.r) (sym i.looks.goes.sizes) (omega (arith, low, l))) ∙ c.loop-r.invariant.5 us h k l)

pub returns-in-Answer-clause-apart : goal.returns-in-Answer-clause-apart
returns-in-Answer-clause-apart g c k apart = let u = c.requires.wanted in let a : View = c.args.reader.now.agent.seat.me.0 in let v : View = c.loop-r.reader.agent.seat.me.0 in let w : View = c.walk_path.new.reader.agent.seat.me.0 in let i = c.loop-r.invariant.1 u.0 u.1 in let f : FindsString v w u.0 None = c.in-Free.ensures.finds u.0 i.wanted in let e : IsFreeAt v w u.0 c.in-Free.slot c.in-Free.rank = c.in-Free.ensures.ends u.0 i.wanted in let l = looks_trans a v w i.looks f.0 in
    let ne : k ≢ c.in-Free.slot = (λ d. free_near w c.args.hashes.now c.in-Free.slot (max c.args.hash 1) (hashes_kept a w l.goes.known c.args.hashes.now c.requires.hashed) e.free
    (subst (λ (j : ℕ). IsNotedApart c.args.hashes.now j (max c.args.hash 1)) d apart)) in
    c.in-Answer.ensures.loads.others k ne ∙ (c.walk_path.ensures.apart k apart ∙ c.loop-r.invariant.6 k apart)

pub returns-in-Shut-clause-forms : goal.returns-in-Shut-clause-forms
returns-in-Shut-clause-forms g c = let u = c.requires.wanted in let a : View = c.args.reader.now.agent.seat.me.0 in let v : View = c.loop-r.reader.agent.seat.me.0 in let w : View = c.walk_path.new.reader.agent.seat.me.0 in let i = c.loop-r.invariant.1 u.0 u.1 in forms_trans a v w i.forms c.walk_path.ensures.forms

pub returns-in-Shut-clause-places : goal.returns-in-Shut-clause-places
returns-in-Shut-clause-places g c us h = let a : View = c.args.reader.now.agent.seat.me.0 in let v : View = c.loop-r.reader.agent.seat.me.0 in let w : View = c.walk_path.new.reader.agent.seat.me.0 in let i = c.loop-r.invariant.1 us h in let f : FindsString v w us None = c.in-Shut.ensures.finds us i.wanted in
    let n = c.size-n.result.slots in let slots : n ≡ a.sizes.slots = ap (λ (z : HeapSize). z.slots) ((c.size-n.ensures ∙ ap size_of c.heap.ensures) ∙ sym c.args.reader.now.belongs.1) in let l = looks_trans a v w i.looks f.0 in
    (l.goes, slots ∙ ap (λ (z : HeapSize). z.slots) (sym l.goes.sizes), c.in-Shut.ensures.ends us i.wanted)

pub returns-in-Shut-clause-nothing : goal.returns-in-Shut-clause-nothing
returns-in-Shut-clause-nothing g c = let u = c.requires.wanted in let a : View = c.args.reader.now.agent.seat.me.0 in let v : View = c.loop-r.reader.agent.seat.me.0 in let w : View = c.walk_path.new.reader.agent.seat.me.0 in let i = c.loop-r.invariant.1 u.0 u.1 in let f : FindsString v w u.0 None = c.in-Shut.ensures.finds u.0 i.wanted in
    let l = looks_trans a v w i.looks f.0 in (l.used, l.words)

pub returns-in-Shut-clause-loads : goal.returns-in-Shut-clause-loads
returns-in-Shut-clause-loads g c us h b m p = let i = c.loop-r.invariant.1 us h in c.in-Shut.ensures.walks us i.wanted b m (c.loop-r.invariant.2 us h b m p)

pub returns-in-Shut-clause-before : goal.returns-in-Shut-clause-before
returns-in-Shut-clause-before g c us h k l = let i = c.loop-r.invariant.1 us h in let low = c.loop-r.invariant.4 in
    c.walk_path.ensures.before us i.wanted k (subst (λ (z : HeapSize). rank us z.slots k < c.loop-r.r) (sym i.looks.goes.sizes) (omega (arith, low, l))) ∙ c.loop-r.invariant.5 us h k l

pub returns-in-Shut-clause-apart : goal.returns-in-Shut-clause-apart
returns-in-Shut-clause-apart g c k apart = c.walk_path.ensures.apart k apart ∙ c.loop-r.invariant.6 k apart

pub returns-clause-forms : goal.returns-clause-forms
returns-clause-forms g c = let u = c.requires.wanted in (c.loop-r.invariant.1 u.0 u.1).forms

pub returns-clause-places : goal.returns-clause-places
returns-clause-places g c us h = let a : View = c.args.reader.now.agent.seat.me.0 in let v : View = c.loop-r.reader.agent.seat.me.0 in let i = c.loop-r.invariant.1 us h in let n = c.size-n.result.slots in let e : c.loop-r.r ≡ n = (let most = c.loop-r.invariant.3 in omega arith) in
    let slots : n ≡ a.sizes.slots = ap (λ (z : HeapSize). z.slots) ((c.size-n.ensures ∙ ap size_of c.heap.ensures) ∙ sym c.args.reader.now.belongs.1) in
    (i.looks.goes, slots ∙ ap (λ (z : HeapSize). z.slots) (sym i.looks.goes.sizes), probed_all a v c.args.wanted.now us c.loop-r.r i (e ∙ slots))

pub returns-clause-nothing : goal.returns-clause-nothing
returns-clause-nothing g c = let u = c.requires.wanted in let i = c.loop-r.invariant.1 u.0 u.1 in (i.looks.used, i.looks.words)

pub returns-clause-loads : goal.returns-clause-loads
returns-clause-loads g c us h b m p = walked_all b c.loop-r.reader.agent.seat.me.0 us c.loop-r.r m c.loop-r.steps None (c.loop-r.invariant.2 us h b m p)

pub returns-clause-before : goal.returns-clause-before
returns-clause-before g c us h = c.loop-r.invariant.5 us h

pub returns-clause-apart : goal.returns-clause-apart
returns-clause-apart g c = c.loop-r.invariant.6
