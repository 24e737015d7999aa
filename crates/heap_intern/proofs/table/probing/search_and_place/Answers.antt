use Rattle.std.proofs.Common.{◌≡◌, ◌∙◌, Some, None, ap, sym}
use Rattle.std.proofs.lemmas.Result.{IfOk-weaker}
use Rattle.heap_rule.specs.declared.size.HeapSize.{HeapSize}
use Rattle.heap_rule.specs.declared.view.View.{View}
use Rattle.heap_table.specs.Agents.{size_of}
use Rattle.heap_intern.specs.declared.table.searching.Opening.{Opening}
use Rattle.heap_intern.specs.Answers.{FindsString}
use Rattle.heap_intern.specs.Seats.{id_in}
use Rattle.heap_intern.specs.Visits.{IsFreeAt}
use Rattle.heap_intern.specs.Wanted.{wanted_plan}
use Rattle.heap_intern.proofs.Again.{find_again}
use Rattle.heap_intern.proofs.Going.{forms_trans}
use Rattle.heap_intern.proofs.Hashes.{hashes_kept}
use Rattle.heap_intern.proofs.Loading.{walking_start}
use Rattle.heap_intern.proofs.Opened.{opening_apart, opening_of}
use Rattle.heap_intern.proofs.Searches.{finds_answer, shut_answer}
use Rattle.heap_intern.proofs.Visiting.{first_stands, interns_after}
use Rattle.heap_intern.proofs.Wanting.{wanted_kept}
use Rattle.heap_intern.proofs.table.probing.search_and_place.Goals as goal

pub place_new-requires-clause-wanted : goal.place_new-requires-clause-wanted
place_new-requires-clause-wanted g c = let u = c.requires.wanted in let v : View = c.args.reader.now.agent.seat.me.0 in let w : View = c.walk_ready.new.reader.agent.seat.me.0 in let o : Opening = record { slot = c.in-Free.slot; rank = c.in-Free.rank; hash = c.args.hash } in let f : FindsString v w u.0 None = c.in-Free.ensures.finds u.0 u.1 in let e : IsFreeAt v w u.0 c.in-Free.slot c.in-Free.rank = c.in-Free.ensures.ends u.0 u.1 in let want = wanted_kept v w f.0.goes.known c.walk_ready.ensures.forms c.args.wanted.now u.0 u.1 in (u.0, want, opening_of w u.0 o (c.requires.hash u.0 u.1) e.place e.free)

pub place_new-requires-clause-hashed : goal.place_new-requires-clause-hashed
place_new-requires-clause-hashed g c = let u = c.requires.wanted in let v : View = c.args.reader.now.agent.seat.me.0 in let w : View = c.walk_ready.new.reader.agent.seat.me.0 in let f : FindsString v w u.0 None = c.in-Free.ensures.finds u.0 u.1 in let e : IsFreeAt v w u.0 c.in-Free.slot c.in-Free.rank = c.in-Free.ensures.ends u.0 u.1 in let want = wanted_kept v w f.0.goes.known c.walk_ready.ensures.forms c.args.wanted.now u.0 u.1 in hashes_kept v w f.0.goes.known c.args.hashes.now c.requires.hashed

pub returns-in-Found-clause-interns : goal.returns-in-Found-clause-interns
returns-in-Found-clause-interns g c us h = let v : View = c.args.reader.now.agent.seat.me.0 in let w : View = c.walk_ready.new.reader.agent.seat.me.0 in finds_answer v w us (wanted_plan c.args.wanted.now us) c.in-Found.seat.id (c.in-Found.ensures.finds us h)

pub returns-in-Free-clause-interns : goal.returns-in-Free-clause-interns
returns-in-Free-clause-interns g c us h = let v : View = c.args.reader.now.agent.seat.me.0 in let w : View = c.walk_ready.new.reader.agent.seat.me.0 in let z : View = c.place_new.new.reader.agent.seat.me.0 in let f : FindsString v w us None = c.in-Free.ensures.finds us h in let e : IsFreeAt v w us c.in-Free.slot c.in-Free.rank = c.in-Free.ensures.ends us h in let want = wanted_kept v w f.0.goes.known c.walk_ready.ensures.forms c.args.wanted.now us h in
    interns_after v w z us (wanted_plan c.args.wanted.now us) (id_in c.place_new.result) f.0 (c.place_new.ensures.interns us want)

pub returns-in-Shut-clause-interns : goal.returns-in-Shut-clause-interns
returns-in-Shut-clause-interns g c us h = let v : View = c.args.reader.now.agent.seat.me.0 in let w : View = c.walk_ready.new.reader.agent.seat.me.0 in let f : FindsString v w us None = c.in-Shut.ensures.finds us h in
    let n : c.size.result.slots ≡ w.sizes.slots = ap (λ (x : HeapSize). x.slots) ((c.size.ensures ∙ ap size_of c.heap.ensures) ∙ sym c.walk_ready.new.reader.belongs.1) in
    shut_answer v w us (wanted_plan c.args.wanted.now us) c.size.result.slots f.0 n (c.in-Shut.ensures.ends us h)

pub returns-in-Free-clause-forms : goal.returns-in-Free-clause-forms
returns-in-Free-clause-forms g c = forms_trans c.args.reader.now.agent.seat.me.0 c.walk_ready.new.reader.agent.seat.me.0 c.place_new.new.reader.agent.seat.me.0 c.walk_ready.ensures.forms c.place_new.ensures.forms

pub returns-in-Found-clause-stands : goal.returns-in-Found-clause-stands
returns-in-Found-clause-stands g c us h = c.in-Found.ensures.ends us h

pub returns-in-Free-clause-stands : goal.returns-in-Free-clause-stands
returns-in-Free-clause-stands g c = let v : View = c.args.reader.now.agent.seat.me.0 in let w : View = c.walk_ready.new.reader.agent.seat.me.0 in
    IfOk-weaker c.place_new.result _ _ (λ s t us h. let f : FindsString v w us None = c.in-Free.ensures.finds us h in let e : IsFreeAt v w us c.in-Free.slot c.in-Free.rank = c.in-Free.ensures.ends us h in let want = wanted_kept v w f.0.goes.known c.walk_ready.ensures.forms c.args.wanted.now us h in t us want) c.place_new.ensures.stands

pub returns-in-Found-clause-ready : goal.returns-in-Found-clause-ready
returns-in-Found-clause-ready g c i is = let u = c.requires.wanted in let v : View = c.args.reader.now.agent.seat.me.0 in let w : View = c.walk_ready.new.reader.agent.seat.me.0 in let f : FindsString v w u.0 (Some c.in-Found.seat.id) = c.in-Found.ensures.finds u.0 u.1 in f.1

pub returns-in-Free-clause-ready : goal.returns-in-Free-clause-ready
returns-in-Free-clause-ready g c i is = let bad : None ≡ Some i = sym (c.in-Free.ensures.free tt) ∙ is in absurd (cc)

pub returns-in-Shut-clause-ready : goal.returns-in-Shut-clause-ready
returns-in-Shut-clause-ready g c i is = let u = c.requires.wanted in let v : View = c.args.reader.now.agent.seat.me.0 in let w : View = c.walk_ready.new.reader.agent.seat.me.0 in let f : FindsString v w u.0 None = c.in-Shut.ensures.finds u.0 u.1 in (f.0.used, f.0.words)

pub returns-in-Free-clause-loads : goal.returns-in-Free-clause-loads
returns-in-Free-clause-loads g c = let u = c.requires.wanted in let v : View = c.args.reader.now.agent.seat.me.0 in let w : View = c.walk_ready.new.reader.agent.seat.me.0 in let f : FindsString v w u.0 None = c.in-Free.ensures.finds u.0 u.1 in let e : IsFreeAt v w u.0 c.in-Free.slot c.in-Free.rank = c.in-Free.ensures.ends u.0 u.1 in let want = wanted_kept v w f.0.goes.known c.walk_ready.ensures.forms c.args.wanted.now u.0 u.1 in
    c.place_new.ensures.loads u.0 want v c.args.steps.now (c.in-Free.ensures.walks u.0 u.1 tt v c.args.steps.now (walking_start v u.0 0 c.args.steps.now))

pub returns-in-Free-clause-first : goal.returns-in-Free-clause-first
returns-in-Free-clause-first g c us h first = let v : View = c.args.reader.now.agent.seat.me.0 in let w : View = c.walk_ready.new.reader.agent.seat.me.0 in let f : FindsString v w us None = c.in-Free.ensures.finds us h in let e : IsFreeAt v w us c.in-Free.slot c.in-Free.rank = c.in-Free.ensures.ends us h in let want = wanted_kept v w f.0.goes.known c.walk_ready.ensures.forms c.args.wanted.now us h in
    let bad : None ≡ Some first.0 = find_again v w us c.args.reader.now.belongs.5 c.walk_ready.new.reader.belongs.5 first.0 first.2 (first_stands v us c.args.reader.now.belongs.5 first) None f in absurd (cc)

pub returns-in-Free-clause-apart : goal.returns-in-Free-clause-apart
returns-in-Free-clause-apart g c k apart = let u = c.requires.wanted in let v : View = c.args.reader.now.agent.seat.me.0 in let w : View = c.walk_ready.new.reader.agent.seat.me.0 in let z : View = c.place_new.new.reader.agent.seat.me.0 in let o : Opening = record { slot = c.in-Free.slot; rank = c.in-Free.rank; hash = c.args.hash } in let f : FindsString v w u.0 None = c.in-Free.ensures.finds u.0 u.1 in let e : IsFreeAt v w u.0 c.in-Free.slot c.in-Free.rank = c.in-Free.ensures.ends u.0 u.1 in let want = wanted_kept v w f.0.goes.known c.walk_ready.ensures.forms c.args.wanted.now u.0 u.1 in
    opening_apart w z u.0 c.args.hashes.now o _ (hashes_kept v w f.0.goes.known c.args.hashes.now c.requires.hashed) (opening_of w u.0 o (c.requires.hash u.0 u.1) e.place e.free) c.place_new.ensures.apart k apart
    ∙ c.walk_ready.ensures.apart k apart
