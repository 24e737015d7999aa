use Rattle.std.proofs.Common.{◌≡◌, ◌≢◌, ◌∙◌, ℕ, List, Some, None, refl, subst}
use Rattle.std.specs.Prelude.{max}
use Rattle.js_units.specs.Lanes.{hash_of}
use Rattle.heap_rule.specs.declared.view.View.{View}
use Rattle.heap_intern.specs.Answers.{FindsString}
use Rattle.heap_intern.specs.Hashes.{IsNotedApart}
use Rattle.heap_intern.specs.Visits.{IsFreeAt, IsPlace}
use Rattle.heap_intern.proofs.Again.{find_again}
use Rattle.heap_intern.proofs.Giving.{free_near}
use Rattle.heap_intern.proofs.Going.{forms_trans}
use Rattle.heap_intern.proofs.Hashes.{hashes_kept}
use Rattle.heap_intern.proofs.Loading.{walking_start}
use Rattle.heap_intern.proofs.Searches.{placed_finds, placed_none, placed_shut}
use Rattle.heap_intern.proofs.Visiting.{each_fixed, each_wanted, first_stands, none_passed}
use Rattle.heap_intern.proofs.Wanting.{wanted_kept}
use Rattle.heap_intern.proofs.table.strings.walk_and_put.Goals as goal

pub walk_path-requires-clause-passed : goal.walk_path-requires-clause-passed
walk_path-requires-clause-passed g c us h = none_passed c.args.reader.now.agent.seat.me.0 us

pub place-requires-clause-wanted : goal.place-requires-clause-wanted
place-requires-clause-wanted g c = let u = c.requires.wanted in let v : View = c.args.reader.now.agent.seat.me.0 in let w : View = c.walk_path.new.reader.agent.seat.me.0 in let f : FindsString v w u.0 None = c.in-Free.ensures.finds u.0 u.1 in let e : IsFreeAt v w u.0 c.in-Free.slot c.in-Free.rank = c.in-Free.ensures.ends u.0 u.1 in let want = wanted_kept v w f.0.goes.known c.walk_path.ensures.forms c.args.wanted.now u.0 u.1 in (u.0, want)

pub place-requires-clause-hash : goal.place-requires-clause-hash
place-requires-clause-hash g c = let u = c.requires.wanted in let v : View = c.args.reader.now.agent.seat.me.0 in let w : View = c.walk_path.new.reader.agent.seat.me.0 in let f : FindsString v w u.0 None = c.in-Free.ensures.finds u.0 u.1 in let e : IsFreeAt v w u.0 c.in-Free.slot c.in-Free.rank = c.in-Free.ensures.ends u.0 u.1 in let want = wanted_kept v w f.0.goes.known c.walk_path.ensures.forms c.args.wanted.now u.0 u.1 in
    each_wanted v w c.args.reader.now.belongs.5 f.0.goes.known c.walk_path.ensures.forms c.args.wanted.now u (λ (us : List ℕ). c.args.hash ≡ hash_of us) (c.requires.hash u.0 u.1)

pub place-requires-clause-hashed : goal.place-requires-clause-hashed
place-requires-clause-hashed g c = let u = c.requires.wanted in let v : View = c.args.reader.now.agent.seat.me.0 in let w : View = c.walk_path.new.reader.agent.seat.me.0 in let f : FindsString v w u.0 None = c.in-Free.ensures.finds u.0 u.1 in let e : IsFreeAt v w u.0 c.in-Free.slot c.in-Free.rank = c.in-Free.ensures.ends u.0 u.1 in let want = wanted_kept v w f.0.goes.known c.walk_path.ensures.forms c.args.wanted.now u.0 u.1 in hashes_kept v w f.0.goes.known c.args.hashes.now c.requires.hashed

pub place-requires-clause-place : goal.place-requires-clause-place
place-requires-clause-place g c = let u = c.requires.wanted in let v : View = c.args.reader.now.agent.seat.me.0 in let w : View = c.walk_path.new.reader.agent.seat.me.0 in let f : FindsString v w u.0 None = c.in-Free.ensures.finds u.0 u.1 in let e : IsFreeAt v w u.0 c.in-Free.slot c.in-Free.rank = c.in-Free.ensures.ends u.0 u.1 in let want = wanted_kept v w f.0.goes.known c.walk_path.ensures.forms c.args.wanted.now u.0 u.1 in
    each_wanted v w c.args.reader.now.belongs.5 f.0.goes.known c.walk_path.ensures.forms c.args.wanted.now u (λ (us : List ℕ). IsPlace w us c.in-Free.slot c.in-Free.rank) e.place

pub place-requires-clause-fixed : goal.place-requires-clause-fixed
place-requires-clause-fixed g c = let u = c.requires.wanted in let v : View = c.args.reader.now.agent.seat.me.0 in let w : View = c.walk_path.new.reader.agent.seat.me.0 in let f : FindsString v w u.0 None = c.in-Free.ensures.finds u.0 u.1 in let e : IsFreeAt v w u.0 c.in-Free.slot c.in-Free.rank = c.in-Free.ensures.ends u.0 u.1 in let want = wanted_kept v w f.0.goes.known c.walk_path.ensures.forms c.args.wanted.now u.0 u.1 in
    each_fixed v w c.args.reader.now.belongs.5 f.0.goes.known c.walk_path.ensures.forms c.args.wanted.now u c.args.header c.requires.fixed

pub returns-in-Ok-clause-forms : goal.returns-in-Ok-clause-forms
returns-in-Ok-clause-forms g c = forms_trans c.args.reader.now.agent.seat.me.0 c.walk_path.new.reader.agent.seat.me.0 c.place.new.reader.agent.seat.me.0 c.walk_path.ensures.forms c.place.ensures.forms

pub returns-in-Err-clause-forms : goal.returns-in-Err-clause-forms
returns-in-Err-clause-forms g c = forms_trans c.args.reader.now.agent.seat.me.0 c.walk_path.new.reader.agent.seat.me.0 c.place.new.reader.agent.seat.me.0 c.walk_path.ensures.forms c.place.ensures.forms

pub returns-in-Ok-clause-finds : goal.returns-in-Ok-clause-finds
returns-in-Ok-clause-finds g c us h = let v : View = c.args.reader.now.agent.seat.me.0 in let w : View = c.walk_path.new.reader.agent.seat.me.0 in let z : View = c.place.new.reader.agent.seat.me.0 in let f : FindsString v w us None = c.in-Free.ensures.finds us h in let e : IsFreeAt v w us c.in-Free.slot c.in-Free.rank = c.in-Free.ensures.ends us h in let want = wanted_kept v w f.0.goes.known c.walk_path.ensures.forms c.args.wanted.now us h in placed_finds v w z us c.in-Ok.seat.id f.0 c.place.ensures.nothing (c.in-Ok.ensures.places us want)

pub returns-in-Err-clause-finds : goal.returns-in-Err-clause-finds
returns-in-Err-clause-finds g c us h = let v : View = c.args.reader.now.agent.seat.me.0 in let w : View = c.walk_path.new.reader.agent.seat.me.0 in let z : View = c.place.new.reader.agent.seat.me.0 in let f : FindsString v w us None = c.in-Free.ensures.finds us h in let e : IsFreeAt v w us c.in-Free.slot c.in-Free.rank = c.in-Free.ensures.ends us h in let want = wanted_kept v w f.0.goes.known c.walk_path.ensures.forms c.args.wanted.now us h in placed_none v w z us c.in-Err._full f.0 c.place.ensures.nothing (c.in-Err.ensures.places us want)

pub returns-in-Ok-clause-loads : goal.returns-in-Ok-clause-loads
returns-in-Ok-clause-loads g c = let u = c.requires.wanted in let v : View = c.args.reader.now.agent.seat.me.0 in let w : View = c.walk_path.new.reader.agent.seat.me.0 in let f : FindsString v w u.0 None = c.in-Free.ensures.finds u.0 u.1 in let e : IsFreeAt v w u.0 c.in-Free.slot c.in-Free.rank = c.in-Free.ensures.ends u.0 u.1 in let want = wanted_kept v w f.0.goes.known c.walk_path.ensures.forms c.args.wanted.now u.0 u.1 in
    c.in-Ok.ensures.loads u.0 want v c.args.steps.now (c.in-Free.ensures.walks u.0 u.1 v c.args.steps.now (walking_start v u.0 0 c.args.steps.now))

pub returns-in-Err-clause-loads : goal.returns-in-Err-clause-loads
returns-in-Err-clause-loads g c = let u = c.requires.wanted in let v : View = c.args.reader.now.agent.seat.me.0 in let w : View = c.walk_path.new.reader.agent.seat.me.0 in let f : FindsString v w u.0 None = c.in-Free.ensures.finds u.0 u.1 in let e : IsFreeAt v w u.0 c.in-Free.slot c.in-Free.rank = c.in-Free.ensures.ends u.0 u.1 in let want = wanted_kept v w f.0.goes.known c.walk_path.ensures.forms c.args.wanted.now u.0 u.1 in
    c.in-Err.ensures.loads u.0 want v c.args.steps.now (c.in-Free.ensures.walks u.0 u.1 v c.args.steps.now (walking_start v u.0 0 c.args.steps.now))

pub returns-in-Ok-clause-first : goal.returns-in-Ok-clause-first
returns-in-Ok-clause-first g c us h first = let v : View = c.args.reader.now.agent.seat.me.0 in let w : View = c.walk_path.new.reader.agent.seat.me.0 in let f : FindsString v w us None = c.in-Free.ensures.finds us h in let e : IsFreeAt v w us c.in-Free.slot c.in-Free.rank = c.in-Free.ensures.ends us h in let want = wanted_kept v w f.0.goes.known c.walk_path.ensures.forms c.args.wanted.now us h in
    let bad : None ≡ Some first.0 = find_again v w us c.args.reader.now.belongs.5 c.walk_path.new.reader.belongs.5 first.0 first.2 (first_stands v us c.args.reader.now.belongs.5 first) None f in absurd (cc)

pub returns-in-Err-clause-first : goal.returns-in-Err-clause-first
returns-in-Err-clause-first g c us h first = let v : View = c.args.reader.now.agent.seat.me.0 in let w : View = c.walk_path.new.reader.agent.seat.me.0 in let f : FindsString v w us None = c.in-Free.ensures.finds us h in let e : IsFreeAt v w us c.in-Free.slot c.in-Free.rank = c.in-Free.ensures.ends us h in let want = wanted_kept v w f.0.goes.known c.walk_path.ensures.forms c.args.wanted.now us h in
    let bad : None ≡ Some first.0 = find_again v w us c.args.reader.now.belongs.5 c.walk_path.new.reader.belongs.5 first.0 first.2 (first_stands v us c.args.reader.now.belongs.5 first) None f in absurd (cc)

pub returns-in-Found-clause-first : goal.returns-in-Found-clause-first
returns-in-Found-clause-first g c us h first = c.walk_path.ensures.first refl us h first

pub returns-in-Shut-clause-first : goal.returns-in-Shut-clause-first
returns-in-Shut-clause-first g c us h first = c.walk_path.ensures.first refl us h first

pub returns-in-Ok-clause-ends : goal.returns-in-Ok-clause-ends
returns-in-Ok-clause-ends g c us h = let v : View = c.args.reader.now.agent.seat.me.0 in let w : View = c.walk_path.new.reader.agent.seat.me.0 in let f : FindsString v w us None = c.in-Free.ensures.finds us h in let e : IsFreeAt v w us c.in-Free.slot c.in-Free.rank = c.in-Free.ensures.ends us h in let want = wanted_kept v w f.0.goes.known c.walk_path.ensures.forms c.args.wanted.now us h in c.in-Ok.ensures.stands us want

pub returns-in-Err-clause-ends : goal.returns-in-Err-clause-ends
returns-in-Err-clause-ends g c us h = let v : View = c.args.reader.now.agent.seat.me.0 in let w : View = c.walk_path.new.reader.agent.seat.me.0 in let z : View = c.place.new.reader.agent.seat.me.0 in let f : FindsString v w us None = c.in-Free.ensures.finds us h in let e : IsFreeAt v w us c.in-Free.slot c.in-Free.rank = c.in-Free.ensures.ends us h in let want = wanted_kept v w f.0.goes.known c.walk_path.ensures.forms c.args.wanted.now us h in placed_shut w z us c.in-Err._full (c.in-Err.ensures.places us want)

pub returns-in-Ok-clause-apart : goal.returns-in-Ok-clause-apart
returns-in-Ok-clause-apart g c k apart = let u = c.requires.wanted in let v : View = c.args.reader.now.agent.seat.me.0 in let w : View = c.walk_path.new.reader.agent.seat.me.0 in let f : FindsString v w u.0 None = c.in-Free.ensures.finds u.0 u.1 in let e : IsFreeAt v w u.0 c.in-Free.slot c.in-Free.rank = c.in-Free.ensures.ends u.0 u.1 in let want = wanted_kept v w f.0.goes.known c.walk_path.ensures.forms c.args.wanted.now u.0 u.1 in
    let ne : k ≢ c.in-Free.slot = (λ d. free_near w c.args.hashes.now c.in-Free.slot (max c.args.hash 1) (hashes_kept v w f.0.goes.known c.args.hashes.now c.requires.hashed) e.free
    (subst (λ (j : ℕ). IsNotedApart c.args.hashes.now j (max c.args.hash 1)) d apart)) in
    c.place.ensures.apart k ne apart ∙ c.walk_path.ensures.apart k apart

pub returns-in-Err-clause-apart : goal.returns-in-Err-clause-apart
returns-in-Err-clause-apart g c k apart = let u = c.requires.wanted in let v : View = c.args.reader.now.agent.seat.me.0 in let w : View = c.walk_path.new.reader.agent.seat.me.0 in let f : FindsString v w u.0 None = c.in-Free.ensures.finds u.0 u.1 in let e : IsFreeAt v w u.0 c.in-Free.slot c.in-Free.rank = c.in-Free.ensures.ends u.0 u.1 in let want = wanted_kept v w f.0.goes.known c.walk_path.ensures.forms c.args.wanted.now u.0 u.1 in
    let ne : k ≢ c.in-Free.slot = (λ d. free_near w c.args.hashes.now c.in-Free.slot (max c.args.hash 1) (hashes_kept v w f.0.goes.known c.args.hashes.now c.requires.hashed) e.free
    (subst (λ (j : ℕ). IsNotedApart c.args.hashes.now j (max c.args.hash 1)) d apart)) in
    c.place.ensures.apart k ne apart ∙ c.walk_path.ensures.apart k apart
