use Rattle.std.proofs.Common.{◌≡◌, ◌<◌, Some, ap, sym, ◌∙◌, arith}
use Rattle.js_item.specs.Puts.{width, names_key, place_by, value_by}
use Rattle.js_item.specs.Views.{content_of, fields_of}
use Rattle.js_item.specs.declared.item.Member.{Member}
use Rattle.js_item.proofs.Finding.{place_within, value_there, no_value}
use Rattle.js_item.proofs.item.Object.get.Goals as goal

pub offset_bounds-members-place : goal.offset_bounds-members-place
offset_bounds-members-place g c =
    let is = names_key (g.S.Strings.state c.args.store.now) g.S.Strings.number c.args.key in
    let within : c.in-Some.place < width c.args.self.now = place_within is c.args.self.now c.in-Some.place (sym c.in-Some.ensures.place) in
    omega (arith, within, c.members.ensures.len)

pub bounds-members-place : goal.bounds-members-place
bounds-members-place g c =
    let is = names_key (g.S.Strings.state c.args.store.now) g.S.Strings.number c.args.key in
    let within : c.in-Some.place < width c.args.self.now = place_within is c.args.self.now c.in-Some.place (sym c.in-Some.ensures.place) in
    omega (arith, within, c.members.ensures.len)

pub returns-in-Some-clause-value : goal.returns-in-Some-clause-value
returns-in-Some-clause-value g c =
    let is = names_key (g.S.Strings.state c.args.store.now) g.S.Strings.number c.args.key in
    let ms = c.members.result.now in
    let m = c.index-members-place.result in
    let at : place_by is (fields_of ms) ≡ Some c.in-Some.place = ap (place_by is) c.members.ensures.fields ∙ sym c.in-Some.ensures.place in
    sym (ap (value_by is) c.members.ensures.fields)
    ∙ value_there is ms c.in-Some.place m at c.index-members-place.is
    ∙ ap (λ (q : Member _). Some (content_of q.value)) c.index-members-place.is

pub returns-in-None-clause-value : goal.returns-in-None-clause-value
returns-in-None-clause-value g c =
    let is = names_key (g.S.Strings.state c.args.store.now) g.S.Strings.number c.args.key in
    no_value is c.args.self.now (sym c.in-None.ensures.place)
