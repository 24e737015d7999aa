use Rattle.std.proofs.Common.{◌≡◌, ap, ◌∙◌, arith}
use Rattle.js_item.specs.Puts.{width, with_value}
use Rattle.js_item.specs.Views.{content_of, fields_of}
use Rattle.js_item.proofs.Members.{fields_replace}
use Rattle.js_item.proofs.Finding.{width_is}
use Rattle.js_item.proofs.item.Object.replace.Goals as goal

pub index_mut-member-requires : goal.index_mut-member-requires
index_mut-member-requires g c =
    let w : width (fields_of c.self.inside.members.items) ≡ width c.args.self.now = ap width c.self.view_is in
    omega (arith, w, width_is c.self.inside.members.items, c.requires)

pub returns : goal.returns
returns g c =
    let w : width (fields_of c.self.inside.members.items) ≡ width c.args.self.now = ap width c.self.view_is in
    fields_replace c.self.inside.members.items c.args.place c.index_mut-member.result.now c.args.value
    (omega (arith, w, width_is c.self.inside.members.items, c.requires)) c.index_mut-member.ensures.value
    ∙ ap (λ fs. with_value c.args.place (content_of c.args.value) fs) c.self.view_is
