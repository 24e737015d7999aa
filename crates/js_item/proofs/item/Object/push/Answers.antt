use Rattle.std.proofs.Common.{ap, ◌∙◌}
use Rattle.js_item.specs.Contents.{add}
use Rattle.js_item.specs.Views.{content_of, fields_of}
use Rattle.js_item.proofs.Members.{fields_push}
use Rattle.js_item.proofs.item.Object.push.Goals as goal

pub returns-clause-added : goal.returns-clause-added
returns-clause-added g c =
    let m = c.args.member in
    ap fields_of c.in_ok-push.ensures.items ∙ (fields_push c.self.inside.members.items m ∙ ap (λ fs. add m.key (content_of m.value) fs) c.self.view_is)
