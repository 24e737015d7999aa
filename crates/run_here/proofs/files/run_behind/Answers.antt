use Rattle.std.proofs.Common.{◌≡◌, true, false, List, ◌∷◌, [], sym, subst, ◌∙◌, Some}
use Rattle.eval_tree.specs.Tree.{tree_of}
use Rattle.eval_scopes.specs.declared.binding_list.Binding.{Binding}
use Rattle.eval_scopes.specs.Seen.{bounds_of}
use Rattle.js_item.specs.declared.item.Item.{Item}
use Rattle.js_eval.specs.Evaluates.{Evaluates}
use Rattle.js_eval.specs.Script.{meaning}
use Rattle.js_eval.specs.Seen.{bounds_seen}
use Rattle.heap_read.specs.declared.string.JsStr.{JsStr}
use Rattle.heap_session.specs.Sessions.{state_in}
use Rattle.run_program.specs.declared.job.Outcome.{Outcome}
use Rattle.run_program.specs.Jobs.{number}
use Rattle.run_program.specs.Stages.{HaveRunFrom}
use Rattle.run_here.specs.Left.{HasLeftFrom}
use Rattle.run_here.proofs.Leaving.{left_behind, one_place, ran_behind, ran_stopped}
use Rattle.run_here.proofs.files.run_behind.Goals as goal

pub returns-then-not-is_done-clause-ran : goal.returns-then-not-is_done-clause-ran
returns-then-not-is_done-clause-ran c = let e = c.run_one-first in let a = state_in c.args.session.now in let b = state_in e.new.session in
    ran_stopped a b c.args.prelude.now (tree_of c.args.script.now ∷ []) e.result (bounds_seen b number (bounds_of e.new.env)) c.clear.new.self.items c.requires.unused e.ensures.grows
    (subst (λ (env : List (Binding (Item JsStr))). Evaluates a b [] e.result.lines (bounds_seen b number (bounds_of e.new.env)) e.result.end
    (meaning (tree_of c.args.prelude.now) (bounds_seen a number (bounds_of env)) a.limit)) c.requires.none e.ensures.meaning)
    (λ done. let both : true ≡ false = sym (c.is_done.ensures.1 done) ∙ c.if-not-is_done.true in cc) c.clear.ensures.items

pub returns-then-not-is_done-clause-left : goal.returns-then-not-is_done-clause-left
returns-then-not-is_done-clause-left c = let e = c.run_one-first in
    subst (λ (os : List Outcome). HasLeftFrom (state_in c.args.session.now) (state_in e.new.session) (Some (tree_of c.args.prelude.now))
    (tree_of c.args.script.now) (bounds_of e.new.env) os) (sym {A = List Outcome} c.clear.ensures.items) tt

pub returns-clause-ran : goal.returns-clause-ran
returns-clause-ran c = let e = c.run_one-first in let r = c.run_one in let a = state_in c.args.session.now in let b = state_in e.new.session in let d = state_in r.new.session in
    subst (λ (os : List Outcome). HaveRunFrom a d (Some (tree_of c.args.prelude.now)) (tree_of c.args.script.now ∷ []) (Some e.result) os)
    (sym (one_place c.args.places.now.items r.result c.requires.one))
    (ran_behind a b d c.args.prelude.now c.args.script.now e.result r.result r.ensures.index e.new.env r.new.env c.requires.unused e.ensures.grows r.ensures.grows
    (subst (λ (env : List (Binding (Item JsStr))). Evaluates a b [] e.result.lines (bounds_seen b number (bounds_of e.new.env)) e.result.end
    (meaning (tree_of c.args.prelude.now) (bounds_seen a number (bounds_of env)) a.limit)) c.requires.none e.ensures.meaning)
    (c.is_done.ensures.0 c.if-not-is_done.false) r.ensures.meaning)

pub returns-clause-left : goal.returns-clause-left
returns-clause-left c = let e = c.run_one-first in let r = c.run_one in let a = state_in c.args.session.now in let b = state_in e.new.session in let d = state_in r.new.session in
    subst (λ (os : List Outcome). HasLeftFrom a d (Some (tree_of c.args.prelude.now)) (tree_of c.args.script.now) (bounds_of r.new.env) os)
    (sym (one_place c.args.places.now.items r.result c.requires.one))
    (left_behind a b d c.args.prelude.now c.args.script.now e.result r.result r.ensures.index e.new.env r.new.env c.requires.unused e.ensures.grows r.ensures.grows
    (subst (λ (env : List (Binding (Item JsStr))). Evaluates a b [] e.result.lines (bounds_seen b number (bounds_of e.new.env)) e.result.end
    (meaning (tree_of c.args.prelude.now) (bounds_seen a number (bounds_of env)) a.limit)) c.requires.none e.ensures.meaning)
    (c.is_done.ensures.0 c.if-not-is_done.false) r.ensures.meaning)
