use Rattle.std.proofs.Common.{List, ◌∷◌, [], sym, subst, None}
use Rattle.eval_tree.specs.Tree.{tree_of}
use Rattle.eval_scopes.specs.Seen.{bounds_of}
use Rattle.heap_session.specs.Sessions.{state_in}
use Rattle.run_program.specs.declared.job.Outcome.{Outcome}
use Rattle.run_program.specs.Stages.{HaveRunFrom}
use Rattle.run_here.specs.Left.{HasLeftFrom}
use Rattle.run_here.proofs.Leaving.{left_alone, one_place, ran_alone}
use Rattle.run_here.proofs.files.run_alone.Goals as goal

pub returns-clause-ran : goal.returns-clause-ran
returns-clause-ran c = let r = c.run_one in let a = state_in c.args.session.now in let b = state_in r.new.session in
    subst (λ (os : List Outcome). HaveRunFrom a b None (tree_of c.args.script.now ∷ []) None os) (sym (one_place c.args.places.now.items r.result c.requires.one))
    (ran_alone a b c.args.script.now r.result r.ensures.index r.ensures.grows c.args.env.now r.new.env r.ensures.meaning c.requires.none c.requires.unused)

pub returns-clause-left : goal.returns-clause-left
returns-clause-left c = let r = c.run_one in let a = state_in c.args.session.now in let b = state_in r.new.session in
    subst (λ (os : List Outcome). HasLeftFrom a b None (tree_of c.args.script.now) (bounds_of r.new.env) os) (sym (one_place c.args.places.now.items r.result c.requires.one))
    (left_alone a b c.args.script.now r.result r.ensures.index r.ensures.grows c.args.env.now r.new.env r.ensures.meaning c.requires.none)
