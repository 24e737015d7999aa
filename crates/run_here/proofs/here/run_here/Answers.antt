use Rattle.std.proofs.Common.{◌∷◌, [], None, subst}
use Rattle.js_store.specs.State.{State}
use Rattle.eval_tree.specs.Tree.{tree_of}
use Rattle.heap_rule.specs.declared.size.HeapSize.{HeapSize}
use Rattle.heap_session.specs.Sessions.{SessionFrame}
use Rattle.run_program.specs.declared.ran.Ran.{Ran}
use Rattle.run_program.specs.Ran.{state_kept, tree_if}
use Rattle.run_program.specs.Stages.{IsRunOver}
use Rattle.run_program.proofs.Telling.{is_ran}
use Rattle.run_here.specs.Here.{one_agent}
use Rattle.run_here.proofs.here.run_here.Goals as goal

pub returns : goal.returns
returns c = let r = c.run_on-first in let prelude = tree_if c.args.prelude in let setup = one_agent c.args.size c.args.limit in let trees = tree_of c.args.script.now ∷ [] in
    let ran : Ran = record { prelude = r.result.0; scripts = r.new.places; interned = None; kept = record { heap = c.in-Ok.heap; agent = r.result.1 } } in
    let s : State SessionFrame = state_kept setup ran.kept in
    let told : IsRunOver setup s prelude trees ran.prelude ran.scripts.items None =
    subst (λ (z : HeapSize). IsRunOver (one_agent z c.args.limit) s prelude trees ran.prelude ran.scripts.items None) c.in-Ok.ensures.size r.ensures.told in record {
      ran = is_ran setup prelude trees ran c.in-Ok.ensures.size r.ensures.belongs told;
      told = told;
      left = r.ensures.left;
    }
