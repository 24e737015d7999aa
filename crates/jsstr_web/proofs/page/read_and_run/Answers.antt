use Rattle.std.proofs.Common.{◌≡◌, ◌⊎◌, ℕ, List, refl, subst}
use Rattle.eval_tree.specs.Tree.{tree_of}
use Rattle.js_parse.specs.declared.fault.Role.TheVariants.{Main}
use Rattle.js_parse.specs.declared.fault.ParseFault.TheVariants.{Memory}
use Rattle.js_parse.specs.Spells.{Refused, Spells}
use Rattle.jsstr_web.specs.Told.{BeginsWith}
use Rattle.jsstr_web.specs.Answers.{refused, runs}
use Rattle.jsstr_web.proofs.page.read_and_run.Goals as goal

pub returns-in-Ok : goal.returns-in-Ok
returns-in-Ok c = runs (tree_of c.in-Ok.script) (subst (λ (outer : List (List ℕ)). Spells Main outer c.args.text.now (tree_of c.in-Ok.script)) c.new.ensures c.in-Ok.ensures.spells) c.run.ensures

pub returns : goal.returns
returns c = let fault = c.in-Err.fault in refused fault
    (subst (λ (outer : List (List ℕ)). (fault ≡ Memory) ⊎ Refused Main outer c.args.text.now fault) c.new.ensures c.in-Err.ensures.refused)
    c.of_fault.ensures (subst (λ (ws : List ℕ). BeginsWith ws c.args.out.now c.copy_into.new.room) c.words.ensures c.copy_into.ensures) refl
