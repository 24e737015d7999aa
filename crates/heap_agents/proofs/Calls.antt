-- The calls of the string table that an agent knows, and what is its own, over a call on strings.
use Rattle.std.proofs.Common.{ℕ, ◌++◌, ⊎_elim, List, [], sym, subst}
use Rattle.std.specs.List.{Contains}
use Rattle.std.proofs.lemmas.List.Elements.{Contains-append_cases, Contains-append_left, Contains-append_right}
use Rattle.heap_rule.specs.declared.view.View.{View}
use Rattle.heap_rule.specs.Paths.{Calls}
use Rattle.heap_rule.specs.Views.{history}
use Rattle.heap_read.specs.Reads.{Continues}
use Rattle.heap_intern.specs.Goes as table
use Rattle.heap_text.specs.Texts.{KeepsOwn}
use Rattle.heap_agents.specs.Interned.{KeepsCalls}

module _ (v w : View) where
  -- what adds to the calls that are known
  pub calls_kept : (calls : Calls) → table.AddsCalls v w calls → (u : List ℕ) (i : ℕ) → Contains (history v) (u, i) → Contains (history w) (u, i)
  calls_kept calls g u i c = ⊎_elim
      (λ (a : Contains v.seen (u, i)). Contains-append_left w.seen w.mine (u, i) (subst (λ (m : Calls). Contains m (u, i)) (sym g.seen) a))
      (λ (b : Contains v.mine (u, i)). Contains-append_right w.seen w.mine (u, i) (subst (λ (m : Calls). Contains m (u, i)) (sym g.mine) (Contains-append_left v.mine calls (u, i) b)))
      (Contains-append_cases v.seen v.mine (u, i) c)

  pub own_goes : (calls : Calls) → table.AddsCalls v w calls → KeepsOwn v w
  own_goes calls g = record { ids = g.own_ids; words = g.own_words }

  -- loads alone
  pub calls_looked : table.LoadsAlone v w → KeepsCalls v w
  calls_looked l = record { calls = calls_kept [] l.goes }

  pub own_looked : table.LoadsAlone v w → KeepsOwn v w
  own_looked l = own_goes [] l.goes

-- what any other call on strings leaves
module _ (v w : View) (c : Continues v w) where
  pub continued : KeepsCalls v w
  continued = record { calls = λ u i h. subst (λ (m : Calls). Contains m (u, i)) (λ j. sym c.seen j ++ sym c.mine j) h }
