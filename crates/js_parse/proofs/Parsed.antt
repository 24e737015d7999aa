-- What is answered, from what the relations say of it.
use Rattle.std.proofs.Common.{◌≡◌, ◌∙◌, sym, ap, ℕ, List, inl, inr, Option, Some, None, Result, Ok, Err, IfOk, IfErr, MatchResult}
use Rattle.eval_tree.specs.declared.tree.Script.{Script}
use Rattle.eval_tree.specs.Tree.{Tree, tree_of}
use Rattle.js_parse.specs.declared.name_fault.NameFault.{NameFault as Told}
use Rattle.js_parse.specs.Names.{NameFault}
use Rattle.js_parse.specs.FirstFault.{fault_of, TellsFirst}
use Rattle.js_parse.specs.NameFaults.{faults_of, offers, proto_faults}
use Rattle.js_parse.specs.NameWalk.{found_of}
use Rattle.js_parse.specs.declared.fault.Role.{Role}
use Rattle.js_parse.specs.declared.fault.ParseFault.{ParseFault}
use Rattle.js_parse.specs.declared.fault.ParseFault.TheVariants as fault
use Rattle.js_parse.specs.Spells.{Spells, of_names, misnamed}
use Rattle.js_parse.specs.Told.{IsRefusal, IsTold, ParsesWith}
use Rattle.js_parse.proofs.Answered.{one_script, no_refused_script}
use Rattle.js_parse.proofs.First.{tells_first}
use Rattle.js_parse.proofs.Walks.{offers_append}

module _ (role : Role) (outer : List (List ℕ)) (bytes : List ℕ) where
  pub told_before : (f : ParseFault) → IsRefusal role bytes f → IsTold role outer bytes f
  told_before f (inl e) = inl e
  told_before f (inr h) = inr (h outer)

  -- the first fault of all, from that of the keys and of the names behind it
  tells : (x : Tree) (keyed : Option NameFault) (q : ParsesWith role bytes x keyed) (found : Option Told) → found_of found ≡ offers keyed
      (faults_of outer x) → TellsFirst outer q.parses.tables q.parses.tokens x found
  tells x keyed q found e =
      tells_first outer q.parses.tables q.parses.tokens x found
      (e ∙ ap (λ o. offers o (faults_of outer x)) q.finds ∙ sym (offers_append None (proto_faults q.parses.tables q.parses.tokens) (faults_of outer x)))

  pub spelled : (x : Tree) (keyed : Option NameFault) → ParsesWith role bytes x keyed → found_of None ≡ offers keyed (faults_of outer x) → Spells role outer bytes x
  spelled x keyed q e = record { parses = q.parses; innocent = tells x keyed q None e }

  pub told_of_names : (x : Tree) (keyed : Option NameFault) (f : Told) → ParsesWith role bytes x keyed → found_of (Some f) ≡ offers keyed
      (faults_of outer x) → IsTold role outer bytes (misnamed (fault_of f))
  told_of_names x keyed f q e = inr (of_names x (fault_of f) q.parses (tells x keyed q (Some f) e))

  -- the script that the bytes spell is the one that is answered, unless memory ran out
  pub is_found : (r : Result Script ParseFault) → IfOk r (λ s. Spells role outer bytes (tree_of s)) → IfErr r
      (IsTold role outer bytes) → (x : Tree) → Spells role outer bytes x → MatchResult r (λ s. tree_of s ≡ x) (λ f. f ≡ fault.Memory)
  is_found (Ok s) h k x p = one_script role outer bytes (tree_of s) x h p
  is_found (Err f) h (inl e) x p = e
  is_found (Err f) h (inr k) x p = absurd (no_refused_script role outer bytes x f p k)
