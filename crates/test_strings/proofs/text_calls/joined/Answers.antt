use Rattle.std.proofs.Common.{◌++◌, ℕ, List}
use Rattle.heap_rule.specs.declared.view.View.{View}
use Rattle.heap_rule.specs.Maps.{Has, HasKey}
use Rattle.heap_rule.proofs.MapLemmas.{has_key, key_of}
use Rattle.heap_text.proofs.Settled.{ok_then}
use Rattle.test_strings.proofs.text_calls.joined.Goals as goal

pub returns-clause-known : goal.returns-clause-known
returns-clause-known c = let v : View = c.args.text.now.reader.agent.seat.me.0 in let w : View = c.concat.new.self.reader.agent.seat.me.0 in
    let p = has_key v.units c.args.a.id c.requires.left in let q = has_key v.units c.args.b.id c.requires.right in
    ok_then c.concat.result (λ s. (us vs : List ℕ) → Has v.units c.args.a.id us → Has v.units c.args.b.id vs → Has w.units s.id (us ++ vs))
    (λ s. HasKey w.units s.id) (λ s h. key_of w.units s.id (p.0 ++ q.0) (h p.0 q.0 p.1 q.1)) c.concat.ensures.units
