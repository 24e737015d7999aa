use Rattle.std.proofs.Common.{◌+◌, ◌∙◌, arith, length, refl, subst, ℕ}
use Rattle.std.proofs.lemmas.Bool.{false≢true}
use Rattle.heap_read.specs.Reads.{OnlyLoads}
use Rattle.heap_read.proofs.Loaded.{reads_trans}
use Rattle.heap_agents.specs.Held.{LeavesStrings, MarksNothing, view_by}
use Rattle.agent_makes.specs.Preparing.{Prepares}
use Rattle.agent_makes.specs.Spending.{IsRenewalDue, RenewsForBoth, most_words}
use Rattle.agent_makes.proofs.Renewed.{due_after, due_before, key_left, leaves_trans, length_short, limit_left, prepared_after, prepared_reads, prepares_after, prepares_reads}
use Rattle.agent_makes.proofs.renewing.renew_for_both.Goals as goal

pub makes_new-requires-clause-short : goal.makes_new-requires-clause-short
makes_new-requires-clause-short c = let x = c.args.agent.now in let y = c.length-left.new.agent in let l = c.length-left.ensures.leaves in (
  length_short x c.requires.held c.args.a.id c.length-left.result c.requires.known.0 c.length-left.ensures.length,
  length_short y l.held c.args.b.id c.length-right.result (key_left x y l c.args.b.id c.requires.known.1) c.length-right.ensures.length,
)

pub returns-clause-prepared : goal.returns-clause-prepared
returns-clause-prepared c = let x = c.args.agent.now in let y = c.length-left.new.agent in let w = c.length-right.new.agent in let e = c.length-left.ensures in let f = c.length-right.ensures in
    prepared_after x y c.renew_for.new.agent e.leaves e.marked (prepared_after y w c.renew_for.new.agent f.leaves f.marked c.renew_for.ensures.prepared)

pub returns-then-not-makes_new-clause-prepared : goal.returns-then-not-makes_new-clause-prepared
returns-then-not-makes_new-clause-prepared c = let x = c.args.agent.now in let y = c.length-left.new.agent in let w = c.length-right.new.agent in
    let e = c.length-left.ensures in let f = c.length-right.ensures in prepared_after x y w e.leaves e.marked (prepared_reads y w f.leaves f.marked)

pub returns-then-not-makes_new-clause-renews : goal.returns-then-not-makes_new-clause-renews
returns-then-not-makes_new-clause-renews c us vs h k = let x = c.args.agent.now in let y = c.length-left.new.agent in let w = c.length-right.new.agent in
    let e = c.length-left.ensures in let f = c.length-right.ensures in
    let l : LeavesStrings x w = leaves_trans x y w e.leaves f.leaves in let r : OnlyLoads (view_by x) (view_by w) = reads_trans (view_by x) (view_by y) (view_by w) e.reads f.reads in
    let m : MarksNothing x w = (f.marked.0 ∙ e.marked.0, f.marked.1 ∙ e.marked.1) in
    let left = e.length us h in let right = f.length vs (e.leaves.continues.known.units c.args.b.id vs k) in let most = limit_left x w l in
    prepares_reads x w l r m (RenewsForBoth x us vs) (most_words (length us + length vs))
    (λ d. let d0 = d.0 in let d1 = d.1 in let d2 = d.2 in false≢true (c.if-not-makes_new.ensures.1 (omega (arith, left, right, most, d0), omega (arith, left, d1), omega (arith, right, d2))))

pub returns-clause-renews : goal.returns-clause-renews
returns-clause-renews c us vs h k = let x = c.args.agent.now in let y = c.length-left.new.agent in let w = c.length-right.new.agent in
    let e = c.length-left.ensures in let f = c.length-right.ensures in
    let l : LeavesStrings x w = leaves_trans x y w e.leaves f.leaves in let r : OnlyLoads (view_by x) (view_by w) = reads_trans (view_by x) (view_by y) (view_by w) e.reads f.reads in
    let m : MarksNothing x w = (f.marked.0 ∙ e.marked.0, f.marked.1 ∙ e.marked.1) in
    let left = e.length us h in let right = f.length vs (e.leaves.continues.known.units c.args.b.id vs k) in let most = limit_left x w l in
    let fit = c.if-not-makes_new.ensures.0 refl in let f0 = fit.0 in let f1 = fit.1 in let f2 = fit.2 in let n : ℕ = most_words (length us + length vs) in
    prepares_after x w l r m (RenewsForBoth x us vs) (IsRenewalDue w n) c.renew_for.new.agent n
    (λ d. due_after x w l r m n d.3) (λ d. (omega (arith, left, right, most, f0), omega (arith, left, f1), omega (arith, right, f2), due_before x w l r m n d))
    (subst (λ (i : ℕ). Prepares (IsRenewalDue w i) w c.renew_for.new.agent i) (c.most_words.ensures ∙ (λ i. most_words (left i + right i))) c.renew_for.ensures.renews)
