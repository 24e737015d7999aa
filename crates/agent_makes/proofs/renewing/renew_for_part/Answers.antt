use Rattle.std.proofs.Common.{◌-◌, ◌<◌, ◌⊎◌, ℕ, length, refl, subst}
use Rattle.agent_makes.specs.Preparing.{Prepares}
use Rattle.agent_makes.specs.Spending.{IsRenewalDue, RenewsForPart, most_words}
use Rattle.agent_makes.proofs.Renewed.{due_after, due_before, prepared_after, prepares_after}
use Rattle.agent_makes.proofs.renewing.renew_for_part.Goals as goal

pub returns-clause-prepared : goal.returns-clause-prepared
returns-clause-prepared c = let e = c.length-n.ensures in prepared_after c.args.agent.now c.length-n.new.agent c.renew_for.new.agent e.leaves e.marked c.renew_for.ensures.prepared

pub returns-clause-renews : goal.returns-clause-renews
returns-clause-renews c us h = let x = c.args.agent.now in let y = c.length-n.new.agent in let e = c.length-n.ensures in
    let n : ℕ = most_words (c.args.to - c.args.from) in
    let side : (0 < c.args.from) ⊎ (c.args.to < length us) = subst (λ (k : ℕ). (0 < c.args.from) ⊎ (c.args.to < k)) (e.length us h) (c.if-not-is_part.ensures.0 refl) in
    prepares_after x y e.leaves e.reads e.marked (RenewsForPart x c.args.from c.args.to us) (IsRenewalDue y n) c.renew_for.new.agent n
    (λ d. due_after x y e.leaves e.reads e.marked n d.1) (λ d. (side, due_before x y e.leaves e.reads e.marked n d))
    (subst (λ (k : ℕ). Prepares (IsRenewalDue y k) y c.renew_for.new.agent k) c.most_words.ensures c.renew_for.ensures.renews)
