use Rattle.std.proofs.Common.{◌≡◌, ◌∙◌, ◌+◌, ℕ, length, get_or, ap, subst, sym, arith}
use Rattle.std.specs.FinMap.{FinMap}
use Rattle.std.specs.Ordering.{nat_cmp}
use Rattle.js_header.specs.declared.form.Form.{Form}
use Rattle.js_header.specs.declared.form.Form.TheVariants.{Cons}
use Rattle.heap_rule.specs.declared.view.View.{View}
use Rattle.heap_rule.specs.Maps.{Has}
use Rattle.heap_read.specs.Filling.{IsFilled, own_word}
use Rattle.heap_text.specs.Filling.{units_at}
use Rattle.heap_text.proofs.filling.fill_right.Goals as goal

-- the same string on both sides
pub fill_again-requires-clause-short : goal.fill_again-requires-clause-short
fill_again-requires-clause-short g c = let v : View = c.args.reader.now.agent.seat.me.0 in
    let half : c.args.m ≡ c.args.n = sym c.requires.before ∙ (ap (λ (j : ℕ). length (units_at v j)) c.if-left-right.true ∙ c.requires.count) in omega (arith, half, c.requires.short)

pub fill_again-requires-clause-own : goal.fill_again-requires-clause-own
fill_again-requires-clause-own g c o l k = let v : View = c.args.reader.now.agent.seat.me.0 in
    let half : c.args.m ≡ c.args.n = sym c.requires.before ∙ (ap (λ (j : ℕ). length (units_at v j)) c.if-left-right.true ∙ c.requires.count) in c.requires.own o (omega (arith, half, k))

pub returns-then-left-right-clause-above : goal.returns-then-left-right-clause-above
returns-then-left-right-clause-above g c q b l r less h = subst (λ (m : FinMap nat_cmp Form). Has m q (Cons b l r)) (sym c.fill_again.ensures.forms.0) h

pub returns-then-left-right-clause-filled : goal.returns-then-left-right-clause-filled
returns-then-left-right-clause-filled g c = let v : View = c.args.reader.now.agent.seat.me.0 in let x : View = c.fill_again.new.reader.agent.seat.me.0 in let to = c.args.to in
    let half : c.args.m ≡ c.args.n = sym c.requires.before ∙ (ap (λ (j : ℕ). length (units_at v j)) c.if-left-right.true ∙ c.requires.count) in
    let none : 0 + c.args.m ≡ c.args.m = omega arith in
    subst (λ (k : ℕ). IsFilled to.wide to.start (own_word v.own_words) (own_word x.own_words) k c.args.n (λ k. get_or (units_at v c.args.right) k 0)) none
    (subst (λ (k : ℕ). IsFilled to.wide to.start (own_word v.own_words) (own_word x.own_words) (0 + c.args.m) k (λ k. get_or (units_at v c.args.right) k 0)) half
    (subst (λ (j : ℕ). IsFilled to.wide to.start (own_word v.own_words) (own_word x.own_words) (0 + c.args.m) c.args.m (λ k. get_or (units_at v j) k 0)) c.if-left-right.true c.fill_again.ensures.filled))

pub returns-then-left-right-clause-loads : goal.returns-then-left-right-clause-loads
returns-then-left-right-clause-loads g c l j e = omega (arith, e, c.fill_again.ensures.forms.1)

pub returns-clause-loads : goal.returns-clause-loads
returns-clause-loads g c l j e = omega (arith, e, c.fill.ensures.loads)
