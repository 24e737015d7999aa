use Rattle.std.proofs.Common.{◌≡◌, ◌∙◌, true, false, inl, inr, ⊎_elim, sym}
use Rattle.heap_core_views.specs.Loading.{loaded_by}
use Rattle.heap_core_views.proofs.Justified.{justified_told, told_justified}
use Rattle.heap_core_views.proofs.load.Load.justifies.Goals as goal

pub returns-then-any_tells : goal.returns-then-any_tells
returns-then-any_tells c = ((λ h. told_justified (loaded_by c.args.view.now c.args.self.now) c.args.id (inl (c.any_tells.ensures.0 h))), (λ _. c.if-any_tells.true))

pub returns-else-any_tells : goal.returns-else-any_tells
returns-else-any_tells c = (
  (λ h. told_justified (loaded_by c.args.view.now c.args.self.now) c.args.id (inr (sym c.is_shown.ensures ∙ h))),
  (λ h. ⊎_elim (λ t. let e : false ≡ true = sym c.if-any_tells.false ∙ c.any_tells.ensures.1 t in absurd (cc)) (λ f. c.is_shown.ensures ∙ f)
      (justified_told (loaded_by c.args.view.now c.args.self.now) c.args.id h)),
)
