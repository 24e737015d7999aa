use Rattle.std.proofs.Common.{ap, ◌∙◌}
use Rattle.c_handles.specs.declared.handle.Boxed.{Boxed}
use Rattle.c_handles.proofs.Ready.{something}
use Rattle.c_handles.proofs.handle.Boxed.take.Goals as goal

pub into_box-requires : goal.into_box-requires
into_box-requires c = let s = something c.args.self.now.value c.requires in (s.0, ap (λ (h : Boxed). h.value) c.replace.ensures.value ∙ s.1)
