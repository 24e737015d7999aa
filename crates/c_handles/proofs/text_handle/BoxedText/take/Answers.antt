use Rattle.std.proofs.Common.{ap, ◌∙◌}
use Rattle.c_handles.specs.declared.text_handle.BoxedText.{BoxedText}
use Rattle.c_handles.proofs.text_handle.BoxedText.take.Goals as goal

pub into_box-requires : goal.into_box-requires
into_box-requires c = (c.requires.0, ap (λ (h : BoxedText). h.value) c.replace.ensures.value ∙ c.requires.1)
