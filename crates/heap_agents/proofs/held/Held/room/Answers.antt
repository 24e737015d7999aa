use Rattle.std.proofs.Common.{◌≡◌, ◌≤◌, Option, Some, ap, refl, subst, sym, ◌∙◌}
use Rattle.std.specs.Arc.{arc_value}
use Rattle.heap_rule.specs.declared.view.View.{View}
use Rattle.heap_rule.specs.declared.size.HeapSize.{HeapSize}
use Rattle.heap_rule.specs.declared.size.Counter.TheVariants.{Ids, Words}
use Rattle.heap_rule.specs.Claims.{loaded_counter}
use Rattle.heap_agents.specs.Room.{IsCounterAt}
use Rattle.heap_ids.specs.Sets.{set_size}
use Rattle.heap_agents.specs.Shared.{SharedText, size_if, view_if}
use Rattle.heap_intern.proofs.Going.{counted_known}
use Rattle.heap_agents.proofs.Marks.{counted_own, held_counted, kept_marks, same_text, told}
use Rattle.heap_agents.proofs.held.Held.room.Goals as goal

pub returns : goal.returns
returns c = let x = c.args.self.now in let t = c.in-Some.text in let e = c.look.ensures in let u : SharedText = c.look.new.text in
    let r = c.look.result in let heap = ap arc_value e.kept.heap in record {
      held = held_counted x t u c.in-Some.is heap e.kept.limit _ c.requires e.view (counted_known _ _ _) (λ us i h. h) refl (counted_own _ _ _);
      same = same_text x t u c.in-Some.is heap e.kept.limit;
      marks = kept_marks x (Some u);
      marked = (refl, refl);
      view = told x t u c.in-Some.is (λ (a b : View). b ≡ loaded_counter (loaded_counter a Ids r.0) Words r.1) e.view;
      ids = subst (λ (o : Option SharedText). IsCounterAt (view_if o).low.ids (view_if o).used.ids (size_if o).ids r.0) (sym c.in-Some.is)
          (e.ids.grown, e.ids.used, subst (λ (z : HeapSize). r.0 ≤ z.ids) t.reader.belongs.1 e.ids.within);
      words = subst (λ (o : Option SharedText). IsCounterAt (view_if o).low.words (view_if o).used.words (size_if o).words r.1) (sym c.in-Some.is)
          (e.words.grown, e.words.used, subst (λ (z : HeapSize). r.1 ≤ z.words) t.reader.belongs.1 e.words.within);
      size = e.size ∙ sym (ap size_if c.in-Some.is);
      seen = c.count.ensures ∙ ap (λ (z : HeapSize). set_size x.interned z.ids) (e.size ∙ sym (ap size_if c.in-Some.is));
    }
