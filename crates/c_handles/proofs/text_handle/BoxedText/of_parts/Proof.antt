-- Both fields of the parts go into the handle, and what the parts own is what the handle owns.
use contract.Running.{tables, tables_of}
use Rattle.c_handles.proofs.Walks.{refl, List, [], ◌∷◌, ◌++◌, Ura, Val, SProp, ent, emp, id⊢, ftrue, fsep, Fun, Memory, Routine, WpFn, Tables, WpFn-mono, Logic}
use Rattle.c_handles.proofs.Walks.{‵, raw, ◌⊛◌, prop, ◌$◌, ◌∵◌, !, qed, done, move, drop, use1, split, join, fsplit, fjoin, regoal, suffices, whole, sub, agg}
use Rattle.c_handles.proofs.Walks.{stop, fld, no_more, and_then, of_opd, enter, returns, alloc_all, pass_all, free_all, look_at, get, get_in, sets, yes, Slot}
use Rattle.c_handles.proofs.Walks.{plain, nothing, Clauses, triple_of, entered, says, Stays, stay_dropped, walk_of, ends_at, Goes-dropped, walk_Meets, D, B, word}
use Rattle.c_handles.proofs.Walks.{box_typed, box_out, box_in}
use Rattle.std.specs.Prelude.{Some}
use Rattle.std_heap.specs.contracts.Global as Global
use Rattle.std_heap.specs.contracts.GlobalAllocator.TheImpl.{ghosts}
use Rattle.heap_build.specs.contracts.builder.Builder as Text
use Rattle.c_handles.specs.contracts.parts.Parts as Parts
use Rattle.c_handles.specs.declared.text_handle.BoxedText.{BoxedText}
use Rattle.c_handles.specs.contracts.text_handle.BoxedText as agent
use Rattle.c_handles.proofs.BoxedTexts.{Inner}
use Rattle.c_handles.specs.contracts.text_handle.BoxedText.of_parts as f
use Rattle.c_handles.proofs.text_handle.BoxedText.of_parts.Statement.{statement}
use Rattle.c_handles.proofs.text_handle.BoxedText.of_parts.Code as code

abbrev From : Slot 0
From = plain (λ _. Parts.the_row Text.the_row Global.the_row ghosts)

abbrev stayed : Stays (f.ended).signature.params (f.ended).kept
stayed = (stay_dropped From yes, tt)

module _ {M : Type 1} {𝓤 : Ura M} (𝓛 : Logic 𝓤) (at_mem : Memory → SProp 𝓤) (run : Routine → Fun 𝓤) (𝓣 : Tables 𝓤 𝓛.H) where
  abbrev c : Clauses 𝓤 f.ended
  c = f.clauses 𝓛 at_mem run

  walk : (z : (walk_of 𝓛 f.ended stayed c).Ghost) → ent 𝓤 ((walk_of 𝓛 f.ended stayed c).pre z) (WpFn 𝓤 𝓛.H 𝓣.C 𝓣.Λ code.function (z.0.4.0 ++ []) ((walk_of 𝓛 f.ended stayed c).post z))
  walk z =
      let W = walk_of 𝓛 f.ended stayed c in
      let words = z.0.4.0 in
      let box : D Inner = record { ptr = z.0.3.0.ptr; alloc = z.0.3.0.alloc; value = z.0.3.0.value } in
      let made : BoxedText = record { ptr = box.ptr; alloc = box.alloc; value = Some box.value } in
      -- [the tokens, which are none, with the parts; the requires, which is none]
      qed 𝓛 ((‵ ftrue ⊛ ‵ (fsep ((B Inner).own_val box words) ftrue)) ∷ raw (emp 𝓤) ∷ []) ∵
      split ! $ drop ! $ fsplit ! $ move ! (1 ∷ 2 ∷ []) $ drop ! $ drop ! $
      box_out Inner ! box words (λ b o hv at is fits.
      regoal ! (λ (us : List Val). prop (WpFn 𝓤 𝓛.H 𝓣.C 𝓣.Λ code.function (us ++ []) (W.post z))) is refl $
      box_in Inner ! box b o box.value at refl $
      use1 𝓛 (‵ ((agent.the_row).own_val made (word Inner hv b o ∷ []))) (id⊢ 𝓤 _) $
      -- [the handle]
      enter ! _ _ _ _ _ $ alloc_all ! (λ l. pass_all ! refl (box_typed Inner hv b o fits, tt) $
      -- let Parts { ptr, alloc } = parts;
      sets ! (of_opd ! (get_in ! (fld ! refl (stop !)) (sub ! 0 refl (whole !)))) refl (tt, tt) $
      sets ! (of_opd ! (get_in ! (fld ! refl (stop !)) (sub ! 1 refl (whole !)))) refl fits $
      -- Boxed { ptr, alloc }
      sets ! (agg ! (and_then ! (get ! refl) (and_then ! (get ! refl) (no_more !)))) refl (box_typed Inner hv b o fits) $
      returns ! (look_at ! 0 refl) $ free_all ! refl $
      suffices ! _ (ends_at 𝓛 f.ended stayed c z (word Inner hv b o) made (tt, tt) (tt, tt)) $ says ! refl $
      nothing ! $ nothing ! $ fjoin ! $ join ! $ nothing ! $ join ! $ done !))

pub of_parts_spec : {M : Type 1} → statement M
unfolding tables_of
of_parts_spec 𝓤 𝓛 𝓜 𝓡 wired =
    let 𝓣 : Tables 𝓤 𝓛.H = tables_of 𝓤 𝓛.H 𝓜 (tables 𝓤 𝓛.H 𝓜 𝓡 𝓡.env) in
    entered 𝓤 𝓛.H (triple_of 𝓛 f.signature (f.spec 𝓛 𝓜.mem 𝓡.returns)) 𝓣.C 𝓣.Λ f.Key.name code.function (code.unfolded 𝓤 𝓛.H 𝓜 𝓡 wired)
    (walk_Meets 𝓛 f.ended stayed (Goes-dropped 𝓛 0 From yes (λ κs x h. refl), tt) (f.clauses 𝓛 𝓜.mem 𝓡.returns) (WpFn 𝓤 𝓛.H 𝓣.C 𝓣.Λ code.function)
    (WpFn-mono 𝓤 𝓛.H 𝓛.laws 𝓣 code.function) (walk 𝓛 𝓜.mem 𝓡.returns 𝓣))
