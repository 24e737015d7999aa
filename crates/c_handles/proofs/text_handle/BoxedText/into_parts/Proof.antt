-- Both fields of the handle go into the parts. By the `requires` the handle has something, and owns what a box of that owns.
use contract.Running.{tables, tables_of}
use Rattle.c_handles.proofs.Walks.{◌≡◌, refl, List, [], ◌∷◌, ◌++◌, Ura, Val, SProp, ent, id⊢, ftrue, fsep, Fun, fact, Memory, Routine, WpFn, Tables, WpFn-mono}
use Rattle.c_handles.proofs.Walks.{Logic, ‵, raw, ◌⊛◌, prop, ◌$◌, ◌∵◌, !, qed, done, move, drop, use1, split, join, fsplit, fjoin, rewrite, regoal, suffices}
use Rattle.c_handles.proofs.Walks.{whole, sub, agg, stop, fld, no_more, and_then, of_opd, enter, returns, alloc_all, pass_all, free_all, look_at, get, get_in}
use Rattle.c_handles.proofs.Walks.{sets, yes, Slot, plain, heard, nothing, Clauses, triple_of, entered, says, Stays, stay_dropped, walk_of, ends_at, Goes-dropped}
use Rattle.c_handles.proofs.Walks.{walk_Meets, D, B, word, box_typed, box_out, box_in}
use Rattle.std.specs.Prelude.{Option, Some}
use Rattle.std_heap.specs.contracts.Global as Global
use Rattle.std_heap.specs.contracts.GlobalAllocator.TheImpl.{ghosts}
use Rattle.heap_build.specs.contracts.builder.Builder as Inside
use Rattle.heap_build.specs.declared.builder.Builder.{Builder}
use Rattle.c_handles.specs.contracts.parts.Parts as parts
use Rattle.c_handles.specs.contracts.text_handle.BoxedText as agent
use Rattle.c_handles.proofs.BoxedTexts.{Inner}
use Rattle.c_handles.specs.contracts.text_handle.BoxedText.into_parts as f
use Rattle.c_handles.proofs.text_handle.BoxedText.into_parts.Statement.{statement}
use Rattle.c_handles.proofs.text_handle.BoxedText.into_parts.Code as code

abbrev From : Slot 0
From = plain (λ _. agent.the_row)

abbrev stayed : Stays (f.ended).signature.params (f.ended).kept
stayed = (stay_dropped From yes, tt)

module _ {M : Type 1} {𝓤 : Ura M} (𝓛 : Logic 𝓤) (at_mem : Memory → SProp 𝓤) (run : Routine → Fun 𝓤) (𝓣 : Tables 𝓤 𝓛.H) where
  abbrev c : Clauses 𝓤 f.ended
  c = f.clauses 𝓛 at_mem run

  walk : (z : (walk_of 𝓛 f.ended stayed c).Ghost) → ent 𝓤 ((walk_of 𝓛 f.ended stayed c).pre z) (WpFn 𝓤 𝓛.H 𝓣.C 𝓣.Λ code.function (z.0.4.0 ++ []) ((walk_of 𝓛 f.ended stayed c).post z))
  walk z =
      let W = walk_of 𝓛 f.ended stayed c in
      let handle = z.0.3.0 in let words = z.0.4.0 in
      -- [the tokens, which are none, with the handle; the requires]
      qed 𝓛 ((‵ ftrue ⊛ ‵ (fsep ((agent.the_row).own_val handle words) ftrue)) ∷ raw (fact 𝓤 ((x : Builder) × (handle.value ≡ Some x))) ∷ []) ∵
      move ! (1 ∷ []) $ heard ! _ (λ has.
      let box : D Inner = record { ptr = handle.ptr; alloc = handle.alloc; value = has.0 } in
      let To = parts.the_row Inside.the_row Global.the_row ghosts in
      let made : (To).Denot = record { ptr = box.ptr; alloc = box.alloc; value = box.value } in
      split ! $ drop ! $ fsplit ! $ move ! (1 ∷ []) $ drop ! $
      rewrite ! 0 (λ (o : Option Builder). ‵ ((agent.the_row).own_val (record handle { value = o }) words)) has.1 refl $
      use1 𝓛 (‵ ((B Inner).own_val box words)) (id⊢ 𝓤 _) $
      box_out Inner ! box words (λ b o hv at is fits.
      regoal ! (λ (us : List Val). prop (WpFn 𝓤 𝓛.H 𝓣.C 𝓣.Λ code.function (us ++ []) (W.post z))) is refl $
      box_in Inner ! box b o box.value at refl $
      use1 𝓛 (‵ ((To).own_val made (word Inner hv b o ∷ []))) (id⊢ 𝓤 _) $
      -- [the parts]
      enter ! _ _ _ _ _ $ alloc_all ! (λ l. pass_all ! refl (box_typed Inner hv b o fits, tt) $
      -- let Boxed { ptr, alloc } = self;
      sets ! (of_opd ! (get_in ! (fld ! refl (stop !)) (sub ! 0 refl (whole !)))) refl (tt, tt) $
      sets ! (of_opd ! (get_in ! (fld ! refl (stop !)) (sub ! 1 refl (whole !)))) refl fits $
      -- Parts { ptr, alloc }
      sets ! (agg ! (and_then ! (get ! refl) (and_then ! (get ! refl) (no_more !)))) refl (box_typed Inner hv b o fits) $
      returns ! (look_at ! 0 refl) $ free_all ! refl $
      suffices ! _ (ends_at 𝓛 f.ended stayed c z (word Inner hv b o) made (tt, tt) (tt, tt)) $ says ! has.1 $
      nothing ! $ nothing ! $ fjoin ! $ join ! $ nothing ! $ join ! $ done !)))

pub into_parts_spec : {M : Type 1} → statement M
unfolding tables_of
into_parts_spec 𝓤 𝓛 𝓜 𝓡 wired =
    let 𝓣 : Tables 𝓤 𝓛.H = tables_of 𝓤 𝓛.H 𝓜 (tables 𝓤 𝓛.H 𝓜 𝓡 𝓡.env) in
    entered 𝓤 𝓛.H (triple_of 𝓛 f.signature (f.spec 𝓛 𝓜.mem 𝓡.returns)) 𝓣.C 𝓣.Λ f.Key.name code.function (code.unfolded 𝓤 𝓛.H 𝓜 𝓡 wired)
    (walk_Meets 𝓛 f.ended stayed (Goes-dropped 𝓛 0 From yes (λ κs x h. refl), tt) (f.clauses 𝓛 𝓜.mem 𝓡.returns) (WpFn 𝓤 𝓛.H 𝓣.C 𝓣.Λ code.function)
    (WpFn-mono 𝓤 𝓛.H 𝓛.laws 𝓣 code.function) (walk 𝓛 𝓜.mem 𝓡.returns 𝓣))
