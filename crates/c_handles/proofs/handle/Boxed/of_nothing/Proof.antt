-- A handle of nothing owns its two fields alone, whatever its pointer is.
use contract.Running.{tables, tables_of}
use Rattle.c_handles.proofs.Walks.{refl, List, [], ◌∷◌, ◌++◌, T, lit<, Ura, Val, vstruct, vcons, vnil, has_ty, WT, SProp, ent, emp, ftrue, fsep, Fun, Memory}
use Rattle.c_handles.proofs.Walks.{Routine, WpFn, Tables, WpFn-mono, Logic, ‵, raw, ◌⊛◌, prop, ◌$◌, ◌∵◌, !, qed, done, move, keep, drop, use1, split, join}
use Rattle.c_handles.proofs.Walks.{fsplit, fjoin, fpack, feq_l, feq_i, regoal, suffices, id⊢, agg, no_more, and_then, enter, returns, alloc_all, pass_all}
use Rattle.c_handles.proofs.Walks.{free_all, look_at, get, sets, yes, Valss, Ptr, RawPtr, block_ptr, null_ptr, ptr_val, Slot, plain, nothing, within, shape, to}
use Rattle.c_handles.proofs.Walks.{Clauses, triple_of, entered, says, Stays, stay_dropped, walk_of, ends_at, Goes-dropped, walk_Meets, α, Fits, handle_tells}
use Rattle.c_handles.proofs.Walks.{box_ty}
use Rattle.core.proofs.atomic.Steps.{Ptr-Good}
use Rattle.std.specs.Prelude.{None}
use Rattle.std_alloc.proofs.ResultValues.{and_tt}
use Rattle.std_heap.specs.contracts.Global as Global
use Rattle.c_handles.specs.declared.handle.Boxed.{Boxed}
use Rattle.c_handles.specs.contracts.handle.Boxed as agent
use Rattle.c_handles.proofs.BoxedAgents.{Inner}
use Rattle.c_handles.specs.contracts.handle.Boxed.of_nothing as f
use Rattle.c_handles.proofs.handle.Boxed.of_nothing.Statement.{statement}
use Rattle.c_handles.proofs.handle.Boxed.of_nothing.Code as code

abbrev At : Slot 0
At = plain (λ _. RawPtr)

abbrev By : Slot 0
By = plain (λ _. Global.the_row)

abbrev stayed : Stays (f.ended).signature.params (f.ended).kept
stayed = (stay_dropped At yes, (stay_dropped By yes, tt))

-- the handle as the machine has it
abbrev word_of : Ptr → Val → Val
word_of p hv = vstruct (vcons (ptr_val p) (vcons hv vnil))

typed : (p : Ptr) (hv : Val) → Fits Inner.al hv → T (has_ty (box_ty Inner) (word_of p hv)) × WT (word_of p hv)
typed null_ptr hv fits = (and_tt (has_ty (α Inner.al) hv) fits.0, (record { fits = lit< tt }, (fits.1, tt)))
typed (block_ptr b o) hv fits = (and_tt (has_ty (α Inner.al) hv) fits.0, (tt, (fits.1, tt)))

module _ {M : Type 1} {𝓤 : Ura M} (𝓛 : Logic 𝓤) (at_mem : Memory → SProp 𝓤) (run : Routine → Fun 𝓤) (𝓣 : Tables 𝓤 𝓛.H) where
  abbrev c : Clauses 𝓤 f.ended
  c = f.clauses 𝓛 at_mem run

  walk : (z : (walk_of 𝓛 f.ended stayed c).Ghost) → ent 𝓤 ((walk_of 𝓛 f.ended stayed c).pre z) (WpFn 𝓤 𝓛.H 𝓣.C 𝓣.Λ code.function (z.0.4.0 ++ (z.0.4.1.0 ++ [])) ((walk_of 𝓛 f.ended stayed c).post z))
  walk z =
      let W = walk_of 𝓛 f.ended stayed c in
      let p = z.0.3.0 in let by = z.0.3.1.0 in let at_words = z.0.4.0 in let by_words = z.0.4.1.0 in
      let made : Boxed = record { ptr = p; alloc = by; value = None } in
      -- [the tokens, which are none, with the pointer and the allocator; the requires, which is none]
      qed 𝓛 ((‵ ftrue ⊛ ‵ (fsep (RawPtr.own_val p at_words) (fsep ((Global.the_row).own_val by by_words) ftrue))) ∷ raw (emp 𝓤) ∷ []) ∵
      split ! $ drop ! $ fsplit ! $ feq_l ! (λ is_at. fsplit ! $ keep ! (0 ∷ []) $ handle_tells Inner.al ! by by_words (λ hv is_by fits.
      regoal ! (λ (us : List Val). prop (WpFn 𝓤 𝓛.H 𝓣.C 𝓣.Λ code.function (us ++ (by_words ++ [])) (W.post z))) is_at refl $
      regoal ! (λ (us : List Val). prop (WpFn 𝓤 𝓛.H 𝓣.C 𝓣.Λ code.function (ptr_val p ∷ (us ++ [])) (W.post z))) is_by refl $
      -- [what the allocator owns], to which come the equations of the handle's fields, and nothing beside them
      nothing ! $ move ! (1 ∷ 0 ∷ []) $ fjoin ! $
      feq_i ! (List Val) (ptr_val p ∷ []) (ptr_val p ∷ []) refl $ fjoin ! $
      feq_i ! (List Val) (word_of p hv ∷ []) (word_of p hv ∷ []) refl $ fjoin ! $
      fpack ! (Valss (RawPtr ∷ Global.the_row ∷ [])) (within (shape agent.the_type) (to agent.the_type made) (word_of p hv ∷ [])) (ptr_val p ∷ [], (hv ∷ [], tt)) $
      nothing ! $ move ! (1 ∷ 0 ∷ []) $ fjoin ! $
      use1 𝓛 (‵ ((agent.the_row).own_val made (word_of p hv ∷ []))) (id⊢ 𝓤 _) $
      -- [the handle]
      enter ! _ _ _ _ _ $ alloc_all ! (λ l. pass_all ! refl (Ptr-Good p, (fits, tt)) $
      -- Boxed { ptr, alloc }
      sets ! (agg ! (and_then ! (get ! refl) (and_then ! (get ! refl) (no_more !)))) refl (typed p hv fits) $
      returns ! (look_at ! 0 refl) $ free_all ! refl $
      suffices ! _ (ends_at 𝓛 f.ended stayed c z (word_of p hv) made (tt, (tt, tt)) (tt, (tt, tt))) $ says ! refl $
      nothing ! $ nothing ! $ fjoin ! $ nothing ! $ fjoin ! $ join ! $ nothing ! $ join ! $ done !)))

pub of_nothing_spec : {M : Type 1} → statement M
unfolding tables_of
of_nothing_spec 𝓤 𝓛 𝓜 𝓡 wired =
    let 𝓣 : Tables 𝓤 𝓛.H = tables_of 𝓤 𝓛.H 𝓜 (tables 𝓤 𝓛.H 𝓜 𝓡 𝓡.env) in
    entered 𝓤 𝓛.H (triple_of 𝓛 f.signature (f.spec 𝓛 𝓜.mem 𝓡.returns)) 𝓣.C 𝓣.Λ f.Key.name code.function (code.unfolded 𝓤 𝓛.H 𝓜 𝓡 wired)
    (walk_Meets 𝓛 f.ended stayed (Goes-dropped 𝓛 0 At yes (λ κs x h. refl), (Goes-dropped 𝓛 0 By yes (λ κs x h. refl), tt)) (f.clauses 𝓛 𝓜.mem 𝓡.returns) (WpFn 𝓤 𝓛.H 𝓣.C 𝓣.Λ code.function)
    (WpFn-mono 𝓤 𝓛.H 𝓛.laws 𝓣 code.function) (walk 𝓛 𝓜.mem 𝓡.returns 𝓣))
