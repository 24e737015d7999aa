-- A handle that has something owns what a box of that owns, lends it, and follows the loan.
use contract.Running.{tables, tables_of}
use Rattle.c_handles.proofs.Walks.{◌≡◌, refl, sym, subst, List, [], ◌∷◌, ◌++◌, Ura, Val, vptr, SProp, ent, id⊢, Fml, ftrue, fsep, flft, Memory}
use Rattle.c_handles.proofs.Walks.{Routine, WpFn, Tables, Logic, sem, Fun, WpFn-mono, Item, ‵, raw, ◌⊛◌, some, later, await, pick, at_ret, ◌$◌, ◌∵◌}
use Rattle.c_handles.proofs.Walks.{ !, qed, move, keep, use1, split, join, rewrite, fsplit, fjoin, fpack, feq_l, suffices, done, whole, sub, stop, fld}
use Rattle.c_handles.proofs.Walks.{of_opd, first, blocks, exec, returns, enter, alloc_all, pass_all, free_all, look_at, get, sets, env, no, block_ptr}
use Rattle.c_handles.proofs.Walks.{plain, nothing, Clauses, triple_of, entered, says, Stays, stay_dropped, walk_of, ends_at, walk_Meets, token, D, B}
use Rattle.c_handles.proofs.Walks.{R, τ, word, box_out, box_in}
use Prim.Native.Nat.{ℕ}
use base.Fraction.{full_share}
use mir.Syntax.{named}
use mir.Raw.{raw as bare}
use base.Logic.{sep}
use base.Fml.{Lft, GName, Share, fobs, fbor}
use prog.Wp.{Env}
use contract.Monad.{fact_i}
use types.Kit.{⋆, by, group, fsplit3, frame}
use types.Part.{look_in}
use types.Run.{load, addr}
use types.ByLocal.{through, sets_last}
use types.SemTy.{Body as Borrowed}
use denote.RattleType.{owns}
use denote.Memory.{cell_at, part_at, part_of, mem}
use denote.Ref.{MutBor, MutRef}
use denote.Signature.{mut_ref_to}
use denote.Steps.{opens}
use denote.Follow.{follows, Part, lends_Part}
use denote.Triple.Entry.{on_entry}
use denote.Triple.Walked.{needs, Goes-spent_ref}
use Rattle.std_alloc.proofs.VecSteps.Shapes.{after}
use Rattle.std_alloc.proofs.BoxSteps.Form.{handle}
use Rattle.std.specs.Prelude.{Option, Some}
use Rattle.c_handles.specs.Lending.{with_held}
use Rattle.heap_agents.specs.Held.{IsHeld}
use Rattle.heap_agents.specs.Ready.{IsReady}
use Rattle.c_handles.proofs.Ready.{held_there}
use Rattle.heap_agents.specs.declared.held.Held.{Held}
use Rattle.heap_agents.specs.contracts.held.Held.{the_row as Inside}
use Rattle.c_handles.specs.declared.handle.Boxed.{Boxed}
use Rattle.c_handles.specs.contracts.handle.Boxed.{the_row as Handle}
use Rattle.c_handles.proofs.BoxedAgents.{Inner}
use Rattle.c_handles.specs.contracts.handle.Boxed.held as f
use Rattle.c_handles.proofs.handle.Boxed.held.Statement.{statement}
use Rattle.c_handles.proofs.handle.Boxed.held.Code as code

abbrev stayed : Stays f.ended.signature.params f.ended.kept
stayed = (stay_dropped (mut_ref_to (0 ∷ []) tt (plain (λ _. Handle))) no, tt)

module _ {M : Type 1} {𝓤 : Ura M} (𝓛 : Logic 𝓤) (at_mem : Memory → SProp 𝓤) (run : Routine → Fun 𝓤) (𝓣 : Tables 𝓤 𝓛.H) (κ : Lft) (q : Share) (rb ro : ℕ) (γ : GName) (h : Boxed) (words : List Val) where
  open 𝓛 use {H, A}

  abbrev c : Clauses 𝓤 f.ended
  c = f.clauses 𝓛 at_mem run

  abbrev self : MutBor Boxed
  self = record { ref_ptr = (rb, ro); ghost_name = γ; now = h }

  abbrev bound : (walk_of 𝓛 f.ended stayed c).Ghost
  bound = (((κ, tt), (q, tt), tt, (self, tt), (words, tt)), tt)

  abbrev Post : Val → SProp 𝓤
  Post = (walk_of 𝓛 f.ended stayed c).post bound

  module _ (b o : ℕ) (hv : Val) where
    -- all of the handle but what lies there
    abbrev Rest : Fml
    Rest = fsep (fsep (token Inner.al h.alloc (bare (τ Inner)) (block_ptr b o)) (handle Inner h.alloc hv)) (cell_at full_share Handle.mir (word Inner hv b o ∷ []) rb ro)

    back : h.ptr ≡ block_ptr b o → (w : Held) → ent 𝓤 (sep 𝓤 (sem 𝓛 ((mem Inside).own_at w b o)) (sem 𝓛 Rest)) (sem 𝓛 ((mem Handle).own_at (with_held h w) rb ro))
    unfolding part_of
    back at_b w =
        qed 𝓛 (‵ (part_at (R Inner) full_share w b o) ∷ ‵ Rest ∷ []) ∵ move ! (1 ∷ []) $ fsplit ! $ fsplit ! $ move ! (3 ∷ []) $
        box_in Inner ! (record { ptr = h.ptr; alloc = h.alloc; value = w }) b o w at_b refl $
        use1 𝓛 (‵ (Handle.own_val (with_held h w) (word Inner hv b o ∷ []))) (id⊢ 𝓤 _) $ move ! (1 ∷ 0 ∷ []) $ fjoin ! $
        fpack ! (List Val) (λ us. fsep (cell_at full_share Handle.mir us rb ro) (Handle.own_val (with_held h w) us)) (word Inner hv b o ∷ []) $ done !

  exits : (x : Held) → h.value ≡ Some x → IsHeld x → (b o : ℕ) (δ : GName)
      → ent 𝓤 (sep 𝓤 (sem 𝓛 ((MutRef (named 0) κ Inside).own_val (record { ref_ptr = (b, o); ghost_name = δ; now = x }) (vptr b o ∷ []))) (sep 𝓤 (A.lft κ q) (sem 𝓛 (follows Handle Inside γ δ (with_held h))))) (Post (vptr b o))
  exits x e ok b o δ =
      qed 𝓛 (‵ ((MutRef (named 0) κ Inside).own_val (record { ref_ptr = (b, o); ghost_name = δ; now = x }) (vptr b o ∷ [])) ∷ ‵ (flft κ q) ∷ ‵ (follows Handle Inside γ δ (with_held h)) ∷ []) ∵
      suffices ! _ (ends_at 𝓛 f.ended stayed c bound (vptr b o) (record { ref_ptr = (b, o); ghost_name = δ; now = x }) (tt, tt) (tt, tt)) $
      nothing ! $ nothing ! $ fjoin ! $ join ! $ nothing ! $ move ! (2 ∷ 0 ∷ []) $ join ! $ join ! $ frame ! $ frame ! $ says ! ok $ by ! (fact_i 𝓤 _ _ e)

  abbrev Had : List (Item 𝓤)
  Had = ‵ (fobs γ (Handle.coded.code h)) ∷ ‵ (fbor κ (Borrowed (mem Handle) rb ro γ)) ∷ ‵ (flft κ q) ∷ []

  walk : (x : Held) → h.value ≡ Some x → IsHeld x → ent 𝓤 (⋆ 𝓛 Had) (WpFn 𝓤 H 𝓣.C 𝓣.Λ code.function (vptr rb ro ∷ []) Post)
  walk x there ok =
      let box : D Inner = record { ptr = h.ptr; alloc = h.alloc; value = x } in
      let is = Handle.coded.code h in
      qed 𝓛 Had ∵ enter ! 𝓣.C 𝓣.Λ code.function (vptr rb ro ∷ []) _ $ alloc_all ! (λ l. pass_all ! refl ((tt, tt), tt) $
      let En : Env 𝓤 H = env code.function.locals l in
      opens ! tt Handle {h = h} rb ro (λ vs. move ! (1 ∷ []) $
      rewrite ! 0 (λ (v : Option Held). ‵ (Handle.own_val (record h { value = v }) vs)) there refl $
      use1 𝓛 (‵ ((B Inner).own_val box vs)) (id⊢ 𝓤 _) $
      box_out Inner ! box vs (λ b o hv at_b ws fits. move ! (1 ∷ 2 ∷ []) $ fjoin ! $ move ! (1 ∷ []) $
      rewrite ! 2 (λ (us : List Val). ‵ (cell_at full_share Handle.mir us rb ro)) ws refl $
      -- [what lies there; the right to free it, with the allocator; the handle's words; the open borrow; obs; auth]
      first ! $ blocks ! $ sets ! (of_opd ! (load ! (through ! refl (fld ! refl (stop !))) (look_in ! 2 (sub ! 0 refl (whole !))))) refl (tt, tt) $
      sets_last ! (addr ! (through ! refl (stop !))) refl (tt, tt) $
      exec ! 𝓣.C 𝓣.Λ En (after 1 code.function.body) (at_ret En Post) $
      sets ! (of_opd ! (get ! refl)) refl (tt, tt) $
      move ! (1 ∷ 2 ∷ []) $ fjoin ! $ move ! (2 ∷ 3 ∷ 4 ∷ 1 ∷ 0 ∷ []) $ group ! 5 $
      use1 𝓛 (later (some (λ (δ : GName). raw (Part 𝓛 Handle Inside (with_held h) (named 0) κ q rb ro b o γ (sem 𝓛 (Rest b o hv)) (back b o hv at_b) x δ))))
      (lends_Part 𝓛 Handle Inside (with_held h) (named 0) κ q rb ro b o γ (sem 𝓛 (Rest b o hv)) (back b o hv at_b) is is x) $ await ! tt $ pick ! (λ δ.
      returns ! (look_at ! 0 refl) $ free_all ! refl $ keep ! (0 ∷ []) $ by ! (exits x there ok b o δ)))))

  entry : IsReady h.value → ent 𝓤 (on_entry 𝓛 f.signature (κ, tt) (q, tt) (self, tt) (words, tt)) (WpFn 𝓤 H 𝓣.C 𝓣.Λ code.function (words ++ []) Post)
  entry ready =
      let has = held_there h.value ready in
      qed 𝓛 ((‵ (flft κ q) ⊛ ‵ ftrue) ∷ ‵ (owns (MutRef (named 0) κ Handle ∷ []) (self, tt) (words, tt)) ∷ []) ∵ split ! $ move ! (2 ∷ []) $ fsplit ! $ fsplit3 ! $ feq_l ! (λ e. keep ! (0 ∷ 1 ∷ 3 ∷ []) $
      by ! (subst (λ (ws : List Val). ent 𝓤 (⋆ 𝓛 Had) (WpFn 𝓤 H 𝓣.C 𝓣.Λ code.function (ws ++ []) Post)) (sym e) (walk has.0 has.1 has.2)))

pub held_spec : {M : Type 1} → statement M
unfolding tables_of
held_spec 𝓤 𝓛 𝓜 𝓡 wired =
    let 𝓣 : Tables 𝓤 𝓛.H = tables_of 𝓤 𝓛.H 𝓜 (tables 𝓤 𝓛.H 𝓜 𝓡 𝓡.env) in
    entered 𝓤 𝓛.H (triple_of 𝓛 f.signature (f.spec 𝓛 𝓜.mem 𝓡.returns)) 𝓣.C 𝓣.Λ f.Key.name code.function (code.unfolded 𝓤 𝓛.H 𝓜 𝓡 wired)
    (walk_Meets 𝓛 f.ended stayed (Goes-spent_ref 𝓛 1 (0 ∷ []) tt (plain (λ _. Handle)), tt) (f.clauses 𝓛 𝓜.mem 𝓡.returns) (WpFn 𝓤 𝓛.H 𝓣.C 𝓣.Λ code.function) (WpFn-mono 𝓤 𝓛.H 𝓛.laws 𝓣 code.function)
    (λ z. let s = z.0.3.0 in needs 𝓤 (IsReady s.now.value) _ (entry 𝓛 𝓜.mem 𝓡.returns 𝓣 z.0.0.0 z.0.1.0 s.ref_ptr.0 s.ref_ptr.1 s.ghost_name s.now z.0.4.0)))
