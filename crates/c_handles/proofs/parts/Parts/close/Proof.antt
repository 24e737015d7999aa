-- `close` gives what the parts own to `from_raw`, which makes a box of it.
use contract.Running.{tables, tables_of}
use Rattle.c_handles.proofs.Walks.{◌≡◌, refl, sym, subst, ap, List, [], ◌∷◌, ◌++◌, T, Fn, Body, place, copy, assign, rv_opd, seq, return, inst_fn, Ura, Val, vptr}
use Rattle.c_handles.proofs.Walks.{has_ty, WT, SProp, ent, id⊢, ftrue, fsep, flft, ◌⊑◌, Fun, fact, Memory, Routine, WpFn, Tables, fm_of, WpFn-mono, Logic, Item}
use Rattle.c_handles.proofs.Walks.{‵, raw, ◌⊛◌, some, later, prop, at_ret, ◌$◌, ◌∵◌, !, qed, done, move, drop, use1, split, split3, join, fsplit, fjoin, feq_i}
use Rattle.c_handles.proofs.Walks.{pick, await, rewrite, regoal, suffices, whole, sub, stop, fld, no_more, and_then, of_opd, first, blocks, exec, enter, returns}
use Rattle.c_handles.proofs.Walks.{alloc_all, pass_all, free_all, look_at, get, get_in, sets, lands_last, env, no, RattleType, block_ptr, plain, heard, nothing}
use Rattle.c_handles.proofs.Walks.{only, calls_at_last, Ended, Clauses, triple_of, Triple, Contract, entered, says, Stays, stay_dropped, walk_of, ends_at}
use Rattle.c_handles.proofs.Walks.{walk_Meets, token, Goes-blank, Bx, D, R, P, B, args, box_ty, box_typed, box_out, box_in}
use Rattle.std_alloc.specs.Box.Ownership.{box_owns}
use Rattle.std_alloc.specs.contracts.boxed.Box.from_raw as g
use Rattle.std_alloc.proofs.boxed.Box.from_raw.Met as callee
use Rattle.std_alloc.proofs.boxed.Box.from_raw.Symbol as callee_name
use Rattle.c_handles.specs.contracts.parts.Parts as parts
use Rattle.c_handles.specs.contracts.parts.Parts.close as f
use Rattle.c_handles.proofs.parts.Parts.close.Statement.{statement}
use Rattle.c_handles.proofs.parts.Parts.close.Code as code

-- the code behind the `unsafe` block
abbrev after_block : Body
after_block = seq (assign (place 0 []) (rv_opd (copy (place 4 [])))) return

-- at a type and an allocator
module _ (E : Bx) where
  abbrev fn' : Fn
  fn' = inst_fn (args E) code.function

  abbrev ended : Ended
  ended = f.ended E.row E.al.row E.al.g E.al.d E.al.drops

  abbrev From : RattleType
  From = parts.the_row (R E) (P E) E.al.g

  abbrev stayed : Stays ended.signature.params ended.kept
  stayed = (stay_dropped (plain (λ _. From)) no, tt)

  module _ {M : Type 1} {𝓤 : Ura M} (𝓛 : Logic 𝓤) (at_mem : Memory → SProp 𝓤) (run : Routine → Fun 𝓤) (𝓣 : Tables 𝓤 𝓛.H) where
    abbrev c : Clauses 𝓤 ended
    c = f.clauses E.row E.al.row E.al.g E.al.d E.al.drops 𝓛 at_mem run

    abbrev G : Contract 𝓤
    G = triple_of 𝓛 (g.signature E.row E.al.row E.al.g E.al.d E.al.drops) (g.spec E.row E.al.row E.al.g E.al.d E.al.drops 𝓛 at_mem run)

    walk : Triple 𝓤 (𝓣.C (callee_name.name (args E))) G → (z : (walk_of 𝓛 ended stayed c).Ghost)
        → ent 𝓤 ((walk_of 𝓛 ended stayed c).pre z) (WpFn 𝓤 𝓛.H 𝓣.C 𝓣.Λ fn' (z.0.4.0 ++ []) ((walk_of 𝓛 ended stayed c).post z))
    walk meets z =
        let W = walk_of 𝓛 ended stayed c in
        let κs = z.0.0 in let qs = z.0.1 in let given = z.0.3.0 in let words = z.0.4.0 in
        let box : D E = record { ptr = given.ptr; alloc = given.alloc; value = given.value } in
        let tokens : Item 𝓤 = ‵ (flft κs.0 qs.0) ⊛ ‵ (flft κs.1.0 qs.1.0) ⊛ ‵ ftrue in
        let type_lives : Item 𝓤 = raw (fact 𝓤 (κs.0 ⊑ E.row.lives)) in let alloc_lives : Item 𝓤 = raw (fact 𝓤 (κs.1.0 ⊑ E.al.row.lives)) in
        qed 𝓛 ((tokens ⊛ ‵ (fsep ((B E).own_val box words) ftrue)) ∷ (type_lives ⊛ alloc_lives ⊛ ‵ ftrue) ∷ []) ∵
        split ! $ move ! (1 ∷ []) $ fsplit ! $
        box_out E ! box words (λ b o hv at is fits.
        regoal ! (λ (us : List Val). prop (WpFn 𝓤 𝓛.H 𝓣.C 𝓣.Λ fn' (us ++ []) (W.post z))) is refl $
        fjoin ! $ use1 𝓛 (‵ (box_owns (token E.al box.alloc) (R E) (block_ptr b o) box.value)) (id⊢ 𝓤 _) $
        let y : G.Ghost = ((κs, qs, tt, (box.alloc, (block_ptr b o, tt)), (hv ∷ [], (vptr b o ∷ [], tt))), box.value) in
        -- [what the box owned; the allocator; nothing beside them; the tokens; that the types live]
        enter ! _ _ _ _ _ $ alloc_all ! (λ l. pass_all ! refl (box_typed E hv b o fits, tt) $
        -- let Parts { ptr, alloc } = self;
        sets ! (of_opd ! (get_in ! (fld ! refl (stop !)) (sub ! 0 refl (whole !)))) refl (tt, tt) $
        sets ! (of_opd ! (get_in ! (fld ! refl (stop !)) (sub ! 1 refl (whole !)))) refl fits $
        first ! $ blocks ! $ sets ! (of_opd ! (get ! refl)) refl fits $
        -- Box::from_raw(alloc, ptr)
        move ! (4 ∷ []) $ split3 ! $ move ! (2 ∷ []) $ drop ! $ move ! (1 ∷ 2 ∷ []) $ join ! $ move ! (1 ∷ 0 ∷ []) $ join ! $
        move ! (2 ∷ []) $ feq_i ! (List Val) (vptr b o ∷ []) (vptr b o ∷ []) refl $ fjoin ! $ move ! (2 ∷ 0 ∷ []) $ fjoin ! $ move ! (2 ∷ 0 ∷ []) $ join ! $ join ! $
        use1 𝓛 (raw (G.pre y)) (id⊢ 𝓤 _) $
        calls_at_last ! (fm_of 𝓤 𝓛.H 𝓛.laws 𝓣) G meets y (and_then ! (get ! refl) (and_then ! (get ! refl) (no_more !))) (λ u.
        use1 𝓛 (later (some (λ (r : D E). (tokens ⊛ ‵ ((B E).own_val r (u ∷ [])))
        ⊛ some (λ (_ : Unit {0} × (Unit {0} × Unit {0})). ‵ (fsep ftrue (fsep ftrue ftrue)) ⊛ (raw (fact 𝓤 (r.value ≡ box.value)) ⊛ raw (fact 𝓤 (r.alloc ≡ box.alloc))))))) (id⊢ 𝓤 _) $
        await ! tt $ pick ! (λ r. split ! $ move ! (1 ∷ []) $ pick ! (λ _. split3 ! $ drop ! $ heard ! _ (λ same. drop ! $ split ! $ move ! (1 ∷ []) $
        -- [the box that was made; the tokens]
        box_out E ! r (u ∷ []) (λ b' o' hw at' is' fits'. box_in E ! r b' o' r.value at' refl $ rewrite ! 0 (λ (us : List Val). ‵ ((B E).own_val r us)) (sym is') refl $
        let good : T (has_ty (box_ty E) u) × WT u = subst (λ (v : Val). T (has_ty (box_ty E) v) × WT v) (sym (ap only is')) (box_typed E hw b' o' fits') in
        lands_last ! refl good $ exec ! 𝓣.C 𝓣.Λ (env fn'.locals l) after_block (at_ret (env fn'.locals l) (W.post z)) $
        sets ! (of_opd ! (get ! refl)) refl good $ returns ! (look_at ! 0 refl) $ free_all ! refl $
        suffices ! _ (ends_at 𝓛 ended stayed c z u r ((tt, (tt, tt)), tt) (tt, tt)) $ says ! same $
        nothing ! $ nothing ! $ fjoin ! $ join ! $ move ! (1 ∷ 0 ∷ []) $ join ! $ done !)))))))

pub close_spec : {M : Type 1} → statement M
unfolding tables_of
close_spec 𝓤 𝓛 𝓜 𝓡 wired X Z laws al_laws ghosts dict al_drops allocator moves =
    let E : Bx = record { row = X; laws = laws; al = record { row = Z; laws = al_laws; g = ghosts; d = dict; drops = al_drops } } in
    let 𝓣 : Tables 𝓤 𝓛.H = tables_of 𝓤 𝓛.H 𝓜 (tables 𝓤 𝓛.H 𝓜 𝓡 𝓡.env) in let fn = fn' E in
    entered 𝓤 𝓛.H (triple_of 𝓛 (ended E).signature (f.spec X Z ghosts dict al_drops 𝓛 𝓜.mem 𝓡.returns)) 𝓣.C 𝓣.Λ (f.Key.name (args E)) fn
    (code.unfolded 𝓤 𝓛.H 𝓜 𝓡 wired (X, (Z, tt)) dict al_drops)
    (walk_Meets 𝓛 (ended E) (stayed E) (Goes-blank 𝓛 2 (plain (λ _. From E)) no (λ κs x h. tt), tt) (c E 𝓛 𝓜.mem 𝓡.returns 𝓣) (WpFn 𝓤 𝓛.H 𝓣.C 𝓣.Λ fn) (WpFn-mono 𝓤 𝓛.H 𝓛.laws 𝓣 fn)
    (walk E 𝓛 𝓜.mem 𝓡.returns 𝓣 (callee.met 𝓤 𝓛 𝓜 𝓡 (code.calls-std_alloc::boxed::Box::from_raw 𝓡.env wired) X Z laws al_laws ghosts dict al_drops allocator moves)))
