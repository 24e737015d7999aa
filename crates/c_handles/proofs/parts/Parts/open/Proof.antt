-- `open` calls `into_raw_with_allocator`: what that hands back is what the parts own.
use contract.Running.{tables, tables_of}
use Rattle.c_handles.proofs.Walks.{◌≡◌, refl, ap, ◌∙◌, List, [], ◌∷◌, ◌++◌, Args, Dict, Fn, a_type, dcons, dnil, inst_fn, Ura, Val, vstruct, of_list, SProp, ent}
use Rattle.c_handles.proofs.Walks.{id⊢, never, fst∗, ftrue, fsep, flft, ◌⊑◌, Fun, fact, Memory, Routine, WpFn, Tables, fm_of, WpFn-mono, Logic, sem, Item, ‵, raw}
use Rattle.c_handles.proofs.Walks.{◌⊛◌, some, later, prop, ◌$◌, ◌∵◌, !, qed, done, move, drop, use1, split, split3, join, fsplit, fjoin, fpick, feq_l, pick}
use Rattle.c_handles.proofs.Walks.{await, rewrite, regoal, suffices, whole, sub, agg, stop, fld, no_more, and_then, of_opd, enter, returns, alloc_all, pass_all}
use Rattle.c_handles.proofs.Walks.{free_all, look_at, get, get_in, sets, lands_as, no, bounded, RattleType, Ptr, RawPtr, block_ptr, null_ptr, ptr_val, in_a_block}
use Rattle.c_handles.proofs.Walks.{plain, heard, nothing, only, Tuple, calls_at, Ended, Clauses, triple_of, Triple, Contract, entered, says, Stays, stay_dropped}
use Rattle.c_handles.proofs.Walks.{walk_of, ends_at, walk_Meets, token, handle_tells, Goes-blank, Bx, τ, R, P, B, word, box_typed, box_out, box_in}
use mir.Raw.{raw as bare}
use Rattle.std_alloc.specs.Box.Ownership.{box_owns}
use Rattle.std_alloc.specs.contracts.boxed.Box.into_raw_with_allocator as g
use Rattle.std_alloc.proofs.boxed.Box.into_raw_with_allocator.Met as callee
use Rattle.std_alloc.proofs.boxed.Box.into_raw_with_allocator.Symbol as callee_name
use Rattle.c_handles.specs.contracts.parts.Parts as parts
use Rattle.c_handles.specs.contracts.parts.Parts.open as f
use Rattle.c_handles.proofs.parts.Parts.open.Statement.{statement}
use Rattle.c_handles.proofs.parts.Parts.open.Code as code

-- at a type and an allocator, and what drops a value of the type
module _ (E : Bx) (drops : Dict) where
  abbrev passed : Args
  passed = bounded (a_type ∷ a_type ∷ []) (E.row, (E.al.row, tt)) (dcons E.al.d (dcons E.al.drops (dcons drops dnil)))

  abbrev fn' : Fn
  fn' = inst_fn passed code.function

  abbrev ended : Ended
  ended = f.ended E.row E.al.row E.al.g E.al.d E.al.drops drops

  abbrev stayed : Stays ended.signature.params ended.kept
  stayed = (stay_dropped (plain (λ _. B E)) no, tt)

  abbrev To : RattleType
  To = parts.the_row (R E) (P E) E.al.g

  module _ {M : Type 1} {𝓤 : Ura M} (𝓛 : Logic 𝓤) (at_mem : Memory → SProp 𝓤) (run : Routine → Fun 𝓤) (𝓣 : Tables 𝓤 𝓛.H) where
    abbrev c : Clauses 𝓤 ended
    c = f.clauses E.row E.al.row E.al.g E.al.d E.al.drops drops 𝓛 at_mem run

    abbrev G : Contract 𝓤
    G = triple_of 𝓛 (g.signature E.row E.al.row E.al.g E.al.d E.al.drops drops) (g.spec E.row E.al.row E.al.g E.al.d E.al.drops drops 𝓛 at_mem run)

    walk : Triple 𝓤 (𝓣.C (callee_name.name passed)) G → (z : (walk_of 𝓛 ended stayed c).Ghost)
        → ent 𝓤 ((walk_of 𝓛 ended stayed c).pre z) (WpFn 𝓤 𝓛.H 𝓣.C 𝓣.Λ fn' (z.0.4.0 ++ []) ((walk_of 𝓛 ended stayed c).post z))
    walk meets z =
        let W = walk_of 𝓛 ended stayed c in
        let κs = z.0.0 in let qs = z.0.1 in let box = z.0.3.0 in let words = z.0.4.0 in
        let tokens : Item 𝓤 = ‵ (flft κs.0 qs.0) ⊛ ‵ (flft κs.1.0 qs.1.0) ⊛ ‵ ftrue in
        let lives : Item 𝓤 = raw (fact 𝓤 (κs.0 ⊑ E.row.lives)) ⊛ raw (fact 𝓤 (κs.1.0 ⊑ E.al.row.lives)) ⊛ ‵ ftrue in
        qed 𝓛 ((tokens ⊛ ‵ (fsep ((B E).own_val box words) ftrue)) ∷ lives ∷ []) ∵
        split ! $ move ! (1 ∷ []) $ fsplit ! $
        box_out E ! box words (λ b o hv at is fits.
        regoal ! (λ (us : List Val). prop (WpFn 𝓤 𝓛.H 𝓣.C 𝓣.Λ fn' (us ++ []) (W.post z))) is refl $
        box_in E ! box b o box.value at refl $
        let y : G.Ghost = ((κs, qs, tt, (box, tt), (word E hv b o ∷ [], tt)), tt) in
        -- [the box; nothing beside it; the tokens; that the types live]
        enter ! _ _ _ _ _ $ alloc_all ! (λ l. pass_all ! refl (box_typed E hv b o fits, tt) $
        sets ! (of_opd ! (get ! refl)) refl (box_typed E hv b o fits) $
        -- let (ptr, alloc) = Box::into_raw_with_allocator(b);
        fjoin ! $ move ! (1 ∷ 0 ∷ []) $ join ! $ join ! $ use1 𝓛 (raw (G.pre y)) (id⊢ 𝓤 _) $
        calls_at ! (fm_of 𝓤 𝓛.H 𝓛.laws 𝓣) G meets y (and_then ! (get ! refl) (no_more !)) (λ u.
        use1 𝓛 (later (some (λ (r : Ptr × E.al.row.Denot). (tokens ⊛ ‵ ((Tuple (RawPtr ∷ P E ∷ [])).own_val r (u ∷ [])))
        ⊛ some (λ (_ : (Unit {0} × (Unit {0} × Unit {0})) × Unit {0}). ‵ (fsep (fsep ftrue (fsep ftrue ftrue)) ftrue)
        ⊛ (raw (fact 𝓤 (r.1 ≡ box.alloc)) ⊛ ‵ (box_owns (token E.al box.alloc) (R E) r.0 box.value)))))) (id⊢ 𝓤 _) $
        await ! tt $ pick ! (λ r. split ! $ move ! (1 ∷ []) $ pick ! (λ _. split3 ! $ drop ! $ heard ! _ (λ one.
        -- [what the box owned; the tokens with the pair]
        in_a_block ! r.0 (λ p. box_owns (token E.al box.alloc) (R E) p box.value) (fst∗ 𝓤 (never 𝓤) (sem 𝓛 (token E.al box.alloc (bare (τ E)) null_ptr))) (λ b' o' at'.
        move ! (1 ∷ []) $ split ! $ move ! (1 ∷ []) $ fpick ! (λ vss. fsplit ! $ feq_l ! (λ is_pair. fsplit ! $ feq_l ! (λ is_ptr. fsplit !
        $ rewrite ! 0 (λ (a : E.al.row.Denot). ‵ (E.al.row.own_val a vss.1.0)) one refl $ handle_tells E.al ! box.alloc vss.1.0 (λ hw is_handle fits'.
        let made : (To).Denot = record { ptr = block_ptr b' o'; alloc = box.alloc; value = box.value } in
        lands_as ! (ap only (is_pair ∙ (λ i. vstruct (of_list ((is_ptr ∙ ap (λ (p : Ptr). ptr_val p ∷ []) at') i ++ (is_handle i ++ []))) ∷ []))) refl (box_typed E hw b' o' fits') $
        sets ! (of_opd ! (get_in ! (fld ! refl (stop !)) (sub ! 0 refl (whole !)))) refl (tt, tt) $
        sets ! (of_opd ! (get_in ! (fld ! refl (stop !)) (sub ! 1 refl (whole !)))) refl fits' $
        -- Parts { ptr, alloc }, to which the allocator is moved first
        sets ! (of_opd ! (get ! refl)) refl fits' $
        sets ! (agg ! (and_then ! (get ! refl) (and_then ! (get ! refl) (no_more !)))) refl (box_typed E hw b' o' fits') $
        returns ! (look_at ! 0 refl) $ free_all ! refl $
        -- [the allocator; nothing beside it; the tokens; what the box owned]
        move ! (3 ∷ []) $ fsplit ! $
        box_in E ! (record { ptr = block_ptr b' o'; alloc = box.alloc; value = box.value }) b' o' box.value refl refl $
        use1 𝓛 (‵ ((To).own_val made (word E hw b' o' ∷ []))) (id⊢ 𝓤 _) $ move ! (1 ∷ []) $ drop ! $
        suffices ! _ (ends_at 𝓛 ended stayed c z (word E hw b' o') made ((tt, (tt, tt)), tt) (tt, tt)) $ says ! refl $
        nothing ! $ nothing ! $ fjoin ! $ join ! $ move ! (1 ∷ 0 ∷ []) $ join ! $ done !)))))))))))

pub open_spec : {M : Type 1} → statement M
unfolding tables_of
open_spec 𝓤 𝓛 𝓜 𝓡 wired X Z laws al_laws ghosts dict al_drops drops allocator moves dropped =
    let E : Bx = record { row = X; laws = laws; al = record { row = Z; laws = al_laws; g = ghosts; d = dict; drops = al_drops } } in
    let 𝓣 : Tables 𝓤 𝓛.H = tables_of 𝓤 𝓛.H 𝓜 (tables 𝓤 𝓛.H 𝓜 𝓡 𝓡.env) in let fn = fn' E drops in
    entered 𝓤 𝓛.H (triple_of 𝓛 (ended E drops).signature (f.spec X Z ghosts dict al_drops drops 𝓛 𝓜.mem 𝓡.returns)) 𝓣.C 𝓣.Λ (f.Key.name (passed E drops)) fn
    (code.unfolded 𝓤 𝓛.H 𝓜 𝓡 wired (X, (Z, tt)) dict al_drops drops)
    (walk_Meets 𝓛 (ended E drops) (stayed E drops) (Goes-blank 𝓛 2 (plain (λ _. B E)) no (λ κs x h. tt), tt) (c E drops 𝓛 𝓜.mem 𝓡.returns 𝓣) (WpFn 𝓤 𝓛.H 𝓣.C 𝓣.Λ fn) (WpFn-mono 𝓤 𝓛.H 𝓛.laws 𝓣 fn)
    (walk E drops 𝓛 𝓜.mem 𝓡.returns 𝓣
    (callee.met 𝓤 𝓛 𝓜 𝓡 (code.calls-std_alloc::boxed::Box::into_raw_with_allocator 𝓡.env wired) X Z laws al_laws ghosts dict al_drops drops allocator moves dropped)))
