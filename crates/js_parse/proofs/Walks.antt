-- One walk after the other.
use Rattle.std.proofs.Common.{◌≡◌, ℕ, ◌+◌, ◌<◌, Bool, not, cond, true, false, List, [], ◌∷◌, ◌++◌, length, get_or, drop, map, refl, sym, ap, ◌∙◌, subst, Option, Result, IfOk, Vec, Global}
use Rattle.eval_tree.specs.declared.tree.Stmt.{Stmt}
use Rattle.eval_tree.specs.declared.tree.Arm.{Arm}
use Rattle.eval_tree.specs.declared.tree.Block.{Block}
use Rattle.eval_tree.specs.declared.tree.Script.{Script}
use Rattle.eval_tree.specs.declared.tree.Stmt.TheViews.{If}
use Rattle.js_parse.specs.Names.{NameFault}
use Rattle.eval_tree.specs.Tree as tree
use Rattle.eval_tree.specs.Tree.{StmtTree, BlockTree, Stmts, Arms, arms, stmts_tree, stmt_tree, arm_tree, block_tree, tree_of}
use Rattle.js_parse.specs.declared.name_fault.NameFault.{NameFault as Told}
use Rattle.js_parse.specs.NameFaults.{NameTest, nobody, is_in, marked, all_marked, offer, offers, declared_again, with_own, faults_in, faults_inside, faults_in_arms, faults_among, faults_of}
use Rattle.js_parse.specs.NameWalk.{found_of, Walks}
use Rattle.js_parse.proofs.Marks.{drop_is, left_again}
use Rattle.js_parse.proofs.Trees.{arm_body, tree_of_if}
use mathlib.Core.Path.{fun_ext}
use Rattle.std.proofs.lemmas.Result.{IfOk-weaker}

pub offers_append : (o : Option NameFault) (fs gs : List NameFault) → offers o (fs ++ gs) ≡ offers (offers o fs) gs
offers_append o [] gs = refl
offers_append o (f ∷ fs) gs = offers_append (offer o f) fs gs

pub walks_nowhere : (old : NameTest) (first : Option Told) → Walks old old first [] first
walks_nowhere old first = record { kept = refl; finds = refl }

-- what is walked over may go by the names of loops that there are then
pub walks_then : (old mid new : NameTest) (a b c : Option Told) (fs : List NameFault) (gs : NameTest → List NameFault) → Walks old mid a fs
    b → Walks mid new b (gs mid) c → Walks old new a (fs ++ gs old) c
walks_then old mid new a b c fs gs h k = record {
  kept = k.kept ∙ h.kept;
  finds = k.finds ∙ (ap (λ t. offers (found_of b) (gs t)) h.kept ∙ (ap (λ o. offers o (gs old)) h.finds ∙ sym (offers_append (found_of a) fs (gs old))));
}

pub walks_if : (old mid new : NameTest) (a b c : Option Told) (list : Arms) (rest : BlockTree) → Walks old mid a (faults_in_arms list old) b
    → Walks mid new b (faults_inside rest mid) c → Walks old new a (faults_in (tree.if_line list rest) old) c
walks_if old mid new a b c list rest h k = walks_then old mid new a b c (faults_in_arms list old) (λ t. faults_inside rest t) h k

pub walks_in_if : {E : Type 0} (old mid new : NameTest) (s : Stmt) (list : Vec Arm Global) (rest : Block) (now : List Arm)
    (a b : Option Told) (r : Result (Option Told) E) → s ≡ If list rest → now ≡ list.items → Walks old mid a
    (faults_in_arms (arms (map arm_tree now)) old) b → IfOk r (Walks mid new b (faults_inside (block_tree rest) mid)) → IfOk r
    (Walks old new a (faults_in (stmt_tree s) old))
walks_in_if old mid new s list rest now a b r e d h k =
    IfOk-weaker r (Walks mid new b (faults_inside (block_tree rest) mid)) (Walks old new a (faults_in (stmt_tree s) old))
    (λ c w. subst (λ (t : StmtTree). Walks old new a (faults_in t old) c) (sym (ap stmt_tree e ∙ tree_of_if list rest))
    (walks_if old mid new a b c (arms (map arm_tree list.items)) (block_tree rest) (subst (λ (l : List Arm). Walks old mid a (faults_in_arms (arms (map arm_tree l)) old) b) d h) w)) k

-- the body of a `for`
pub walks_turns : (old entered inside after : NameTest) (x : List ℕ) (new : Bool) (a b : Option Told) (body : BlockTree) → new ≡ not (old x)
    → entered ≡ marked true x old → Walks entered inside a (faults_inside body entered) b → after ≡ cond new (marked false x inside) inside →
    Walks old after a (faults_inside body (marked true x old)) b
walks_turns old entered inside after x new a b body n e h l = record {
  kept = left_again old inside after x new n (h.kept ∙ e) l;
  finds = h.finds ∙ ap (λ t. offers (found_of a) (faults_inside body t)) e;
}

-- the next arm, and then those after it
pub arm_turn : (list : List Arm) (i : ℕ) (m : Arm) (old new : NameTest) (a b : Option Told) → i < length list → m ≡ get_or list i m → Walks
    old new a (faults_inside (block_tree m.body) old) b → offers (found_of b) (faults_in_arms (arms (map arm_tree (drop (i + 1) list))) new) ≡
    offers (found_of a) (faults_in_arms (arms (map arm_tree (drop i list))) old)
arm_turn list i m old new a b lt is h =
    let more : Arms = arms (map arm_tree (drop (i + 1) list)) in
    ap (λ t. offers (found_of b) (faults_in_arms more t)) h.kept
    ∙ (ap (λ o. offers o (faults_in_arms more old)) h.finds
    ∙ (sym (offers_append (found_of a) (faults_inside (block_tree m.body) old) (faults_in_arms more old))
    ∙ (ap (λ q. offers (found_of a) (faults_inside q old ++ faults_in_arms more old)) (sym (arm_body m))
    ∙ ap (λ l. offers (found_of a) (faults_in_arms (arms (map arm_tree l)) old)) (sym (drop_is list i m lt is)))))

-- the next statement, and then those after it
pub statement_turn : (body : List Stmt) (i : ℕ) (s : Stmt) (old new before behind : NameTest) (a b c : Option Told) → i < length body → s ≡
    get_or body i s → behind ≡ with_own (stmt_tree s) before → found_of b ≡ offers (found_of a) (declared_again (stmt_tree s) before) → Walks
    old new b (faults_in (stmt_tree s) old) c → offers (found_of c) (faults_among (stmts_tree (drop (i + 1) body)) new behind) ≡ offers
    (found_of a) (faults_among (stmts_tree (drop i body)) old before)
statement_turn body i s old new before behind a b c lt is w d h =
    let more : Stmts = stmts_tree (drop (i + 1) body) in
    let again : List NameFault = declared_again (stmt_tree s) before in
    let here : List NameFault = faults_in (stmt_tree s) old in
    let rest : List NameFault = faults_among more old (with_own (stmt_tree s) before) in
    ap (λ t. offers (found_of c) (faults_among more new t)) w
    ∙ (ap (λ t. offers (found_of c) (faults_among more t (with_own (stmt_tree s) before))) h.kept
    ∙ (ap (λ o. offers o rest) h.finds
    ∙ (sym (offers_append (found_of b) here rest)
    ∙ (ap (λ o. offers o (here ++ rest)) d
    ∙ (sym (offers_append (found_of a) again (here ++ rest))
    ∙ ap (λ l. offers (found_of a) (faults_among (stmts_tree l) old before)) (sym (drop_is body i s lt is)))))))

-- a whole script

none_marked : (b : Bool) → cond b false false ≡ false
none_marked true = refl
none_marked false = refl

is_marked : (b : Bool) → cond b true false ≡ b
is_marked true = refl
is_marked false = refl

pub first_found : {E : Type 0} (outer : List (List ℕ)) (script : Script) (body : List Stmt) (names : List (List ℕ))
    (loops new before fresh : NameTest) (first : Option Told) (r : Result (Option Told) E) → body ≡ script.body.items → names ≡ outer → loops
    ≡ nobody → fresh ≡ nobody → before ≡ all_marked true names fresh → IfOk r (Walks loops new first (faults_among (stmts_tree body) loops before))
    → IfOk r (λ found. found_of found ≡ offers (found_of first) (faults_of outer (tree_of script)))
first_found outer script body names loops new before fresh first r e d l f b h =
    let top : NameTest = all_marked false script.top nobody in
    let inner : loops ≡ top = l ∙ fun_ext (λ q. sym (none_marked (is_in script.top q))) in
    let declared : before ≡ is_in outer = b ∙ (ap (λ t. all_marked true names t) f ∙ (ap (λ ns. all_marked true ns nobody) d ∙ fun_ext (λ q. is_marked (is_in outer q)))) in
    IfOk-weaker r (Walks loops new first (faults_among (stmts_tree body) loops before)) (λ found. found_of found ≡ offers (found_of first) (faults_of outer (tree_of script)))
    (λ found w. w.finds
    ∙ (ap (λ (ss : List Stmt). offers (found_of first) (faults_among (stmts_tree ss) loops before)) e
    ∙ (ap (λ (t : NameTest). offers (found_of first) (faults_among (stmts_tree script.body.items) t before)) inner
    ∙ ap (λ (t : NameTest). offers (found_of first) (faults_among (stmts_tree script.body.items) top t)) declared))) h
