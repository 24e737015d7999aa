-- One text more behind those that were dealt with.
use Rattle.std.proofs.Common.{◌≡◌, ◌+◌, ◌-◌, ◌<◌, ℕ, zero, suc, List, [], ◌∷◌, ◌++◌, length, map, take, drop, get_or, Some, refl, sym, ap, ap₂, subst, ◌∙◌, arith}
use Rattle.std.specs.declared.option.Option.{Option}
use Rattle.std.specs.List.{All}
use Rattle.std.proofs.lemmas.List.{map_push, take_more}
use Rattle.run_sources.specs.Texts.{Named, named_for}
use Rattle.run_sources.specs.declared.texts.GeneratedText.{GeneratedText}
use Rattle.js_parse.specs.declared.fault.Role.TheVariants.{Main}
use Rattle.js_parse.specs.declared.fault.ParseFault.{ParseFault}
use Rattle.js_parse.specs.Spells as script
use Rattle.eval_tree.specs.Tree.{Tree}
use Rattle.run_sources.specs.Program.{FileName, Program, program_from}
use Rattle.run_sources.specs.Reading as reading
use Rattle.run_sources.specs.Reading.{IsSourceRead, Read}
use Rattle.run_sources.specs.Spelling as spelling
use Rattle.run_sources.specs.Spelling.{AllSpell, FirstAmong}

-- an item that is there, whatever stands in for one that isn't
pub same_item : {X : Type 0} (xs : List X) (i : ℕ) (d e : X) → i < length xs → get_or xs i d ≡ get_or xs i e
same_item [] i d e lt = absurd (omega (arith, lt))
same_item (x ∷ xs) zero d e lt = refl
same_item (x ∷ xs) (suc i) d e lt = same_item xs i d e (omega (arith, lt))

-- what holds of all that is said of items holds of what is said of this one
pub one_of : {X Y : Type 0} (P : Y → Type 0) (f : X → Y) (xs : List X) (i : ℕ) (x : X) → i < length xs → x ≡ get_or xs i x → All P (map f xs) → P (f x)
one_of P f [] i x lt is all = absurd (omega (arith, lt))
one_of P f (y ∷ xs) zero x lt is all = subst (λ z. P (f z)) (sym is) (all 0 (f x) (omega arith))
one_of P f (y ∷ xs) (suc i) x lt is all = one_of P f xs i x (omega (arith, lt)) is (λ k d less. all (suc k) d (omega (arith, less)))

-- what is said of the items before and of this one, of the items up to this one
pub mapped_more : {X Y : Type 0} (f : X → Y) (xs : List X) (i : ℕ) (x : X) → i < length xs → x ≡ get_or xs i x → map f (take (i + 1) xs) ≡ map f (take i xs) ++ f x ∷ []
mapped_more f xs i x lt is = ap (map f) (take_more xs i x lt ∙ ap (λ y. take i xs ++ y ∷ []) (sym is)) ∙ map_push f (take i xs) x

-- the items before, this one and those behind it
parted : {X : Type 0} (xs : List X) (i : ℕ) (x : X) → i < length xs → x ≡ get_or xs i x → xs ≡ take i xs ++ x ∷ drop (i + 1) xs
parted [] i x lt is = absurd (omega (arith, lt))
parted (y ∷ xs) zero x lt is = ap (λ z. z ∷ xs) (sym is)
parted (y ∷ xs) (suc i) x lt is =
    let on : suc i + 1 ≡ suc (i + 1) = omega arith in
    ap (λ l. y ∷ l) (parted xs i x (omega (arith, lt)) is) ∙ ap (λ n. y ∷ (take i xs ++ x ∷ drop n (y ∷ xs))) (sym on)

map_parted : {X Y : Type 0} (f : X → Y) (before after : List X) (x : X) → map f (before ++ x ∷ after) ≡ map f before ++ f x ∷ map f after
map_parted f [] after x = refl
map_parted f (y ∷ before) after x = ap (λ l. f y ∷ l) (map_parted f before after x)

pub mapped_parted : {X Y : Type 0} (f : X → Y) (xs : List X) (i : ℕ) (x : X) → i < length xs → x ≡ get_or xs i x → map f xs ≡ map f (take i xs) ++ f x ∷ map f (drop (i + 1) xs)
mapped_parted f xs i x lt is = ap (map f) (parted xs i x lt is) ∙ map_parted f (take i xs) (drop (i + 1) xs) x

take_whole : {X : Type 0} (xs : List X) → take (length xs) xs ≡ xs
take_whole [] = refl
take_whole (x ∷ xs) = ap (λ l. x ∷ l) (take_whole xs)

-- the first text and the rest
pub begun : (texts : List GeneratedText) (t : GeneratedText) (prelude : Named) (scripts : List Named) → 0 < length texts → t ≡ get_or texts 0 t → prelude ≡ named_for t
    → scripts ≡ map named_for (take (length texts - 1) (drop 1 texts)) → program_from (map named_for texts) ≡ record { prelude = Some prelude; scripts = scripts }
begun [] t prelude scripts some is first rest = absurd (omega (arith, some))
begun (x ∷ xs) t prelude scripts some is first rest =
    let left : length (x ∷ xs) - 1 ≡ length xs = omega arith in
    let made : Named → List Named → Program Named = λ p ps. record { prelude = Some p; scripts = ps } in
    sym (ap₂ made (first ∙ ap named_for is) (rest ∙ ap (λ n. map named_for (take n xs)) left ∙ ap (map named_for) (take_whole xs)))

pub read_more : (held : FileName → Option (List ℕ)) (names : List FileName) (sources : List Named) (name : FileName) (source : Named) → Read held names sources → IsSourceRead held name source
    → Read held (names ++ name ∷ []) (sources ++ source ∷ [])
read_more held _ _ name source reading.Read.none is = reading.Read.next name [] source [] is reading.Read.none
read_more held _ _ name source (reading.Read.next n ns s ss one rest) is = reading.Read.next n (ns ++ name ∷ []) s (ss ++ source ∷ []) one (read_more held ns ss name source rest is)

module _ (outer : List (List ℕ)) where
  pub spell_more : (sources : List Named) (trees : List Tree) (source : Named) (tree : Tree) → AllSpell outer sources trees → script.Spells Main outer source.text tree
      → AllSpell outer (sources ++ source ∷ []) (trees ++ tree ∷ [])
  spell_more _ _ source tree spelling.AllSpell.none spells = spelling.AllSpell.next source [] tree [] spells spelling.AllSpell.none
  spell_more _ _ source tree (spelling.AllSpell.next s ss t ts one rest) spells =
      spelling.AllSpell.next s (ss ++ source ∷ []) t (ts ++ tree ∷ []) one (spell_more ss ts source tree rest spells)

  -- behind texts that are scripts, this one is the first that is none
  pub refused_after : (before : List Named) (trees : List Tree) (name : FileName) (source : Named) (after : List Named) (fault : ParseFault) → source.name ≡ name → AllSpell outer before trees
      → script.Refused Main outer source.text fault → FirstAmong outer name fault (before ++ source ∷ after)
  refused_after _ _ name source after fault named spelling.AllSpell.none refused = spelling.FirstAmong.here source after named refused
  refused_after _ _ name source after fault named (spelling.AllSpell.next s ss t ts one rest) refused =
      spelling.FirstAmong.later s (ss ++ source ∷ after) t one (refused_after ss ts name source after fault named rest refused)
