-- What is told of files against what was read of them, and the scripts that texts spell.
use Rattle.std.proofs.Common.{◌≡◌, ℕ, ◌≤◌, List, [], ◌∷◌, ◌++◌, length, Option, None, Some, refl, sym, ap, ap₂, ◌∙◌, subst, arith}
use Rattle.run_sources.specs.Texts.{Named}
use Rattle.js_io.specs.FilesState.{IsToldAs, IsTooLarge}
use Rattle.js_io.specs.declared.files.TheConstants.{FILE_MAX}
use Rattle.js_parse.specs.declared.fault.Role.{Role}
use Rattle.js_parse.specs.declared.fault.Role.TheVariants as role
use Rattle.js_parse.specs.declared.fault.ParseFault.{ParseFault}
use Rattle.js_parse.specs.Spells.{Spells, Refused}
use Rattle.eval_tree.specs.Tree.{Tree}
use Rattle.run_command.specs.Words.{Asked, files, made_from}
use Rattle.run_sources.specs.Program.{FileName, Program, in_order, outer_of}
use Rattle.run_sources.specs.Reading as reading
use Rattle.run_sources.specs.Reading.{AreRead, IsPreludeRead, IsSourceRead, Read}
use Rattle.run_sources.specs.Spelling as spelling
use Rattle.run_sources.specs.Spelling.{AllSpell, FirstAmong, FirstRefused, Spell, SpellsPrelude}
use Rattle.js_run.specs.Asked.{AreTexts, names_of}
use Rattle.js_run.specs.Rows.{AreTold}

too_large : (o : Option (List ℕ)) (bytes text : List ℕ) (oversize later : ℕ) → o ≡ Some bytes → IsToldAs o text → length text ≤ FILE_MAX → IsTooLarge o oversize later → ⊥
too_large o bytes text oversize later is tells small larger =
    let same : text ≡ bytes = subst (λ (x : Option (List ℕ)). IsToldAs x text) is tells in
    let longer : IsTooLarge (Some bytes) oversize later = subst (λ (x : Option (List ℕ)). IsTooLarge x oversize later) is larger in
    omega (arith, longer.0, small, ap length same)

same_text : (o : Option (List ℕ)) (bytes x y : List ℕ) → o ≡ Some bytes → IsToldAs o x → IsToldAs o y → x ≡ y
same_text o bytes x y is p q =
    let one : x ≡ bytes = subst (λ (z : Option (List ℕ)). IsToldAs z x) is p in
    let other : y ≡ bytes = subst (λ (z : Option (List ℕ)). IsToldAs z y) is q in
    one ∙ sym other

abbrev named_text : List ℕ → List ℕ → Named
named_text name text = record { name = name; text = text }

module _ (held : FileName → Option (List ℕ)) where
  -- a file among those that were read
  read_at : (before after : List FileName) (name : FileName) (names : List FileName) (sources : List Named) → Read held names sources → names ≡ before ++ name ∷ after
      → (source : Named) × IsSourceRead held name source
  read_at [] after name _ _ reading.Read.none split = absurd (cc split)
  read_at [] after name _ _ (reading.Read.next n names source sources is rest) split =
      let same : n ≡ name = cc split in
      (source, subst (λ (m : FileName). IsSourceRead held m source) same is)
  read_at (b ∷ before) after name _ _ reading.Read.none split = absurd (cc split)
  read_at (b ∷ before) after name _ _ (reading.Read.next n names source sources is rest) split =
      let same : names ≡ before ++ name ∷ after = cc split in
      read_at before after name names sources rest same

  told_at : (before after : List FileName) (name : FileName) (names : List FileName) → AreTold held names → names ≡ before ++ name ∷ after → (bytes : List ℕ) × (held name ≡ Some bytes)
  told_at [] after name [] told split = absurd (cc split)
  told_at [] after name (n ∷ names) told split =
      let same : n ≡ name = cc split in
      (told.0.0, ap held (sym same) ∙ told.0.1)
  told_at (b ∷ before) after name [] told split = absurd (cc split)
  told_at (b ∷ before) after name (n ∷ names) told split =
      let same : names ≡ before ++ name ∷ after = cc split in
      told_at before after name names told.1 same

  -- none of those that are told and were read is too large
  pub not_large : (before after : List FileName) (name : FileName) (names : List FileName) (sources : List Named) (oversize later : ℕ) → Read held names sources → AreTold held names
      → names ≡ before ++ name ∷ after → IsTooLarge (held name) oversize later → ⊥
  not_large before after name names sources oversize later read told split larger =
      let (source, is) = read_at before after name names sources read split in
      let (bytes, held_is) = told_at before after name names told split in
      too_large (held name) bytes source.text oversize later held_is is.tells is.small larger

  -- a told file that was read isn't too large
  pub read_small : (before after : List FileName) (name : FileName) (bytes : List ℕ) (names : List FileName) (sources : List Named) → held name ≡ Some bytes
      → Read held names sources → names ≡ before ++ name ∷ after → length bytes ≤ FILE_MAX
  read_small before after name bytes names sources held_is read split =
      let (source, is) = read_at before after name names sources read split in
      let same : source.text ≡ bytes = subst (λ (x : Option (List ℕ)). IsToldAs x source.text) held_is is.tells in
      omega (arith, is.small, ap length same)

  same_source : (name : FileName) (bytes : List ℕ) (x y : Named) → held name ≡ Some bytes → IsSourceRead held name x → IsSourceRead held name y → x ≡ y
  same_source name bytes x y is p q = ap₂ named_text (p.named ∙ sym q.named) (same_text (held name) bytes x.text y.text is p.tells q.tells)

  -- what was read is what is told
  read_same : (names : List FileName) (xs ys : List Named) → AreTold held names → Read held names xs → Read held names ys → xs ≡ ys
  read_same _ _ _ told reading.Read.none reading.Read.none = refl
  read_same _ _ _ told (reading.Read.next name names x xs p rest) (reading.Read.next _ _ y ys q more) =
      ap₂ (λ z zs. z ∷ zs) (same_source name told.0.0 x y told.0.1 p q) (read_same names xs ys told.1 rest more)

  prelude_same : (names : List FileName) (name : Option FileName) (x y : Option Named) → AreTold held (in_order (record { prelude = name; scripts = names }))
      → IsPreludeRead held name x → IsPreludeRead held name y → x ≡ y
  prelude_same names None None None told p q = refl
  prelude_same names None (Some x) y told p q = absurd p
  prelude_same names None None (Some y) told p q = absurd q
  prelude_same names (Some name) None y told p q = absurd p
  prelude_same names (Some name) (Some x) None told p q = absurd q
  prelude_same names (Some name) (Some x) (Some y) told p q = ap (λ z. Some z) (same_source name told.0.0 x y told.0.1 p q)

  scripts_told : (names : List FileName) (name : Option FileName) → AreTold held (in_order (record { prelude = name; scripts = names })) → AreTold held names
  scripts_told names None told = told
  scripts_told names (Some name) told = told.1

  all_same : (names : Program FileName) (x y : Program Named) → AreTold held (in_order names) → AreRead held names x → AreRead held names y → x ≡ y
  all_same names x y told p q = ap₂ program
      (prelude_same names.scripts names.prelude x.prelude y.prelude told p.prelude q.prelude)
      (read_same names.scripts x.scripts y.scripts (scripts_told names.scripts names.prelude told) p.scripts q.scripts)
    where
      program : Option Named → List Named → Program Named
      program prelude scripts = record { prelude = prelude; scripts = scripts }

  -- the texts are the ones that are told
  pub texts_same : (asked : Asked) (x y : Program Named) → AreTold held (in_order (names_of asked)) → AreTexts asked held x → AreTexts asked held y → x ≡ y
  texts_same (files prelude scripts) x y told p q = all_same (record { prelude = prelude; scripts = scripts }) x y told p q
  texts_same (made_from number) x y told p q = p ∙ sym q

  reads_in_order : (names : List FileName) (sources : List Named) (name : Option FileName) (source : Option Named) → IsPreludeRead held name source → Read held names sources
      → Read held (in_order (record { prelude = name; scripts = names })) (in_order (record { prelude = source; scripts = sources }))
  reads_in_order names sources None None p read = read
  reads_in_order names sources None (Some source) p read = absurd p
  reads_in_order names sources (Some name) None p read = absurd p
  reads_in_order names sources (Some name) (Some source) p read = reading.Read.next name names source sources p read

  -- all files that are named were read
  pub texts_read : (asked : Asked) (sources : Program Named) → AreTexts asked held sources → (read : List Named) × Read held (in_order (names_of asked)) read
  texts_read (files prelude scripts) sources are = (in_order sources, reads_in_order scripts sources.scripts prelude sources.prelude are.prelude are.scripts)
  texts_read (made_from number) sources are = ([], reading.Read.none)

-- ---- the laws of what is spelled

abbrev pub OneScript : Type 0
OneScript = (role : Role) (outer : List (List ℕ)) (bytes : List ℕ) (x y : Tree) → Spells role outer bytes x → Spells role outer bytes y → x ≡ y

abbrev pub NoneRefused : Type 0
NoneRefused = (role : Role) (outer : List (List ℕ)) (bytes : List ℕ) (x : Tree) (fault : ParseFault) → Spells role outer bytes x → Refused role outer bytes fault → ⊥

none_among : NoneRefused → (outer : List (List ℕ)) (sources : List Named) (trees : List Tree) (name : FileName) (fault : ParseFault) →
    AllSpell outer sources trees → FirstAmong outer name fault sources → ⊥
none_among law outer _ _ name fault (spelling.AllSpell.next source sources tree trees spells rest)
    (spelling.FirstAmong.here _ _ named refused) = law role.Main outer source.text tree fault spells refused
none_among law outer _ _ name fault (spelling.AllSpell.next source sources tree trees spells rest) (spelling.FirstAmong.later _ _ tree' spells' first) =
    none_among law outer sources trees name fault rest first
none_among law outer _ _ name fault spelling.AllSpell.none first = elim first [ ]

one_prelude : OneScript → (source : Option Named) (x y : Option Tree) → SpellsPrelude source x → SpellsPrelude source y → x ≡ y
one_prelude law None None None p q = refl
one_prelude law None (Some x) y p q = absurd p
one_prelude law None None (Some y) p q = absurd q
one_prelude law (Some source) None y p q = absurd p
one_prelude law (Some source) (Some x) None p q = absurd q
one_prelude law (Some source) (Some x) (Some y) p q = ap (λ z. Some z) (law role.Prelude [] source.text x y p q)

prelude_refused : NoneRefused → (o : Option Named) (source : Named) (tree : Option Tree) (fault : ParseFault) → SpellsPrelude o tree → o ≡ Some source → Refused role.Prelude [] source.text fault → ⊥
prelude_refused law None source tree fault p is refused = absurd (cc is)
prelude_refused law (Some s) source None fault p is refused = absurd p
prelude_refused law (Some s) source (Some tree) fault p is refused =
    let same : s ≡ source = cc is in
    law role.Prelude [] source.text tree fault (subst (λ (x : Named). Spells role.Prelude [] x.text tree) same p) refused

-- where all spell scripts, none is refused
pub none_refused : OneScript → NoneRefused → (sources : Program Named) (trees : Program Tree) (name : FileName) (fault : ParseFault) → Spell sources trees → FirstRefused sources name fault → ⊥
none_refused one law sources trees name fault spell (spelling.FirstRefused.of_prelude source is named refused) =
    prelude_refused law sources.prelude source trees.prelude fault spell.prelude is refused
none_refused one law sources trees name fault spell (spelling.FirstRefused.of_script prelude spells first) =
    let same : prelude ≡ trees.prelude = one_prelude one sources.prelude prelude trees.prelude spells spell.prelude in
    none_among law (outer_of trees.prelude) sources.scripts trees.scripts name fault spell.scripts
    (subst (λ (x : Option Tree). FirstAmong (outer_of x) name fault sources.scripts) same first)

one_each : OneScript → (outer : List (List ℕ)) (sources : List Named) (xs ys : List Tree) → AllSpell outer sources xs → AllSpell outer sources ys → xs ≡ ys
one_each law outer _ _ _ spelling.AllSpell.none spelling.AllSpell.none = refl
one_each law outer _ _ _ (spelling.AllSpell.next source sources x xs p rest) (spelling.AllSpell.next _ _ y ys q more) =
    ap₂ (λ z zs. z ∷ zs) (law role.Main outer source.text x y p q) (one_each law outer sources xs ys rest more)

abbrev program_of : Option Tree → List Tree → Program Tree
program_of prelude scripts = record { prelude = prelude; scripts = scripts }

-- the same texts spell the same scripts
pub same_trees : OneScript → (sources : Program Named) (x y : Program Tree) → Spell sources x → Spell sources y → x ≡ y
same_trees law sources x y p q =
    let first : x.prelude ≡ y.prelude = one_prelude law sources.prelude x.prelude y.prelude p.prelude q.prelude in
    ap₂ program_of first (one_each law (outer_of y.prelude) sources.scripts x.scripts y.scripts
    (subst (λ (t : Option Tree). AllSpell (outer_of t) sources.scripts x.scripts) first p.scripts) q.scripts)
