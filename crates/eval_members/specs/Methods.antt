-- The methods of strings and of arrays, a row for each: what a call means, and which strings it has read.
use Rattle.std.specs.Prelude.{ℕ, ◌+◌, List, length, Option, ◌≡◌, ◌≤◌, ◌-◌, IsSome, false}
use Rattle.js_number.specs.declared.Num.{Num}
use Rattle.js_units.specs.Text.{well}
use Rattle.js_methods.specs.Cutting.{slice_of, substring_of, substr_of}
use Rattle.js_methods.specs.Searching.{includes_from, index_from, last_index_up_to, starts_at, ends_at}
use Rattle.js_methods.specs.Building.{pad_start_of, pad_end_of, CutsFiller}
use Rattle.js_methods.specs.Trimming.{trimmed, trimmed_start, trimmed_end}
use Rattle.js_replace.specs.Matches.{matches}
use Rattle.js_replace.specs.Replaced.{replaced_first, replaced_all}
use Rattle.js_methods.specs.Testing.{all_paired}
use Rattle.eval_tree.specs.declared.tree.Method.{Method}
use Rattle.eval_tree.specs.declared.tree.Method.TheVariants.{At, CharAt, CharCodeAt, CodePointAt, Concat}
use Rattle.eval_tree.specs.declared.tree.Method.TheVariants.{EndsWith, Includes, IndexOf, IsWellFormed}
use Rattle.eval_tree.specs.declared.tree.Method.TheVariants.{Join, LastIndexOf, PadEnd, PadStart, Repeat}
use Rattle.eval_tree.specs.declared.tree.Method.TheVariants.{Replace, ReplaceAll, Slice, Split, StartsWith}
use Rattle.eval_tree.specs.declared.tree.Method.TheVariants.{Substr, Substring, ToWellFormed, Trim, TrimEnd}
use Rattle.eval_tree.specs.declared.tree.Method.TheVariants.{TrimStart}
use Rattle.eval_members.specs.declared.places.Access.{Access}
use Rattle.eval_members.specs.declared.places.Access.TheVariants as access
use Rattle.eval_members.specs.declared.cutting.Cut.{Cut}
use Rattle.eval_members.specs.declared.cutting.Cut.TheVariants as cut
use Rattle.eval_members.specs.declared.trimming.Trim.{Trim as Trims}
use Rattle.eval_members.specs.declared.trimming.Trim.TheVariants as trim
use Rattle.eval_members.specs.declared.searching.Search.{Search}
use Rattle.eval_members.specs.declared.searching.Search.TheVariants as sought
use Rattle.eval_members.specs.declared.building.Pad.{Pad}
use Rattle.eval_members.specs.declared.building.Pad.TheVariants as pad
use Rattle.eval_members.specs.declared.replacing.Replace.{Replace as Replaces}
use Rattle.eval_members.specs.declared.replacing.Replace.TheVariants as replace
use Rattle.eval_values.specs.declared.value.Kind.TheVariants.{TypeError}
use Rattle.js_item.specs.Seen.{Val}
use Rattle.js_item.specs.Contents.{bool, number, text}
use Rattle.eval_values.specs.Outcome.{Out, needing, throwing, Converted, refuses, into, fails}
use Rattle.eval_values.specs.Need.{reads}
use Rattle.eval_values.specs.Conversions.{to_number, first_text_units}
use Rattle.eval_values.specs.Arguments.{first_of, second_of, end_in, is_undefined, second_units}
use Rattle.eval_members.specs.Places.{maybe_text, maybe_count, access_call}
use Rattle.eval_values.specs.Limited.{limited}
use Rattle.eval_members.specs.Cutting.{cut_call}
use Rattle.eval_members.specs.Searching.{place_value, search_call}
use Rattle.eval_members.specs.Building.{concat_call, repeat_call, pad_call}
use Rattle.eval_members.specs.Replacing.{two_text_units, replace_call}
use Rattle.eval_members.specs.Splitting.{split_call, join_call}
use Rattle.js_number.specs.Arith.{length_of}
use Rattle.js_methods.specs.Places.{relative_place, exact_place, at_of, char_at_of, char_code_of}
use Rattle.js_methods.specs.Places.{code_point_of}
use Rattle.js_store.specs.State.{State, IsSettled}
use Rattle.js_texts.specs.Texts.{AllSettled, Every}
use Rattle.js_item.specs.declared.item.Item.{Item}
use Rattle.eval_values.specs.Seen.{all_seen}
use Rattle.eval_values.specs.Settled.{ElementsSettled, StringsSettled, OfFirst, OfSecond}

-- a method of a string, where the operands of the call have t units (ECMA-262,
-- "Properties of the String Prototype Object")
abbrev pub string_call : Method → ℕ → ℕ → ℕ → List ℕ → List Val → Out Val
string_call At at limit t u vs = access_call t (λ n. maybe_text (at_of u n)) (to_number at (first_of vs))
string_call CharAt at limit t u vs = access_call t (λ n. text (char_at_of u n)) (to_number at (first_of vs))
string_call CharCodeAt at limit t u vs =
    access_call t (λ n. number (char_code_of u n)) (to_number at (first_of vs))
string_call CodePointAt at limit t u vs =
    access_call t (λ n. maybe_count (code_point_of u n)) (to_number at (first_of vs))
string_call EndsWith at limit t u vs = search_call limit t (length u + first_text_units vs)
    (λ w e. bool (ends_at u w e)) (first_of vs) (end_in at (second_of vs))
string_call Includes at limit t u vs = search_call limit t (length u + first_text_units vs)
    (λ w n. bool (includes_from u w n)) (first_of vs) (to_number at (second_of vs))
string_call IndexOf at limit t u vs = search_call limit t (length u + first_text_units vs)
    (λ w n. place_value (index_from u w n)) (first_of vs) (to_number at (second_of vs))
string_call LastIndexOf at limit t u vs = search_call limit t (length u + first_text_units vs)
    (λ w n. place_value (last_index_up_to u w n)) (first_of vs) (to_number at (second_of vs))
string_call StartsWith at limit t u vs = search_call limit t (length u + first_text_units vs)
    (λ w n. bool (starts_at u w n)) (first_of vs) (to_number at (second_of vs))
string_call Slice at limit t u vs =
    cut_call limit t (slice_of u) (to_number at (first_of vs)) (end_in at (second_of vs))
string_call Substr at limit t u vs =
    cut_call limit t (substr_of u) (to_number at (first_of vs)) (end_in at (second_of vs))
string_call Substring at limit t u vs =
    cut_call limit t (substring_of u) (to_number at (first_of vs)) (end_in at (second_of vs))
string_call Trim at limit t u vs = limited limit t (trimmed u)
string_call TrimEnd at limit t u vs = limited limit t (trimmed_end u)
string_call TrimStart at limit t u vs = limited limit t (trimmed_start u)
string_call Concat at limit t u vs = concat_call limit u vs
string_call PadEnd at limit t u vs =
    pad_call limit (pad_end_of u) u (to_number at (first_of vs)) (second_of vs)
string_call PadStart at limit t u vs =
    pad_call limit (pad_start_of u) u (to_number at (first_of vs)) (second_of vs)
string_call Repeat at limit t u vs = repeat_call limit u (to_number at (first_of vs))
string_call ToWellFormed at limit t u vs = limited limit t (well u)
string_call Replace at limit t u vs = replace_call limit t (length u + first_text_units vs)
    (length u + two_text_units vs) (λ w. 1) (replaced_first u) (first_of vs) (second_of vs)
string_call ReplaceAll at limit t u vs = replace_call limit t (length u + first_text_units vs)
    (length u + two_text_units vs) (λ w. length (matches u w)) (replaced_all u) (first_of vs) (second_of vs)
string_call Split at limit t u vs = split_call limit u vs (end_in at (second_of vs))
string_call Join at limit t u vs = throwing (reads t) TypeError
string_call IsWellFormed at limit t u vs = needing (reads t) (bool (all_paired u))

-- a method that was called on an array, where the operands of the call have t units. The profile leaves out
-- what arrays have besides `join`, and of the other identifiers arrays know nothing (ECMA-262, "Properties of
-- the Array Prototype Object")
abbrev pub list_call : Method → ℕ → ℕ → ℕ → List (List ℕ) → List Val → Out Val
list_call At at limit t us vs = refuses at
list_call Includes at limit t us vs = refuses at
list_call IndexOf at limit t us vs = refuses at
list_call LastIndexOf at limit t us vs = refuses at
list_call Slice at limit t us vs = refuses at
list_call Concat at limit t us vs = refuses at
list_call Join at limit t us vs = join_call limit us vs
list_call _ at limit t us vs = throwing (reads t) TypeError

-- methods that differ in one definition alone, by the code's names of them
abbrev pub access_of : Access → List ℕ → Num → Val
access_of access.At u n = maybe_text (at_of u n)
access_of access.CharAt u n = text (char_at_of u n)
access_of access.CharCodeAt u n = number (char_code_of u n)
access_of access.CodePointAt u n = maybe_count (code_point_of u n)

abbrev pub search_of : Search → List ℕ → List ℕ → Num → Val
search_of sought.Includes u w n = bool (includes_from u w n)
search_of sought.IndexOf u w n = place_value (index_from u w n)
search_of sought.LastIndexOf u w n = place_value (last_index_up_to u w n)
search_of sought.StartsWith u w n = bool (starts_at u w n)

abbrev pub part_of : Cut → List ℕ → Num → Option Num → List ℕ
part_of cut.Slice u a b = slice_of u a b
part_of cut.Substring u a b = substring_of u a b
part_of cut.Substr u a b = substr_of u a b

abbrev pub trimmed_of : Trims → List ℕ → List ℕ
trimmed_of trim.Both u = trimmed u
trimmed_of trim.Start u = trimmed_start u
trimmed_of trim.End u = trimmed_end u

abbrev pub padded_of : Pad → List ℕ → ℕ → List ℕ → List ℕ
padded_of pad.Start u m w = pad_start_of u m w
padded_of pad.End u m w = pad_end_of u m w

abbrev pub replaced_of : Replaces → List ℕ → List ℕ → List ℕ → List ℕ
replaced_of replace.First u w t = replaced_first u w t
replaced_of replace.All u w t = replaced_all u w t

abbrev pub match_count : Replaces → List ℕ → List ℕ → ℕ
match_count replace.First u w = 1
match_count replace.All u w = length (matches u w)

-- an argument is a number that names a place of these units
abbrev pub NamesPlace : (Num → ℕ → Option ℕ) → List ℕ → Converted Num → Type 0
NamesPlace place u (into n) = IsSome (place n (length u))
NamesPlace place u (fails e) = ⊥

-- which place a number names
abbrev pub named_place : Access → Num → ℕ → Option ℕ
named_place access.At = relative_place
named_place _ = exact_place

-- The string n that a method was called on, by its units u and the arguments vs. A method that reads one unit
-- reads the string where there is such a place, and `split` where a separator is given; `concat`, `repeat`
-- and the pads use it as it is.
abbrev pub StringSettled : {F : Type 0} → Method → ℕ → State F → ℕ → List ℕ → List Val → Type 0
StringSettled At at s n u vs = NamesPlace relative_place u (to_number at (first_of vs)) → IsSettled s n
StringSettled CharAt at s n u vs = NamesPlace exact_place u (to_number at (first_of vs)) → IsSettled s n
StringSettled CharCodeAt at s n u vs = NamesPlace exact_place u (to_number at (first_of vs)) → IsSettled s n
StringSettled CodePointAt at s n u vs = NamesPlace exact_place u (to_number at (first_of vs)) → IsSettled s n
StringSettled Concat at s n u vs = Unit {0}
StringSettled PadEnd at s n u vs = Unit {0}
StringSettled PadStart at s n u vs = Unit {0}
StringSettled Repeat at s n u vs = Unit {0}
StringSettled Split at s n u vs = is_undefined (first_of vs) ≡ false → IsSettled s n
StringSettled Join at s n u vs = Unit {0}
StringSettled m at s n u vs = IsSettled s n

-- the elements of an array, where a method joins them
abbrev pub ListSettled : {F R : Type 0} → Method → State F → (R → ℕ) → List R → Type 0
ListSettled Join s name rs = AllSettled s name rs
ListSettled m s name rs = Unit {0}

-- The second argument of a pad whose filler has m units, where n units are missing. It becomes a string where
-- any are, which joins the elements of an array, and the filler is read where its last copy is cut.
abbrev pub FillerSettled : {F R : Type 0} → State F → (R → ℕ) → ℕ → ℕ → List (Item R) → Type 0
FillerSettled s name n m vs = (1 ≤ n → OfSecond (λ v. ElementsSettled s name v) vs)
    × (CutsFiller n m → OfSecond (λ v. StringsSettled s name v) vs)

-- the same of a string with k units, where a number says how many are requested
abbrev pub PadSettled : {F R : Type 0} → State F → (R → ℕ) → ℕ → ℕ → Converted Num → List (Item R) → Type 0
PadSettled s name k m (into n) vs = FillerSettled s name (length_of n - k) m vs
PadSettled s name k m (fails e) vs = ⊥

-- The arguments vs that a method takes of a string with the units u. The strings that are searched, replaced
-- and put in are read, and `concat` takes strings as they are.
abbrev pub StringOperandsSettled : {F R : Type 0} → Method → ℕ → State F → State F → (R → ℕ) → List ℕ
    → List (Item R) → Type 0
StringOperandsSettled EndsWith at a b name u vs = OfFirst (λ v. StringsSettled b name v) vs
StringOperandsSettled Includes at a b name u vs = OfFirst (λ v. StringsSettled b name v) vs
StringOperandsSettled IndexOf at a b name u vs = OfFirst (λ v. StringsSettled b name v) vs
StringOperandsSettled LastIndexOf at a b name u vs = OfFirst (λ v. StringsSettled b name v) vs
StringOperandsSettled StartsWith at a b name u vs = OfFirst (λ v. StringsSettled b name v) vs
StringOperandsSettled Concat at a b name u vs = Every (λ v. ElementsSettled b name v) vs
StringOperandsSettled PadEnd at a b name u vs = PadSettled b name (length u)
    (second_units (all_seen a name vs)) (to_number at (first_of (all_seen a name vs))) vs
StringOperandsSettled PadStart at a b name u vs = PadSettled b name (length u)
    (second_units (all_seen a name vs)) (to_number at (first_of (all_seen a name vs))) vs
StringOperandsSettled Replace at a b name u vs =
    OfFirst (λ v. StringsSettled b name v) vs × OfSecond (λ v. StringsSettled b name v) vs
StringOperandsSettled ReplaceAll at a b name u vs =
    OfFirst (λ v. StringsSettled b name v) vs × OfSecond (λ v. StringsSettled b name v) vs
StringOperandsSettled Split at a b name u vs = OfFirst (λ v. StringsSettled b name v) vs
StringOperandsSettled m at a b name u vs = Unit {0}

-- the separator, where a method of an array joins
abbrev pub ListOperandsSettled : {F R : Type 0} → Method → State F → (R → ℕ) → List (Item R) → Type 0
ListOperandsSettled Join s name vs = OfFirst (λ v. StringsSettled s name v) vs
ListOperandsSettled m s name vs = Unit {0}
