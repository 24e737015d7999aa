-- Identifiers (ECMA-262, "Keywords and Reserved Words"), and the names that mean something behind a point.
use Rattle.std.specs.Prelude.{ℕ, List, [], ◌∷◌, ◌++◌, ◌==◌, codes, true, false, find, Option, Some}
use Rattle.std.specs.Prelude.{None, if◌then◌else◌, option_map, unwrap_or}
use Rattle.std.specs.List.{list_any, slice_split}
use Rattle.std.specs.Option.{option_or}
use Rattle.std.specs.Str.{bytes_eq}
use Rattle.eval_tree.specs.Methods.{named, method_names}
use Rattle.parse_syntax.specs.declared.token.Word.{Word}
use Rattle.parse_syntax.specs.declared.token.Word.TheVariants as word
use Rattle.parse_syntax.specs.declared.token.Property.{Property}
use Rattle.parse_syntax.specs.declared.token.Property.TheVariants as property
use Rattle.parse_syntax.specs.Terminals.{letters_of}

-- the parts between blanks
abbrev pub parted : List ℕ → List (List ℕ)
parted = slice_split (λ c. c == 32)

-- ReservedWord, with those that strict code adds
abbrev pub reserved_words : List (List ℕ)
reserved_words = parted (codes "break case catch class const continue debugger default delete do else enum "
    ++ codes "export extends false finally for function if implements import in instanceof interface let "
    ++ codes "new null package private protected public return static super switch this throw true try "
    ++ codes "typeof var void while with yield")

-- identifiers of the standard and of its global environment and prototypes that the profile keeps back
abbrev pub kept_words : List (List ℕ)
kept_words = parted (codes "await print String Symbol JSON undefined NaN Infinity eval arguments globalThis "
    ++ codes "isFinite isNaN parseFloat parseInt decodeURI decodeURIComponent encodeURI encodeURIComponent "
    ++ codes "escape unescape AggregateError Array ArrayBuffer Atomics BigInt BigInt64Array BigUint64Array "
    ++ codes "Boolean DataView Date Error EvalError FinalizationRegistry Float32Array Float64Array Function "
    ++ codes "Int8Array Int16Array Int32Array Map Math Number Object Promise Proxy RangeError "
    ++ codes "ReferenceError Reflect RegExp Set SharedArrayBuffer SyntaxError TypeError URIError Uint8Array "
    ++ codes "Uint8ClampedArray Uint16Array Uint32Array WeakMap WeakRef WeakSet constructor hasOwnProperty "
    ++ codes "isPrototypeOf propertyIsEnumerable toLocaleString toString valueOf __proto__ __defineGetter__ "
    ++ codes "__defineSetter__ __lookupGetter__ __lookupSetter__")

-- the identifiers that mean something where they are no names: those by which a statement begins or goes on,
-- and those by which an operand begins
abbrev pub meant_words : List Word
meant_words = word.Let ∷ word.Const ∷ word.Print ∷ word.If ∷ word.Else ∷ word.For ∷ word.Undefined ∷
    word.Null ∷ word.True ∷ word.False ∷ word.NaN ∷ word.Infinity ∷ word.String ∷ word.Symbol ∷ word.Json ∷
    word.Object ∷ word.EncodeUri ∷ word.EncodeUriComponent ∷ word.DecodeUri ∷ word.DecodeUriComponent ∷ []

-- what an identifier is where it can't be a name: the identifier itself if it has a meaning here, else
-- Reserved; None for a name
abbrev pub word_meant : List ℕ → Option Word
word_meant letters = option_or (find (λ w. bytes_eq letters (letters_of w)) meant_words)
    (if list_any (bytes_eq letters) (reserved_words ++ kept_words) then Some word.Reserved else None)

-- the names that mean something behind a point, but for the methods
abbrev pub property_names : List (List ℕ × Property)
property_names = (codes "length", property.Length) ∷ (codes "description", property.Description) ∷
    (codes "fromCharCode", property.FromCharCode) ∷ (codes "fromCodePoint", property.FromCodePoint) ∷
    (codes "keyFor", property.KeyFor) ∷ (codes "stringify", property.Stringify) ∷
    (codes "keys", property.Keys) ∷ []

-- what a name means behind a point: a property, else a method, else nothing of its own
abbrev pub word_property : List ℕ → Property
word_property letters = unwrap_or (option_or (named property_names letters)
    (option_map property.Method (named method_names letters))) property.Nothing
