-- Properties of objects, by their keys (ECMA-262, "OrdinaryGet").
use Rattle.std.specs.Prelude.{ℕ, ◌*◌, List, length, nat_le, if◌then◌else◌, Option, Some, None, unwrap_or}
use Rattle.std.specs.Prelude.{Bool, ◌||◌, bytes_eq, codes, Result, Ok, Err}
use Rattle.js_item.specs.Contents.{Fields, undefined, null, symbol, object}
use Rattle.js_item.specs.Seen.{Val}
use Rattle.js_item.specs.Puts.{value_by}
use Rattle.eval_values.specs.declared.value.Kind.TheVariants.{RangeError, TypeError}
use Rattle.eval_values.specs.Outcome.{Out, gave, bind, converting, needing, throwing, refuses, interning}
use Rattle.eval_values.specs.Need.{nothing, reads}
use Rattle.eval_values.specs.Conversions.{to_string, string_units}

-- the properties that objects have from their prototype, which the profile leaves out (ECMA-262, "Properties
-- of the Object Prototype Object")
abbrev pub is_inherited : List ℕ → Bool
is_inherited key = bytes_eq key (codes "constructor") || bytes_eq key (codes "hasOwnProperty")
    || bytes_eq key (codes "isPrototypeOf") || bytes_eq key (codes "propertyIsEnumerable")
    || bytes_eq key (codes "toLocaleString") || bytes_eq key (codes "toString")
    || bytes_eq key (codes "valueOf") || bytes_eq key (codes "__proto__")
    || bytes_eq key (codes "__defineGetter__") || bytes_eq key (codes "__defineSetter__")
    || bytes_eq key (codes "__lookupGetter__") || bytes_eq key (codes "__lookupSetter__")

-- the key of a read, which is interned
abbrev pub key_out : List ℕ → Out (List ℕ)
key_out key = gave key (interning (reads (2 * length key)) key)

-- the value of the own property of a key ("OrdinaryGetOwnProperty")
abbrev pub own : List ℕ → Fields (List ℕ) → Option Val
own key fs = value_by (λ k. bytes_eq k key) fs

-- what a read gives of an own property, or of an object that has none of the key
abbrev pub got : ℕ → List ℕ → Option Val → Out Val
got at key None = if is_inherited key then refuses at else needing nothing undefined
got at key (Some v) = needing nothing v

-- the property of a key, of a read at a place
abbrev pub property : ℕ → List ℕ → Fields (List ℕ) → Out Val
property at key fs = bind (key_out key) (λ k. got at k (own k fs))

-- the same of a key that no object has from its prototype
abbrev pub plain_property : List ℕ → Fields (List ℕ) → Out Val
plain_property key fs = bind (key_out key) (λ k. needing nothing (unwrap_or (own k fs) undefined))

-- a property of a value by an identifier behind a point, other than `length` and `description` ("Property
-- Accessors"); no source text spells one that is longer than a string may be
abbrev pub property_of : ℕ → ℕ → List ℕ → Val → Out Val
property_of at limit key undefined = throwing nothing TypeError
property_of at limit key null = throwing nothing TypeError
property_of at limit key (object fs) =
    if nat_le (length key) limit then property at key fs else throwing nothing RangeError
property_of at limit key _ = refuses at

-- the property of the key that an index becomes ("ToPropertyKey"), of which no key of the profile is a symbol
abbrev pub indexed_object : ℕ → ℕ → Fields (List ℕ) → Val → Out Val
indexed_object at limit fs (symbol k) = needing (reads 0) undefined
indexed_object at limit fs i =
    converting (reads (string_units i)) (to_string limit i) (λ key. property at key fs)

-- a result, with its value as what f makes of it
abbrev pub given_as : {A B E : Type 0} → (A → B) → Result A E → Result B E
given_as f (Ok v) = Ok (f v)
given_as f (Err e) = Err e
