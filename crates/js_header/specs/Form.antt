-- A string's form, and the one word that denotes it in the heap: tag, wide bit, fixed bit, and two fields
-- of 29 bits.
use Rattle.std.specs.Prelude.{ℕ, ◌+◌, ◌*◌, ◌/◌, ◌%◌, ◌^◌, ◌<◌, ◌==◌, Bool, true, false, if◌then◌else◌}
use Rattle.std.specs.Prelude.{Option, Some, None}
use Rattle.js_header.specs.declared.form.Form.{Form}
use Rattle.js_header.specs.declared.form.Form.TheVariants.{Unborn, Flat, Cons, Sliced, Thin}

-- each number in the form is below 2^29, so that it fits its field
abbrev pub IsInRange : Form → Type 0
IsInRange Unborn = Unit {0}
IsInRange (Flat wide start fixed) = start < 2 ^ 29
IsInRange (Cons wide left right) = (left < 2 ^ 29) × (right < 2 ^ 29)
IsInRange (Sliced wide parent offset) = (parent < 2 ^ 29) × (offset < 2 ^ 29)
IsInRange (Thin target) = target < 2 ^ 29

-- one bit: 1 for true, 0 for false
abbrev pub bit : Bool → ℕ
bit true = 1
bit false = 0

-- bits 0 to 2: the tag; bit 3: wide; bit 4: fixed; bits 5 to 33: the first field; bits 34 to 62: the second
-- field; bit 63 is 0
abbrev pub packed : ℕ → Bool → Bool → ℕ → ℕ → ℕ
packed tag wide fixed first second = tag + 8 * bit wide + 16 * bit fixed + 32 * first + 17179869184 * second

-- the word of a form; what a form does not use is 0
abbrev pub word_of : Form → ℕ
word_of Unborn = 0
word_of (Flat wide start fixed) = packed 1 wide fixed start 0
word_of (Cons wide left right) = packed 2 wide false left right
word_of (Sliced wide parent offset) = packed 3 wide false parent offset
word_of (Thin target) = packed 4 false false target 0

-- bits 5 to 33 of a word: the start of a flat form, the left part of a cons, the parent of a slice, or the
-- target of a thin form
abbrev pub first_field : ℕ → ℕ
first_field w = w / 32 % 536870912

-- bits 34 to 62 of a word: the right part of a cons, or the offset of a slice
abbrev pub second_field : ℕ → ℕ
second_field w = w / 17179869184 % 536870912

-- bit 3 of a word
abbrev pub is_wide_word : ℕ → Bool
is_wide_word w = w / 8 % 2 == 1

-- bit 4 of a word
abbrev pub is_fixed : ℕ → Bool
is_fixed w = w / 16 % 2 == 1

-- the form that a tag names, with what the word has in that form's fields
abbrev pub form_by_tag : ℕ → Form
form_by_tag w = if w % 8 == 1 then Flat (is_wide_word w) (first_field w) (is_fixed w)
    else (if w % 8 == 2 then Cons (is_wide_word w) (first_field w) (second_field w)
    else (if w % 8 == 3 then Sliced (is_wide_word w) (first_field w) (second_field w)
    else (if w % 8 == 4 then Thin (first_field w) else Unborn)))

-- the form whose word this is; none where it is the word of no form
abbrev pub form_of : ℕ → Option Form
form_of w = if word_of (form_by_tag w) == w then Some (form_by_tag w) else None
