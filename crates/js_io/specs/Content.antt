-- Helpers: no public contract reaches these definitions.
-- What the reading of an open file gives, by the bytes that it had left, where these are known.
use Rattle.std.specs.Prelude.{◌≡◌, ℕ, ◌<◌, ◌≤◌, List, length, None, Some, ⊤}
use Rattle.std.specs.declared.option.Option.{Option}
use Rattle.js_io.specs.declared.files.TheConstants.{FILE_MAX}
use Rattle.js_io.specs.declared.host.Content.{Content}
use Rattle.js_io.specs.declared.host.Content.TheVariants.{Whole, TooLarge}

-- known bytes are these
abbrev pub AreAll : Option (List ℕ) → List ℕ → Type 0
AreAll None bytes = ⊤
AreAll (Some left) bytes = bytes ≡ left

-- known bytes are more than a file may have
abbrev pub AreTooMany : Option (List ℕ) → Type 0
AreTooMany None = ⊤
AreTooMany (Some left) = FILE_MAX < length left

-- whole bytes are all that were left, and few enough; where there are too many, more than may be were read
abbrev pub IsContent : Option (List ℕ) → Content → Type 0
IsContent left (Whole bytes) = (length bytes.items ≤ FILE_MAX) × AreAll left bytes.items
IsContent left (TooLarge bytes) = (FILE_MAX < length bytes.items) × AreTooMany left
IsContent left _ = ⊤
