-- The sets of characters of the URI functions, all of them ASCII (ECMA-262, "encodeURI",
-- "encodeURIComponent", "decodeURI", "decodeURIComponent").
use Rattle.std.specs.Prelude.{ℕ, Bool, false, ◌||◌, nat_le, ◌&&◌, ◌==◌}

-- A to Z, a to z, 0 to 9
abbrev pub is_alphanumeric : ℕ → Bool
is_alphanumeric u =
    (nat_le 0x41 u && nat_le u 0x5A) || (nat_le 0x61 u && nat_le u 0x7A) || (nat_le 0x30 u && nat_le u 0x39)

-- - _ . ! ~ * ' ( )
abbrev pub is_uri_mark : ℕ → Bool
is_uri_mark u = u == 0x2D || u == 0x5F || u == 0x2E || u == 0x21 || u == 0x7E || u == 0x2A || u == 0x27
    || u == 0x28 || u == 0x29

-- ; / ? : @ & = + $ , #
abbrev pub is_uri_reserved : ℕ → Bool
is_uri_reserved u = u == 0x3B || u == 0x2F || u == 0x3F || u == 0x3A || u == 0x40 || u == 0x26 || u == 0x3D
    || u == 0x2B || u == 0x24 || u == 0x2C || u == 0x23

-- what encodeURIComponent and encodeURI leave as it is
abbrev pub component_keep : ℕ → Bool
component_keep u = is_alphanumeric u || is_uri_mark u

abbrev pub uri_keep : ℕ → Bool
uri_keep u = component_keep u || is_uri_reserved u

-- the characters whose escapes decodeURIComponent leaves as they are; decodeURI leaves the reserved ones
abbrev pub no_hold : ℕ → Bool
no_hold u = false
