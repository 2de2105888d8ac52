-- Worked examples: a line as it stands in the README's list, and one with a number of four digits and a byte that is not printable.
use Rattle.std.specs.Prelude.{◌≡◌, refl, [], ◌∷◌}
use Rattle.prefixes.specs.declared.Prefix.TheVariants.{Disk}
use Rattle.parts.specs.declared.Component.TheVariants.{Prefix as Prefixed, Normal}
use Rattle.wording.specs.Lines.{spaces, cell_of, column_of, hex_of, shown_of, escaped_of, columns_of, line_of}
use Rattle.protocol.specs.Digits.{glyph_of}

-- `name                         3       4  maps`
pub name_line :
    line_of Normal 3 (109 ∷ 97 ∷ 112 ∷ 115 ∷ [])
    ≡ (110 ∷ 97 ∷ 109 ∷ 101 ∷ 32 ∷ 32 ∷ 32 ∷ 32 ∷ 32 ∷ 32 ∷ 32 ∷ 32 ∷ 32 ∷ 32 ∷ 32 ∷ 32 ∷ 32 ∷ 32 ∷ 32 ∷ 32 ∷ 32 ∷ 32 ∷ 32 ∷ 32 ∷ 32 ∷ 32 ∷ 32 ∷ 32 ∷ 32 ∷ 51 ∷ 32 ∷ 32 ∷ 32 ∷ 32 ∷ 32 ∷ 32 ∷ 32 ∷ 52 ∷ 32 ∷ 32 ∷ 109 ∷ 97 ∷ 112 ∷ 115 ∷ 10 ∷ [])
unfolding spaces cell_of column_of glyph_of hex_of shown_of escaped_of columns_of line_of
name_line = refl

-- `prefix, disk C            1025       2  C\xff`
pub disk_line :
    line_of (Prefixed (Disk 67)) 1025 (67 ∷ 255 ∷ [])
    ≡ (112 ∷ 114 ∷ 101 ∷ 102 ∷ 105 ∷ 120 ∷ 44 ∷ 32 ∷ 100 ∷ 105 ∷ 115 ∷ 107 ∷ 32 ∷ 67 ∷ 32 ∷ 32 ∷ 32 ∷ 32 ∷ 32 ∷ 32 ∷ 32 ∷ 32 ∷ 32 ∷ 32 ∷ 32 ∷ 32 ∷ 49 ∷ 48 ∷ 50 ∷ 53 ∷ 32 ∷ 32 ∷ 32 ∷ 32 ∷ 32 ∷ 32 ∷ 32 ∷ 50 ∷ 32 ∷ 32 ∷ 67 ∷ 92 ∷ 120 ∷ 102 ∷ 102 ∷ 10 ∷ [])
unfolding spaces cell_of column_of glyph_of hex_of shown_of escaped_of columns_of line_of
disk_line = refl
