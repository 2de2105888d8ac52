-- A component as a line of the table, byte by byte.
use Rattle.std.specs.Prelude.{ℕ, zero, suc, ◌+◌, ◌-◌, ◌/◌, ◌%◌, ◌≤◌, ◌≡◌, cond, List, [], ◌∷◌, ◌++◌, length, take, eqb, ltb}
use Rattle.answers.specs.Written.{over}
use Rattle.prefixes.specs.declared.Prefix.{Prefix}
use Rattle.prefixes.specs.declared.Prefix.TheVariants.{Verbatim, VerbatimUnc, VerbatimDisk, DeviceNs, Unc, Disk}
use Rattle.parts.specs.declared.Component.{Component}
use Rattle.protocol.specs.Digits.{glyph_of}
use Rattle.parts.specs.declared.Component.TheVariants.{Prefix as Prefixed, RootDir, CurDir, ParentDir, Normal}

-- w was put at place n of a buffer, whose bytes ahead of n and behind w stay; r is the place behind it
pub record Put (w before : List ℕ) (n r : ℕ) (after : List ℕ) : Type 0 where
  pub is : r ≡ n + length w
  pub leaves : after ≡ over (take n before ++ w) before
  -- these two are here so that what is put next needs no proof that it fits
  pub fits : n + length w ≤ length before
  pub long : length after ≡ length before

-- w stands at the buffer's front; r is the place behind it
pub record Fronted (w before : List ℕ) (r : ℕ) (after : List ℕ) : Type 0 where
  pub is : r ≡ length w
  pub leaves : after ≡ over w before
  pub fits : length w ≤ length before
  pub long : length after ≡ length before

unfoldable pub spaces : ℕ → List ℕ
spaces zero = []
spaces (suc n) = 32 ∷ spaces n

-- the digit that v ends in, and a space in the place of a leading zero
unfoldable pub cell_of : ℕ → ℕ
cell_of v = cond (eqb v 0) 32 (48 + v % 10)

-- v in four places, at the right
unfoldable pub column_of : ℕ → List ℕ
column_of v = cell_of (v / 1000) ∷ cell_of (v / 100) ∷ cell_of (v / 10) ∷ (48 + v % 10) ∷ []

-- \xNN
unfoldable pub hex_of : ℕ → List ℕ
hex_of b = 92 ∷ 120 ∷ glyph_of (b / 16) ∷ glyph_of (b % 16) ∷ []

-- printable ASCII, 32 to 126, as it is
unfoldable pub shown_of : ℕ → List ℕ
shown_of b = cond (ltb b 32) (hex_of b) (cond (ltb b 127) (b ∷ []) (hex_of b))

unfoldable pub escaped_of : List ℕ → List ℕ
escaped_of [] = []
escaped_of (b ∷ s) = shown_of b ++ escaped_of s

-- `prefix, verbatim`, `prefix, verbatim UNC`, `prefix, verbatim disk C`, `prefix, device`, `prefix, UNC`, `prefix, disk C`
abbrev pub prefix_words : Prefix → List ℕ
prefix_words (Verbatim n) = 112 ∷ 114 ∷ 101 ∷ 102 ∷ 105 ∷ 120 ∷ 44 ∷ 32 ∷ 118 ∷ 101 ∷ 114 ∷ 98 ∷ 97 ∷ 116 ∷ 105 ∷ 109 ∷ []
prefix_words (VerbatimUnc n) = 112 ∷ 114 ∷ 101 ∷ 102 ∷ 105 ∷ 120 ∷ 44 ∷ 32 ∷ 118 ∷ 101 ∷ 114 ∷ 98 ∷ 97 ∷ 116 ∷ 105 ∷ 109 ∷ 32 ∷ 85 ∷ 78 ∷ 67 ∷ []
prefix_words (VerbatimDisk d) = (112 ∷ 114 ∷ 101 ∷ 102 ∷ 105 ∷ 120 ∷ 44 ∷ 32 ∷ 118 ∷ 101 ∷ 114 ∷ 98 ∷ 97 ∷ 116 ∷ 105 ∷ 109 ∷ 32 ∷ 100 ∷ 105 ∷ 115 ∷ 107 ∷ 32 ∷ []) ++ (d ∷ [])
prefix_words (DeviceNs n) = 112 ∷ 114 ∷ 101 ∷ 102 ∷ 105 ∷ 120 ∷ 44 ∷ 32 ∷ 100 ∷ 101 ∷ 118 ∷ 105 ∷ 99 ∷ 101 ∷ []
prefix_words (Unc n) = 112 ∷ 114 ∷ 101 ∷ 102 ∷ 105 ∷ 120 ∷ 44 ∷ 32 ∷ 85 ∷ 78 ∷ 67 ∷ []
prefix_words (Disk d) = (112 ∷ 114 ∷ 101 ∷ 102 ∷ 105 ∷ 120 ∷ 44 ∷ 32 ∷ 100 ∷ 105 ∷ 115 ∷ 107 ∷ 32 ∷ []) ++ (d ∷ [])

-- `root`, `current directory`, `parent directory`, `name`
abbrev pub kind_words : Component → List ℕ
kind_words (Prefixed p) = prefix_words p
kind_words RootDir = 114 ∷ 111 ∷ 111 ∷ 116 ∷ []
kind_words CurDir = 99 ∷ 117 ∷ 114 ∷ 114 ∷ 101 ∷ 110 ∷ 116 ∷ 32 ∷ 100 ∷ 105 ∷ 114 ∷ 101 ∷ 99 ∷ 116 ∷ 111 ∷ 114 ∷ 121 ∷ []
kind_words ParentDir = 112 ∷ 97 ∷ 114 ∷ 101 ∷ 110 ∷ 116 ∷ 32 ∷ 100 ∷ 105 ∷ 114 ∷ 101 ∷ 99 ∷ 116 ∷ 111 ∷ 114 ∷ 121 ∷ []
kind_words Normal = 110 ∷ 97 ∷ 109 ∷ 101 ∷ []

-- the kind in 26 places, the start and the length in four with four spaces between them, two spaces
unfoldable pub columns_of : Component → ℕ → ℕ → List ℕ
columns_of c start len =
    kind_words c
    ++ spaces (26 - length (kind_words c))
    ++ column_of start
    ++ (32 ∷ 32 ∷ 32 ∷ 32 ∷ [])
    ++ column_of len
    ++ (32 ∷ 32 ∷ [])

-- the columns, the bytes, the line's end
unfoldable pub line_of : Component → ℕ → List ℕ → List ℕ
line_of c start text = columns_of c start (length text) ++ escaped_of text ++ (10 ∷ [])
