-- Bytes: the class of each, and the three sets of separators. Document 01, "Bytes".
use Rattle.std.specs.Prelude.{ℕ, Bool, true, false, cond, leb, eqb}
use Rattle.octets.specs.declared.Class.{Class}
use Rattle.octets.specs.declared.Class.TheVariants.{Slash, Backslash, Dot, Colon, Letter, Other}
use Rattle.octets.specs.declared.Seps.{Seps}
use Rattle.octets.specs.declared.Seps.TheVariants.{Unix, Windows, Verbatim}

-- "A path is any bytes, 0 to 4,096 of them."
abbrev pub limit : ℕ
limit = 4096

-- "A byte falls into one class: slash (47), backslash (92), dot (46), colon (58), drive letter (65 to 90, 97 to 122), other."
unfoldable pub class_of : ℕ → Class
class_of b =
    cond (eqb b 47) Slash
    (cond (eqb b 92) Backslash
    (cond (eqb b 46) Dot
    (cond (eqb b 58) Colon
    (cond (leb 65 b)
    (cond (leb b 90) Letter (cond (leb 97 b) (cond (leb b 122) Letter Other) Other))
    Other))))

abbrev pub is_letter_class : Class → Bool
is_letter_class Slash = false
is_letter_class Backslash = false
is_letter_class Dot = false
is_letter_class Colon = false
is_letter_class Letter = true
is_letter_class Other = false

unfoldable pub is_letter : ℕ → Bool
is_letter b = is_letter_class (class_of b)

-- "Unix separator: `/`. Windows: `\` and `/`. Inside a verbatim prefix's path only `\` separates."
abbrev pub is_sep : Seps → ℕ → Bool
is_sep Unix b = eqb b 47
is_sep Windows b = cond (eqb b 47) true (eqb b 92)
is_sep Verbatim b = eqb b 92

-- "Mode 0 is Unix, mode 1 Windows."
unfoldable pub seps_of : ℕ → Seps
seps_of m = cond (eqb m 0) Unix Windows
