-- What stands beside a word in a table.
use Rattle.std.specs.Prelude.{ℕ, cond, Option, Some, None, List, [], ◌∷◌}
use Rattle.std.specs.Str.{bytes_eq}
use Rattle.std.specs.Borrow.{Bor}

-- the first row's with this word
abbrev pub beside : {A : Type 0} → List (Bor (List ℕ) × A) → List ℕ → Option A
beside [] w = None
beside (row ∷ rows) w = cond (bytes_eq w row.0.now) (Some row.1) (beside rows w)
