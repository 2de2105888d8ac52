-- What the firmware's functions take and hand back otherwise than the calls below them.
use Rattle.std.specs.Prelude.{ℕ, List, [], ◌∷◌}
use Rattle.answers.specs.declared.View.{View}
use Rattle.answers.specs.Reply.{number_of}
use Rattle.paths.specs.declared.steps.Cursor.{Cursor}

-- the cursor, as three numbers
abbrev pub cursor_at : ℕ → ℕ → ℕ → Cursor
cursor_at mode front back = record { mode = mode; front = front; back = back }

-- the length of what was written; it starts at 0
unfoldable pub written_numbers : View → List ℕ
written_numbers a = number_of a.reply ∷ a.len ∷ []
