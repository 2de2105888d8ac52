-- The public call `absolute`.
use Rattle.std.specs.Prelude.{ℕ, List}
use Rattle.answers.specs.Outcome.{Outcome, in_unix, short}
use Rattle.absolute.specs.Absolute.{absolute_of}

-- 1 "for `absolute`, not 0"; 2 "The current directory's content is looked at only for a relative path; its length always."
-- 5 and 6 stand in `absolute_of`, 7 in `Wrote`.
unfoldable pub absolute_call : ℕ → List ℕ → List ℕ → Outcome (List ℕ)
absolute_call m s cwd = in_unix m (short s (short cwd (absolute_of s cwd)))
