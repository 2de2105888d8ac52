-- The nine replies, the answers, and how a refusal looks. Document 01, "Replies".
use Rattle.std.specs.Prelude.{ℕ, Bool, true, false}
use Rattle.answers.specs.declared.Reply.{Reply}
use Rattle.answers.specs.declared.Reply.TheVariants.{Done, Mode, Length, Absent, Name, Empty, Base, Room, Cursor}
use Rattle.answers.specs.declared.View.{View}
use Rattle.answers.specs.declared.Verdict.{Verdict}

-- the table's numbers
abbrev pub number_of : Reply → ℕ
number_of Done = 0
number_of Mode = 1
number_of Length = 2
number_of Absent = 3
number_of Name = 4
number_of Empty = 5
number_of Base = 6
number_of Room = 7
number_of Cursor = 8

-- "A refusal returns its number, all other numbers of the answer 0"
abbrev pub refused_view : Reply → View
refused_view r = record { reply = r; start = 0; len = 0 }

abbrev pub refused_verdict : Reply → Verdict
refused_verdict r = record { reply = r; value = 0 }

-- Done, with the part asked for, or with the value
abbrev pub seen : ℕ → ℕ → View
seen a n = record { reply = Done; start = a; len = n }

abbrev pub judged : ℕ → Verdict
judged v = record { reply = Done; value = v }

-- a test's value
abbrev pub bit : Bool → ℕ
bit true = 1
bit false = 0
