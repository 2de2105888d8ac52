-- The counted cursor's steps and its rest. Document 01, "A cursor is the mode and two numbers".
use Rattle.std.specs.Prelude.{ℕ, ◌+◌, List, not, length, eqb, Option, Some, None}
use Rattle.octets.specs.Class.{seps_of}
use Rattle.octets.specs.declared.Seps.{Seps}
use Rattle.answers.specs.declared.Reply.{Reply}
use Rattle.answers.specs.declared.Reply.TheVariants.{Done}
use Rattle.answers.specs.declared.View.{View}
use Rattle.answers.specs.Outcome.{Outcome, give, in_mode, short, taken, present}
use Rattle.parts.specs.declared.Element.{Element}
use Rattle.parts.specs.Elements.{nth_of, nth_back_of}
use Rattle.components.specs.List.{start_of, list_of}
use Rattle.cursors.specs.Rest.{view_of, dotted, rest_of}
use Rattle.paths.specs.declared.steps.Cursor.{Cursor}
use Rattle.paths.specs.declared.steps.Stepped.{Stepped}

-- "A refusal returns its number, all other numbers of the answer 0, the cursor as given"
abbrev pub refused_step : Cursor → Reply → Stepped
refused_step c r = record { reply = r; component = None; start = 0; len = 0; cursor = c }

-- Done: the element with its extent, and the cursor behind it
abbrev pub took_at : Option Element → Cursor → Stepped
took_at None c = refused_step c Done
took_at (Some e) c = record { reply = Done; component = Some e.component; start = e.start; len = e.len; cursor = c }

-- a step that gives the element i of a list of n and hands back the cursor d: "more components taken than the path has"; "With
-- f + b equal to the list's length: Absent."
unfoldable pub step_asked : ℕ → Cursor → Option Element → Cursor → Outcome Stepped
step_asked n c i d = taken c.front c.back n (present (not (eqb (c.front + c.back) n)) (give (took_at i d)))

-- "A front step gives element f, a back step the b-th from the end, and hands back the cursor moved by one."
unfoldable pub next_in : List Element → Cursor → Outcome Stepped
next_in l c = step_asked (length l) c (nth_of l c.front) (record { mode = c.mode; front = c.front + 1; back = c.back })

unfoldable pub next_back_in : List Element → Cursor → Outcome Stepped
next_back_in l c = step_asked (length l) c (nth_back_of l c.back) (record { mode = c.mode; front = c.front; back = c.back + 1 })

unfoldable pub next_call : Cursor → List ℕ → Outcome Stepped
next_call c s = in_mode c.mode (short s (next_in (list_of (seps_of c.mode) s) c))

unfoldable pub next_back_call : Cursor → List ℕ → Outcome Stepped
next_back_call c s = in_mode c.mode (short s (next_back_in (list_of (seps_of c.mode) s) c))

unfoldable pub rest_for : Seps → List ℕ → ℕ → ℕ → Outcome View
rest_for k s f b = taken f b (length (list_of k s)) (give (view_of (rest_of (dotted (start_of k s) s) (list_of k s) f b)))

unfoldable pub rest_call : Cursor → List ℕ → Outcome View
rest_call c s = in_mode c.mode (short s (rest_for (seps_of c.mode) s c.front c.back))
