-- The public calls `parent`, `ancestor`, `file_name`, `file_stem`, `extension`.
use Rattle.std.specs.Prelude.{ℕ, List}
use Rattle.octets.specs.Class.{seps_of}
use Rattle.octets.specs.declared.Seps.{Seps}
use Rattle.answers.specs.declared.View.{View}
use Rattle.answers.specs.Outcome.{Outcome, in_mode, short}
use Rattle.views.specs.Views.{parent_of, ancestor_of, file_name_of, file_stem_of, extension_of}

-- a view of one path: Mode, Length, and behind them what f finds, or Absent
unfoldable pub view_call : (Seps → List ℕ → Outcome View) → ℕ → List ℕ → Outcome View
view_call f m s = in_mode m (short s (f (seps_of m) s))

abbrev pub parent_call : ℕ → List ℕ → Outcome View
parent_call = view_call parent_of

abbrev pub ancestor_call : ℕ → ℕ → List ℕ → Outcome View
ancestor_call n = view_call (ancestor_of n)

abbrev pub file_name_call : ℕ → List ℕ → Outcome View
file_name_call = view_call file_name_of

abbrev pub file_stem_call : ℕ → List ℕ → Outcome View
file_stem_call = view_call file_stem_of

abbrev pub extension_call : ℕ → List ℕ → Outcome View
extension_call = view_call extension_of
