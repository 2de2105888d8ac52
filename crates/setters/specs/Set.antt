-- A path with another file name or extension. Document 01, "Output".
use Rattle.std.specs.Prelude.{ℕ, ◌+◌, List, [], ◌∷◌, ◌++◌, Bool, true, false, cond, length, take, eqb}
use Rattle.octets.specs.Class.{is_sep}
use Rattle.octets.specs.declared.Seps.{Seps}
use Rattle.answers.specs.declared.View.{View}
use Rattle.answers.specs.Outcome.{Outcome, refuse, give, plain}
use Rattle.parts.specs.Elements.{is_here}
use Rattle.views.specs.Views.{rest_back, last_name, file_stem_of}

-- "Set file name: drop the file name if there is one (take the parent), then join.": what is joined to
unfoldable pub base_of : Seps → List ℕ → List ℕ
base_of k p = cond (is_here (last_name k p)) (take (rest_back k p 1).len p) p

-- "a new extension holds a separator of the mode"
unfoldable pub holds : (ℕ → Bool) → List ℕ → Bool
holds sep [] = false
holds sep (x ∷ e) = cond (sep x) true (holds sep e)

-- "a nonempty extension adds `.` and itself", behind p
unfoldable pub pointed : List ℕ → List ℕ → List ℕ
pointed p e = cond (eqb (length e) 0) p (p ++ (46 ∷ []) ++ e)

-- what f makes of a view, if there is one
abbrev pub on_view : Outcome View → (View → List ℕ) → Outcome (List ℕ)
on_view (refuse r) f = refuse r
on_view (give v) f = give (f v)

-- "Set extension: cut behind the stem; ..; without a stem, Absent."
unfoldable pub extended : Seps → List ℕ → List ℕ → Outcome (List ℕ)
extended k p e = plain (holds (is_sep k) e) (on_view (file_stem_of k p) (λ v. pointed (take (v.start + v.len) p) e))
