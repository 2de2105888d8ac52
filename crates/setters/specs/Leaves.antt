-- What the leaves promise, and what their loops keep. Nothing here has to be believed.
use Rattle.std.specs.Prelude.{ℕ, List, Bool, drop}
use Rattle.setters.specs.Set.{holds}

-- what is left of a question at place i
unfoldable pub holds_from : (ℕ → Bool) → List ℕ → ℕ → Bool
holds_from sep e i = holds sep (drop i e)
