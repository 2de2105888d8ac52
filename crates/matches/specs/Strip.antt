-- What remains of a path behind a base. Document 01, "Views over the list": "Strip: the rest after the base's components."
use Rattle.std.specs.Prelude.{ℕ, List, length}
use Rattle.octets.specs.declared.Seps.{Seps}
use Rattle.answers.specs.declared.View.{View}
use Rattle.answers.specs.Outcome.{Outcome, give, present}
use Rattle.components.specs.List.{start_of, list_of}
use Rattle.cursors.specs.Rest.{view_of, dotted, rest_of}
use Rattle.matches.specs.Match.{starts_of}

-- the rest of s after as many front steps as t has components; 3 "a strip does not match"
unfoldable pub strip_of : Seps → List ℕ → List ℕ → Outcome View
strip_of k s t = present (starts_of k s t) (give (view_of (rest_of (dotted (start_of k s) s) (list_of k s) (length (list_of k t)) 0)))
