-- The public calls that make one path of two inputs. Room is decided where the result meets the buffer, in `Wrote`.
use Rattle.std.specs.Prelude.{ℕ, List}
use Rattle.octets.specs.declared.Seps.{Seps}
use Rattle.answers.specs.Outcome.{Outcome, give}
use Rattle.paths.specs.Pairs.{pair_call}
use Rattle.joins.specs.Join.{joined}
use Rattle.setters.specs.Set.{base_of, extended}

abbrev pub joined_as : Seps → List ℕ → List ℕ → Outcome (List ℕ)
joined_as k p q = give (joined k p q)

-- "Set file name: drop the file name if there is one (take the parent), then join."
abbrev pub renamed_as : Seps → List ℕ → List ℕ → Outcome (List ℕ)
renamed_as k p q = give (joined k (base_of k p) q)

abbrev pub join_call : ℕ → List ℕ → List ℕ → Outcome (List ℕ)
join_call = pair_call joined_as

abbrev pub set_name_call : ℕ → List ℕ → List ℕ → Outcome (List ℕ)
set_name_call = pair_call renamed_as

abbrev pub set_extension_call : ℕ → List ℕ → List ℕ → Outcome (List ℕ)
set_extension_call = pair_call extended
