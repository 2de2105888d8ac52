-- The public call `prefix`.
use Rattle.std.specs.Prelude.{ℕ, List, Option, None}
use Rattle.octets.specs.Class.{seps_of}
use Rattle.answers.specs.declared.Reply.{Reply}
use Rattle.answers.specs.declared.Reply.TheVariants.{Done}
use Rattle.answers.specs.Outcome.{Outcome, give, in_mode, short, present}
use Rattle.prefixes.specs.Prefix.{prefix_in, end_of_prefix, has_prefix}
use Rattle.paths.specs.declared.Prefixed.{Prefixed}
use Rattle.prefixes.specs.declared.Prefix.{Prefix}

-- "A refusal returns its number, all other numbers of the answer 0": those of no prefix are 0 (`parsed_figures`)
abbrev pub refused_prefix : Reply → Prefixed
refused_prefix r = record { reply = r; prefix = None; len = 0 }

-- the prefix and its length; Absent where there is none
unfoldable pub prefix_asked : Option Prefix → Outcome Prefixed
prefix_asked p = present (has_prefix p) (give (record { reply = Done; prefix = p; len = end_of_prefix p }))

unfoldable pub prefix_call : ℕ → List ℕ → Outcome Prefixed
prefix_call m s = in_mode m (short s (prefix_asked (prefix_in (seps_of m) s)))
