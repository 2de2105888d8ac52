-- Which command and which mode a word names.
use Rattle.std.specs.Prelude.{ℕ, Option, Some, None, List, [], ◌∷◌}
use Rattle.protocol.specs.Verbs.{named}
use Rattle.wording.specs.declared.commands.Command.{Command}
use Rattle.wording.specs.declared.commands.Command.TheVariants.{Help, List as Listing, Parent, Absolute, Join, Compare, Strip}

-- --help, list, parent, absolute, join, compare, strip
unfoldable pub command_of : List ℕ → Option Command
command_of w =
    named w (45 ∷ 45 ∷ 104 ∷ 101 ∷ 108 ∷ 112 ∷ []) (Some Help)
    (named w (108 ∷ 105 ∷ 115 ∷ 116 ∷ []) (Some Listing)
    (named w (112 ∷ 97 ∷ 114 ∷ 101 ∷ 110 ∷ 116 ∷ []) (Some Parent)
    (named w (97 ∷ 98 ∷ 115 ∷ 111 ∷ 108 ∷ 117 ∷ 116 ∷ 101 ∷ []) (Some Absolute)
    (named w (106 ∷ 111 ∷ 105 ∷ 110 ∷ []) (Some Join)
    (named w (99 ∷ 111 ∷ 109 ∷ 112 ∷ 97 ∷ 114 ∷ 101 ∷ []) (Some Compare)
    (named w (115 ∷ 116 ∷ 114 ∷ 105 ∷ 112 ∷ []) (Some Strip)
    None))))))

-- unix, windows
unfoldable pub mode_of : List ℕ → Option ℕ
mode_of w =
    named w (117 ∷ 110 ∷ 105 ∷ 120 ∷ []) (Some 0)
    (named w (119 ∷ 105 ∷ 110 ∷ 100 ∷ 111 ∷ 119 ∷ 115 ∷ []) (Some 1)
    None)
