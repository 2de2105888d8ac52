-- Which request a word names.
use Rattle.std.specs.Prelude.{ℕ, cond, Option, Some, None, List, codes}
use Rattle.std.specs.Str.{bytes_eq}
use Rattle.protocol.specs.declared.verbs.Verb.{Verb}
use Rattle.protocol.specs.declared.verbs.Verb.TheVariants.{Prefix, Parent, Name, Stem, Extension, Root, IsAbsolute, Front, Back, Rest, Ancestor, Compare, Starts, Ends, Strip, Join, SetName, SetExtension, Absolute}

-- v where w is the word x
unfoldable pub named : {A : Type 0} → List ℕ → List ℕ → A → A → A
named w x v others = cond (bytes_eq w x) v others

-- one path; one path and a place in it; two paths; two paths and a buffer to write into
unfoldable pub verb_of : List ℕ → Option Verb
verb_of w =
    named w (codes "prefix") (Some Prefix)
    (named w (codes "parent") (Some Parent)
    (named w (codes "name") (Some Name)
    (named w (codes "stem") (Some Stem)
    (named w (codes "extension") (Some Extension)
    (named w (codes "root") (Some Root)
    (named w (codes "absolute?") (Some IsAbsolute)
    (named w (codes "front") (Some Front)
    (named w (codes "back") (Some Back)
    (named w (codes "rest") (Some Rest)
    (named w (codes "ancestor") (Some Ancestor)
    (named w (codes "compare") (Some Compare)
    (named w (codes "starts") (Some Starts)
    (named w (codes "ends") (Some Ends)
    (named w (codes "strip") (Some Strip)
    (named w (codes "join") (Some Join)
    (named w (codes "set-name") (Some SetName)
    (named w (codes "set-extension") (Some SetExtension)
    (named w (codes "absolute") (Some Absolute)
    None))))))))))))))))))
