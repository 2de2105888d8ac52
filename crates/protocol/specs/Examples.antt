-- Words as a request has them, and what they stand for.
use Rattle.std.specs.Prelude.{◌≡◌, refl, Some, None, [], ◌∷◌}
use Rattle.protocol.specs.declared.verbs.Verb.TheVariants.{IsAbsolute, Absolute}
use Rattle.protocol.specs.Digits.{digit_of, decimal, value_from, read_from, number_in, pairs_of, bytes_in}
use Rattle.protocol.specs.Verbs.{named, verb_of}

-- 007, 18446744073709551615 and 18446744073709551616
pub numbers :
    (number_in (48 ∷ 48 ∷ 55 ∷ []) ≡ Some 7)
    × (number_in (49 ∷ 56 ∷ 52 ∷ 52 ∷ 54 ∷ 55 ∷ 52 ∷ 52 ∷ 48 ∷ 55 ∷ 51 ∷ 55 ∷ 48 ∷ 57 ∷ 53 ∷ 53 ∷ 49 ∷ 54 ∷ 49 ∷ 53 ∷ []) ≡ Some 18446744073709551615)
    × (number_in (49 ∷ 56 ∷ 52 ∷ 52 ∷ 54 ∷ 55 ∷ 52 ∷ 52 ∷ 48 ∷ 55 ∷ 51 ∷ 55 ∷ 48 ∷ 57 ∷ 53 ∷ 53 ∷ 49 ∷ 54 ∷ 49 ∷ 54 ∷ []) ≡ None)
unfolding number_in read_from decimal value_from digit_of
numbers = (refl, refl, refl)

-- `-`, 2f61, 2F and 2f6
pub bytes :
    (bytes_in (45 ∷ []) ≡ Some [])
    × (bytes_in (50 ∷ 102 ∷ 54 ∷ 49 ∷ []) ≡ Some (47 ∷ 97 ∷ []))
    × (bytes_in (50 ∷ 70 ∷ []) ≡ None)
    × (bytes_in (50 ∷ 102 ∷ 54 ∷ []) ≡ None)
unfolding bytes_in pairs_of digit_of
bytes = (refl, refl, refl, refl)

-- absolute?, absolute and absolut
pub verbs :
    (verb_of (97 ∷ 98 ∷ 115 ∷ 111 ∷ 108 ∷ 117 ∷ 116 ∷ 101 ∷ 63 ∷ []) ≡ Some IsAbsolute)
    × (verb_of (97 ∷ 98 ∷ 115 ∷ 111 ∷ 108 ∷ 117 ∷ 116 ∷ 101 ∷ []) ≡ Some Absolute)
    × (verb_of (97 ∷ 98 ∷ 115 ∷ 111 ∷ 108 ∷ 117 ∷ 116 ∷ []) ≡ None)
unfolding verb_of named
verbs = (refl, refl, refl)
