-- Elements of a list by their number, from the front and from the back, and the bytes of each.
use Rattle.std.specs.Prelude.{ℕ, zero, suc, ◌+◌, ◌-◌, ◌≤◌, List, [], ◌∷◌, Bool, true, false, cond, length, take, drop, ltb, Option, Some, None}
use Rattle.parts.specs.declared.Element.{Element}

-- element f of a list
unfoldable pub nth_of : List Element → ℕ → Option Element
nth_of [] f = None
nth_of (p ∷ l) zero = Some p
nth_of (p ∷ l) (suc f) = nth_of l f

-- the element that has b others behind it
unfoldable pub nth_back_of : List Element → ℕ → Option Element
nth_back_of l b = cond (ltb b (length l)) (nth_of l (length l - 1 - b)) None

-- it is there
abbrev pub is_here : Option Element → Bool
is_here None = false
is_here (Some p) = true

-- where an element starts and where it ends, and 0 for none
abbrev pub start_or : Option Element → ℕ
start_or None = 0
start_or (Some p) = p.start

abbrev pub end_or : Option Element → ℕ
end_or None = 0
end_or (Some p) = p.start + p.len

-- n bytes of s from place i on, and those of an element
abbrev pub bytes_at : List ℕ → ℕ → ℕ → List ℕ
bytes_at s i n = take n (drop i s)

abbrev pub bytes_of : List ℕ → Element → List ℕ
bytes_of s x = bytes_at s x.start x.len

-- each element of a list ends at or before place m
unfoldable pub Upto : ℕ → List Element → Type 0
Upto m [] = Unit
Upto m (p ∷ l) = (p.start + p.len ≤ m) × Upto m l
