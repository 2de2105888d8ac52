-- What a step over places promises. Nothing here has to be believed: the public promises speak of the list.
use Rattle.std.specs.Prelude.{ℕ, ◌+◌, ◌-◌, ◌^◌, ◌<◌, ◌≤◌, ◌≡◌, List, [], ◌∷◌, ◌++◌, Bool, true, false, ◌⊎◌, length, get_or, take, Option, Some, None, MatchOption}
use Rattle.std.specs.Prelude.{Ok, Err}
use Rattle.std.specs.Prelude.{Result}
use Rattle.octets.specs.Class.{is_sep}
use Rattle.octets.specs.Segment.{end_of}
use Rattle.parts.specs.declared.Element.{Element}
use Rattle.parts.specs.declared.Kind.{Kind}
use Rattle.parts.specs.declared.Kind.TheVariants.{Dot, DotDot, Name}
use Rattle.parts.specs.declared.Part.{Part}
use Rattle.parts.specs.declared.Parts.{Parts}
use Rattle.parts.specs.Body.{component_of, dots, sort_at, from}
use Rattle.parts.specs.Elements.{nth_back_of}

abbrev pub is_name : Kind → Bool
is_name Dot = false
is_name DotDot = false
is_name Name = true

-- the segment from place i to e of s as a part, if it is one
abbrev pub part_of : Option Kind → ℕ → ℕ → Option Part
part_of None i n = None
part_of (Some q) i n = Some (record { kind = q; start = i; len = n })

abbrev pub part_at : Bool → List ℕ → ℕ → ℕ → Option Part
part_at v s i e = part_of (sort_at v s i e) i (e - i)

-- a part as an element of the list
abbrev pub lift : Part → Element
lift p = record { component = component_of p.kind; start = p.start; len = p.len }

abbrev pub raised : Option Part → Option Element
raised None = None
raised (Some p) = Some (lift p)

-- the list that a first step leaves to its answer: nothing, or a part and what stands behind it
abbrev pub unroll : (ℕ → Bool) → Bool → List ℕ → Option Part → List Element
unroll sep v s None = []
unroll sep v s (Some p) = lift p ∷ from sep v s (p.start + p.len + 1)

-- a part lies in the path s, at or after place i, and places past its end fit a usize
abbrev pub Spans : List ℕ → ℕ → Option Part → Type 0
Spans s i None = Unit
Spans s i (Some p) = (i ≤ p.start) × (p.start + p.len ≤ length s) × (length s < 2 ^ 63)

pub record FirstAt (sep : ℕ → Bool) (v : Bool) (s : List ℕ) (i : ℕ) (r : Option Part) : Type 0 where
  pub is : from sep v s i ≡ unroll sep v s r
  pub spans : Spans s i r

-- p is the first part at or after place i
pub record Took (sep : ℕ → Bool) (v : Bool) (s : List ℕ) (i : ℕ) (p : Part) : Type 0 where
  pub is : from sep v s i ≡ lift p ∷ from sep v s (p.start + p.len + 1)
  pub low : i ≤ p.start
  pub high : p.start + p.len ≤ length s
  pub room : length s < 2 ^ 63

-- ---- from the back

-- the elements of the bytes lo to hi of s
unfoldable pub within : (ℕ → Bool) → Bool → List ℕ → ℕ → ℕ → List Element
within sep v s lo hi = from sep v (take hi s) lo

-- the segment that ends at hi, of those from lo on, begins at r
pub record BeginAt (sep : ℕ → Bool) (s : List ℕ) (lo hi r : ℕ) : Type 0 where
  pub low : lo ≤ r
  pub high : r ≤ hi
  pub clear : end_of sep (take hi s) r ≡ hi
  pub edge : (r ≡ lo) ⊎ ((lo < r) × (sep (get_or s (r - 1) 0) ≡ true))

-- the list that a step back leaves to its answer: nothing, or what stands before a part, and it
abbrev pub roll_back : (ℕ → Bool) → Bool → List ℕ → ℕ → Option Part → List Element
roll_back sep v s lo None = []
roll_back sep v s lo (Some p) = within sep v s lo p.start ++ (lift p ∷ [])

-- a part lies between lo and hi, and places fit a usize
abbrev pub SpansBack : List ℕ → ℕ → ℕ → Option Part → Type 0
SpansBack s lo hi None = Unit
SpansBack s lo hi (Some p) = (lo ≤ p.start) × (p.start + p.len ≤ hi) × (hi ≤ length s) × (length s < 2 ^ 63)

pub record LastAt (sep : ℕ → Bool) (v : Bool) (s : List ℕ) (lo hi : ℕ) (r : Option Part) : Type 0 where
  pub is : within sep v s lo hi ≡ roll_back sep v s lo r
  pub spans : SpansBack s lo hi r

-- p is the last part between lo and hi
pub record TookBack (sep : ℕ → Bool) (v : Bool) (s : List ℕ) (lo hi : ℕ) (p : Part) : Type 0 where
  pub is : within sep v s lo hi ≡ within sep v s lo p.start ++ (lift p ∷ [])
  pub low : lo ≤ p.start
  pub high : p.start + p.len ≤ hi
  pub inside : hi ≤ length s
  pub room : length s < 2 ^ 63

-- what a walk back over the list l came to, b steps from its end: the element there, or how many steps are left at its beginning
abbrev pub BackAt : List Element → ℕ → Result Part ℕ → Type 0
BackAt l b (Ok p) = Some (lift p) ≡ nth_back_of l b
BackAt l b (Err n) = length l + n ≡ b

-- the walk goes on: n steps from the end of m stands what stands b steps from that of l
pub record GoesBack (l : List Element) (b : ℕ) (m : List Element) (n : ℕ) : Type 0 where
  pub same : nth_back_of l b ≡ nth_back_of m n
  pub left : length l + n ≡ length m + b

-- ---- the iterator

-- what is left
abbrev pub parts_left : Parts → List Element
parts_left s = from (is_sep s.seps) (dots s.seps) s.bytes.now s.at

-- t has what stands from place i of the bytes of s on
pub record MovedTo (s : Parts) (i : ℕ) (t : Parts) : Type 0 where
  pub seps : t.seps ≡ s.seps
  pub bytes : t.bytes.now ≡ s.bytes.now
  pub at : t.at ≡ i

-- a step from s took the first part r, and left t: what stands behind it
abbrev pub GivesFirst : Parts → Option Part → Parts → Type 0
GivesFirst s r t = FirstAt (is_sep s.seps) (dots s.seps) s.bytes.now s.at r
    × MatchOption r (parts_left t ≡ []) (λ p. MovedTo s (p.start + p.len + 1) t)

-- t has what stands before place i of the bytes of s
pub record CutBefore (s : Parts) (i : ℕ) (t : Parts) : Type 0 where
  pub seps : t.seps ≡ s.seps
  pub at : t.at ≡ s.at
  pub high : length t.bytes.now ≤ i
  pub bytes : t.bytes.now ≡ take (length t.bytes.now) s.bytes.now
  pub is : parts_left t ≡ within (is_sep s.seps) (dots s.seps) s.bytes.now s.at i

-- a step from s took the last part r, and left t: what stands before it
abbrev pub GivesLast : Parts → Option Part → Parts → Type 0
GivesLast s r t = LastAt (is_sep s.seps) (dots s.seps) s.bytes.now s.at (length s.bytes.now) r
    × MatchOption r (parts_left t ≡ []) (λ p. CutBefore s p.start t)
