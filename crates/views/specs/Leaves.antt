-- What the leaves promise to their callers beside the equation, and what their loops keep. Nothing here has to be believed.
use Rattle.std.specs.Prelude.{ℕ, ◌+◌, ◌-◌, ◌<◌, ◌≤◌, ◌≡◌, List, ◌++◌, Bool, cond, length, take, drop, eqb, Option, Some, None}
use Rattle.octets.specs.Class.{is_sep}
use Rattle.octets.specs.declared.Seps.{Seps}
use Rattle.answers.specs.declared.Reply.TheVariants.{Absent}
use Rattle.answers.specs.declared.View.{View}
use Rattle.answers.specs.Reply.{refused_view, seen}
use Rattle.answers.specs.Outcome.{Outcome, refuse, give, told, present}
use Rattle.parts.specs.declared.Element.{Element}
use Rattle.parts.specs.declared.Part.{Part}
use Rattle.parts.specs.Body.{dots}
use Rattle.parts.specs.Elements.{nth_back_of, end_or}
use Rattle.parts.specs.Steps.{lift, raised, within, SpansBack}
use Rattle.components.specs.declared.Dir.{Dir}
use Rattle.components.specs.declared.Dir.TheVariants.{Bare, Root, Implied, Dot as Lone}
use Rattle.components.specs.declared.Start.{Start}
use Rattle.components.specs.List.{head_list}
use Rattle.views.specs.Views.{climbs, rest_back, last_name, last_dot, stem_seen}

-- the right end of what remains after b steps back from l, where dot says whether a dot that is no component stands behind a drive
unfoldable pub cut_of : Bool → List Element → ℕ → ℕ
cut_of dot l b = end_or (nth_back_of l b) + cond dot (cond (eqb (length l) (b + 1)) 1 0) 0

unfoldable pub up_by : Bool → List Element → ℕ → Outcome View
up_by dot l n = present (climbs l n) (give (seen 0 (cut_of dot l n)))

-- r tells the outcome o, and lies in the path s
pub record ViewAt (o : Outcome View) (s : List ℕ) (r : View) : Type 0 where
  pub is : r ≡ told refused_view o
  pub inside : r.start + r.len ≤ length s

-- r is the right end of l, and lies in the path s
pub record CutAt (dot : Bool) (l : List Element) (s : List ℕ) (r : ℕ) : Type 0 where
  pub is : r ≡ cut_of dot l 0
  pub inside : r ≤ length s

-- the list of a start, of the body the bytes up to e
unfoldable pub list_to : Start → List ℕ → ℕ → List Element
list_to h s e = head_list h ++ within (is_sep h.seps) (dots h.seps) s h.at e

-- what remains of a head alone after n steps back, n not 0
abbrev pub head_up : Dir → ℕ → Outcome View
head_up Bare n = refuse Absent
head_up Root n = refuse Absent
head_up Implied n = refuse Absent
head_up Lone n = cond (eqb n 1) (give (seen 0 0)) (refuse Absent)

-- r is the file name, and lies in the path
pub record NameAt (k : Seps) (s : List ℕ) (r : Option Part) : Type 0 where
  pub is : raised r ≡ last_name k s
  pub spans : SpansBack s 0 (length s) r

-- r bytes stand before the file name: those of the parent, or all where there is no name
abbrev pub before_name : Option Element → ℕ → ℕ → ℕ
before_name None parent all = all
before_name (Some p) parent all = parent

pub record BaseAt (k : Seps) (s : List ℕ) (r : ℕ) : Type 0 where
  pub is : r ≡ before_name (last_name k s) (rest_back k s 1).len (length s)
  pub inside : r ≤ length s

-- the place of the last dot of the bytes lo to hi, counted from lo
unfoldable pub dot_in : List ℕ → ℕ → ℕ → ℕ
dot_in s lo hi = last_dot (take (hi - lo) (drop lo s))

-- r is that place in the path: lo, or one between lo and hi
pub record DotAt (s : List ℕ) (lo hi r : ℕ) : Type 0 where
  pub is : r ≡ lo + dot_in s lo hi
  pub low : lo ≤ r
  pub high : r ≤ hi
  pub before : (r ≡ lo → ⊥) → r < hi

-- the stem of the name q ends at r
pub record StemAt (s : List ℕ) (q : Part) (r : ℕ) : Type 0 where
  pub is : stem_seen s (lift q) ≡ give (seen q.start (r - q.start))
  pub low : q.start ≤ r
  pub high : r ≤ q.start + q.len
