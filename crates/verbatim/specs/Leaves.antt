-- What stays of the two lists, read from the back, and what the leaves and loops promise of it. Nothing here has to be believed.
use Rattle.std.specs.Prelude.{ℕ, zero, suc, ◌+◌, ◌-◌, ◌*◌, ◌≤◌, ◌≡◌, List, [], ◌∷◌, ◌++◌, Bool, true, false, cond, length, take}
use Rattle.octets.specs.Class.{is_sep}
use Rattle.octets.specs.declared.Seps.{Seps}
use Rattle.octets.specs.declared.Seps.TheVariants.{Unix, Windows, Verbatim as OnlyBack}
use Rattle.answers.specs.Written.{over}
use Rattle.parts.specs.declared.Component.{Component}
use Rattle.parts.specs.declared.Component.TheVariants.{Prefix as Prefixed, RootDir, CurDir, ParentDir, Normal}
use Rattle.parts.specs.declared.Element.{Element}
use Rattle.parts.specs.Body.{dots}
use Rattle.parts.specs.Steps.{within}
use Rattle.components.specs.declared.Dir.{Dir}
use Rattle.components.specs.declared.Dir.TheVariants.{Bare, Root, Implied, Dot}
use Rattle.verbatim.specs.declared.Sift.{Sift}
use Rattle.verbatim.specs.declared.Sift.TheVariants.{Keep, Drop}
use Rattle.verbatim.specs.declared.Stretch.{Stretch}
use Rattle.verbatim.specs.declared.Tally.{Tally}
use Rattle.verbatim.specs.declared.Share.{Share}
use Rattle.verbatim.specs.declared.Plan.{Plan}
use Rattle.verbatim.specs.Verbatim.{Spelling, spellings_of, verbatim_join}

-- `.` and `..` stay in p, which is read by `\` alone; in q they go, with d names before them
abbrev pub mend_of : Seps → ℕ → Sift
mend_of Unix d = Drop d
mend_of Windows d = Drop d
mend_of OnlyBack d = Keep

-- what becomes of a component, met from the back, where c names are to go
abbrev pub sift_of : Seps → Component → ℕ → Sift
sift_of k (Prefixed p) c = Keep
sift_of k RootDir c = Keep
sift_of k CurDir c = mend_of k c
sift_of k ParentDir c = mend_of k (c + 1)
sift_of k Normal zero = Keep
sift_of k Normal (suc c) = Drop c

abbrev pub left_by : Sift → ℕ
left_by Keep = 0
left_by (Drop d) = d

abbrev pub kept_by : Sift → Spelling → List Spelling → List Spelling
kept_by Keep v l = v ∷ l
kept_by (Drop d) v l = l

-- of a list whose last c names are to go: how many are to go before it, and what stays of it
unfoldable pub owed : Seps → ℕ → List Spelling → ℕ
owed k c [] = c
owed k c (v ∷ l) = left_by (sift_of k v.component (owed k c l))

unfoldable pub kept : Seps → ℕ → List Spelling → List Spelling
kept k c [] = []
kept k c (v ∷ l) = kept_by (sift_of k v.component (owed k c l)) v (kept k c l)

-- the bytes of a list, with a `\` before each
unfoldable pub flat : List Spelling → List ℕ
flat [] = []
flat (v ∷ l) = (92 ∷ v.bytes) ++ flat l

-- the parts of s from lo to hi, of which c names are to go: what is to go before them, and the bytes that stay
unfoldable pub owed_at : Seps → List ℕ → ℕ → ℕ → ℕ → ℕ
owed_at k s lo hi c = owed k c (spellings_of s (within (is_sep k) (dots k) s lo hi))

unfoldable pub text_at : Seps → List ℕ → ℕ → ℕ → ℕ → List ℕ
text_at k s lo hi c = flat (kept k c (spellings_of s (within (is_sep k) (dots k) s lo hi)))

abbrev pub stretch_text : Seps → List ℕ → Stretch → List ℕ
stretch_text k s t = text_at k s t.lo t.hi t.left

-- the same of a list of parts, l
unfoldable pub owed_of : Seps → List ℕ → List Element → ℕ → ℕ
owed_of k s l c = owed k c (spellings_of s l)

unfoldable pub text_of : Seps → List ℕ → List Element → ℕ → List ℕ
text_of k s l c = flat (kept k c (spellings_of s l))

-- what a loop over a stretch keeps: in the first e bytes of s the parts l are left, with c names to go
pub record Reading (s : List ℕ) (left e : ℕ) (l : List Element) (c : ℕ) : Type 0 where
  pub inside : e ≤ length s
  pub small : c + length l ≤ left + length s + 1

-- `count_kept`, and what its loop keeps beside, with n bytes counted
pub record Tallied (k : Seps) (s : List ℕ) (t : Stretch) (r : Tally) : Type 0 where
  pub len : r.len ≡ length (stretch_text k s t)
  pub left : r.left ≡ owed_at k s t.lo t.hi t.left
  pub few : r.len ≤ 2 * length s + 1
  pub small : r.left ≤ t.left + length s + 1

pub record Counting (k : Seps) (s : List ℕ) (t : Stretch) (e : ℕ) (l : List Element) (c n : ℕ) : Type 0 where
  pub is : n + length (text_of k s l c) ≡ length (stretch_text k s t)
  pub owes : owed_of k s l c ≡ owed_at k s t.lo t.hi t.left
  pub few : n + e + length l ≤ 2 * length s + 1

-- the buffer b with t in it, so that it ends at n
unfoldable pub ending_at : ℕ → List ℕ → List ℕ → List ℕ
ending_at n t b = over (take (n - length t) b ++ t) b

-- whether step 2 of a list is a RootDir
abbrev pub roots_of : Dir → Bool
roots_of Bare = false
roots_of Root = true
roots_of Implied = true
roots_of Dot = false

-- the bytes behind the prefix: those of the parts, or a root that nothing stands behind
unfoldable pub behind_text : Bool → List ℕ → List ℕ
behind_text r [] = cond r (92 ∷ []) []
behind_text r (x ∷ t) = x ∷ t

-- what stays of p and then of q
unfoldable pub both_text : List ℕ → ℕ → ℕ → List ℕ → ℕ → List ℕ
both_text p lo hi q at = text_at OnlyBack p lo hi (owed_at Windows q at (length q) 0) ++ text_at Windows q at (length q) 0

pub record Shared (p q : List ℕ) (b : Share) : Type 0 where
  pub is : verbatim_join p q ≡ take b.end p ++ behind_text b.root (both_text p b.lo b.hi q b.at)
  pub end_in : b.end ≤ length p
  pub hi_in : b.hi ≤ length p

-- the bytes behind the prefix by a plan
unfoldable pub plan_text : List ℕ → List ℕ → Plan → List ℕ
plan_text p q w = cond w.root (92 ∷ []) (stretch_text OnlyBack p w.front ++ stretch_text Windows q w.tail)

pub record Planned (p q : List ℕ) (w : Plan) : Type 0 where
  pub is : verbatim_join p q ≡ take w.end p ++ plan_text p q w
  pub len : w.len ≡ w.end + length (plan_text p q w)
  pub room : length (stretch_text OnlyBack p w.front) + length (stretch_text Windows q w.tail) ≤ w.len
  pub end_in : w.end ≤ length p
  pub front_in : w.front.hi ≤ length p
  pub front_left : w.front.left ≤ length q + 1
  pub tail_in : w.tail.hi ≤ length q
  pub tail_left : w.tail.left ≡ 0
