-- Any mixture of front and back steps that empties a list gives its elements, each once: those taken at the front in their order,
-- then those taken at the back in the other order, are the list.
use Prim.Native.Nat.{ℕ, zero, suc, ◌+◌, ◌-◌, ◌<◌, ◌≤◌}
use native.Mathlib.Omega.{arith}
use Rattle.std.proofs.Common.{add-one, sym, ap, ◌∙◌, take-append-drop, le-ltb}
use Rattle.std.specs.Prelude.{◌≡◌, ltb, eqb, Option, Some, None}
use Rattle.std.proofs.Math.Path.{refl}
use mathlib.Core.List.{List, [], ◌∷◌, ◌++◌, append_assoc, append-nil}
use Rattle.std.proofs.Math.ListN.{length, take, drop}
use Rattle.std.proofs.Math.Seq.{drop-length}
use Rattle.octets.specs.Class.{limit, seps_of}
use Rattle.octets.specs.Laws.{split}
use Rattle.answers.specs.declared.Reply.TheVariants.{Mode, Length}
use Rattle.answers.specs.Laws.{goes}
use Rattle.parts.specs.declared.Element.{Element}
use Rattle.parts.specs.Elements.{nth_of, nth_back_of}
use Rattle.parts.specs.Laws.{back_nth}
use Rattle.answers.specs.Outcome.{told, guard}
use Rattle.components.specs.List.{list_of}
use Rattle.paths.specs.declared.steps.Cursor.{Cursor}
use Rattle.paths.specs.declared.steps.Stepped.{Stepped}
use Rattle.paths.specs.Steps.{refused_step, took_at, step_asked, next_in, next_back_in, next_call, next_back_call}
use Rattle.paths.specs.StepLaws.{next_took, next_back_took}
use Rattle.parts.specs.declared.Component.{Component}

pub data Way : Type 0 where
  front : Way
  back : Way

-- the element that an answer shows, in front of others; nothing where it shows none
abbrev shown : Option Component → ℕ → ℕ → List Element → List Element
shown None i n l = l
shown (Some c) i n l = record { component = c; start = i; len = n } ∷ l

abbrev with_taken : Stepped → List Element → List Element
with_taken a l = shown a.component a.start a.len l

abbrev front_answer : List Element → Cursor → Stepped
front_answer l c = told (refused_step c) (next_in l c)

abbrev back_answer : List Element → Cursor → Stepped
back_answer l c = told (refused_step c) (next_back_in l c)

-- what the steps of a walk take at the front, in order, and what they take at the back, the last first; x answers a front step and
-- y a back step
unfoldable pub fronts : (Cursor → Stepped) → (Cursor → Stepped) → Cursor → List Way → List Element
fronts x y c [] = []
fronts x y c (front ∷ w) = with_taken (x c) (fronts x y (x c).cursor w)
fronts x y c (back ∷ w) = fronts x y (y c).cursor w

unfoldable pub backs : (Cursor → Stepped) → (Cursor → Stepped) → Cursor → List Way → List Element
backs x y c [] = []
backs x y c (front ∷ w) = backs x y (x c).cursor w
backs x y c (back ∷ w) = backs x y (y c).cursor w ++ with_taken (y c) []

-- an element, by its number: what stands before it, and what behind
pub record Stands (l : List Element) (f : ℕ) : Type 0 where
  pub element : Element
  pub is : nth_of l f ≡ Some element
  pub before : take (suc f) l ≡ take f l ++ (element ∷ [])
  pub behind : drop f l ≡ element ∷ drop (suc f) l

pub stands : (l : List Element) (f : ℕ) → f < length l → Stands l f
unfolding nth_of
stands [] f h = absurd (omega arith)
stands (x ∷ l) zero h = record { element = x; is = refl; before = refl; behind = refl }
stands (x ∷ l) (suc f) h =
    let t = stands l f (omega arith) in
    record { element = t.element; is = t.is; before = ap (λ (m : List Element). x ∷ m) t.before; behind = t.behind }

abbrev cursor : ℕ → ℕ → ℕ → Cursor
cursor m f b = record { mode = m; front = f; back = b }

-- an element moves over the seam
module _ (t f b d : List Element) (x : Element) where
  over_front : t ++ (x ∷ []) ++ (f ++ b) ++ d ≡ t ++ ((x ∷ f) ++ b) ++ d
  over_front = simp append_assoc

  over_back : t ++ (f ++ b) ++ (x ∷ d) ≡ t ++ (f ++ (b ++ (x ∷ []))) ++ d
  over_back = simp append_assoc

module _ (l : List Element) (m : ℕ) where
  -- with f taken at the front and b at the back, the walk w gives what lies between
  between : (w : List Way) (f b : ℕ) → f + b + length w ≡ length l
      → take f l ++ (fronts (front_answer l) (back_answer l) (cursor m f b) w ++ backs (front_answer l) (back_answer l) (cursor m f b) w) ++ drop (length l - b) l ≡ l
  unfolding fronts backs
  between [] f b e =
      let d : length l - b ≡ f = omega arith in
      rw (append-nil, d) (take-append-drop f l)
  between (front ∷ w) f b e =
      let t = stands l f (omega arith) in
      let a : front_answer l (cursor m f b) ≡ took_at (Some t.element) (cursor m (f + 1) b) = next_took l (cursor m f b) (omega arith) ∙ rw t.is in
      let q : take (f + 1) l ≡ take f l ++ (t.element ∷ []) = rw (add-one f) t.before in
      let c : Cursor = cursor m (f + 1) b in
      let i : take (f + 1) l ++ (fronts (front_answer l) (back_answer l) c w ++ backs (front_answer l) (back_answer l) c w) ++ drop (length l - b) l ≡ l = between w (f + 1) b (omega arith) in
      rw a (sym (over_front (take f l) (fronts (front_answer l) (back_answer l) c w) (backs (front_answer l) (back_answer l) c w) (drop (length l - b) l) t.element) ∙ rw (← q) i)
  between (back ∷ w) f b e =
      let n : length l - 1 - b < length l = omega arith in
      let t = stands l (length l - 1 - b) n in
      let j : length l - (b + 1) ≡ length l - 1 - b = omega arith in
      let k : suc (length l - 1 - b) ≡ length l - b = omega arith in
      let g : nth_back_of l b ≡ Some t.element = back_nth l b (omega arith) ∙ t.is in
      let a : back_answer l (cursor m f b) ≡ took_at (Some t.element) (cursor m f (b + 1)) = next_back_took l (cursor m f b) (omega arith) ∙ rw g in
      let q : drop (length l - (b + 1)) l ≡ t.element ∷ drop (length l - b) l = rw (j, ← k) t.behind in
      let c : Cursor = cursor m f (b + 1) in
      let i : take f l ++ (fronts (front_answer l) (back_answer l) c w ++ backs (front_answer l) (back_answer l) c w) ++ drop (length l - (b + 1)) l ≡ l = between w f (b + 1) (omega arith) in
      rw a (sym (over_back (take f l) (fronts (front_answer l) (back_answer l) c w) (backs (front_answer l) (back_answer l) c w) (drop (length l - b) l) t.element) ∙ rw (← q) i)

  -- a walk of as many steps as there are elements, in any mixture
  pub walk_meets : (w : List Way) → length w ≡ length l → fronts (front_answer l) (back_answer l) (cursor m 0 0) w ++ backs (front_answer l) (back_answer l) (cursor m 0 0) w ≡ l
  walk_meets w e =
      let i = between w 0 0 (omega arith) in
      let z : length l - 0 ≡ length l = omega arith in
      let d : drop (length l) l ≡ [] = drop-length l in
      rw (z, d, append-nil) at i

-- ---- the same of the public calls on a path

abbrev pub next_answer : List ℕ → Cursor → Stepped
next_answer s c = told (refused_step c) (next_call c s)

abbrev pub next_back_answer : List ℕ → Cursor → Stepped
next_back_answer s c = told (refused_step c) (next_back_call c s)

-- a step keeps the cursor's mode
took_mode : (i : Option Element) (d : Cursor) → (took_at i d).cursor.mode ≡ d.mode
took_mode None d = refl
took_mode (Some x) d = refl

step_mode : (n : ℕ) (c : Cursor) (i : Option Element) (d : Cursor) → d.mode ≡ c.mode → (told (refused_step c) (step_asked n c i d)).cursor.mode ≡ c.mode
unfolding step_asked told guard
step_mode n c i d e =
    split (ltb n (c.front + c.back))
    (λ b. rw b)
    (λ b. rw b (split (eqb (c.front + c.back) n) (λ a. rw a) (λ a. rw a (took_mode i d ∙ e))))

module _ (m : ℕ) (s : List ℕ) (g : m ≤ 1) (h : length s ≤ limit) where
  abbrev elements : List Element
  elements = list_of (seps_of m) s

  same_next : (c : Cursor) → c.mode ≡ m → next_answer s c ≡ front_answer elements c
  unfolding next_call
  same_next c e = goes (refused_step c) Mode _ (le-ltb 1 c.mode (omega arith)) ∙ goes (refused_step c) Length _ (le-ltb limit (length s) h) ∙ rw e

  same_back : (c : Cursor) → c.mode ≡ m → next_back_answer s c ≡ back_answer elements c
  unfolding next_back_call
  same_back c e = goes (refused_step c) Mode _ (le-ltb 1 c.mode (omega arith)) ∙ goes (refused_step c) Length _ (le-ltb limit (length s) h) ∙ rw e

  next_mode : (c : Cursor) → c.mode ≡ m → (front_answer elements c).cursor.mode ≡ m
  unfolding next_in
  next_mode c e = step_mode _ c _ _ refl ∙ e

  back_mode : (c : Cursor) → c.mode ≡ m → (back_answer elements c).cursor.mode ≡ m
  unfolding next_back_in
  back_mode c e = step_mode _ c _ _ refl ∙ e

  same_fronts : (w : List Way) (c : Cursor) → c.mode ≡ m → fronts (next_answer s) (next_back_answer s) c w ≡ fronts (front_answer elements) (back_answer elements) c w
  unfolding fronts
  same_fronts [] c e = refl
  same_fronts (front ∷ w) c e = rw (same_next c e) (ap (with_taken (front_answer elements c)) (same_fronts w _ (next_mode c e)))
  same_fronts (back ∷ w) c e = rw (same_back c e) (same_fronts w _ (back_mode c e))

  same_backs : (w : List Way) (c : Cursor) → c.mode ≡ m → backs (next_answer s) (next_back_answer s) c w ≡ backs (front_answer elements) (back_answer elements) c w
  unfolding backs
  same_backs [] c e = refl
  same_backs (front ∷ w) c e = rw (same_next c e) (same_backs w _ (next_mode c e))
  same_backs (back ∷ w) c e = rw (same_back c e) (ap (λ (l : List Element). l ++ with_taken (back_answer elements c) []) (same_backs w _ (back_mode c e)))

  -- as many calls of `next` and `next_back` as the path has components, in any mixture, each given the cursor that the one before handed
  -- back: what they show is the path's list
  pub walk_calls : (w : List Way) → length w ≡ length (list_of (seps_of m) s)
      → fronts (next_answer s) (next_back_answer s) (cursor m 0 0) w ++ backs (next_answer s) (next_back_answer s) (cursor m 0 0) w ≡ list_of (seps_of m) s
  walk_calls w e = rw (same_fronts w (cursor m 0 0) refl, same_backs w (cursor m 0 0) refl) (walk_meets elements m w e)
