-- Laws of the cursor's calls: one a way through each.
use Rattle.std.specs.Prelude.{false, ℕ, ◌+◌, ◌-◌, ◌<◌, ◌≤◌, ◌≡◌, refl, List, Bool, true, length, Option, Some, None, Result, Ok, Err, is_some, ◌^◌, ◌&&◌, min, nat_eq, ltb, IsTrue}
use Rattle.octets.specs.Laws.{split}
use Rattle.std.specs.Int.{w64}
use Rattle.std.proofs.Common.{Fits, eqb-true, ltb-false, arith, sym, ◌∙◌}
use Rattle.std.proofs.lemmas.Bool.{false≢true}
use borrow.Author.Tests.{eq-eqb, ne_eqb, lt-ltb, le-ltb}
use Rattle.octets.specs.Class.{limit}
use Rattle.octets.specs.declared.Seps.{Seps}
use Rattle.answers.specs.declared.Reply.TheVariants.{Done, Absent, Cursor as TooMany}
use Rattle.answers.specs.declared.View.{View}
use Rattle.answers.specs.Reply.{refused_view, seen}
use Rattle.answers.specs.Outcome.{told, guard}
use Rattle.parts.specs.declared.Element.{Element}
use Rattle.parts.specs.Elements.{nth_of, nth_back_of}
use Rattle.parts.specs.Laws.{nth_inside, back_inside_of}
use Rattle.components.specs.List.{list_of}
use Rattle.components.specs.Laws.{path_few}
use Rattle.cursors.specs.declared.Left.{Left}
use Rattle.cursors.specs.declared.Left.TheVariants.{Beyond, Spent, More}
use Rattle.cursors.specs.declared.Span.{Span}
use Rattle.cursors.specs.Rest.{left_of, rest_asked}
use Rattle.cursors.specs.Laws.{beyond_says, spent_says, some_says, toomany_says, rests_says}
use Rattle.paths.specs.declared.steps.Cursor.{Cursor}
use Rattle.paths.specs.declared.steps.Stepped.{Stepped}
use Rattle.paths.specs.Steps.{refused_step, took_at, step_asked, next_in, next_back_in, next_call, next_back_call, rest_for, rest_call}
use Rattle.answers.specs.declared.Reply.{Reply}
use Rattle.paths.specs.Guards.{accepted_one}
use Rattle.paths.specs.GuardLaws.{one_same, one_short, one_taken, one_refused, both_same, both_first, both_second, both_taken, both_wrote, both_refused, both_left}

-- `took`
pub took_none : (i : Option Element) (c : Cursor) (r : Stepped) → i ≡ None → r ≡ refused_step c Done → r ≡ took_at i c
took_none i c r e f = f ∙ rw e

pub took_here : (i : Option Element) (c : Cursor) (e : Element) → i ≡ Some e → record { reply = Done; component = Some e.component; start = e.start; len = e.len; cursor = c } ≡ took_at i c
took_here i c e h = rw h

-- a step of n components: f and b taken
module _ (n : ℕ) (c d : Cursor) (i : Option Element) (x : Stepped) where
  step_beyond : n < c.front + c.back → x ≡ refused_step c TooMany → x ≡ told (refused_step c) (step_asked n c i d)
  unfolding step_asked told guard
  step_beyond h e = e ∙ simp (lt-ltb n (c.front + c.back) h)

  step_spent : c.front + c.back ≡ n → x ≡ refused_step c Absent → x ≡ told (refused_step c) (step_asked n c i d)
  unfolding step_asked told guard
  step_spent h e = e ∙ simp (le-ltb n (c.front + c.back) (omega arith), eq-eqb (c.front + c.back) n h)

  step_took : c.front + c.back < n → x ≡ took_at i d → x ≡ told (refused_step c) (step_asked n c i d)
  unfolding step_asked told guard
  step_took h e = e ∙ simp (le-ltb n (c.front + c.back) (omega arith), ne_eqb (c.front + c.back) n (omega arith))

  -- what is left decides
  module _ (l : Left) (g : l ≡ left_of n c.front c.back) where
    pub by_beyond : l ≡ Beyond → x ≡ refused_step c TooMany → x ≡ told (refused_step c) (step_asked n c i d)
    by_beyond h e = step_beyond (beyond_says n c.front c.back (sym g ∙ h)) e

    pub by_spent : l ≡ Spent → x ≡ refused_step c Absent → x ≡ told (refused_step c) (step_asked n c i d)
    by_spent h e = step_spent (spent_says n c.front c.back (sym g ∙ h)) e

    pub by_some : l ≡ More → x ≡ took_at i d → x ≡ told (refused_step c) (step_asked n c i d)
    by_some h e = step_took (some_says n c.front c.back (sym g ∙ h)) e

  pub by_here : (a t : Bool) → (IsTrue (a && is_some i) → c.front + c.back < n) → a ≡ true → t ≡ is_some i → t ≡ true → x ≡ took_at i d → x ≡ told (refused_step c) (step_asked n c i d)
  by_here a t w y g z e = step_took (w (rw (y, ← g, z))) e

-- the cursor that is handed back is asked for only where a component is there
only_there : (n : ℕ) (c d e : Cursor) (i : Option Element) → (c.front + c.back ≤ n → d ≡ e) → told (refused_step c) (step_asked n c i d) ≡ told (refused_step c) (step_asked n c i e)
unfolding step_asked told guard
only_there n c d e i h =
    split (ltb n (c.front + c.back))
    (λ y. rw y)
    (λ y. rw (h (ltb-false n (c.front + c.back) y)))

here_is : (i : Option Element) → is_some i ≡ true → (e : Element) × (i ≡ Some e)
here_is None h = absurd (false≢true h)
here_is (Some e) h = (e, refl)

-- an element that is there has its number below the list's length
module _ (l : List Element) (i : Option Element) (t : Bool) (g : t ≡ is_some i) (y : t ≡ true) where
  nth_below : (f : ℕ) → i ≡ nth_of l f → f < length l
  nth_below f e = let w = here_is i (sym g ∙ y) in nth_inside l f {p = w.0} (sym e ∙ w.1)

  back_below : (b : ℕ) → i ≡ nth_back_of l b → b < length l
  back_below b e = let w = here_is i (sym g ∙ y) in back_inside_of l b {p = w.0} (sym e ∙ w.1)

-- both of two tests
both_hold : (a b : Bool) → IsTrue (a && b) → (a ≡ true) × (b ≡ true)
both_hold true b h = (refl, h)
both_hold false b h = absurd (false≢true h)

-- `step_front`, `step_back`
module _ (k : Seps) (s : List ℕ) (w : length s ≤ limit) (c : Cursor) (x : Stepped) (i : Option Element) where
  abbrev l : List Element
  l = list_of k s

  module _ (e : i ≡ nth_of l c.front) where
    pub front_alone : IsTrue (nat_eq c.back 0 && is_some i) → c.front + c.back < length l
    front_alone h = let t = both_hold (nat_eq c.back 0) (is_some i) h in omega (arith, eqb-true c.back 0 t.0, nth_below l i (is_some i) refl t.1 c.front e)

    pub front_is : (v : ℕ) → v ≡ min (c.front + 1) (2 ^ 64 - 1) → x ≡ told (refused_step c) (step_asked (length l) c i (record { mode = c.mode; front = v; back = c.back })) → x ≡ told (refused_step c) (next_in l c)
    unfolding next_in
    front_is v g z = z ∙ only_there (length l) c (record { mode = c.mode; front = v; back = c.back }) (record { mode = c.mode; front = c.front + 1; back = c.back }) i (λ h. let n : v ≡ c.front + 1 = omega (arith, path_few k s) in rw n) ∙ rw e

  module _ (e : i ≡ nth_back_of l c.back) where
    pub back_alone : IsTrue (nat_eq c.front 0 && is_some i) → c.front + c.back < length l
    back_alone h = let t = both_hold (nat_eq c.front 0) (is_some i) h in omega (arith, eqb-true c.front 0 t.0, back_below l i (is_some i) refl t.1 c.back e)

    pub back_is : (v : ℕ) → v ≡ min (c.back + 1) (2 ^ 64 - 1) → x ≡ told (refused_step c) (step_asked (length l) c i (record { mode = c.mode; front = c.front; back = v })) → x ≡ told (refused_step c) (next_back_in l c)
    unfolding next_back_in
    back_is v g z = z ∙ only_there (length l) c (record { mode = c.mode; front = c.front; back = v }) (record { mode = c.mode; front = c.front; back = c.back + 1 }) i (λ h. let n : v ≡ c.back + 1 = omega (arith, path_few k s) in rw n) ∙ rw e

-- a step that is not refused
module _ (l : List Element) (c : Cursor) (h : c.front + c.back < length l) where
  pub next_took : told (refused_step c) (next_in l c) ≡ took_at (nth_of l c.front) (record { mode = c.mode; front = c.front + 1; back = c.back })
  unfolding next_in
  next_took = sym (step_took (length l) c _ _ _ h refl)

  pub next_back_took : told (refused_step c) (next_back_in l c) ≡ took_at (nth_back_of l c.back) (record { mode = c.mode; front = c.front; back = c.back + 1 })
  unfolding next_back_in
  next_back_took = sym (step_took (length l) c _ _ _ h refl)

-- `next`, `next_back`
module _ (c : Cursor) (s : List ℕ) (x : Stepped) (r : Result Seps Reply) (g : r ≡ accepted_one c.mode s) where
  pub next_refused : (e : Reply) → r ≡ Err e → x ≡ refused_step c e → x ≡ told (refused_step c) (next_call c s)
  unfolding next_call
  next_refused e h z = one_refused c.mode s r g (refused_step c) _ x e h z

  pub back_refused : (e : Reply) → r ≡ Err e → x ≡ refused_step c e → x ≡ told (refused_step c) (next_back_call c s)
  unfolding next_back_call
  back_refused e h z = one_refused c.mode s r g (refused_step c) _ x e h z

  module _ (k : Seps) (h : r ≡ Ok k) where
    pub next_taken : x ≡ told (refused_step c) (next_in (list_of k s) c) → x ≡ told (refused_step c) (next_call c s)
    unfolding next_call
    next_taken z = one_taken c.mode s r g k h (refused_step c) _ x (z ∙ rw (one_same c.mode s r g k h))

    pub back_taken : x ≡ told (refused_step c) (next_back_in (list_of k s) c) → x ≡ told (refused_step c) (next_back_call c s)
    unfolding next_back_call
    back_taken z = one_taken c.mode s r g k h (refused_step c) _ x (z ∙ rw (one_same c.mode s r g k h))

-- a cursor moved by one fits
module _ (k : Seps) (s : List ℕ) (w : length s ≤ limit) where
  module _ (i : Option Element) (t : Bool) (g : t ≡ is_some i) (y : t ≡ true) where
    pub front_fits : (f : ℕ) → i ≡ nth_of (list_of k s) f → Fits w64 (f + 1)
    front_fits f e = record { fits = omega (arith, nth_below (list_of k s) i t g y f e, path_few k s) }

    pub back_fits : (b : ℕ) → i ≡ nth_back_of (list_of k s) b → Fits w64 (b + 1)
    back_fits b e = record { fits = omega (arith, back_below (list_of k s) i t g y b e, path_few k s) }

  module _ (f b : ℕ) (l : Left) (g : l ≡ left_of (length (list_of k s)) f b) (h : l ≡ More) where
    pub some_front_fits : Fits w64 (f + 1)
    some_front_fits = record { fits = omega (arith, some_says _ f b (sym g ∙ h), path_few k s) }

    pub some_back_fits : Fits w64 (b + 1)
    some_back_fits = record { fits = omega (arith, some_says _ f b (sym g ∙ h), path_few k s) }

-- `as_path`
module _ (c : Cursor) (s : List ℕ) (x : View) (r : Result Seps Reply) (g : r ≡ accepted_one c.mode s) where
  pub rest_refused : (e : Reply) → r ≡ Err e → x ≡ refused_view e → x ≡ told refused_view (rest_call c s)
  unfolding rest_call
  rest_refused e h z = one_refused c.mode s r g refused_view _ x e h z

  module _ (k : Seps) (h : r ≡ Ok k) (o : Option Span) (e : o ≡ rest_asked k s c.front c.back) where
    rest_taken : x ≡ told refused_view (rest_for k s c.front c.back) → x ≡ told refused_view (rest_call c s)
    unfolding rest_call
    rest_taken z = one_taken c.mode s r g k h refused_view _ x (z ∙ rw (one_same c.mode s r g k h))

    pub rest_beyond : o ≡ None → x ≡ refused_view TooMany → x ≡ told refused_view (rest_call c s)
    unfolding rest_for told guard
    rest_beyond n z =
        let l = toomany_says k s c.front c.back (sym e ∙ n) in
        rest_taken (z ∙ simp (lt-ltb (length (list_of k s)) (c.front + c.back) l))

    pub rest_done : (u : Span) (n : ℕ) → o ≡ Some u → n ≡ u.end - u.start → x ≡ seen u.start n → x ≡ told refused_view (rest_call c s)
    unfolding rest_for told guard
    rest_done u n f z y =
        let l = rests_says k s c.front c.back u (sym e ∙ f) in
        rest_taken (y ∙ rw (z, l.1) (simp (le-ltb (length (list_of k s)) (c.front + c.back) l.0)))

-- a number less a larger one
pub minus_none : (a b : ℕ) → a < b → 0 ≡ a - b
minus_none a b h = omega arith

pub ruleset steps = (took_none, took_here, by_beyond, by_spent, by_some, by_here, front_alone, front_is, back_alone, back_is)

pub ruleset step_calls = (one_short, next_refused, back_refused, next_taken, back_taken, rest_refused, rest_beyond, rest_done)
