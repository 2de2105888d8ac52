-- Laws of the cursor: one a way through each function.
use Rattle.std.specs.Prelude.{ℕ, ◌+◌, ◌-◌, ◌*◌, ◌^◌, ◌<◌, ◌≤◌, List, ◌++◌, Bool, true, false, cond, length, eqb, ltb, Option, Some, None}
use Rattle.std.specs.Int.{w64}
use Rattle.std.proofs.Common.{Fits, arith, sym, ◌∙◌}
use Rattle.std.proofs.Math.Path.{◌≡◌, refl}
use Rattle.std.proofs.lemmas.Bool.{false≢true}
use borrow.Author.Tests.{eq-eqb, ne_eqb, lt-ltb, le-ltb, ltb-true, ltb-false, eqb-true, eqb-false}
use Rattle.octets.specs.Laws.{split}
use Rattle.octets.specs.declared.Seps.{Seps}
use Rattle.prefixes.specs.Prefix.{is_disk, on_disk}
use Rattle.prefixes.specs.declared.Prefix.{Prefix}
use Rattle.parts.specs.declared.Element.{Element}
use Rattle.parts.specs.Elements.{nth_of, nth_back_of, start_or, end_or}
use Rattle.parts.specs.Laws.{upto_nth}
use Rattle.components.specs.declared.Dir.{Dir}
use Rattle.components.specs.declared.Dir.TheVariants.{Bare, Root, Implied, Dot as Lone}
use Rattle.components.specs.declared.Start.{Start}
use Rattle.components.specs.declared.opened.Opened.{Opened}
use Rattle.components.specs.List.{dot_at, dir_len, start_of, prefix_part, dir_part, whole_of, list_of}
use Rattle.components.specs.Leaves.{OpenAt, CountAt}
use Rattle.components.specs.Laws.{dot_inside, whole_list, list_upto}
use Rattle.cursors.specs.declared.Left.{Left}
use Rattle.cursors.specs.declared.Left.TheVariants.{Beyond, Spent, More}
use Rattle.cursors.specs.declared.Span.{Span}
use Rattle.cursors.specs.Rest.{left_of, span, prefix_kind, is_prefix, left_end, right_end, empty_at, is_bare, dotted, behind_dot, rest_of, rest_asked}
use Rattle.cursors.specs.Leaves.{In}

-- `left_of`, `left_in`
module _ (n f b : ℕ) where
  pub left_back : n < b → Beyond ≡ left_of n f b
  unfolding left_of
  left_back h = simp (lt-ltb n (f + b) (omega arith))

  module _ (g : b ≤ n) where
    pub left_some : f < n - b → More ≡ left_of n f b
    unfolding left_of
    left_some h = simp (le-ltb n (f + b) (omega arith), ne_eqb (f + b) n (omega arith))

    pub left_spent : f ≡ n - b → Spent ≡ left_of n f b
    unfolding left_of
    left_spent h = simp (le-ltb n (f + b) (omega arith), eq-eqb (f + b) n (omega arith))

    pub left_beyond : n - b ≤ f → (f ≡ n - b → ⊥) → Beyond ≡ left_of n f b
    unfolding left_of
    left_beyond h e = simp (lt-ltb n (f + b) (omega arith))

pub left_list : (l : List Element) (n f b : ℕ) (r : Left) → CountAt l n → r ≡ left_of n f b → r ≡ left_of (length l) f b
left_list l n f b r c e = e ∙ rw c.is

-- what each answer tells
module _ (n f b : ℕ) where
  pub beyond_says : left_of n f b ≡ Beyond → n < f + b
  unfolding left_of
  beyond_says e =
      split (ltb n (f + b)) (λ t. ltb-true n (f + b) t) (λ t. split (eqb (f + b) n)
      (λ u. let z = rw (t, u) at e in let y : ◌≡◌ {A = ℕ} 0 1 = cc in absurd (omega arith))
      (λ u. let z = rw (t, u) at e in let y : ◌≡◌ {A = ℕ} 0 1 = cc in absurd (omega arith)))

  pub spent_says : left_of n f b ≡ Spent → f + b ≡ n
  unfolding left_of
  spent_says e =
      split (ltb n (f + b)) (λ t. let z = rw t at e in let y : ◌≡◌ {A = ℕ} 0 1 = cc in absurd (omega arith)) (λ t. split (eqb (f + b) n)
      (λ u. eqb-true (f + b) n u)
      (λ u. let z = rw (t, u) at e in let y : ◌≡◌ {A = ℕ} 0 1 = cc in absurd (omega arith)))

  pub some_says : left_of n f b ≡ More → f + b < n
  unfolding left_of
  some_says e =
      split (ltb n (f + b)) (λ t. let z = rw t at e in let y : ◌≡◌ {A = ℕ} 0 1 = cc in absurd (omega arith)) (λ t. split (eqb (f + b) n)
      (λ u. let z = rw (t, u) at e in let y : ◌≡◌ {A = ℕ} 0 1 = cc in absurd (omega arith))
      (λ u. let g = ltb-false n (f + b) t in let m = eqb-false (f + b) n u in omega arith))

-- `start_or`, `end_or`, `is_prefix`
module _ (i : Option Element) (p : Element) (e : i ≡ Some p) where
  pub start_here : p.start ≡ start_or i
  start_here = rw e

  pub end_here : p.start + p.len ≡ end_or i
  end_here = rw e

  pub end_fits : end_or i < 2 ^ 63 → Fits w64 (p.start + p.len)
  end_fits h = let t = rw e at h in record { fits = omega (arith, t) }

  pub prefix_here : (b : Bool) → b ≡ prefix_kind p.component → b ≡ is_prefix i
  prefix_here b f = f ∙ rw e

-- each end lies in the path
module _ (h : Start) (s : List ℕ) (i : Option Element) where
  pub nth_small : (f : ℕ) → i ≡ nth_of (whole_of h s) f → In h s → end_or i < 2 ^ 63
  nth_small f e w = rw e (omega (arith, upto_nth (length s) (whole_of h s) f w.upto, w.small))

  pub back_small : (b : ℕ) → i ≡ nth_back_of (whole_of h s) b → In h s → end_or i < 2 ^ 63
  unfolding nth_back_of
  back_small b e w = rw e (split (ltb b (length (whole_of h s))) (λ t. rw t (omega (arith, upto_nth (length s) (whole_of h s) (length (whole_of h s) - 1 - b) w.upto, w.small))) (λ t. rw t (omega arith)))

-- `end_at`, `left_end`, `right_end`, `empty_at`
module _ (l : List Element) where
  pub end_nth : (f : ℕ) (i : Option Element) (r : ℕ) → i ≡ nth_of l f → r ≡ end_or i → r ≡ end_or (nth_of l f)
  end_nth f i r e g = g ∙ rw e

  pub right_nth : (b : ℕ) (i : Option Element) (r : ℕ) → i ≡ nth_back_of l b → r ≡ end_or i → r ≡ right_end l b
  right_nth b i r e g = g ∙ rw e

  module _ (f : ℕ) where
    pub left_zero : f ≡ 0 → 0 ≡ left_end l f
    unfolding left_end
    left_zero z = rw z

    pub left_one : (r : ℕ) → f ≡ 1 → r ≡ left_end l 1 → r ≡ left_end l f
    left_one r z e = rw z e

    pub left_later : (j : Option Element) (r : ℕ) → (f ≡ 0 → ⊥) → (f ≡ 1 → ⊥) → j ≡ nth_of l f → r ≡ start_or j → r ≡ left_end l f
    unfolding left_end
    left_later j r n m d h = h ∙ rw d (simp (ne_eqb f 0 n, ne_eqb f 1 m))

    pub empty_zero : f ≡ 0 → 0 ≡ empty_at l f
    unfolding empty_at
    empty_zero z = rw z

    pub empty_past : (r : ℕ) → (f ≡ 0 → ⊥) → r ≡ end_or (nth_of l (f - 1)) → r ≡ empty_at l f
    unfolding empty_at
    empty_past r n e = e ∙ simp (ne_eqb f 0 n)

  module _ (i : Option Element) (e : i ≡ nth_of l 0) (b : Bool) (g : b ≡ is_prefix i) where
    pub left_prefix : (r : ℕ) → b ≡ true → r ≡ end_or i → r ≡ left_end l 1
    unfolding left_end
    left_prefix r y h = h ∙ rw (← e, ← g, y)

    pub left_first : (j : Option Element) (r : ℕ) → b ≡ false → j ≡ nth_of l 1 → r ≡ start_or j → r ≡ left_end l 1
    unfolding left_end
    left_first j r y d h = h ∙ rw (d, ← e, ← g, y)

-- `is_dotted`, `behind_dot`
module _ (h : Start) (s : List ℕ) (b : Bool) (e : b ≡ on_disk h.prefix) where
  pub dotted_not : b ≡ false → false ≡ dotted h s
  unfolding dotted
  dotted_not n = rw (← e, n)

  module _ (y : b ≡ true) (r : Bool) (f : r ≡ is_bare h.dir) where
    pub dotted_root : r ≡ false → false ≡ dotted h s
    unfolding dotted
    dotted_root z = rw (← e, y, ← f, z)

    pub dotted_dot : (d : Bool) → r ≡ true → d ≡ dot_at h.seps s h.end → d ≡ dotted h s
    unfolding dotted
    dotted_dot d n g = g ∙ rw (← e, y, ← f, n)

module _ (d : Bool) (n f b : ℕ) where
  pub dot_plain : d ≡ false → false ≡ behind_dot d n f b
  unfolding behind_dot
  dot_plain e = rw e

  module _ (e : d ≡ true) where
    pub dot_far : 2 ≤ f → false ≡ behind_dot d n f b
    unfolding behind_dot
    dot_far h = rw (e, le-ltb f 2 h)

    module _ (h : f < 2) where
      pub dot_over : n ≤ b → false ≡ behind_dot d n f b
      unfolding behind_dot
      dot_over g = rw (e, lt-ltb f 2 h) (simp (ne_eqb (b + 1) n (omega arith)))

      pub dot_one : b < n → eqb (n - b) 1 ≡ behind_dot d n f b
      unfolding behind_dot
      dot_one g = rw (e, lt-ltb f 2 h) (split (eqb (b + 1) n)
          (λ t. rw t (eq-eqb (n - b) 1 (omega (arith, eqb-true (b + 1) n t))))
          (λ t. rw t (ne_eqb (n - b) 1 (λ z. eqb-false (b + 1) n t (omega arith)))))

-- `rest_of`
module _ (h : Start) (s : List ℕ) (n f b : ℕ) (c : n ≡ length (whole_of h s)) (d : Bool) (e : d ≡ dotted h s) (x : Bool) (g : x ≡ behind_dot d n f b) where
  dot_of_lem : behind_dot (dotted h s) (length (whole_of h s)) f b ≡ x
  dot_of_lem = sym (g ∙ rw (e, c))

  pub rest_dot : (a z : ℕ) → x ≡ true → a ≡ left_end (whole_of h s) f → z ≡ end_or (nth_of (whole_of h s) 0) → span a (z + 1) ≡ rest_of (dotted h s) (whole_of h s) f b
  unfolding rest_of
  rest_dot a z y i j = rw (i, j, dot_of_lem, y)

  module _ (y : x ≡ false) where
    pub rest_some : (a z : ℕ) → f + b < n → a ≡ left_end (whole_of h s) f → z ≡ right_end (whole_of h s) b → span a z ≡ rest_of (dotted h s) (whole_of h s) f b
    unfolding rest_of
    rest_some a z l i j = rw (i, j, dot_of_lem, y) (simp (lt-ltb (f + b) (length (whole_of h s)) (omega arith)))

    pub rest_none : (z : ℕ) → n ≤ f + b → z ≡ empty_at (whole_of h s) f → span z z ≡ rest_of (dotted h s) (whole_of h s) f b
    unfolding rest_of
    rest_none z l j = rw (j, dot_of_lem, y) (simp (le-ltb (f + b) (length (whole_of h s)) (omega arith)))

pub dot_fits : (h : Start) (s : List ℕ) (z : ℕ) → z ≡ end_or (nth_of (whole_of h s) 0) → In h s → Fits w64 (z + 1)
dot_fits h s z e w = record { fits = rw e (omega (arith, upto_nth (length s) (whole_of h s) 0 w.upto, w.small)) }

-- a dot behind a drive: the prefix stands alone in the head
pub drive_alone : (k : Seps) (s : List ℕ) (p : Option Prefix) (d : Dir) (e : ℕ) → cond (on_disk p) (cond (is_bare d) (dot_at k s e) false) false ≡ true → (length (prefix_part p e ++ dir_part d e) ≡ 1) × (dir_len d ≡ 0) × (dot_at k s e ≡ true)
drive_alone k s None d e h = absurd (false≢true h)
drive_alone k s (Some p) Bare e h = split (is_disk p) (λ t. (refl, refl, rw t at h)) (λ t. absurd (false≢true (rw t at h)))
drive_alone k s (Some p) Root e h = split (is_disk p) (λ t. absurd (false≢true (rw t at h))) (λ t. absurd (false≢true (rw t at h)))
drive_alone k s (Some p) Implied e h = split (is_disk p) (λ t. absurd (false≢true (rw t at h))) (λ t. absurd (false≢true (rw t at h)))
drive_alone k s (Some p) Lone e h = split (is_disk p) (λ t. absurd (false≢true (rw t at h))) (λ t. absurd (false≢true (rw t at h)))

pub dot_in_lem : (k : Seps) (s : List ℕ) (h : Start) → OpenAt k s h → dotted h s ≡ true → h.at + 1 ≤ length s
unfolding dotted start_of
dot_in_lem k s h o y =
    let a = drive_alone h.seps s h.prefix h.dir h.end y in
    let b : h.at ≡ h.end + dir_len h.dir = rw o.is in
    omega (arith, dot_inside h.seps s h.end a.2)

-- `head_end`
module _ (o : Opened) (b : Bool) (e : b ≡ dotted o.start o.path.now) where
  pub head_fits : b ≡ true → Fits w64 (o.start.at + 1)
  head_fits y = record { fits = omega (arith, dot_in_lem o.seps o.path.now o.start o.open (sym e ∙ y), o.small) }

  pub head_dot : b ≡ true → (o.start.at + 1 ≡ o.start.at + cond (dotted o.start o.path.now) 1 0) × (o.start.at + 1 ≤ length o.path.now)
  head_dot y = (rw (← e, y), dot_in_lem o.seps o.path.now o.start o.open (sym e ∙ y))

  pub head_plain : b ≡ false → (o.start.at ≡ o.start.at + cond (dotted o.start o.path.now) 1 0) × (o.start.at ≤ length o.path.now)
  head_plain n = (rw (← e, n) (omega arith), o.open.high)

-- an opened path's list lies in it
pub opened_in : (o : Opened) → In o.start o.path.now
opened_in o = record { upto = list_upto o.seps o.path.now o.start o.open; small = o.small }

-- `rest_counted`; ahead of it, the same of a path and its head
module _ (k : Seps) (s : List ℕ) (h : Start) (o : OpenAt k s h) where
  pub rest_in : length s * 1 < 2 ^ 63 → In h s
  rest_in w = record { upto = list_upto k s h o; small = omega arith }

  module _ (n f b : ℕ) (c : CountAt (whole_of h s) n) where
    asked : n < f + b → None ≡ rest_asked k s f b
    unfolding rest_asked
    asked l = rw (← whole_list k s h o, ← c.is) (simp (lt-ltb n (f + b) l))

    pub rest_front : n < f → None ≡ rest_asked k s f b
    rest_front l = asked (omega arith)

    module _ (g : f ≤ n) where
      pub rest_over : n - f < b → None ≡ rest_asked k s f b
      rest_over l = asked (omega arith)

      pub rest_fits : b ≤ n - f → (n ≡ length (whole_of h s)) × (f + b ≤ n)
      rest_fits l = (c.is, omega arith)

      pub rest_is : (r : Span) → b ≤ n - f → r ≡ rest_of (dotted h s) (whole_of h s) f b → Some r ≡ rest_asked k s f b
      unfolding rest_asked
      rest_is r l e = rw (← whole_list k s h o, ← c.is) (simp (le-ltb n (f + b) (omega arith)) (rw (e, ← o.is)))

pub ruleset cursors = (rest_dot, rest_some, rest_none, dot_fits, head_fits, head_plain, opened_in, rest_front, rest_over, rest_fits, rest_is, left_one, left_back, left_some, left_spent, left_beyond, left_list, start_here, end_here, end_fits, prefix_here, nth_small, back_small, end_nth, right_nth, left_zero, left_prefix, left_first, left_later, empty_zero, empty_past, dotted_not, dotted_root, dotted_dot, dot_plain, dot_far, dot_over, dot_one)

-- what the rest's answer tells
module _ (k : Seps) (s : List ℕ) (f b : ℕ) where
  pub toomany_says : rest_asked k s f b ≡ None → length (list_of k s) < f + b
  unfolding rest_asked
  toomany_says e = split (ltb (length (list_of k s)) (f + b)) (λ t. ltb-true _ _ t) (λ t. let z = rw t at e in let y : ◌≡◌ {A = ℕ} 0 1 = cc in absurd (omega arith))

  pub rests_says : (w : Span) → rest_asked k s f b ≡ Some w → (f + b ≤ length (list_of k s)) × (w ≡ rest_of (dotted (start_of k s) s) (list_of k s) f b)
  unfolding rest_asked
  rests_says w e =
      split (ltb (length (list_of k s)) (f + b))
      (λ t. let z = rw t at e in let y : ◌≡◌ {A = ℕ} 0 1 = cc in absurd (omega arith))
      (λ t. let z = rw t at e in (ltb-false _ _ t, cc))
