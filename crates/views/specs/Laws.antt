-- Laws of the views: one a way through each function, and what they rest on.
use Prim.Native.Nat.{ℕ, zero, suc, ◌+◌, ◌-◌, ◌*◌, ◌^◌, ◌<◌, ◌≤◌}
use Rattle.std.specs.Prelude.{Ok, Err}
use Rattle.std.specs.Prelude.{Result}
use Rattle.std.specs.Int.{w64}
use Rattle.std.proofs.Common.{Fits, add-suc, ap, ◌∙◌}
use Rattle.std.proofs.Math.Numerals.{add-one}
use Rattle.std.proofs.Math.Nat.{add-zero, add-sub_cancel_left}
use native.Mathlib.Omega.{arith}
use Rattle.std.specs.Prelude.{◌≡◌, Bool, cond, get_or, take, drop, eqb, ltb, Option, Some, None}
use Rattle.std.proofs.Math.Path.{refl, sym}
use mathlib.Core.List.{List, [], ◌∷◌, ◌++◌, append-nil, append_assoc}
use Rattle.std.proofs.Math.Bool.{true, false}
use Rattle.std.proofs.lemmas.Bool.{false≢true}
use Rattle.std.proofs.Math.ListN.{length, length-append, length-drop}
use Rattle.std.proofs.Math.Seq.{take-length, length-take-le}
use borrow.Author.Tests.{eq-eqb, ne_eqb, eqb-true, eqb-false, ltb-true, ltb-false}
use Rattle.octets.specs.Class.{is_sep}
use Rattle.octets.specs.Laws.{split}
use Rattle.octets.specs.declared.Seps.{Seps}
use Rattle.answers.specs.declared.Reply.TheVariants.{Absent}
use Rattle.answers.specs.declared.View.{View}
use Rattle.answers.specs.Reply.{refused_view, seen}
use Rattle.answers.specs.Outcome.{Outcome, refuse, give, told, guard, present}
use Rattle.prefixes.specs.declared.Prefix.{Prefix}
use Rattle.prefixes.specs.declared.Prefix.TheVariants.{Verbatim, VerbatimUnc, VerbatimDisk, DeviceNs, Unc, Disk}
use Rattle.prefixes.specs.Prefix.{prefix_in, end_of_prefix}
use Rattle.parts.specs.declared.Component.{Component}
use Rattle.parts.specs.declared.Component.TheVariants.{Prefix as Prefixed, RootDir, CurDir, ParentDir, Normal}
use Rattle.parts.specs.declared.Element.{Element}
use Rattle.parts.specs.declared.Kind.{Kind}
use Rattle.parts.specs.declared.Kind.TheVariants.{Dot, DotDot, Name}
use Rattle.parts.specs.declared.Part.{Part}
use Rattle.parts.specs.Body.{component_of, dots}
use Rattle.parts.specs.Elements.{nth_of, nth_back_of, end_or}
use Rattle.parts.specs.Steps.{is_name, lift, within, LastAt, BackAt}
use Rattle.parts.specs.Laws.{last_none, last_found, back_last, back_on, back_past, back_nth, back_behind, back_before, Bodily, Goods, from_good, good_nth, back_inside}
use Rattle.components.specs.declared.Dir.{Dir}
use Rattle.components.specs.declared.Dir.TheVariants.{Bare, Root, Implied, Dot as Lone}
use Rattle.components.specs.declared.Start.{Start}
use Rattle.components.specs.declared.opened.Opened.{Opened}
use Rattle.components.specs.declared.Body.{Body as Within}
use Rattle.components.specs.List.{sep_at, prefix_dir, behind_prefix, dir_of, dir_len, start_of, prefix_part, dir_part, head_list, body_list, whole_of, list_of}
use Rattle.components.specs.Leaves.{OpenAt, BodyAt}
use Rattle.components.specs.Laws.{whole_list, open_start, last_begun}
use Rattle.cursors.specs.Laws.{drive_alone, dot_in_lem}
use Rattle.cursors.specs.Rest.{view_of, span, dotted, behind_dot, left_end, empty_at, rest_of}
use Rattle.views.specs.Views.{leaves_kind, leaves, climbs, rest_back, parent_of, ancestor_of, is_normal, if_normal, last_name, has_dot, last_dot, of_name, whole_seen, stem_seen, extension_seen}
use Rattle.views.specs.Leaves.{cut_of, up_by, ViewAt, CutAt, list_to, head_up, NameAt, BaseAt, dot_in, DotAt, StemAt}

-- ---- steps back from a list

same_test : (a b : ℕ) → eqb (a + 1) (b + 1) ≡ eqb a b
same_test a b =
    split (eqb a b)
    (λ e. rw e (eq-eqb (a + 1) (b + 1) (omega (arith, eqb-true a b e))))
    (λ e. rw e (ne_eqb (a + 1) (b + 1) (λ h. eqb-false a b e (omega arith))))

module _ (l : List Element) (p : Element) where
  cut_on : (dot : Bool) (n : ℕ) → cut_of dot (l ++ (p ∷ [])) (n + 1) ≡ cut_of dot l n
  unfolding cut_of
  cut_on dot n =
      let m : length (l ++ (p ∷ [])) ≡ length l + 1 = length-append l (p ∷ []) in
      rw (back_on (l ++ (p ∷ [])) l p refl n, m, same_test (length l) (n + 1))

  climbs_on : leaves_kind p.component ≡ true → (n : ℕ) → climbs (l ++ (p ∷ [])) (suc n) ≡ climbs l n
  unfolding climbs
  climbs_on e zero = rw (back_last (l ++ (p ∷ [])) l p refl, e)
  climbs_on e (suc n) =
      let g : nth_back_of (l ++ (p ∷ [])) (suc n) ≡ nth_back_of l n = rw add-one at (back_on (l ++ (p ∷ [])) l p refl n) in
      rw (climbs_on e n, g)

  -- one that leaves taken off
  pub up_on : leaves_kind p.component ≡ true → (dot : Bool) (n : ℕ) → up_by dot (l ++ (p ∷ [])) (n + 1) ≡ up_by dot l n
  unfolding up_by
  up_on e dot n = rw (cut_on dot n, add-one n, climbs_on e n)

climbs_first : (l : List Element) (n : ℕ) → leaves (nth_back_of l 0) ≡ false → climbs l (suc n) ≡ false
unfolding climbs
climbs_first l zero e = rw e
climbs_first l (suc n) e = rw (climbs_first l n e)

leaves_in : (l : List Element) (n : ℕ) → leaves (nth_back_of l n) ≡ true → n < length l
leaves_in l n e =
    split (ltb n (length l))
    (λ t. ltb-true n (length l) t)
    (λ t. absurd (false≢true (rw (back_past l n (ltb-false n (length l) t)) at e)))

-- a list that is climbed n times has as many elements
pub climbs_few : (l : List Element) (n : ℕ) → climbs l n ≡ true → n ≤ length l
unfolding climbs
climbs_few l zero e = omega arith
climbs_few l (suc n) e =
    split (climbs l n)
    (λ t. leaves_in l n (rw t at e))
    (λ t. absurd (false≢true (rw t at e)))

climbs_past : (l : List Element) (n : ℕ) → length l < n → climbs l n ≡ false
climbs_past l n h = split (climbs l n) (λ t. absurd (omega (arith, climbs_few l n t))) (λ t. t)

-- ---- a head g and a body b, each of whose elements leaves

pub kind_leaves : (q : Kind) → leaves_kind (component_of q) ≡ true
kind_leaves Dot = refl
kind_leaves DotDot = refl
kind_leaves Name = refl

bodily_leaves : (v : Bool) (c : Component) → Bodily v c → leaves_kind c ≡ true
bodily_leaves v (Prefixed p) b = absurd b
bodily_leaves v RootDir b = absurd b
bodily_leaves v CurDir b = refl
bodily_leaves v ParentDir b = refl
bodily_leaves v Normal b = refl

item_leaves : (sep : ℕ → Bool) (v : Bool) (s : List ℕ) (l : List Element) (f : ℕ) → Goods sep v s l → f < length l → leaves (nth_of l f) ≡ true
unfolding Goods nth_of
item_leaves sep v s [] f u h = absurd (omega arith)
item_leaves sep v s (x ∷ l) zero u h = bodily_leaves v x.component u.0.bodily
item_leaves sep v s (x ∷ l) (suc f) u h = item_leaves sep v s l f u.1 (omega arith)

body_leaves : (sep : ℕ → Bool) (v : Bool) (s : List ℕ) (l : List Element) → Goods sep v s l → (f : ℕ) → f < length l → leaves (nth_back_of l f) ≡ true
body_leaves sep v s l u f h = rw (back_nth l f h) (item_leaves sep v s l (length l - 1 - f) u (omega arith))

module _ (g b : List Element) (u : (f : ℕ) → f < length b → leaves (nth_back_of b f) ≡ true) where
  climbs_body : (n : ℕ) → n ≤ length b → climbs (g ++ b) n ≡ true
  unfolding climbs
  climbs_body zero h = refl
  climbs_body (suc n) h = rw (climbs_body n (omega arith), back_behind g b n (omega arith), u n (omega arith))

  over : (m : ℕ) → nth_back_of (g ++ b) (length b + m) ≡ nth_back_of g m
  over m = let e : length b + m - length b ≡ m = omega arith in back_before g b (length b + m) (omega arith) ∙ rw e

  climbs_over : (m : ℕ) → climbs (g ++ b) (length b + m) ≡ climbs g m
  unfolding climbs
  climbs_over zero = rw add-zero (climbs_body (length b) (omega arith))
  climbs_over (suc m) = rw (add-suc, climbs_over m, over m)

  cut_over : (dot : Bool) (m : ℕ) → cut_of dot (g ++ b) (length b + m) ≡ cut_of dot g m
  unfolding cut_of
  cut_over dot m =
      rw (over m, length-append g b)
      (split (eqb (length g) (m + 1))
      (λ e. rw (e, eq-eqb (length g + length b) (length b + m + 1) (omega (arith, eqb-true (length g) (m + 1) e))))
      (λ e. rw (e, ne_eqb (length g + length b) (length b + m + 1) (λ z. eqb-false (length g) (m + 1) e (omega arith)))))

  -- the body is used up, and m steps are left
  up_over : (dot : Bool) (m : ℕ) → up_by dot (g ++ b) (length b + m) ≡ up_by dot g m
  unfolding up_by
  up_over dot m = rw (climbs_over m, cut_over dot m)

  -- the element with n behind it is one of the body; a dot behind a drive does not count there
  up_inside : (dot : Bool) (n : ℕ) (x : Element) → n < length b → (dot ≡ true → length g ≡ 1) → Some x ≡ nth_back_of b n → up_by dot (g ++ b) n ≡ give (seen 0 (x.start + x.len))
  unfolding up_by guard cut_of
  up_inside dot n x h a e =
      let z : x.start + x.len + 0 ≡ x.start + x.len = omega arith in
      rw (climbs_body n (omega arith), back_behind g b n h, ← e)
      (split dot
      (λ y. rw (y, ne_eqb (length (g ++ b)) (n + 1) (λ w. omega (arith, length-append g b, a y)), z))
      (λ y. rw (y, z)))

-- ---- `head_up`
pub up_fixed : (d x : Dir) (n : ℕ) (r : View) → d ≡ x → refuse Absent ≡ head_up x n → r ≡ refused_view Absent → r ≡ told refused_view (head_up d n)
unfolding told
up_fixed d x n r y f e = e ∙ rw (y, ← f)

module _ (d : Dir) (n : ℕ) (y : d ≡ Lone) where
  pub up_lone : n ≡ 1 → seen 0 0 ≡ told refused_view (head_up d n)
  unfolding told
  up_lone z = rw (y, z)

  pub up_long : (n ≡ 1 → ⊥) → (r : View) → r ≡ refused_view Absent → r ≡ told refused_view (head_up d n)
  unfolding told
  up_long z r e = e ∙ rw (y, ne_eqb n 1 z)

head_short : (d : Dir) (n : ℕ) (s : List ℕ) → (told refused_view (head_up d n)).start + (told refused_view (head_up d n)).len ≤ length s
unfolding told
head_short Bare n s = omega arith
head_short Root n s = omega arith
head_short Implied n s = omega arith
head_short Lone n s = split (eqb n 1) (λ f. rw f (omega arith)) (λ f. rw f (omega arith))

-- a lone dot stands behind no prefix
abbrev is_lone : Dir → Bool
is_lone Bare = false
is_lone Root = false
is_lone Implied = false
is_lone Lone = true

prefix_dir_lem : (p : Prefix) → is_lone (prefix_dir p) ≡ false
prefix_dir_lem (Verbatim n) = refl
prefix_dir_lem (VerbatimUnc n) = refl
prefix_dir_lem (VerbatimDisk d) = refl
prefix_dir_lem (DeviceNs n) = refl
prefix_dir_lem (Unc n) = refl
prefix_dir_lem (Disk d) = refl

behind_lone : (k : Seps) (s : List ℕ) (p : Option Prefix) → is_lone (behind_prefix k p s) ≡ true → p ≡ None
behind_lone k s None e = refl
behind_lone k s (Some p) e = absurd (false≢true (sym (prefix_dir_lem p) ∙ e))

dir_lone : (k : Seps) (s : List ℕ) (p : Option Prefix) (i : ℕ) → is_lone (dir_of k p s i) ≡ true → p ≡ None
unfolding dir_of
dir_lone k s p i h = split (sep_at k s i) (λ e. absurd (false≢true (rw e at h))) (λ e. behind_lone k s p (rw e at h))

-- where the last element of a list is none that leaves
pub stays : (dot : Bool) (l : List Element) (n : ℕ) → leaves (nth_back_of l 0) ≡ false → up_by dot l (suc n) ≡ refuse Absent
unfolding up_by guard
stays dot l n e = rw (climbs_first l n e)

lone_up : (dot : Bool) (e n : ℕ) → up_by dot (dir_part Lone e) (suc n) ≡ head_up Lone (suc n)
unfolding up_by guard climbs cut_of nth_back_of nth_of
lone_up dot e zero = split dot (λ f. rw f) (λ f. rw f)
lone_up dot e (suc n) = rw (climbs_past (dir_part Lone e) (suc (suc n)) (omega arith), ne_eqb (suc (suc n)) 1 (λ z. omega arith))

head_up_of : (dot : Bool) (p : Option Prefix) (d : Dir) (e n : ℕ) → (is_lone d ≡ true → p ≡ None) → up_by dot (prefix_part p e ++ dir_part d e) (suc n) ≡ head_up d (suc n)
unfolding nth_back_of nth_of
head_up_of dot None Bare e n f = stays dot [] n refl
head_up_of dot (Some p) Bare e n f = stays dot (prefix_part (Some p) e) n refl
head_up_of dot None Root e n f = stays dot (dir_part Root e) n refl
head_up_of dot (Some p) Root e n f = stays dot (prefix_part (Some p) e ++ dir_part Root e) n refl
head_up_of dot None Implied e n f = stays dot (dir_part Implied e) n refl
head_up_of dot (Some p) Implied e n f = stays dot (prefix_part (Some p) e ++ dir_part Implied e) n refl
head_up_of dot p Lone e n f = rw (f refl) (lone_up dot e n)

pub head_alone : (k : Seps) (s : List ℕ) (h : Start) → OpenAt k s h → (dot : Bool) (n : ℕ) → up_by dot (head_list h) (suc n) ≡ head_up h.dir (suc n)
unfolding head_list start_of
head_alone k s h o dot n = head_up_of dot h.prefix h.dir h.end n (rw o.is (dir_lone k s (prefix_in k s) (end_of_prefix (prefix_in k s))))

-- ---- `head_end`

-- the end of the head's last element
head_last : (p : Option Prefix) (d : Dir) → end_or (nth_back_of (prefix_part p (end_of_prefix p) ++ dir_part d (end_of_prefix p)) 0) ≡ end_of_prefix p + dir_len d
unfolding nth_back_of nth_of
head_last None Bare = refl
head_last None Root = refl
head_last None Implied = refl
head_last None Lone = refl
head_last (Some p) Bare = omega arith
head_last (Some p) Root = refl
head_last (Some p) Implied = refl
head_last (Some p) Lone = refl

module _ (k : Seps) (s : List ℕ) (h : Start) (o : OpenAt k s h) where
  pub ends_at : end_or (nth_back_of (head_list h) 0) ≡ h.at
  unfolding head_list start_of
  ends_at = rw o.is (head_last (prefix_in k s) (dir_of k (prefix_in k s) s (end_of_prefix (prefix_in k s))))

  pub alone : dotted h s ≡ true → length (head_list h) ≡ 1
  unfolding head_list dotted
  alone y = (drive_alone h.seps s h.prefix h.dir h.end y).0

  pub head_cut : (r : ℕ) → r ≡ h.at + cond (dotted h s) 1 0 → r ≤ length s → CutAt (dotted h s) (head_list h) s r
  unfolding cut_of
  head_cut r e m = record { is = e ∙ rw ends_at (split (dotted h s) (λ y. rw (alone y, y)) (λ n. rw n)); inside = m }

  -- the two ways of it, where b says whether a dot stands behind a drive
  module _ (b : Bool) (e : b ≡ dotted h s) where
    pub head_fits : b ≡ true → length s * 1 < 2 ^ 63 → Fits w64 (h.at + 1)
    head_fits y w = record { fits = omega (arith, dot_in_lem k s h o (sym e ∙ y)) }

    pub head_dot : b ≡ true → CutAt (dotted h s) (head_list h) s (h.at + 1)
    head_dot y = head_cut (h.at + 1) (rw (← e, y)) (dot_in_lem k s h o (sym e ∙ y))

    pub head_plain : b ≡ false → CutAt (dotted h s) (head_list h) s h.at
    head_plain n = head_cut h.at (rw (← e, n) (omega arith)) o.high

  -- a list whose body ends in p: the head comes before it, and a dot behind a drive does not count
  module _ (e : ℕ) (w : List Element) (p : Element) (t : within (is_sep h.seps) (dots h.seps) s h.at e ≡ w ++ (p ∷ [])) where
    pub parted : list_to h s e ≡ (head_list h ++ w) ++ (p ∷ [])
    unfolding list_to
    parted = rw (t, append_assoc)

    later : dotted h s ≡ true → (length (list_to h s e) ≡ 0 + 1 → ⊥)
    later y = λ z. omega (arith, alone y, ap length parted, length-append (head_list h ++ w) (p ∷ []), length-append (head_list h) w)

    pub cut_last : cut_of (dotted h s) (list_to h s e) 0 ≡ p.start + p.len
    unfolding cut_of
    cut_last =
        rw (back_last (list_to h s e) (head_list h ++ w) p parted)
        (split (dotted h s)
        (λ y. rw (y, ne_eqb (length (list_to h s e)) (0 + 1) (later y)) (omega arith))
        (λ y. rw y (omega arith)))

  -- `end_before`
  module _ (e : ℕ) (p : Option Part) (f : LastAt (is_sep h.seps) (dots h.seps) s h.at e p) where
    pub before_none : p ≡ None → (r : ℕ) → CutAt (dotted h s) (head_list h) s r → CutAt (dotted h s) (list_to h s e) s r
    unfolding list_to
    before_none g r c = rw (last_none f g, append-nil) c

    module _ (q : Part) (g : p ≡ Some q) where
      pub before_fits : Fits w64 (q.start + q.len)
      before_fits = let t = last_found f g in record { fits = omega arith }

      pub before_part : CutAt (dotted h s) (list_to h s e) s (q.start + q.len)
      before_part = let t = last_found f g in record { is = sym (cut_last e (within (is_sep h.seps) (dots h.seps) s h.at q.start) (lift q) t.is); inside = omega arith }

  -- ---- `up`
  pub whole_left : list_of k s ≡ list_to h s (length s)
  unfolding whole_of body_list list_to within
  whole_left = sym (whole_list k s h o) ∙ rw (take-length s)

  pub dot_same : dotted (start_of k s) s ≡ dotted h s
  dot_same = rw o.is

  abbrev body : List Element
  body = within (is_sep h.seps) (dots h.seps) s h.at (length s)

  -- steps back from the list are steps back from the head and the body
  up_whole : (n : ℕ) (x : Outcome View) → up_by (dotted h s) (head_list h ++ body) n ≡ x → up_by (dotted (start_of k s) s) (list_of k s) n ≡ x
  unfolding list_to
  up_whole n x e = rw (dot_same, whole_left) e

  up_good : Goods (is_sep h.seps) (dots h.seps) (take (length s) s) body
  unfolding within
  up_good = from_good (is_sep h.seps) (dots h.seps) (take (length s) s) h.at

  up_leaves : (f : ℕ) → f < length body → leaves (nth_back_of body f) ≡ true
  up_leaves = body_leaves (is_sep h.seps) (dots h.seps) (take (length s) s) body up_good

  module _ (n : ℕ) (c : Result Part ℕ) (a : BackAt body n c) where
    module _ (q : Part) (g : c ≡ Ok q) where
      up_at : Some (lift q) ≡ nth_back_of body n
      up_at = rw g at a

      up_in : n < length body
      up_in = leaves_in body n (rw (← up_at) (kind_leaves q.kind))

      up_end : q.start + q.len ≤ length s
      up_end =
          let g = good_nth (is_sep h.seps) (dots h.seps) (take (length s) s) body (length body - 1 - n) (lift q) up_good (sym (back_nth body n up_in) ∙ sym up_at) in
          omega (arith, g.inside, length-take-le (length s) s (omega arith))

      pub up_fits : length s * 1 < 2 ^ 63 → Fits w64 (q.start + q.len)
      up_fits w = record { fits = omega (arith, up_end) }

      pub up_part : ViewAt (up_by (dotted (start_of k s) s) (list_of k s) n) s (seen 0 (q.start + q.len))
      unfolding told
      up_part =
          record {
            is = sym (ap (told refused_view) (up_whole n _ (up_inside (head_list h) body up_leaves (dotted h s) n (lift q) up_in alone up_at)));
            inside = omega (arith, up_end);
          }

    pub up_left : (m : ℕ) (r : View) → c ≡ Err m → ViewAt (up_by (dotted h s) (head_list h) m) s r → ViewAt (up_by (dotted (start_of k s) s) (list_of k s) n) s r
    up_left m r g t =
        let e : length body + m ≡ n = rw g at a in
        rw (up_whole n (up_by (dotted h s) (head_list h) m) (rw (← e) (up_over (head_list h) body up_leaves (dotted h s) m))) t

  -- `head_left`
  pub left_none : (m r : ℕ) → m ≡ 0 → CutAt (dotted h s) (head_list h) s r → ViewAt (up_by (dotted h s) (head_list h) m) s (seen 0 r)
  unfolding up_by told guard climbs
  left_none m r z t = rw z (record { is = rw t.is; inside = omega (arith, t.inside) })

  pub left_some : (m : ℕ) (r : View) → (m ≡ 0 → ⊥) → r ≡ told refused_view (head_up h.dir m) → ViewAt (up_by (dotted h s) (head_list h) m) s r
  left_some m r z e =
      let y : m ≡ suc (m - 1) = omega arith in
      let u : up_by (dotted h s) (head_list h) m ≡ head_up h.dir m = rw y (head_alone k s h o (dotted h s) (m - 1)) in
      record { is = e ∙ sym (ap (told refused_view) u); inside = rw e (head_short h.dir m s) }

-- what remains is the rest after so many back steps
module _ (l : List Element) (b : ℕ) where
  -- where no dot stands behind a drive alone
  plain_rest : (x : ℕ) → x ≡ 0 → view_of (cond (ltb (0 + b) (length l)) (span 0 (end_or (nth_back_of l b))) (span 0 0)) ≡ seen 0 (end_or (nth_back_of l b) + x)
  plain_rest x z =
      let y : 0 + b ≡ b = omega arith in
      let e : end_or (nth_back_of l b) - 0 ≡ end_or (nth_back_of l b) + x = omega arith in
      split (ltb b (length l))
      (λ t. rw (y, t, e))
      (λ t. let m = back_past l b (ltb-false b (length l) t) in rw (y, t, m, z))

  cut_rest : (dot : Bool) → view_of (rest_of dot l 0 b) ≡ seen 0 (cut_of dot l b)
  unfolding rest_of behind_dot left_end empty_at cut_of
  cut_rest false = plain_rest 0 refl
  cut_rest true =
      split (eqb (b + 1) (length l))
      (λ t.
      let n = eqb-true (b + 1) (length l) t in
      let z : length l - 1 - b ≡ 0 = omega arith in
      let g : nth_back_of l b ≡ nth_of l 0 = back_nth l b (omega arith) ∙ rw z in
      let e : end_or (nth_of l 0) + 1 - 0 ≡ end_or (nth_of l 0) + 1 = omega arith in
      rw (t, g, eq-eqb (length l) (b + 1) (sym n), e))
      (λ t.
      let n = eqb-false (b + 1) (length l) t in
      rw (t, ne_eqb (length l) (b + 1) (λ z. n (sym z))) (plain_rest 0 refl))

  -- n steps back, told either way
  pub up_rest : (dot : Bool) → up_by dot l b ≡ present (climbs l b) (give (view_of (rest_of dot l 0 b)))
  unfolding up_by
  up_rest dot = rw (cut_rest dot)

-- `parent`, `ancestor`
module _ (k : Seps) (s : List ℕ) (r : View) where
  parent_is : ViewAt (up_by (dotted (start_of k s) s) (list_of k s) 1) s r → ViewAt (parent_of k s) s r
  unfolding parent_of rest_back climbs
  parent_is a = rw (up_rest (list_of k s) 1 (dotted (start_of k s) s)) at a

  module _ (n : ℕ) where
    pub ancestor_up : (n ≡ 0 → ⊥) → ViewAt (up_by (dotted (start_of k s) s) (list_of k s) n) s r → ViewAt (ancestor_of n k s) s r
    unfolding ancestor_of rest_back
    ancestor_up h a = rw (ne_eqb n 0 h) (rw (up_rest (list_of k s) n (dotted (start_of k s) s)) at a)

-- what an opened path tells is told of the path that was opened
module _ (o : Opened) (k : Seps) (s : List ℕ) (i : o.seps ≡ k) (j : o.path.now ≡ s) where
  pub cut_opened : (e r : ℕ) → CutAt (dotted o.start o.path.now) (list_to o.start o.path.now e) o.path.now r → CutAt (dotted o.start s) (list_to o.start s e) s r
  cut_opened e r t = rw (← j) t

  pub up_opened : (n : ℕ) (r : View) → (n ≡ 0 → ⊥) → ViewAt (up_by (dotted (start_of o.seps o.path.now) o.path.now) (list_of o.seps o.path.now) n) o.path.now r → ViewAt (ancestor_of n k s) s r
  up_opened n r z t = rw (← i, ← j) (ancestor_up o.seps o.path.now r n z t)

pub ancestor_whole : (k : Seps) (s : List ℕ) (n : ℕ) → n ≡ 0 → ViewAt (ancestor_of n k s) s (seen 0 (length s))
unfolding ancestor_of told
ancestor_whole k s n h = record { is = rw h; inside = omega arith }

-- ---- `name_part`

-- no element of a head is a name
head_unnamed : (p : Option Prefix) (d : Dir) (e : ℕ) → if_normal (nth_back_of (prefix_part p e ++ dir_part d e) 0) ≡ None
unfolding nth_back_of nth_of
head_unnamed None Bare e = refl
head_unnamed None Root e = refl
head_unnamed None Implied e = refl
head_unnamed None Lone e = refl
head_unnamed (Some p) Bare e = refl
head_unnamed (Some p) Root e = refl
head_unnamed (Some p) Implied e = refl
head_unnamed (Some p) Lone e = refl

kind_named : (q : Kind) → is_normal (component_of q) ≡ is_name q
kind_named Dot = refl
kind_named DotDot = refl
kind_named Name = refl

module _ (k : Seps) (s : List ℕ) (h : Start) (o : OpenAt k s h) (p : Option Part) (f : LastAt (is_sep h.seps) (dots h.seps) s h.at (length s) p) where
  none_named : p ≡ None → NameAt k s None
  unfolding last_name list_to head_list
  none_named g = record { is = rw (whole_left k s h o, last_none f g, append-nil) (sym (head_unnamed h.prefix h.dir h.end)); spans = tt }

  -- `parent`
  pub parent_head : (r : View) → p ≡ None → r ≡ told refused_view (head_up h.dir 1) → ViewAt (parent_of k s) s r
  unfolding list_to
  parent_head r g e =
      let l : list_of k s ≡ head_list h = whole_left k s h o ∙ rw (last_none f g, append-nil) in
      parent_is k s r (rw (dot_same k s h o, l) (left_some k s h o 1 r (λ z. omega arith) e))

  module _ (q : Part) (g : p ≡ Some q) where
    the_last : nth_back_of (list_of k s) 0 ≡ Some (lift q)
    the_last = rw (whole_left k s h o) (back_last (list_to h s (length s)) (head_list h ++ within (is_sep h.seps) (dots h.seps) s h.at q.start) (lift q) (parted k s h o (length s) (within (is_sep h.seps) (dots h.seps) s h.at q.start) (lift q) (last_found f g).is))

    -- what stands before the last part is the rest after one step back
    base_rest : (r : ℕ) → CutAt (dotted h s) (list_to h s q.start) s r → rest_back k s 1 ≡ seen 0 r
    unfolding rest_back list_to
    base_rest r t =
        let w : List Element = within (is_sep h.seps) (dots h.seps) s h.at q.start in
        let l : list_of k s ≡ (head_list h ++ w) ++ (lift q ∷ []) = whole_left k s h o ∙ parted k s h o (length s) w (lift q) (last_found f g).is in
        cut_rest (list_of k s) 1 (dotted (start_of k s) s) ∙ rw (l, dot_same k s h o, t.is) (ap (seen 0) (cut_on (head_list h ++ w) (lift q) (dotted h s) 0))

    pub parent_part : (r : ℕ) → CutAt (dotted h s) (list_to h s q.start) s r → ViewAt (parent_of k s) s (seen 0 r)
    unfolding parent_of told guard
    parent_part r t = record { is = rw (the_last, kind_leaves q.kind, base_rest r t); inside = omega (arith, t.inside) }

    module _ (b : Bool) (n : b ≡ is_name q.kind) where
      is_named : b ≡ true → NameAt k s (Some q)
      unfolding last_name
      is_named y =
          let t = last_found f g in
          record { is = rw (the_last, kind_named q.kind, ← n, y); spans = (omega arith, omega arith, omega arith, t.room) }

      not_named : b ≡ false → NameAt k s None
      unfolding last_name
      not_named y = record { is = rw (the_last, kind_named q.kind, ← n, y); spans = tt }

      -- `base_len`
      pub base_name : (r : ℕ) → b ≡ true → CutAt (dotted h s) (list_to h s q.start) s r → BaseAt k s r
      base_name r y t =
          let e : last_name k s ≡ Some (lift q) = sym (is_named y).is in
          record { is = rw (e, base_rest r t); inside = t.inside }

      pub base_not : b ≡ false → BaseAt k s (length s)
      base_not y = let e : last_name k s ≡ None = sym (not_named y).is in record { is = rw e; inside = omega arith }

  pub base_none : p ≡ None → BaseAt k s (length s)
  base_none g = let e : last_name k s ≡ None = sym (none_named g).is in record { is = rw e; inside = omega arith }

-- `name_part`, by the body alone
module _ (k : Seps) (s : List ℕ) (w : Within) (o : BodyAt k s w) (p : Option Part) (f : LastAt (is_sep w.seps) (dots w.seps) s w.at (length s) p) where
  pub name_none : p ≡ None → NameAt k s None
  name_none g = none_named k s (start_of k s) (open_start k s) p (last_begun k s w o p f) g

  module _ (q : Part) (g : p ≡ Some q) (b : Bool) (n : b ≡ is_name q.kind) where
    pub name_is : b ≡ true → NameAt k s (Some q)
    name_is y = is_named k s (start_of k s) (open_start k s) p (last_begun k s w o p f) q g b n y

    pub name_not : b ≡ false → NameAt k s None
    name_not y = not_named k s (start_of k s) (open_start k s) p (last_begun k s w o p f) q g b n y

-- ---- `last_dot`

-- no byte of a list is a dot, from place i on
abbrev NoDot : List ℕ → ℕ → Type 0
NoDot w i = (k : ℕ) → i ≤ k → k < length w → get_or w k 0 ≡ 46 → ⊥

has_none : (w : List ℕ) → NoDot w 0 → has_dot w ≡ false
unfolding has_dot
has_none [] h = refl
has_none (x ∷ w) h = rw (ne_eqb x 46 (h 0 (omega arith) (omega arith)), has_none w (λ k l m. h (suc k) (omega arith) (omega arith)))

no_last : (w : List ℕ) → NoDot w 0 → last_dot w ≡ 0
unfolding last_dot
no_last [] h = refl
no_last (x ∷ w) h = rw (has_none w (λ k l m. h (suc k) (omega arith) (omega arith)))

dot_last : (w : List ℕ) (i : ℕ) → i < length w → get_or w i 0 ≡ 46 → NoDot w (i + 1) → (last_dot w ≡ i) × (has_dot w ≡ true)
unfolding last_dot has_dot
dot_last [] i g y h = absurd (omega arith)
dot_last (x ∷ w) zero g y h = (rw (has_none w (λ k l m. h (suc k) (omega arith) (omega arith))), rw (eq-eqb x 46 y))
dot_last (x ∷ w) (suc i) g y h =
    let r = dot_last w i (omega arith) y (λ k l m. h (suc k) (omega arith) (omega arith)) in
    (rw (r.1, r.0), split (eqb x 46) (λ e. rw e) (λ e. rw (e, r.1)))

-- what is found in the bytes from lo to hi, read from the back
module _ (s : List ℕ) (lo hi : ℕ) (l : lo ≤ hi) (c : hi ≤ length s) where
  abbrev bytes : List ℕ
  bytes = take (hi - lo) (drop lo s)

  pub dot_none : ((k : ℕ) → k < length bytes → get_or bytes k 0 ≡ 46 → ⊥) → DotAt s lo hi lo
  unfolding dot_in
  dot_none h = record { is = rw (no_last bytes (λ k z m. h k m)) (omega arith); low = omega arith; high = l; before = λ n. absurd (n refl) }

  pub dot_found : (i : ℕ) → i < length bytes → get_or bytes i 0 ≡ 46 → ((k : ℕ) → i + 1 ≤ k → k < length bytes → get_or bytes k 0 ≡ 46 → ⊥) → DotAt s lo hi (lo + i)
  unfolding dot_in
  dot_found i g y h =
      let n : length bytes ≡ hi - lo = length-take-le (hi - lo) (drop lo s) (omega (arith, length-drop lo s)) in
      record { is = rw (dot_last bytes i g y h).0; low = omega arith; high = omega (arith, n); before = λ z. omega (arith, n) }

-- ---- `stem_end`

module _ (s : List ℕ) (q : Part) (d : ℕ) (t : DotAt s q.start (q.start + q.len) d) where
  -- the dot's place in the name
  place : d ≡ q.start + last_dot (take q.len (drop q.start s))
  unfolding dot_in
  place = rw (← add-sub_cancel_left q.start q.len) t.is

  none : d ≡ q.start → last_dot (take q.len (drop q.start s)) ≡ 0
  none z = omega (arith, place)

  some : (d ≡ q.start → ⊥) → eqb (last_dot (take q.len (drop q.start s))) 0 ≡ false
  some z = ne_eqb (last_dot (take q.len (drop q.start s))) 0 (λ y. z (omega (arith, place)))

  pub stem_whole : d ≤ q.start → StemAt s q (q.start + q.len)
  unfolding stem_seen
  stem_whole z = record { is = rw (none (omega (arith, t.low)), add-sub_cancel_left); low = omega arith; high = omega arith }

  pub stem_dot : q.start < d → StemAt s q d
  unfolding stem_seen
  stem_dot z =
      let n : d - q.start ≡ last_dot (take q.len (drop q.start s)) = omega (arith, place) in
      record { is = rw (some (λ y. omega arith), n); low = t.low; high = t.high }

-- ---- the three views of a name

pub name_absent : (f : List ℕ → Element → Outcome View) (k : Seps) (s : List ℕ) (p : Option Part) (r : View) → NameAt k s p → p ≡ None → r ≡ refused_view Absent → ViewAt (of_name f k s) s r
unfolding of_name told
name_absent f k s p r a g e = record { is = e ∙ rw (← a.is, g); inside = rw e (omega arith) }

module _ (k : Seps) (s : List ℕ) (p : Option Part) (a : NameAt k s p) (q : Part) (g : p ≡ Some q) where
  the_name : last_name k s ≡ Some (lift q)
  the_name = sym a.is ∙ rw g

  of_name_lem : (f : List ℕ → Element → Outcome View) → of_name f k s ≡ f s (lift q)
  unfolding of_name
  of_name_lem f = rw the_name

  pub name_fits : Fits w64 (q.start + q.len)
  name_fits = let t = rw g at a.spans in record { fits = omega (arith, t) }

  pub name_ends : q.start + q.len ≤ length s
  name_ends = (rw g at a.spans).1

  pub name_seen : ViewAt (of_name whole_seen k s) s (seen q.start q.len)
  unfolding whole_seen told
  name_seen = record { is = rw (of_name_lem whole_seen); inside = name_ends }

  pub stem_is : (e : ℕ) → StemAt s q e → ViewAt (of_name stem_seen k s) s (seen q.start (e - q.start))
  unfolding told
  stem_is e t = record { is = rw (of_name_lem stem_seen, t.is); inside = omega (arith, t.low, t.high, name_ends) }

  module _ (d : ℕ) (t : DotAt s q.start (q.start + q.len) d) where
    pub dot_fits : Fits w64 (d + 1)
    dot_fits = let b = rw g at a.spans in record { fits = omega (arith, b) }

    pub extension_none : d ≡ q.start → (r : View) → r ≡ refused_view Absent → ViewAt (of_name extension_seen k s) s r
    unfolding extension_seen told guard
    extension_none z r e = record { is = e ∙ rw (of_name_lem extension_seen, none s q d t z); inside = rw e (omega arith) }

    module _ (z : d ≡ q.start → ⊥) where
      pub dot_before : d + 1 ≤ q.start + q.len
      dot_before = omega (arith, t.before z)

      pub extension_dot : ViewAt (of_name extension_seen k s) s (seen (d + 1) (q.start + q.len - (d + 1)))
      unfolding extension_seen told guard
      extension_dot =
          let n : q.start + q.len - (d + 1) ≡ q.len - (last_dot (take q.len (drop q.start s)) + 1) = omega (arith, place s q d t) in
          record { is = rw (of_name_lem extension_seen, some s q d t z, n) (rw (place s q d t)); inside = omega (arith, name_ends, dot_before) }

pub ruleset naming = (name_none, name_is, name_not, dot_none, dot_found, name_absent, name_fits, name_ends, name_seen, stem_is, stem_whole, extension_none, dot_before, dot_fits, stem_dot, extension_dot, base_name, base_not, base_none)

pub ruleset climbing = (back_inside, head_cut, before_none, before_fits, before_part, up_fixed, up_lone, up_long, up_fits, up_part, up_left, left_none, left_some, parent_head, parent_part, cut_opened, up_opened, ancestor_whole)
