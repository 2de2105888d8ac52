-- What a Unix join does to the lists of two paths, by the lists of values, and that it undoes a strip. `seamed Unix p q` is the join
-- of p and q (`joined_unix` of crate joins).
use Rattle.std.specs.Prelude.{ℕ, suc, ◌+◌, ◌-◌, ◌<◌, ◌≤◌, ◌≡◌, refl, List, [], ◌∷◌, ◌++◌, Bool, true, cond, length, get_or, take, drop, eqb, ltb}
use Rattle.std.proofs.Common.{add-zero, ◌∙◌, append_assoc, append-nil, ⊎_elim, drop_of_length-le, take-append-drop, take_all, get_or-take, get_or-drop, ne_eqb, lt-ltb, le-ltb, ltb-true, ltb-false}
use native.Mathlib.Omega.{arith}
use Rattle.std.proofs.Math.Path.{sym, ap}
use Rattle.std.proofs.Math.Bool.{false}
use Rattle.std.proofs.lemmas.Bool.{false≢true, not-false}
use Rattle.std.proofs.lemmas.List.{length-map}
use Rattle.std.proofs.Math.Seq.{split_at}
use Rattle.octets.specs.Class.{is_sep}
use Rattle.octets.specs.Laws.{split}
use Rattle.octets.specs.declared.Seps.TheVariants.{Unix}
use Rattle.answers.specs.declared.Reply.TheVariants.{Absent}
use Rattle.answers.specs.declared.View.{View}
use Rattle.answers.specs.Outcome.{refuse, give, guard}
use Rattle.parts.specs.declared.Component.{Component}
use Rattle.parts.specs.declared.Component.TheVariants.{Prefix, RootDir, CurDir, ParentDir, Normal}
use Rattle.parts.specs.declared.Element.{Element}
use Rattle.parts.specs.Elements.{nth_of, nth_back_of, start_or, end_or, bytes_at}
use Rattle.parts.specs.Laws.{Bodily, Goods, from_good}
use Rattle.components.specs.List.{sep_at, dot_at, dir_of, start_of, list_of}
use Rattle.cursors.specs.declared.Span.{Span}
use Rattle.cursors.specs.Rest.{span, view_of, left_end, empty_at, dotted, behind_dot, rest_of}
use Rattle.order.specs.Values.{Value, value_of, value_by, values_in, values_of}
use Rattle.order.specs.Order.{cmp_value}
use Rattle.order.proofs.Ordered.{each, value_exact}
use Rattle.matches.specs.Match.{starts_with, starts_of}
use Rattle.matches.specs.Strip.{strip_of}
use Rattle.joins.specs.Join.{joined}
use Rattle.joins.specs.Laws.{joined_unix}
use Rattle.seams.specs.Seam.{wants, glued, seamed}
use Rattle.seams.specs.Laws.{either, wants_last, starts_nil, glued_open, glued_shut, seamed_relative, seamed_empty, seamed_assoc}
use Rattle.order.specs.Leaves.{dir_values}
use Rattle.laws.specs.Values.{segments_none, body_of, parts_of, from_values, segments_trail, values_plain, values_seam, values_behind, values_drop, values_some, values_front, list_none, unix_from, unix_clear, unix_trail, unix_plain}

-- less a leading dot: without a first value that is a CurDir
unfoldable pub undotted : List Value → List Value
undotted [] = []
undotted (v ∷ l) = cond (eqb v.kind 3) l (v ∷ l)

-- no element of a Unix body is a CurDir
component_undotted : (s : List ℕ) (c : Component) (i n : ℕ) (l : List Value) → Bodily false c → undotted (value_by s c i n ∷ l) ≡ value_by s c i n ∷ l
unfolding undotted
component_undotted s (Prefix p) i n l b = absurd b
component_undotted s RootDir i n l b = absurd b
component_undotted s CurDir i n l b = absurd (false≢true b)
component_undotted s ParentDir i n l b = refl
component_undotted s Normal i n l b = refl

elements_undotted : (sep : ℕ → Bool) (s : List ℕ) (l : List Element) → Goods sep false s l → undotted (values_in s l) ≡ values_in s l
unfolding values_in Goods undotted
elements_undotted sep s [] g = refl
elements_undotted sep s (x ∷ l) g = component_undotted s x.component x.start x.len (values_in s l) g.0.bodily

segments_undotted : (q : List ℕ) → undotted (parts_of q) ≡ parts_of q
segments_undotted q = rw (from_values (is_sep Unix) false q 0) at (elements_undotted (is_sep Unix) q (body_of q 0) (from_good (is_sep Unix) false q 0))

relative_undotted : (q : List ℕ) → sep_at Unix q 0 ≡ false → undotted (values_of Unix q) ≡ parts_of q
unfolding dir_of dir_values undotted
relative_undotted q r = rw (values_plain q, r) (split (dot_at Unix q 0) (λ e. rw e) (λ e. rw e (segments_undotted q)))

-- p, a separator where it wants one, and q
ended_values : (p g : List ℕ) (y : ℕ) (q : List ℕ) → p ≡ g ++ (y ∷ []) → is_sep Unix y ≡ true → values_of Unix (p ++ q) ≡ values_of Unix p ++ parts_of q
ended_values p g y q e h = rw e (values_behind g y q h)

glued_values : (p q : List ℕ) → (length p ≡ 0 → ⊥) → values_of Unix (glued Unix p ++ q) ≡ values_of Unix p ++ parts_of q
glued_values p q h = ⊎_elim wanting ending (either (wants Unix p))
  where
    wanting : wants Unix p ≡ true → values_of Unix (glued Unix p ++ q) ≡ values_of Unix p ++ parts_of q
    wanting w = rw (glued_open Unix p w, append_assoc) (values_seam p 47 q h refl)

    ending : wants Unix p ≡ false → values_of Unix (glued Unix p ++ q) ≡ values_of Unix p ++ parts_of q
    ending w =
        let d : drop (suc (length p - 1)) p ≡ [] = drop_of_length-le p {i = suc (length p - 1)} (omega arith) in
        let e : p ≡ take (length p - 1) p ++ (get_or p (length p - 1) 0 ∷ []) = rw d at (split_at p (length p - 1) 0 (omega (arith, h))) in
        rw (glued_shut Unix p w) (ended_values p (take (length p - 1) p) (get_or p (length p - 1) 0) q e (not-false _ (wants_last Unix p _ h refl ∙ w)))

joined_segments : (p q : List ℕ) → (length p ≡ 0 → ⊥) → sep_at Unix q 0 ≡ false → values_of Unix (seamed Unix p q) ≡ values_of Unix p ++ parts_of q
joined_segments p q h r = rw (seamed_relative Unix p q r) (glued_values p q h)

-- a relative q joined to a nonempty p has p's components, then q's less a leading dot, by the lists of values
pub joined_values : (p q : List ℕ) → (length p ≡ 0 → ⊥) → sep_at Unix q 0 ≡ false
    → values_of Unix (seamed Unix p q) ≡ values_of Unix p ++ undotted (values_of Unix q)
joined_values p q h r = rw (relative_undotted q r) (joined_segments p q h r)

-- ---- what remains behind a base

-- the bytes of s between two places
abbrev pub spanned : List ℕ → Span → List ℕ
spanned s w = bytes_at s w.start (w.end - w.start)

-- "Strip: the rest after the base's components", where the base has f; no Unix path is dotted
abbrev pub remains : List ℕ → ℕ → List ℕ
remains s f = spanned s (rest_of false (list_of Unix s) f 0)

pub unix_undotted : (s : List ℕ) → dotted (start_of Unix s) s ≡ false
unfolding dotted start_of
unix_undotted s = refl

values_length : (s : List ℕ) → length (values_of Unix s) ≡ length (list_of Unix s)
unfolding values_of values_in
values_length s = length-map (list_of Unix s) (value_of s)

-- where element f starts, and where the last one ends
abbrev left : List ℕ → ℕ → ℕ
left s f = start_or (nth_of (list_of Unix s) f)

abbrev right : List ℕ → ℕ
right s = end_or (nth_back_of (list_of Unix s) 0)

module _ (s : List ℕ) (f : ℕ) where
  rest_none : length (list_of Unix s) ≤ f → remains s f ≡ []
  unfolding rest_of behind_dot
  rest_none h =
      let n : empty_at (list_of Unix s) f - empty_at (list_of Unix s) f ≡ 0 = omega arith in
      rw (le-ltb (f + 0) (length (list_of Unix s)) (omega arith), n)

  rest_some : f < length (list_of Unix s) → rest_of false (list_of Unix s) f 0 ≡ span (left_end (list_of Unix s) f) (right s)
  unfolding rest_of behind_dot
  rest_some h = rw (lt-ltb (f + 0) (length (list_of Unix s)) (omega arith))

  left_some : 0 < f → left_end (list_of Unix s) f ≡ left s f
  unfolding left_end
  left_some h = rw (ne_eqb f 0 (λ z. omega arith), unix_plain s) (split (eqb f 1) (λ e. rw e) (λ e. rw e))

-- with nothing taken: all up to the end of the last element
rest_all : (s : List ℕ) → 0 < length (list_of Unix s) → remains s 0 ≡ take (right s) s
unfolding left_end
rest_all s h =
    let n : right s - 0 ≡ right s = omega arith in
    rw (rest_some s 0 h, n)

start_clear : (s : List ℕ) (a n : ℕ) → is_sep Unix (get_or s a 0) ≡ false → 0 < n → sep_at Unix (bytes_at s a n) 0 ≡ false
unfolding sep_at
start_clear s a n e h =
    rw (get_or-take n (drop a s) 0 0 h, get_or-drop a s 0 0, add-zero)
    (split (ltb 0 (length (bytes_at s a n))) (λ f. rw f e) (λ f. rw f))

-- behind the first f elements, of which there is one at least, stands a relative path with the values that are left
module _ (s : List ℕ) (f : ℕ) (k : 0 < f) (l : f < length (list_of Unix s)) where
  rest_is : remains s f ≡ bytes_at s (left s f) (right s - left s f)
  rest_is = rw (rest_some s f l, left_some s f k)

  rest_relative : sep_at Unix (remains s f) 0 ≡ false
  rest_relative = rw rest_is (start_clear s (left s f) (right s - left s f) (unix_clear s f k l) (omega (arith, (unix_trail s f k l).low)))

  rest_values : parts_of (remains s f) ≡ drop f (values_of Unix s)
  unfolding values_of
  rest_values =
      rw rest_is (segments_trail (is_sep Unix) false s (left s f) (right s) (unix_trail s f k l)
      ∙ sym (from_values (is_sep Unix) false s (left s f))
      ∙ ap (values_in s) (sym (unix_from s f k l))
      ∙ sym (values_drop s f (list_of Unix s)))

-- the base is not empty
back_some : (s t : List ℕ) (f : ℕ) → take f (values_of Unix s) ≡ values_of Unix t → (length t ≡ 0 → ⊥) → 0 < f → values_of Unix (seamed Unix t (remains s f)) ≡ values_of Unix s
back_some s t f e n k = split (ltb f (length (list_of Unix s))) inner outer
  where
    inner : ltb f (length (list_of Unix s)) ≡ true → values_of Unix (seamed Unix t (remains s f)) ≡ values_of Unix s
    inner b =
        let l = ltb-true f (length (list_of Unix s)) b in
        rw (joined_segments t (remains s f) n (rest_relative s f k l), rest_values s f k l, ← e) (take-append-drop f (values_of Unix s))

    outer : ltb f (length (list_of Unix s)) ≡ false → values_of Unix (seamed Unix t (remains s f)) ≡ values_of Unix s
    outer b =
        let l = ltb-false f (length (list_of Unix s)) b in
        rw (rest_none s f l, joined_segments t [] n (starts_nil Unix), segments_none, append-nil, ← e) (take_all f (values_of Unix s) (omega (arith, values_length s)))

-- the base is empty
list_some : (s : List ℕ) → (length s ≡ 0 → ⊥) → 0 < length (list_of Unix s)
list_some s h = omega (arith, values_some s h, values_length s)

back_none : (s : List ℕ) → values_of Unix (remains s 0) ≡ values_of Unix s
back_none [] = rw (rest_none [] 0 (omega (arith, ap length list_none)))
back_none (x ∷ s) =
    let h : 0 < length (list_of Unix (x ∷ s)) = list_some (x ∷ s) (λ z. omega arith) in
    rw (rest_all (x ∷ s) h) (values_front (x ∷ s) h)

-- if a base can be stripped from a path, joining what remains back to it gives the path's own component list: the components of the
-- base t are the first of s
pub stripped_back : (s t : List ℕ) → take (length (list_of Unix t)) (values_of Unix s) ≡ values_of Unix t
    → values_of Unix (seamed Unix t (remains s (length (list_of Unix t)))) ≡ values_of Unix s
stripped_back s [] e = rw (seamed_empty, list_none) (back_none s)
stripped_back s (x ∷ t) e =
    let h : length (x ∷ t) ≡ 0 → ⊥ = λ z. omega arith in
    back_some s (x ∷ t) (length (list_of Unix (x ∷ t))) e h (list_some (x ∷ t) h)

-- ---- what `strip` answers

-- a list that starts with another has its values in front
starts_take : (l m : List Value) → starts_with l m ≡ true → take (length m) l ≡ m
unfolding starts_with
starts_take l [] e = refl
starts_take [] (v ∷ m) e = absurd (false≢true e)
starts_take (u ∷ l) (v ∷ m) e =
    each (cmp_value u v)
    (λ x. absurd (false≢true (rw x at e)))
    (λ x. rw (value_exact u v x, starts_take l m (rw x at e)))
    (λ x. absurd (false≢true (rw x at e)))

-- a path that starts with t has the components of t in front
pub base_values : (s t : List ℕ) → starts_of Unix s t ≡ true → take (length (list_of Unix t)) (values_of Unix s) ≡ values_of Unix t
unfolding starts_of
base_values s t e = rw (← values_length t) (starts_take (values_of Unix s) (values_of Unix t) e)

result_one : (u v : View) → give u ≡ give v → u ≡ v
result_one u v e = cc

-- the same sentence of what strip and join answer: v is the view of what remains of s behind t
pub strip_joins : (s t : List ℕ) (v : View) → strip_of Unix s t ≡ give v
    → values_of Unix (joined Unix t (bytes_at s v.start v.len)) ≡ values_of Unix s
unfolding strip_of guard
strip_joins s t v e =
    split (starts_of Unix s t)
    (λ b. let r : view_of (rest_of false (list_of Unix s) (length (list_of Unix t)) 0) ≡ v = result_one _ v (rw (b, unix_undotted s) at e) in
    rw (← r, joined_unix) (stripped_back s t (base_values s t b)))
    (λ b. let z : refuse Absent ≡ give v = rw b at e in let y : ◌≡◌ {A = ℕ} 0 1 = cc in absurd (omega arith))

-- ---- the first two clauses, of what join answers

-- joining to the empty path gives the second
pub join_empty : (q : List ℕ) → joined Unix [] q ≡ q
join_empty q = joined_unix [] q ∙ seamed_empty Unix q

-- p with (q with r) and (p with q) with r are the same bytes
pub join_grouping : (p q r : List ℕ) → joined Unix p (joined Unix q r) ≡ joined Unix (joined Unix p q) r
join_grouping p q r =
    joined_unix p (joined Unix q r)
    ∙ ap (λ (x : List ℕ). seamed Unix p x) (joined_unix q r)
    ∙ seamed_assoc Unix p q r
    ∙ sym (joined_unix (joined Unix p q) r ∙ ap (λ (x : List ℕ). seamed Unix x r) (joined_unix p q))

-- a relative q joined to a nonempty p has p's components, then q's less a leading dot
pub join_components : (p q : List ℕ) → (length p ≡ 0 → ⊥) → sep_at Unix q 0 ≡ false → values_of Unix (joined Unix p q) ≡ values_of Unix p ++ undotted (values_of Unix q)
join_components p q h e = rw (joined_unix p q) (joined_values p q h e)
