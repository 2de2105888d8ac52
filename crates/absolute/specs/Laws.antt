-- Laws of `absolute`: what the two walks count and write is what the definition says, and one law a way through each function.
use Rattle.std.specs.Prelude.{ℕ, zero, suc, ◌+◌, ◌-◌, ◌<◌, ◌≤◌, ◌≡◌, refl, List, [], ◌∷◌, ◌++◌, Bool, true, false, not, nat_eq, cond, get_or, take, drop, ltb, leb, Option, Some, None}
use borrow.Author.Tests.{eqb-true, eqb-false}
use Rattle.std.proofs.Common.{arith, sym, ap, ◌∙◌, append-nil, append_assoc, get_or-take, get_or-drop, eq-eqb, ne_eqb, lt-ltb, ltb-true, ltb-false, leb-true, leb-false}
use Rattle.std.proofs.Math.Nat.{add-sub_cancel_left, add-sub_of_le}
use Rattle.std.proofs.Math.Bool.{true, false}
use Rattle.std.proofs.lemmas.Bool.{false≢true}
use Rattle.std.proofs.Math.ListN.{length, length-append, length-drop}
use Rattle.std.proofs.Math.Seq.{length-take-le, get_or-append-add}
use Rattle.octets.specs.Class.{is_sep}
use Rattle.octets.specs.Segment.{end_of, EndAt}
use Rattle.octets.specs.Laws.{split, lead_short}
use Rattle.octets.specs.declared.Seps.TheVariants.{Unix}
use Rattle.answers.specs.declared.Reply.TheVariants.{Empty, Base, Room}
use Rattle.answers.specs.declared.View.{View}
use Rattle.answers.specs.Reply.{refused_view, seen}
use Rattle.answers.specs.Outcome.{give}
use Rattle.answers.specs.Written.{over, Wrote}
use Rattle.buffers.specs.Laws.{length_over, over_take, over_over, take_over, no_room, filled, Front, front_all, front_room, front_push, front_at, write_stops, write_goes}
use Rattle.parts.specs.Elements.{bytes_of}
use Rattle.parts.specs.declared.Component.{Component}
use Rattle.parts.specs.declared.Component.TheVariants.{Prefix, RootDir, CurDir, ParentDir, Normal}
use Rattle.parts.specs.declared.Element.{Element}
use Rattle.parts.specs.declared.Part.{Part}
use Rattle.parts.specs.Body.{sort_at, from}
use Rattle.parts.specs.Steps.{lift}
use Rattle.parts.specs.Laws.{from_is, from_skip, from_end, Bodily, Good, Goods, from_good}
use Rattle.components.specs.declared.Dir.{Dir}
use Rattle.components.specs.declared.Dir.TheVariants.{Bare as NoDir, Root, Implied, Dot}
use Rattle.components.specs.declared.Start.{Start}
use Rattle.components.specs.List.{sep_at, dir_of, start_of, dir_part, head_list, body_list, whole_of, list_of, is_absolute}
use Rattle.components.specs.Leaves.{OpenAt}
use Rattle.seams.specs.Seam.{wants, glued, seamed}
use Rattle.seams.specs.Laws.{glued_open, glued_shut, seamed_relative}
use Rattle.absolute.specs.Absolute.{two_slashes, start_for, left_out, one_by_one, ends, closed, finished, absolute_of}
use Rattle.absolute.specs.Leaves.{sep_if, tail_of, tail_from, TailLen, RoomAt}
use Rattle.parts.specs.declared.Kind.{Kind}

-- `ends_sep`, `two_slashes`
module _ (s : List ℕ) where
  pub ends_none : length s ≡ 0 → false ≡ ends s
  unfolding ends sep_at
  ends_none h = rw h

  pub ends_last : (b : Bool) → b ≡ sep_at Unix s (length s - 1) → b ≡ ends s
  unfolding ends
  ends_last b h = h

  module _ (a : Bool) (f : a ≡ sep_at Unix s 0) where
    pub two_none : a ≡ false → false ≡ two_slashes s
    unfolding two_slashes
    two_none h = rw (← f, h)

    module _ (h : a ≡ true) (b : Bool) (g : b ≡ sep_at Unix s 1) where
      pub two_one : b ≡ false → false ≡ two_slashes s
      unfolding two_slashes
      two_one k = rw (← f, h, ← g, k)

      pub two_third : b ≡ true → (c : Bool) → c ≡ sep_at Unix s 2 → not c ≡ two_slashes s
      unfolding two_slashes
      two_third k c e = rw (← f, h, ← g, k, ← e)

pub ruleset slashes = (ends_none, ends_last, two_none, two_one, two_third)

-- `put_gap`
module _ (o : Bool) (b : List ℕ) (n : ℕ) where
  pub gap_room : o ≡ true → n + length (sep_if o) ≤ length b → n < length b
  gap_room h l = let k : length (sep_if o) ≡ 1 = rw h in omega arith

  pub gap_one : o ≡ true → (r : ℕ) → r ≡ n + 1 → r ≡ n + length (sep_if o)
  gap_one h r e = e ∙ rw h

  pub gap_put : o ≡ true → (after : List ℕ) → after ≡ over (take n b ++ (47 ∷ [])) b → after ≡ over (take n b ++ sep_if o) b
  gap_put h after e = e ∙ rw h

  pub gap_no : o ≡ false → n ≡ n + length (sep_if o)
  gap_no h = rw h (omega arith)

  pub gap_left : o ≡ false → n + length (sep_if o) ≤ length b → b ≡ over (take n b ++ sep_if o) b
  gap_left h l = rw (h, append-nil) (over_take b n (omega arith))

pub ruleset gaps = (gap_room, gap_one, gap_put, gap_no, gap_left)

-- ---- the definition: what comes behind a start

glued_if : (t : List ℕ) → glued Unix t ≡ t ++ sep_if (wants Unix t)
glued_if t = split (wants Unix t) (λ e. rw e (glued_open Unix t e)) (λ e. rw (e, append-nil) (glued_shut Unix t e))

-- of a t that is not empty, `glued` asks what the sentence asks: whether it ends in a separator
pub wants_ends : (t : List ℕ) → (length t ≡ 0 → ⊥) → wants Unix t ≡ not (ends t)
unfolding wants ends sep_at
wants_ends t h = rw (ne_eqb (length t) 0 h, lt-ltb (length t - 1) (length t) (omega arith))

kept : (c : Component) → Bodily false c → left_out c ≡ false
kept (Prefix p) h = refl
kept RootDir h = absurd h
kept CurDir h = absurd (false≢true h)
kept ParentDir h = refl
kept Normal h = refl

-- a part of the body is joined to t
module _ (s t : List ℕ) (x : Element) (g : Good (is_sep Unix) false s x) where
  long : length (bytes_of s x) ≡ x.len
  long = length-take-le x.len (drop x.start s) (omega (arith, length-drop x.start s, g.inside))

  byte : (j : ℕ) → j < x.len → is_sep Unix (get_or (bytes_of s x) j 0) ≡ false
  byte j h = rw (get_or-take x.len (drop x.start s) j 0 h, get_or-drop x.start s j 0) (g.clear j h)

  not_rooted : sep_at Unix (bytes_of s x) 0 ≡ false
  unfolding sep_at
  not_rooted = rw (lt-ltb 0 (length (bytes_of s x)) (omega (arith, long, g.some))) (byte 0 g.some)

  wants_more : wants Unix (t ++ bytes_of s x) ≡ true
  unfolding wants
  wants_more =
      let l : length (t ++ bytes_of s x) ≡ length t + x.len = length-append t (bytes_of s x) ∙ rw long in
      let i : length (t ++ bytes_of s x) - 1 ≡ length t + (x.len - 1) = omega (arith, g.some) in
      rw (ne_eqb (length (t ++ bytes_of s x)) 0 (omega (arith, g.some)), i, get_or-append-add t (bytes_of s x) (x.len - 1) 0, byte (x.len - 1) (omega (arith, g.some)))

  joined_part : cond (left_out x.component) t (seamed Unix t (bytes_of s x)) ≡ t ++ sep_if (wants Unix t) ++ bytes_of s x
  joined_part = rw (kept x.component g.bodily) (seamed_relative Unix t (bytes_of s x) not_rooted ∙ rw glued_if)

tail_law : (s : List ℕ) (l : List Element) (t : List ℕ) → Goods (is_sep Unix) false s l → closed s (one_by_one s t l) ≡ t ++ tail_of s (wants Unix t) l
unfolding closed one_by_one tail_of Goods
tail_law s [] t u = split (ends s) (λ e. rw e (glued_if t)) (λ e. rw (e, append-nil))
tail_law s (x ∷ l) t u =
    rw (joined_part s t x u.0)
    (tail_law s l (t ++ sep_if (wants Unix t) ++ bytes_of s x) u.1 ∙ rw (wants_more s (t ++ sep_if (wants Unix t)) x u.0) (simp append_assoc))

-- step 2's element is left out
dir_left : (s t : List ℕ) (l : List Element) (d : Dir) → one_by_one s t (dir_part d 0 ++ l) ≡ one_by_one s t l
unfolding one_by_one
dir_left s t l NoDir = refl
dir_left s t l Root = refl
dir_left s t l Implied = refl
dir_left s t l Dot = refl

whole : (s : List ℕ) → list_of Unix s ≡ dir_part (dir_of Unix None s 0) 0 ++ from (is_sep Unix) false s (start_of Unix s).at
unfolding list_of whole_of head_list body_list start_of
whole s = refl

pub finished_is : (s t : List ℕ) (h : Start) → OpenAt Unix s h → finished s t ≡ t ++ tail_from s (wants Unix t) h.at
unfolding finished tail_from
finished_is s t h o =
    rw (whole s, dir_left s t (from (is_sep Unix) false s (start_of Unix s).at) (dir_of Unix None s 0))
    (tail_law s (from (is_sep Unix) false s (start_of Unix s).at) t (from_good (is_sep Unix) false s (start_of Unix s).at) ∙ rw o.is)

-- ---- the walks: what is to come of s, by what is left of its parts, l

pub gap_few : (o : Bool) → length (sep_if o) ≤ 1
gap_few true = omega arith
gap_few false = omega arith

module _ (s : List ℕ) (o : Bool) (l : List Element) where
  module _ (g : l ≡ []) (y : Bool) (e : y ≡ ends s) where
    tail_open : y ≡ true → tail_of s o l ≡ sep_if o
    unfolding tail_of
    tail_open k = rw (g, ← e, k)

    tail_shut : y ≡ false → tail_of s o l ≡ []
    unfolding tail_of
    tail_shut k = rw (g, ← e, k)

  tail_on : (x : Part) (m : List Element) → l ≡ lift x ∷ m → tail_of s o l ≡ sep_if o ++ (take x.len (drop x.start s) ++ tail_of s true m)
  unfolding tail_of
  tail_on x m g = rw g

  -- `tail_len`: e says what the loop has kept
  module _ (n at : ℕ) (b : Bool) (e : n + length (tail_of s o l) ≡ length (tail_from s b at)) where
    module _ (g : l ≡ []) (y : Bool) (h : y ≡ ends s) (c : n ≤ length s + 1) where
      pub len_open : (z : ℕ) → y ≡ true → z ≡ length (sep_if o) → TailLen s b at (n + z)
      len_open z k w = record { is = omega (arith, ap length (tail_open g y h k)); small = omega (arith, gap_few o) }

      pub len_shut : y ≡ false → TailLen s b at n
      len_shut k = record { is = omega (arith, ap length (tail_shut g y h k)); small = omega arith }

    pub len_on : (x : Part) (m : List Element) (z : ℕ) → l ≡ lift x ∷ m → x.start + x.len ≤ length s → z ≡ length (sep_if o) → n + z + x.len + length (tail_of s true m) ≡ length (tail_from s b at)
    len_on x m z g h w =
        let c : length (take x.len (drop x.start s)) ≡ x.len = length-take-le x.len (drop x.start s) (omega (arith, length-drop x.start s)) in
        omega (arith, simp length-append at (ap length (tail_on x m g)))

-- what the loop begins with
pub tail_start : (s : List ℕ) (b : Bool) (i : ℕ) (l : List Element) → l ≡ from (is_sep Unix) false s i → tail_of s b l ≡ tail_from s b i
unfolding tail_from
tail_start s b i l e = rw e refl

-- ---- what comes of s is no longer than s and two bytes
module _ (s : List ℕ) where
  end_at : (i : ℕ) → i ≤ length s → EndAt (is_sep Unix) s i (end_of (is_sep Unix) s i)
  unfolding end_of
  end_at i h = record { is = refl; low = omega arith; high = omega (arith, lead_short (is_sep Unix) (drop i s), length-drop i s) }

  none_few : (b : Bool) (i : ℕ) → length s ≤ i → length (tail_from s b i) ≤ length (sep_if b)
  unfolding tail_from tail_of
  none_few b i h = rw (from_end (is_sep Unix) false s i h) (split (ends s) (λ e. rw e (omega arith)) (λ e. rw e (omega arith)))

  segment_few : (i e : ℕ) (b : Bool) → EndAt (is_sep Unix) s i e → ((c : Bool) → length (tail_from s c (e + 1)) ≤ length (sep_if c) + (length s + 1 - (e + 1))) → (q : Option Kind) → sort_at false s i e ≡ q → length (tail_from s b i) ≤ length (sep_if b) + (length s + 1 - i)
  unfolding tail_from tail_of
  segment_few i e b a f None g = rw (from_skip (is_sep Unix) false s i e a g) (omega (arith, f b, a.low))
  segment_few i e b a f (Some q) g =
      let c : length (take (e - i) (drop i s)) ≡ e - i = length-take-le (e - i) (drop i s) (omega (arith, length-drop i s, a.high)) in
      rw (from_is (is_sep Unix) false s i e q a g, add-sub_of_le a.low) (simp length-append (omega (arith, c, f true, a.low, a.high)))

  few_by : (n i : ℕ) (b : Bool) → length s + 1 - i ≤ n → length (tail_from s b i) ≤ length (sep_if b) + (length s + 1 - i)
  few_by zero i b h = omega (arith, none_few b i (omega arith))
  few_by (suc n) i b h =
      split (ltb (length s) i)
      (λ t. let z = ltb-true (length s) i t in omega (arith, none_few b i (omega arith)))
      (λ t.
      let a = end_at i (ltb-false (length s) i t) in
      segment_few i (end_of (is_sep Unix) s i) b a (λ c. few_by n (end_of (is_sep Unix) s i + 1) c (omega (arith, a.low))) (sort_at false s i (end_of (is_sep Unix) s i)) refl)

  pub tail_few : (b : Bool) (i : ℕ) → length (tail_from s b i) ≤ length s + 2
  tail_few b i = omega (arith, few_by (length s + 1 - i) i b (omega arith), gap_few b)

-- `has_room`
module _ (s : List ℕ) (b : Bool) (i m n : ℕ) where
  pub room_much : m + length s + 2 ≤ n → RoomAt s b i m n true
  room_much h = record { enough = λ e. omega (arith, tail_few s b i); short = λ e. absurd (false≢true (sym e)) }

  pub room_counted : (k : ℕ) → TailLen s b i k → RoomAt s b i m n (leb (m + k) n)
  room_counted k l =
      record {
        enough = λ e. omega (arith, l.is, leb-true (m + k) n e);
        short = λ e. omega (arith, l.is, leb-false (m + k) n e);
      }

pub ruleset lens = (room_much, room_counted, len_open, len_shut, len_on, tail_start, gap_few)

-- `write_tail`: what the loop begins with
pub front_start : (s b : List ℕ) (o : Bool) (i n : ℕ) (l : List Element) → l ≡ from (is_sep Unix) false s i → n + length (tail_from s o i) ≤ length b → Front (take n b ++ tail_from s o i) b (tail_of s o l) n b
front_start s b o i n l e h = rw (tail_start s o i l e) (front_at b (tail_from s o i) n h)

-- f says what the loop has kept
module _ (w b s : List ℕ) (l : List Element) (o : Bool) (n : ℕ) (out : List ℕ) (f : Front w b (tail_of s o l) n out) where
  module _ (x : Part) (m : List Element) (h : l ≡ lift x ∷ m) where
    gap_next : Front w b (sep_if o ++ (take x.len (drop x.start s) ++ tail_of s true m)) n out
    gap_next = rw (tail_on s o l x m h) at f

    pub on_gap : n + length (sep_if o) ≤ length out
    on_gap = front_room (sep_if o) (take x.len (drop x.start s) ++ tail_of s true m) gap_next

    module _ (p : ℕ) (one : List ℕ) (i : p ≡ n + length (sep_if o)) (q : one ≡ over (take n out ++ sep_if o) out) where
      part_next : Front w b (take (x.start + x.len - x.start) (drop x.start s) ++ tail_of s true m) p one
      part_next = rw (add-sub_cancel_left x.start x.len) (front_push (sep_if o) (take x.len (drop x.start s) ++ tail_of s true m) gap_next q i)

      pub on_room : p + length (take (x.start + x.len - x.start) (drop x.start s)) ≤ length one
      on_room = front_room (take (x.start + x.len - x.start) (drop x.start s)) (tail_of s true m) part_next

      pub on_put : (k : ℕ) (after : List ℕ) → k ≡ p + length (take (x.start + x.len - x.start) (drop x.start s)) → after ≡ over (take p one ++ take (x.start + x.len - x.start) (drop x.start s)) one → Front w b (tail_of s true m) k after
      on_put k after c e = front_push (take (x.start + x.len - x.start) (drop x.start s)) (tail_of s true m) part_next e c

  module _ (h : l ≡ []) (y : Bool) (e : y ≡ ends s) where
    pub end_shut : y ≡ false → out ≡ over w b
    end_shut k = front_all (rw (tail_shut s o l h y e k) at f)

    module _ (k : y ≡ true) where
      gap_last : Front w b (sep_if o ++ []) n out
      gap_last = rw append-nil (rw (tail_open s o l h y e k) at f)

      pub end_room : n + length (sep_if o) ≤ length out
      end_room = front_room (sep_if o) [] gap_last

      pub end_put : (m : ℕ) (after : List ℕ) → m ≡ n + length (sep_if o) → after ≡ over (take n out ++ sep_if o) out → after ≡ over w b
      end_put m after p q = front_all (front_push (sep_if o) [] gap_last q p)

-- the place behind all that is to come
module _ (b t s : List ℕ) (j : ℕ) (l : List Element) (o : Bool) (n : ℕ) (out : List ℕ) (f : Front (take j b ++ t) b (tail_of s o l) n out) (c : j + length t ≤ length b) (h : l ≡ []) (y : Bool) (e : y ≡ ends s) where
  all : (m : ℕ) (after : List ℕ) → Front (take j b ++ t) b [] m after → m ≡ j + length t
  all m after u = omega (arith, u.within, length-drop m (take j b ++ t), ap length u.to_come, length-append (take j b) t, length-take-le j b (omega arith))

  pub stop_shut : y ≡ false → n ≡ j + length t
  stop_shut k = all n out (rw (tail_shut s o l h y e k) at f)

  pub stop_open : (m : ℕ) (after : List ℕ) → y ≡ true → after ≡ over (take n out ++ sep_if o) out → m ≡ n + length (sep_if o) → m ≡ j + length t
  stop_open m after k q p = all m after (front_push (sep_if o) [] (rw append-nil (rw (tail_open s o l h y e k) at f)) q p)

pub front_long : (w b rest : List ℕ) (n : ℕ) (out : List ℕ) → Front w b rest n out → length out ≡ length b
front_long w b rest n out f = f.long

pub ruleset writes = (front_start, on_gap, on_room, on_put, end_shut, end_room, end_put, stop_shut, stop_open, front_long)

-- ---- `finish`
module _ (s t : List ℕ) (h : Start) (p : OpenAt Unix s h) (o : Bool) (q : o ≡ wants Unix t) (b : List ℕ) (x : Bool) (l : RoomAt s o h.at (length t) (length b) x) where
  finish_is : finished s t ≡ t ++ tail_from s o h.at
  finish_is = finished_is s t h p ∙ rw q

  finish_long : length (finished s t) ≡ length t + length (tail_from s o h.at)
  finish_long = ap length finish_is ∙ length-append t (tail_from s o h.at)

  pub finish_room : (a : View) → x ≡ false → a ≡ refused_view Room → Wrote (give (finished s t)) a b b
  finish_room a y e = rw e (no_room (omega (arith, finish_long, l.short y)))

  pub finish_done : (n : ℕ) (one two : List ℕ) → x ≡ true → one ≡ over t b → n ≡ length t + length (tail_from s o h.at) → two ≡ over (take (length t) one ++ tail_from s o h.at) one → Wrote (give (finished s t)) (seen 0 n) b two
  finish_done n one two y e c f = filled (omega (arith, finish_long, l.enough y)) (c ∙ sym finish_long) (f ∙ rw (finish_is, e, take_over t b (length t) refl, over_over t (tail_from s o h.at) b))

module _ (s t : List ℕ) (o : Bool) (i : ℕ) (b : List ℕ) (x : Bool) (l : RoomAt s o i (length t) (length b) x) (y : x ≡ true) where
  pub finish_copy : length t ≤ length b
  finish_copy = omega (arith, l.enough y)

  pub finish_fits : (one : List ℕ) → one ≡ over t b → length t + length (tail_from s o i) ≤ length one
  finish_fits one e = rw (e, length_over t b finish_copy) (l.enough y)

pub ruleset finishes = (finish_room, finish_done, finish_copy, finish_fits)

-- ---- `absolute`
module _ (s cwd : List ℕ) (a : View) (b : List ℕ) where
  pub abs_empty : length s ≡ 0 → a ≡ refused_view Empty → Wrote (absolute_of s cwd) a b b
  unfolding absolute_of
  abs_empty h e = write_stops Empty _ a (eq-eqb (length s) 0 h) e

  module _ (n : length s ≡ 0 → ⊥) (x : Bool) (d : x ≡ is_absolute Unix s) (y : Bool) (after : List ℕ) where
    pub abs_two : x ≡ true → y ≡ two_slashes s → y ≡ true → Wrote (give (finished s (47 ∷ 47 ∷ []))) a b after → Wrote (absolute_of s cwd) a b after
    unfolding absolute_of start_for
    abs_two h k l w = write_goes Empty _ a (ne_eqb (length s) 0 n) (write_goes Base _ a (rw (← d, h)) (rw (← d, h, ← k, l) w))

    pub abs_one : x ≡ true → y ≡ two_slashes s → y ≡ false → Wrote (give (finished s (47 ∷ []))) a b after → Wrote (absolute_of s cwd) a b after
    unfolding absolute_of start_for
    abs_one h k l w = write_goes Empty _ a (ne_eqb (length s) 0 n) (write_goes Base _ a (rw (← d, h)) (rw (← d, h, ← k, l) w))

    pub abs_cwd : x ≡ false → y ≡ sep_at Unix cwd 0 → y ≡ true → Wrote (give (finished s cwd)) a b after → Wrote (absolute_of s cwd) a b after
    unfolding absolute_of start_for
    abs_cwd h k l w = write_goes Empty _ a (ne_eqb (length s) 0 n) (write_goes Base _ a (rw (← d, h, ← k, l)) (rw (← d, h) w))

  pub abs_base : (x y : Bool) → (length s ≡ 0 → ⊥) → x ≡ is_absolute Unix s → x ≡ false → y ≡ sep_at Unix cwd 0 → y ≡ false → a ≡ refused_view Base → Wrote (absolute_of s cwd) a b b
  unfolding absolute_of start_for
  abs_base x y n d h k l e = write_goes Empty _ a (ne_eqb (length s) 0 n) (write_stops Base _ a (rw (← d, h, ← k, l)) e)

-- what `is_empty` answered
pub empty_yes : (n : ℕ) (b : Bool) → b ≡ nat_eq n 0 → b ≡ true → n ≡ 0
empty_yes n b e y = eqb-true n 0 (sym e ∙ y)

pub empty_not : (n : ℕ) (b : Bool) → b ≡ nat_eq n 0 → b ≡ false → n ≡ 0 → ⊥
empty_not n b e y z = eqb-false n 0 (sym e ∙ y) z

pub ruleset replies = (empty_yes, empty_not, abs_empty, abs_two, abs_one, abs_cwd, abs_base)

-- "The current directory's content is looked at only for a relative path": for an absolute one any other gives the same
pub content_unread : (s c d : List ℕ) → is_absolute Unix s ≡ true → absolute_of s c ≡ absolute_of s d
unfolding absolute_of start_for
content_unread s c d h = rw h
