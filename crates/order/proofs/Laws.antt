-- Laws of the comparisons: one a way through each function, and what they rest on.
use Rattle.std.specs.Prelude.{ℕ, suc, ◌+◌, ◌-◌, ◌<◌, ◌≤◌, ◌≡◌, Bool, true, false, min, length, get_or, take, eqb, ltb, Option, Some, None, is_none}
use Rattle.std.specs.Cmp.{nat_cmp_is}
use Rattle.std.specs.Ordering.{nat_cmp, ordering_then}
use native.Mathlib.Omega.{arith}
use Rattle.std.proofs.Common.{add-one, ◌∙◌, ⊎_elim, inl, inr, length-drop, take-append-drop, take-suc, length-take-le, take-take, get_or-take, get_or-drop}
use Rattle.std.proofs.Math.Nat.{add-sub_cancel_left}
use Rattle.std.proofs.Math.Path.{refl, sym, ap}
use mathlib.Core.List.{List, [], ◌∷◌, ◌++◌, append-nil}
use Rattle.std.proofs.lemmas.Bool.{false≢true}
use Rattle.std.proofs.Math.ListN.{drop, drop_of_length-le}
use Rattle.std.proofs.Math.Seq.{drop-cons, take-length}
use Rattle.std.proofs.lemmas.List.{take-append-le, drop-append-le}
use borrow.Author.Tests.{ne_eqb, ltb-true, ltb-false}
use Rattle.octets.specs.Class.{is_sep}
use Rattle.octets.specs.Laws.{split}
use Rattle.octets.specs.declared.Seps.{Seps}
use Rattle.prefixes.specs.declared.Figures.{Figures}
use Rattle.prefixes.specs.declared.Prefix.{Prefix}
use Rattle.prefixes.specs.Prefix.{figures_of, parsed_figures}
use Rattle.prefixes.specs.Leaves.{NamesIn}
use Rattle.prefixes.specs.Laws.{names_within}
use Rattle.parts.specs.declared.Component.{Component}
use Rattle.parts.specs.declared.Component.TheVariants.{Prefix as Prefixed, RootDir, CurDir, ParentDir, Normal}
use Rattle.parts.specs.declared.Element.{Element}
use Rattle.parts.specs.declared.Kind.{Kind}
use Rattle.parts.specs.declared.Kind.TheVariants.{Dot as LoneDot, DotDot, Name}
use Rattle.parts.specs.declared.Part.{Part}
use Rattle.parts.specs.Body.{component_of, dots, from}
use Rattle.parts.specs.Elements.{bytes_at, Upto}
use Rattle.parts.specs.Steps.{is_name, lift, FirstAt, within}
use Rattle.parts.specs.Laws.{first_none, first_found, from_upto, Bodily, Goods, from_good, cut}
use Rattle.components.specs.declared.Dir.{Dir}
use Rattle.components.specs.declared.Dir.TheVariants.{Bare, Root, Implied, Dot}
use Rattle.components.specs.declared.Start.{Start}
use Rattle.components.specs.List.{start_of}
use Rattle.components.specs.Leaves.{OpenAt}
use Rattle.std.specs.declared.cmp.Ordering.{Ordering}
use Rattle.std.specs.declared.cmp.Ordering.TheVariants.{Less, Equal, Greater}
use Rattle.order.specs.declared.Heads.{Heads}
use Rattle.order.specs.declared.Heads.TheVariants.{Same, Apart, First, Second}
use Rattle.order.specs.Values.{valued, prefix_value, value_by, value_of, values_in, values_of}
use Rattle.order.specs.Order.{and_then, cmp_nat, lexical, cmp_bytes, cmp_value, cmp_values, compare_of}
use Rattle.order.proofs.Ordered.{itself, nat_ordered, value_ordered, nat_less, nat_more, nat_same, nat_by, lists_skip}
use Rattle.order.specs.Leaves.{Differ, cmp_from, rank_of, dir_rank, dir_values, head_values, body_values, is_nil, meet_then, meet, order_of, meet_lone, SeamAt, SkipAt}
use Rattle.order.proofs.HeadLaws.{values_append, kind_less, kind_more, cmp_meet, meet_skip, whole_same, whole_apart, whole_first_end, whole_first_more, whole_second_end, whole_second_more, head_values_lem}

-- what the library's `cmp` says of two numbers
nat_is : (a b : ℕ) → nat_cmp a b ≡ cmp_nat a b
nat_is a b = sym (nat_cmp_is a b (cmp_nat a b) (nat_by a b (λ h. rw (nat_less a b h) h) (λ h. rw (nat_same a b (omega arith) (omega arith)) h) (λ h. rw (nat_more a b h) h)))

-- where the first of two orders is not Equal, it is both
first_told : (o p : Ordering) → (o ≡ Equal → ⊥) → and_then o p ≡ o
first_told Less p n = refl
first_told Equal p n = absurd (n refl)
first_told Greater p n = refl

nat_told : (a b : ℕ) → (a ≡ b → ⊥) → cmp_nat a b ≡ Equal → ⊥
nat_told a b n e = nat_by a b (λ h. absurd (false≢true (cc (nat_less a b h, e)))) (λ h. n h) (λ h. absurd (false≢true (cc (nat_more a b h, e))))

-- below or not
ltb_or : {A : Type 0} (i n : ℕ) → (i < n → A) → (n ≤ i → A) → A
ltb_or i n f g = split (ltb i n) (λ e. f (ltb-true i n e)) (λ e. g (ltb-false i n e))

-- `mismatch`: e says that the two are the same up to i
module _ (a b : List ℕ) (i : ℕ) (e : take i a ≡ take i b) where
  module _ (h : i < min (length a) (length b)) where
    pub differ_here : (get_or a i 0 ≡ get_or b i 0 → ⊥) → Differ a b i
    differ_here f = record { first = omega arith; second = omega arith; same = e; apart = λ _ _. f }

    pub differ_more : get_or a i 0 ≡ get_or b i 0 → take (i + 1) a ≡ take (i + 1) b
    differ_more f = rw (add-one, take-suc a i 0 (omega arith), take-suc b i 0 (omega arith), e, f)

  pub differ_end : i ≡ min (length a) (length b) → Differ a b i
  differ_end g = record { first = omega arith; second = omega arith; same = e; apart = λ x y _. omega arith }

-- `cmp_bytes`
module _ (a b : List ℕ) (r : ℕ) (d : Differ a b r) where
  -- only what stands behind the common front counts
  bytes_from : cmp_bytes a b ≡ cmp_from a b r
  unfolding cmp_from
  bytes_from =
      ap (λ (x : List ℕ). cmp_bytes x b) (sym (take-append-drop r a))
      ∙ ap (cmp_bytes (take r a ++ drop r a)) (sym (take-append-drop r b))
      ∙ rw d.same (lists_skip nat_ordered (take r b) (drop r a) (drop r b))

  module _ (x : r < length a) where
    module _ (y : r < length b) where
      both : cmp_from a b r ≡ and_then (cmp_nat (get_or a r 0) (get_or b r 0)) (cmp_bytes (drop (suc r) a) (drop (suc r) b))
      unfolding cmp_from lexical
      both = rw (drop-cons a r 0 x, drop-cons b r 0 y)

      pub bytes_both : (o : Ordering) → o ≡ nat_cmp (get_or a r 0) (get_or b r 0) → o ≡ cmp_bytes a b
      bytes_both o e =
          e ∙ nat_is (get_or a r 0) (get_or b r 0)
          ∙ sym (bytes_from ∙ both ∙ first_told _ _ (nat_told (get_or a r 0) (get_or b r 0) (d.apart x y)))

  -- one of the two ends there: the shorter comes first
  pub bytes_ends : (o : Ordering) → (r < length a → r < length b → ⊥) → o ≡ nat_cmp (length a) (length b) → o ≡ cmp_bytes a b
  unfolding cmp_from lexical
  bytes_ends o n e =
      e ∙ nat_is (length a) (length b) ∙ sym (bytes_from ∙ nat_by (length a) (length b)
      (λ h. rw (ends_first (short h), drop-cons b r 0 (omega (arith, d.first, short h)), nat_less (length a) (length b) h))
      (λ h. rw (ends_first (even h), ends_second (omega (arith, even h)), nat_same (length a) (length b) (omega arith) (omega arith)))
      (λ h. rw (drop-cons a r 0 (omega (arith, d.second, long h)), ends_second (long h), nat_more (length a) (length b) h)))
    where
      ends_first : length a ≤ r → drop r a ≡ []
      ends_first h = drop_of_length-le a h

      ends_second : length b ≤ r → drop r b ≡ []
      ends_second h = drop_of_length-le b h

      short : length a < length b → length a ≤ r
      short h = ltb_or r (length a) (λ x. absurd (n x (omega arith))) (λ y. y)

      even : length a ≡ length b → length a ≤ r
      even h = ltb_or r (length a) (λ x. absurd (n x (omega arith))) (λ y. y)

      long : length b < length a → length b ≤ r
      long h = ltb_or r (length b) (λ x. absurd (n (omega arith) x)) (λ y. y)

pub ruleset strings = (differ_here, differ_more, differ_end, bytes_both, bytes_ends)

-- `cmp_name`: a part `&s[i..e]` is so told
pub name_is : (s : List ℕ) (i n : ℕ) (t : List ℕ) (j m : ℕ) (r : Ordering) → r ≡ cmp_bytes (take (i + n - i) (drop i s)) (take (j + m - j) (drop j t)) → r ≡ cmp_bytes (bytes_at s i n) (bytes_at t j m)
name_is s i n t j m r e = simp add-sub_cancel_left at e

-- `cmp_part`
then_none : (x : Ordering) → and_then x Equal ≡ x
then_none Less = refl
then_none Equal = refl
then_none Greater = refl

kind_rank : (s : List ℕ) (k : Kind) (i n : ℕ) → (value_by s (component_of k) i n).kind ≡ rank_of k
kind_rank s LoneDot i n = refl
kind_rank s DotDot i n = refl
kind_rank s Name i n = refl

ranks_one : (k h : Kind) → rank_of k ≡ rank_of h → k ≡ h
ranks_one LoneDot LoneDot e = refl
ranks_one LoneDot DotDot e = absurd (omega (arith, e))
ranks_one LoneDot Name e = absurd (omega (arith, e))
ranks_one DotDot LoneDot e = absurd (omega (arith, e))
ranks_one DotDot DotDot e = refl
ranks_one DotDot Name e = absurd (omega (arith, e))
ranks_one Name LoneDot e = absurd (omega (arith, e))
ranks_one Name DotDot e = absurd (omega (arith, e))
ranks_one Name Name e = refl

names_by : (s : List ℕ) (i n : ℕ) (t : List ℕ) (j m : ℕ) (k : Kind) → is_name k ≡ true → cmp_value (value_by s (component_of k) i n) (value_by t (component_of k) j m) ≡ cmp_bytes (bytes_at s i n) (bytes_at t j m)
unfolding cmp_value cmp_nat lexical
names_by s i n t j m LoneDot e = absurd (false≢true e)
names_by s i n t j m DotDot e = absurd (false≢true e)
names_by s i n t j m Name e = then_none _

nameless : (s : List ℕ) (i n : ℕ) (t : List ℕ) (j m : ℕ) (k : Kind) → is_name k ≡ false → cmp_value (value_by s (component_of k) i n) (value_by t (component_of k) j m) ≡ Equal
unfolding cmp_value cmp_nat lexical
nameless s i n t j m LoneDot e = refl
nameless s i n t j m DotDot e = refl
nameless s i n t j m Name e = absurd (false≢true (sym e))

module _ (s : List ℕ) (p : Part) (t : List ℕ) (q : Part) (a : ℕ) (x : a ≡ rank_of p.kind) (b : ℕ) (y : b ≡ rank_of q.kind) where
  abbrev parts_order : Ordering
  parts_order = cmp_value (value_of s (lift p)) (value_of t (lift q))

  module _ (o : Ordering) (e : o ≡ nat_cmp a b) where
    ranks : and_then (cmp_nat a b) (and_then (cmp_nat (value_of s (lift p)).prefix (value_of t (lift q)).prefix) (and_then (cmp_nat (value_of s (lift p)).letter (value_of t (lift q)).letter) (and_then (cmp_bytes (value_of s (lift p)).name (value_of t (lift q)).name) (cmp_bytes (value_of s (lift p)).share (value_of t (lift q)).share)))) ≡ parts_order
    unfolding cmp_value
    ranks = rw (kind_rank s p.kind p.start p.len, kind_rank t q.kind q.start q.len, ← x, ← y)

    pub part_apart : (o ≡ Equal → ⊥) → o ≡ parts_order
    part_apart n = sym (sym ranks ∙ rw (sym (nat_is a b), ← e) (first_told o _ n))

    module _ (z : o ≡ Equal) (c : Bool) (k : c ≡ is_name p.kind) where
      kinds : q.kind ≡ p.kind
      kinds = ranks_one q.kind p.kind (nat_by a b (λ h. absurd (nat_told a b (λ w. omega arith) (sym (nat_is a b) ∙ sym e ∙ z))) (λ h. omega arith) (λ h. absurd (nat_told a b (λ w. omega arith) (sym (nat_is a b) ∙ sym e ∙ z))))

      pub part_named : (r : Ordering) → c ≡ true → r ≡ cmp_bytes (bytes_at s p.start p.len) (bytes_at t q.start q.len) → r ≡ parts_order
      part_named r v w = w ∙ rw kinds (sym (names_by s p.start p.len t q.start q.len p.kind (sym k ∙ v)))

      pub part_equal : c ≡ false → o ≡ parts_order
      part_equal v = z ∙ rw kinds (sym (nameless s p.start p.len t q.start q.len p.kind (sym k ∙ v)))

-- `cmp_names`, `cmp_prefix`
both_then : (o p q : Ordering) → and_then (ordering_then o p) q ≡ and_then o (and_then p q)
both_then Less p q = refl
both_then Equal p q = refl
both_then Greater p q = refl

module _ (s : List ℕ) (a : Figures) (t : List ℕ) (b : Figures) where
  abbrev server : Ordering
  server = cmp_bytes (bytes_at s a.start1 a.len1) (bytes_at t b.start1 b.len1)

  abbrev sharing : Ordering
  sharing = cmp_bytes (bytes_at s a.start2 a.len2) (bytes_at t b.start2 b.len2)

  module _ (o : Ordering) (e : o ≡ server) where
    pub names_apart : (o ≡ Equal → ⊥) → o ≡ and_then server sharing
    names_apart n = sym (rw (← e) (first_told o sharing n))

    pub names_equal : (r : Ordering) → o ≡ Equal → r ≡ sharing → r ≡ and_then server sharing
    names_equal r f g = g ∙ rw (← e, f)

  abbrev prefixes_order : Ordering
  prefixes_order = cmp_value (prefix_value s a) (prefix_value t b)

  module _ (o : Ordering) (e : o ≡ ordering_then (nat_cmp a.kind b.kind) (nat_cmp a.letter b.letter)) where
    marks : prefixes_order ≡ and_then o (and_then server sharing)
    unfolding cmp_value
    marks = rw (e, nat_is a.kind b.kind, nat_is a.letter b.letter, nat_same 1 1 (omega arith) (omega arith)) (sym (both_then (cmp_nat a.kind b.kind) (cmp_nat a.letter b.letter) (and_then server sharing)))

    pub prefix_apart : (o ≡ Equal → ⊥) → o ≡ prefixes_order
    prefix_apart n = sym (marks ∙ first_told o _ n)

    pub prefix_equal : (r : Ordering) → o ≡ Equal → r ≡ and_then server sharing → r ≡ prefixes_order
    prefix_equal r f g = g ∙ sym (marks ∙ rw f)

pub ruleset values = (name_is, part_apart, part_named, part_equal, names_apart, names_equal, prefix_apart, prefix_equal)

-- `meet_dirs`: a and b are what `dir_rank` answered
one_meets : (c : ℕ) → meet (dir_values c) (dir_values c) ≡ Same
unfolding dir_values meet
one_meets c = split (eqb c 0) (λ e. rw e) (λ e. rw (e, itself value_ordered (valued c [])))

module _ (d e : Dir) (a b : ℕ) (f : a ≡ dir_rank d) (g : b ≡ dir_rank e) where
  abbrev dirs : Heads
  dirs = meet (dir_values (dir_rank d)) (dir_values (dir_rank e))

  pub dirs_same : a ≡ b → Same ≡ dirs
  dirs_same h = rw (← f, ← g, h) (sym (one_meets b))

  module _ (n : a ≡ b → ⊥) where
    pub dirs_second : a ≡ 0 → Second ≡ dirs
    unfolding dir_values meet
    dirs_second h = rw (← f, ← g, h, ne_eqb b 0 (λ z. n (h ∙ sym z)))

    pub dirs_first : b ≡ 0 → First ≡ dirs
    unfolding dir_values meet
    dirs_first h = rw (← f, ← g, h, ne_eqb a 0 (λ z. n (z ∙ sym h)))

    module _ (x : a ≡ 0 → ⊥) (y : b ≡ 0 → ⊥) where
      pub dirs_apart : (o : Ordering) → o ≡ nat_cmp a b → Apart o ≡ dirs
      unfolding dir_values meet
      dirs_apart o z =
          rw (← f, ← g, ne_eqb a 0 x, ne_eqb b 0 y) (nat_by a b
          (λ h. rw (z ∙ nat_is a b ∙ nat_less a b h, kind_less (valued a []) (valued b []) h))
          (λ h. absurd (n h))
          (λ h. rw (z ∙ nat_is a b ∙ nat_more a b h, kind_more (valued a []) (valued b []) h)))

-- `meet_prefixes`, `meet_heads`
apart_told : (m : Heads) (o : Ordering) → (o ≡ Equal → ⊥) → Apart o ≡ meet_then o m
apart_told m Less n = refl
apart_told m Equal n = absurd (n refl)
apart_told m Greater n = refl

module _ (s : List ℕ) (g : Start) (t : List ℕ) (h : Start) (a b : Figures) (x : a ≡ parsed_figures g.prefix) (y : b ≡ parsed_figures h.prefix) (o : Ordering) (e : o ≡ cmp_value (prefix_value s a) (prefix_value t b)) where
  abbrev both_prefixes : Heads
  both_prefixes =
      meet_then (cmp_value (prefix_value s (parsed_figures g.prefix)) (prefix_value t (parsed_figures h.prefix)))
      (meet (dir_values (dir_rank g.dir)) (dir_values (dir_rank h.dir)))

  pub prefixes_apart : (o ≡ Equal → ⊥) → Apart o ≡ both_prefixes
  prefixes_apart n = rw (← x, ← y, ← e) (apart_told _ o n)

  pub prefixes_same : (r : Heads) → o ≡ Equal → r ≡ meet (dir_values (dir_rank g.dir)) (dir_values (dir_rank h.dir)) → r ≡ both_prefixes
  prefixes_same r f z = z ∙ rw (← x, ← y, ← e, f)

rank_high : (d : Dir) → eqb (dir_rank d) 0 ≡ false → 1 < dir_rank d
rank_high Bare e = absurd (false≢true (sym e))
rank_high Root e = omega arith
rank_high Implied e = omega arith
rank_high Dot e = omega arith

module _ (s : List ℕ) (g : Start) (t : List ℕ) (h : Start) (r : Heads) where
  abbrev heads : Heads
  heads = meet (head_values s g) (head_values t h)

  pub heads_bare : g.prefix ≡ None → h.prefix ≡ None → r ≡ meet (dir_values (dir_rank g.dir)) (dir_values (dir_rank h.dir)) → r ≡ heads
  heads_bare x y e = e ∙ rw (head_values_lem s g, head_values_lem t h, x, y)

  pub heads_second : (p : Prefix) → g.prefix ≡ None → h.prefix ≡ Some p → r ≡ meet_lone (dir_rank g.dir) Second Greater → r ≡ heads
  unfolding meet dir_values
  heads_second p x y e =
      e ∙ rw (head_values_lem s g, head_values_lem t h, x, y)
      (split (eqb (dir_rank g.dir) 0)
      (λ z. rw z)
      (λ z. rw (z, kind_more (valued (dir_rank g.dir) []) (prefix_value t (figures_of p)) (rank_high g.dir z))))

  pub heads_first : (p : Prefix) → g.prefix ≡ Some p → h.prefix ≡ None → r ≡ meet_lone (dir_rank h.dir) First Less → r ≡ heads
  unfolding meet dir_values
  heads_first p x y e =
      e ∙ rw (head_values_lem s g, head_values_lem t h, x, y)
      (split (eqb (dir_rank h.dir) 0)
      (λ z. rw z)
      (λ z. rw (z, kind_less (prefix_value s (figures_of p)) (valued (dir_rank h.dir) []) (rank_high h.dir z))))

  pub heads_both : (p q : Prefix) → g.prefix ≡ Some p → h.prefix ≡ Some q
      → r ≡ meet_then (cmp_value (prefix_value s (parsed_figures g.prefix)) (prefix_value t (parsed_figures h.prefix))) (meet (dir_values (dir_rank g.dir)) (dir_values (dir_rank h.dir)))
      → r ≡ heads
  unfolding meet
  heads_both p q x y e = e ∙ rw (head_values_lem s g, head_values_lem t h, x, y)

-- the names of a path's prefix lie in it
pub names_here : (k : Seps) (s : List ℕ) (g : Start) → OpenAt k s g → NamesIn s (parsed_figures g.prefix)
unfolding start_of
names_here k s g o = rw o.is (names_within k s)

pub names_told : (s : List ℕ) (p : Option Prefix) (f : Figures) → f ≡ parsed_figures p → NamesIn s (parsed_figures p) → NamesIn s f
names_told s p f e n = rw e n

pub ruleset headings = (
  dirs_same,
  dirs_second,
  dirs_first,
  dirs_apart,
  prefixes_apart,
  prefixes_same,
  heads_bare,
  heads_second,
  heads_first,
  heads_both,
  names_here,
  names_told,
)

-- ---- bodies
-- what a step by `first` tells of the values
module _ (k : Seps) (s : List ℕ) (i : ℕ) (p : Option Part) (f : FirstAt (is_sep k) (dots k) s i p) where
  pub values_none : p ≡ None → body_values k s i ≡ []
  unfolding body_values values_in
  values_none e = rw (first_none f e)

  pub values_found : (m : Part) → p ≡ Some m → body_values k s i ≡ value_of s (lift m) ∷ body_values k s (m.start + m.len + 1)
  unfolding body_values values_in
  values_found m e = rw (first_found f e).is

-- `is_bare`
pub end_told : (k : Seps) (s : List ℕ) (i : ℕ) (p : Option Part) (b : Bool) → FirstAt (is_sep k) (dots k) s i p → b ≡ is_none p → b ≡ is_nil (body_values k s i)
end_told k s i None b f e = e ∙ rw (values_none k s i None f refl)
end_told k s i (Some m) b f e = e ∙ rw (values_found k s i (Some m) f m refl)

pub ruleset bodies = (end_told)

-- ---- what two bodies have in common
-- what ends before place j is told by the bytes before it
module _ (s : List ℕ) (j : ℕ) (l : j ≤ length s) where
  bytes_front : (i n : ℕ) → i + n ≤ j → bytes_at s i n ≡ bytes_at (take j s) i n
  bytes_front i n h =
      let m : length (take j s) ≡ j = length-take-le j s l in
      ap (λ (x : List ℕ). take n (drop i x)) (sym (take-append-drop j s))
      ∙ rw (drop-append-le i (take j s) (drop j s) (omega arith)) (take-append-le n (drop i (take j s)) (drop j s) (omega (arith, length-drop i (take j s))))

  value_front : (v : Bool) (c : Component) (i n : ℕ) → i + n ≤ j → Bodily v c → value_by s c i n ≡ value_by (take j s) c i n
  value_front v (Prefixed p) i n h e = absurd e
  value_front v RootDir i n h e = absurd e
  value_front v CurDir i n h e = refl
  value_front v ParentDir i n h e = refl
  value_front v Normal i n h e = rw (bytes_front i n h)

  values_front : (sep : ℕ → Bool) (v : Bool) (w : List ℕ) (m : List Element) → Upto j m → Goods sep v w m → values_in s m ≡ values_in (take j s) m
  unfolding values_in Upto Goods
  values_front sep v w [] u g = refl
  values_front sep v w (e ∷ m) u g = rw (value_front v e.component e.start e.len u.0 g.0.bodily, values_front sep v w m u.1 g.1)

-- `seam`
module _ (sep : ℕ → Bool) (s : List ℕ) (lo hi i : ℕ) where
  pub seam_here : (b : Bool) → b ≡ sep (get_or s (i - 1) 0) → b ≡ true → lo < i → i ≤ hi → SeamAt sep s lo hi i
  seam_here b t y l h = record { low = omega arith; edge = inr (l, h, sym t ∙ y) }

pub seam_found : (sep : ℕ → Bool) (s : List ℕ) (lo hi i : ℕ) → lo ≤ hi → hi ≤ length s → i < length (take (hi - lo) (drop lo s)) → sep (get_or (take (hi - lo) (drop lo s)) i 0) ≡ true → SeamAt sep s lo hi (lo + i + 1)
seam_found sep s lo hi i l c h y =
    let n : length (take (hi - lo) (drop lo s)) ≡ hi - lo = length-take-le (hi - lo) (drop lo s) (omega (arith, length-drop lo s)) in
    let m : i < hi - lo = omega arith in
    let z : lo + i + 1 - 1 ≡ lo + i = omega arith in
    record { low = omega arith; edge = inr (omega arith, omega arith, ap (λ x. sep (get_or s x 0)) z ∙ ap sep (sym (get_or-take (hi - lo) (drop lo s) i 0 m ∙ get_or-drop lo s i 0)) ∙ y) }

pub seam_none : (sep : ℕ → Bool) (s : List ℕ) (lo hi : ℕ) → SeamAt sep s lo hi lo
seam_none sep s lo hi = record { low = omega arith; edge = inl refl }

-- `skip`
-- a separator parts a body: what stands before it, and what behind
from_cut : (sep : ℕ → Bool) (v : Bool) (s : List ℕ) (i r : ℕ) → i < r → r ≤ length s → sep (get_or s (r - 1) 0) ≡ true → from sep v s i ≡ from sep v (take (r - 1) s) i ++ from sep v s r
unfolding within
from_cut sep v s i r a b e =
    let n : r - 1 + 1 ≡ r = omega arith in
    rw n at (rw (take-length s) at (cut sep v s i (r - 1) (length s) (omega arith) (omega arith) (omega arith) e))

-- two paths that are the same up to n have the same elements before a separator there
module _ (k : Seps) (s t : List ℕ) (i n r : ℕ) (d : Differ s t n) (x : i < r) (y : r ≤ n) (e : is_sep k (get_or s (r - 1) 0) ≡ true) where
  inside_first : r ≤ length s
  inside_first = omega (arith, d.first)

  inside_second : r ≤ length t
  inside_second = omega (arith, d.second)

  fronts : take (r - 1) s ≡ take (r - 1) t
  fronts = sym (take-take (r - 1) n s (omega arith)) ∙ ap (take (r - 1)) d.same ∙ take-take (r - 1) n t (omega arith)

  sep_too : is_sep k (get_or t (r - 1) 0) ≡ true
  sep_too =
      let g : get_or t (r - 1) 0 ≡ get_or s (r - 1) 0 = sym (get_or-take n t (r - 1) 0 (omega arith)) ∙ ap (λ (w : List ℕ). get_or w (r - 1) 0) (sym d.same) ∙ get_or-take n s (r - 1) 0 (omega arith) in
      rw g e

  abbrev shared : List Element
  shared = from (is_sep k) (dots k) (take (r - 1) s) i

  front_long : r - 1 ≤ length s
  front_long = omega (arith, inside_first)

  front_also : r - 1 ≤ length t
  front_also = omega (arith, inside_second)

  shared_upto : Upto (r - 1) shared
  shared_upto = rw (length-take-le (r - 1) s front_long) at (from_upto (is_sep k) (dots k) (take (r - 1) s) i (omega (arith, length-take-le (r - 1) s front_long)))

  shared_alike : values_in s shared ≡ values_in t shared
  shared_alike =
      let u = from_good (is_sep k) (dots k) (take (r - 1) s) i in
      values_front s (r - 1) front_long (is_sep k) (dots k) (take (r - 1) s) shared shared_upto u
      ∙ ap (λ (w : List ℕ). values_in w shared) fronts
      ∙ sym (values_front t (r - 1) front_also (is_sep k) (dots k) (take (r - 1) s) shared shared_upto u)

  skip_seam : SkipAt k s i k t i (r - i)
  skip_seam =
      let z : i + (r - i) ≡ r = omega arith in
      record {
        ahead = shared;
        first = rw z (from_cut (is_sep k) (dots k) s i r x inside_first e);
        second = rw (z, fronts) (from_cut (is_sep k) (dots k) t i r x inside_second sep_too);
        alike = shared_alike;
        inside = omega (arith, inside_first);
        within = omega (arith, inside_second);
      }

module _ (k : Seps) (s : List ℕ) (i : ℕ) (h : Seps) (t : List ℕ) (j : ℕ) (x : i ≤ length s) (y : j ≤ length t) where
  skip_empty : (n : ℕ) → n ≡ 0 → SkipAt k s i h t j n
  unfolding values_in
  skip_empty n z =
      let a : i + n ≡ i = omega arith in
      let b : j + n ≡ j = omega arith in
      record { ahead = []; first = rw a; second = rw b; alike = refl; inside = rw a x; within = rw b y }

  pub skip_none : SkipAt k s i h t j 0
  skip_none = skip_empty 0 refl

  pub skip_some : (n r : ℕ) → i ≡ j → k ≡ h → Differ s t n → SeamAt (is_sep k) s i n r → SkipAt k s i h t j (r - i)
  skip_some n r e q d m =
      ⊎_elim
      (λ (z : r ≡ i). skip_empty (r - i) (omega arith))
      (λ w. rw (← q, ← e) (skip_seam k s t i n r d w.0 w.1 w.2))
      m.edge

  module _ (n : ℕ) (m : SkipAt k s i h t j n) where
    values_first : body_values k s i ≡ values_in s m.ahead ++ body_values k s (i + n)
    unfolding body_values
    values_first = rw m.first (values_append s m.ahead (from (is_sep k) (dots k) s (i + n)))

    values_second : body_values h t j ≡ values_in s m.ahead ++ body_values h t (j + n)
    unfolding body_values
    values_second = rw m.second (values_append t m.ahead (from (is_sep h) (dots h) t (j + n)) ∙ rw m.alike)

    pub skip_meets : meet (body_values k s i) (body_values h t j) ≡ meet (body_values k s (i + n)) (body_values h t (j + n))
    skip_meets = rw (values_first, values_second) (meet_skip (values_in s m.ahead) (body_values k s (i + n)) (body_values h t (j + n)))

    -- `bodies`
    pub skip_order : (r : Ordering) → r ≡ cmp_values (body_values k s (i + n)) (body_values h t (j + n)) → r ≡ cmp_values (body_values k s i) (body_values h t j)
    skip_order r e = e ∙ cmp_meet (body_values k s (i + n)) (body_values h t (j + n)) ∙ sym (cmp_meet (body_values k s i) (body_values h t j) ∙ rw skip_meets)

pub ruleset skips = (seam_found, seam_none, skip_none, skip_some, skip_order)

-- `compare`: g and h are what `begin` told, m how they meet
module _ (k : Seps) (s t : List ℕ) (g h : Start) (o : OpenAt k s g) (q : OpenAt k t h) (m : Heads) (e : m ≡ meet (head_values s g) (head_values t h)) where
  by_meeting : (x : Heads) → meet (values_of k s) (values_of k t) ≡ x → order_of x ≡ compare_of k s t
  unfolding compare_of
  by_meeting x f = sym (cmp_meet (values_of k s) (values_of k t) ∙ rw f)

  pub compare_same : (r : Ordering) → m ≡ Same → r ≡ cmp_values (body_values g.seps s g.at) (body_values h.seps t h.at) → r ≡ compare_of k s t
  compare_same r f c = c ∙ cmp_meet _ _ ∙ by_meeting _ (whole_same k s g o t h q m e f)

  pub compare_apart : (x : Ordering) → m ≡ Apart x → x ≡ compare_of k s t
  compare_apart x f = by_meeting (Apart x) (whole_apart k s g o t h q m e x f)

  module _ (b : Bool) (f : m ≡ First) (z : b ≡ is_nil (body_values h.seps t h.at)) where
    pub compare_longer : b ≡ true → Greater ≡ compare_of k s t
    compare_longer y = by_meeting First (whole_first_end k s g o t h q m e b f z y)

    pub compare_before : b ≡ false → Less ≡ compare_of k s t
    compare_before y = by_meeting (Apart Less) (whole_first_more k s g o t h q m e b f z y)

  module _ (b : Bool) (f : m ≡ Second) (z : b ≡ is_nil (body_values g.seps s g.at)) where
    pub compare_shorter : b ≡ true → Less ≡ compare_of k s t
    compare_shorter y = by_meeting Second (whole_second_end k s g o t h q m e b f z y)

    pub compare_behind : b ≡ false → Greater ≡ compare_of k s t
    compare_behind y = by_meeting (Apart Greater) (whole_second_more k s g o t h q m e b f z y)

pub compare_equal : (k : Seps) (s t : List ℕ) (n : ℕ) → Differ s t n → n ≡ length s → n ≡ length t → Equal ≡ compare_of k s t
unfolding compare_of lexical
compare_equal k s t n d x y =
    let a : take n s ≡ s = rw x (take-length s) in
    let b : take n t ≡ t = rw y (take-length t) in
    let e : s ≡ t = sym a ∙ d.same ∙ b in
    rw e (sym (rw append-nil at (lists_skip value_ordered (values_of k t) [] [])))

pub ruleset orders = (compare_equal, compare_same, compare_apart, compare_longer, compare_before, compare_shorter, compare_behind)
