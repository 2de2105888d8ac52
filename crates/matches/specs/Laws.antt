-- Laws of starts, ends and strip: one a way through each function, and what they rest on.
use Rattle.std.specs.Prelude.{ℕ, suc, ◌+◌, ◌≤◌, Bool, drop, eqb, Option, Some, None}
use native.Mathlib.Omega.{arith}
use Rattle.std.proofs.Math.Path.{◌≡◌, refl, sym, ap}
use Rattle.std.proofs.Common.{◌∙◌}
use mathlib.Core.List.{List, [], ◌∷◌, ◌++◌, append-nil}
use Rattle.std.proofs.Math.Bool.{true, false, false≢true}
use Rattle.std.proofs.Math.ListN.{length, length-append}
use Rattle.std.proofs.lemmas.List.{length-map}
use Rattle.std.proofs.Math.Seq.{drop-append-add}
use borrow.Author.Tests.{ne_eqb, eqb-true}
use Rattle.octets.specs.Class.{is_sep}
use Rattle.octets.specs.Laws.{split}
use Rattle.octets.specs.declared.Seps.{Seps}
use Rattle.prefixes.specs.declared.Prefix.{Prefix}
use Rattle.prefixes.specs.Prefix.{figures_of, parsed_figures}
use Rattle.parts.specs.declared.Component.{Component}
use Rattle.parts.specs.declared.Component.TheVariants.{Prefix as Prefixed, RootDir, CurDir, ParentDir, Normal}
use Rattle.parts.specs.declared.Element.{Element}
use Rattle.parts.specs.Body.{dots, from}
use Rattle.parts.specs.Elements.{nth_of}
use Rattle.components.specs.declared.Dir.{Dir}
use Rattle.components.specs.declared.Dir.TheVariants.{Bare, Root, Implied, Dot}
use Rattle.components.specs.declared.Start.{Start}
use Rattle.components.specs.List.{head_list, body_list, whole_of, list_of}
use Rattle.components.specs.Leaves.{OpenAt}
use Rattle.components.specs.Laws.{whole_list}
use Rattle.cursors.specs.Rest.{prefix_kind, is_prefix, left_end, empty_at}
use Rattle.std.specs.declared.cmp.Ordering.{Ordering}
use Rattle.std.specs.declared.cmp.Ordering.TheVariants.{Less, Equal, Greater}
use Rattle.order.specs.declared.Heads.{Heads}
use Rattle.order.specs.declared.Heads.TheVariants.{Same, Apart, First, Second}
use Rattle.order.specs.Values.{Value, valued, prefix_value, value_of, values_in, values_of}
use Rattle.order.specs.Order.{cmp_value}
use Rattle.order.proofs.Ordered.{each}
use Rattle.order.specs.Leaves.{dir_rank, dir_values, head_values, body_values, is_nil, meet_then, meet, meet_lone, SkipAt}
use Rattle.order.proofs.HeadLaws.{values_whole, body_kind, head_values_lem, no_head, whole_same, whole_apart, whole_first_end, whole_first_more, whole_second_end, whole_second_more}
use Rattle.order.specs.Leaves.{lead_kind, prefix_values}
use Rattle.order.proofs.Laws.{heads_bare, heads_second, heads_first, heads_both, skip_meets}
use Rattle.matches.specs.declared.After.{After}
use Rattle.matches.specs.declared.After.TheVariants.{Off, Head, Body}
use Rattle.matches.specs.Match.{starts_with, starts_of}
use Rattle.matches.specs.Leaves.{is_base, starts_body, left_body, Behind, BehindAt, lonely, head_start, AtHead, InBody, AfterAt}

pub bad : {A : Type 0} → ◌≡◌ {A = ℕ} 0 1 → A
bad z = absurd (omega arith)

-- a list starts with another, by how the two meet
starts_meet : (l m : List Value) → starts_with l m ≡ is_base (meet l m)
unfolding starts_with meet
starts_meet [] [] = refl
starts_meet [] (v ∷ m) = refl
starts_meet (u ∷ l) [] = refl
starts_meet (u ∷ l) (v ∷ m) = each (cmp_value u v) (λ x. rw x) (λ x. rw x (starts_meet l m)) (λ x. rw x)

-- `follow_bodies`
module _ (k : Seps) (s : List ℕ) (i : ℕ) (h : Seps) (t : List ℕ) (j : ℕ) (x : i ≤ length s) (y : j ≤ length t) (n : ℕ) (m : SkipAt k s i h t j n) where
  skip_starts : starts_body k s i h t j ≡ starts_body k s (i + n) h t (j + n)
  unfolding starts_body
  skip_starts = starts_meet _ _ ∙ rw (skip_meets k s i h t j x y n m) (sym (starts_meet (body_values k s (i + n)) (body_values h t (j + n))))

  skip_left : left_body k s i h t j ≡ left_body k s (i + n) h t (j + n)
  unfolding left_body
  skip_left = rw (m.first, m.second, length-append m.ahead (from (is_sep h) (dots h) t (j + n))) (drop-append-add m.ahead _ _)

  pub skip_behind : (r : After) → BehindAt k s (i + n) h t (j + n) r → BehindAt k s i h t j r
  skip_behind Off b = record { says = skip_starts ∙ b.says }
  skip_behind (Head z) b = absurd b.says
  skip_behind (Body z) b = record { says = record { starts = skip_starts ∙ b.says.starts; left = skip_left ∙ b.says.left } }

pub ruleset pieces = (skip_behind)

-- ---- heads
pub by_prefix : {A : Type 0} (p : Option Prefix) → (p ≡ None → A) → ((x : Prefix) → p ≡ Some x → A) → A
by_prefix None f g = f refl
by_prefix (Some x) f g = g x refl

-- lists that meet so: how long they are
meet_long : (l m : List Value) → meet l m ≡ Same → length l ≡ length m
unfolding meet
meet_long [] [] e = refl
meet_long [] (v ∷ m) e = bad (cc)
meet_long (u ∷ l) [] e = bad (cc)
meet_long (u ∷ l) (v ∷ m) e = each (cmp_value u v) (λ x. bad (cc)) (λ x. ap suc (meet_long l m (rw x at e))) (λ x. bad (cc))

dirs_first : (a b : ℕ) → meet (dir_values a) (dir_values b) ≡ First → b ≡ 0
unfolding dir_values meet
dirs_first a b e =
    split (eqb b 0)
    (λ x. eqb-true b 0 x)
    (λ x. split (eqb a 0)
    (λ y. bad (let z : Second ≡ First = rw (x, y) at e in cc))
    (λ y. let z : meet_then (cmp_value (valued a []) (valued b [])) Same ≡ First = rw (x, y) at e in each (cmp_value (valued a []) (valued b [])) (λ w. bad (cc)) (λ w. bad (cc)) (λ w. bad (cc))))

then_first : (o : Ordering) (m : Heads) → meet_then o m ≡ First → m ≡ First
then_first Less m e = bad (cc)
then_first Equal m e = e
then_first Greater m e = bad (cc)

-- a length of values is one of elements
pub values_long : (k : Seps) (s : List ℕ) → length (list_of k s) ≡ length (values_of k s)
unfolding values_of values_in
values_long k s = sym (length-map (list_of k s) (value_of s))

head_long : (s : List ℕ) (g : Start) → length (head_list g) ≡ length (head_values s g)
unfolding head_values values_in
head_long s g = sym (length-map (head_list g) (value_of s))

body_long : (k : Seps) (s : List ℕ) (i : ℕ) → length (from (is_sep k) (dots k) s i) ≡ length (body_values k s i)
unfolding body_values values_in
body_long k s i = sym (length-map (from (is_sep k) (dots k) s i) (value_of s))

-- two heads that meet as m says
module _ (s : List ℕ) (g : Start) (t : List ℕ) (h : Start) (m : Heads) (e : m ≡ meet (head_values s g) (head_values t h)) where
  -- where the second has a prefix, the first has one too, unless it comes behind or is used up
  prefix_too : {A : Type 0} (q : Prefix) → h.prefix ≡ Some q → (m ≡ Second → ⊥) → ((o : Ordering) → m ≡ Apart o → ⊥) → ((p : Prefix) → g.prefix ≡ Some p → A) → A
  prefix_too q y a b f =
      by_prefix g.prefix
      (λ x. let z : m ≡ meet_lone (dir_rank g.dir) Second Greater = e ∙ sym (heads_second s g t h _ q x y refl) in
      split (eqb (dir_rank g.dir) 0) (λ w. absurd (a (z ∙ rw w))) (λ w. absurd (b Greater (z ∙ rw w))))
      f

  -- alike, they have both a prefix or none
  same_none : h.prefix ≡ None → m ≡ Same → g.prefix ≡ None
  same_none y z =
      by_prefix g.prefix (λ x. x)
      (λ p x. let w : m ≡ meet_lone (dir_rank h.dir) First Less = e ∙ sym (heads_first s g t h _ p x y refl) in
      split (eqb (dir_rank h.dir) 0) (λ v. bad (let u : First ≡ Same = sym (w ∙ rw v) ∙ z in cc)) (λ v. bad (let u : Apart Less ≡ Same = sym (w ∙ rw v) ∙ z in cc)))

  -- where the first goes on, the second has nothing behind its prefix
  first_bare : m ≡ First → dir_rank h.dir ≡ 0
  first_bare f =
      by_prefix h.prefix
      (λ y. by_prefix g.prefix
      (λ x. dirs_first (dir_rank g.dir) (dir_rank h.dir) (heads_bare s g t h _ x y refl ∙ sym e ∙ f))
      (λ p x. let w : m ≡ meet_lone (dir_rank h.dir) First Less = e ∙ sym (heads_first s g t h _ p x y refl) in
      split (eqb (dir_rank h.dir) 0) (λ v. eqb-true (dir_rank h.dir) 0 v) (λ v. bad (let u : Apart Less ≡ First = sym (w ∙ rw v) ∙ f in cc))))
      (λ q y. prefix_too q y (λ z. bad (let u : First ≡ Second = sym f ∙ z in cc)) (λ o z. bad (let u : First ≡ Apart o = sym f ∙ z in cc))
      (λ p x. dirs_first (dir_rank g.dir) (dir_rank h.dir) (then_first (cmp_value (prefix_value s (parsed_figures g.prefix)) (prefix_value t (parsed_figures h.prefix))) _ (heads_both s g t h _ p q x y refl ∙ sym e ∙ f))))

-- `is_lone`
module _ (t : List ℕ) (h : Start) (c : ℕ) (e : c ≡ dir_rank h.dir) where
  pub lone_bare : (b : Bool) → c ≡ 0 → b ≡ is_nil (body_values h.seps t h.at) → b ≡ lonely t h
  unfolding lonely
  lone_bare b z f = f ∙ rw (← e, z)

  pub lone_not : (c ≡ 0 → ⊥) → false ≡ lonely t h
  unfolding lonely
  lone_not n = rw (← e, ne_eqb c 0 n)

-- a path that is nothing but a prefix, if that
module _ (t : List ℕ) (h : Start) (l : lonely t h ≡ true) where
  lonely_dir : dir_rank h.dir ≡ 0
  unfolding lonely
  lonely_dir = split (eqb (dir_rank h.dir) 0) (λ x. eqb-true (dir_rank h.dir) 0 x) (λ x. absurd (false≢true (rw x at l)))

  lonely_body : body_values h.seps t h.at ≡ []
  unfolding lonely
  lonely_body = none (body_values h.seps t h.at) (rw lonely_dir at l)
    where
      none : (m : List Value) → is_nil m ≡ true → m ≡ []
      none [] e = refl
      none (v ∷ m) e = absurd (false≢true e)

  lonely_list : (k : Seps) → OpenAt k t h → length (list_of k t) ≡ length (prefix_values t h.prefix)
  unfolding dir_values
  lonely_list k q =
      values_long k t ∙ ap length (values_whole k t h q)
      ∙ rw (lonely_body, head_values_lem t h, lonely_dir) (simp append-nil)

-- the first element of a list with a prefix, and of one without
module _ (k : Seps) (s : List ℕ) (g : Start) (o : OpenAt k s g) where
  pub prefix_first : (p : Prefix) → g.prefix ≡ Some p → nth_of (list_of k s) 0 ≡ Some (record { component = Prefixed p; start = 0; len = g.end })
  unfolding whole_of head_list nth_of
  prefix_first p e = rw (← whole_list k s g o, e)

  kind_prefix : (l : List Element) → 2 ≤ lead_kind (values_in s l) → is_prefix (nth_of l 0) ≡ false
  unfolding values_in nth_of
  kind_prefix [] h = refl
  kind_prefix (e ∷ l) h = go e.component e.start e.len h
    where
      go : (c : Component) (i n : ℕ) → 2 ≤ (value_of s (record { component = c; start = i; len = n })).kind → prefix_kind c ≡ false
      go (Prefixed p) i n h = absurd (omega arith)
      go RootDir i n h = refl
      go CurDir i n h = refl
      go ParentDir i n h = refl
      go Normal i n h = refl

  plain_kind : (d : Dir) (m : List Value) → 2 ≤ lead_kind m → 2 ≤ lead_kind (dir_values (dir_rank d) ++ m)
  unfolding dir_values
  plain_kind Bare m h = h
  plain_kind Root m h = omega arith
  plain_kind Implied m h = omega arith
  plain_kind Dot m h = omega arith

  pub plain_first : g.prefix ≡ None → is_prefix (nth_of (list_of k s) 0) ≡ false
  unfolding values_of
  plain_first e =
      let m = body_values g.seps s g.at in
      let v : values_in s (list_of k s) ≡ dir_values (dir_rank g.dir) ++ m = values_whole k s g o ∙ rw (head_values_lem s g, e) in
      kind_prefix (list_of k s) (rw v (plain_kind g.dir m (omega (arith, body_kind g.seps s g.at))))

-- `follow`: g and h are the heads, which meet as m says
module _ (k : Seps) (s : List ℕ) (g : Start) (o : OpenAt k s g) (t : List ℕ) (h : Start) (q : OpenAt k t h) (m : Heads) (e : m ≡ meet (head_values s g) (head_values t h)) where
  starts_by : (x : Heads) → meet (values_of k s) (values_of k t) ≡ x → starts_of k s t ≡ is_base x
  unfolding starts_of
  starts_by x f = starts_meet (values_of k s) (values_of k t) ∙ rw f

  pub follow_apart : (x : Ordering) → m ≡ Apart x → AfterAt k s g t Off
  follow_apart x f = record { says = starts_by (Apart x) (whole_apart k s g o t h q m e x f) }

  pub follow_second : m ≡ Second → AfterAt k s g t Off
  follow_second f =
      let b = is_nil (body_values g.seps s g.at) in
      record {
        says =
            split (is_nil (body_values g.seps s g.at))
            (λ z. starts_by Second (whole_second_end k s g o t h q m e b f refl z))
            (λ z. starts_by (Apart Greater) (whole_second_more k s g o t h q m e b f refl z));
      }

  -- nothing but the prefix is gone
  at_head : (a : ℕ) → (m ≡ Second → ⊥) → ((x : Ordering) → m ≡ Apart x → ⊥) → starts_of k s t ≡ true → lonely t h ≡ true → a ≡ head_start h.prefix g.end → AtHead k s g t a
  unfolding left_end empty_at
  at_head a u v w l f =
      by_prefix h.prefix
      (λ y. let n : length (list_of k t) ≡ 0 = lonely_list t h l k q ∙ rw y in
      let z : a ≡ 0 = f ∙ rw y in
      record { starts = w; few = omega arith; is = rw (n, z); spent = rw (n, z); low = omega arith })
      (λ c y. let n : length (list_of k t) ≡ 1 = lonely_list t h l k q ∙ rw y in
      let z : a ≡ g.end = f ∙ rw y in
      prefix_too s g t h m e c y u v
      (λ p x. record {
        starts = w;
        few = omega arith;
        is = rw (n, prefix_first k s g o p x) (omega (arith, z));
        spent = rw (n, prefix_first k s g o p x) (omega (arith, z));
        low = omega (arith, z, o.low);
      }))

  module _ (b : Bool) (z : b ≡ lonely t h) where
    first_nil : m ≡ First → lonely t h ≡ is_nil (body_values h.seps t h.at)
    unfolding lonely
    first_nil f = rw (first_bare s g t h m e f)

    pub follow_first_off : m ≡ First → b ≡ false → AfterAt k s g t Off
    follow_first_off f y = record { says = starts_by (Apart Less) (whole_first_more k s g o t h q m e b f (z ∙ first_nil f) y) }

    pub follow_first_head : (a : ℕ) → m ≡ First → b ≡ true → a ≡ head_start h.prefix g.end → AfterAt k s g t (Head a)
    follow_first_head a f y w =
        record {
          says =
              at_head a (λ x. bad (let u : First ≡ Second = sym f ∙ x in cc)) (λ v x. bad (let u : First ≡ Apart v = sym f ∙ x in cc))
              (starts_by First (whole_first_end k s g o t h q m e b f (z ∙ first_nil f) y)) (sym z ∙ y) w;
        }

  module _ (f : m ≡ Same) where
    starts_bodies : starts_of k s t ≡ starts_body g.seps s g.at h.seps t h.at
    unfolding starts_body
    starts_bodies = starts_by _ (whole_same k s g o t h q m e f) ∙ sym (starts_meet _ _)

    module _ (b : Bool) (z : b ≡ lonely t h) where
      pub follow_same_head : (a : ℕ) → b ≡ true → a ≡ head_start h.prefix g.end → AfterAt k s g t (Head a)
      unfolding starts_body starts_with
      follow_same_head a y w =
          record {
            says =
                at_head a (λ x. bad (let u : Same ≡ Second = sym f ∙ x in cc)) (λ v x. bad (let u : Same ≡ Apart v = sym f ∙ x in cc))
                (starts_bodies ∙ rw (lonely_body t h (sym z ∙ y))) (sym z ∙ y) w;
          }

      module _ (n : b ≡ false) (x : ℕ) (w : Behind g.seps s g.at h.seps t h.at x) where
        -- the base's length, head and body
        taken : length (list_of k t) ≡ length (head_values t h) + length (body_values h.seps t h.at)
        taken = values_long k t ∙ ap length (values_whole k t h q) ∙ length-append (head_values t h) (body_values h.seps t h.at)

        not_lonely : (dir_rank h.dir ≡ 0) → (body_values h.seps t h.at ≡ []) → ⊥
        unfolding lonely
        not_lonely u v = false≢true (sym n ∙ z ∙ rw (u, v))

        no_values : (l : List Value) → length l ≡ 0 → l ≡ []
        no_values [] u = refl
        no_values (v ∷ l) u = absurd (omega arith)

        some_taken : length (list_of k t) ≡ 0 → ⊥
        some_taken u =
            let d = no_head t h.prefix h.dir (sym (head_values_lem t h) ∙ no_values (head_values t h) (omega (arith, taken))) in
            not_lonely (rw d.1) (no_values (body_values h.seps t h.at) (omega (arith, taken)))

        -- a base of one component that is no lone prefix has no prefix
        one_bare : length (list_of k t) ≡ 1 → h.prefix ≡ None
        unfolding dir_values
        one_bare u =
            by_prefix h.prefix (λ y. y)
            (λ p y. let v : head_values t h ≡ prefix_value t (figures_of p) ∷ dir_values (dir_rank h.dir) = head_values_lem t h ∙ rw y in
            let d : length (dir_values (dir_rank h.dir)) ≡ 0 = omega (arith, taken, ap length v) in
            absurd (not_lonely
            (split (eqb (dir_rank h.dir) 0) (λ i. eqb-true (dir_rank h.dir) 0 i) (λ i. absurd (let c : ◌≡◌ {A = ℕ} 1 0 = rw i at d in omega arith)))
            (no_values (body_values h.seps t h.at) (omega (arith, taken, ap length v)))))

        beyond_prefix : length (list_of k t) ≡ 1 → is_prefix (nth_of (list_of k s) 0) ≡ false
        beyond_prefix u = plain_first k s g o (same_none s g t h m e (one_bare u) f)

        left_is : drop (length (list_of k t)) (list_of k s) ≡ from (is_sep g.seps) (dots g.seps) s x
        unfolding whole_of body_list left_body
        left_is =
            let a : length (head_list g) ≡ length (head_values t h) = head_long s g ∙ meet_long (head_values s g) (head_values t h) (sym e ∙ f) in
            let c : length (list_of k t) ≡ length (head_list g) + length (from (is_sep h.seps) (dots h.seps) t h.at) = omega (arith, taken, body_long h.seps t h.at) in
            rw (c, ← whole_list k s g o) (drop-append-add (head_list g) _ _ ∙ w.left)

        in_body : InBody k s g t x
        in_body = record { starts = starts_bodies ∙ w.starts; some = some_taken; beyond = beyond_prefix; left = left_is }

      pub follow_same : b ≡ false → (r : After) → BehindAt g.seps s g.at h.seps t h.at r → AfterAt k s g t r
      follow_same n Off w = record { says = starts_bodies ∙ w.says }
      follow_same n (Head a) w = absurd w.says
      follow_same n (Body x) w = record { says = in_body n x w.says }

-- `starts_with`
module _ (k : Seps) (s : List ℕ) (g : Start) (t : List ℕ) (a : After) (f : AfterAt k s g t a) where
  pub starts_not : a ≡ Off → false ≡ starts_of k s t
  starts_not e = sym (rw e at f.says)

  pub after_head : (x : ℕ) → a ≡ Head x → AtHead k s g t x
  after_head x e = rw e at f.says

  pub after_body : (x : ℕ) → a ≡ Body x → InBody k s g t x
  after_body x e = rw e at f.says

  pub starts_head : (x : ℕ) → a ≡ Head x → true ≡ starts_of k s t
  starts_head x e = sym (after_head x e).starts

  pub starts_body_lem : (x : ℕ) → a ≡ Body x → true ≡ starts_of k s t
  starts_body_lem x e = sym (after_body x e).starts

pub ruleset follows = (lone_bare, lone_not, follow_apart, follow_second, follow_first_off, follow_first_head, follow_same_head, follow_same, starts_not, starts_head, starts_body_lem)
