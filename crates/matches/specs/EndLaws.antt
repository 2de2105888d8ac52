-- Laws of the end: one a way through each function of the walk from the back, and what they rest on.
use Rattle.std.specs.Bool.{◌==◌}
use Rattle.std.specs.Ordering.{ordering_index}
use Rattle.std.specs.Prelude.{ℕ, ◌<◌, ◌≤◌, ◌≡◌, Bool, true, false, not, cond, eqb, ltb, Option, Some, None, is_none}
use Rattle.std.proofs.Common.{arith, sym, ap, ◌∙◌, ne_eqb, eqb-true, ltb-true, ltb-false}
use Rattle.std.proofs.Math.Path.{refl}
use mathlib.Core.List.{List, [], ◌∷◌, ◌++◌, reverse, reverse-append, reverse-cons, append-nil, append_assoc}
use Rattle.std.proofs.lemmas.Bool.{eqb-false}
use Rattle.octets.specs.Class.{is_sep}
use Rattle.octets.specs.Laws.{split}
use Rattle.octets.specs.declared.Seps.{Seps}
use Rattle.prefixes.specs.declared.Figures.{Figures}
use Rattle.prefixes.specs.declared.Prefix.{Prefix}
use Rattle.prefixes.specs.Prefix.{figures_of, parsed_figures}
use Rattle.parts.specs.declared.Element.{Element}
use Rattle.parts.specs.declared.Kind.{Kind}
use Rattle.parts.specs.declared.Kind.TheVariants.{Dot as LoneDot, DotDot, Name}
use Rattle.parts.specs.declared.Part.{Part}
use Rattle.parts.specs.Body.{component_of, dots, from}
use Rattle.parts.specs.Steps.{lift}
use Rattle.components.specs.declared.Dir.{Dir}
use Rattle.components.specs.declared.Dir.TheVariants.{Bare, Root, Implied, Dot}
use Rattle.components.specs.declared.Start.{Start}
use Rattle.components.specs.Leaves.{OpenAt}
use Rattle.std.specs.declared.cmp.Ordering.{Ordering}
use Rattle.std.specs.declared.cmp.Ordering.TheVariants.{Less, Equal, Greater}
use Rattle.order.specs.Values.{Value, valued, prefix_value, value_of, values_in}
use Rattle.order.specs.Order.{cmp_value}
use Rattle.order.proofs.Ordered.{itself, value_ordered}
use Rattle.order.specs.Leaves.{dir_rank, dir_values, head_values, body_values}
use Rattle.order.proofs.HeadLaws.{values_append, values_whole, open_kind, dot_alone, kind_less, kind_more, head_values_lem, no_head}
use Rattle.order.specs.Leaves.{prefix_values}
use Rattle.order.proofs.Laws.{names_here}
use Rattle.matches.specs.Match.{is_equal, same, starts_with, ends_with, ends_of}
use Rattle.matches.specs.Laws.{bad, by_prefix}
use Rattle.matches.specs.Leaves.{is_dot, Begun, same_prefix, front_of, all_of, Ahead}

-- ---- from the back
ends_snoc : (l m : List Value) (u v : Value) → ends_with (l ++ (u ∷ [])) (m ++ (v ∷ [])) ≡ cond (same u v) (ends_with l m) false
unfolding ends_with starts_with
ends_snoc l m u v = rw (reverse-append l (u ∷ []), reverse-append m (v ∷ []))

ends_nil : (l : List Value) → ends_with l [] ≡ true
unfolding ends_with starts_with
ends_nil l = refl

-- nothing ends with something
ends_none : (v : Value) (m : List Value) → ends_with [] (v ∷ m) ≡ false
unfolding ends_with starts_with
ends_none v m = rw (reverse-cons v m) (go (reverse m))
  where
    go : (l : List Value) → starts_with [] (l ++ (v ∷ [])) ≡ false
    go [] = refl
    go (w ∷ l) = refl

ends_lone : (m : List Value) (v : Value) → ends_with [] (m ++ (v ∷ [])) ≡ false
ends_lone [] v = ends_none v []
ends_lone (w ∷ m) v = ends_none w (m ++ (v ∷ []))

kinds_apart : (u v : Value) → (u.kind ≡ v.kind → ⊥) → same u v ≡ false
kinds_apart u v n =
    split (ltb u.kind v.kind)
    (λ x. rw (kind_less u v (ltb-true u.kind v.kind x)))
    (λ x. rw (kind_more u v (omega (arith, ltb-false u.kind v.kind x, n))))

same_self : (v : Value) → same v v ≡ true
same_self v = rw (itself value_ordered v)

ends_apart : (l m : List Value) (u v : Value) → (u.kind ≡ v.kind → ⊥) → ends_with (l ++ (u ∷ [])) (m ++ (v ∷ [])) ≡ false
ends_apart l m u v n = ends_snoc l m u v ∙ rw (kinds_apart u v n)

rank_step : (d : Dir) → (dir_rank d ≡ 0 → ⊥) → (1 < dir_rank d) × (dir_rank d ≤ 3)
rank_step Bare n = absurd (n refl)
rank_step Root n = (omega arith, omega arith)
rank_step Implied n = (omega arith, omega arith)
rank_step Dot n = (omega arith, omega arith)

rank_dot : (d : Dir) → dir_rank d ≡ 3 → d ≡ Dot
rank_dot Bare e = absurd (omega (arith, e))
rank_dot Root e = absurd (omega (arith, e))
rank_dot Implied e = absurd (omega (arith, e))
rank_dot Dot e = refl

dirs_some : (c : ℕ) → (c ≡ 0 → ⊥) → dir_values c ≡ valued c [] ∷ []
unfolding dir_values
dirs_some c n = rw (ne_eqb c 0 n)

dirs_none : (c : ℕ) → c ≡ 0 → dir_values c ≡ []
unfolding dir_values
dirs_none c e = rw e

-- a head, and one more value that is of another kind than its last
head_apart : (s : List ℕ) (p : Option Prefix) (d : Dir) (m : List Value) (v : Value) → (dir_rank d ≡ v.kind → ⊥) → 1 < v.kind → ends_with (prefix_values s p ++ dir_values (dir_rank d)) (m ++ (v ∷ [])) ≡ false
head_apart s p d m v n h =
    split (eqb (dir_rank d) 0)
    (λ x. rw (dirs_none (dir_rank d) (eqb-true (dir_rank d) 0 x)) (go p))
    (λ x. rw (dirs_some (dir_rank d) (eqb-false (dir_rank d) 0 x)) (ends_apart (prefix_values s p) m (valued (dir_rank d) []) v n))
  where
    go : (p : Option Prefix) → ends_with (prefix_values s p ++ []) (m ++ (v ∷ [])) ≡ false
    go None = ends_lone m v
    go (Some q) = ends_apart [] m (prefix_value s (figures_of q)) v (λ e. absurd (omega (arith, e)))

-- `same_prefix`
module _ (s t : List ℕ) (p q : Option Prefix) (x : Prefix) (f : p ≡ Some x) (a b : Figures) (g : a ≡ parsed_figures p) (h : b ≡ parsed_figures q) (o : Ordering) (e : o ≡ cmp_value (prefix_value s a) (prefix_value t b)) where
  pub prefix_same : (r : Bool) → r ≡ is_equal o → r ≡ same_prefix s t p q
  prefix_same r z = z ∙ sym (rw f (sym (ap is_equal e ∙ rw (g, h, f))))

-- `ends_heads`
prefixes_end : (s t : List ℕ) (p : Option Prefix) (q : Prefix) → ends_with (prefix_values s p) (prefix_value t (figures_of q) ∷ []) ≡ same_prefix s t p (Some q)
prefixes_end s t None q = ends_lone [] (prefix_value t (figures_of q))
prefixes_end s t (Some p) q =
    ends_snoc [] [] (prefix_value s (figures_of p)) (prefix_value t (figures_of q))
    ∙ rw (ends_nil []) (go (same (prefix_value s (figures_of p)) (prefix_value t (figures_of q))))
  where
    go : (b : Bool) → cond b true false ≡ b
    go true = refl
    go false = refl

-- the same component behind two prefixes
dirs_off : (l m : List Value) (c : ℕ) → ends_with (l ++ dir_values c) (m ++ dir_values c) ≡ ends_with l m
dirs_off l m c =
    split (eqb c 0)
    (λ x. rw (dirs_none c (eqb-true c 0 x)) (simp append-nil))
    (λ x. rw (dirs_some c (eqb-false c 0 x)) (ends_snoc l m (valued c []) (valued c []) ∙ rw (same_self (valued c []))))

module _ (s : List ℕ) (g : Start) (t : List ℕ) (h : Start) (c e : ℕ) (x : c ≡ dir_rank g.dir) (y : e ≡ dir_rank h.dir) where
  abbrev heads_end : Bool
  heads_end = ends_with (head_values s g) (head_values t h)

  parted : heads_end ≡ ends_with (prefix_values s g.prefix ++ dir_values c) (prefix_values t h.prefix ++ dir_values e)
  parted = rw (head_values_lem s g, head_values_lem t h, x, y)

  -- components that differ
  dirs_apart : (c ≡ e → ⊥) → (e ≡ 0 → ⊥) → heads_end ≡ false
  dirs_apart n z =
      rw (head_values_lem s g, head_values_lem t h, dirs_some (dir_rank h.dir) (λ w. z (y ∙ w)))
      (head_apart s g.prefix g.dir (prefix_values t h.prefix) (valued (dir_rank h.dir) []) (λ w. n (x ∙ w ∙ sym y)) (rank_step h.dir (λ w. z (y ∙ w))).0)

  module _ (q : h.prefix ≡ None) where
    pub ends_empty : e ≡ 0 → true ≡ heads_end
    ends_empty z = sym (parted ∙ rw (q, dirs_none e z) (ends_nil _))

    pub ends_dir : (e ≡ 0 → ⊥) → eqb c e ≡ heads_end
    ends_dir z =
        split (eqb c e)
        (λ w. rw w (sym (parted ∙ rw (q, eqb-true c e w) (dirs_off (prefix_values s g.prefix) [] e ∙ ends_nil (prefix_values s g.prefix)))))
        (λ w. rw w (sym (dirs_apart (eqb-false c e w) z)))

  module _ (q : Prefix) (z : h.prefix ≡ Some q) where
    pub ends_prefix : (r : Bool) → c ≡ e → r ≡ same_prefix s t g.prefix h.prefix → r ≡ heads_end
    ends_prefix r w f = f ∙ sym (parted ∙ rw (w, z) (dirs_off (prefix_values s g.prefix) (prefix_value t (figures_of q) ∷ []) e ∙ prefixes_end s t g.prefix q))

    pub ends_not : (c ≡ e → ⊥) → false ≡ heads_end
    ends_not n =
        split (eqb e 0)
        (λ w. let i : e ≡ 0 = eqb-true e 0 w in
        let j : c ≡ 0 → ⊥ = λ u. n (u ∙ sym i) in
        sym (parted ∙ rw (z, dirs_none e i, dirs_some c j)
        (ends_apart (prefix_values s g.prefix) [] (valued c []) (prefix_value t (figures_of q)) (λ u. absurd (omega (arith, u, x, (rank_step g.dir (λ v. j (x ∙ v))).0))))))
        (λ w. sym (dirs_apart n (eqb-false e 0 w)))

pub ruleset endings = (prefix_same, ends_empty, ends_dir, ends_prefix, ends_not)

-- ---- what stands before a place
values_one : (s : List ℕ) (e : Element) → values_in s (e ∷ []) ≡ value_of s e ∷ []
unfolding values_in
values_one s e = refl

module _ (s : List ℕ) (g : Start) (l : List Element) where
  front_none : l ≡ [] → front_of s g l ≡ head_values s g
  unfolding front_of values_in
  front_none n = rw n (append-nil (head_values s g))

  front_found : (x : List Element) (z : Part) → l ≡ x ++ (lift z ∷ []) → front_of s g l ≡ front_of s g x ++ (value_of s (lift z) ∷ [])
  unfolding front_of
  front_found x z n = rw (n, values_append s x (lift z ∷ []), values_one s (lift z)) (sym (append_assoc (head_values s g) (values_in s x) (value_of s (lift z) ∷ [])))

part_kind : (s : List ℕ) (z : Part) → 3 ≤ (value_of s (lift z)).kind
part_kind s z = go z.kind
  where
    go : (k : Kind) → 3 ≤ (value_of s (record { component = component_of k; start = z.start; len = z.len })).kind
    go LoneDot = omega arith
    go DotDot = omega arith
    go Name = omega arith

dot_same : (s : List ℕ) (z : Part) → same (value_of s (lift z)) (valued 3 []) ≡ is_dot z.kind
dot_same s z = go z.kind
  where
    go : (k : Kind) → same (value_of s (record { component = component_of k; start = z.start; len = z.len })) (valued 3 []) ≡ is_dot k
    go LoneDot = same_self (valued 3 [])
    go DotDot = kinds_apart (valued 4 []) (valued 3 []) (λ e. absurd (omega (arith, e)))
    go Name = kinds_apart _ (valued 3 []) (λ e. absurd (omega (arith, e)))

-- `ends_head`
module _ (s : List ℕ) (g : Start) (l : List Element) (t : List ℕ) (h : Start) (b : Begun t h) where
  abbrev front_end : Bool
  front_end = ends_with (front_of s g l) (head_values t h)

  pub end_heads : (r : Bool) → l ≡ [] → r ≡ ends_with (head_values s g) (head_values t h) → r ≡ front_end
  end_heads r n e = e ∙ rw (front_none s g l n)

  module _ (x : List Element) (a : Part) (n : l ≡ x ++ (lift a ∷ [])) (e : ℕ) (y : e ≡ dir_rank h.dir) where
    -- a part against a value of another kind
    part_apart : (m : List Value) (v : Value) → head_values t h ≡ m ++ (v ∷ []) → v.kind ≤ 3 → (v.kind ≡ 3 → ⊥) → front_end ≡ false
    part_apart m v w i j =
        rw (front_found s g l x a n, w) (ends_apart (front_of s g x) m (value_of s (lift a)) v (λ u. j (omega (arith, part_kind s a, u))))

    pub end_dot : (r : Bool) → e ≡ 3 → r ≡ is_dot a.kind → r ≡ front_end
    end_dot r z w =
        let d : h.dir ≡ Dot = rank_dot h.dir (sym y ∙ z) in
        let v : head_values t h ≡ valued 3 [] ∷ [] = head_values_lem t h ∙ rw (b.alone d, d) (dirs_some 3 (λ i. absurd (omega (arith, i)))) in
        w ∙ sym (dot_same s a) ∙ sym (rw (front_found s g l x a n, v) (ends_snoc (front_of s g x) [] (value_of s (lift a)) (valued 3 []) ∙ rw (ends_nil (front_of s g x)) (go (same (value_of s (lift a)) (valued 3 [])))))
      where
        go : (b : Bool) → cond b true false ≡ b
        go true = refl
        go false = refl

    pub end_bare : (r : Bool) → e ≡ 0 → r ≡ is_none h.prefix → r ≡ front_end
    end_bare r z w =
        by_prefix h.prefix
        (λ u. w ∙ ap is_none u ∙ sym (rw (head_values_lem t h, u, dirs_none (dir_rank h.dir) (sym y ∙ z)) (ends_nil (front_of s g l))))
        (λ q u. w ∙ ap is_none u ∙ sym (part_apart [] (prefix_value t (figures_of q)) (head_values_lem t h ∙ rw (u, dirs_none (dir_rank h.dir) (sym y ∙ z))) (omega arith) (λ i. absurd (omega (arith, i)))))

    pub end_root : (e ≡ 3 → ⊥) → (e ≡ 0 → ⊥) → false ≡ front_end
    end_root i j =
        sym (part_apart (prefix_values t h.prefix) (valued (dir_rank h.dir) []) (head_values_lem t h ∙ rw (dirs_some (dir_rank h.dir) (λ w. j (y ∙ w))))
        (rank_step h.dir (λ w. j (y ∙ w))).1 (λ w. i (y ∙ w)))

-- ---- the walk from the back
-- what is known of a head that `begin` told
pub begun : (k : Seps) (s : List ℕ) (g : Start) → OpenAt k s g → Begun s g
begun k s g o = record { names = names_here k s g o; alone = dot_alone k s g o; lead = open_kind k s g o }

-- `ends_with`
pub ends_whole : (k : Seps) (s t : List ℕ) (g h : Start) (r : Bool) → OpenAt k s g → OpenAt k t h → r ≡ ends_with (all_of s g) (all_of t h) → r ≡ ends_of k s t
unfolding ends_of
ends_whole k s t g h r o q e = e ∙ rw (values_whole k s g o, values_whole k t h q)

-- the first of a path's values is no part that is a dot
module _ (t : List ℕ) (h : Start) (b : Begun t h) where
  front_head : (l : List Element) → front_of t h l ≡ [] → head_values t h ≡ []
  unfolding front_of
  front_head l e = go (head_values t h) _ e
    where
      go : (m n : List Value) → m ++ n ≡ [] → m ≡ []
      go [] n w = refl
      go (u ∷ m) n w = bad (cc)

  not_first : (l m : List Element) (v : Value) → Ahead t h l → front_of t h l ≡ front_of t h m ++ (v ∷ []) → v.kind ≡ 3 → front_of t h m ≡ [] → ⊥
  not_first l m v w e i f =
      let u : head_values t h ≡ [] = front_head m f in
      let d = no_head t h.prefix h.dir (sym (head_values_lem t h) ∙ u) in
      let z : all_of t h ≡ (front_of t h m ++ (v ∷ [])) ++ w.rest = w.is ∙ rw e refl in
      let c : body_values h.seps t h.at ≡ v ∷ w.rest = rw (u, f) at z in
      omega (arith, i, rw c at (b.lead d.0 d.1))

  -- a lone dot does not end with a part and what stands before it
  dot_short : (l m : List Element) (v : Value) → Ahead t h l → front_of t h l ≡ front_of t h m ++ (v ∷ []) → v.kind ≡ 3 → ends_with (valued 3 [] ∷ []) (front_of t h m ++ (v ∷ [])) ≡ false
  dot_short l m v w e i = ends_snoc [] (front_of t h m) (valued 3 []) v ∙ go (front_of t h m) refl
    where
      go : (n : List Value) → front_of t h m ≡ n → cond (same (valued 3 []) v) (ends_with [] (front_of t h m)) false ≡ false
      go [] f = absurd (not_first l m v w e i f)
      go (u ∷ n) f = rw (f, ends_none u n) (split (same (valued 3 []) v) (λ j. rw j) (λ j. rw j))

ne_told : (o : Ordering) (z : Bool) → z ≡ not (ordering_index o == 1) → is_equal o ≡ not z
ne_told Less z e = rw e
ne_told Equal z e = rw e
ne_told Greater z e = rw e

-- `walk_back`: r is what it is to answer, of what is left of both
pub back_start : (s : List ℕ) (g : Start) (l : List Element) → l ≡ from (is_sep g.seps) (dots g.seps) s g.at → all_of s g ≡ front_of s g l
unfolding front_of body_values
back_start s g l e = rw e refl

pub ahead_start : (t : List ℕ) (h : Start) (l : List Element) → l ≡ from (is_sep h.seps) (dots h.seps) t h.at → Ahead t h l
ahead_start t h l e = record { rest = []; is = back_start t h l e ∙ sym (append-nil (front_of t h l)) }

module _ (s : List ℕ) (g : Start) (t : List ℕ) (h : Start) (l m : List Element) (r : Bool) (e : r ≡ ends_with (front_of s g l) (front_of t h m)) where
  pub back_head : (c : Bool) → m ≡ [] → c ≡ ends_with (front_of s g l) (head_values t h) → c ≡ r
  back_head c n z = z ∙ sym (e ∙ rw (front_none t h m n))

  module _ (y : List Element) (b : Part) (n : m ≡ y ++ (lift b ∷ [])) where
    module _ (x : List Element) (a : Part) (k : l ≡ x ++ (lift a ∷ [])) (o : Ordering) (c : o ≡ cmp_value (value_of s (lift a)) (value_of t (lift b))) where
      back_by : r ≡ cond (is_equal o) (ends_with (front_of s g x) (front_of t h y)) false
      back_by = e ∙ rw (front_found s g l x a k, front_found t h m y b n) (ends_snoc (front_of s g x) (front_of t h y) (value_of s (lift a)) (value_of t (lift b)) ∙ rw c)

      module _ (z : Bool) (d : z ≡ not (ordering_index o == 1)) where
        pub back_on : z ≡ false → r ≡ ends_with (front_of s g x) (front_of t h y)
        back_on w = back_by ∙ rw (ne_told o z d, w)

        pub back_off : z ≡ true → false ≡ r
        back_off w = sym (back_by ∙ rw (ne_told o z d, w))

    -- the first body is used up
    pub back_short : Begun s g → Begun t h → Ahead t h m → l ≡ [] → false ≡ r
    back_short i j w k =
        let v = value_of t (lift b) in
        sym (e ∙ rw (front_none s g l k, front_found t h m y b n, head_values_lem s g)
        (split (eqb (dir_rank g.dir) (value_of t (lift b)).kind)
        (λ z. let u : dir_rank g.dir ≡ v.kind = eqb-true (dir_rank g.dir) v.kind z in
        let c = rank_step g.dir (λ (a : dir_rank g.dir ≡ 0). absurd (omega (arith, a, u, part_kind t b))) in
        let q : dir_rank g.dir ≡ 3 = omega (arith, u, c.1, part_kind t b) in
        let d = rank_dot g.dir q in
        rw (i.alone d, q, dirs_some 3 (λ (a : ◌≡◌ {A = ℕ} 3 0). absurd (omega (arith, a)))) (dot_short t h j m y (value_of t (lift b)) w (front_found t h m y b n) (sym u ∙ q)))
        (λ z. head_apart s g.prefix g.dir (front_of t h y) (value_of t (lift b)) (eqb-false (dir_rank g.dir) (value_of t (lift b)).kind z) (omega (arith, part_kind t b)))))

    pub ahead_on : Ahead t h m → Ahead t h y
    ahead_on w = record { rest = value_of t (lift b) ∷ w.rest; is = w.is ∙ rw (front_found t h m y b n) (append_assoc (front_of t h y) (value_of t (lift b) ∷ []) w.rest) }

pub ruleset backs = (end_heads, end_dot, end_bare, end_root, begun, ends_whole, back_start, ahead_start, back_head, back_on, back_off, back_short, ahead_on)
