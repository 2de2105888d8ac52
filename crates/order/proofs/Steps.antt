-- Laws of one case each, which docs/PORT.md prints; the proofs of the code go by those of proofs/Laws.antt that say both cases at once.
use Rattle.std.specs.Prelude.{ℕ, ◌+◌, ◌<◌, ◌≤◌, ◌≡◌, List, true, false, min, length, get_or, Option, Some, None}
use Rattle.std.specs.Cmp.{nat_cmp_is}
use Rattle.std.proofs.Common.{arith, sym, refl, ◌∙◌, ne_eqb}
use Rattle.octets.specs.Class.{is_sep}
use Rattle.octets.specs.declared.Seps.{Seps}
use Rattle.octets.specs.declared.Seps.TheVariants.{Unix, Windows, Verbatim}
use Rattle.prefixes.specs.declared.Figures.{Figures}
use Rattle.prefixes.specs.Prefix.{parsed_figures}
use Rattle.parts.specs.declared.Part.{Part}
use Rattle.parts.specs.Body.{dots}
use Rattle.parts.specs.Elements.{bytes_at}
use Rattle.parts.specs.Steps.{lift, FirstAt}
use Rattle.components.specs.declared.Dir.{Dir}
use Rattle.components.specs.declared.Start.{Start}
use Rattle.std.specs.declared.cmp.Ordering.{Ordering}
use Rattle.std.specs.declared.cmp.Ordering.TheVariants.{Less, Equal, Greater}
use Rattle.order.specs.declared.Heads.{Heads}
use Rattle.order.specs.declared.Heads.TheVariants.{Apart, First, Second}
use Rattle.order.specs.Values.{prefix_value, value_of}
use Rattle.order.specs.Order.{and_then, lexical, cmp_bytes, cmp_value, cmp_values}
use Rattle.order.specs.Leaves.{Differ, rank_of, dir_rank, dir_values, body_values, is_nil, meet_then, meet, meet_lone}
use Rattle.order.proofs.Ordered.{nat_less, nat_more, nat_same}
use Rattle.order.proofs.Laws.{bytes_both, bytes_ends, part_apart, dirs_apart, values_none, values_found}

less_apart : Less ≡ Equal → ⊥
less_apart e = let z : ◌≡◌ {A = ℕ} 0 1 = cc in omega arith

more_apart : Greater ≡ Equal → ⊥
more_apart e = let z : ◌≡◌ {A = ℕ} 0 1 = cc in omega arith

-- `min`
module _ (a b : ℕ) where
  pub least_first : a ≤ b → min a b ≡ a
  least_first h = omega arith

  pub least_second : b ≤ a → min a b ≡ b
  least_second h = omega arith

-- `cmp_bytes`
module _ (a b : List ℕ) (r : ℕ) (d : Differ a b r) where
  module _ (x : r < length a) where
    module _ (y : r < length b) where
      pub bytes_less : get_or a r 0 < get_or b r 0 → Less ≡ cmp_bytes a b
      bytes_less h = bytes_both a b r d x y Less (nat_cmp_is (get_or a r 0) (get_or b r 0) Less h)

      pub bytes_more : get_or b r 0 ≤ get_or a r 0 → Greater ≡ cmp_bytes a b
      bytes_more h = bytes_both a b r d x y Greater (nat_cmp_is (get_or a r 0) (get_or b r 0) Greater (other (d.apart x y)))
        where
          other : (get_or a r 0 ≡ get_or b r 0 → ⊥) → get_or b r 0 < get_or a r 0
          other f = omega (arith, f, h)

    pub bytes_longer : length b ≤ r → Greater ≡ cmp_bytes a b
    bytes_longer h = bytes_ends a b r d Greater (λ _ y. omega arith) (nat_cmp_is (length a) (length b) Greater (omega arith))

  module _ (x : length a ≤ r) where
    pub bytes_shorter : r < length b → Less ≡ cmp_bytes a b
    bytes_shorter h = bytes_ends a b r d Less (λ y _. omega arith) (nat_cmp_is (length a) (length b) Less (omega arith))

    pub bytes_equal : length b ≤ r → Equal ≡ cmp_bytes a b
    bytes_equal h = bytes_ends a b r d Equal (λ y _. omega arith) (nat_cmp_is (length a) (length b) Equal (omega (arith, d.first, d.second)))

-- `cmp_part`
module _ (s : List ℕ) (p : Part) (t : List ℕ) (q : Part) (a : ℕ) (x : a ≡ rank_of p.kind) (b : ℕ) (y : b ≡ rank_of q.kind) where
  pub part_less : a < b → Less ≡ cmp_value (value_of s (lift p)) (value_of t (lift q))
  part_less h = part_apart s p t q a x b y Less (nat_cmp_is a b Less h) less_apart

  pub part_more : b < a → Greater ≡ cmp_value (value_of s (lift p)) (value_of t (lift q))
  part_more h = part_apart s p t q a x b y Greater (nat_cmp_is a b Greater h) more_apart

-- `cmp_names`, `cmp_prefix`
module _ (s : List ℕ) (a : Figures) (t : List ℕ) (b : Figures) where
  abbrev server : Ordering
  server = cmp_bytes (bytes_at s a.start1 a.len1) (bytes_at t b.start1 b.len1)

  abbrev sharing : Ordering
  sharing = cmp_bytes (bytes_at s a.start2 a.len2) (bytes_at t b.start2 b.len2)

  module _ (o : Ordering) (e : o ≡ server) where
    pub names_less : o ≡ Less → Less ≡ and_then server sharing
    names_less f = rw (← e, f)

    pub names_more : o ≡ Greater → Greater ≡ and_then server sharing
    names_more f = rw (← e, f)

  pub prefix_less : a.kind < b.kind → Less ≡ cmp_value (prefix_value s a) (prefix_value t b)
  unfolding cmp_value
  prefix_less h = rw (nat_same 1 1 (omega arith) (omega arith), nat_less a.kind b.kind h)

  pub prefix_more : b.kind < a.kind → Greater ≡ cmp_value (prefix_value s a) (prefix_value t b)
  unfolding cmp_value
  prefix_more h = rw (nat_same 1 1 (omega arith) (omega arith), nat_more a.kind b.kind h)

  module _ (g : a.kind ≤ b.kind) (h : b.kind ≤ a.kind) where
    pub letter_less : a.letter < b.letter → Less ≡ cmp_value (prefix_value s a) (prefix_value t b)
    unfolding cmp_value
    letter_less l = rw (nat_same 1 1 (omega arith) (omega arith), nat_same a.kind b.kind g h, nat_less a.letter b.letter l)

    pub letter_more : b.letter < a.letter → Greater ≡ cmp_value (prefix_value s a) (prefix_value t b)
    unfolding cmp_value
    letter_more l = rw (nat_same 1 1 (omega arith) (omega arith), nat_same a.kind b.kind g h, nat_more a.letter b.letter l)

    pub letter_same : (r : Ordering) → a.letter ≤ b.letter → b.letter ≤ a.letter → r ≡ and_then server sharing → r ≡ cmp_value (prefix_value s a) (prefix_value t b)
    unfolding cmp_value
    letter_same r l m e = e ∙ rw (nat_same 1 1 (omega arith) (omega arith), nat_same a.kind b.kind g h, nat_same a.letter b.letter l m)

-- `meet_dirs`, `meet_lone`: a, b and c are what `dir_rank` answered
module _ (d e : Dir) (a b : ℕ) (f : a ≡ dir_rank d) (g : b ≡ dir_rank e) (n : a ≡ b → ⊥) (x : a ≡ 0 → ⊥) (y : b ≡ 0 → ⊥) where
  abbrev dirs : Heads
  dirs = meet (dir_values (dir_rank d)) (dir_values (dir_rank e))

  pub dirs_less : a < b → Apart Less ≡ dirs
  dirs_less h = dirs_apart d e a b f g n x y Less (nat_cmp_is a b Less h)

  pub dirs_more : b ≤ a → Apart Greater ≡ dirs
  dirs_more h = dirs_apart d e a b f g n x y Greater (nat_cmp_is a b Greater (omega (arith, n)))

module _ (d : Dir) (c : ℕ) (f : c ≡ dir_rank d) where
  pub first_none_left : c ≡ 0 → First ≡ meet_lone (dir_rank d) First Less
  first_none_left e = rw (← f, e)

  pub first_before : (c ≡ 0 → ⊥) → Apart Less ≡ meet_lone (dir_rank d) First Less
  first_before n = rw (← f, ne_eqb c 0 n)

  pub second_none_left : c ≡ 0 → Second ≡ meet_lone (dir_rank d) Second Greater
  second_none_left e = rw (← f, e)

  pub second_before : (c ≡ 0 → ⊥) → Apart Greater ≡ meet_lone (dir_rank d) Second Greater
  second_before n = rw (← f, ne_eqb c 0 n)

-- `meet_prefixes`
module _ (s : List ℕ) (g : Start) (t : List ℕ) (h : Start) (a b : Figures) (x : a ≡ parsed_figures g.prefix) (y : b ≡ parsed_figures h.prefix) (o : Ordering) (e : o ≡ cmp_value (prefix_value s a) (prefix_value t b)) where
  abbrev both_prefixes : Heads
  both_prefixes =
      meet_then (cmp_value (prefix_value s (parsed_figures g.prefix)) (prefix_value t (parsed_figures h.prefix)))
      (meet (dir_values (dir_rank g.dir)) (dir_values (dir_rank h.dir)))

  pub prefixes_less : o ≡ Less → Apart Less ≡ both_prefixes
  prefixes_less f = rw (← x, ← y, ← e, f)

  pub prefixes_more : o ≡ Greater → Apart Greater ≡ both_prefixes
  prefixes_more f = rw (← x, ← y, ← e, f)

-- `is_bare`
module _ (k : Seps) (s : List ℕ) (i : ℕ) (p : Option Part) (f : FirstAt (is_sep k) (dots k) s i p) where
  pub end_here : p ≡ None → true ≡ is_nil (body_values k s i)
  end_here e = rw (values_none k s i p f e)

  pub end_not : (m : Part) → p ≡ Some m → false ≡ is_nil (body_values k s i)
  end_not m e = rw (values_found k s i p f m e)

-- `walk`: r is what it is to answer, p and q the next parts
module _ (k h : Seps) (s t : List ℕ) (x y : ℕ) (p q : Option Part) (r : Ordering) (e : r ≡ cmp_values (body_values k s x) (body_values h t y)) (f : FirstAt (is_sep k) (dots k) s x p) (g : FirstAt (is_sep h) (dots h) t y q) where
  pub walk_end : p ≡ None → q ≡ None → Equal ≡ r
  unfolding lexical
  walk_end a b = sym (e ∙ rw (values_none k s x p f a, values_none h t y q g b))

  pub walk_less : (n : Part) → p ≡ None → q ≡ Some n → Less ≡ r
  unfolding lexical
  walk_less n a b = sym (e ∙ rw (values_none k s x p f a, values_found h t y q g n b))

  pub walk_more : (m : Part) → p ≡ Some m → q ≡ None → Greater ≡ r
  unfolding lexical
  walk_more m a b = sym (e ∙ rw (values_found k s x p f m a, values_none h t y q g b))

  module _ (m n : Part) (a : p ≡ Some m) (b : q ≡ Some n) (o : Ordering) (c : o ≡ cmp_value (value_of s (lift m)) (value_of t (lift n))) where
    walk_by : r ≡ and_then o (cmp_values (body_values k s (m.start + m.len + 1)) (body_values h t (n.start + n.len + 1)))
    unfolding lexical
    walk_by = e ∙ rw (values_found k s x p f m a, values_found h t y q g n b, ← c)

    pub walk_on : o ≡ Equal → r ≡ cmp_values (body_values k s (m.start + m.len + 1)) (body_values h t (n.start + n.len + 1))
    walk_on d = walk_by ∙ rw d

    pub walk_part_less : o ≡ Less → Less ≡ r
    walk_part_less d = sym (walk_by ∙ rw d)

    pub walk_part_more : o ≡ Greater → Greater ≡ r
    walk_part_more d = sym (walk_by ∙ rw d)

-- `skip`: each number that tells the three readings apart as theirs did has that
module _ (f : Seps → ℕ) (x : f Unix ≡ 0) (y : f Windows ≡ 1) (z : f Verbatim ≡ 2) where
  seps_one : (k h : Seps) → f k ≡ f h → k ≡ h
  seps_one Unix Unix e = refl
  seps_one Unix Windows e = absurd (omega arith)
  seps_one Unix Verbatim e = absurd (omega arith)
  seps_one Windows Unix e = absurd (omega arith)
  seps_one Windows Windows e = refl
  seps_one Windows Verbatim e = absurd (omega arith)
  seps_one Verbatim Unix e = absurd (omega arith)
  seps_one Verbatim Windows e = absurd (omega arith)
  seps_one Verbatim Verbatim e = refl
