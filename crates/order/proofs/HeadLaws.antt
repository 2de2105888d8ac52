-- How heads meet, and what follows for two whole lists: an element of a head comes before every part that can stand in its
-- place in the other path.
use Rattle.std.specs.Prelude.{ℕ, suc, ◌<◌, ◌≤◌, ◌≡◌, Bool, true, false, length, drop, eqb, Option, Some, None}
use Rattle.std.proofs.Common.{arith, sym, ap, ◌∙◌, ne_eqb, eqb-true}
use Rattle.std.proofs.Math.Path.{refl}
use mathlib.Core.List.{List, [], ◌∷◌, ◌++◌, map-append}
use Rattle.std.proofs.lemmas.Bool.{false≢true}
use Rattle.octets.specs.Class.{is_sep}
use Rattle.octets.specs.Laws.{split}
use Rattle.octets.specs.Segment.{lead}
use Rattle.octets.specs.declared.Seps.{Seps}
use Rattle.prefixes.specs.declared.Prefix.{Prefix}
use Rattle.prefixes.specs.declared.Prefix.TheVariants.{Verbatim, VerbatimUnc, VerbatimDisk, DeviceNs, Unc, Disk}
use Rattle.prefixes.specs.Prefix.{prefix_in, end_of_prefix}
use Rattle.parts.specs.declared.Element.{Element}
use Rattle.parts.specs.declared.Kind.TheVariants.{Dot as LoneDot, DotDot, Name}
use Rattle.parts.specs.Body.{dots, sort_by, sort_of, put, rest, from}
use Rattle.components.specs.declared.Dir.{Dir}
use Rattle.components.specs.declared.Dir.TheVariants.{Bare, Root, Implied, Dot}
use Rattle.components.specs.declared.Start.{Start}
use Rattle.components.specs.List.{sep_at, dot_at, prefix_dir, dir_of, start_of, prefix_part, dir_part, head_list, body_list, whole_of}
use Rattle.components.specs.Leaves.{OpenAt}
use Rattle.components.specs.Laws.{sep_in, dot_sep, whole_list}
use Rattle.std.specs.declared.cmp.Ordering.{Ordering}
use Rattle.std.specs.declared.cmp.Ordering.TheVariants.{Less, Greater}
use Rattle.order.specs.declared.Heads.{Heads}
use Rattle.order.specs.declared.Heads.TheVariants.{Same, Apart, First, Second}
use Rattle.order.specs.Values.{Value, valued, value_of, values_in, values_of}
use Rattle.order.specs.Ordered.{swapped}
use Rattle.order.specs.Order.{lexical, cmp_value, cmp_values}
use Rattle.order.proofs.Ordered.{each, itself, value_ordered, nat_less, nat_more}
use Rattle.order.specs.Leaves.{lead_kind, prefix_values, dir_rank, dir_values, head_values, body_values, is_nil, meet, order_of}
use Rattle.parts.specs.declared.Kind.{Kind}

-- ---- the values of a whole list
pub values_append : (s : List ℕ) (l m : List Element) → values_in s (l ++ m) ≡ values_in s l ++ values_in s m
unfolding values_in
values_append s l m = map-append (value_of s) l m

pub values_whole : (k : Seps) (s : List ℕ) (g : Start) → OpenAt k s g → values_of k s ≡ head_values s g ++ body_values g.seps s g.at
unfolding values_of head_values body_values whole_of body_list
values_whole k s g o = rw (← whole_list k s g o) (values_append s (head_list g) (body_list g s))

-- ---- kinds: of a head at most 3, of a body at least 3
put_kind : (s : List ℕ) (q : Option Kind) (i n : ℕ) (l : List Element) → 3 ≤ lead_kind (values_in s l) → 3 ≤ lead_kind (values_in s (put q i n l))
unfolding values_in
put_kind s None i n l h = h
put_kind s (Some LoneDot) i n l h = omega arith
put_kind s (Some DotDot) i n l h = omega arith
put_kind s (Some Name) i n l h = omega arith

rest_kind : (sep : ℕ → Bool) (v : Bool) (s : List ℕ) (i : ℕ) (xs : List ℕ) → 3 ≤ lead_kind (values_in s (rest sep v i xs))
unfolding rest values_in
rest_kind sep v s i [] = omega arith
rest_kind sep v s i (x ∷ xs) =
    split (sep x)
    (λ e. rw e (put_kind s (sort_of v (lead sep xs)) (suc i) (length (lead sep xs)) (rest sep v (suc i) xs) (rest_kind sep v s (suc i) xs)))
    (λ e. rw e (rest_kind sep v s (suc i) xs))

pub body_kind : (k : Seps) (s : List ℕ) (i : ℕ) → 3 ≤ lead_kind (body_values k s i)
unfolding body_values from
body_kind k s i =
    put_kind s (sort_of (dots k) (lead (is_sep k) (drop i s))) i (length (lead (is_sep k) (drop i s))) _ (rest_kind (is_sep k) (dots k) s i (drop i s))

-- a first segment that is neither empty nor a lone dot is `..` or a name
sort_kind : (v : Bool) (s : List ℕ) (n a b i m : ℕ) (l : List Element) → (n ≡ 0 → ⊥) → (a ≡ 46 → n ≡ 1 → ⊥) → 4 ≤ lead_kind (values_in s (put (sort_by v n a b) i m l))
unfolding sort_by values_in
sort_kind v s n a b i m l x y =
    rw (ne_eqb n 0 x)
    (split (eqb a 46)
    (λ e. rw (e, ne_eqb n 1 (y (eqb-true a 46 e)))
    (split (eqb n 2)
    (λ f. rw f (split (eqb b 46) (λ g. rw g (omega arith)) (λ g. rw g (omega arith))))
    (λ f. rw f (omega arith))))
    (λ e. rw e (omega arith)))

lead_kind_lem : (k : Seps) (t : List ℕ) → sep_at k t 0 ≡ false → dot_at k t 0 ≡ false → 4 ≤ lead_kind (body_values k t 0)
unfolding body_values from rest lead sep_at dot_at sort_by values_in
lead_kind_lem k [] a b = omega arith
lead_kind_lem k (x ∷ []) a b =
    let e : is_sep k x ≡ false = a in
    rw e (sort_kind (dots k) (x ∷ []) 1 x 0 0 1 [] (λ f. absurd (omega arith)) (λ f g. absurd (false≢true (sym (rw f at b)))))
lead_kind_lem k (x ∷ y ∷ t) a b =
    let s = x ∷ y ∷ t in
    let e : is_sep k x ≡ false = sep_in k s 0 (is_sep k x) (omega arith) refl ∙ a in
    split {A = 4 ≤ lead_kind (body_values k (x ∷ y ∷ t) 0)} (is_sep k y)
    (λ f. rw (e, f) (sort_kind (dots k) s 1 x 0 0 1 _ (λ g. absurd (omega arith))
    (λ g _. absurd (false≢true (sym (sym f ∙ dot_sep k s 0 g (is_sep k y) (λ h. absurd (omega arith)) (sep_in k s 1 (is_sep k y) (omega arith) refl) ∙ b))))))
    (λ f. rw (e, f) (sort_kind (dots k) s (suc (suc (length (lead (is_sep k) t)))) x y 0 (suc (suc (length (lead (is_sep k) t)))) _ (λ g. absurd (omega arith)) (λ _ g. absurd (omega arith))))

-- ---- of a path's head
prefix_no_dot : (p : Prefix) → prefix_dir p ≡ Dot → ⊥
prefix_no_dot (Verbatim n) e = let z : ◌≡◌ {A = ℕ} 0 1 = cc in omega arith
prefix_no_dot (VerbatimUnc n) e = let z : ◌≡◌ {A = ℕ} 0 1 = cc in omega arith
prefix_no_dot (VerbatimDisk d) e = let z : ◌≡◌ {A = ℕ} 0 1 = cc in omega arith
prefix_no_dot (DeviceNs n) e = let z : ◌≡◌ {A = ℕ} 0 1 = cc in omega arith
prefix_no_dot (Unc n) e = let z : ◌≡◌ {A = ℕ} 0 1 = cc in omega arith
prefix_no_dot (Disk d) e = let z : ◌≡◌ {A = ℕ} 0 1 = cc in omega arith

-- a dot stands where there is no prefix
dot_bare : (k : Seps) (p : Option Prefix) (s : List ℕ) (e : ℕ) → dir_of k p s e ≡ Dot → p ≡ None
unfolding dir_of
dot_bare k None s e h = refl
dot_bare k (Some p) s e h =
    split (sep_at k s e)
    (λ f. let d : Root ≡ Dot = rw f at h in let z : ◌≡◌ {A = ℕ} 0 1 = cc in absurd (omega arith))
    (λ f. absurd (prefix_no_dot p (rw f at h)))

-- without a prefix, nothing found behind it means neither a separator nor a dot
bare_sep : (k : Seps) (s : List ℕ) → dir_of k None s 0 ≡ Bare → sep_at k s 0 ≡ false
unfolding dir_of
bare_sep k s h = split (sep_at k s 0) (λ f. let d : Root ≡ Bare = rw f at h in let z : ◌≡◌ {A = ℕ} 0 1 = cc in absurd (omega arith)) (λ f. f)

bare_dot : (k : Seps) (s : List ℕ) → dir_of k None s 0 ≡ Bare → dot_at k s 0 ≡ false
unfolding dir_of
bare_dot k s h =
    split (dot_at k s 0)
    (λ f. let d : Dot ≡ Bare = rw (bare_sep k s h, f) at h in let z : ◌≡◌ {A = ℕ} 0 1 = cc in absurd (omega arith))
    (λ f. f)

module _ (k : Seps) (s : List ℕ) (g : Start) (o : OpenAt k s g) where
  pub dot_alone : g.dir ≡ Dot → g.prefix ≡ None
  unfolding start_of
  dot_alone e = rw o.is (dot_bare k (prefix_in k s) s (end_of_prefix (prefix_in k s)) (rw o.is at e))

  -- a path with nothing ahead of its body does not start with a lone dot
  pub open_kind : g.prefix ≡ None → g.dir ≡ Bare → 4 ≤ lead_kind (body_values g.seps s g.at)
  unfolding start_of
  open_kind e f =
      let p : prefix_in k s ≡ None = rw o.is at e in
      let d : dir_of k None s 0 ≡ Bare = rw p at (rw o.is at f) in
      rw (o.is, p, d) (lead_kind_lem k s (bare_sep k s d) (bare_dot k s d))

-- ---- lists that meet
bad : {A : Type 0} → ◌≡◌ {A = ℕ} 0 1 → A
bad z = absurd (omega arith)

pub cmp_meet : (l m : List Value) → cmp_values l m ≡ order_of (meet l m)
unfolding meet lexical
cmp_meet [] [] = refl
cmp_meet [] (v ∷ m) = refl
cmp_meet (u ∷ l) [] = refl
cmp_meet (u ∷ l) (v ∷ m) = each (cmp_value u v) (λ x. rw x) (λ x. rw x (cmp_meet l m)) (λ x. rw x)

-- a common front does not count
pub meet_skip : (x l m : List Value) → meet (x ++ l) (x ++ m) ≡ meet l m
unfolding meet
meet_skip [] l m = refl
meet_skip (v ∷ x) l m = rw (itself value_ordered v) (meet_skip x l m)

-- each value of l has a smaller kind than v
unfoldable Under : List Value → Value → Type 0
Under [] v = Unit
Under (u ∷ l) v = (u.kind < v.kind) × Under l v

pub kind_less : (u v : Value) → u.kind < v.kind → cmp_value u v ≡ Less
unfolding cmp_value
kind_less u v h = rw (nat_less u.kind v.kind h)

pub kind_more : (u v : Value) → v.kind < u.kind → cmp_value u v ≡ Greater
unfolding cmp_value
kind_more u v h = rw (nat_more u.kind v.kind h)

-- what is met from the other side
abbrev turned : Heads → Heads
turned Same = Same
turned First = Second
turned Second = First
turned (Apart x) = Apart (swapped x)

meet_turned : (l m : List Value) → meet m l ≡ turned (meet l m)
unfolding meet
meet_turned [] [] = refl
meet_turned [] (v ∷ m) = refl
meet_turned (u ∷ l) [] = refl
meet_turned (u ∷ l) (v ∷ m) = rw (value_ordered.flips u v) (each (cmp_value u v) (λ x. rw x) (λ x. rw x (meet_turned l m)) (λ x. rw x))

-- two lists that begin with a and b
module _ (l m : List Value) where
  meet_same : (a b : List Value) → meet a b ≡ Same → meet (a ++ l) (b ++ m) ≡ meet l m
  unfolding meet
  meet_same [] [] e = refl
  meet_same [] (v ∷ b) e = bad (cc)
  meet_same (u ∷ a) [] e = bad (cc)
  meet_same (u ∷ a) (v ∷ b) e = each (cmp_value u v) (λ x. bad (cc)) (λ x. rw x (meet_same a b (rw x at e))) (λ x. bad (cc))

  meet_apart : (o : Ordering) (a b : List Value) → meet a b ≡ Apart o → meet (a ++ l) (b ++ m) ≡ Apart o
  unfolding meet
  meet_apart o [] [] e = bad (cc)
  meet_apart o [] (v ∷ b) e = bad (cc)
  meet_apart o (u ∷ a) [] e = bad (cc)
  meet_apart o (u ∷ a) (v ∷ b) e = each (cmp_value u v) (λ x. rw x (rw x at e)) (λ x. rw x (meet_apart o a b (rw x at e))) (λ x. rw x (rw x at e))

  meet_first_end : (a b : List Value) → meet a b ≡ First → m ≡ [] → meet (a ++ l) (b ++ m) ≡ First
  unfolding meet
  meet_first_end [] [] e z = bad (cc)
  meet_first_end [] (v ∷ b) e z = bad (cc)
  meet_first_end (u ∷ a) [] e z = rw z
  meet_first_end (u ∷ a) (v ∷ b) e z = each (cmp_value u v) (λ x. bad (cc)) (λ x. rw x (meet_first_end a b (rw x at e) z)) (λ x. bad (cc))

  meet_first_more : (w : Value) (a b : List Value) → meet a b ≡ First → Under a w → meet (a ++ l) (b ++ (w ∷ m)) ≡ Apart Less
  unfolding meet Under
  meet_first_more w [] [] e z = bad (cc)
  meet_first_more w [] (v ∷ b) e z = bad (cc)
  meet_first_more w (u ∷ a) [] e z = rw (kind_less u w z.0)
  meet_first_more w (u ∷ a) (v ∷ b) e z = each (cmp_value u v) (λ x. bad (cc)) (λ x. rw x (meet_first_more w a b (rw x at e) z.1)) (λ x. bad (cc))

-- ---- the values of a head
prefix_values_lem : (s : List ℕ) (p : Option Prefix) (e : ℕ) → values_in s (prefix_part p e) ≡ prefix_values s p
unfolding values_in
prefix_values_lem s None e = refl
prefix_values_lem s (Some p) e = refl

pub dir_values_lem : (s : List ℕ) (d : Dir) (e : ℕ) → values_in s (dir_part d e) ≡ dir_values (dir_rank d)
unfolding values_in dir_values
dir_values_lem s Bare e = refl
dir_values_lem s Root e = refl
dir_values_lem s Implied e = refl
dir_values_lem s Dot e = refl

pub head_values_lem : (s : List ℕ) (g : Start) → head_values s g ≡ prefix_values s g.prefix ++ dir_values (dir_rank g.dir)
unfolding head_values head_list
head_values_lem s g = values_append s (prefix_part g.prefix g.end) (dir_part g.dir g.end) ∙ rw (prefix_values_lem s g.prefix g.end, dir_values_lem s g.dir g.end)

-- a head of no values
pub no_head : (s : List ℕ) (p : Option Prefix) (d : Dir) → prefix_values s p ++ dir_values (dir_rank d) ≡ [] → (p ≡ None) × (d ≡ Bare)
unfolding dir_values
no_head s None Bare e = (refl, refl)
no_head s None Root e = bad (cc)
no_head s None Implied e = bad (cc)
no_head s None Dot e = bad (cc)
no_head s (Some p) d e = bad (cc)

head_under : (s : List ℕ) (w : Value) (p : Option Prefix) (d : Dir) → 3 ≤ w.kind → (d ≡ Dot → 4 ≤ w.kind) → Under (prefix_values s p ++ dir_values (dir_rank d)) w
unfolding dir_values Under
head_under s w None Bare h f = tt
head_under s w None Root h f = (omega arith, tt)
head_under s w None Implied h f = (omega arith, tt)
head_under s w None Dot h f = (omega (arith, f refl), tt)
head_under s w (Some p) Bare h f = (omega arith, tt)
head_under s w (Some p) Root h f = (omega arith, (omega arith, tt))
head_under s w (Some p) Implied h f = (omega arith, (omega arith, tt))
head_under s w (Some p) Dot h f = (omega arith, (omega (arith, f refl), tt))

one_first : (x : Value) (b : List Value) → meet (x ∷ []) b ≡ First → b ≡ []
unfolding meet
one_first x [] e = refl
one_first x (v ∷ []) e = each (cmp_value x v) (λ z. bad (cc)) (λ z. bad (cc)) (λ z. bad (cc))
one_first x (v ∷ w ∷ b) e = each (cmp_value x v) (λ z. bad (cc)) (λ z. bad (cc)) (λ z. bad (cc))

nil_none : (l : List Value) → is_nil l ≡ true → l ≡ []
nil_none [] e = refl
nil_none (v ∷ l) e = absurd (false≢true e)

by_nil : {A : Type 0} (l : List Value) → is_nil l ≡ false → ((v : Value) (n : List Value) → l ≡ v ∷ n → A) → A
by_nil [] e f = absurd (false≢true (sym e))
by_nil (v ∷ l) e f = f v l refl

-- a head with a dot is that dot alone
dot_values : (k : Seps) (s : List ℕ) (g : Start) → OpenAt k s g → g.dir ≡ Dot → head_values s g ≡ valued 3 [] ∷ []
unfolding dir_values
dot_values k s g o d = head_values_lem s g ∙ rw (dot_alone k s g o d, d)

-- an element of the head g of s, where the head h of t is used up, comes before the first part of t
module _ (k : Seps) (s : List ℕ) (g : Start) (t : List ℕ) (h : Start) (q : OpenAt k t h) where
  under : (w : Value) (n : List Value) → (g.dir ≡ Dot → head_values t h ≡ []) → body_values h.seps t h.at ≡ w ∷ n → Under (head_values s g) w
  under w n f e =
      rw (head_values_lem s g)
      (head_under s w g.prefix g.dir (rw e at (body_kind h.seps t h.at))
      (λ d. let z = no_head t h.prefix h.dir (sym (head_values_lem t h) ∙ f d) in rw e at (open_kind k t h q z.0 z.1)))

-- the lists of two paths, by how their heads meet
module _ (k : Seps) (s : List ℕ) (g : Start) (o : OpenAt k s g) (t : List ℕ) (h : Start) (q : OpenAt k t h) (m : Heads) (e : m ≡ meet (head_values s g) (head_values t h)) where
  parted : meet (values_of k s) (values_of k t) ≡ meet (head_values s g ++ body_values g.seps s g.at) (head_values t h ++ body_values h.seps t h.at)
  parted = rw (values_whole k s g o, values_whole k t h q)

  pub whole_same : m ≡ Same → meet (values_of k s) (values_of k t) ≡ meet (body_values g.seps s g.at) (body_values h.seps t h.at)
  whole_same f = parted ∙ meet_same _ _ (head_values s g) (head_values t h) (sym e ∙ f)

  pub whole_apart : (x : Ordering) → m ≡ Apart x → meet (values_of k s) (values_of k t) ≡ Apart x
  whole_apart x f = parted ∙ meet_apart _ _ x (head_values s g) (head_values t h) (sym e ∙ f)

  module _ (b : Bool) (f : m ≡ First) (z : b ≡ is_nil (body_values h.seps t h.at)) where
    pub whole_first_end : b ≡ true → meet (values_of k s) (values_of k t) ≡ First
    whole_first_end y = parted ∙ meet_first_end _ _ (head_values s g) (head_values t h) (sym e ∙ f) (nil_none _ (sym z ∙ y))

    pub whole_first_more : b ≡ false → meet (values_of k s) (values_of k t) ≡ Apart Less
    whole_first_more y =
        by_nil (body_values h.seps t h.at) (sym z ∙ y)
        (λ w n d. parted ∙ rw d (meet_first_more _ n w (head_values s g) (head_values t h) (sym e ∙ f)
        (under k s g t h q w n (λ x. one_first (valued 3 []) (head_values t h) (rw (dot_values k s g o x) at (sym e ∙ f))) d)))

-- the same where the second list ends first: told from that one's side
module _ (l m : List Value) where
  meet_second_end : (a b : List Value) → meet a b ≡ Second → l ≡ [] → meet (a ++ l) (b ++ m) ≡ Second
  meet_second_end a b e z = meet_turned (b ++ m) (a ++ l) ∙ ap turned (meet_first_end m l b a (meet_turned a b ∙ ap turned e) z)

  meet_second_more : (w : Value) (a b : List Value) → meet a b ≡ Second → Under b w → meet (a ++ (w ∷ l)) (b ++ m) ≡ Apart Greater
  meet_second_more w a b e z = meet_turned (b ++ m) (a ++ (w ∷ l)) ∙ ap turned (meet_first_more m l w b a (meet_turned a b ∙ ap turned e) z)

one_second : (x : Value) (b : List Value) → meet b (x ∷ []) ≡ Second → b ≡ []
one_second x b e = one_first x b (meet_turned b (x ∷ []) ∙ ap turned e)

-- and where its head does
module _ (k : Seps) (s : List ℕ) (g : Start) (o : OpenAt k s g) (t : List ℕ) (h : Start) (q : OpenAt k t h) (m : Heads) (e : m ≡ meet (head_values s g) (head_values t h))
    (b : Bool) (f : m ≡ Second) (z : b ≡ is_nil (body_values g.seps s g.at)) where
  heads_turned : First ≡ meet (head_values t h) (head_values s g)
  heads_turned = sym (meet_turned (head_values s g) (head_values t h) ∙ ap turned (sym e ∙ f))

  pub whole_second_end : b ≡ true → meet (values_of k s) (values_of k t) ≡ Second
  whole_second_end y = meet_turned (values_of k t) (values_of k s) ∙ ap turned (whole_first_end k t h q s g o First heads_turned b refl z y)

  pub whole_second_more : b ≡ false → meet (values_of k s) (values_of k t) ≡ Apart Greater
  whole_second_more y = meet_turned (values_of k t) (values_of k s) ∙ ap turned (whole_first_more k t h q s g o First heads_turned b refl z y)
