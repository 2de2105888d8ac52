-- Laws of the body of a path, over any set of separators.
use Prim.Native.Nat.{ℕ, zero, suc, ◌+◌, ◌-◌, ◌*◌, ◌^◌, ◌≤◌, ◌<◌}
use Rattle.std.specs.Int.{w64}
use Rattle.std.proofs.Common.{Fits, add-sub_of_le, not-suc-le-zero, le_of_suc-le-suc, ◌∙◌, ⊎_elim, inl, inr, drop_of_length-le, take-append-drop, drop-cons, get_or-drop, take-take}
use Rattle.std.proofs.Math.Numerals.{add-one, sub-one}
use Rattle.std.proofs.Math.Nat.{add-zero, add-suc, suc-add, add-sub_cancel_left}
use native.Mathlib.Omega.{arith}
use Rattle.std.proofs.Math.Path.{◌≡◌, refl, sym, ap}
use mir.Val.{bool_byte}
use mathlib.Core.List.{List, [], ◌∷◌, ◌++◌, append-nil}
use Rattle.std.specs.Prelude.{Bool, true, false, take, ltb, eqb, Option, Some, None, Result, Ok, Err}
use Rattle.std.proofs.Math.ListN.{length, get_or, drop, length-drop, length-append}
use Rattle.std.proofs.Math.Seq.{drop-drop, length-take-le, get_or-take, take-length}
use Rattle.std.proofs.lemmas.List.{drop-append-le, length-take, take_min}
use Rattle.octets.specs.Segment.{lead, end_of, EndAt}
use Rattle.octets.specs.Laws.{split, lead_short, end_more, end_out}
use Rattle.parts.specs.declared.Component.{Component}
use Rattle.parts.specs.declared.Component.TheVariants.{Prefix, RootDir, CurDir, ParentDir, Normal}
use Rattle.parts.specs.declared.Element.{Element}
use Rattle.parts.specs.declared.Part.{Part}
use borrow.Author.Tests.{ne_eqb, eqb-true, eqb-false, lt-ltb, le-ltb, ltb-true, ltb-false}
use Rattle.parts.specs.declared.Kind.{Kind}
use Rattle.parts.specs.declared.Kind.TheVariants.{Dot, DotDot, Name}
use Rattle.parts.specs.Body.{component_of, sort_by, sort_of, put, rest, body, from, sort_at}
use Rattle.parts.specs.Elements.{nth_of, nth_back_of, end_or, Upto}
use Rattle.parts.specs.Steps.{part_of, part_at, lift, raised, FirstAt, Took, within, BeginAt, LastAt, TookBack, BackAt, GoesBack}

-- a segment is told by its own bytes
sort_same : (v : Bool) (n a b c d : ℕ) → (0 < n → a ≡ c) → (1 < n → b ≡ d) → sort_by v n a b ≡ sort_by v n c d
unfolding sort_by
sort_same v zero a b c d f g = refl
sort_same v (suc zero) a b c d f g = rw (f (omega arith))
sort_same v (suc (suc n)) a b c d f g = rw (f (omega arith), g (omega arith))

module _ (sep : ℕ → Bool) (v : Bool) where
  -- behind the first separator stands the body of what follows it
  rest_body : (i : ℕ) (xs : List ℕ) → rest sep v i xs ≡ body sep v (i + suc (length (lead sep xs))) (drop (suc (length (lead sep xs))) xs)
  unfolding rest lead sort_by
  rest_body i [] = refl
  rest_body i (x ∷ xs) = split (sep x) (λ e. simp (e, add-one)) (λ e. simp (e, rest_body (suc i) xs, suc-add, add-suc))

  -- a segment is told by its length and the first two bytes from its place on
  sort_lead : (xs : List ℕ) → sort_of v (lead sep xs) ≡ sort_by v (length (lead sep xs)) (get_or xs 0 0) (get_or xs 1 0)
  unfolding lead sort_by
  sort_lead [] = refl
  sort_lead (x ∷ []) = split (sep x) (λ e. simp e) (λ e. simp e)
  sort_lead (x ∷ y ∷ xs) = split (sep x) (λ e. simp e) (λ e. split (sep y) (λ f. simp (e, f)) (λ f. simp (e, f)))

  -- the parts from place i on: that of the segment there, if it is one, and those from behind its end
  pub step : (s : List ℕ) (i : ℕ) → from sep v s i ≡ put (sort_at v s i (end_of sep s i)) i (end_of sep s i - i) (from sep v s (end_of sep s i + 1))
  unfolding from end_of
  step s i = rw (sort_lead (drop i s), rest_body i (drop i s)) (simp (get_or-drop, drop-drop, add-zero, add-one, add-suc, add-sub_cancel_left))

  pub from_is : (s : List ℕ) (i e : ℕ) (q : Kind) → EndAt sep s i e → sort_at v s i e ≡ Some q → from sep v s i ≡ record { component = component_of q; start = i; len = e - i } ∷ from sep v s (i + (e - i) + 1)
  from_is s i e q h g = step s i ∙ rw (← h.is, g) (rw (add-sub_of_le h.low))

  pub from_skip : (s : List ℕ) (i e : ℕ) → EndAt sep s i e → sort_at v s i e ≡ None → from sep v s i ≡ from sep v s (e + 1)
  from_skip s i e h g = step s i ∙ rw (← h.is, g)

  pub from_end : (s : List ℕ) (i : ℕ) → length s ≤ i → from sep v s i ≡ []
  unfolding from rest lead sort_by
  from_end s i h = simp (drop_of_length-le s h)

  -- ---- there are no more parts than bytes, and one
  put_few : (q : Option Kind) (i n : ℕ) (l : List Element) → length (put q i n l) ≤ suc (length l)
  put_few None i n l = omega arith
  put_few (Some k) i n l = omega arith

  rest_few : (i : ℕ) (xs : List ℕ) → length (rest sep v i xs) ≤ length xs
  unfolding rest
  rest_few i [] = omega arith
  rest_few i (x ∷ xs) =
      split (sep x)
      (λ e. rw e (omega (arith, rest_few (suc i) xs, put_few (sort_of v (lead sep xs)) (suc i) (length (lead sep xs)) (rest sep v (suc i) xs))))
      (λ e. rw e (omega (arith, rest_few (suc i) xs)))

  pub few : (s : List ℕ) (i : ℕ) → length (from sep v s i) ≤ length s + 1
  unfolding from
  few s i = omega (arith, rest_few i (drop i s), length-drop i s, put_few (sort_of v (lead sep (drop i s))) i (length (lead sep (drop i s))) (rest sep v i (drop i s)))

  -- ---- the parts lie in the path
  put_upto : (m : ℕ) (q : Option Kind) (i n : ℕ) (l : List Element) → i + n ≤ m → Upto m l → Upto m (put q i n l)
  unfolding Upto
  put_upto m None i n l h u = u
  put_upto m (Some k) i n l h u = (h, u)

  rest_upto : (m i : ℕ) (xs : List ℕ) → i + length xs ≤ m → Upto m (rest sep v i xs)
  unfolding rest Upto
  rest_upto m i [] h = tt
  rest_upto m i (x ∷ xs) h =
      let u = rest_upto m (suc i) xs (omega arith) in
      split (sep x)
      (λ e. rw e (put_upto m (sort_of v (lead sep xs)) (suc i) (length (lead sep xs)) _ (omega (arith, lead_short sep xs)) u))
      (λ e. rw e u)

  pub from_upto : (s : List ℕ) (i : ℕ) → i ≤ length s → Upto (length s) (from sep v s i)
  unfolding from
  from_upto s i h =
      let d : i + length (drop i s) ≤ length s = omega (arith, length-drop i s) in
      put_upto (length s) (sort_of v (lead sep (drop i s))) i (length (lead sep (drop i s))) _ (omega (arith, lead_short sep (drop i s))) (rest_upto (length s) i (drop i s) d)

  -- ---- a separator parts the body in two
  put_append : (q : Option Kind) (i n : ℕ) (l m : List Element) → put q i n l ++ m ≡ put q i n (l ++ m)
  put_append None i n l m = refl
  put_append (Some k) i n l m = refl

  lead_seam : (r : List ℕ) (y : ℕ) (w : List ℕ) → sep y ≡ true → lead sep (r ++ y ∷ w) ≡ lead sep r
  unfolding lead
  lead_seam [] y w e = rw e
  lead_seam (x ∷ r) y w e = rw (lead_seam r y w e)

  rest_seam : (i : ℕ) (r : List ℕ) (y : ℕ) (w : List ℕ) → sep y ≡ true → rest sep v i (r ++ y ∷ w) ≡ rest sep v i r ++ body sep v (i + suc (length r)) w
  unfolding rest
  rest_seam i [] y w e = simp (e, add-one)
  rest_seam i (x ∷ r) y w e =
      split (sep x)
      (λ f. simp (f, lead_seam r y w e, rest_seam (suc i) r y w e, put_append, suc-add, add-suc))
      (λ f. simp (f, rest_seam (suc i) r y w e, suc-add, add-suc))

  pub seam : (i : ℕ) (r : List ℕ) (y : ℕ) (w : List ℕ) → sep y ≡ true → body sep v i (r ++ y ∷ w) ≡ body sep v i r ++ body sep v (i + suc (length r)) w
  seam i r y w e = rw (lead_seam r y w e, rest_seam i r y w e, put_append)

module _ {sep : ℕ → Bool} {v : Bool} {s : List ℕ} {i : ℕ} {r : Option Part} (h : FirstAt sep v s i r) where
  pub first_none : r ≡ None → from sep v s i ≡ []
  first_none e = rw e at h.is

  pub first_found : {p : Part} → r ≡ Some p → Took sep v s i p
  first_found e = let w = rw e at h.spans in record { is = rw e at h.is; low = w.0; high = w.1; room = w.2 }

module _ {l : List Element} where
  pub nth_none : (n : ℕ) → l ≡ [] → nth_of l n ≡ None
  unfolding nth_of
  nth_none n e = rw e

  pub nth_here : {n : ℕ} {p : Element} {m : List Element} → l ≡ p ∷ m → n ≡ 0 → nth_of l n ≡ Some p
  unfolding nth_of
  nth_here e z = rw (e, z)

  pub nth_step : {n : ℕ} {p : Element} {m : List Element} → l ≡ p ∷ m → (n ≡ 0 → ⊥) → nth_of l n ≡ nth_of m (n - 1)
  unfolding nth_of
  nth_step {n} {p} {m} e h = rw e (go n h)
    where
      go : (n : ℕ) → (n ≡ 0 → ⊥) → nth_of (p ∷ m) n ≡ nth_of m (n - 1)
      go zero h = absurd (h refl)
      go (suc n) h = rw sub-one

pub upto_nth : (m : ℕ) (l : List Element) (f : ℕ) → Upto m l → end_or (nth_of l f) ≤ m
unfolding Upto nth_of
upto_nth m [] f u = omega arith
upto_nth m (p ∷ l) zero u = u.0
upto_nth m (p ∷ l) (suc f) u = upto_nth m l f u.1

pub upto_append : (m : ℕ) (l r : List Element) → Upto m l → Upto m r → Upto m (l ++ r)
unfolding Upto
upto_append m [] r u w = w
upto_append m (p ∷ l) r u w = (u.0, upto_append m l r u.1 w)

-- ---- the turns of a step: e says what the loop has kept, and the other premises are what a turn learns

-- what stands before a list
abbrev before : Option Part → List Element → List Element
before None l = l
before (Some p) l = lift p ∷ l

put_before : (q : Option Kind) (i n : ℕ) (l : List Element) → put q i n l ≡ before (part_of q i n) l
put_before None i n l = refl
put_before (Some k) i n l = refl

-- a segment's part lies where it does
placed : (q : Option Kind) (i n : ℕ) (p : Part) → part_of q i n ≡ Some p → (p.start ≡ i) × (p.len ≡ n)
placed None i n p h = let z : ◌≡◌ {A = ℕ} 0 1 = cc in absurd (omega arith)
placed (Some k) i n p h = (cc, cc)

-- `first`
module _ (sep : ℕ → Bool) (v : Bool) (s : List ℕ) (at i n : ℕ) (o : Option Part) (g : o ≡ part_at v s i n) (d : EndAt sep s i n) (e : from sep v s at ≡ from sep v s i) where
  turn : from sep v s at ≡ before o (from sep v s (n + 1))
  turn = e ∙ step sep v s i ∙ rw (← d.is, put_before (sort_at v s i n) i (n - i) (from sep v s (n + 1)), g)

  pub first_skip : o ≡ None → from sep v s at ≡ from sep v s (n + 1)
  first_skip h = turn ∙ ap (λ (q : Option Part). before q (from sep v s (n + 1))) h

  first_on : (p : Part) → o ≡ Some p → n + 1 ≡ p.start + p.len + 1
  first_on p h = let w = placed (sort_at v s i n) i (n - i) p (sym g ∙ h) in omega (arith, w.0, w.1, d.low)

pub first_here : (sep : ℕ → Bool) (v : Bool) (s : List ℕ) (at i n : ℕ) (o : Option Part) (p : Part) → o ≡ Some p → o ≡ part_at v s i n → EndAt sep s i n → from sep v s at ≡ from sep v s i → at ≤ i → length s * 1 < 2 ^ 63 → FirstAt sep v s at (Some p)
first_here sep v s at i n o p h g d e l w =
    let z = placed (sort_at v s i n) i (n - i) p (sym g ∙ h) in
    record {
      is = turn sep v s at i n o g d e ∙ rw (h, first_on sep v s at i n o g d e p h) refl;
      spans = (omega (arith, z.0), omega (arith, z.0, z.1, d.low, d.high), omega arith);
    }

-- a step on leaves fewer
pub first_less : (sep : ℕ → Bool) (v : Bool) (s : List ℕ) (at i n : ℕ) (o : Option Part) (p : Part) → o ≡ Some p → o ≡ part_at v s i n → EndAt sep s i n → from sep v s at ≡ from sep v s i → length (from sep v s (n + 1)) < length (from sep v s at)
first_less sep v s at i n o p h g d e = omega (arith, ap length (turn sep v s at i n o g d e ∙ ap (λ (q : Option Part). before q (from sep v s (n + 1))) h))

pub first_out : (sep : ℕ → Bool) (v : Bool) (s : List ℕ) (at i : ℕ) → from sep v s at ≡ from sep v s i → length s ≤ i → FirstAt sep v s at None
first_out sep v s at i e h = record { is = e ∙ from_end sep v s i h; spans = tt }

-- what a walk on by `first` learns: the next place fits, and is further on
module _ (sep : ℕ → Bool) (v : Bool) (s : List ℕ) (i : ℕ) (r : Option Part) (p : Part) (f : FirstAt sep v s i r) (g : r ≡ Some p) where
  pub end_fits : Fits w64 (p.start + p.len)
  end_fits = let t = first_found f g in record { fits = omega arith }

  pub next_fits : Fits w64 (p.start + p.len + 1)
  next_fits = let t = first_found f g in record { fits = omega arith }

  pub part_in : p.start + p.len ≤ length s
  part_in = (first_found f g).high

  pub walk_falls : length s + 1 - (p.start + p.len + 1) < length s + 1 - i
  walk_falls = let t = first_found f g in omega arith

-- ---- from the back

module _ (sep : ℕ → Bool) (v : Bool) (s : List ℕ) where
  -- the bytes from lo to hi, parted at a place between
  parted : (lo j hi : ℕ) → lo ≤ j → j < hi → hi ≤ length s → drop lo (take hi s) ≡ drop lo (take j s) ++ get_or s j 0 ∷ drop (suc j) (take hi s)
  parted lo j hi a b c =
      let n : length (take hi s) ≡ hi = length-take-le hi s c in
      let m : length (take j s) ≡ j = length-take-le j s (omega arith) in
      ap (drop lo) (sym (take-append-drop j (take hi s))) ∙ rw (take-take j hi s (omega arith), drop-cons (take hi s) j 0 (omega arith), get_or-take hi s j 0 b) (drop-append-le lo (take j s) _ (omega arith))

  -- a separator parts the list
  pub cut : (lo j hi : ℕ) → lo ≤ j → j < hi → hi ≤ length s → sep (get_or s j 0) ≡ true → within sep v s lo hi ≡ within sep v s lo j ++ within sep v s (j + 1) hi
  unfolding within from
  cut lo j hi a b c e =
      let m : length (take j s) ≡ j = length-take-le j s (omega arith) in
      let n : lo + suc (length (drop lo (take j s))) ≡ suc j = omega (arith, length-drop lo (take j s)) in
      rw (parted lo j hi a b c, add-one) (seam sep v lo (drop lo (take j s)) (get_or s j 0) (drop (suc j) (take hi s)) e ∙ rw n)

  pub within_none : (lo hi : ℕ) → hi ≤ lo → hi ≤ length s → within sep v s lo hi ≡ []
  unfolding within
  within_none lo hi h c = from_end sep v (take hi s) lo (omega (arith, length-take-le hi s c))

  -- the list of a segment alone
  pub alone : (i hi : ℕ) → hi ≤ length s → i ≤ hi → end_of sep (take hi s) i ≡ hi → within sep v s i hi ≡ put (sort_at v s i hi) i (hi - i) []
  unfolding within
  alone i hi c h e =
      step sep v (take hi s) i
      ∙ rw (e, from_end sep v (take hi s) (hi + 1) (omega (arith, length-take-le hi s c)), sort_same v (hi - i) (get_or (take hi s) i 0) (get_or (take hi s) (i + 1) 0) (get_or s i 0) (get_or s (i + 1) 0) (λ l. get_or-take hi s i 0 (omega arith)) (λ l. get_or-take hi s (i + 1) 0 (omega arith)))

  -- before a segment stands what stands before the separator ahead of it
  pub ahead : (lo i : ℕ) → lo < i → i ≤ length s → sep (get_or s (i - 1) 0) ≡ true → within sep v s lo i ≡ within sep v s lo (i - 1)
  ahead lo i l c e =
      let n : i - 1 + 1 ≡ i = omega arith in
      cut lo (i - 1) i (omega arith) (omega arith) c e ∙ rw (n, within_none i i (omega arith) c, append-nil)

  pub seam_at : (lo i hi : ℕ) → hi ≤ length s → BeginAt sep s lo hi i → within sep v s lo hi ≡ within sep v s lo i ++ within sep v s i hi
  seam_at lo i hi c h =
      let k = h.high in
      ⊎_elim
      (λ e. rw (e, within_none lo lo (omega arith) (omega arith)))
      (λ w. let n : i - 1 + 1 ≡ i = omega arith in
      rw (ahead lo i w.0 (omega arith) w.1) (cut lo (i - 1) hi (omega (arith, w.0)) (omega (arith, w.0)) c w.1 ∙ rw n))
      h.edge

-- `prev_sep`: e says that no separator stands between i and hi
pub begin_start : (sep : ℕ → Bool) (s : List ℕ) (hi : ℕ) → hi ≤ length s → end_of sep (take hi s) hi ≡ hi
begin_start sep s hi c = end_out sep (take hi s) hi (omega (arith, length-take-le hi s c))

module _ (sep : ℕ → Bool) (s : List ℕ) (lo hi i : ℕ) (e : end_of sep (take hi s) i ≡ hi) (c : hi ≤ length s) (h : i ≤ hi) where
  module _ (b : Bool) (t : b ≡ sep (get_or s (i - 1) 0)) (l : lo < i) where
    pub begin_here : b ≡ true → BeginAt sep s lo hi i
    begin_here y = record { low = omega arith; high = h; clear = e; edge = inr (l, sym t ∙ y) }

    pub begin_more : b ≡ false → end_of sep (take hi s) (i - 1) ≡ hi
    begin_more n =
        let m : i - 1 + 1 ≡ i = omega arith in
        let g : get_or (take hi s) (i - 1) 0 ≡ get_or s (i - 1) 0 = get_or-take hi s (i - 1) 0 (omega arith) in
        end_more sep (take hi s) (i - 1) (omega (arith, length-take-le hi s c)) (rw g (sym t ∙ n)) ∙ rw m e

  pub begin_out : lo ≤ i → i ≤ lo → BeginAt sep s lo hi i
  begin_out l g = record { low = l; high = h; clear = e; edge = inl (omega arith) }

-- before a segment stands what stands before the separator ahead of it, if one does
cut_same : (sep : ℕ → Bool) (v : Bool) (s : List ℕ) (lo hi i : ℕ) → BeginAt sep s lo hi i → hi ≤ length s → (c : ℕ) → c ≡ bool_byte (ltb lo i) → within sep v s lo i ≡ within sep v s lo (i - c)
cut_same sep v s lo hi i b d c f =
    split (ltb lo i)
    (λ t. let l = ltb-true lo i t in
    let n : i - c ≡ i - 1 = rw (f, t) refl in
    rw n (⊎_elim (λ w. absurd (omega (arith, w))) (λ w. ahead sep v s lo i l (omega (arith, b.high)) w.1) b.edge))
    (λ t. let n : i - c ≡ i = rw (f, t) (omega arith) in rw n refl)

-- `next_back`: e says that nothing stands between hi and top, and c takes the separator ahead of a segment away
module _ (sep : ℕ → Bool) (v : Bool) (s : List ℕ) (lo top hi i : ℕ) (o : Option Part) (g : o ≡ part_at v s i hi) (b : BeginAt sep s lo hi i) (e : within sep v s lo top ≡ within sep v s lo hi) (m : hi ≤ top) (d : top ≤ length s) where
  here : within sep v s lo top ≡ within sep v s lo i ++ before o []
  here =
      e ∙ seam_at sep v s lo i hi (omega arith) b
      ∙ rw (alone sep v s i hi (omega arith) b.high b.clear, put_before (sort_at v s i hi) i (hi - i) [], g)

  pub back_here : (p : Part) → o ≡ Some p → length s * 1 < 2 ^ 63 → LastAt sep v s lo top (Some p)
  back_here p h w =
      let z = placed (sort_at v s i hi) i (hi - i) p (sym g ∙ h) in
      record { is = here ∙ rw (h, z.0) refl; spans = (omega (arith, z.0, b.low), omega (arith, z.0, z.1, b.high), d, omega arith) }

  pub back_skip : (c : ℕ) → c ≡ bool_byte (ltb lo i) → o ≡ None → within sep v s lo top ≡ within sep v s lo (i - c)
  back_skip c f h = here ∙ rw (h, append-nil) (cut_same sep v s lo hi i b (omega arith) c f)

-- what a step back cuts off
module _ (sep : ℕ → Bool) (v : Bool) (s : List ℕ) (lo hi i c : ℕ) (o : Option Part) (p : Part) (h : o ≡ Some p) (g : o ≡ part_at v s i hi) (b : BeginAt sep s lo hi i) (f : c ≡ bool_byte (ltb lo i)) (m : hi ≤ length s) where
  pub cut_high : length (take (i - c) s) ≤ p.start
  cut_high =
      let z = placed (sort_at v s i hi) i (hi - i) p (sym g ∙ h) in
      omega (arith, z.0, length-take-le (i - c) s (omega (arith, b.high)))

  pub cut_is : from sep v (take (i - c) s) lo ≡ within sep v s lo p.start
  unfolding within
  cut_is =
      let z = placed (sort_at v s i hi) i (hi - i) p (sym g ∙ h) in
      rw (z.0) (sym (cut_same sep v s lo hi i b m c f))

  -- it leaves fewer
  pub last_less : within sep v s lo (length s) ≡ within sep v s lo hi → length (from sep v (take (i - c) s) lo) < length (from sep v s lo)
  unfolding within
  last_less e =
      let w : within sep v s lo (length s) ≡ within sep v s lo i ++ (lift p ∷ []) = here sep v s lo (length s) hi i o g b e m (omega arith) ∙ rw h refl in
      let k = cut_same sep v s lo hi i b m c f in
      let y : from sep v (take (length s) s) lo ≡ from sep v s lo = rw (take-length s) refl in
      omega (arith, ap length w, length-append (within sep v s lo i) (lift p ∷ []), ap length k, ap length y)

pub take_same : (n : ℕ) (s w : List ℕ) → w ≡ take n s → w ≡ take (length w) s
take_same n s w e = e ∙ sym (take_min n s) ∙ rw (e, length-take n s) refl

pub back_out : (sep : ℕ → Bool) (v : Bool) (s : List ℕ) (lo top hi : ℕ) → within sep v s lo top ≡ within sep v s lo hi → hi ≤ top → top ≤ length s → hi ≤ lo → LastAt sep v s lo top None
back_out sep v s lo top hi e m d h = record { is = e ∙ within_none sep v s lo hi h (omega arith); spans = tt }

module _ {sep : ℕ → Bool} {v : Bool} {s : List ℕ} {lo hi : ℕ} {r : Option Part} (h : LastAt sep v s lo hi r) where
  pub last_none : r ≡ None → within sep v s lo hi ≡ []
  last_none e = rw e at h.is

  pub last_found : {p : Part} → r ≡ Some p → TookBack sep v s lo hi p
  last_found e = let w = rw e at h.spans in record { is = rw e at h.is; low = w.0; high = w.1; inside = w.2; room = w.3 }

-- the element that has b others behind it, of a list that ends in p
pub nth_append : (l m : List Element) (f : ℕ) → f < length l → nth_of (l ++ m) f ≡ nth_of l f
unfolding nth_of
nth_append [] m f h = absurd (not-suc-le-zero h)
nth_append (q ∷ l) m zero h = refl
nth_append (q ∷ l) m (suc f) h = nth_append l m f (omega arith)

-- behind the first list
pub nth_behind : (l m : List Element) (f : ℕ) → length l ≤ f → nth_of (l ++ m) f ≡ nth_of m (f - length l)
unfolding nth_of
nth_behind [] m f h = ap (nth_of m) (omega arith)
nth_behind (q ∷ l) m zero h = absurd (omega arith)
nth_behind (q ∷ l) m (suc f) h =
    let e : suc f - suc (length l) ≡ f - length l = omega arith in
    nth_behind l m f (omega arith) ∙ ap (nth_of m) (sym e)

-- of two lists, the one behind first
module _ (l m : List Element) (b : ℕ) where
  pub back_behind : b < length m → nth_back_of (l ++ m) b ≡ nth_back_of m b
  unfolding nth_back_of
  back_behind h =
      let n : length (l ++ m) ≡ length l + length m = length-append l m in
      let k : length (l ++ m) - 1 - b - length l ≡ length m - 1 - b = omega arith in
      simp (lt-ltb b (length m) h, lt-ltb b (length (l ++ m)) (omega arith)) (nth_behind l m (length (l ++ m) - 1 - b) (omega arith) ∙ ap (nth_of m) k)

  pub back_before : length m ≤ b → nth_back_of (l ++ m) b ≡ nth_back_of l (b - length m)
  unfolding nth_back_of
  back_before h =
      let n : length (l ++ m) ≡ length l + length m = length-append l m in
      let k : length (l ++ m) - 1 - b ≡ length l - 1 - (b - length m) = omega arith in
      split (ltb (b - length m) (length l))
      (λ t. let g = ltb-true (b - length m) (length l) t in
      simp (lt-ltb (b - length m) (length l) g, lt-ltb b (length (l ++ m)) (omega arith), k) (nth_append l m (length l - 1 - (b - length m)) (omega arith)))
      (λ t. let g = ltb-false (b - length m) (length l) t in
      simp (le-ltb (b - length m) (length l) g, le-ltb b (length (l ++ m)) (omega arith)))

-- no element past the end; one before it
pub back_past : (l : List Element) (b : ℕ) → length l ≤ b → nth_back_of l b ≡ None
unfolding nth_back_of
back_past l b h = simp (le-ltb b (length l) h)

pub back_nth : (l : List Element) (b : ℕ) → b < length l → nth_back_of l b ≡ nth_of l (length l - 1 - b)
unfolding nth_back_of
back_nth l b h = simp (lt-ltb b (length l) h)

pub nth_past : (l : List Element) (f : ℕ) → length l ≤ f → nth_of l f ≡ None
unfolding nth_of
nth_past [] f h = refl
nth_past (p ∷ l) zero h = absurd (omega arith)
nth_past (p ∷ l) (suc f) h = nth_past l f (omega arith)

nth_full : (l : List Element) (f : ℕ) → f < length l → nth_of l f ≡ None → ⊥
unfolding nth_of
nth_full [] f h e = absurd (omega arith)
nth_full (p ∷ l) zero h e = let z : ◌≡◌ {A = ℕ} 0 1 = cc in absurd (omega arith)
nth_full (p ∷ l) (suc f) h e = nth_full l f (omega arith) e

pub back_missing : (l : List Element) (b : ℕ) → nth_back_of l b ≡ None → length l ≤ b
back_missing l b e =
    split (ltb b (length l))
    (λ t. let h = ltb-true b (length l) t in absurd (nth_full l (length l - 1 - b) (omega arith) (sym (back_nth l b h) ∙ e)))
    (λ t. ltb-false b (length l) t)

pub nth_inside : (l : List Element) (f : ℕ) {p : Element} → nth_of l f ≡ Some p → f < length l
nth_inside l f {p} h =
    split (ltb f (length l))
    (λ t. ltb-true f (length l) t)
    (λ t. let e : None ≡ Some p = sym (nth_past l f (ltb-false f (length l) t)) ∙ h in let z : ◌≡◌ {A = ℕ} 0 1 = cc in absurd (omega arith))

pub back_inside_of : (l : List Element) (b : ℕ) {p : Element} → nth_back_of l b ≡ Some p → b < length l
back_inside_of l b {p} h =
    split (ltb b (length l))
    (λ t. ltb-true b (length l) t)
    (λ t. let e : None ≡ Some p = sym (back_past l b (ltb-false b (length l) t)) ∙ h in let z : ◌≡◌ {A = ℕ} 0 1 = cc in absurd (omega arith))

nth_seam : (l : List Element) (p : Element) → nth_of (l ++ (p ∷ [])) (length l) ≡ Some p
unfolding nth_of
nth_seam [] p = refl
nth_seam (q ∷ l) p = nth_seam l p

module _ (m l : List Element) (p : Element) (e : m ≡ l ++ (p ∷ [])) where
  pub back_last : nth_back_of m 0 ≡ Some p
  unfolding nth_back_of
  back_last =
      let n : length m ≡ length l + 1 = ap length e ∙ length-append l (p ∷ []) in
      let k : length m - 1 - 0 ≡ length l = omega arith in
      simp (lt-ltb 0 (length m) (omega arith), k) (rw e (nth_seam l p))

  pub back_on : (b : ℕ) → nth_back_of m (b + 1) ≡ nth_back_of l b
  unfolding nth_back_of
  back_on b =
      let n : length m ≡ length l + 1 = ap length e ∙ length-append l (p ∷ []) in
      let k : length m - 1 - (b + 1) ≡ length l - 1 - b = omega arith in
      split (ltb b (length l))
      (λ t. let h = ltb-true b (length l) t in simp (lt-ltb b (length l) h, lt-ltb (b + 1) (length m) (omega arith), k) (rw e (nth_append l (p ∷ []) (length l - 1 - b) (omega arith))))
      (λ t. let h = ltb-false b (length l) t in simp (le-ltb b (length l) h, le-ltb (b + 1) (length m) (omega arith)))

pub back_none : (m : List Element) (b : ℕ) → m ≡ [] → nth_back_of m b ≡ None
unfolding nth_back_of
back_none m b e = rw e (simp (le-ltb b 0 (omega arith)))

-- what a walk back by `last` learns
module _ (sep : ℕ → Bool) (v : Bool) (s : List ℕ) (lo hi : ℕ) (r : Option Part) (f : LastAt sep v s lo hi r) where
  pub back_inside : (p : Part) → r ≡ Some p → p.start ≤ length s
  back_inside p g = let t = last_found f g in omega arith

  -- a measure: the list before a part is shorter
  pub back_falls : (p : Part) → r ≡ Some p → length (within sep v s lo p.start) < length (within sep v s lo hi)
  back_falls p g = omega (arith, ap length (last_found f g).is, length-append (within sep v s lo p.start) (lift p ∷ []))

  -- two answers coincide: each is the list's last element
  pub last_one : raised r ≡ nth_back_of (within sep v s lo hi) 0
  last_one = go r f
    where
      go : (r : Option Part) → LastAt sep v s lo hi r → raised r ≡ nth_back_of (within sep v s lo hi) 0
      go None f = sym (back_none (within sep v s lo hi) 0 f.is)
      go (Some p) f = sym (back_last (within sep v s lo hi) (within sep v s lo p.start) (lift p) f.is)

-- a walk back: it begins at the list's own end, and its answer tells the element there, or that the list is too short
pub behind_all : (l : List Element) (b : ℕ) → GoesBack l b l b
behind_all l b = record { same = refl; left = refl }

module _ (l : List Element) (b : ℕ) (w : Result Part ℕ) (h : BackAt l b w) where
  pub back_at : (p : Part) → w ≡ Ok p → Some (lift p) ≡ nth_back_of l b
  back_at p e = rw e at h

  pub back_over : (n : ℕ) → w ≡ Err n → None ≡ nth_back_of l b
  back_over n e = let t : length l + n ≡ b = rw e at h in sym (back_past l b (omega arith))

-- `next`, `next_back`, and what callers' walks by `first` and `last` learn
pub ruleset firsts = (first_here, first_less, first_skip, first_out)

pub ruleset lasts = (back_out, back_here, back_skip, cut_high, cut_is, last_less, take_same)

pub ruleset walks = (back_inside, back_falls, end_fits, next_fits, part_in, walk_falls)

-- `part_at`: the segment from i to e, cut out of the path
pub sort_part : (v : Bool) (s : List ℕ) (i e : ℕ) (o : Option Kind) → i ≤ e → e ≤ length s → o ≡ sort_of v (take (e - i) (drop i s)) → o ≡ sort_at v s i e
sort_part v s i e o l h g =
    let n : length (take (e - i) (drop i s)) ≡ e - i = length-take-le (e - i) (drop i s) (omega (arith, length-drop i s)) in
    g ∙ rw n (sort_same v (e - i) _ _ _ _ (λ u. get_or-take (e - i) (drop i s) 0 0 u ∙ get_or-drop i s 0 0 ∙ rw add-zero) (λ u. get_or-take (e - i) (drop i s) 1 0 u ∙ get_or-drop i s 1 0))

-- `sort_of`: t is what `dot_counts` answered
module _ (v : Bool) (n a b : ℕ) where
  pub sort_none : n ≡ 0 → None ≡ sort_by v n a b
  unfolding sort_by
  sort_none e = rw e

  pub sort_dot : (t : Bool) → n ≡ 1 → a ≡ 46 → t ≡ v → t ≡ true → Some Dot ≡ sort_by v n a b
  unfolding sort_by
  sort_dot t e f g h = rw (e, f, ← g, h)

  pub sort_skip : (t : Bool) → n ≡ 1 → a ≡ 46 → t ≡ v → t ≡ false → None ≡ sort_by v n a b
  unfolding sort_by
  sort_skip t e f g h = rw (e, f, ← g, h)

  pub sort_parent : n ≡ 2 → a ≡ 46 → b ≡ 46 → Some DotDot ≡ sort_by v n a b
  unfolding sort_by
  sort_parent e f g = rw (e, f, g)

  pub sort_two : n ≡ 2 → a ≡ 46 → (b ≡ 46 → ⊥) → Some Name ≡ sort_by v n a b
  unfolding sort_by
  sort_two e f g = simp (e, f, ne_eqb b 46 g)

  pub sort_long : (n ≡ 0 → ⊥) → (n ≡ 1 → ⊥) → (n ≡ 2 → ⊥) → a ≡ 46 → Some Name ≡ sort_by v n a b
  unfolding sort_by
  sort_long x y z f = simp (ne_eqb n 0 x, ne_eqb n 1 y, ne_eqb n 2 z, f)

  pub sort_plain : (n ≡ 0 → ⊥) → (a ≡ 46 → ⊥) → Some Name ≡ sort_by v n a b
  unfolding sort_by
  sort_plain x f = simp (ne_eqb n 0 x, ne_eqb a 46 f)

pub ruleset begins = (begin_start, begin_here, begin_more, begin_out)

pub ruleset sorts = (sort_part, sort_none, sort_dot, sort_skip, sort_parent, sort_two, sort_long, sort_plain)

-- `lifted`
pub lift_is : (r : Option Part) (p : Part) (x : Component) → r ≡ Some p → x ≡ component_of p.kind → Some (record { component = x; start = p.start; len = p.len }) ≡ raised r
lift_is r p x e f = rw (e, f)

pub ruleset lifts = (lift_is)

-- ---- what every element of a body is: a segment of at least one byte, without a separator, of a kind that a segment can have

abbrev pub Bodily : Bool → Component → Type 0
Bodily v (Prefix p) = ⊥
Bodily v RootDir = ⊥
Bodily v CurDir = v ≡ true
Bodily v ParentDir = Unit
Bodily v Normal = Unit

pub record Good (sep : ℕ → Bool) (v : Bool) (s : List ℕ) (x : Element) : Type 0 where
  pub some : 0 < x.len
  pub inside : x.start + x.len ≤ length s
  pub clear : (j : ℕ) → j < x.len → sep (get_or s (x.start + j) 0) ≡ false
  pub bodily : Bodily v x.component

unfoldable pub Goods : (ℕ → Bool) → Bool → List ℕ → List Element → Type 0
Goods sep v s [] = Unit
Goods sep v s (x ∷ l) = Good sep v s x × Goods sep v s l

-- a segment of n bytes that is a part has one, and its kind fits
abbrev Sorted : Bool → ℕ → Option Kind → Type 0
Sorted v n None = Unit
Sorted v n (Some k) = (0 < n) × Bodily v (component_of k)

sorted : (v : Bool) (n a b : ℕ) → Sorted v n (sort_by v n a b)
unfolding sort_by
sorted v zero a b = tt
sorted v (suc zero) a b = split (eqb a 46) (λ e. rw e (split v (λ f. rw f (omega arith, refl)) (λ f. rw f tt))) (λ e. rw e (omega arith, tt))
sorted v (suc (suc zero)) a b = split (eqb a 46) (λ e. rw e (split (eqb b 46) (λ f. rw f (omega arith, tt)) (λ f. rw f (omega arith, tt)))) (λ e. rw e (omega arith, tt))
sorted v (suc (suc (suc n))) a b =
    split (eqb a 46)
    (λ e. rw (← sort_long v (suc (suc (suc n))) a b (λ z. omega arith) (λ z. omega arith) (λ z. omega arith) (eqb-true a 46 e)) (omega arith, tt))
    (λ e. rw (← sort_plain v (suc (suc (suc n))) a b (λ z. omega arith) (eqb-false a 46 e)) (omega arith, tt))

module _ (sep : ℕ → Bool) where
  lead_clear : (xs : List ℕ) (j : ℕ) → j < length (lead sep xs) → sep (get_or xs j 0) ≡ false
  unfolding lead
  lead_clear [] j h = absurd (not-suc-le-zero h)
  lead_clear (x ∷ xs) zero h = split (sep x) (λ e. absurd (not-suc-le-zero (rw e at h))) (λ e. e)
  lead_clear (x ∷ xs) (suc j) h = split (sep x) (λ e. absurd (not-suc-le-zero (rw e at h))) (λ e. lead_clear xs j (le_of_suc-le-suc (rw e at h)))

  module _ (v : Bool) (s : List ℕ) where
    -- the segment at place i, where xs stands, before good elements
    put_good : (i : ℕ) (xs : List ℕ) (l : List Element) → drop i s ≡ xs → Goods sep v s l → (q : Option Kind) → Sorted v (length (lead sep xs)) q → Goods sep v s (put q i (length (lead sep xs)) l)
    unfolding Goods
    put_good i xs l e u None h = u
    put_good i xs l e u (Some k) h = (
      record {
        some = h.0;
        inside = omega (arith, h.0, lead_short sep xs, ap length e, length-drop i s);
        clear = λ j m. ap sep (sym (get_or-drop i s j 0) ∙ ap (λ (w : List ℕ). get_or w j 0) e) ∙ lead_clear xs j m;
        bodily = h.1;
      },
      u,
    )

    segment_good : (i : ℕ) (xs : List ℕ) (l : List Element) → drop i s ≡ xs → Goods sep v s l → Goods sep v s (put (sort_of v (lead sep xs)) i (length (lead sep xs)) l)
    segment_good i xs l e u = put_good i xs l e u (sort_of v (lead sep xs)) (sorted v (length (lead sep xs)) (get_or (lead sep xs) 0 0) (get_or (lead sep xs) 1 0))

    rest_good : (i : ℕ) (xs : List ℕ) → drop i s ≡ xs → Goods sep v s (rest sep v i xs)
    unfolding rest Goods
    rest_good i [] e = tt
    rest_good i (x ∷ xs) e =
        let d : drop (suc i) s ≡ xs = rw (← add-one i, ← drop-drop 1 i s) (ap (drop 1) e) in
        split (sep x)
        (λ f. rw f (segment_good (suc i) xs _ d (rest_good (suc i) xs d)))
        (λ f. rw f (rest_good (suc i) xs d))

    pub from_good : (i : ℕ) → Goods sep v s (from sep v s i)
    unfolding from
    from_good i = segment_good i (drop i s) _ refl (rest_good i (drop i s) refl)

    -- an element of good ones is good
    pub good_nth : (l : List Element) (f : ℕ) (p : Element) → Goods sep v s l → nth_of l f ≡ Some p → Good sep v s p
    unfolding Goods nth_of
    good_nth [] f p u e = let z : ◌≡◌ {A = ℕ} 0 1 = cc in absurd (omega arith)
    good_nth (x ∷ l) zero p u e = let z : x ≡ p = cc in rw z at u.0
    good_nth (x ∷ l) (suc f) p u e = good_nth l f p u.1 e
