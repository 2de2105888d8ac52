-- Laws of the byte classes, as a match on a byte asks them, of the fold that tells a letter, and of where a segment ends.
use Rattle.std.proofs.Common.{arith, add-one, drop_of_length-le, sym, ◌∙◌, length-drop, drop-drop, length-take-le, take_all, mul_comm}
use Prim.Native.Nat.{ℕ, zero, suc, ◌+◌, ◌*◌, ◌-◌, ◌/◌, ◌<◌, ◌≤◌}
use Rattle.std.specs.Prelude.{List, [], ◌∷◌, Bool, true, false, cond, not, ◌||◌, leb, ltb, length, get_or, take, drop, ◌≡◌, refl, Option, Some, None}
use Rattle.std.specs.List.{list_any, fold, position_or_len, position}
use Rattle.std.specs.Option.{unwrap_or}
use Rattle.std.proofs.lemmas.List.Sums.{prefix_len-le-length}
use Rattle.std.specs.Simd.{first_chunks}
use Rattle.std.proofs.lemmas.Bool.{false≢true}
use Rattle.std.proofs.lemmas.Option.{cond_some, none-some}
use Rattle.std.specs.Int.Bits.{bit_and}
use Rattle.std.proofs.Math.Seq.{drop-cons}
use borrow.Author.Tests.{ne_eqb, le-leb, lt-leb, ltb-true, ltb-false}
use Rattle.octets.specs.Class.{class_of, is_letter, seps_of}
use Rattle.octets.specs.Segment.{lead, end_of, EndAt}
use Rattle.octets.specs.Leaves.{Clear}
use Rattle.octets.specs.declared.Seps.TheVariants.{Unix, Windows}
use Rattle.octets.specs.declared.Class.TheVariants.{Slash, Backslash, Dot, Colon, Letter, Other}

module _ (b : ℕ) where
  pub is_slash : b ≡ 47 → Slash ≡ class_of b
  unfolding class_of
  is_slash e = rw e

  pub is_backslash : b ≡ 92 → Backslash ≡ class_of b
  unfolding class_of
  is_backslash e = rw e

  pub is_dot_lem : b ≡ 46 → Dot ≡ class_of b
  unfolding class_of
  is_dot_lem e = rw e

  pub is_colon : b ≡ 58 → Colon ≡ class_of b
  unfolding class_of
  is_colon e = rw e

  pub upper : 65 ≤ b → b < 91 → Letter ≡ class_of b
  unfolding class_of
  upper l h = simp (ne_eqb b 47 (omega arith), ne_eqb b 92 (omega arith), ne_eqb b 46 (omega arith), ne_eqb b 58 (omega arith), le-leb 65 b l, le-leb b 90 (omega arith))

  pub lower : 97 ≤ b → b < 123 → Letter ≡ class_of b
  unfolding class_of
  lower l h = simp (ne_eqb b 47 (omega arith), ne_eqb b 92 (omega arith), ne_eqb b 46 (omega arith), ne_eqb b 58 (omega arith), le-leb 65 b (omega arith), lt-leb b 90 (omega arith), le-leb 97 b l, le-leb b 122 (omega arith))

  pub below : (b ≡ 47 → ⊥) → (b ≡ 46 → ⊥) → (b ≡ 58 → ⊥) → b < 65 → Other ≡ class_of b
  unfolding class_of
  below x y z h = simp (ne_eqb b 47 x, ne_eqb b 92 (omega arith), ne_eqb b 46 y, ne_eqb b 58 z, lt-leb 65 b h)

  pub between : (b ≡ 92 → ⊥) → 90 < b → b < 97 → Other ≡ class_of b
  unfolding class_of
  between x l h = simp (ne_eqb b 47 (omega arith), ne_eqb b 92 x, ne_eqb b 46 (omega arith), ne_eqb b 58 (omega arith), le-leb 65 b (omega arith), lt-leb b 90 l, lt-leb 97 b h)

  pub above : 122 < b → Other ≡ class_of b
  unfolding class_of
  above h = simp (ne_eqb b 47 (omega arith), ne_eqb b 92 (omega arith), ne_eqb b 46 (omega arith), ne_eqb b 58 (omega arith), le-leb 65 b (omega arith), lt-leb b 90 (omega arith), le-leb 97 b (omega arith), lt-leb b 122 h)

-- `seps_of`
module _ (m : ℕ) where
  pub unix_is : m ≡ 0 → Unix ≡ seps_of m
  unfolding seps_of
  unix_is e = rw e

  pub windows_is : (m ≡ 0 → ⊥) → Windows ≡ seps_of m
  unfolding seps_of
  windows_is h = simp (ne_eqb m 0 h)

pub ruleset classes = (is_slash, is_backslash, is_dot_lem, is_colon, upper, lower, below, between, above, unix_is, windows_is)

-- a proof for each value of a Bool, with the equation
pub split : {A : Type 0} (b : Bool) → (b ≡ true → A) → (b ≡ false → A) → A
split true f g = f refl
split false f g = g refl

-- a comparison of a and b, and c behind it, came out true
agree_first : (a b c : Bool) → cond a (cond b c false) (cond b false c) ≡ true → (a ≡ b) × (c ≡ true)
agree_first true true c e = (refl, e)
agree_first true false c e = absurd (false≢true e)
agree_first false true c e = absurd (false≢true e)
agree_first false false c e = (refl, e)

-- whether two tests of a number say the same of each below n
module _ (f g : ℕ → Bool) where
  agree : ℕ → Bool
  agree zero = true
  agree (suc n) = cond (f n) (cond (g n) (agree n) false) (cond (g n) false (agree n))

  agree_at : (n b : ℕ) → agree n ≡ true → b < n → f b ≡ g b
  unfolding agree
  agree_at zero b t h = absurd (omega arith)
  agree_at (suc n) b t h =
      let w : (f n ≡ g n) × (agree n ≡ true) = agree_first (f n) (g n) (agree n) t in
      split (ltb b n)
      (λ e. agree_at n b w.1 (ltb-true b n e))
      (λ e. let k : b ≡ n = omega (arith, ltb-false b n e) in rw k w.0)

-- `is_letter`: what the range check says of b without the bits that m lacks
abbrev ranged : ℕ → ℕ → Bool
ranged m b = cond (leb 65 (bit_and b m)) (leb (bit_and b m) 90) false

-- whether it tells the letters from the other bytes, each of the 256 looked at
unfoldable pub folds : ℕ → Bool
unfolding agree is_letter class_of
folds m = agree is_letter (ranged m) 256

module _ (b m : ℕ) (h : b < 256) where
  folded : folds m ≡ true → is_letter b ≡ ranged m b
  unfolding folds
  folded t = agree_at is_letter (ranged m) 256 b t h

  pub folded_in : 65 ≤ bit_and b m → bit_and b m < 91 → folds m ≡ true → true ≡ is_letter b
  folded_in l u t = simp (folded t, le-leb 65 (bit_and b m) l, le-leb (bit_and b m) 90 (omega arith))

  pub folded_low : bit_and b m < 65 → folds m ≡ true → false ≡ is_letter b
  folded_low u t = simp (folded t, lt-leb 65 (bit_and b m) u)

  pub folded_high : 90 < bit_and b m → folds m ≡ true → false ≡ is_letter b
  folded_high l t = simp (folded t, le-leb 65 (bit_and b m) (omega arith), lt-leb (bit_and b m) 90 l)

-- the mask 223; `is_letter`'s proof does not go by it, but computes this of the mask that the code has
pub mask_folds : folds 223 ≡ true
unfolding folds
mask_folds = refl

pub ruleset letters = (folded_in, folded_low, folded_high)

pub lead_short : (sep : ℕ → Bool) (xs : List ℕ) → length (lead sep xs) ≤ length xs
unfolding lead
lead_short sep [] = omega arith
lead_short sep (x ∷ xs) = split (sep x) (λ e. rw e (omega arith)) (λ e. rw e (omega (arith, lead_short sep xs)))

module _ (sep : ℕ → Bool) (s : List ℕ) (i : ℕ) where
  -- the end of a segment: at a separator, past another byte, and past the end
  pub end_here : i < length s → sep (get_or s i 0) ≡ true → end_of sep s i ≡ i
  unfolding end_of lead
  end_here h e = rw (drop-cons s i 0 h, e) (omega arith)

  pub end_more : i < length s → sep (get_or s i 0) ≡ false → end_of sep s i ≡ end_of sep s (i + 1)
  unfolding end_of lead
  end_more h e = rw (add-one, drop-cons s i 0 h, e) (omega arith)

  pub end_out : length s ≤ i → end_of sep s i ≡ i
  unfolding end_of lead
  end_out h = rw (drop_of_length-le s h) (omega arith)

-- `has_sep`
abbrev pub hits : (ℕ → Bool) → List ℕ → Bool
hits sep block = fold (λ hit b. hit || sep b) false block

-- a list, where none of its first n bytes separates, or where the first that does is looked for
module _ (sep : ℕ → Bool) where
  hits_any : (h : Bool) (xs : List ℕ) → fold (λ hit b. hit || sep b) h xs ≡ h || list_any sep xs
  hits_any true [] = refl
  hits_any false [] = refl
  hits_any true (x ∷ xs) = hits_any true xs
  hits_any false (x ∷ xs) = hits_any (sep x) xs

  lead_is : (xs : List ℕ) → length (lead sep xs) ≡ position_or_len sep xs
  unfolding lead
  lead_is [] = refl
  lead_is (x ∷ xs) = split (sep x) (λ e. rw e refl) (λ e. rw e (omega (arith, lead_is xs)))

  lead_in : (n : ℕ) (xs : List ℕ) → position_or_len sep (take n xs) < length (take n xs) → length (lead sep xs) ≡ position_or_len sep (take n xs)
  unfolding lead
  lead_in zero xs h = absurd (omega arith)
  lead_in (suc n) [] h = absurd (omega arith)
  lead_in (suc n) (x ∷ xs) h = split (sep x)
      (λ e. rw e refl)
      (λ e. let k : 1 + position_or_len sep (take n xs) < length (x ∷ take n xs) = rw e at h in rw e (omega (arith, lead_in n xs (omega arith))))

  lead_past : (n : ℕ) (xs : List ℕ) → n ≤ length xs → list_any sep (take n xs) ≡ false → length (lead sep xs) ≡ n + length (lead sep (drop n xs))
  unfolding lead
  lead_past zero xs h e = omega arith
  lead_past (suc n) [] h e = absurd (omega arith)
  lead_past (suc n) (x ∷ xs) h e = split (sep x)
      (λ f. absurd (false≢true (sym e ∙ rw f refl)))
      (λ f. rw f (omega (arith, lead_past n xs (omega arith) (rw f at e))))

  none_any : (xs : List ℕ) → length xs ≤ position_or_len sep xs → list_any sep xs ≡ false
  none_any [] h = refl
  none_any (x ∷ xs) h = split (sep x)
      (λ e. let k : length (x ∷ xs) ≤ 0 = rw e at h in absurd (omega arith))
      (λ e. let k : length (x ∷ xs) ≤ 1 + position_or_len sep xs = rw e at h in rw e (none_any xs (omega arith)))

-- where `position` finds nothing
cond_none : (n l : ℕ) → cond (ltb n l) (Some n) None ≡ None → l ≤ n
cond_none n l e = split (ltb n l) (λ f. absurd (none-some n (sym (rw f at e)))) (λ f. ltb-false n l f)

-- what `position` finds, or else the length
position_or : {X : Type 0} (p : X → Bool) (xs : List X) → unwrap_or (position p xs) (length xs) ≡ position_or_len p xs
position_or p xs = split (ltb (position_or_len p xs) (length xs))
    (λ e. rw e refl)
    (λ e. rw e (omega (arith, ltb-false _ _ e, prefix_len-le-length (λ x. not (p x)) xs)))

-- `skip_clear`: the first n blocks of xs are looked through
module _ (sep : ℕ → Bool) where
  blocks_clear : (n : ℕ) (xs : List ℕ) → n * 16 ≤ length xs → Clear sep xs (position_or_len (hits sep) (first_chunks 16 n xs) * 16)
  blocks_clear zero xs h = record { within = omega arith; past = omega arith }
  blocks_clear (suc n) xs h = split (hits sep (take 16 xs))
      (λ e. rw e (record { within = omega arith; past = omega arith }))
      (λ e. rw e (next _ xs h e (blocks_clear n (drop 16 xs) (omega (arith, length-drop 16 xs)))))
    where
      next : (m : ℕ) (xs : List ℕ) → suc n * 16 ≤ length xs → hits sep (take 16 xs) ≡ false → Clear sep (drop 16 xs) (m * 16) → Clear sep xs ((1 + m) * 16)
      next m xs h e k =
          let f : list_any sep (take 16 xs) ≡ false = sym (hits_any sep false (take 16 xs)) ∙ e in
          let a : length (lead sep xs) ≡ 16 + length (lead sep (drop 16 xs)) = lead_past sep 16 xs (omega arith) f in
          let d : drop (m * 16) (drop 16 xs) ≡ drop (16 + m * 16) xs = drop-drop (m * 16) 16 xs in
          let i : (1 + m) * 16 ≡ 16 + m * 16 = omega arith in
          record { within = omega (arith, k.within, length-drop 16 xs); past = rw i (a ∙ omega (arith, rw d at k.past)) }

-- `skip_clear`, `far_sep`, `next_sep`
module _ (sep : ℕ → Bool) (s : List ℕ) where
  pub skip_is : (o : Option ℕ) (n : ℕ) (blocks : List (List ℕ)) → blocks ≡ first_chunks 16 (length s / 16) s → o ≡ position (hits sep) blocks → n ≡ unwrap_or o (length blocks) → Clear sep s (16 * n)
  skip_is o n blocks eb eo en =
      let f : n ≡ position_or_len (hits sep) (first_chunks 16 (length s / 16) s) = en ∙ rw (eo, eb) (position_or (hits sep) (first_chunks 16 (length s / 16) s)) in
      rw (mul_comm 16 n, f) (blocks_clear sep (length s / 16) s (omega arith))

  -- the segment at i, in the rest of s
  rest : (i : ℕ) → take (length s - i) (drop i s) ≡ drop i s
  rest i = take_all (length s - i) (drop i s) (omega (arith, length-drop i s))

  module _ (at : ℕ) where
    pub far_is : (n r : ℕ) (o : Option ℕ) → at ≤ length s → Clear sep (take (length s - at) (drop at s)) n → o ≡ position sep (take (length s - (at + n)) (drop (at + n) s)) → r ≡ unwrap_or o (length s - (at + n)) → EndAt sep s at (at + n + r)
    unfolding end_of
    far_is n r o h d eo er =
        let k : Clear sep (drop at s) n = rw (rest at) at d in
        let p : r ≡ position_or_len sep (drop (at + n) s) = er ∙ rw (eo, rest (at + n), ← length-drop (at + n) s) (position_or sep (drop (at + n) s)) in
        let e : r ≡ length (lead sep (drop (at + n) s)) = p ∙ sym (lead_is sep (drop (at + n) s)) in
        let f : length (lead sep (drop at s)) ≡ n + length (lead sep (drop (at + n) s)) = rw (drop-drop n at s) at k.past in
        record { is = omega arith; low = omega arith; high = omega (arith, k.within, length-drop at s, length-drop (at + n) s, lead_short sep (drop (at + n) s)) }

    module _ (near : ℕ) (o : Option ℕ) (h : at ≤ near) (l : near ≤ length s) (eo : o ≡ position sep (take (near - at) (drop at s))) where
      long : length (take (near - at) (drop at s)) ≡ near - at
      long = length-take-le (near - at) (drop at s) (omega (arith, length-drop at s))

      pub near_some : (i : ℕ) → o ≡ Some i → EndAt sep s at (at + i)
      unfolding end_of
      near_some i e =
          let c = cond_some (ltb (position_or_len sep (take (near - at) (drop at s))) (length (take (near - at) (drop at s)))) (position_or_len sep (take (near - at) (drop at s))) i (sym eo ∙ e) in
          let k : position_or_len sep (take (near - at) (drop at s)) < length (take (near - at) (drop at s)) = ltb-true _ _ c.0 in
          let f : length (lead sep (drop at s)) ≡ i = lead_in sep (near - at) (drop at s) k ∙ c.1 in
          record { is = omega arith; low = omega arith; high = omega (arith, c.1, long) }

      pub near_none : (r : ℕ) → o ≡ None → EndAt sep s near r → EndAt sep s at r
      unfolding end_of
      near_none r e d =
          let k : length (take (near - at) (drop at s)) ≤ position_or_len sep (take (near - at) (drop at s)) = cond_none _ _ (sym eo ∙ e) in
          let f : length (lead sep (drop at s)) ≡ near - at + length (lead sep (drop (near - at) (drop at s))) = lead_past sep (near - at) (drop at s) (omega (arith, length-drop at s)) (none_any sep (take (near - at) (drop at s)) k) in
          let w : at + (near - at) ≡ near = omega arith in
          let g : length (lead sep (drop at s)) ≡ near - at + length (lead sep (drop near s)) = rw (drop-drop (near - at) at s, w) at f in
          record { is = omega (arith, d.is); low = omega (arith, d.low); high = d.high }
