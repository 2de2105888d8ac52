-- A path cut behind its prefix, and behind a separator that follows it, has the same prefix.
use Prim.Native.Nat.{ℕ, zero, suc, ◌+◌, ◌-◌, ◌<◌, ◌≤◌}
use Rattle.std.proofs.Math.Nat.{sub-zero, zero-sub, suc-sub-suc}
use Rattle.std.proofs.Common.{arith, sym, ◌∙◌, take_all, get_or-drop}
use Rattle.std.specs.Prelude.{◌≡◌, Bool, false, get_or, take, drop, eqb, None}
use Rattle.std.proofs.Math.Path.{refl}
use mathlib.Core.List.{List, [], ◌∷◌}
use Rattle.std.proofs.Math.Bool.{true}
use Rattle.std.proofs.lemmas.Bool.{false≢true}
use Rattle.std.proofs.Math.ListN.{length, length-take, length-drop}
use Rattle.std.proofs.Math.Seq.{take-nil, take-take, get_or-take, drop-length}
use Rattle.std.proofs.Math.Dec.{ltb}
use borrow.Author.Tests.{eqb-true, eq-eqb, ne_eqb, ltb-true, ltb-false, lt-ltb, le-ltb}
use Rattle.octets.specs.Class.{is_letter, class_of, is_sep}
use Rattle.octets.specs.Segment.{lead}
use Rattle.octets.specs.Laws.{split}
use Rattle.octets.specs.declared.Seps.TheVariants.{Windows, Verbatim as OnlyBack}
use Rattle.prefixes.specs.declared.Names.{Names}
use Rattle.prefixes.specs.declared.Prefix.TheVariants.{VerbatimUnc}
use Rattle.prefixes.specs.Prefix.{turned, begins, drive, drive_exact, past, name_of, names_of, verbatim_of, unc_of, is_verbatim, device_of, prefix_of, len_of, end_of_prefix}
use Rattle.prefixes.specs.Laws.{begins_few, drive_short, drive_two, exact_not, exact_end, exact_sep, exact_three}

drop-take : (n m : ℕ) (t : List ℕ) → drop n (take m t) ≡ take (m - n) (drop n t)
drop-take zero m t = rw sub-zero
drop-take (suc n) zero t = rw zero-sub
drop-take (suc n) (suc m) [] = sym (take-nil (suc m - suc n))
drop-take (suc n) (suc m) (x ∷ t) = rw suc-sub-suc (drop-take n m t)

-- ---- the start of a path
begins_take : (w t : List ℕ) (m : ℕ) → length w ≤ m → begins w (take m t) ≡ begins w t
unfolding begins
begins_take [] t m h = refl
begins_take (c ∷ w) t zero h = absurd (omega arith)
begins_take (c ∷ w) [] (suc m) h = refl
begins_take (c ∷ w) (x ∷ t) (suc m) h = rw (begins_take w t m (omega arith))

begins_less : (w t : List ℕ) (m : ℕ) → begins w t ≡ false → begins w (take m t) ≡ false
unfolding begins
begins_less [] t m h = h
begins_less (c ∷ w) t zero h = refl
begins_less (c ∷ w) [] (suc m) h = refl
begins_less (c ∷ w) (x ∷ t) (suc m) h = split (eqb (turned x) c) (λ y. rw y (begins_less w t m (rw y at h))) (λ y. rw y)

module _ (t : List ℕ) (m : ℕ) where
  drive_take : 2 ≤ m → drive (take m t) ≡ drive t
  unfolding drive
  drive_take h = rw (get_or-take m t 0 0 (omega arith), get_or-take m t 1 0 (omega arith))

  drive_less : drive t ≡ false → drive (take m t) ≡ false
  drive_less h = split (ltb m 2) (λ y. sym (drive_short (take m t) (omega (arith, ltb-true m 2 y, length-take m t)))) (λ y. drive_take (ltb-false m 2 y) ∙ h)

  -- three bytes of both
  exact_same : 3 ≤ m → 3 ≤ length t → drive_exact (take m t) ≡ drive_exact t
  unfolding drive_exact
  exact_same h l =
      simp (drive_take (omega arith), ne_eqb (length t) 2 (λ z. omega arith), ne_eqb (length (take m t)) 2 (λ z. omega (arith, length-take m t)), get_or-take m t 2 0 (omega arith))

  exact_drive : drive_exact t ≡ true → drive t ≡ true
  exact_drive e = split (drive t) (λ y. y) (λ y. absurd (false≢true (exact_not t (drive t) refl y ∙ e)))

  exact_take : 2 ≤ m → drive_exact t ≡ true → drive_exact (take m t) ≡ true
  exact_take h e =
      let d : drive (take m t) ≡ true = drive_take h ∙ exact_drive e in
      let l : 2 ≤ length t = drive_two t (drive t) refl (exact_drive e) in
      split (ltb 2 m)
      (λ y. split (ltb 2 (length t))
      (λ z. exact_same (ltb-true 2 m y) (ltb-true 2 (length t) z) ∙ e)
      (λ z. rw (take_all m t (omega (arith, ltb-false 2 (length t) z, ltb-true 2 m y))) e))
      (λ y. sym (exact_end (take m t) (drive (take m t)) refl d (omega (arith, ltb-false 2 m y, length-take m t))))

letter_back : (x : ℕ) → is_letter x ≡ true → eqb x 92 ≡ false
unfolding is_letter class_of
letter_back x h = ne_eqb x 92 (λ z. false≢true (rw z at h))

-- a drive that goes on without a separator has three bytes in its name
drive_name : (t : List ℕ) → drive t ≡ true → 3 ≤ length t → is_sep Windows (get_or t 2 0) ≡ false → 3 ≤ length (lead (is_sep OnlyBack) t)
unfolding drive lead
drive_name [] d l n = absurd (omega arith)
drive_name (x ∷ []) d l n = absurd (omega arith)
drive_name (x ∷ y ∷ []) d l n = absurd (omega arith)
drive_name (x ∷ y ∷ z ∷ t) d l n =
    let a : is_letter x ≡ true = split (is_letter x) (λ e. e) (λ e. absurd (false≢true (rw e at d))) in
    let b : y ≡ 58 = eqb-true y 58 (rw a at d) in
    let c : eqb z 92 ≡ false = split (eqb z 92) (λ e. absurd (false≢true (sym n ∙ split (eqb z 47) (λ f. rw f) (λ f. rw (f, e))))) (λ e. e) in
    rw (letter_back x a, b, c) (omega arith)

exact_less : (t : List ℕ) (m : ℕ) → length (lead (is_sep OnlyBack) t) ≤ m → drive_exact t ≡ false → drive_exact (take m t) ≡ false
exact_less t m h e =
    split (drive t)
    (λ d. let l : 2 ≤ length t = drive_two t (drive t) refl d in
    let n : length t ≡ 2 → ⊥ = λ z. false≢true (sym e ∙ sym (exact_end t (drive t) refl d z)) in
    let b : is_sep Windows (get_or t 2 0) ≡ false = exact_sep t (drive t) refl d n (is_sep Windows (get_or t 2 0)) refl ∙ e in
    let k : 3 ≤ length t = exact_three t (drive t) refl d n in
    exact_same t m (omega (arith, drive_name t d k b)) k ∙ e)
    (λ d. sym (exact_not (take m t) (drive (take m t)) refl (drive_less t m d)))

-- ---- names
module _ (sep : ℕ → Bool) where
  lead_take : (t : List ℕ) (m : ℕ) → length (lead sep t) ≤ m → lead sep (take m t) ≡ lead sep t
  unfolding lead
  lead_take [] m h = rw (take-nil m)
  lead_take (x ∷ t) zero h = split (sep x) (λ y. rw y) (λ y. absurd (omega (arith, rw y at h)))
  lead_take (x ∷ t) (suc m) h = split (sep x) (λ y. rw y) (λ y. let l = rw y at h in rw (y, lead_take t m (omega (arith, l))))

  lead_all : (t : List ℕ) (m : ℕ) → m ≤ length (lead sep t) → lead sep (take m t) ≡ take m t
  unfolding lead
  lead_all t zero h = refl
  lead_all [] (suc m) h = refl
  lead_all (x ∷ t) (suc m) h = split (sep x) (λ y. absurd (omega (arith, rw y at h))) (λ y. let l = rw y at h in rw (y, lead_all t m (omega (arith, l))))

  -- a separator ends it
  lead_stop : (t : List ℕ) → length (lead sep t) < length t → sep (get_or t (length (lead sep t)) 0) ≡ true
  unfolding lead
  lead_stop [] h = absurd (omega arith)
  lead_stop (x ∷ t) h = split (sep x) (λ y. rw (y, y)) (λ y. let l = rw y at h in rw y (lead_stop t (omega (arith, l))))

  name_take : (i : ℕ) (t : List ℕ) (m : ℕ) → length (lead sep t) ≤ m → name_of sep i (take m t) ≡ name_of sep i t
  unfolding name_of
  name_take i t m h = rw (lead_take t m h)

  module _ (i : ℕ) (t : List ℕ) (m : ℕ) where
    -- all of both names
    names_take : (names_of sep i t).server.len ≤ m → ((names_of sep i t).server.len < length t → (names_of sep i t).server.len + 1 + (names_of sep i t).share.len ≤ m) → names_of sep i (take m t) ≡ names_of sep i t
    unfolding names_of past
    names_take h g =
        let a = length (lead sep t) in
        split (ltb (length (lead sep t)) (length t))
        (λ y. let l = ltb-true (length (lead sep t)) (length t) y in
        let w = rw y at (g l) in
        let z : ltb (length (lead sep t)) (length (take m t)) ≡ true = lt-ltb (length (lead sep t)) (length (take m t)) (omega (arith, w, length-take m t)) in
        rw (lead_take t m h, z, y, drop-take (length (lead sep t) + 1) m t, lead_take (drop (length (lead sep t) + 1) t) (m - (length (lead sep t) + 1)) (omega (arith, w))))
        (λ y. rw (take_all m t (omega (arith, ltb-false (length (lead sep t)) (length t) y))))

    -- the first name only
    server_all : m ≤ (names_of sep i t).server.len → (names_of sep i (take m t)).share.len ≡ 0
    unfolding names_of past lead
    server_all h =
        rw (lead_all t m h, le-ltb (length (take m t)) (length (take m t)) (omega arith), drop-length (take m t))

    server_stop : (names_of sep i t).server.len < length t → sep (get_or t (names_of sep i t).server.len 0) ≡ true
    unfolding names_of
    server_stop h = lead_stop t h

    server_none : (names_of sep i t).server.len ≡ 0 → (names_of sep i (take m t)).server.len ≡ 0
    unfolding names_of
    server_none h = rw (lead_take t m (omega arith)) h

-- ---- the six kinds

-- `\` separates in either set
back_windows : (x : ℕ) → is_sep OnlyBack x ≡ true → is_sep Windows x ≡ true
back_windows x h = split (eqb x 47) (λ y. rw y) (λ y. rw (y, h))

module _ (s : List ℕ) (e : ℕ) where
  verbatim_four : 4 ≤ len_of (verbatim_of s)
  unfolding verbatim_of
  verbatim_four =
      split (begins (85 ∷ 78 ∷ 67 ∷ 92 ∷ []) (drop 4 s))
      (λ u. rw u (omega arith))
      (λ u. split (drive_exact (drop 4 s)) (λ x. rw (u, x) (omega arith)) (λ x. rw (u, x) (omega arith)))

  -- behind the server stands a separator, or the share
  unc_room : (n : Names) → n ≡ names_of (is_sep OnlyBack) 8 (drop 8 s) → len_of (VerbatimUnc n) ≤ e → (len_of (VerbatimUnc n) < length s → is_sep Windows (get_or s (len_of (VerbatimUnc n)) 0) ≡ true → len_of (VerbatimUnc n) < e) → n.server.len < length (drop 8 s) → n.server.len + 1 + n.share.len ≤ e - 8
  unc_room n f h g l =
      split (eqb n.share.len 0)
      (λ y. let z = eqb-true n.share.len 0 y in
      let w : len_of (VerbatimUnc n) ≡ 8 + n.server.len = rw y (omega arith) in
      let q : is_sep OnlyBack (get_or (drop 8 s) n.server.len 0) ≡ true = rw f (server_stop (is_sep OnlyBack) 8 (drop 8 s) e (rw f at l)) in
      let b : is_sep OnlyBack (get_or s (8 + n.server.len) 0) ≡ true = rw (← get_or-drop 8 s n.server.len 0) q in
      omega (arith, g (omega (arith, length-drop 8 s)) (rw w (back_windows (get_or s (8 + n.server.len) 0) b))))
      (λ y. let w = rw y at h in omega (arith, w))

  verbatim_cut : len_of (verbatim_of s) ≤ e → (len_of (verbatim_of s) < length s → is_sep Windows (get_or s (len_of (verbatim_of s)) 0) ≡ true → len_of (verbatim_of s) < e) → verbatim_of (take e s) ≡ verbatim_of s
  unfolding verbatim_of name_of
  verbatim_cut h g =
      split (begins (85 ∷ 78 ∷ 67 ∷ 92 ∷ []) (drop 4 s))
      (λ u. let a = rw u at h in
      let b = rw u at g in
      rw (drop-take 4 e s, begins_take (85 ∷ 78 ∷ 67 ∷ 92 ∷ []) (drop 4 s) (e - 4) (omega (arith, a)), u, drop-take 8 e s, names_take (is_sep OnlyBack) 8 (drop 8 s) (e - 8) (omega (arith, a)) (unc_room (names_of (is_sep OnlyBack) 8 (drop 8 s)) refl a b)))
      (λ u. split (drive_exact (drop 4 s))
      (λ x. let a = rw (u, x) at h in
      rw (drop-take 4 e s, begins_less (85 ∷ 78 ∷ 67 ∷ 92 ∷ []) (drop 4 s) (e - 4) u, u, exact_take (drop 4 s) (e - 4) (omega (arith, a)) x, x, get_or-take e s 4 0 (omega (arith, a))))
      (λ x. let a = rw (u, x) at h in
      rw (drop-take 4 e s, begins_less (85 ∷ 78 ∷ 67 ∷ 92 ∷ []) (drop 4 s) (e - 4) u, u, exact_less (drop 4 s) (e - 4) (omega (arith, a)) x, x, lead_take (is_sep OnlyBack) (drop 4 s) (e - 4) (omega (arith, a)))))

  verb_same : 4 ≤ e → is_verbatim (take e s) ≡ is_verbatim s
  unfolding is_verbatim
  verb_same h = rw (drop-take 2 e s, begins_take (63 ∷ 92 ∷ []) (drop 2 s) (e - 2) (omega arith), take-take 4 e s h)

  verb_less : is_verbatim s ≡ false → is_verbatim (take e s) ≡ false
  unfolding is_verbatim
  verb_less h =
      split (ltb e 4)
      (λ y. rw (begins_few (63 ∷ 92 ∷ []) (drop 2 (take e s)) (omega (arith, ltb-true e 4 y, length-drop 2 (take e s), length-take e s))))
      (λ y. verb_same (ltb-false e 4 y) ∙ h)

module _ (t : List ℕ) where
  unc_none : end_of_prefix (unc_of t) < 2 → unc_of t ≡ None
  unfolding unc_of
  unc_none h =
      split (eqb (names_of (is_sep Windows) 2 t).server.len 0)
      (λ y. rw y)
      (λ y. split (eqb (names_of (is_sep Windows) 2 t).share.len 0) (λ z. rw (y, z)) (λ z. let a = rw (y, z) at h in absurd (omega (arith, a))))

  unc_cut : (m : ℕ) → end_of_prefix (unc_of t) ≤ m + 2 → unc_of (take m t) ≡ unc_of t
  unfolding unc_of
  unc_cut m h =
      split (eqb (names_of (is_sep Windows) 2 t).server.len 0)
      (λ y. rw (y, eq-eqb (names_of (is_sep Windows) 2 (take m t)).server.len 0 (server_none (is_sep Windows) 2 t m (eqb-true (names_of (is_sep Windows) 2 t).server.len 0 y))))
      (λ y. split (eqb (names_of (is_sep Windows) 2 t).share.len 0)
      (λ z. let c = eqb-true (names_of (is_sep Windows) 2 t).share.len 0 z in
      split (ltb (names_of (is_sep Windows) 2 t).server.len m)
      (λ w. let l = ltb-true (names_of (is_sep Windows) 2 t).server.len m w in rw (names_take (is_sep Windows) 2 t m (omega arith) (λ g. omega arith)))
      (λ w. let l = server_all (is_sep Windows) 2 t m (ltb-false (names_of (is_sep Windows) 2 t).server.len m w) in
      rw (y, z, l) (split (eqb (names_of (is_sep Windows) 2 (take m t)).server.len 0) (λ x. rw x) (λ x. rw x))))
      (λ z. let a = rw (y, z) at h in rw (names_take (is_sep Windows) 2 t m (omega (arith, a)) (λ g. omega (arith, a)))))

module _ (s : List ℕ) (e : ℕ) where
  device_none : end_of_prefix (device_of s) < 2 → device_of s ≡ None
  unfolding device_of
  device_none h = split (begins (46 ∷ 92 ∷ []) (drop 2 s)) (λ u. let a = rw u at h in absurd (omega (arith, a))) (λ u. rw u (unc_none (drop 2 s) (rw u at h)))

  device_cut : end_of_prefix (device_of s) ≤ e → 2 ≤ e → device_of (take e s) ≡ device_of s
  unfolding device_of name_of
  device_cut h l =
      split (begins (46 ∷ 92 ∷ []) (drop 2 s))
      (λ u. let a = rw u at h in
      rw (drop-take 2 e s, begins_take (46 ∷ 92 ∷ []) (drop 2 s) (e - 2) (omega (arith, a)), u, drop-take 4 e s, lead_take (is_sep Windows) (drop 4 s) (e - 4) (omega (arith, a))))
      (λ u. let a = rw u at h in rw (drop-take 2 e s, begins_less (46 ∷ 92 ∷ []) (drop 2 s) (e - 2) u, u) (unc_cut (drop 2 s) (e - 2) (omega (arith, a))))

  pub prefix_cut : end_of_prefix (prefix_of s) ≤ e → (end_of_prefix (prefix_of s) < length s → is_sep Windows (get_or s (end_of_prefix (prefix_of s)) 0) ≡ true → end_of_prefix (prefix_of s) < e) → prefix_of (take e s) ≡ prefix_of s
  unfolding prefix_of
  prefix_cut h g =
      split (begins (92 ∷ 92 ∷ []) s)
      (λ a. split (is_verbatim s)
      (λ v. let b = rw (a, v) at h in
      let f : 4 ≤ e = omega (arith, b, verbatim_four s e) in
      rw (begins_take (92 ∷ 92 ∷ []) s e (omega arith), a, verb_same s e f, v, verbatim_cut s e b (rw (a, v) at g)))
      (λ v. let b = rw (a, v) at h in
      split (ltb e 2)
      (λ y. let z = ltb-true e 2 y in
      rw (begins_few (92 ∷ 92 ∷ []) (take e s) (omega (arith, length-take e s)), a, v, ← drive_short (take e s) (omega (arith, length-take e s)), device_none (omega (arith, b))))
      (λ y. let z = ltb-false e 2 y in
      rw (begins_take (92 ∷ 92 ∷ []) s e z, a, verb_less s e v, v) (device_cut b z))))
      (λ a. split (drive s)
      (λ d. let b = rw (a, d) at h in rw (begins_less (92 ∷ 92 ∷ []) s e a, a, drive_take s e b, d, get_or-take e s 0 0 (omega (arith, b))))
      (λ d. rw (begins_less (92 ∷ 92 ∷ []) s e a, a, drive_less s e d, d)))
