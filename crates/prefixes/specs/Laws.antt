-- Laws of the prefixes: one a way through each function.
use Rattle.std.specs.Prelude.{ℕ, ◌+◌, ◌-◌, ◌*◌, ◌^◌, ◌<◌, ◌≤◌, ◌≡◌, refl, List, [], ◌∷◌, Bool, false, not, nat_eq, cond, length, get_or, take, drop, eqb, ltb, Option, Some, None}
use Rattle.std.specs.Int.{w64}
use Rattle.std.proofs.Common.{Fits, add-one, sym, ◌∙◌, drop-cons, take_all}
use native.Mathlib.Omega.{arith}
use Rattle.std.proofs.Math.Bool.{true}
use Rattle.std.proofs.lemmas.Bool.{false≢true}
use Rattle.std.proofs.Math.ListN.{length-drop}
use borrow.Author.Tests.{ne_eqb, lt-ltb, le-ltb, ltb-true, ltb-false, eqb-true, eqb-false}
use Rattle.octets.specs.Class.{class_of, is_letter, is_sep}
use Rattle.octets.specs.declared.Seps.{Seps}
use Rattle.octets.specs.declared.Seps.TheVariants.{Unix, Windows, Verbatim as OnlyBack}
use Rattle.octets.specs.Segment.{lead, end_of, EndAt}
use Rattle.octets.specs.Laws.{split, lead_short}
use Rattle.prefixes.specs.declared.Name.{Name}
use Rattle.prefixes.specs.declared.Names.{Names}
use Rattle.prefixes.specs.declared.Figures.{Figures}
use Rattle.prefixes.specs.declared.Prefix.{Prefix}
use Rattle.prefixes.specs.declared.Prefix.TheVariants.{Verbatim, VerbatimUnc, VerbatimDisk, DeviceNs, Unc, Disk}
use Rattle.prefixes.specs.Prefix.{turned, begins, slashed, capital, drive, drive_exact, past, name_of, names_of, is_verbatim, verbatim_of, unc_of, device_of, prefix_of, share_len, len_of, end_of_prefix, prefix_in, drive_figures, name_figures, names_figures, figures_of, parsed_figures}
use Rattle.prefixes.specs.Leaves.{Past, NamesIn}

-- `to_capital`, `step_past`
module _ (b : ℕ) where
  pub capital_same : b < 97 → b ≡ capital b
  unfolding capital
  capital_same h = simp (lt-ltb b 97 h)

  pub capital_down : 97 ≤ b → b - 32 ≡ capital b
  unfolding capital
  capital_down h = simp (le-ltb b 97 h)

module _ (a n : ℕ) where
  pub past_on : a < n → Past a n (a + 1)
  unfolding past
  past_on h = record { is = simp (lt-ltb a n h); high = omega arith }

  pub past_end : a ≤ n → n ≤ a → Past a n a
  unfolding past
  past_end g h = record { is = simp (le-ltb a n h); high = g }

-- what begins with w is as long
fits : (w s : List ℕ) → begins w s ≡ true → length w ≤ length s
unfolding begins
fits [] s h = omega arith
fits (c ∷ w) [] h = absurd (false≢true h)
fits (c ∷ w) (x ∷ s) h = split (eqb (turned x) c) (λ e. omega (arith, fits w s (rw e at h))) (λ e. absurd (false≢true (rw e at h)))

-- and what is shorter does not
pub begins_few : (w t : List ℕ) → length t < length w → begins w t ≡ false
begins_few w t h = split (begins w t) (λ e. absurd (omega (arith, fits w t e))) (λ e. e)

-- ---- what the bytes of a mark tell, one after the other
module _ (w s : List ℕ) (i : ℕ) (h : i < length s) where
  -- `/` and `\` count as `\`
  sep_on : begins (92 ∷ w) (drop i s) ≡ cond (is_sep Windows (get_or s i 0)) (begins w (drop (i + 1) s)) false
  unfolding begins turned
  sep_on = rw (drop-cons s i 0 h, add-one) (split (eqb (get_or s i 0) 47) (λ e. rw e) (λ e. rw e))

  -- another byte counts as itself
  byte_on : (c : ℕ) → eqb 92 c ≡ false → eqb 47 c ≡ false → begins (c ∷ w) (drop i s) ≡ cond (eqb (get_or s i 0) c) (begins w (drop (i + 1) s)) false
  unfolding begins turned
  byte_on c f g = rw (drop-cons s i 0 h, add-one) (split (eqb (get_or s i 0) 47) (λ e. rw (eqb-true (get_or s i 0) 47 e, f, g)) (λ e. rw e))

-- `two_seps`, `is_device`, `is_unc`
last : (b : Bool) → cond b true false ≡ b
last true = refl
last false = refl

two_bytes : (s : List ℕ) → 2 ≤ length s → begins (92 ∷ 92 ∷ []) s ≡ cond (is_sep Windows (get_or s 0 0)) (is_sep Windows (get_or s 1 0)) false
unfolding begins
two_bytes s h = sep_on (92 ∷ []) s 0 (omega arith) ∙ rw (sep_on [] s 1 (omega arith), last (is_sep Windows (get_or s 1 0)))

device_bytes : (s : List ℕ) → 4 ≤ length s → begins (46 ∷ 92 ∷ []) (drop 2 s) ≡ cond (eqb (get_or s 2 0) 46) (is_sep Windows (get_or s 3 0)) false
unfolding begins
device_bytes s h = byte_on (92 ∷ []) s 2 (omega arith) 46 refl refl ∙ rw (sep_on [] s 3 (omega arith), last (is_sep Windows (get_or s 3 0)))

unc_bytes : (s : List ℕ) → 8 ≤ length s
    → begins (85 ∷ 78 ∷ 67 ∷ 92 ∷ []) (drop 4 s) ≡ cond (eqb (get_or s 4 0) 85) (cond (eqb (get_or s 5 0) 78) (cond (eqb (get_or s 6 0) 67) (is_sep Windows (get_or s 7 0)) false) false) false
unfolding begins
unc_bytes s h =
    byte_on (78 ∷ 67 ∷ 92 ∷ []) s 4 (omega arith) 85 refl refl
    ∙ rw (byte_on (67 ∷ 92 ∷ []) s 5 (omega arith) 78 refl refl, byte_on (92 ∷ []) s 6 (omega arith) 67 refl refl, sep_on [] s 7 (omega arith), last (is_sep Windows (get_or s 7 0)))

module _ (s : List ℕ) where
  pub two_short : length s < 2 → false ≡ begins (92 ∷ 92 ∷ []) s
  two_short h = sym (begins_few (92 ∷ 92 ∷ []) s h)

  module _ (h : 2 ≤ length s) (a : Bool) (e : a ≡ is_sep Windows (get_or s 0 0)) where
    pub two_on : (b : Bool) → a ≡ true → b ≡ is_sep Windows (get_or s 1 0) → b ≡ begins (92 ∷ 92 ∷ []) s
    two_on b y f = f ∙ sym (two_bytes s h ∙ rw (← e, y))

    pub two_off : a ≡ false → false ≡ begins (92 ∷ 92 ∷ []) s
    two_off n = sym (two_bytes s h ∙ rw (← e, n))

  pub device_short : length s < 4 → false ≡ begins (46 ∷ 92 ∷ []) (drop 2 s)
  device_short h = sym (begins_few (46 ∷ 92 ∷ []) (drop 2 s) (omega (arith, length-drop 2 s)))

  module _ (h : 4 ≤ length s) where
    pub device_off : (get_or s 2 0 ≡ 46 → ⊥) → false ≡ begins (46 ∷ 92 ∷ []) (drop 2 s)
    device_off n = sym (device_bytes s h ∙ rw (ne_eqb (get_or s 2 0) 46 n))

    pub device_on : (b : Bool) → get_or s 2 0 ≡ 46 → b ≡ is_sep Windows (get_or s 3 0) → b ≡ begins (46 ∷ 92 ∷ []) (drop 2 s)
    device_on b y f = f ∙ sym (device_bytes s h ∙ rw y)

  pub unc_short : length s < 8 → false ≡ begins (85 ∷ 78 ∷ 67 ∷ 92 ∷ []) (drop 4 s)
  unc_short h = sym (begins_few (85 ∷ 78 ∷ 67 ∷ 92 ∷ []) (drop 4 s) (omega (arith, length-drop 4 s)))

  module _ (h : 8 ≤ length s) where
    pub unc_off_1 : (get_or s 4 0 ≡ 85 → ⊥) → false ≡ begins (85 ∷ 78 ∷ 67 ∷ 92 ∷ []) (drop 4 s)
    unc_off_1 n = sym (unc_bytes s h ∙ rw (ne_eqb (get_or s 4 0) 85 n))

    module _ (u : get_or s 4 0 ≡ 85) where
      pub unc_off_2 : (get_or s 5 0 ≡ 78 → ⊥) → false ≡ begins (85 ∷ 78 ∷ 67 ∷ 92 ∷ []) (drop 4 s)
      unc_off_2 n = sym (unc_bytes s h ∙ rw (u, ne_eqb (get_or s 5 0) 78 n))

      module _ (v : get_or s 5 0 ≡ 78) where
        pub unc_off_3 : (get_or s 6 0 ≡ 67 → ⊥) → false ≡ begins (85 ∷ 78 ∷ 67 ∷ 92 ∷ []) (drop 4 s)
        unc_off_3 n = sym (unc_bytes s h ∙ rw (u, v, ne_eqb (get_or s 6 0) 67 n))

        pub unc_on : (b : Bool) → get_or s 6 0 ≡ 67 → b ≡ is_sep Windows (get_or s 7 0) → b ≡ begins (85 ∷ 78 ∷ 67 ∷ 92 ∷ []) (drop 4 s)
        unc_on b y f = f ∙ sym (unc_bytes s h ∙ rw (u, v, y))

-- `is_verbatim`: the four bytes are `\\?\`, if the first two count as `\\`
verb_bytes : (s : List ℕ) → 4 ≤ length s
    → is_verbatim s ≡ cond (eqb (get_or s 2 0) 63) (cond (eqb (get_or s 3 0) 92) (cond (eqb (get_or s 0 0) 47) false (cond (eqb (get_or s 1 0) 47) false true)) false) false
unfolding is_verbatim begins turned slashed
verb_bytes [] h = absurd (omega arith)
verb_bytes (w ∷ []) h = absurd (omega arith)
verb_bytes (w ∷ x ∷ []) h = absurd (omega arith)
verb_bytes (w ∷ x ∷ y ∷ []) h = absurd (omega arith)
verb_bytes (w ∷ x ∷ y ∷ z ∷ t) h =
    split (eqb y 63)
    (λ e. rw (eqb-true y 63 e) (split (eqb z 47)
    (λ f. rw (eqb-true z 47 f) (split (eqb w 47) (λ a. rw a) (λ a. rw a (split (eqb x 47) (λ b. rw b) (λ b. rw b)))))
    (λ f. rw f (split (eqb z 92)
    (λ g. rw g (split (eqb w 47) (λ a. rw a) (λ a. rw a (split (eqb x 47) (λ b. rw b) (λ b. rw b)))))
    (λ g. rw g)))))
    (λ e. rw e (split (eqb y 47) (λ f. rw f) (λ f. rw (f, e))))

module _ (s : List ℕ) where
  pub verb_short : length s < 4 → false ≡ is_verbatim s
  unfolding is_verbatim
  verb_short h = rw (begins_few (63 ∷ 92 ∷ []) (drop 2 s) (omega (arith, length-drop 2 s)))

  module _ (h : 4 ≤ length s) where
    pub verb_mark : (get_or s 2 0 ≡ 63 → ⊥) → false ≡ is_verbatim s
    verb_mark n = sym (verb_bytes s h ∙ rw (ne_eqb (get_or s 2 0) 63 n))

    module _ (u : get_or s 2 0 ≡ 63) where
      pub verb_back : (get_or s 3 0 ≡ 92 → ⊥) → false ≡ is_verbatim s
      verb_back n = sym (verb_bytes s h ∙ rw (u, ne_eqb (get_or s 3 0) 92 n))

      module _ (v : get_or s 3 0 ≡ 92) where
        pub verb_slash_1 : get_or s 0 0 ≡ 47 → false ≡ is_verbatim s
        verb_slash_1 y = sym (verb_bytes s h ∙ rw (u, v, y))

        module _ (n : get_or s 0 0 ≡ 47 → ⊥) where
          pub verb_on : (b : Bool) → b ≡ not (nat_eq (get_or s 1 0) 47) → b ≡ is_verbatim s
          verb_on b y = sym (verb_bytes s h ∙ rw (u, v, ne_eqb (get_or s 0 0) 47 n) (split (eqb (get_or s 1 0) 47) (λ e. rw e (sym (y ∙ rw e))) (λ e. rw e (sym (y ∙ rw e)))))

-- `is_drive`, `is_drive_exact`
pub drive_short : (t : List ℕ) → length t < 2 → false ≡ drive t
unfolding drive
drive_short [] h = split (is_letter 0) (λ e. rw e) (λ e. rw e)
drive_short (x ∷ []) h = split (is_letter x) (λ e. rw e) (λ e. rw e)
drive_short (x ∷ y ∷ t) h = absurd (omega arith)

module _ (t : List ℕ) where
  pub drive_long : drive t ≡ true → 2 ≤ length t
  drive_long h = split (ltb (length t) 2) (λ e. absurd (false≢true (drive_short t (ltb-true (length t) 2 e) ∙ h))) (λ e. ltb-false (length t) 2 e)

  module _ (l : Bool) (e : l ≡ is_letter (get_or t 0 0)) where
    pub drive_here : l ≡ true → eqb (get_or t 1 0) 58 ≡ drive t
    unfolding drive
    drive_here h = rw (← e, h)

    pub drive_not : l ≡ false → false ≡ drive t
    unfolding drive
    drive_not h = rw (← e, h)

  module _ (d : Bool) (e : d ≡ drive t) where
    pub exact_not : d ≡ false → false ≡ drive_exact t
    unfolding drive_exact
    exact_not h = rw (← e, h)

    module _ (h : d ≡ true) where
      pub drive_two : 2 ≤ length t
      drive_two = drive_long (sym e ∙ h)

      pub drive_one : 0 < length t
      drive_one = omega (arith, drive_two)

      pub exact_end : length t ≡ 2 → true ≡ drive_exact t
      unfolding drive_exact
      exact_end n = rw (← e, h, n)

      pub exact_three : (length t ≡ 2 → ⊥) → 2 < length t
      exact_three n = omega (arith, drive_two)

      pub exact_sep : (length t ≡ 2 → ⊥) → (b : Bool) → b ≡ is_sep Windows (get_or t 2 0) → b ≡ drive_exact t
      unfolding drive_exact
      exact_sep n b g = rw (← e, h) (simp (ne_eqb (length t) 2 n) g)

exact_long : (t : List ℕ) → drive_exact t ≡ true → 2 ≤ length t
unfolding drive_exact
exact_long t h = drive_long t (split (drive t) (λ x. x) (λ x. absurd (false≢true (rw x at h))))

-- ---- what the first bytes tell of a prefix: a letter is neither separator, so a drive begins no other prefix
letter_slash : (b : ℕ) → is_letter b ≡ true → eqb b 47 ≡ false
unfolding is_letter class_of
letter_slash b h = split (eqb b 47) (λ e. absurd (false≢true (rw e at h))) (λ e. e)

letter_backslash : (b : ℕ) → is_letter b ≡ true → eqb b 92 ≡ false
unfolding is_letter class_of
letter_backslash b h = split (eqb b 92) (λ e. absurd (false≢true (rw (letter_slash b h, e) at h))) (λ e. e)

drive_first : (s : List ℕ) → drive s ≡ true → begins (92 ∷ 92 ∷ []) s ≡ false
unfolding drive begins turned
drive_first [] h = refl
drive_first (x ∷ s) h =
    let l : is_letter x ≡ true = split (is_letter x) (λ e. e) (λ e. absurd (false≢true (rw e at h))) in
    simp (letter_slash x l, letter_backslash x l)

module _ (s : List ℕ) where
  pub drive_disk : drive s ≡ true → prefix_of s ≡ Some (Disk (capital (get_or s 0 0)))
  unfolding prefix_of
  drive_disk h = rw (drive_first s h, h)

  pub bare_none : drive s ≡ false → begins (92 ∷ 92 ∷ []) s ≡ false → prefix_of s ≡ None
  unfolding prefix_of
  bare_none h g = rw (g, h)

-- a part `&s[b..]` is so told; it is what stands behind b bytes
abbrev part : ℕ → List ℕ → List ℕ
part b s = take (length s - b) (drop b s)

behind : (b : ℕ) (s : List ℕ) → take (length s - b) (drop b s) ≡ drop b s
behind b s = take_all (length s - b) (drop b s) (omega (arith, length-drop b s))

-- `name_of`, `names_of`
end_len : (sep : ℕ → Bool) (t : List ℕ) (b e : ℕ) → EndAt sep t b e → e - b ≡ length (lead sep (drop b t))
unfolding end_of
end_len sep t b e h = omega (arith, h.is)

front_len : (sep : ℕ → Bool) (t : List ℕ) (n : ℕ) → EndAt sep t 0 n → n ≡ length (lead sep t)
unfolding end_of
front_len sep t n h = h.is ∙ omega arith

module _ (sep : ℕ → Bool) (i : ℕ) (t : List ℕ) where
  pub name_is : (n : ℕ) → EndAt sep t 0 n → record { start = i; len = n } ≡ name_of sep i t
  unfolding name_of
  name_is n h = rw (front_len sep t n h)

  pub names_are : (a b e : ℕ) → EndAt sep t 0 a → Past a (length t) b → EndAt sep t b e
      → record { server = record { start = i; len = a }; share = record { start = i + b; len = e - b } } ≡ names_of sep i t
  unfolding names_of
  names_are a b e f g h = rw (end_len sep t b e h, g.is, front_len sep t a f)

-- `verbatim`, `unc`, `parse_prefix`: q, v, d are what the tests answered
drop_fits : (w s : List ℕ) (b : ℕ) (q : Bool) → q ≡ begins w (drop b s) → q ≡ true → b ≤ length s → b + length w ≤ length s
drop_fits w s b q e y l = omega (arith, fits w (drop b s) (sym e ∙ y), length-drop b s)

module _ (s : List ℕ) where
  module _ (q : Bool) (e : q ≡ begins (85 ∷ 78 ∷ 67 ∷ 92 ∷ []) (drop 4 s)) where
    pub unc_eight : q ≡ true → 4 ≤ length s → 8 ≤ length s
    unc_eight y l = drop_fits (85 ∷ 78 ∷ 67 ∷ 92 ∷ []) s 4 q e y l

    pub is_verbatim_unc : (n : Names) → q ≡ true → n ≡ names_of (is_sep OnlyBack) 8 (part 8 s) → VerbatimUnc n ≡ verbatim_of s
    unfolding verbatim_of
    is_verbatim_unc n y g = rw (g, behind 8 s, ← e, y)

    module _ (d : Bool) (g : d ≡ drive_exact (part 4 s)) (n : q ≡ false) where
      pub is_verbatim_disk : (x : ℕ) → d ≡ true → x ≡ capital (get_or s 4 0) → VerbatimDisk x ≡ verbatim_of s
      unfolding verbatim_of
      is_verbatim_disk x y f = rw (f, ← e, n, ← (rw (behind 4 s) at g), y)

      pub is_verbatim_name : (x : Name) → d ≡ false → x ≡ name_of (is_sep OnlyBack) 4 (part 4 s) → Verbatim x ≡ verbatim_of s
      unfolding verbatim_of
      is_verbatim_name x y f = rw (f, behind 4 s, ← e, n, ← (rw (behind 4 s) at g), y)

  pub exact_five : (d : Bool) → d ≡ drive_exact (part 4 s) → d ≡ true → 4 < length s
  exact_five d g y = omega (arith, exact_long (drop 4 s) (rw (← behind 4 s) (sym g ∙ y)), length-drop 4 s)

  module _ (n : Names) (e : n ≡ names_of (is_sep Windows) 2 s) where
    pub unc_bare : n.server.len ≡ 0 → None ≡ unc_of s
    unfolding unc_of
    unc_bare z = rw (← e, z)

    module _ (a : n.server.len ≡ 0 → ⊥) where
      pub unc_lone : n.share.len ≡ 0 → None ≡ unc_of s
      unfolding unc_of
      unc_lone z = rw (← e) (simp (ne_eqb n.server.len 0 a, z))

      pub unc_both : (n.share.len ≡ 0 → ⊥) → Some (Unc n) ≡ unc_of s
      unfolding unc_of
      unc_both b = rw (← e) (simp (ne_eqb n.server.len 0 a, ne_eqb n.share.len 0 b))

  module _ (d : Bool) (g : d ≡ begins (46 ∷ 92 ∷ []) (drop 2 s)) where
    pub device_four : d ≡ true → 2 ≤ length s → 4 ≤ length s
    device_four y l = drop_fits (46 ∷ 92 ∷ []) s 2 d g y l

    pub is_device : (n : Name) → d ≡ true → n ≡ name_of (is_sep Windows) 4 (part 4 s) → Some (DeviceNs n) ≡ device_of s
    unfolding device_of
    is_device n y h = rw (h, behind 4 s, ← g, y)

    pub is_unc : (u : Option Prefix) → d ≡ false → u ≡ unc_of (part 2 s) → u ≡ device_of s
    unfolding device_of
    is_unc u n h = h ∙ rw (behind 2 s, ← g, n)

  module _ (q : Bool) (e : q ≡ begins (92 ∷ 92 ∷ []) s) where
    module _ (y : q ≡ true) where
      pub slashes_two : 2 ≤ length s
      slashes_two = fits (92 ∷ 92 ∷ []) s (sym e ∙ y)

      module _ (v : Bool) (f : v ≡ is_verbatim s) where
        pub verb_long : v ≡ true → 4 ≤ length s
        unfolding is_verbatim
        verb_long x =
            let w : begins (63 ∷ 92 ∷ []) (drop 2 s) ≡ true = split (begins (63 ∷ 92 ∷ []) (drop 2 s)) (λ z. z) (λ z. absurd (false≢true (rw z at (sym f ∙ x)))) in
            omega (arith, fits (63 ∷ 92 ∷ []) (drop 2 s) w, length-drop 2 s)

        pub prefix_verbatim : (p : Prefix) → v ≡ true → p ≡ verbatim_of s → Some p ≡ prefix_of s
        unfolding prefix_of
        prefix_verbatim p x g = rw (g, ← e, y, ← f, x)

        pub prefix_other : (p : Option Prefix) → v ≡ false → p ≡ device_of s → p ≡ prefix_of s
        unfolding prefix_of
        prefix_other p x g = rw (g, ← e, y, ← f, x)

    pub prefix_none : drive s ≡ false → q ≡ false → None ≡ prefix_of s
    prefix_none d n = sym (bare_none s d (sym e ∙ n))

  -- what the test for a drive has told, for whoever asks for it
  pub drive_told : (d c : Bool) → d ≡ drive s → d ≡ c → drive s ≡ c
  drive_told d c g y = sym g ∙ y

pub share_none : (n : ℕ) → n ≡ 0 → 0 ≡ share_len n
share_none n e = rw e

pub share_some : (n : ℕ) → (n ≡ 0 → ⊥) → 1 + n ≡ share_len n
share_some n h = simp (ne_eqb n 0 h)

-- `prefix_len`
share_least : (n : ℕ) → n ≤ share_len n
share_least n = split (eqb n 0) (λ e. rw e (omega (arith, eqb-true n 0 e))) (λ e. rw e (omega arith))

module _ (p : Prefix) where
  pub len_verbatim : (n : Name) → p ≡ Verbatim n → 4 + n.len ≡ len_of p
  len_verbatim n e = rw e

  pub len_device : (n : Name) → p ≡ DeviceNs n → 4 + n.len ≡ len_of p
  len_device n e = rw e

  pub len_unc : (n : Names) → p ≡ Unc n → 2 + n.server.len + 1 + n.share.len ≡ len_of p
  len_unc n e = rw e

  pub len_verbatim_unc : (n : Names) (x : ℕ) → p ≡ VerbatimUnc n → x ≡ share_len n.share.len → 8 + n.server.len + x ≡ len_of p
  len_verbatim_unc n x e f = rw (e, f)

  module _ (h : len_of p < 2 ^ 63) where
    pub fits_verbatim : (n : Name) → p ≡ Verbatim n → Fits w64 (4 + n.len)
    fits_verbatim n e = let t = rw e at h in record { fits = omega (arith, t) }

    pub fits_device : (n : Name) → p ≡ DeviceNs n → Fits w64 (4 + n.len)
    fits_device n e = let t = rw e at h in record { fits = omega (arith, t) }

    module _ (n : Names) (e : p ≡ Unc n) where
      pub fits_unc_1 : Fits w64 (2 + n.server.len)
      fits_unc_1 = let t = rw e at h in record { fits = omega (arith, t) }

      pub fits_unc_2 : Fits w64 (2 + n.server.len + 1)
      fits_unc_2 = let t = rw e at h in record { fits = omega (arith, t) }

      pub fits_unc_3 : Fits w64 (2 + n.server.len + 1 + n.share.len)
      fits_unc_3 = let t = rw e at h in record { fits = omega (arith, t) }

    module _ (n : Names) (e : p ≡ VerbatimUnc n) where
      pub fits_verbatim_unc_1 : Fits w64 (8 + n.server.len)
      fits_verbatim_unc_1 = let t = rw e at h in record { fits = omega (arith, t) }

      pub share_small : n.share.len < 2 ^ 63
      share_small = let t = rw e at h in omega (arith, t, share_least n.share.len)

      pub fits_verbatim_unc_2 : (x : ℕ) → x ≡ share_len n.share.len → Fits w64 (8 + n.server.len + x)
      fits_verbatim_unc_2 x f = let t = rw e at h in rw f (record { fits = omega (arith, t) })

pub ruleset lengths = (len_verbatim, len_device, len_unc, len_verbatim_unc, fits_verbatim, fits_device, fits_unc_1, fits_unc_2, fits_unc_3, fits_verbatim_unc_1, share_small, fits_verbatim_unc_2)

pub ruleset unc_marks = (unc_short, unc_off_1, unc_off_2, unc_off_3, unc_on)

pub ruleset prefixes = (
  capital_same,
  capital_down,
  past_on,
  past_end,
  two_short,
  two_on,
  two_off,
  device_short,
  device_off,
  device_on,
  drive_short,
  drive_here,
  drive_not,
  exact_not,
  drive_one,
  exact_end,
  exact_three,
  exact_sep,
  name_is,
  names_are,
  verb_short,
  verb_mark,
  verb_back,
  verb_slash_1,
  verb_on,
  unc_eight,
  is_verbatim_unc,
  is_verbatim_disk,
  is_verbatim_name,
  exact_five,
  unc_bare,
  unc_lone,
  unc_both,
  slashes_two,
  verb_long,
  prefix_verbatim,
  prefix_other,
  device_four,
  is_device,
  is_unc,
  prefix_none,
  share_none,
  share_some,
)

-- ---- a prefix lies in its path
pub by_cond : {A : Type 0} (P : A → Type 0) (b : Bool) (x y : A) → (b ≡ true → P x) → (b ≡ false → P y) → P (cond b x y)
by_cond P true x y f g = f refl
by_cond P false x y f g = g refl

abbrev In : List ℕ → Option Prefix → Type 0
In s None = Unit
In s (Some p) = len_of p ≤ length s

share_in : (a b n : ℕ) → a ≤ n → b ≤ n - past a n → a + share_len b ≤ n
unfolding past
share_in a b n h g =
    split (eqb b 0)
    (λ e. rw e (omega arith))
    (λ e. rw e (split (ltb a n)
    (λ l. omega (arith, rw l at g, ltb-true a n l))
    (λ l. absurd (eqb-false b 0 e (omega (arith, rw l at g, ltb-false a n l))))))

names_in : (sep : ℕ → Bool) (i : ℕ) (t : List ℕ) → (names_of sep i t).server.len + share_len (names_of sep i t).share.len ≤ length t
unfolding names_of
names_in sep i t =
    let a = length (lead sep t) in
    let l = drop (past a (length t)) t in
    share_in a (length (lead sep l)) (length t) (lead_short sep t) (omega (arith, lead_short sep l, length-drop (past a (length t)) t))

name_in : (sep : ℕ → Bool) (i b : ℕ) (s : List ℕ) → b ≤ length s → b + (name_of sep i (drop b s)).len ≤ length s
unfolding name_of
name_in sep i b s h = omega (arith, lead_short sep (drop b s), length-drop b s)

verbatim_in_lem : (s : List ℕ) → 4 ≤ length s → len_of (verbatim_of s) ≤ length s
unfolding verbatim_of
verbatim_in_lem s h =
    by_cond (λ (p : Prefix). len_of p ≤ length s) (begins (85 ∷ 78 ∷ 67 ∷ 92 ∷ []) (drop 4 s)) _ _
    (λ e. omega (arith, fits (85 ∷ 78 ∷ 67 ∷ 92 ∷ []) (drop 4 s) e, names_in (is_sep OnlyBack) 8 (drop 8 s), length-drop 4 s, length-drop 8 s))
    (λ _. by_cond (λ (p : Prefix). len_of p ≤ length s) (drive_exact (drop 4 s)) _ _
    (λ e. omega (arith, exact_long (drop 4 s) e, length-drop 4 s))
    (λ _. name_in (is_sep OnlyBack) 4 4 s h))

device_in : (s : List ℕ) → 2 ≤ length s → In s (device_of s)
unfolding device_of unc_of
device_in s h =
    by_cond (In s) (begins (46 ∷ 92 ∷ []) (drop 2 s)) _ _
    (λ e. name_in (is_sep Windows) 4 4 s (omega (arith, fits (46 ∷ 92 ∷ []) (drop 2 s) e, length-drop 2 s)))
    (λ _. let n = names_of (is_sep Windows) 2 (drop 2 s) in
    by_cond (In s) (eqb n.server.len 0) _ _ (λ _. tt)
    (λ _. by_cond (In s) (eqb n.share.len 0) _ _ (λ _. tt)
    (λ e. omega (arith, rw e at (names_in (is_sep Windows) 2 (drop 2 s)), length-drop 2 s))))

pub prefix_in_lem : (s : List ℕ) → In s (prefix_of s)
unfolding prefix_of
prefix_in_lem s =
    by_cond (In s) (begins (92 ∷ 92 ∷ []) s) _ _
    (λ q. by_cond (In s) (is_verbatim s) _ _
    (λ v. verbatim_in_lem s (verb_long s true (sym q) refl true (sym v) refl))
    (λ _. device_in s (fits (92 ∷ 92 ∷ []) s q)))
    (λ _. by_cond (In s) (drive s) _ _ (λ d. drive_long s d) (λ _. tt))

-- the same of a prefix read with a mode's set
pub in_path : (k : Seps) (s : List ℕ) → In s (prefix_in k s)
in_path Unix s = tt
in_path Windows s = prefix_in_lem s
in_path OnlyBack s = tt

pub len_within : (k : Seps) (s : List ℕ) (p : Option Prefix) (q : Prefix) → p ≡ prefix_in k s → p ≡ Some q → len_of q ≤ length s
len_within k s p q e f = rw (← e, f) at (in_path k s)

-- so its length can be counted
pub len_small : (k : Seps) (s : List ℕ) (p : Option Prefix) (q : Prefix) → p ≡ prefix_in k s → p ≡ Some q → length s * 1 < 2 ^ 63 → len_of q < 2 ^ 63
len_small k s p q e f w = omega (arith, len_within k s p q e f)

-- `end_of`
pub end_within : (k : Seps) (s : List ℕ) (p : Option Prefix) → p ≡ prefix_in k s → end_of_prefix p ≤ length s
end_within k s p e = rw e (go (prefix_in k s) (in_path k s))
  where
    go : (p : Option Prefix) → In s p → end_of_prefix p ≤ length s
    go None i = omega arith
    go (Some p) i = i

module _ (s : List ℕ) (r : Option Prefix) where
  pub end_none : r ≡ None → 0 ≡ end_of_prefix r
  end_none h = rw h

  module _ (p : Prefix) (h : r ≡ Some p) where
    pub end_small : end_of_prefix r ≤ length s → length s * 1 < 2 ^ 63 → len_of p < 2 ^ 63
    end_small w l = let t : len_of p ≤ length s = rw h at w in omega arith

    pub end_is : (n : ℕ) → n ≡ len_of p → n ≡ end_of_prefix r
    end_is n f = rw h f

pub ruleset prefix_ends = (end_none, end_small, end_is)

-- `prefix_in`
pub windows_prefix : (k : Seps) (s : List ℕ) (r : Option Prefix) → k ≡ Windows → r ≡ prefix_of s → r ≡ prefix_in k s
windows_prefix k s r e f = f ∙ rw e

-- `figures_of`
module _ (p : Prefix) (r : Figures) where
  pub of_verbatim : (n : Name) → p ≡ Verbatim n → r ≡ name_figures 1 n → r ≡ figures_of p
  of_verbatim n e f = f ∙ rw e

  pub of_verbatim_unc : (n : Names) → p ≡ VerbatimUnc n → r ≡ names_figures 2 n → r ≡ figures_of p
  of_verbatim_unc n e f = f ∙ rw e

  pub of_verbatim_disk : (d : ℕ) → p ≡ VerbatimDisk d → r ≡ drive_figures 3 d → r ≡ figures_of p
  of_verbatim_disk d e f = f ∙ rw e

  pub of_device : (n : Name) → p ≡ DeviceNs n → r ≡ name_figures 4 n → r ≡ figures_of p
  of_device n e f = f ∙ rw e

  pub of_unc : (n : Names) → p ≡ Unc n → r ≡ names_figures 5 n → r ≡ figures_of p
  of_unc n e f = f ∙ rw e

  pub of_disk : (d : ℕ) → p ≡ Disk d → r ≡ drive_figures 6 d → r ≡ figures_of p
  of_disk d e f = f ∙ rw e

pub of_nothing : (p : Option Prefix) (r : Figures) → p ≡ None → r ≡ drive_figures 0 0 → r ≡ parsed_figures p
of_nothing p r e f = f ∙ rw e

pub of_prefix : (p : Option Prefix) (q : Prefix) (r : Figures) → p ≡ Some q → r ≡ figures_of q → r ≡ parsed_figures p
of_prefix p q r e f = f ∙ rw e

pub ruleset figures = (windows_prefix, of_verbatim, of_verbatim_unc, of_verbatim_disk, of_device, of_unc, of_disk, of_nothing, of_prefix)

-- ---- the names of a prefix lie in its path
past_in : (a n : ℕ) → a ≤ n → past a n ≤ n
unfolding past
past_in a n h = split (ltb a n) (λ e. rw e (omega (arith, ltb-true a n e))) (λ e. rw e h)

name_inside : (sep : ℕ → Bool) (c i : ℕ) (s : List ℕ) → i ≤ length s → NamesIn s (name_figures c (name_of sep i (drop i s)))
unfolding name_of
name_inside sep c i s h = record { first = omega (arith, lead_short sep (drop i s), length-drop i s); second = omega arith }

names_inside : (sep : ℕ → Bool) (c i : ℕ) (s : List ℕ) → i ≤ length s → NamesIn s (names_figures c (names_of sep i (drop i s)))
unfolding names_of
names_inside sep c i s h =
    let t = drop i s in
    let a = length (lead sep t) in
    let b = past a (length t) in
    record {
      first = omega (arith, lead_short sep t, length-drop i s);
      second = omega (arith, lead_short sep (drop b t), length-drop b t, length-drop i s, past_in a (length t) (lead_short sep t));
    }

drive_inside : (c d : ℕ) (s : List ℕ) → NamesIn s (drive_figures c d)
drive_inside c d s = record { first = omega arith; second = omega arith }

abbrev Inside : List ℕ → Option Prefix → Type 0
Inside s p = NamesIn s (parsed_figures p)

verbatim_inside : (s : List ℕ) → 4 ≤ length s → NamesIn s (figures_of (verbatim_of s))
unfolding verbatim_of
verbatim_inside s h =
    by_cond (λ (p : Prefix). NamesIn s (figures_of p)) (begins (85 ∷ 78 ∷ 67 ∷ 92 ∷ []) (drop 4 s)) _ _
    (λ e. names_inside (is_sep OnlyBack) 2 8 s (omega (arith, fits (85 ∷ 78 ∷ 67 ∷ 92 ∷ []) (drop 4 s) e, length-drop 4 s)))
    (λ _. by_cond (λ (p : Prefix). NamesIn s (figures_of p)) (drive_exact (drop 4 s)) _ _
    (λ _. drive_inside 3 (capital (get_or s 4 0)) s)
    (λ _. name_inside (is_sep OnlyBack) 1 4 s h))

device_inside : (s : List ℕ) → 2 ≤ length s → Inside s (device_of s)
unfolding device_of unc_of
device_inside s h =
    by_cond (Inside s) (begins (46 ∷ 92 ∷ []) (drop 2 s)) _ _
    (λ e. name_inside (is_sep Windows) 4 4 s (omega (arith, fits (46 ∷ 92 ∷ []) (drop 2 s) e, length-drop 2 s)))
    (λ _. let n = names_of (is_sep Windows) 2 (drop 2 s) in
    by_cond (Inside s) (eqb n.server.len 0) _ _ (λ _. drive_inside 0 0 s)
    (λ _. by_cond (Inside s) (eqb n.share.len 0) _ _ (λ _. drive_inside 0 0 s) (λ _. names_inside (is_sep Windows) 5 2 s h)))

prefix_inside : (s : List ℕ) → Inside s (prefix_of s)
unfolding prefix_of
prefix_inside s =
    by_cond (Inside s) (begins (92 ∷ 92 ∷ []) s) _ _
    (λ q. by_cond (Inside s) (is_verbatim s) _ _
    (λ v. verbatim_inside s (verb_long s true (sym q) refl true (sym v) refl))
    (λ _. device_inside s (fits (92 ∷ 92 ∷ []) s q)))
    (λ _. by_cond (Inside s) (drive s) _ _ (λ _. drive_inside 6 (capital (get_or s 0 0)) s) (λ _. drive_inside 0 0 s))

pub names_within : (k : Seps) (s : List ℕ) → NamesIn s (parsed_figures (prefix_in k s))
names_within Unix s = drive_inside 0 0 s
names_within Windows s = prefix_inside s
names_within OnlyBack s = drive_inside 0 0 s
