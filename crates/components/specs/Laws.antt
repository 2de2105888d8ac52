-- Laws of a path's list: one a way through each function, and what they rest on.
use Rattle.std.specs.Prelude.{ℕ, ◌+◌, ◌-◌, ◌*◌, ◌^◌, ◌<◌, ◌≤◌, ◌≡◌, List, [], ◌∷◌, Bool, true, get_or, drop, eqb, ltb, Option, Some, None}
use Rattle.std.specs.Prelude.{Ok, Err}
use Rattle.std.specs.Prelude.{Result}
use Rattle.std.specs.Int.{w64}
use Rattle.std.proofs.Common.{Fits, ◌∙◌}
use native.Mathlib.Omega.{arith}
use Rattle.std.proofs.Math.Path.{refl, sym, ap}
use Rattle.std.proofs.Math.Bool.{false, cond}
use Rattle.std.proofs.lemmas.Bool.{false≢true}
use Rattle.std.proofs.Math.ListN.{length, length-append, get_or-eq_default}
use Rattle.std.proofs.Math.Seq.{take-length}
use borrow.Author.Tests.{eq-eqb, ne_eqb, lt-ltb, le-ltb, ltb-true, ltb-false}
use Rattle.octets.specs.Class.{is_sep}
use Rattle.octets.specs.Laws.{split}
use Rattle.octets.specs.declared.Seps.{Seps}
use Rattle.octets.specs.declared.Seps.TheVariants.{Unix, Windows, Verbatim as OnlyBack}
use Rattle.prefixes.specs.declared.Prefix.{Prefix}
use Rattle.prefixes.specs.declared.Prefix.TheVariants.{Verbatim, VerbatimUnc, VerbatimDisk, DeviceNs, Unc, Disk}
use Rattle.prefixes.specs.Prefix.{turned, begins, capital, drive, drive_exact, names_of, verbatim_of, unc_of, is_verbatim, device_of, prefix_of, prefix_in, end_of_prefix, has_prefix, is_disk}
use Rattle.prefixes.specs.Laws.{by_cond, drive_long, drive_disk, bare_none, end_within, drive_told}
use Rattle.parts.specs.declared.Component.TheVariants.{Prefix as Prefixed, RootDir, CurDir}
use Rattle.parts.specs.declared.Part.{Part}
use Rattle.parts.specs.Body.{dots, from}
use Rattle.parts.specs.Elements.{nth_of, nth_back_of, Upto}
use Rattle.parts.specs.Steps.{lift, raised, within, LastAt, BackAt}
use Rattle.parts.specs.Laws.{from_upto, upto_append, few, nth_append, nth_behind, nth_past, back_behind, back_before, back_past, back_nth, back_inside_of, last_none, last_one}
use Rattle.components.specs.declared.Dir.{Dir}
use Rattle.components.specs.declared.Dir.TheVariants.{Bare, Root, Implied, Dot}
use Rattle.components.specs.declared.Start.{Start}
use Rattle.components.specs.declared.Body.{Body}
use Rattle.components.specs.List.{sep_at, dot_at, prefix_seps, inner_seps, prefix_dir, behind_prefix, dir_of, dir_len, start_of, prefix_part, dir_part, head_list, body_list, whole_of, list_of, is_root, has_root, wants_prefix, is_absolute}
use Rattle.components.specs.Leaves.{start_with, OpenAt, BodyAt, CountAt}
use Rattle.parts.specs.declared.Element.{Element}

-- `sep_at`, `dot_at`
module _ (k : Seps) (s : List ℕ) (i : ℕ) where
  pub sep_in : (b : Bool) → i < length s → b ≡ is_sep k (get_or s i 0) → b ≡ sep_at k s i
  unfolding sep_at
  sep_in b h e = e ∙ simp (lt-ltb i (length s) h)

  pub sep_past : length s ≤ i → false ≡ sep_at k s i
  unfolding sep_at
  sep_past h = simp (le-ltb i (length s) h)

  sep_inside : sep_at k s i ≡ true → i < length s
  unfolding sep_at
  sep_inside h = split (ltb i (length s)) (λ e. ltb-true i (length s) e) (λ e. absurd (false≢true (rw e at h)))

  pub dot_past : length s ≤ i → false ≡ dot_at k s i
  unfolding dot_at
  dot_past h = rw (get_or-eq_default s 0 h)

  pub dot_not : (get_or s i 0 ≡ 46 → ⊥) → false ≡ dot_at k s i
  unfolding dot_at
  dot_not h = simp (ne_eqb (get_or s i 0) 46 h)

  pub dot_inside : dot_at k s i ≡ true → i < length s
  dot_inside h = split (ltb i (length s)) (λ e. ltb-true i (length s) e) (λ e. absurd (false≢true (dot_past (ltb-false i (length s) e) ∙ h)))

  module _ (d : get_or s i 0 ≡ 46) where
    pub dot_end : i + 1 ≡ length s → true ≡ dot_at k s i
    unfolding dot_at
    dot_end h = simp (d, eq-eqb (i + 1) (length s) h)

    pub dot_sep : (b : Bool) → (i + 1 ≡ length s → ⊥) → b ≡ sep_at k s (i + 1) → b ≡ dot_at k s i
    unfolding dot_at
    dot_sep b h e = e ∙ simp (d, ne_eqb (i + 1) (length s) h)

-- `inner_seps`, `behind_prefix`, `dir_of`
module _ (k : Seps) (p : Option Prefix) where
  pub seps_behind : (q : Prefix) (r : Seps) → p ≡ Some q → r ≡ prefix_seps k q → r ≡ inner_seps k p
  seps_behind q r e f = f ∙ rw e

  module _ (s : List ℕ) where
    pub dir_dot : (b : Bool) → p ≡ None → b ≡ dot_at k s 0 → b ≡ true → Dot ≡ behind_prefix k p s
    dir_dot b e f y = rw (e, ← f, y)

    pub dir_bare : (b : Bool) → p ≡ None → b ≡ dot_at k s 0 → b ≡ false → Bare ≡ behind_prefix k p s
    dir_bare b e f y = rw (e, ← f, y)

    pub dir_prefix : (q : Prefix) (r : Dir) → p ≡ Some q → r ≡ prefix_dir q → r ≡ behind_prefix k p s
    dir_prefix q r e f = f ∙ rw e

    module _ (i : ℕ) (b : Bool) (e : b ≡ sep_at k s i) where
      pub dir_root : b ≡ true → Root ≡ dir_of k p s i
      unfolding dir_of
      dir_root y = rw (← e, y)

      pub dir_else : (r : Dir) → b ≡ false → r ≡ behind_prefix k p s → r ≡ dir_of k p s i
      unfolding dir_of
      dir_else r n f = f ∙ rw (← e, n)

-- `begin`: the head lies in the path
bare_dir : (p : Prefix) → dir_len (prefix_dir p) ≡ 0
bare_dir (Verbatim n) = refl
bare_dir (VerbatimUnc n) = refl
bare_dir (VerbatimDisk d) = refl
bare_dir (DeviceNs n) = refl
bare_dir (Unc n) = refl
bare_dir (Disk d) = refl

behind_in : (k : Seps) (s : List ℕ) (p : Option Prefix) → end_of_prefix p ≤ length s → end_of_prefix p + dir_len (behind_prefix k p s) ≤ length s
behind_in k s None h = split (dot_at k s 0) (λ e. rw e (omega (arith, dot_inside k s 0 e))) (λ e. rw e (omega arith))
behind_in k s (Some p) h = omega (arith, bare_dir p)

dir_in : (k : Seps) (s : List ℕ) (p : Option Prefix) → end_of_prefix p ≤ length s → end_of_prefix p + dir_len (dir_of k p s (end_of_prefix p)) ≤ length s
unfolding dir_of
dir_in k s p h =
    split (sep_at k s (end_of_prefix p))
    (λ e. rw e (omega (arith, sep_inside k s (end_of_prefix p) e)))
    (λ e. rw e (behind_in k s p h))

-- `start_with`
module _ (k : Seps) (p : Option Prefix) (e : ℕ) (d : Dir) (n : ℕ) (l : n ≡ dir_len d) where
  pub with_fits : e + dir_len d < 2 ^ 63 → Fits w64 (e + n)
  with_fits w = record { fits = omega arith }

  pub with_is : (r : Seps) → r ≡ inner_seps k p → record { prefix = p; end = e; dir = d; at = e + n; seps = r } ≡ start_with k p e d
  unfolding start_with
  with_is r j = rw (j, l)

-- what is found of the prefix p, of its end e and of step 2 makes a start
module _ (k : Seps) (s : List ℕ) (p : Option Prefix) (f : p ≡ prefix_in k s) (e : ℕ) (g : e ≡ end_of_prefix p) (d : Dir) (h : d ≡ dir_of k p s e) where
  at_in : e + dir_len d ≤ length s
  at_in = rw (h, g) (dir_in k s p (end_within k s p f))

  pub parsed_small : length s * 1 < 2 ^ 63 → e + dir_len d < 2 ^ 63
  parsed_small w = omega (arith, at_in)

  pub parsed_open : (r : Start) → r ≡ start_with k p e d → OpenAt k s r
  unfolding start_of start_with
  parsed_open r j = rw j (record { is = rw (h, g, f); low = omega arith; high = at_in })

pub begin_is : (k : Seps) (s : List ℕ) (p : Option Prefix) → p ≡ prefix_in k s → (e : ℕ) → e ≡ end_of_prefix p → (d : Dir) → d ≡ dir_of k p s e → (n : ℕ) → n ≡ dir_len d → (r : Seps) → r ≡ inner_seps k p → OpenAt k s (record { prefix = p; end = e; dir = d; at = e + n; seps = r })
begin_is k s p f e g d h n l r j = parsed_open k s p f e g d h _ (with_is k p e d n l r j)

-- `plain_start`
module _ (k : Seps) (s : List ℕ) (f : prefix_in k s ≡ None) (d : Dir) (h : d ≡ dir_of k None s 0) where
  pub plain_small : length s * 1 < 2 ^ 63 → 0 + dir_len d < 2 ^ 63
  plain_small w = parsed_small k s None (sym f) 0 refl d h w

  pub plain_open : (r : Start) → r ≡ start_with k None 0 d → OpenAt k s r
  plain_open r j = parsed_open k s None (sym f) 0 refl d h r j

-- `drive_start`
module _ (k : Seps) (s : List ℕ) (w : k ≡ Windows) (h : drive s ≡ true) where
  on_disk_lem : prefix_in k s ≡ Some (Disk (capital (get_or s 0 0)))
  on_disk_lem = rw w (drive_disk s h)

  pub drive_some : 0 < length s
  drive_some = omega (arith, drive_long s h)

  module _ (c : ℕ) (e : c ≡ capital (get_or s 0 0)) (d : Dir) (g : d ≡ dir_of k (Some (Disk c)) s 2) where
    letter : Some (Disk c) ≡ prefix_in k s
    letter = rw e (sym on_disk_lem)

    pub drive_small : length s * 1 < 2 ^ 63 → 2 + dir_len d < 2 ^ 63
    drive_small l = parsed_small k s (Some (Disk c)) letter 2 refl d g l

    pub drive_open : (r : Start) → r ≡ start_with k (Some (Disk c)) 2 d → OpenAt k s r
    drive_open r j = parsed_open k s (Some (Disk c)) letter 2 refl d g r j

-- `begin`: where there is no prefix
pub unix_plain : (k : Seps) (s : List ℕ) → k ≡ Unix → prefix_in k s ≡ None
unix_plain k s e = rw e

pub verbatim_plain : (k : Seps) (s : List ℕ) → k ≡ OnlyBack → prefix_in k s ≡ None
verbatim_plain k s e = rw e

no_begin : (s : List ℕ) → sep_at Windows s 0 ≡ false → begins (92 ∷ 92 ∷ []) s ≡ false
unfolding sep_at begins turned
no_begin [] h = refl
no_begin (x ∷ s) h =
    let g : is_sep Windows x ≡ false = sym (simp (lt-ltb 0 (length (x ∷ s)) (omega arith))) ∙ h in
    split (eqb x 47)
    (λ e. absurd (false≢true (sym (rw e at g))))
    (λ e. simp (e, rw e at g))

pub windows_plain : (k : Seps) (s : List ℕ) (b c : Bool) → k ≡ Windows → b ≡ drive s → b ≡ false → c ≡ sep_at k s 0 → c ≡ false → prefix_in k s ≡ None
windows_plain k s b c w e f g h = rw w (bare_none s (sym e ∙ f) (no_begin s (rw w at (sym g ∙ h))))

pub ruleset heads = (drive_told, sep_in, sep_past, dot_past, dot_not, dot_end, dot_sep, seps_behind, dir_dot, dir_bare, dir_prefix, dir_root, dir_else, end_within, with_fits, with_is, parsed_small, parsed_open, plain_small, plain_open, drive_some, drive_small, drive_open, unix_plain, verbatim_plain, windows_plain)

-- `body_in`
module _ (k : Seps) (s : List ℕ) where
  pub open_start : OpenAt k s (start_of k s)
  unfolding start_of start_with
  open_start = parsed_open k s (prefix_in k s) refl _ refl _ refl _ refl

  pub begun_body : (h : Start) → OpenAt k s h → BodyAt k s (record { at = h.at; seps = h.seps })
  begun_body h o = record { place = ap (λ (x : Start). x.at) o.is; by = ap (λ (x : Start). x.seps) o.is }

  module _ (f : prefix_in k s ≡ None) (b : Bool) (e : b ≡ sep_at k s 0) where
    pub plain_rooted : b ≡ true → BodyAt k s (record { at = 1; seps = k })
    unfolding start_of dir_of
    plain_rooted y = record { place = rw (f, sym e ∙ y); by = rw f }

    module _ (n : b ≡ false) (c : Bool) (g : c ≡ dot_at k s 0) where
      pub plain_dotted : c ≡ true → BodyAt k s (record { at = 1; seps = k })
      unfolding start_of dir_of
      plain_dotted y = record { place = rw (f, sym e ∙ n, sym g ∙ y); by = rw f }

      pub plain_bare : c ≡ false → BodyAt k s (record { at = 0; seps = k })
      unfolding start_of dir_of
      plain_bare y = record { place = rw (f, sym e ∙ n, sym g ∙ y); by = rw f }

  module _ (w : k ≡ Windows) (h : drive s ≡ true) (b : Bool) (e : b ≡ sep_at k s 2) where
    pub drive_rooted : b ≡ true → BodyAt k s (record { at = 3; seps = k })
    unfolding start_of dir_of
    drive_rooted y = record { place = rw (on_disk_lem k s w h, sym e ∙ y); by = rw (on_disk_lem k s w h) }

    pub drive_bare : b ≡ false → BodyAt k s (record { at = 2; seps = k })
    unfolding start_of dir_of
    drive_bare n = record { place = rw (on_disk_lem k s w h, sym e ∙ n); by = rw (on_disk_lem k s w h) }

pub ruleset bodies = (begun_body, plain_rooted, plain_dotted, plain_bare, drive_rooted, drive_bare, unix_plain, verbatim_plain, windows_plain, drive_told)

-- ---- the head's elements

prefix_long : (p : Option Prefix) (a e : ℕ) → length (prefix_part p a) ≡ length (prefix_part p e)
prefix_long None a e = refl
prefix_long (Some p) a e = refl

dir_long : (d : Dir) (a e : ℕ) → length (dir_part d a) ≡ length (dir_part d e)
dir_long Bare a e = refl
dir_long Root a e = refl
dir_long Implied a e = refl
dir_long Dot a e = refl

prefix_few : (p : Option Prefix) (e : ℕ) → length (prefix_part p e) ≤ 1
prefix_few None e = omega arith
prefix_few (Some p) e = omega arith

pub dir_few : (d : Dir) (e : ℕ) → length (dir_part d e) ≤ 1
dir_few Bare e = omega arith
dir_few Root e = omega arith
dir_few Implied e = omega arith
dir_few Dot e = omega arith

pub head_few : (h : Start) → length (head_list h) ≤ 2
unfolding head_list
head_few h = omega (arith, length-append (prefix_part h.prefix h.end) (dir_part h.dir h.end), prefix_few h.prefix h.end, dir_few h.dir h.end)

-- `head_count`
module _ (h : Start) (a b : ℕ) (e : a ≡ length (prefix_part h.prefix 0)) (f : b ≡ length (dir_part h.dir 0)) where
  pub count_sum : Fits w64 (a + b)
  count_sum = record { fits = omega (arith, prefix_few h.prefix 0, dir_few h.dir 0) }

  pub count_head : CountAt (head_list h) (a + b)
  unfolding head_list
  count_head =
      record {
        is = omega (arith, length-append (prefix_part h.prefix h.end) (dir_part h.dir h.end), prefix_long h.prefix 0 h.end, dir_long h.dir 0 h.end);
        small = omega (arith, prefix_few h.prefix 0, dir_few h.dir 0);
      }

-- `dir_item`
module _ (d : Dir) (e : ℕ) where
  pub item_bare : d ≡ Bare → None ≡ nth_of (dir_part d e) 0
  unfolding nth_of
  item_bare h = rw h

  pub item_root : d ≡ Root → Some (record { component = RootDir; start = e; len = 1 }) ≡ nth_of (dir_part d e) 0
  unfolding nth_of
  item_root h = rw h

  pub item_implied : d ≡ Implied → Some (record { component = RootDir; start = e; len = 0 }) ≡ nth_of (dir_part d e) 0
  unfolding nth_of
  item_implied h = rw h

  pub item_dot : d ≡ Dot → Some (record { component = CurDir; start = e; len = 1 }) ≡ nth_of (dir_part d e) 0
  unfolding nth_of
  item_dot h = rw h

-- `head_at`
dir_one : (d : Dir) (e f : ℕ) → (f ≡ 0 → ⊥) → nth_of (dir_part d e) f ≡ None
dir_one d e f h = nth_past (dir_part d e) f (omega (arith, dir_few d e))

module _ (h : Start) (f : ℕ) where
  module _ (p : h.prefix ≡ None) where
    pub head_dir : (r : Option Element) → r ≡ nth_of (dir_part h.dir h.end) 0 → f ≡ 0 → r ≡ nth_of (head_list h) f
    unfolding head_list
    head_dir r e z = e ∙ rw (p, z)

    pub head_none : (f ≡ 0 → ⊥) → None ≡ nth_of (head_list h) f
    unfolding head_list
    head_none n = rw p (sym (dir_one h.dir h.end f n))

  module _ (q : Prefix) (p : h.prefix ≡ Some q) where
    pub head_prefix : f ≡ 0 → Some (record { component = Prefixed q; start = 0; len = h.end }) ≡ nth_of (head_list h) f
    unfolding head_list nth_of
    head_prefix z = rw (p, z)

    pub head_second : (r : Option Element) → r ≡ nth_of (dir_part h.dir h.end) 0 → (f ≡ 0 → ⊥) → f ≡ 1 → r ≡ nth_of (head_list h) f
    unfolding head_list nth_of
    head_second r e n z = e ∙ rw (p, z)

    pub head_third : (f ≡ 0 → ⊥) → (f ≡ 1 → ⊥) → None ≡ nth_of (head_list h) f
    head_third n m = sym (nth_past (head_list h) f (omega (arith, head_few h)))

-- ---- the whole list

-- `element_of`, `total_of`
module _ (h : Start) (s : List ℕ) (n : ℕ) (c : CountAt (head_list h) n) where
  module _ (f : ℕ) where
    pub whole_head : (r : Option Element) → f < n → r ≡ nth_of (head_list h) f → r ≡ nth_of (whole_of h s) f
    unfolding whole_of
    whole_head r l e = e ∙ sym (nth_append (head_list h) (body_list h s) f (omega (arith, c.is)))

    pub whole_body : (p : Option Part) (r : Option Element) → n ≤ f → raised p ≡ nth_of (from (is_sep h.seps) (dots h.seps) s h.at) (f - n) → r ≡ raised p → r ≡ nth_of (whole_of h s) f
    unfolding whole_of body_list
    whole_body p r l e g = g ∙ e ∙ rw c.is (sym (nth_behind (head_list h) (body_list h s) f (omega (arith, c.is))))

  module _ (m : ℕ) (e : m ≡ length (from (is_sep h.seps) (dots h.seps) s h.at)) (w : length s * 1 < 2 ^ 63) where
    body_few : m ≤ length s + 1
    body_few = omega (arith, few (is_sep h.seps) (dots h.seps) s h.at)

    pub total_fits : Fits w64 (n + m)
    total_fits = record { fits = omega (arith, body_few, head_few h, c.is) }

    pub total_is : CountAt (whole_of h s) (n + m)
    unfolding whole_of body_list
    total_is = record { is = omega (arith, length-append (head_list h) (body_list h s), c.is); small = omega (arith, body_few, head_few h, c.is) }

-- `element_back_of`
body_within : (h : Start) (s : List ℕ) → body_list h s ≡ within (is_sep h.seps) (dots h.seps) s h.at (length s)
unfolding body_list within
body_within h s = rw (take-length s)

module _ (h : Start) (s : List ℕ) (b : ℕ) (p : Result Part ℕ) (e : BackAt (within (is_sep h.seps) (dots h.seps) s h.at (length s)) b p) where
  pub back_at : (q : Part) (r : Option Element) → p ≡ Ok q → r ≡ raised (Some q) → r ≡ nth_back_of (whole_of h s) b
  unfolding whole_of
  back_at q r g f =
      let t : Some (lift q) ≡ nth_back_of (body_list h s) b = rw (body_within h s) (rw g at e) in
      f ∙ t ∙ sym (back_behind (head_list h) (body_list h s) b (back_inside_of (body_list h s) b {p = lift q} (sym t)))

  pub back_left : (c : ℕ) (r : Option Element) → p ≡ Err c → r ≡ nth_back_of (head_list h) c → r ≡ nth_back_of (whole_of h s) b
  unfolding whole_of
  back_left c r g f =
      let t : length (body_list h s) + c ≡ b = rw (body_within h s) (rw g at e) in
      let m : b - length (body_list h s) ≡ c = omega arith in
      f ∙ sym (back_before (head_list h) (body_list h s) b (omega arith) ∙ rw m)

-- `head_back`
module _ (h : Start) (b n : ℕ) (c : CountAt (head_list h) n) where
  pub head_back : (r : Option Element) → b < n → r ≡ nth_of (head_list h) (n - 1 - b) → r ≡ nth_back_of (head_list h) b
  head_back r l f = f ∙ sym (back_nth (head_list h) b (omega (arith, c.is)) ∙ rw c.is)

  pub head_out : n ≤ b → None ≡ nth_back_of (head_list h) b
  head_out l = sym (back_past (head_list h) b (omega (arith, c.is)))

-- `element`, `element_back`, `total`
module _ (k : Seps) (s : List ℕ) (h : Start) (o : OpenAt k s h) where
  pub whole_list : whole_of h s ≡ list_of k s
  unfolding list_of
  whole_list = rw o.is

  pub element_is : (f : ℕ) (r : Option Element) → r ≡ nth_of (whole_of h s) f → r ≡ nth_of (list_of k s) f
  element_is f r e = rw (← whole_list) e

  pub element_back_is : (b : ℕ) (r : Option Element) → r ≡ nth_back_of (whole_of h s) b → r ≡ nth_back_of (list_of k s) b
  element_back_is b r e = rw (← whole_list) e

  pub total_of_list : (r : ℕ) → CountAt (whole_of h s) r → CountAt (list_of k s) r
  total_of_list r c = rw (← whole_list) c

-- `last_element`
module _ (k : Seps) (s : List ℕ) where
  module _ (w : Body) (o : BodyAt k s w) (p : Option Part) (f : LastAt (is_sep w.seps) (dots w.seps) s w.at (length s) p) where
    pub last_begun : LastAt (is_sep (start_of k s).seps) (dots (start_of k s).seps) s (start_of k s).at (length s) p
    last_begun = rw (← o.place, ← o.by) f

    pub last_part : (q : Part) (r : Option Element) → p ≡ Some q → r ≡ raised (Some q) → r ≡ nth_back_of (list_of k s) 0
    unfolding list_of
    last_part q r g z = back_at (start_of k s) s 0 (Ok q) (rw g at (last_one _ _ s _ _ p last_begun)) q r refl z

    pub last_behind : (q : Part) → p ≡ Some q → length (head_list (start_of k s)) < length (list_of k s)
    unfolding list_of whole_of
    last_behind q g =
        let t : Some (lift q) ≡ nth_back_of (body_list (start_of k s) s) 0 = rw (body_within (start_of k s) s) (rw g at (last_one _ _ s _ _ p last_begun)) in
        omega (arith, length-append (head_list (start_of k s)) (body_list (start_of k s) s), back_inside_of (body_list (start_of k s) s) 0 {p = lift q} (sym t))

    pub last_head : (h : Start) (r : Option Element) → p ≡ None → OpenAt k s h → r ≡ nth_back_of (head_list h) 0 → r ≡ nth_back_of (list_of k s) 0
    unfolding list_of
    last_head h r g a z = back_left (start_of k s) s 0 (Err 0) (omega (arith, ap length (last_none last_begun g))) 0 r refl (rw (← a.is) z)

  -- `element_back`
  pub last_zero : (b : ℕ) (r : Option Element) → b ≡ 0 → r ≡ nth_back_of (list_of k s) 0 → r ≡ nth_back_of (list_of k s) b
  last_zero b r e z = rw e z

pub ruleset lasts = (last_part, last_head, last_zero)

-- ---- the tests on the head

-- a prefix that is no drive has a root
abbrev Rooted : Option Prefix → Type 0
Rooted None = Unit
Rooted (Some p) = is_disk p ≡ false

verbatim_rooted : (s : List ℕ) → is_disk (verbatim_of s) ≡ false
unfolding verbatim_of
verbatim_rooted s =
    by_cond (λ (p : Prefix). is_disk p ≡ false) (begins (85 ∷ 78 ∷ 67 ∷ 92 ∷ []) (drop 4 s)) _ _ (λ _. refl)
    (λ _. by_cond (λ (p : Prefix). is_disk p ≡ false) (drive_exact (drop 4 s)) _ _ (λ _. refl) (λ _. refl))

device_rooted : (s : List ℕ) → Rooted (device_of s)
unfolding device_of unc_of
device_rooted s =
    by_cond Rooted (begins (46 ∷ 92 ∷ []) (drop 2 s)) _ _ (λ _. refl)
    (λ _. by_cond Rooted (eqb (names_of (is_sep Windows) 2 (drop 2 s)).server.len 0) _ _ (λ _. tt)
    (λ _. by_cond Rooted (eqb (names_of (is_sep Windows) 2 (drop 2 s)).share.len 0) _ _ (λ _. tt) (λ _. refl)))

rooted : (s : List ℕ) → drive s ≡ false → Rooted (prefix_of s)
unfolding prefix_of
rooted s h =
    by_cond Rooted (begins (92 ∷ 92 ∷ []) s) _ _
    (λ _. by_cond Rooted (is_verbatim s) _ _ (λ _. verbatim_rooted s) (λ _. device_rooted s))
    (λ _. rw h tt)

module _ (k : Seps) (s : List ℕ) where
  plain_has : prefix_in k s ≡ None → has_root k s ≡ sep_at k s 0
  unfolding has_root start_of dir_of
  plain_has e =
      split (sep_at k s 0)
      (λ y. rw (e, y))
      (λ n. rw (e, n) (split (dot_at k s 0) (λ y. rw y) (λ y. rw y)))

  disk_has : (c : ℕ) → prefix_in k s ≡ Some (Disk c) → has_root k s ≡ sep_at k s 2
  unfolding has_root start_of dir_of
  disk_has c e = split (sep_at k s 2) (λ y. rw (e, y)) (λ n. rw (e, n))

  other_has : (p : Prefix) → prefix_in k s ≡ Some p → is_disk p ≡ false → has_root k s ≡ true
  unfolding has_root
  other_has p e f = rw (e, f) (split (is_root (start_of k s).dir) (λ y. rw y) (λ n. rw n))

  rooted_has : (p : Option Prefix) → prefix_in k s ≡ p → Rooted p → sep_at k s 0 ≡ true → has_root k s ≡ true
  rooted_has None e t y = plain_has e ∙ y
  rooted_has (Some p) e t y = other_has p e t

  -- `has_root`
  pub unix_root : (r : Bool) → k ≡ Unix → r ≡ sep_at k s 0 → r ≡ has_root k s
  unix_root r w f = f ∙ sym (plain_has (unix_plain k s w))

  pub verbatim_root : (r : Bool) → k ≡ OnlyBack → r ≡ sep_at k s 0 → r ≡ has_root k s
  verbatim_root r w f = f ∙ sym (plain_has (verbatim_plain k s w))

  -- `windows_root`
  module _ (w : k ≡ Windows) (b : Bool) (e : b ≡ drive s) where
    pub drive_root : (r : Bool) → b ≡ true → r ≡ sep_at k s 2 → r ≡ has_root k s
    drive_root r h f = f ∙ sym (disk_has _ (on_disk_lem k s w (sym e ∙ h)))

    module _ (h : b ≡ false) where
      no_drive : Rooted (prefix_in k s)
      no_drive = rw w (rooted s (sym e ∙ h))

      pub other_root : (r : Bool) → r ≡ sep_at k s 0 → r ≡ has_root k s
      other_root r f =
          f ∙ split (sep_at k s 0)
          (λ y. y ∙ sym (rooted_has (prefix_in k s) refl no_drive y))
          (λ n. sym (plain_has (windows_plain k s b (sep_at k s 0) w e h refl n)))

-- `is_absolute`
module _ (k : Seps) (s : List ℕ) (r : Bool) where
  pub unix_absolute : k ≡ Unix → r ≡ sep_at k s 0 → r ≡ is_absolute k s
  unfolding is_absolute
  unix_absolute w f = unix_root k s r w f ∙ rw w

  pub verbatim_absolute : k ≡ OnlyBack → r ≡ sep_at k s 0 → r ≡ is_absolute k s
  unfolding is_absolute
  verbatim_absolute w f = verbatim_root k s r w f ∙ rw w

  module _ (w : k ≡ Windows) (b : Bool) (e : b ≡ drive s) where
    pub drive_absolute : b ≡ true → r ≡ sep_at k s 2 → r ≡ is_absolute k s
    unfolding is_absolute
    drive_absolute h f = drive_root k s w b e r h f ∙ rw (on_disk_lem k s w (sym e ∙ h), w)

    pub other_absolute : (p : Option Prefix) → b ≡ false → p ≡ prefix_in k s → r ≡ has_prefix p → r ≡ is_absolute k s
    unfolding is_absolute
    other_absolute p h f g = g ∙ rw w (go p (sym f) (rw (← f) at (no_drive k s w b e h)))
      where
        go : (p : Option Prefix) → prefix_in k s ≡ p → Rooted p → has_prefix p ≡ cond (wants_prefix Windows (prefix_in Windows s)) false (has_root Windows s)
        go None i t = rw (rw w at i)
        go (Some q) i t = rw (rw w at i) (sym (other_has Windows s q (rw w at i) t))

pub ruleset lists = (drive_told, item_bare, item_root, item_implied, item_dot, count_sum, count_head, head_dir, head_none, head_prefix, head_second, head_third, whole_head, whole_body, total_fits, total_is, back_at, back_left, head_back, head_out, element_is, element_back_is, total_of_list, unix_root, verbatim_root, drive_root, other_root, unix_absolute, verbatim_absolute, drive_absolute, other_absolute)

-- ---- the list lies in the path, and has few elements

prefix_upto : (m : ℕ) (p : Option Prefix) (e : ℕ) → e ≤ m → Upto m (prefix_part p e)
unfolding Upto
prefix_upto m None e h = tt
prefix_upto m (Some p) e h = (omega arith, tt)

dir_upto : (m : ℕ) (d : Dir) (e : ℕ) → e + dir_len d ≤ m → Upto m (dir_part d e)
unfolding Upto
dir_upto m Bare e h = tt
dir_upto m Root e h = (h, tt)
dir_upto m Implied e h = (omega arith, tt)
dir_upto m Dot e h = (h, tt)

at_is : (k : Seps) (s : List ℕ) (h : Start) → OpenAt k s h → h.end + dir_len h.dir ≡ h.at
unfolding start_of
at_is k s h o = rw o.is

pub list_upto : (k : Seps) (s : List ℕ) (h : Start) → OpenAt k s h → Upto (length s) (whole_of h s)
unfolding whole_of head_list body_list
list_upto k s h o =
    let e = at_is k s h o in
    upto_append (length s) _ _
    (upto_append (length s) _ _ (prefix_upto (length s) h.prefix h.end (omega (arith, o.low, o.high))) (dir_upto (length s) h.dir h.end (omega (arith, o.high))))
    (from_upto (is_sep h.seps) (dots h.seps) s h.at o.high)

pub list_few : (h : Start) (s : List ℕ) → length (whole_of h s) ≤ length s + 3
unfolding whole_of body_list
list_few h s = omega (arith, length-append (head_list h) (body_list h s), head_few h, few (is_sep h.seps) (dots h.seps) s h.at)

pub path_few : (k : Seps) (s : List ℕ) → length (list_of k s) ≤ length s + 3
unfolding list_of
path_few k s = list_few (start_of k s) s
