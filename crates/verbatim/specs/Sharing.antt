-- What the result is made of: a verbatim join's definition, in terms of what stays of the two bodies.
use Rattle.std.specs.Prelude.{ℕ, ◌+◌, ◌≡◌, Bool, false, cond, length, take, drop, Option, Some, None}
use Rattle.std.proofs.Common.{arith, sym, ◌∙◌, length-append}
use Rattle.std.proofs.Math.Path.{refl, ap}
use mathlib.Core.List.{List, [], ◌∷◌, ◌++◌, append_assoc}
use Rattle.std.proofs.Math.Bool.{true}
use Rattle.std.proofs.lemmas.Bool.{false≢true}
use Rattle.std.proofs.Math.Seq.{take-length}
use Rattle.octets.specs.Class.{is_sep}
use Rattle.octets.specs.Laws.{split}
use Rattle.octets.specs.declared.Seps.{Seps}
use Rattle.octets.specs.declared.Seps.TheVariants.{Windows, Verbatim as OnlyBack}
use Rattle.prefixes.specs.declared.Prefix.{Prefix}
use Rattle.prefixes.specs.declared.Prefix.TheVariants.{Verbatim, VerbatimUnc, VerbatimDisk, DeviceNs, Unc, Disk}
use Rattle.prefixes.specs.Prefix.{prefix_in}
use Rattle.parts.specs.declared.Component.{Component}
use Rattle.parts.specs.declared.Component.TheVariants.{Prefix as Prefixed, RootDir, CurDir, ParentDir, Normal}
use Rattle.parts.specs.Body.{dots}
use Rattle.parts.specs.Steps.{within}
use Rattle.parts.specs.Laws.{within_none}
use Rattle.components.specs.declared.Dir.{Dir}
use Rattle.components.specs.declared.Dir.TheVariants.{Bare, Root, Implied, Dot}
use Rattle.components.specs.declared.Start.{Start}
use Rattle.components.specs.List.{sep_at, prefix_seps, inner_seps, prefix_dir, dir_of, dir_len, prefix_part, dir_part, start_of, head_list, body_list, whole_of, list_of}
use Rattle.components.specs.Leaves.{OpenAt}
use Rattle.components.specs.Laws.{whole_list}
use Rattle.verbatim.specs.declared.Stretch.{Stretch}
use Rattle.verbatim.specs.declared.Tally.{Tally}
use Rattle.verbatim.specs.declared.Share.{Share}
use Rattle.verbatim.specs.Verbatim.{verbatim_kind, verbatim_in, Spelling, spellings_of, laid, is_root_dir, text_of, written, verbatim_join}
use Rattle.verbatim.specs.Leaves.{owed, kept, flat, owed_at, text_at, stretch_text, Tallied, roots_of, behind_text, both_text, Shared, plan_text, Planned}
use Rattle.verbatim.specs.Laws.{in_body, pops, pops_stay, PlainV, spellings_plain, append_plain, kept_plain, laid_kept, own_kept, spellings_append, flat_append}

-- ---- the bytes of a list that has a prefix ahead, a root behind it where r holds, and a body

abbrev front_list : Prefix → List ℕ → Bool → List ℕ → List Spelling
front_list x a r w = record { component = Prefixed x; bytes = a } ∷ cond r (record { component = RootDir; bytes = w } ∷ []) []

front_stays : (c : ℕ) (x : Prefix) (a : List ℕ) (r : Bool) (w : List ℕ) → pops c (front_list x a r w) ≡ front_list x a r w
front_stays c x a true w = pops_stay c (record { component = Prefixed x; bytes = a } ∷ []) (record { component = RootDir; bytes = w }) refl
front_stays c x a false w = pops_stay c [] (record { component = Prefixed x; bytes = a }) refl

body_text : (m : Component) (w : List ℕ) → in_body m ≡ true → text_of m w ≡ w
body_text (Prefixed p) w h = refl
body_text RootDir w h = absurd (false≢true h)
body_text CurDir w h = refl
body_text ParentDir w h = refl
body_text Normal w h = refl

body_root : (m : Component) → in_body m ≡ true → is_root_dir m ≡ false
body_root (Prefixed p) h = refl
body_root RootDir h = absurd (false≢true h)
body_root CurDir h = refl
body_root ParentDir h = refl
body_root Normal h = refl

written_flat : (l : List Spelling) → PlainV l → written false l ≡ flat l
unfolding PlainV written flat
written_flat [] u = refl
written_flat (v ∷ l) u = rw (body_root v.component u.0, body_text v.component v.bytes u.0, written_flat l u.1)

written_front : (x : Prefix) (a : List ℕ) (r : Bool) (w : List ℕ) (l : List Spelling) → PlainV l → written true (front_list x a r w ++ l) ≡ a ++ behind_text r (flat l)
unfolding PlainV written flat behind_text
written_front x a true w [] u = refl
written_front x a false w [] u = refl
written_front x a true w (v ∷ l) u = rw (body_root v.component u.0, body_text v.component v.bytes u.0, written_flat l u.1)
written_front x a false w (v ∷ l) u = ap (λ (t : List ℕ). a ++ t) (written_flat (v ∷ l) u)

-- the bytes of q's body m laid onto p's l
front_text : (x : Prefix) (a : List ℕ) (r : Bool) (w : List ℕ) (l m : List Spelling) → PlainV l → PlainV m
    → written true (laid (front_list x a r w ++ l) m) ≡ a ++ behind_text r (flat (kept OnlyBack (owed Windows 0 m) l) ++ flat (kept Windows 0 m))
front_text x a r w l m u v =
    ap (written true)
    (laid_kept (front_list x a r w ++ l) m 0 v ∙ rw (own_kept (front_list x a r w) l (owed Windows 0 m) u, front_stays, append_assoc))
    ∙ written_front x a r w (kept OnlyBack (owed Windows 0 m) l ++ kept Windows 0 m) (append_plain _ _ (kept_plain OnlyBack _ l u) (kept_plain Windows 0 m v))
    ∙ rw flat_append

-- ---- the lists of p and of q

verb_seps : (x : Prefix) → verbatim_kind x ≡ true → prefix_seps Windows x ≡ OnlyBack
verb_seps (Verbatim n) h = refl
verb_seps (VerbatimUnc n) h = refl
verb_seps (VerbatimDisk d) h = refl
verb_seps (DeviceNs n) h = absurd (false≢true h)
verb_seps (Unc n) h = absurd (false≢true h)
verb_seps (Disk d) h = absurd (false≢true h)

verb_dir : (x : Prefix) → verbatim_kind x ≡ true → prefix_dir x ≡ Bare
verb_dir (Verbatim n) h = refl
verb_dir (VerbatimUnc n) h = refl
verb_dir (VerbatimDisk d) h = refl
verb_dir (DeviceNs n) h = absurd (false≢true h)
verb_dir (Unc n) h = absurd (false≢true h)
verb_dir (Disk d) h = absurd (false≢true h)

-- behind a verbatim prefix step 2 is RootDir or nothing
abbrev root_values : List ℕ → Dir → ℕ → List Spelling
root_values p d e = cond (roots_of d) (record { component = RootDir; bytes = take (dir_len d) (drop e p) } ∷ []) []

dir_spellings : (x : Prefix) (p : List ℕ) (e : ℕ) → verbatim_kind x ≡ true → spellings_of p (dir_part (dir_of Windows (Some x) p e) e) ≡ root_values p (dir_of Windows (Some x) p e) e
unfolding dir_of spellings_of
dir_spellings x p e h = split (sep_at Windows p e) (λ f. rw f) (λ f. rw (f, verb_dir x h))

module _ (s : List ℕ) (h : Start) (o : OpenAt Windows s h) where
  start_prefix : h.prefix ≡ prefix_in Windows s
  unfolding start_of
  start_prefix = rw o.is

  start_seps : h.seps ≡ inner_seps Windows (prefix_in Windows s)
  unfolding start_of
  start_seps = rw o.is

  start_dir : h.dir ≡ dir_of Windows (prefix_in Windows s) s h.end
  unfolding start_of
  start_dir = rw o.is

  list_spellings : (z : Option Prefix) (k : Seps) → prefix_in Windows s ≡ z → inner_seps Windows z ≡ k
      → spellings_of s (list_of Windows s) ≡ spellings_of s (prefix_part z h.end) ++ spellings_of s (dir_part h.dir h.end) ++ spellings_of s (within (is_sep k) (dots k) s h.at (length s))
  unfolding whole_of head_list body_list within
  list_spellings z k e f =
      let i : h.prefix ≡ z = start_prefix ∙ e in
      let j : h.seps ≡ k = start_seps ∙ ap (inner_seps Windows) e ∙ f in
      rw (← whole_list Windows s h o, i, j, take-length s, spellings_append, spellings_append)

module _ (p : List ℕ) (h : Start) (o : OpenAt Windows p h) (x : Prefix) (e : prefix_in Windows p ≡ Some x) (v : verbatim_kind x ≡ true) where
  -- p's list
  front_spellings : spellings_of p (list_of Windows p) ≡ front_list x (take h.end p) (roots_of h.dir) (take (dir_len h.dir) (drop h.end p)) ++ spellings_of p (within (is_sep OnlyBack) (dots OnlyBack) p h.at (length p))
  unfolding spellings_of
  front_spellings =
      let d : h.dir ≡ dir_of Windows (Some x) p h.end = start_dir p h o ∙ ap (λ (z : Option Prefix). dir_of Windows z p h.end) e in
      list_spellings p h o (Some x) OnlyBack e (verb_seps x v) ∙ rw (d, dir_spellings x p h.end v)

-- q's first component: a root cuts p's list to the prefix, and a dot does nothing
laid_root : (q : List ℕ) (v : Spelling) (l m : List Spelling) (d : Dir) (e : ℕ) → roots_of d ≡ true → laid (v ∷ l) (spellings_of q (dir_part d e) ++ m) ≡ laid (v ∷ record { component = RootDir; bytes = take (dir_len d) (drop e q) } ∷ []) m
unfolding spellings_of laid
laid_root q v l m Bare e h = absurd (false≢true h)
laid_root q v l m Root e h = refl
laid_root q v l m Implied e h = refl
laid_root q v l m Dot e h = absurd (false≢true h)

laid_dir : (q : List ℕ) (l m : List Spelling) (d : Dir) (e : ℕ) → roots_of d ≡ false → laid l (spellings_of q (dir_part d e) ++ m) ≡ laid l m
unfolding spellings_of laid
laid_dir q l m Bare e h = refl
laid_dir q l m Root e h = absurd (false≢true (sym h))
laid_dir q l m Implied e h = absurd (false≢true (sym h))
laid_dir q l m Dot e h = refl

-- `share_of`: a and b are what `begin` answered
module _ (p q : List ℕ) (h g : Start) (a : OpenAt Windows p h) (b : OpenAt Windows q g) (n : prefix_in Windows q ≡ None) where
  tail_spellings : spellings_of q (list_of Windows q) ≡ spellings_of q (dir_part g.dir g.end) ++ spellings_of q (within (is_sep Windows) (dots Windows) q g.at (length q))
  unfolding spellings_of
  tail_spellings = list_spellings q g b None Windows n refl

  module _ (x : Prefix) (e : prefix_in Windows p ≡ Some x) (v : verbatim_kind x ≡ true) where
    root_text : roots_of g.dir ≡ true → verbatim_join p q ≡ take h.end p ++ behind_text true (both_text p h.at h.at q g.at)
    unfolding verbatim_join both_text text_at owed_at spellings_of PlainV
    root_text r =
        let z : within (is_sep OnlyBack) (dots OnlyBack) p h.at h.at ≡ [] = within_none (is_sep OnlyBack) (dots OnlyBack) p h.at h.at (omega arith) (omega (arith, a.high)) in
        rw (z, front_spellings p h a x e v, tail_spellings, laid_root q _ _ _ g.dir g.end r)
        (front_text x (take h.end p) true _ [] _ tt (spellings_plain Windows q g.at (length q)))

    parts_text : roots_of g.dir ≡ false → verbatim_join p q ≡ take h.end p ++ behind_text (roots_of h.dir) (both_text p h.at (length p) q g.at)
    unfolding verbatim_join both_text text_at owed_at
    parts_text r =
        rw (front_spellings p h a x e v, tail_spellings, laid_dir q _ _ g.dir g.end r)
        (front_text x (take h.end p) (roots_of h.dir) _ _ _ (spellings_plain OnlyBack p h.at (length p)) (spellings_plain Windows q g.at (length q)))

  root_shared : (z : Option Prefix) → prefix_in Windows p ≡ z → verbatim_in z ≡ true → roots_of g.dir ≡ true → Shared p q (record { end = h.end; root = true; lo = h.at; hi = h.at; at = g.at })
  root_shared None e v r = absurd (false≢true v)
  root_shared (Some x) e v r = record { is = root_text x e v r; end_in = omega (arith, a.low, a.high); hi_in = a.high }

  parts_shared : (z : Option Prefix) → prefix_in Windows p ≡ z → verbatim_in z ≡ true → roots_of g.dir ≡ false → Shared p q (record { end = h.end; root = roots_of h.dir; lo = h.at; hi = length p; at = g.at })
  parts_shared None e v r = absurd (false≢true v)
  parts_shared (Some x) e v r = record { is = parts_text x e v r; end_in = omega (arith, a.low, a.high); hi_in = omega arith }

  module _ (v : verbatim_in (prefix_in Windows p) ≡ true) (t : Bool) (f : t ≡ roots_of g.dir) where
    pub share_root : t ≡ true → Shared p q (record { end = h.end; root = true; lo = h.at; hi = h.at; at = g.at })
    share_root y = root_shared (prefix_in Windows p) refl v (sym f ∙ y)

    pub share_parts : (r : Bool) → t ≡ false → r ≡ roots_of h.dir → Shared p q (record { end = h.end; root = r; lo = h.at; hi = length p; at = g.at })
    share_parts r y j = rw j (parts_shared (prefix_in Windows p) refl v (sym f ∙ y))

-- `plan_of`: x and y are what was counted
behind_bare : (t : List ℕ) → behind_text false t ≡ t
unfolding behind_text
behind_bare [] = refl
behind_bare (x ∷ t) = refl

behind_none : (r : Bool) (t : List ℕ) → length t ≡ 0 → behind_text r t ≡ cond r (92 ∷ []) []
unfolding behind_text
behind_none r [] h = refl
behind_none r (x ∷ t) h = absurd (omega arith)

behind_some : (r : Bool) (t : List ℕ) → (length t ≡ 0 → ⊥) → behind_text r t ≡ t
unfolding behind_text
behind_some r [] h = absurd (h refl)
behind_some r (x ∷ t) h = refl

module _ (p q : List ℕ) (b : Share) (s : Shared p q b) (x y : Tally) (f : Tallied Windows q (record { lo = b.at; hi = length q; left = 0 }) x) (g : Tallied OnlyBack p (record { lo = b.lo; hi = b.hi; left = x.left }) y) where
  abbrev front : Stretch
  front = record { lo = b.lo; hi = b.hi; left = x.left }

  abbrev tail : Stretch
  tail = record { lo = b.at; hi = length q; left = 0 }

  both : both_text p b.lo b.hi q b.at ≡ stretch_text OnlyBack p front ++ stretch_text Windows q tail
  unfolding both_text
  both = rw (← f.left)

  both_long : length (stretch_text OnlyBack p front ++ stretch_text Windows q tail) ≡ y.len + x.len
  both_long = omega (arith, length-append (stretch_text OnlyBack p front) (stretch_text Windows q tail), f.len, g.len)

  pub plan_root : y.len + x.len ≡ 0 → b.root ≡ true → Planned p q (record { end = b.end; root = true; front = front; tail = tail; len = b.end + (y.len + x.len) + 1 })
  unfolding plan_text
  plan_root z r =
      record {
        is = s.is ∙ rw (both, r, behind_none true _ (both_long ∙ z));
        len = omega arith;
        room = omega (arith, f.len, g.len);
        end_in = s.end_in;
        front_in = s.hi_in;
        front_left = omega (arith, f.small);
        tail_in = omega arith;
        tail_left = refl;
      }

  parts_plan : behind_text b.root (stretch_text OnlyBack p front ++ stretch_text Windows q tail) ≡ stretch_text OnlyBack p front ++ stretch_text Windows q tail → Planned p q (record { end = b.end; root = false; front = front; tail = tail; len = b.end + (y.len + x.len) })
  unfolding plan_text
  parts_plan e =
      record {
        is = s.is ∙ rw (both, e);
        len = omega (arith, both_long);
        room = omega (arith, f.len, g.len);
        end_in = s.end_in;
        front_in = s.hi_in;
        front_left = omega (arith, f.small);
        tail_in = omega arith;
        tail_left = refl;
      }

  pub plan_bare : b.root ≡ false → Planned p q (record { end = b.end; root = false; front = front; tail = tail; len = b.end + (y.len + x.len) })
  plan_bare r = parts_plan (rw r (behind_bare _))

  pub plan_parts : (y.len + x.len ≡ 0 → ⊥) → Planned p q (record { end = b.end; root = false; front = front; tail = tail; len = b.end + (y.len + x.len) })
  plan_parts z = parts_plan (behind_some b.root _ (λ e. z (sym both_long ∙ e)))

pub ruleset shares = (share_root, share_parts, plan_root, plan_bare, plan_parts)
