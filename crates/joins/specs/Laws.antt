-- Laws of join: what it is in Unix mode, and one law a way through each function.
use Rattle.std.specs.Prelude.{ℕ, ◌+◌, ◌-◌, ◌^◌, ◌<◌, ◌≤◌, ◌≡◌, refl, Bool, true, false, cond, List, [], ◌∷◌, ◌++◌, length, take, eqb, Option, Some, None}
use Rattle.std.proofs.Common.{arith, ◌∙◌, append-nil, length-take-le, eq-eqb, ne_eqb}
use Rattle.std.proofs.Math.Nat.{sub-zero}
use Rattle.std.proofs.Math.Path.{sym}
use Rattle.std.proofs.lemmas.Bool.{false≢true}
use Rattle.std.proofs.Math.Seq.{take-length}
use Rattle.octets.specs.Class.{limit}
use Rattle.octets.specs.Laws.{split}
use Rattle.octets.specs.declared.Seps.{Seps}
use Rattle.octets.specs.declared.Seps.TheVariants.{Unix, Windows, Verbatim as OnlyBack}
use Rattle.answers.specs.declared.View.{View}
use Rattle.answers.specs.Outcome.{give}
use Rattle.answers.specs.Written.{Wrote}
use Rattle.prefixes.specs.Prefix.{prefix_in, has_prefix, on_disk}
use Rattle.components.specs.declared.Start.{Start}
use Rattle.components.specs.List.{sep_at, start_of, is_root, has_root, is_absolute}
use Rattle.components.specs.Laws.{unix_root}
use Rattle.components.specs.Leaves.{OpenAt}
use Rattle.seams.specs.Seam.{sep_of, wants, glued, seamed}
use Rattle.verbatim.specs.Verbatim.{verbatim_in, verbatim_join}
use Rattle.joins.specs.Join.{replaced, mended, mere_disk, parted, joined}
use Rattle.joins.specs.Leaves.{replaced_by, mended_by, mere_by, parted_by, behind, kept_unix}
use Rattle.prefixes.specs.declared.Prefix.{Prefix}

-- ---- in Unix mode no path has a prefix, and join is one path set behind another
pub joined_unix : (p q : List ℕ) → joined Unix p q ≡ seamed Unix p q
unfolding joined is_absolute mended mere_disk parted seamed glued
joined_unix p q =
    rw (← unix_root Unix q (sep_at Unix q 0) refl refl)
    (split (sep_at Unix q 0)
    (λ e. rw e)
    (λ e. rw e (split (eqb (length q) 0)
    (λ n. rw n (split (wants Unix p) (λ w. rw w) (λ w. rw w)))
    (λ n. rw n (split (wants Unix p) (λ w. rw w) (λ w. rw w))))))

-- ---- join's tests are told by where the paths start
bare : (x : Option Prefix) → has_prefix x ≡ false → x ≡ None
bare None h = refl
bare (Some x) h = absurd (false≢true (sym h))

-- case 1, and where it does not apply case 3
start_root : (k : Seps) (q : List ℕ) → prefix_in k q ≡ None → has_root k q ≡ is_root (start_of k q).dir
unfolding has_root
start_root k q e = rw e (split (is_root (start_of k q).dir) (λ d. rw d) (λ d. rw d))

start_replaced : (k : Seps) (q : List ℕ) → replaced k q ≡ replaced_by k (start_of k q)
unfolding is_absolute start_of
start_replaced Unix q = start_root Unix q refl
start_replaced Windows q = refl
start_replaced OnlyBack q = start_root OnlyBack q refl

start_rooted : (k : Seps) (q : List ℕ) → replaced_by k (start_of k q) ≡ false → has_root k q ≡ is_root (start_of k q).dir
unfolding start_of
start_rooted Unix q h = start_root Unix q refl
start_rooted Windows q h = start_root Windows q (bare (prefix_in Windows q) h)
start_rooted OnlyBack q h = start_root OnlyBack q refl

-- a verbatim p is a Windows path, and then q has no prefix
verbatim_windows : (k : Seps) (p : List ℕ) → verbatim_in (prefix_in k p) ≡ true → k ≡ Windows
verbatim_windows Unix p h = absurd (false≢true h)
verbatim_windows Windows p h = refl
verbatim_windows OnlyBack p h = absurd (false≢true h)

-- `mends`, `is_mere_drive`, `parts_from`
module _ (g : Start) (q : List ℕ) where
  pub mended_empty : length q ≡ 0 → false ≡ mended_by g q
  unfolding mended_by
  mended_empty e = rw (eq-eqb (length q) 0 e)

  pub mended_is : (r : Bool) → (length q ≡ 0 → ⊥) → r ≡ verbatim_in g.prefix → r ≡ mended_by g q
  unfolding mended_by
  mended_is r n f = f ∙ rw (ne_eqb (length q) 0 n)

  module _ (d : Bool) (h : d ≡ on_disk g.prefix) where
    pub mere_not : d ≡ false → false ≡ mere_by g q
    unfolding mere_by
    mere_not y = rw (← h, y)

    pub mere_is : d ≡ true → eqb g.end (length q) ≡ mere_by g q
    unfolding mere_by
    mere_is y = rw (← h, y)

  module _ (k : Seps) (d : Bool) (h : d ≡ mere_by g q) where
    pub parted_mere : d ≡ true → false ≡ parted_by k g q
    unfolding parted_by
    parted_mere y = rw (← h, y)

    pub parted_wants : (r : Bool) → d ≡ false → r ≡ wants k q → r ≡ parted_by k g q
    unfolding parted_by
    parted_wants r y f = f ∙ rw (← h, y)

-- `join_root`, `join_behind`
module _ (p q : List ℕ) (a : View) (b after : List ℕ) where
  pub root_close : (e : ℕ) → Wrote (give ((take (e - 0) p ++ []) ++ q)) a b after → Wrote (give (take e p ++ q)) a b after
  root_close e w = rw (sub-zero, append-nil) at w

  pub behind_laid : (k : Seps) (d : Bool) (c : ℕ) → c ≡ sep_of k → Wrote (give ((p ++ cond d (c ∷ []) []) ++ q)) a b after → Wrote (give (behind k p d q)) a b after
  unfolding behind
  behind_laid k d c e w = split d (λ t. rw (t, ← e) (rw t at w)) (λ t. rw t (rw (t, append-nil) at w))

pub root_small : (p q : List ℕ) (e : ℕ) → e ≤ length p → length p ≤ limit → length q ≤ limit → length (take (e - 0) p) + 1 + length q < 2 ^ 64
root_small p q e h a b = rw (sub-zero, length-take-le e p h) (omega arith)

-- `kept_unix`
module _ (p q : List ℕ) (r : Bool) (f : r ≡ sep_at Unix q 0) where
  pub kept_none : r ≡ true → 0 ≡ kept_unix p q
  unfolding kept_unix
  kept_none y = rw (← f, y)

  pub kept_all : r ≡ false → length p ≡ kept_unix p q
  unfolding kept_unix
  kept_all y = rw (← f, y)

pub ruleset tests = (mended_empty, mended_is, mere_not, mere_is, parted_mere, parted_wants, root_close, root_small, behind_laid, kept_none, kept_all)

-- `join_unix`: e is how much of p stays, d whether a separator follows
module _ (p q : List ℕ) (e : ℕ) (f : e ≡ kept_unix p q) where
  pub unix_laid : (d : Bool) (a : View) (b after : List ℕ) → d ≡ wants Unix (take (e - 0) p) → Wrote (give ((take (e - 0) p ++ cond d (47 ∷ []) []) ++ q)) a b after → Wrote (give (joined Unix p q)) a b after
  unfolding seamed glued kept_unix wants
  unix_laid d a b after g w =
      rw joined_unix
      (split (sep_at Unix q 0)
      (λ t. rw t (rw (g, f, t) at w))
      (λ t. rw t (split (wants Unix p)
      (λ y. rw y (rw (g, sub-zero, f, t, take-length, y) at w))
      (λ y. rw y (rw (g, sub-zero, f, t, take-length, y, append-nil) at w)))))

-- `join_any`: r, m, t, d are what the tests answered
module _ (k : Seps) (p q : List ℕ) (g : Start) (o : OpenAt k p g) (m : Bool) (j : m ≡ mended_by g q) where
  mended_as : mended k p q ≡ m
  unfolding mended mended_by start_of
  mended_as = sym (j ∙ rw o.is)

  verbatim_start : m ≡ true → verbatim_in (prefix_in k p) ≡ true
  unfolding mended
  verbatim_start z = split (eqb (length q) 0) (λ e. absurd (false≢true (rw e at (mended_as ∙ z)))) (λ e. rw e at (mended_as ∙ z))

  pub join_verbatim : m ≡ true → verbatim_in (prefix_in Windows p) ≡ true
  join_verbatim z = rw (verbatim_windows k p (verbatim_start z)) at (verbatim_start z)

module _ (k : Seps) (q : List ℕ) (h : Start) (u : OpenAt k q h) (r : Bool) (f : r ≡ replaced_by k h) where
  replaced_as : replaced k q ≡ r
  replaced_as = start_replaced k q ∙ sym (f ∙ rw u.is)

  module _ (p : List ℕ) (a : View) (b after : List ℕ) where
    pub join_whole : r ≡ true → Wrote (give q) a b after → Wrote (give (joined k p q)) a b after
    unfolding joined
    join_whole y w = rw (replaced_as, y) w

  module _ (y : r ≡ false) (p : List ℕ) (g : Start) (o : OpenAt k p g) (m : Bool) (j : m ≡ mended_by g q) where
    pub join_bare : m ≡ true → prefix_in Windows q ≡ None
    unfolding start_of
    join_bare z = bare (prefix_in Windows q) (rw (verbatim_windows k p (verbatim_start k p q g o m j z)) at (sym (start_replaced k q) ∙ replaced_as ∙ y))

    module _ (a : View) (b after : List ℕ) where
      pub join_mended : m ≡ true → Wrote (give (verbatim_join p q)) a b after → Wrote (give (joined k p q)) a b after
      unfolding joined
      join_mended z w = rw (replaced_as, y, mended_as k p q g o m j, z) w

      module _ (z : m ≡ false) (t : Bool) (i : t ≡ is_root h.dir) where
        rooted_as : has_root k q ≡ t
        rooted_as = start_rooted k q (sym (start_replaced k q) ∙ replaced_as ∙ y) ∙ sym (i ∙ rw u.is)

        pub join_rooted : t ≡ true → Wrote (give (take g.end p ++ q)) a b after → Wrote (give (joined k p q)) a b after
        unfolding joined start_of
        join_rooted n w = rw (replaced_as, y, mended_as k p q g o m j, z, rooted_as, n) (rw o.is at w)

        pub join_behind : (d : Bool) → t ≡ false → d ≡ parted_by k g p → Wrote (give (behind k p d q)) a b after → Wrote (give (joined k p q)) a b after
        unfolding joined behind parted parted_by mere_disk mere_by start_of
        join_behind d n e w = rw (replaced_as, y, mended_as k p q g o m j, z, rooted_as, n) (rw o.is at (rw e at w))

  pub root_in : (p : List ℕ) (g : Start) → OpenAt k p g → g.end ≤ length p
  root_in p g o = omega (arith, o.low, o.high)

-- `join_in`
pub join_unix : (k : Seps) (p q : List ℕ) (a : View) (b after : List ℕ) → k ≡ Unix → Wrote (give (joined Unix p q)) a b after → Wrote (give (joined k p q)) a b after
join_unix k p q a b after e w = rw e w

pub ruleset joins = (unix_laid, join_whole, join_verbatim, join_bare, join_mended, join_rooted, join_behind, root_in, join_unix)
