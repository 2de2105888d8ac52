-- Laws of a verbatim join: what stays of a list laid onto another, and one law a way through each function.
use Rattle.std.specs.Prelude.{ℕ, zero, suc, ◌+◌, ◌-◌, ◌^◌, ◌<◌, ◌≤◌, ◌≡◌, refl, Bool, true, false, take, drop}
use Rattle.std.specs.Int.{w64}
use Rattle.std.proofs.Common.{Fits, add-one, sub-one, arith, sym, ◌∙◌, length-drop, length-take-le}
use Rattle.std.proofs.Math.Path.{ap}
use mathlib.Core.List.{List, [], ◌∷◌, ◌++◌, append-nil, append_assoc}
use Rattle.std.proofs.lemmas.Bool.{false≢true}
use Rattle.std.proofs.Math.ListN.{length, length-append}
use Rattle.octets.specs.Class.{is_sep, limit}
use Rattle.octets.specs.declared.Seps.{Seps}
use Rattle.octets.specs.declared.Seps.TheVariants.{Unix, Windows, Verbatim as OnlyBack}
use Rattle.parts.specs.declared.Component.{Component}
use Rattle.parts.specs.declared.Component.TheVariants.{Prefix as Prefixed, RootDir, CurDir, ParentDir, Normal}
use Rattle.parts.specs.declared.Element.{Element}
use Rattle.parts.specs.declared.Kind.{Kind}
use Rattle.parts.specs.declared.Kind.TheVariants.{Dot as OneDot, DotDot, Name}
use Rattle.parts.specs.declared.Part.{Part}
use Rattle.parts.specs.Body.{component_of, dots, from}
use Rattle.parts.specs.Steps.{lift, within}
use Rattle.parts.specs.Laws.{few, Bodily, Goods, from_good}
use Rattle.verbatim.specs.declared.Sift.{Sift}
use Rattle.verbatim.specs.declared.Sift.TheVariants.{Keep, Drop}
use Rattle.verbatim.specs.declared.Stretch.{Stretch}
use Rattle.verbatim.specs.Verbatim.{Spelling, spelling_of, spellings_of, unless_normal, popped, added, laid}
use Rattle.verbatim.specs.Leaves.{mend_of, sift_of, left_by, kept_by, owed, kept, flat, owed_of, text_of, owed_at, text_at, Reading, Tallied, Counting}

-- `mend`, `sift_kind`
module _ (k : Seps) (d : ℕ) where
  pub mend_unix : k ≡ Unix → Drop d ≡ mend_of k d
  mend_unix e = rw e

  pub mend_windows : k ≡ Windows → Drop d ≡ mend_of k d
  mend_windows e = rw e

module _ (k : Seps) (q : Kind) (c : ℕ) where
  pub sift_dot : (r : Sift) → q ≡ OneDot → r ≡ mend_of k c → r ≡ sift_of k (component_of q) c
  sift_dot r e f = f ∙ rw e

  pub sift_up : (r : Sift) → q ≡ DotDot → r ≡ mend_of k (c + 1) → r ≡ sift_of k (component_of q) c
  sift_up r e f = f ∙ rw e

  pub sift_zero : q ≡ Name → c ≡ 0 → Keep ≡ sift_of k (component_of q) c
  sift_zero e h = rw (e, h)

  pub sift_more : q ≡ Name → (c ≡ 0 → ⊥) → Drop (c - 1) ≡ sift_of k (component_of q) c
  sift_more e h = rw e (go c h)
    where
      go : (c : ℕ) → (c ≡ 0 → ⊥) → Drop (c - 1) ≡ sift_of k Normal c
      go zero h = absurd (h refl)
      go (suc c) h = rw sub-one

pub ruleset sifts = (mend_unix, mend_windows, sift_dot, sift_up, sift_zero, sift_more)

-- ---- lists of spellings

pub spellings_append : (s : List ℕ) (l m : List Element) → spellings_of s (l ++ m) ≡ spellings_of s l ++ spellings_of s m
unfolding spellings_of
spellings_append s [] m = refl
spellings_append s (x ∷ l) m = ap (λ (n : List Spelling). spelling_of s x ∷ n) (spellings_append s l m)

pub flat_append : (l m : List Spelling) → flat (l ++ m) ≡ flat l ++ flat m
unfolding flat
flat_append [] m = refl
flat_append (v ∷ l) m = rw (flat_append l m, append_assoc)

popped_last : (l : List Spelling) (v : Spelling) → popped (l ++ (v ∷ [])) ≡ l ++ unless_normal v.component v
unfolding popped
popped_last [] v = refl
popped_last (u ∷ []) v = refl
popped_last (u ∷ w ∷ l) v = ap (λ (m : List Spelling). u ∷ m) (popped_last (w ∷ l) v)

-- c names off the end, as far as there are names
abbrev pub pops : ℕ → List Spelling → List Spelling
pops zero l = l
pops (suc c) l = pops c (popped l)

-- a last component that is no name stays, with all before it
pub pops_stay : (c : ℕ) (l : List Spelling) (v : Spelling) → unless_normal v.component v ≡ v ∷ [] → pops c (l ++ (v ∷ [])) ≡ l ++ (v ∷ [])
pops_stay zero l v e = refl
pops_stay (suc c) l v e = rw (popped_last l v, e) (pops_stay c l v e)

-- what a component of a body can be: no prefix, and no root
abbrev pub in_body : Component → Bool
in_body (Prefixed p) = false
in_body RootDir = false
in_body CurDir = true
in_body ParentDir = true
in_body Normal = true

-- a component of q laid on, and then c names off: what is off before it, and whether it stays
laid_one : (l : List Spelling) (v : Spelling) (c : ℕ) (m : Component) → v.component ≡ m → in_body m ≡ true → pops c (added m v l) ≡ pops (left_by (sift_of Windows m c)) l ++ kept_by (sift_of Windows m c) v []
laid_one l v c (Prefixed p) e h = absurd (false≢true h)
laid_one l v c RootDir e h = absurd (false≢true h)
laid_one l v c CurDir e h = rw append-nil
laid_one l v c ParentDir e h = rw (append-nil, add-one)
laid_one l v zero Normal e h = refl
laid_one l v (suc c) Normal e h = rw (popped_last l v, e) (simp append-nil)

-- a component of p, and then c names off
own_one : (l : List Spelling) (v : Spelling) (c : ℕ) (m : Component) → v.component ≡ m → in_body m ≡ true → pops c (l ++ (v ∷ [])) ≡ pops (left_by (sift_of OnlyBack m c)) l ++ kept_by (sift_of OnlyBack m c) v []
own_one l v c (Prefixed p) e h = absurd (false≢true h)
own_one l v c RootDir e h = absurd (false≢true h)
own_one l v c CurDir e h = pops_stay c l v (rw e)
own_one l v c ParentDir e h = pops_stay c l v (rw e)
own_one l v zero Normal e h = refl
own_one l v (suc c) Normal e h = rw (popped_last l v, e) (simp append-nil)

unfoldable pub PlainV : List Spelling → Type 0
PlainV [] = Unit
PlainV (v ∷ l) = (in_body v.component ≡ true) × PlainV l

bodily_in : (v : Bool) (m : Component) → Bodily v m → in_body m ≡ true
bodily_in v (Prefixed p) h = absurd h
bodily_in v RootDir h = absurd h
bodily_in v CurDir h = refl
bodily_in v ParentDir h = refl
bodily_in v Normal h = refl

goods_plain : (sep : ℕ → Bool) (v : Bool) (s t : List ℕ) (l : List Element) → Goods sep v t l → PlainV (spellings_of s l)
unfolding Goods PlainV spellings_of
goods_plain sep v s t [] u = tt
goods_plain sep v s t (x ∷ l) u = (bodily_in v x.component u.0.bodily, goods_plain sep v s t l u.1)

pub spellings_plain : (k : Seps) (s : List ℕ) (lo hi : ℕ) → PlainV (spellings_of s (within (is_sep k) (dots k) s lo hi))
unfolding within
spellings_plain k s lo hi = goods_plain (is_sep k) (dots k) s (take hi s) _ (from_good (is_sep k) (dots k) (take hi s) lo)

pub append_plain : (l m : List Spelling) → PlainV l → PlainV m → PlainV (l ++ m)
unfolding PlainV
append_plain [] m u w = w
append_plain (v ∷ l) m u w = (u.0, append_plain l m u.1 w)

kept_by_lem : (o : Sift) (v : Spelling) (l : List Spelling) → kept_by o v [] ++ l ≡ kept_by o v l
kept_by_lem Keep v l = refl
kept_by_lem (Drop d) v l = refl

by_plain : (o : Sift) (v : Spelling) (l : List Spelling) → in_body v.component ≡ true → PlainV l → PlainV (kept_by o v l)
unfolding PlainV
by_plain Keep v l h u = (h, u)
by_plain (Drop d) v l h u = u

pub kept_plain : (k : Seps) (c : ℕ) (l : List Spelling) → PlainV l → PlainV (kept k c l)
unfolding PlainV kept
kept_plain k c [] u = tt
kept_plain k c (v ∷ l) u = by_plain (sift_of k v.component (owed k c l)) v (kept k c l) u.0 (kept_plain k c l u.1)

-- q's list laid on, and then c names off; and p's own list
pub laid_kept : (l m : List Spelling) (c : ℕ) → PlainV m → pops c (laid l m) ≡ pops (owed Windows c m) l ++ kept Windows c m
unfolding PlainV laid owed kept
laid_kept l [] c u = rw append-nil
laid_kept l (v ∷ m) c u =
    laid_kept (added v.component v l) m c u.1
    ∙ rw (laid_one l v (owed Windows c m) v.component refl u.0, append_assoc, kept_by_lem)

pub own_kept : (l m : List Spelling) (c : ℕ) → PlainV m → pops c (l ++ m) ≡ pops (owed OnlyBack c m) l ++ kept OnlyBack c m
unfolding PlainV owed kept
own_kept l [] c u = simp append-nil
own_kept l (v ∷ m) c u =
    ap (pops c) (sym (append_assoc l (v ∷ []) m))
    ∙ own_kept (l ++ (v ∷ [])) m c u.1
    ∙ rw (own_one l v (owed OnlyBack c m) v.component refl u.0, append_assoc, kept_by_lem)

-- the same from the back, as the loops read it
owed_last : (k : Seps) (c : ℕ) (l : List Spelling) (v : Spelling) → owed k c (l ++ (v ∷ [])) ≡ owed k (left_by (sift_of k v.component c)) l
unfolding owed
owed_last k c [] v = refl
owed_last k c (u ∷ l) v = rw (owed_last k c l v)

by_append : (o : Sift) (v : Spelling) (l m : List Spelling) → kept_by o v (l ++ m) ≡ kept_by o v l ++ m
by_append Keep v l m = refl
by_append (Drop d) v l m = refl

kept_last : (k : Seps) (c : ℕ) (l : List Spelling) (v : Spelling) → kept k c (l ++ (v ∷ [])) ≡ kept k (left_by (sift_of k v.component c)) l ++ kept_by (sift_of k v.component c) v []
unfolding owed kept
kept_last k c [] v = refl
kept_last k c (u ∷ l) v = rw (owed_last k c l v, kept_last k c l v, by_append)

-- ---- `count_kept`, `write_kept`: l is what is left of a stretch

sift_less : (k : Seps) (m : Component) (c : ℕ) → left_by (sift_of k m c) ≤ c + 1
sift_less k (Prefixed p) c = omega arith
sift_less k RootDir c = omega arith
sift_less Unix CurDir c = omega arith
sift_less Windows CurDir c = omega arith
sift_less OnlyBack CurDir c = omega arith
sift_less Unix ParentDir c = omega arith
sift_less Windows ParentDir c = omega arith
sift_less OnlyBack ParentDir c = omega arith
sift_less k Normal zero = omega arith
sift_less k Normal (suc c) = omega arith

-- m is left of l where the part x is taken off its end, and o is what becomes of x
module _ (k : Seps) (s : List ℕ) (l : List Element) (c : ℕ) where
  pub text_none : l ≡ [] → text_of k s l c ≡ []
  unfolding text_of spellings_of kept flat
  text_none g = rw g

  pub owed_none : l ≡ [] → owed_of k s l c ≡ c
  unfolding owed_of spellings_of owed
  owed_none g = rw g

  module _ (m : List Element) (x : Part) (g : l ≡ m ++ (lift x ∷ [])) where
    step_long : length l ≡ length m + 1
    step_long = ap length g ∙ length-append m (lift x ∷ [])

    spellings_step : spellings_of s l ≡ spellings_of s m ++ (spelling_of s (lift x) ∷ [])
    unfolding spellings_of
    spellings_step = rw (g, spellings_append s m (lift x ∷ []))

    module _ (o : Sift) (h : o ≡ sift_of k (component_of x.kind) c) where
      text_step : text_of k s l c ≡ text_of k s m (left_by o) ++ flat (kept_by o (spelling_of s (lift x)) [])
      unfolding text_of
      text_step = rw (h, spellings_step, kept_last, flat_append)

      owed_step : owed_of k s l c ≡ owed_of k s m (left_by o)
      unfolding owed_of
      owed_step = rw (h, spellings_step, owed_last)

      pub text_keep : o ≡ Keep → text_of k s l c ≡ text_of k s m 0 ++ (92 ∷ take x.len (drop x.start s))
      unfolding flat
      text_keep z = (rw z at text_step) ∙ rw append-nil

      pub text_drop : (d : ℕ) → o ≡ Drop d → text_of k s l c ≡ text_of k s m d
      unfolding flat
      text_drop d z = (rw z at text_step) ∙ append-nil _

      left_less : left_by o ≤ c + 1
      left_less = rw h (sift_less k (component_of x.kind) c)

pub piece : (s : List ℕ) (x : Part) → x.start + x.len ≤ length s → length (take x.len (drop x.start s)) ≡ x.len
piece s x h = length-take-le x.len (drop x.start s) (omega (arith, length-drop x.start s))

-- what both loops learn of a part
module _ (s : List ℕ) (left e : ℕ) (l : List Element) (c : ℕ) (i : Reading s left e l c) where
  pub read_inside : e ≤ length s
  read_inside = i.inside

  pub read_left : length s ≤ limit → left ≤ limit + 1 → c < 2 ^ 32
  read_left a b = omega (arith, i.small)

  module _ (m : List Element) (x : Part) (g : l ≡ m ++ (lift x ∷ [])) (j : ℕ) (w : j ≤ e) (k : Seps) (o : Sift) (h : o ≡ sift_of k (component_of x.kind) c) where
    pub read_keep : o ≡ Keep → Reading s left j m 0
    read_keep z = record { inside = omega (arith, i.inside); small = omega (arith, i.small, step_long k s l c m x g) }

    pub read_drop : (d : ℕ) → o ≡ Drop d → Reading s left j m d
    read_drop d z =
        let q = rw z at (left_less k s l c m x g o h) in
        record { inside = omega (arith, i.inside); small = omega (arith, i.small, step_long k s l c m x g) }

within_few : (k : Seps) (s : List ℕ) (lo hi : ℕ) → hi ≤ length s → length (within (is_sep k) (dots k) s lo hi) ≤ hi + 1
unfolding within
within_few k s lo hi h = omega (arith, few (is_sep k) (dots k) (take hi s) lo, length-take-le hi s h)

pub read_start : (k : Seps) (s b : List ℕ) (lo hi left : ℕ) (l : List Element) → hi ≤ length s → b ≡ take hi s → l ≡ from (is_sep k) (dots k) (take hi s) lo → Reading s left (length b) l left
unfolding within
read_start k s b lo hi left l h e f =
    let z : length b ≡ hi = ap length e ∙ length-take-le hi s h in
    record { inside = omega arith; small = omega (arith, within_few k s lo hi h, ap length f) }

pub ruleset reads = (read_start, read_inside, read_left, read_keep, read_drop)

-- `count_kept`
pub count_start : (k : Seps) (s b : List ℕ) (t : Stretch) (l : List Element) → t.hi ≤ length s → b ≡ take t.hi s → l ≡ from (is_sep k) (dots k) (take t.hi s) t.lo → Counting k s t (length b) l t.left 0
unfolding text_at text_of owed_at owed_of within
count_start k s b t l h e f =
    let z : length b ≡ t.hi = ap length e ∙ length-take-le t.hi s h in
    record { is = rw f (omega arith); owes = rw f refl; few = omega (arith, within_few k s t.lo t.hi h, ap length f) }

module _ (k : Seps) (s : List ℕ) (t : Stretch) (e : ℕ) (l : List Element) (c n : ℕ) (j : Counting k s t e l c n) where
  pub count_end : Reading s t.left e l c → l ≡ [] → Tallied k s t (record { len = n; left = c })
  count_end i g =
      record {
        len = omega (arith, j.is, ap length (text_none k s l c g));
        left = sym (owed_none k s l c g) ∙ j.owes;
        few = omega (arith, j.few);
        small = omega (arith, i.small);
      }

  module _ (m : List Element) (x : Part) (g : l ≡ m ++ (lift x ∷ [])) (v : x.start + x.len ≤ e) (d : ℕ) (w : d ≤ x.start) (o : Sift) (h : o ≡ sift_of k (component_of x.kind) c) where
    pub count_keep : x.start + x.len ≤ length s → o ≡ Keep → Counting k s t d m 0 (n + 1 + x.len)
    count_keep i z =
        record {
          is = omega (arith, j.is, ap length (text_keep k s l c m x g o h z), length-append (text_of k s m 0) (92 ∷ take x.len (drop x.start s)), piece s x i);
          owes = sym (rw z at (owed_step k s l c m x g o h)) ∙ j.owes;
          few = omega (arith, j.few, step_long k s l c m x g);
        }

    pub count_drop : (q : ℕ) → o ≡ Drop q → Counting k s t d m q n
    count_drop q z =
        record {
          is = omega (arith, j.is, ap length (text_drop k s l c m x g o h q z));
          owes = sym (rw z at (owed_step k s l c m x g o h)) ∙ j.owes;
          few = omega (arith, j.few, step_long k s l c m x g);
        }

  module _ (a : length s ≤ limit) where
    pub count_one : Fits w64 (n + 1)
    count_one = record { fits = omega (arith, j.few) }

    pub count_len : (x : Part) → x.start + x.len ≤ e → Fits w64 (n + 1 + x.len)
    count_len x v = record { fits = omega (arith, j.few) }

pub ruleset counts = (count_start, count_end, count_keep, count_drop, count_one, count_len)
