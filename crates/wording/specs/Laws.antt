-- Laws of the lines.
use Rattle.std.specs.Prelude.{ℕ, zero, suc, ◌+◌, ◌-◌, ◌*◌, ◌<◌, ◌≤◌, ◌≡◌, refl, List, [], ◌∷◌, ◌++◌, length, take, drop, get_or, replicate}
use native.Mathlib.Omega.{arith}
use Rattle.std.proofs.Common.{add-one, sym, ap, ◌∙◌, append_assoc, append-nil, length-append, length-drop, length-take-le, drop-drop, take-suc, take_all}
use Rattle.std.proofs.lemmas.List.{length-replicate}
use borrow.Rule.Slice.PartMut.{mid_of, put_mid}
use Rattle.answers.specs.Written.{over}
use Rattle.buffers.specs.Laws.{over_take, over_over, take_over, length_over}
use Rattle.wording.specs.Lines.{Put, spaces, column_of, shown_of, escaped_of, columns_of, line_of, kind_words}
use Rattle.parts.specs.declared.Component.{Component}

-- what is put, and then put behind it
length_put : (b w : List ℕ) (n : ℕ) → n + length w ≤ length b → length (over (take n b ++ w) b) ≡ length b
length_put b w n h = length_over (take n b ++ w) b (omega (arith, length-append (take n b) w, length-take-le n b (omega arith)))

pub put_at : (b after w : List ℕ) (n r : ℕ) → r ≡ n + length w → after ≡ over (take n b ++ w) b → n + length w ≤ length b → Put w b n r after
put_at b after w n r e l h = record { is = e; leaves = l; fits = h; long = rw l (length_put b w n h) }

pub put_none : (b : List ℕ) (n : ℕ) → n ≤ length b → Put [] b n n b
put_none b n h = record { is = omega arith; leaves = rw append-nil (over_take b n h); fits = omega arith; long = refl }

pub put_more : (b one two x y : List ℕ) (n m r : ℕ) → Put x b n m one → Put y one m r two → Put (x ++ y) b n r two
put_more b one two x y n m r p q =
    let h : n ≤ length b = omega (arith, p.fits) in
    let l : length (take n b ++ x) ≡ m = omega (arith, length-append (take n b) x, length-take-le n b h, p.is) in
    let t : take m one ≡ take n b ++ x = rw p.leaves (take_over (take n b ++ x) b m l) in
    record {
      is = omega (arith, p.is, q.is, length-append x y);
      leaves = q.leaves ∙ rw (t, p.leaves, over_over (take n b ++ x) y b, append_assoc);
      fits = omega (arith, p.is, p.long, q.fits, length-append x y);
      long = q.long ∙ p.long;
    }

-- `pad`
put_mid_over : (b w : List ℕ) (n k : ℕ) → length w ≡ k → n + k ≤ length b → put_mid n k b w ≡ over (take n b ++ w) b
unfolding over
put_mid_over b w n k e h =
    let d : length (take n b ++ w) ≡ n + k = rw length-append (omega (arith, length-take-le n b (omega arith))) in
    rw d (rw (drop-drop, append_assoc) refl)

spaces_are : (k : ℕ) → replicate k 32 ≡ spaces k
unfolding spaces
spaces_are zero = refl
spaces_are (suc k) = ap (λ (l : List ℕ). 32 ∷ l) (spaces_are k)

-- the part of the buffer from n to `to` was lent, and came back as spaces
pub pad_put : (b part : List ℕ) (n to : ℕ) → part ≡ replicate (length (mid_of n (to - n) b)) 32 → n ≤ to → to ≤ length b → Put (spaces (to - n)) b n to (put_mid n (to - n) b part)
pad_put b part n to e h k =
    let m : length (mid_of n (to - n) b) ≡ to - n = length-take-le (to - n) (drop n b) (simp length-drop (omega arith)) in
    let p : part ≡ spaces (to - n) = e ∙ rw m (spaces_are (to - n)) in
    let l : length part ≡ to - n = rw e (rw length-replicate m) in
    rw (← p) (put_at b (put_mid n (to - n) b part) part n to (omega arith) (put_mid_over b part n (to - n) l (omega arith)) (omega arith))

-- `escaped`
escaped_both : (s t : List ℕ) → escaped_of (s ++ t) ≡ escaped_of s ++ escaped_of t
unfolding escaped_of
escaped_both [] t = refl
escaped_both (x ∷ s) t = rw (escaped_both s t) (sym (append_assoc (shown_of x) (escaped_of s) (escaped_of t)))

escaped_one : (x : ℕ) → escaped_of (x ∷ []) ≡ shown_of x
unfolding escaped_of
escaped_one x = append-nil (shown_of x)

module _ (b s : List ℕ) (n : ℕ) where
  pub escaped_start : n + 4 * length s ≤ length b → Put (escaped_of (take 0 s)) b n n b
  unfolding escaped_of
  escaped_start h = put_none b n (omega arith)

  pub escaped_more :
      (out after : List ℕ) (at r i : ℕ)
      → Put (escaped_of (take i s)) b n at out → Put (shown_of (get_or s i 0)) out at r after → i < length s
      → Put (escaped_of (take (i + 1) s)) b n r after
  escaped_more out after at r i p q l =
      rw (add-one i, take-suc s i 0 l, escaped_both (take i s) (get_or s i 0 ∷ []), escaped_one (get_or s i 0))
      (put_more b out after (escaped_of (take i s)) (shown_of (get_or s i 0)) n at r p q)

  pub escaped_done : (out : List ℕ) (at i : ℕ) → Put (escaped_of (take i s)) b n at out → length s ≤ i → Put (escaped_of s) b n at out
  escaped_done out at i p l = rw (take_all i s l) at p

-- `columns`, `component`
pub columns_put :
    (b o₁ o₂ o₃ o₄ o₅ o₆ : List ℕ) (c : Component) (start len n n₁ n₂ n₃ n₄ n₅ n₆ : ℕ)
    → n ≡ 0
    → Put (kind_words c) b n n₁ o₁
    → Put (spaces (26 - n₁)) o₁ n₁ n₂ o₂
    → Put (column_of start) o₂ n₂ n₃ o₃
    → Put (32 ∷ 32 ∷ 32 ∷ 32 ∷ []) o₃ n₃ n₄ o₄
    → Put (column_of len) o₄ n₄ n₅ o₅
    → Put (32 ∷ 32 ∷ []) o₅ n₅ n₆ o₆
    → Put (columns_of c start len) b n n₆ o₆
unfolding columns_of
columns_put b o₁ o₂ o₃ o₄ o₅ o₆ c start len n n₁ n₂ n₃ n₄ n₅ n₆ z k p q r s t =
    let e : length (kind_words c) ≡ n₁ = omega (arith, k.is) in
    put_more b o₅ o₆ _ _ n n₅ n₆
    (put_more b o₄ o₅ _ _ n n₄ n₅
    (put_more b o₃ o₄ _ _ n n₃ n₄
    (put_more b o₂ o₃ _ _ n n₂ n₃
    (put_more b o₁ o₂ _ (spaces (26 - length (kind_words c))) n n₁ n₂ k (rw e p)) q) r) s) t

pub line_put :
    (b one two three text : List ℕ) (c : Component) (start o n m r : ℕ)
    → Put (columns_of c start (length text)) b o n one
    → Put (escaped_of text) one n m two
    → Put (10 ∷ []) two m r three
    → Put (line_of c start text) b o r three
unfolding line_of
line_put b one two three text c start o n m r f p q = put_more b two three _ _ o m r (put_more b one two _ _ o n m f p) q

pub ruleset puts = (put_more, pad_put, columns_put, line_put)

pub ruleset escapes = (escaped_start, escaped_more, escaped_done)
