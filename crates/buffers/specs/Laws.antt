-- Laws of what is written over a buffer: stores, copies, lent parts, and loops that write from the front or from the back.
use Rattle.std.specs.Prelude.{ℕ, zero, suc, ◌+◌, ◌-◌, ◌<◌, ◌≤◌, ◌≡◌, refl, List, [], ◌∷◌, ◌++◌, Bool, true, false, cond, length, take, drop, set, get_or, ltb}
use Rattle.std.proofs.Common.{zero-le, sym, ap, ◌∙◌, append_assoc, append-nil, le_of_suc-le-suc, not-suc-le-zero, add-sub_of_le, add-one, arith, length-append, length-drop, drop_of_length-le, take-append-drop, drop-drop, take_all, take-add, length-take-le, take_at, drop_at, take-take, le-leb, lt-ltb, le-ltb}
use Rattle.std.proofs.Math.Seq.{take-append_seam, drop-append_seam, drop-append-add, take-length, drop-length}
use Rattle.std.proofs.lemmas.List.{take-append-le}
use borrow.Rule.Slice.PartMut.{mid_of, put_mid}
use mir.Val.{bool_byte}
use Rattle.octets.specs.Class.{limit}
use Rattle.answers.specs.declared.Reply.{Reply}
use Rattle.answers.specs.declared.Reply.TheVariants.{Mode, Length, Room}
use Rattle.answers.specs.Reply.{refused_view, seen}
use Rattle.answers.specs.declared.View.{View}
use Rattle.answers.specs.Outcome.{Outcome, refuse, give, guard, short}
use Rattle.answers.specs.Written.{over, answered, left, Wrote}
use Rattle.std.proofs.lemmas.Bool.{lt-leb}

pub over_none : (b : List ℕ) → over [] b ≡ b
unfolding over
over_none b = refl

pub length_over : (r b : List ℕ) → length r ≤ length b → length (over r b) ≡ length b
unfolding over
length_over r b h = simp (length-append, length-drop) (omega arith)

-- a result as long as the buffer
pub over_whole : (r b : List ℕ) → length r ≡ length b → over r b ≡ r
unfolding over
over_whole r b h = rw (drop_of_length-le b {i = length r} (omega arith), append-nil)

-- a store behind what is written
pub over_store : (r b : List ℕ) (v : ℕ) → length r < length b → set (over r b) (length r) v ≡ over (r ++ (v ∷ [])) b
unfolding over
over_store r [] v h = absurd (not-suc-le-zero h)
over_store [] (x ∷ b) v h = refl
over_store (a ∷ r) (x ∷ b) v h = ap (λ (l : List ℕ). a ∷ l) (over_store r b v (le_of_suc-le-suc h))

-- the part of the buffer behind what is written, written over in its turn
pub over_part : (r s b : List ℕ) → take (length r) (over r b) ++ over s (drop (length r) (over r b)) ≡ over (r ++ s) b
unfolding over
over_part r s b = simp (take-append_seam, drop-append_seam, drop-drop, append_assoc, length-append)

-- a turn of a loop that copies s
copied : (s b : List ℕ) (i : ℕ) → i < length s → i < length b → set (over (take i s) b) i (get_or s i 0) ≡ over (take (suc i) s) b
unfolding over
copied [] b i h k = absurd (not-suc-le-zero h)
copied (a ∷ s) [] i h k = absurd (not-suc-le-zero k)
copied (a ∷ s) (x ∷ b) zero h k = refl
copied (a ∷ s) (x ∷ b) (suc i) h k = ap (λ (l : List ℕ). a ∷ l) (copied s b i (le_of_suc-le-suc h) (le_of_suc-le-suc k))

pub over_copy : (s b : List ℕ) (i : ℕ) → i < length s → i < length b → set (over (take i s) b) i (get_or s i 0) ≡ over (take (i + 1) s) b
over_copy s b i h k = rw add-one (copied s b i h k)

pub over_over : (r s b : List ℕ) → over (r ++ s) (over r b) ≡ over (r ++ s) b
unfolding over
over_over r s b = simp (length-append, drop-append-add, drop-drop)

pub take_over : (r b : List ℕ) (n : ℕ) → length r ≡ n → take n (over r b) ≡ r
unfolding over
take_over r b n h = take_at r (drop (length r) b) n h

pub over_take : (b : List ℕ) (n : ℕ) → n ≤ length b → b ≡ over (take n b) b
unfolding over
over_take b n h = rw (length-take-le n b h, take-append-drop)

take_over_le : (s b : List ℕ) (i m : ℕ) → i ≤ m → m ≤ length s → take i (over (take m s) b) ≡ take i s
unfolding over
take_over_le s b i m h l = take-append-le i (take m s) _ (omega (arith, length-take-le m s l)) ∙ take-take i m s h

-- a block of s at i, where what stands before goes at least so far, and not further than the block
pub over_block : (s b w after : List ℕ) (i m : ℕ) → w ≡ over (take m s) b → i ≤ m → m ≤ i + 16 → m ≤ length s → after ≡ over (take i w ++ take 16 (drop i s)) w → after ≡ over (take (i + 16) s) b
over_block s b w after i m ew h k l ea =
    let front : take i w ≡ take i s = rw ew (take_over_le s b i m h l) in
    let more : take (i + 16) s ≡ take m s ++ take (i + 16 - m) (drop m s) = rw (← take-add m (i + 16 - m) s, add-sub_of_le k) refl in
    ea ∙ rw (front, ← take-add i 16 s, more, ew) (over_over (take m s) (take (i + 16 - m) (drop m s)) b)

-- the last block: it ends where s ends
pub block_last : (s b w after : List ℕ) (i : ℕ) → w ≡ over (take i s) b → length s - 16 ≤ i → i ≤ length s → 16 ≤ length s → after ≡ over (take (length s - 16) w ++ take 16 (drop (length s - 16) s)) w → after ≡ over s b
block_last s b w after i ew h k l ea =
    let m : length s - 16 + 16 ≡ length s = omega arith in
    over_block s b w after (length s - 16) i ew h (omega arith) k ea ∙ rw (m, take-length s)

-- w is a buffer with r written over b; its part behind r was lent, and came back with s written over it
pub over_lent : (r s b w part : List ℕ) (n : ℕ) → n ≡ length r → w ≡ over r b → part ≡ over s (mid_of n (length w - n) w) → put_mid n (length w - n) w part ≡ over (r ++ s) b
over_lent r s b w part n en ew ep =
    let none : drop (length w - n) (drop n w) ≡ [] = drop_of_length-le (drop n w) {i = length w - n} (simp length-drop (omega arith)) in
    let all : take (length w - n) (drop n w) ≡ drop n w = take_all (length w - n) (drop n w) (simp length-drop (omega arith)) in
    rw (none, append-nil, ep, all, ew, en) (over_part r s b)

-- the three answers of a function that writes
pub refused : {k : Reply} {b : List ℕ} → Wrote (refuse k) (refused_view k) b b
unfolding answered left
refused = record { says = refl; leaves = refl; within = zero-le }

pub no_room : {r b : List ℕ} → length b < length r → Wrote (give r) (refused_view Room) b b
unfolding answered left
no_room h = record { says = simp (lt-leb _ _ h); leaves = simp (lt-leb _ _ h); within = zero-le }

pub filled : {n : ℕ} {r b after : List ℕ} → length r ≤ length b → n ≡ length r → after ≡ over r b → Wrote (give r) (seen 0 n) b after
unfolding answered left
filled h en ea = record { says = simp (le-leb _ _ h, en); leaves = simp (le-leb _ _ h, ea); within = rw (ea, en, length_over _ _ h) h }

-- two lists with a byte between them or none: d says which, and g is the byte's length
gap_length : (d : Bool) (c : ℕ) → length (cond d (c ∷ []) []) ≡ bool_byte d
gap_length true c = refl
gap_length false c = refl

module _ (p q b : List ℕ) (d : Bool) (c g : ℕ) (e : g ≡ bool_byte d) where
  laid_length : length ((p ++ cond d (c ∷ []) []) ++ q) ≡ length p + g + length q
  laid_length = simp (length-append, gap_length, e)

  pub laid_room : (a : View) → length b < length p + g + length q → a ≡ refused_view Room → Wrote (give ((p ++ cond d (c ∷ []) []) ++ q)) a b b
  laid_room a h f = rw f (no_room (rw laid_length h))

  module _ (w v part : List ℕ) (h : length p + g + length q ≤ length b) (ew : w ≡ over p b) (ep : part ≡ over q (mid_of (length p + g) (length v - (length p + g)) v)) where
    laid : v ≡ over (p ++ cond d (c ∷ []) []) b → Wrote (give ((p ++ cond d (c ∷ []) []) ++ q)) (seen 0 (length p + g + length q)) b (put_mid (length p + g) (length v - (length p + g)) v part)
    laid f =
        let n : length p + g ≡ length (p ++ cond d (c ∷ []) []) = simp (length-append, gap_length, e) in
        filled (rw laid_length h) (sym laid_length) (over_lent (p ++ cond d (c ∷ []) []) q b v part (length p + g) n f ep)

    pub laid_apart : d ≡ true → v ≡ set w (length p) c → Wrote (give ((p ++ cond d (c ∷ []) []) ++ q)) (seen 0 (length p + g + length q)) b (put_mid (length p + g) (length v - (length p + g)) v part)
    laid_apart y ev =
        let k : g ≡ 1 = e ∙ rw y refl in
        laid (ev ∙ rw (ew, y) (over_store p b c (omega arith)))

    pub laid_near : d ≡ false → v ≡ w → Wrote (give ((p ++ cond d (c ∷ []) []) ++ q)) (seen 0 (length p + g + length q)) b (put_mid (length p + g) (length v - (length p + g)) v part)
    laid_near y ev = laid (ev ∙ ew ∙ rw (y, append-nil) refl)

  -- the same, where the byte between them, or none, was itself written over w
  pub laid_lent : (w v part : List ℕ) → length p + g + length q ≤ length b → w ≡ over p b → v ≡ over (take (length p) w ++ cond d (c ∷ []) []) w → part ≡ over q (mid_of (length p + g) (length v - (length p + g)) v) → Wrote (give ((p ++ cond d (c ∷ []) []) ++ q)) (seen 0 (length p + g + length q)) b (put_mid (length p + g) (length v - (length p + g)) v part)
  laid_lent w v part h ew ev ep =
      let t : take (length p) w ≡ p = rw ew (take_over p b (length p) refl) in
      laid w v part h ew ep (ev ∙ rw (t, ew, over_over))

pub ruleset gaps = (laid_room, laid_apart, laid_near)

-- w is written from the front, n bytes of it so far; the next piece of it is x
module _ (w x r : List ℕ) (n : ℕ) (h : n ≤ length w) (e : drop n w ≡ x ++ r) where
  pub next_take : take (n + length x) w ≡ take n w ++ x
  next_take = rw (take-add n (length x) w, e, take-append_seam)

  pub next_drop : drop (n + length x) w ≡ r
  next_drop = rw (← drop-drop (length x) n w, e, drop-append_seam)

  pub next_fits : n + length x ≤ length w
  next_fits = omega (arith, simp (length-drop, length-append) at (ap length e))

-- the part of b from n on was lent, and came back with s written over it
pub over_push : (s b part : List ℕ) (n : ℕ) → part ≡ over s (mid_of n (length b - n) b) → n ≤ length b → put_mid n (length b - n) b part ≡ over (take n b ++ s) b
over_push s b part n e h = over_lent (take n b) s b b part n (sym (length-take-le n b h)) (over_take b n h) e

-- 16 bytes of s from i on, that passed through a block z
pub block_done : (s b t z part : List ℕ) (i : ℕ) → t ≡ over (take (i + 16 - i) (drop i s)) z → part ≡ over t (mid_of i (length b - i) b) → length z ≡ 16 → i + 16 ≤ length s → i ≤ length b → put_mid i (length b - i) b part ≡ over (take i b ++ take 16 (drop i s)) b
block_done s b t z part i et ep lz h k =
    let w : i + 16 - i ≡ 16 = omega arith in
    let l : length (take 16 (drop i s)) ≡ length z = length-take-le 16 (drop i s) (rw (length-drop i s) (omega arith)) ∙ sym lz in
    let e : t ≡ take 16 (drop i s) = et ∙ rw w (over_whole (take 16 (drop i s)) z l) in
    over_push (take 16 (drop i s)) b part i (ep ∙ rw e) k

-- a store at n
pub over_set : (b : List ℕ) (n v : ℕ) → n < length b → set b n v ≡ over (take n b ++ (v ∷ [])) b
over_set b n v h =
    let l : length (take n b) ≡ n = length-take-le n b (omega arith) in
    let e : set (over (take n b) b) (length (take n b)) v ≡ over (take n b ++ (v ∷ [])) b = over_store (take n b) b v (omega arith) in
    rw (l, ← over_take b n (omega arith)) at e

pub ruleset writes = (over_push, over_set)

-- a byte at j, and then x behind it
pub two_pushes : (b one two x : List ℕ) (j m y : ℕ) → one ≡ over (take j b ++ (y ∷ [])) b → two ≡ over (take m one ++ x) one → m ≡ j + 1 → j ≤ length b → two ≡ over (take j b ++ (y ∷ x)) b
two_pushes b one two x j m y e f g h =
    let l : length (take j b ++ (y ∷ [])) ≡ m = omega (arith, length-append (take j b) (y ∷ []), length-take-le j b h) in
    let t : take m one ≡ take j b ++ (y ∷ []) = rw e (take_over (take j b ++ (y ∷ [])) b m l) in
    f ∙ rw (t, e, over_over (take j b ++ (y ∷ [])) x b, append_assoc)

-- the invariant of a loop that writes w over b from the front: n bytes of w stand in out, and rest is to come
pub record Front (w b rest : List ℕ) (n : ℕ) (out : List ℕ) : Type 0 where
  pub within : n ≤ length w
  pub room : length w ≤ length b
  pub long : length out ≡ length b
  pub stands : out ≡ over (take n w) b
  pub to_come : drop n w ≡ rest

pub front_none : {w b : List ℕ} → length w ≤ length b → Front w b w 0 b
front_none {w} {b} h = record { within = zero-le; room = h; long = refl; stands = sym (over_none b); to_come = refl }

pub front_all : {w b out : List ℕ} {n : ℕ} → Front w b [] n out → out ≡ over w b
front_all {w} {b} {out} {n} f = f.stands ∙ rw (take_all n w (omega (arith, length-drop n w, ap length f.to_come)))

-- there is room for the next piece
pub front_room : {w b out : List ℕ} {n : ℕ} (x r : List ℕ) → Front w b (x ++ r) n out → n + length x ≤ length out
front_room {w} {b} {out} {n} x r f = omega (arith, next_fits w x r n f.within f.to_come)

-- the next piece is pushed
pub front_push : {w b out after : List ℕ} {n m : ℕ} (x r : List ℕ) → Front w b (x ++ r) n out → after ≡ over (take n out ++ x) out → m ≡ n + length x → Front w b r m after
front_push {w} {b} {out} {after} {n} {m} x r f p em =
    let lw : length (take n w) ≡ n = length-take-le n w f.within in
    let t : take n out ≡ take n w = rw f.stands (take_over (take n w) b n lw) in
    let fits : n + length x ≤ length w = next_fits w x r n f.within f.to_come in
    let q : after ≡ over (take m w) b = p ∙ rw (em, t, f.stands, over_over, next_take w x r n f.within f.to_come) in
    let lq : length (take m w) ≡ m = length-take-le m w (omega arith) in
    record { within = omega arith; room = f.room; long = ap length q ∙ length_over _ _ (omega arith); stands = q; to_come = rw em (next_drop w x r n f.within f.to_come) }

-- the invariant of a loop that writes w over b from the back: the bytes of w from k on stand in out, and rest is to come before them
pub record FromBack (w b rest : List ℕ) (k : ℕ) (out : List ℕ) : Type 0 where
  pub before : k ≤ length w
  pub room : length w ≤ length b
  pub long : length out ≡ length b
  pub stands : out ≡ take k b ++ (drop k w ++ drop (length w) b)
  pub to_come : take k w ≡ rest

pub back_none : (w b : List ℕ) → length w ≤ length b → FromBack w b w (length w) b
back_none w b h = record { before = omega arith; room = h; long = refl; stands = rw (drop-length, take-append-drop); to_come = take-length w }

pub back_all : {w b out : List ℕ} → FromBack w b [] 0 out → out ≡ over w b
unfolding over
back_all f = f.stands

-- the piece before is pushed at j
pub back_push : {w b out after : List ℕ} {k : ℕ} (r x : List ℕ) (j : ℕ) → FromBack w b (r ++ x) k out → after ≡ over (take j out ++ x) out → k ≡ j + length x → FromBack w b r j after
unfolding over
back_push {w} {b} {out} {after} {k} r x j f p ek =
    let lr : length r ≡ j = omega (arith, length-append r x, ap length f.to_come, length-take-le k w f.before) in
    let sp : w ≡ r ++ (x ++ drop k w) = sym (take-append-drop k w) ∙ rw (f.to_come, append_assoc) in
    let cut : drop j w ≡ x ++ drop k w = ap (drop j) sp ∙ drop_at r (x ++ drop k w) j lr in
    let lb : length (take k b) ≡ k = length-take-le k b (omega (arith, f.before, f.room)) in
    let low : take j out ≡ take j b = ap (take j) f.stands ∙ take-append-le j (take k b) _ (omega arith) ∙ take-take j k b (omega arith) in
    let high : drop k out ≡ drop k w ++ drop (length w) b = ap (drop k) f.stands ∙ drop_at (take k b) _ k lb in
    let lj : length (take j out) ≡ j = length-take-le j out (omega (arith, f.before, f.room, f.long)) in
    let lk : length (take j out ++ x) ≡ k = length-append (take j out) x ∙ omega arith in
    let q : after ≡ take j b ++ (drop j w ++ drop (length w) b) = p ∙ rw (lk, low, high, cut) (simp append_assoc) in
    record { before = omega (arith, f.before); room = f.room; long = ap length p ∙ length_over (take j out ++ x) out (omega (arith, f.before, f.room, f.long)) ∙ f.long; stands = q; to_come = ap (take j) sp ∙ take_at r (x ++ drop k w) j lr }

-- t is to be written at n, behind what stands there: the start of a loop that goes on from n
pub front_at : (b t : List ℕ) (n : ℕ) → n + length t ≤ length b → Front (take n b ++ t) b t n b
front_at b t n h =
    let l : length (take n b) ≡ n = length-take-le n b (omega arith) in
    record {
      within = omega (arith, length-append (take n b) t);
      room = omega (arith, length-append (take n b) t);
      long = refl;
      stands = rw (take_at (take n b) t n l) (over_take b n (omega arith));
      to_come = drop_at (take n b) t n l;
    }

-- a guard in front of what is written: it stops with its reply, or goes on
module _ (r : Reply) (o : Outcome (List ℕ)) (a : View) {t : Bool} {b : List ℕ} where
  pub write_stops : t ≡ true → a ≡ refused_view r → Wrote (guard t r o) a b b
  unfolding guard
  write_stops h e = rw (h, e) refused

  pub write_goes : {after : List ℕ} → t ≡ false → Wrote o a b after → Wrote (guard t r o) a b after
  unfolding guard
  write_goes h w = rw h w

-- a call of two paths that writes, whose greatest mode is n: Mode, Length of either, and all well
module _ (a : View) (b : List ℕ) (n m : ℕ) where
  pub wrote_mode : (o : Outcome (List ℕ)) → n < m → a ≡ refused_view Mode → Wrote (guard (ltb n m) Mode o) a b b
  wrote_mode o h e = write_stops Mode o a (lt-ltb n m h) e

  module _ (g : m ≤ n) (s : List ℕ) where
    pub wrote_long : (o : Outcome (List ℕ)) → limit < length s → a ≡ refused_view Length → Wrote (guard (ltb n m) Mode (short s o)) a b b
    wrote_long o h e = write_goes Mode _ a (le-ltb n m g) (write_stops Length o a (lt-ltb limit (length s) h) e)

    module _ (h : length s ≤ limit) (t : List ℕ) where
      second : (o : Outcome (List ℕ)) {after : List ℕ} → Wrote (short t o) a b after → Wrote (guard (ltb n m) Mode (short s (short t o))) a b after
      second o w = write_goes Mode _ a (le-ltb n m g) (write_goes Length _ a (le-ltb limit (length s) h) w)

      pub wrote_second_long : (o : Outcome (List ℕ)) → limit < length t → a ≡ refused_view Length → Wrote (guard (ltb n m) Mode (short s (short t o))) a b b
      wrote_second_long o l e = second o (write_stops Length o a (lt-ltb limit (length t) l) e)

      pub wrote_well : (o : Outcome (List ℕ)) (after : List ℕ) → length t ≤ limit → Wrote o a b after → Wrote (guard (ltb n m) Mode (short s (short t o))) a b after
      wrote_well o after l w = second o (write_goes Length o a (le-ltb limit (length t) l) w)
