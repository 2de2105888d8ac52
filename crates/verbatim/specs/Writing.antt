-- Laws of writing a verbatim join from the back, one a way through each function that writes.
use Rattle.std.specs.Prelude.{ℕ, ◌+◌, ◌-◌, ◌<◌, ◌≤◌, ◌≡◌, List, [], ◌∷◌, ◌++◌, true, false, take, drop}
use Rattle.std.proofs.Common.{arith, sym, ap, ◌∙◌, append_assoc, length-append}
use Rattle.std.proofs.Math.Nat.{sub-zero}
use Rattle.std.proofs.Math.ListN.{length}
use Rattle.std.proofs.Math.Seq.{length-take-le, drop_at}
use Rattle.octets.specs.Class.{is_sep}
use Rattle.octets.specs.declared.Seps.{Seps}
use Rattle.octets.specs.declared.Seps.TheVariants.{Windows, Verbatim as OnlyBack}
use Rattle.answers.specs.declared.Reply.TheVariants.{Room}
use Rattle.answers.specs.declared.View.{View}
use Rattle.answers.specs.Reply.{refused_view, seen}
use Rattle.answers.specs.Outcome.{give}
use Rattle.answers.specs.Written.{over, Wrote}
use Rattle.buffers.specs.Laws.{FromBack, back_none, back_push, over_over, take_over, two_pushes, no_room, filled}
use Rattle.parts.specs.declared.Element.{Element}
use Rattle.parts.specs.declared.Part.{Part}
use Rattle.parts.specs.Body.{component_of, dots, from}
use Rattle.parts.specs.Steps.{lift, within}
use Rattle.verbatim.specs.declared.Sift.{Sift}
use Rattle.verbatim.specs.declared.Sift.TheVariants.{Keep, Drop}
use Rattle.verbatim.specs.declared.Plan.{Plan}
use Rattle.verbatim.specs.Verbatim.{verbatim_join}
use Rattle.verbatim.specs.Leaves.{sift_of, text_of, text_at, stretch_text, ending_at, plan_text, Planned}
use Rattle.verbatim.specs.Laws.{piece, text_none, text_keep, text_drop}

-- `put_part`
pub part_put : (b one two s : List ℕ) (k m i n : ℕ) → one ≡ over (take (k - (n + 1)) b ++ (92 ∷ [])) b → two ≡ over (take m one ++ take (i + n - i) (drop i s)) one → m ≡ k - (n + 1) + 1 → k ≤ length b → two ≡ over (take (k - (n + 1)) b ++ (92 ∷ take n (drop i s))) b
part_put b one two s k m i n e f g h =
    let z : i + n - i ≡ n = omega arith in
    rw z at (two_pushes b one two (take (i + n - i) (drop i s)) (k - (n + 1)) m 92 e f g (omega arith))

-- what the loop of `write_kept` keeps: the bytes of t from j on stand in out, so that t ends at n, and rest is to come
pub record StandsAt (t b : List ℕ) (n : ℕ) (rest : List ℕ) (j : ℕ) (out : List ℕ) : Type 0 where
  pub back : FromBack (take (n - length t) b ++ t) b (take (n - length t) b ++ rest) j out
  pub room : length t ≤ n
  pub high : n ≤ length b

module _ {t b : List ℕ} {n : ℕ} where
  stands_none : length t ≤ n → n ≤ length b → StandsAt t b n t n b
  stands_none h g =
      let l : length (take (n - length t) b ++ t) ≡ n = omega (arith, length-append (take (n - length t) b) t, length-take-le (n - length t) b (omega arith)) in
      record { back = rw l at (back_none (take (n - length t) b ++ t) b (omega arith)); room = h; high = g }

  -- where the walk stands in the buffer
  stands_at : {rest out : List ℕ} {j : ℕ} → StandsAt t b n rest j out → j ≡ n - length t + length rest
  stands_at {rest} {out} {j} s =
      let f = s.back in
      omega (arith, s.room, s.high, ap length f.to_come, length-take-le j (take (n - length t) b ++ t) f.before, length-append (take (n - length t) b) rest, length-take-le (n - length t) b (omega (arith, s.high)))

  stands_push : {out after : List ℕ} {j : ℕ} (r x : List ℕ) (i : ℕ) → StandsAt t b n (r ++ x) j out → after ≡ over (take i out ++ x) out → j ≡ i + length x → StandsAt t b n r i after
  stands_push {out} {after} {j} r x i s p e =
      record { back = back_push (take (n - length t) b ++ r) x i (rw append_assoc s.back) p e; room = s.room; high = s.high }

  stands_all : {out : List ℕ} {j : ℕ} → StandsAt t b n [] j out → out ≡ ending_at n t b
  unfolding ending_at over
  stands_all {out} {j} s =
      let f = s.back in
      let l : length (take (n - length t) b) ≡ n - length t = length-take-le (n - length t) b (omega (arith, s.high)) in
      let e : j ≡ n - length t = omega (arith, stands_at s) in
      f.stands ∙ rw (e, drop_at (take (n - length t) b) t (n - length t) l, append_assoc)

  stands_in : {rest out : List ℕ} {j : ℕ} → StandsAt t b n rest j out → j ≤ length out
  stands_in s = let f = s.back in omega (arith, f.before, f.room, f.long)

-- `write_kept`: i says what the loop keeps beside `Reading`
module _ (k : Seps) (s : List ℕ) (l : List Element) (c : ℕ) (t b : List ℕ) (n j : ℕ) (out : List ℕ) (i : StandsAt t b n (text_of k s l c) j out) where
  pub write_in : j ≤ length out
  write_in = stands_in i

  pub write_long : length out ≡ length b
  write_long = i.back.long

  pub write_place : l ≡ [] → n ≡ j + length t
  write_place g = omega (arith, i.room, stands_at i, ap length (text_none k s l c g))

  pub write_end : l ≡ [] → out ≡ ending_at n t b
  write_end g = stands_all (rw (text_none k s l c g) at i)

  module _ (m : List Element) (x : Part) (g : l ≡ m ++ (lift x ∷ [])) (o : Sift) (h : o ≡ sift_of k (component_of x.kind) c) where
    pub write_drop : (d : ℕ) → o ≡ Drop d → StandsAt t b n (text_of k s m d) j out
    write_drop d z = rw (text_drop k s l c m x g o h d z) at i

    module _ (z : o ≡ Keep) (v : x.start + x.len ≤ length s) where
      next : StandsAt t b n (text_of k s m 0 ++ (92 ∷ take x.len (drop x.start s))) j out
      next = rw (text_keep k s l c m x g o h z) at i

      pub write_room : x.len + 1 ≤ j
      write_room = omega (arith, stands_at next, piece s x v, length-append (text_of k s m 0) (92 ∷ take x.len (drop x.start s)))

      pub write_keep : (q : ℕ) (after : List ℕ) → j ≡ q + (x.len + 1) → after ≡ over (take q out ++ (92 ∷ take x.len (drop x.start s))) out → StandsAt t b n (text_of k s m 0) q after
      write_keep q after d a = stands_push (text_of k s m 0) (92 ∷ take x.len (drop x.start s)) q next a (omega (arith, piece s x v))

pub write_start : (k : Seps) (s : List ℕ) (lo hi left : ℕ) (b : List ℕ) (n : ℕ) (l : List Element) → l ≡ from (is_sep k) (dots k) (take hi s) lo → length (text_at k s lo hi left) ≤ n → n ≤ length b → StandsAt (text_at k s lo hi left) b n (text_of k s l left) n b
unfolding text_at text_of within
write_start k s lo hi left b n l e h g = rw e (stands_none h g)

-- `write_text`
ending_at_lem : (n j : ℕ) (t b : List ℕ) → n ≡ j + length t → ending_at n t b ≡ over (take j b ++ t) b
unfolding ending_at
ending_at_lem n j t b h = let z : n - length t ≡ j = omega arith in rw z

module _ (p q : List ℕ) (w : Plan) (s : Planned p q w) where
  module _ (r : w.root ≡ true) where
    root_long : w.len ≡ w.end + 1
    unfolding plan_text
    root_long = s.len ∙ rw r

    pub text_room : (b : List ℕ) → w.len ≤ length b → w.end < length b
    text_room b h = omega (arith, root_long)

    pub text_root : (b after : List ℕ) → after ≡ over (take w.end b ++ (92 ∷ [])) b → after ≡ ending_at w.len (plan_text p q w) b
    unfolding plan_text
    text_root b after e = e ∙ rw r (sym (ending_at_lem w.len w.end (92 ∷ []) b root_long))

  module _ (r : w.root ≡ false) where
    abbrev front : List ℕ
    front = stretch_text OnlyBack p w.front

    abbrev tail : List ℕ
    tail = stretch_text Windows q w.tail

    both_text_lem : plan_text p q w ≡ front ++ tail
    unfolding plan_text
    both_text_lem = rw r

    both_long : w.len ≡ w.end + length front + length tail
    both_long = omega (arith, s.len, ap length both_text_lem, length-append front tail)

    pub text_both : (j : ℕ) → w.len ≡ j + length tail → (b one two : List ℕ) → w.len ≤ length b → one ≡ ending_at w.len tail b → two ≡ ending_at j front one → two ≡ ending_at w.len (plan_text p q w) b
    text_both j h b one two g e f =
        let l : j ≡ w.end + length front = omega (arith, both_long) in
        let a : StandsAt (front ++ tail) b w.len front j one = stands_push front tail j (stands_none (omega (arith, both_long, length-append front tail)) g) (e ∙ ending_at_lem w.len j tail b h) h in
        rw both_text_lem (stands_all (stands_push [] front w.end a (f ∙ ending_at_lem j w.end front one l) l))

-- `join`
module _ (p q : List ℕ) (w : Plan) (s : Planned p q w) where
  join_long : length (verbatim_join p q) ≡ w.len
  join_long = omega (arith, s.len, ap length s.is, length-append (take w.end p) (plan_text p q w), length-take-le w.end p s.end_in)

  pub join_room : (a : View) (b : List ℕ) → a ≡ refused_view Room → length b < w.len → Wrote (give (verbatim_join p q)) a b b
  join_room a b e h = rw e (no_room (omega (arith, join_long)))

  -- the prefix is copied, and the rest is written behind it
  pub join_done : (b one two : List ℕ) → w.len ≤ length b → one ≡ over (take (w.end - 0) p) b → two ≡ ending_at w.len (plan_text p q w) one → Wrote (give (verbatim_join p q)) (seen 0 w.len) b two
  join_done b one two h e f =
      let t : take w.end one ≡ take w.end p = rw (e, sub-zero) (take_over (take w.end p) b w.end (length-take-le w.end p s.end_in)) in
      let d : two ≡ over (verbatim_join p q) b = f ∙ ending_at_lem w.len w.end (plan_text p q w) one s.len ∙ rw (t, e, sub-zero, over_over (take w.end p) (plan_text p q w) b, s.is) in
      filled (omega (arith, join_long)) (sym join_long) d

pub ruleset writes = (part_put, write_start, write_in, write_long, write_place, write_end, write_drop, write_room, write_keep)

pub ruleset texts = (text_room, text_root, text_both)

pub ruleset joins = (join_room, join_done)
