-- What a call that writes answers and leaves, read from its promise `Wrote` alone. 7, Room, is given exactly where the finished result is
-- longer than the buffer; a call answered Done has left its result's bytes.
use Rattle.std.specs.Prelude.{ℕ, ◌<◌, ◌≤◌, ◌≡◌, Bool, false, List, ◌↔◌, take, drop, leb}
use Rattle.std.proofs.Common.{arith, sym, ◌∙◌, le-leb, leb-true, leb-false}
use Rattle.std.proofs.Math.Path.{ap}
use Rattle.std.proofs.Math.ListN.{length}
use Rattle.std.proofs.Math.Seq.{take-append_seam, drop-append_seam}
use Rattle.std.proofs.lemmas.Bool.{lt-leb}
use Rattle.octets.specs.Laws.{split}
use Rattle.answers.specs.declared.Reply.{Reply}
use Rattle.answers.specs.declared.Reply.TheVariants.{Done, Room}
use Rattle.answers.specs.declared.View.{View}
use Rattle.answers.specs.Reply.{number_of, refused_view, seen}
use Rattle.answers.specs.Outcome.{Outcome, refuse, give, told, guard}
use Rattle.answers.specs.Written.{over, answered, left, Wrote}

-- the bytes w were left: they stand at the front of the buffer, the answer counts them, and every later byte is as before
pub record Standing (w : List ℕ) (a : View) (before after : List ℕ) : Type 0 where
  pub is : take a.len after ≡ w
  pub counted : a.len ≡ length w
  pub room : length w ≤ length before
  pub later : drop a.len after ≡ drop a.len before

abbrev pub reply_in : View → Reply
reply_in a = a.reply

abbrev len_in : View → ℕ
len_in a = a.len

-- replies of two numbers are two
pub apart : {x y z : Reply} → x ≡ y → x ≡ z → (number_of y ≡ number_of z → ⊥) → ⊥
apart e f n = n (ap number_of (sym e ∙ f))

module _ (w : List ℕ) (a : View) (before after : List ℕ) (h : Wrote (give w) a before after) where
  fits : length w ≤ length before → (a ≡ seen 0 (length w)) × (after ≡ over w before)
  unfolding answered left
  fits l = (h.says ∙ rw (le-leb (length w) (length before) l), h.leaves ∙ rw (le-leb (length w) (length before) l))

  full : length before < length w → (a ≡ refused_view Room) × (after ≡ before)
  unfolding answered left
  full l = (h.says ∙ rw (lt-leb (length w) (length before) l), h.leaves ∙ rw (lt-leb (length w) (length before) l))

  -- 7 "the finished result is longer than the output buffer"
  pub room_exactly : (a.reply ≡ Room) ↔ (length before < length w)
  room_exactly = (
    λ e. split (leb (length w) (length before))
        (λ y. absurd (apart e (ap reply_in (fits (leb-true _ _ y)).0) (λ z. omega arith)))
        (λ n. leb-false _ _ n),
    λ l. ap reply_in (full l).0,
  )

  pub done_exactly : (a.reply ≡ Done) ↔ (length w ≤ length before)
  done_exactly = (
    λ e. split (leb (length w) (length before))
        (λ y. leb-true _ _ y)
        (λ n. absurd (apart e (ap reply_in (full (leb-false _ _ n)).0) (λ z. omega arith))),
    λ l. ap reply_in (fits l).0,
  )

  -- "Done with output: the result stands at the front, its length is returned, every later byte is as before."
  pub result_left : a.reply ≡ Done → Standing w a before after
  unfolding over
  result_left e =
      let l = done_exactly.0 e in
      let n : a.len ≡ length w = ap len_in (fits l).0 in
      record {
        is = rw (n, (fits l).1) (take-append_seam w _);
        counted = n;
        room = l;
        later = rw (n, (fits l).1) (drop-append_seam w _);
      }

-- "A refusal returns its number, all other numbers of the answer 0, .. the output untouched."
pub refusal_leaves : (o : Outcome (List ℕ)) (a : View) (before after : List ℕ) → Wrote o a before after → (a.reply ≡ Done → ⊥) → (a ≡ refused_view a.reply) × (after ≡ before)
unfolding answered left
refusal_leaves (refuse r) a before after w n = (w.says ∙ ap refused_view (sym (ap reply_in w.says)), w.leaves)
refusal_leaves (give x) a before after w n =
    split (leb (length x) (length before))
    (λ y. absurd (n ((done_exactly x a before after w).1 (leb-true _ _ y))))
    (λ y. let f = full x a before after w (leb-false _ _ y) in (f.0 ∙ ap refused_view (sym (ap reply_in f.0)), f.1))

-- a call that was not answered with a guard's reply has passed it
pub wrote_passes : (b : Bool) (k : Reply) (o : Outcome (List ℕ)) (a : View) (before after : List ℕ) → Wrote (guard b k o) a before after → (a.reply ≡ k → ⊥) → (b ≡ false) × Wrote o a before after
unfolding guard answered
wrote_passes b k o a before after w n = split b (λ e. absurd (n (ap reply_in (rw e at w.says)))) (λ e. (e, rw e at w))

module _ {A : Type 0} (reply : A → Reply) (f : Reply → A) (h : (r : Reply) → reply (f r) ≡ r) where
  pub told_passes : (b : Bool) (k : Reply) (o : Outcome A) (a : A) → a ≡ told f (guard b k o) → (reply a ≡ k → ⊥) → (b ≡ false) × (a ≡ told f o)
  unfolding guard told
  told_passes b k o a w n = split b (λ e. absurd (n (ap reply (rw e at w) ∙ h k))) (λ e. (e, rw e at w))
