-- What a call that writes leaves in the lent buffer. Room is decided here, once for all of them.
use Rattle.std.specs.Prelude.{ℕ, ◌≤◌, ◌≡◌, cond, List, ◌++◌, length, drop, leb}
use Rattle.answers.specs.declared.Reply.TheVariants.{Room}
use Rattle.answers.specs.declared.View.{View}
use Rattle.answers.specs.Reply.{refused_view, seen}
use Rattle.answers.specs.Outcome.{Outcome, refuse, give}

-- the buffer b with r at its front: "the result stands at the front .. every later byte is as before"
unfoldable pub over : List ℕ → List ℕ → List ℕ
over r b = r ++ drop (length r) b

-- 7 "the finished result is longer than the output buffer": the answer where there is room for n bytes
unfoldable pub answered : ℕ → Outcome (List ℕ) → View
answered n (refuse r) = refused_view r
answered n (give w) = cond (leb (length w) n) (seen 0 (length w)) (refused_view Room)

-- the buffer b afterwards: a refusal leaves "the output untouched"
unfoldable pub left : Outcome (List ℕ) → List ℕ → List ℕ
left (refuse r) b = b
left (give w) b = cond (leb (length w) (length b)) (over w b) b

-- the answer a, and the buffer `after` in the place of `before`, are those of the outcome o
pub record Wrote (o : Outcome (List ℕ)) (a : View) (before after : List ℕ) : Type 0 where
  pub says : a ≡ answered (length before) o
  pub leaves : after ≡ left o before
  -- follows of the two; it is here so that a caller's part of the buffer needs no proof
  pub within : a.len ≤ length after
