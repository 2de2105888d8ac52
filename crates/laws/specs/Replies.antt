-- A list of tests, each with the reply that it gives: the reply of the first test that holds, and Done where none does. Given.antt has
-- the tests of every call.
use Rattle.std.specs.Prelude.{ℕ, ◌<◌, ◌≤◌, ◌≡◌, refl, List, [], ◌∷◌, ◌++◌, Bool, true, false, cond, ◌↔◌, length, ltb, leb}
use Rattle.std.proofs.Common.{arith, ap, leb-true}
use Rattle.std.proofs.lemmas.Bool.{false≢true}
use Rattle.octets.specs.Class.{limit}
use Rattle.octets.specs.Laws.{split}
use Rattle.answers.specs.declared.Reply.{Reply}
use Rattle.answers.specs.declared.Reply.TheVariants.{Done, Mode, Length, Absent, Name, Empty, Base, Room, Cursor}

-- a test, and the reply that it gives where it holds
pub record Test : Type 0 where
  pub holds : Bool
  pub reply : Reply

abbrev pub test : Bool → Reply → Test
test b r = record { holds = b; reply = r }

-- the reply of the first test that holds
unfoldable pub first_of : List Test → Reply
first_of [] = Done
first_of (t ∷ l) = cond t.holds t.reply (first_of l)

-- none of them holds
unfoldable pub NoneHolds : List Test → Type 0
NoneHolds [] = Unit
NoneHolds (t ∷ l) = (t.holds ≡ false) × NoneHolds l

-- t stands in the list, and no test before it holds
pub record First (l : List Test) (t : Test) : Type 0 where
  pub before : List Test
  pub behind : List Test
  pub is : l ≡ before ++ t ∷ behind
  pub none : NoneHolds before
  pub holds : t.holds ≡ true

-- one direction: where it holds and none before it, its reply is given
pub given_when : (a : List Test) (t : Test) (b : List Test) → NoneHolds a → t.holds ≡ true → first_of (a ++ t ∷ b) ≡ t.reply
unfolding first_of NoneHolds
given_when [] t b n h = rw h
given_when (u ∷ a) t b n h = rw n.0 (given_when a t b n.1 h)

pub done_when : (l : List Test) → NoneHolds l → first_of l ≡ Done
unfolding first_of NoneHolds
done_when [] n = refl
done_when (t ∷ l) n = rw n.0 (done_when l n.1)

-- the other: a reply that is given comes from a test that holds, none before it, or none holds and it is Done
pub data Why (l : List Test) (r : Reply) : Type 0 where
  by : (t : Test) → First l t → r ≡ t.reply → Why l r
  otherwise : NoneHolds l → r ≡ Done → Why l r

why_gives : (l : List Test) (r : Reply) → Why l r → first_of l ≡ r
why_gives l r (by t f e) = rw (f.is, e) (given_when f.before t f.behind f.none f.holds)
why_gives l r (otherwise n e) = rw e (done_when l n)

why_more : (t : Test) (l : List Test) (r : Reply) → t.holds ≡ false → Why l r → Why (t ∷ l) r
unfolding NoneHolds
why_more t l r h (by u f e) = by u (record { before = t ∷ f.before; behind = f.behind; is = ap (λ (m : List Test). t ∷ m) f.is; none = (h, f.none); holds = f.holds }) e
why_more t l r h (otherwise n e) = otherwise (h, n) e

first_yes : (t : Test) (l : List Test) → t.holds ≡ true → first_of (t ∷ l) ≡ t.reply
unfolding first_of
first_yes t l e = rw e

first_no : (t : Test) (l : List Test) → t.holds ≡ false → first_of (t ∷ l) ≡ first_of l
unfolding first_of
first_no t l e = rw e

pub only_when : (l : List Test) → Why l (first_of l)
unfolding NoneHolds
only_when [] = otherwise tt (done_when [] tt)
only_when (t ∷ l) =
    split t.holds
    (λ e. by t (record { before = []; behind = l; is = refl; none = tt; holds = e }) (first_yes t l e))
    (λ e. rw (first_no t l e) (why_more t l (first_of l) e (only_when l)))

-- both at once: a chain gives a reply exactly so
pub exactly_when : (l : List Test) (r : Reply) → (first_of l ≡ r) ↔ Why l r
exactly_when l r = (λ e. rw e at (only_when l), why_gives l r)

-- ---- "Where several hold, the order is 1, 2, 8, 4, 5, 6, 3, 7."

-- a reply's place in that order; Done stands before all
abbrev pub place : Reply → ℕ
place Done = 0
place Mode = 1
place Length = 2
place Cursor = 3
place Name = 4
place Empty = 5
place Base = 6
place Absent = 7
place Room = 8

-- no test stands before one of an earlier place, and none before n
unfoldable pub rising : ℕ → List Test → Bool
rising n [] = true
rising n (t ∷ l) = cond (leb n (place t.reply)) (rising (place t.reply) l) false

-- in such a list no test gives Done, so it is Done only where none holds
pub done_none : (l : List Test) (n : ℕ) → 0 < n → rising n l ≡ true → first_of l ≡ Done → NoneHolds l
unfolding rising first_of NoneHolds
done_none [] n h r e = tt
done_none (t ∷ l) n h r e =
    split (leb n (place t.reply))
    (λ b. let i : n ≤ place t.reply = leb-true n (place t.reply) b in
    split t.holds
    (λ y. let z : place t.reply ≡ 0 = ap place (rw y at e) in absurd (omega arith))
    (λ y. (y, done_none l (place t.reply) (omega arith) (rw b at r) (rw y at e))))
    (λ b. absurd (false≢true (rw b at r)))

-- the two tests of every call: 1 and 2
abbrev pub mode : ℕ → Test
mode m = test (ltb 1 m) Mode

abbrev pub long : List ℕ → Test
long s = test (ltb limit (length s)) Length
