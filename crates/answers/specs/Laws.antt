-- Laws of the guards: where a chain stops, and where it goes on.
use Rattle.std.specs.Prelude.{ℕ, ◌<◌, ◌≤◌, ◌≡◌, Bool, true, false, List, length}
use Rattle.std.proofs.Math.Path.{sym}
use Rattle.std.proofs.Common.{◌∙◌, lt-ltb, le-ltb}
use Rattle.octets.specs.Class.{limit}
use Rattle.answers.specs.declared.Reply.{Reply}
use Rattle.answers.specs.declared.Reply.TheVariants.{Mode, Length, Absent}
use Rattle.answers.specs.Outcome.{Outcome, give, told, guard, in_mode, short, present}

module _ {A : Type 0} (f : Reply → A) (r : Reply) (o : Outcome A) where
  pub stops : {b : Bool} → b ≡ true → told f (guard b r o) ≡ f r
  unfolding told guard
  stops e = rw e

  pub goes : {b : Bool} → b ≡ false → told f (guard b r o) ≡ told f o
  unfolding told guard
  goes e = rw e

-- a call of one path: Mode, Length, and all well
module _ {A : Type 0} (f : Reply → A) (o : Outcome A) (x : A) (m : ℕ) where
  pub no_mode : x ≡ f Mode → 1 < m → x ≡ told f (in_mode m o)
  no_mode e h = e ∙ sym (stops f Mode o (lt-ltb 1 m h))

  module _ (g : m ≤ 1) (s : List ℕ) where
    pub too_long : x ≡ f Length → limit < length s → x ≡ told f (in_mode m (short s o))
    too_long e h = e ∙ sym (goes f Mode (short s o) (le-ltb 1 m g) ∙ stops f Length o (lt-ltb limit (length s) h))

    all_well_of : (o : Outcome A) → x ≡ told f o → length s ≤ limit → x ≡ told f (in_mode m (short s o))
    all_well_of o e h = e ∙ sym (goes f Mode (short s o) (le-ltb 1 m g) ∙ goes f Length o (le-ltb limit (length s) h))

    pub all_well : x ≡ told f o → length s ≤ limit → x ≡ told f (in_mode m (short s o))
    all_well e h = all_well_of o e h

    -- a call of two paths: the first too long is `too_long`
    module _ (t : List ℕ) (h : length s ≤ limit) where
      pub second_long : x ≡ f Length → limit < length t → x ≡ told f (in_mode m (short s (short t o)))
      second_long e l = all_well_of (short t o) (e ∙ sym (stops f Length o (lt-ltb limit (length t) l))) h

      pub both_well : x ≡ told f o → length t ≤ limit → x ≡ told f (in_mode m (short s (short t o)))
      both_well e l = all_well_of (short t o) (e ∙ sym (goes f Length o (le-ltb limit (length t) l))) h

-- 3, the last guard before what was asked for
module _ {A : Type 0} (f : Reply → A) (x : A) (b : Bool) where
  pub absent : x ≡ f Absent → (o : Outcome A) → b ≡ false → x ≡ told f (present b o)
  absent e o h = e ∙ sym (stops f Absent o (rw h))

  pub done : (y : A) → x ≡ y → b ≡ true → x ≡ told f (present b (give y))
  unfolding told
  done y e h = e ∙ sym (goes f Absent (give y) (rw h))

pub ruleset guards = (no_mode, too_long, all_well, second_long, both_well, absent, done)
