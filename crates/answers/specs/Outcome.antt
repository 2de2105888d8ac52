-- What a call comes to, and the guards in front of it. A call's definition is a chain of guards in the order
-- Mode, Length, Cursor, Name, Empty, Base, Absent; Room stands behind them all, in `Written`.
use Rattle.std.specs.Prelude.{ℕ, ◌+◌, Bool, cond, not, List, length, ltb, eqb}
use Rattle.octets.specs.Class.{limit}
use Rattle.answers.specs.declared.Reply.{Reply}
use Rattle.answers.specs.declared.Reply.TheVariants.{Mode, Length, Absent, Name, Empty, Base, Cursor}

-- a refusal, or what was asked for
pub data Outcome (A : Type 0) : Type 0 where
  refuse : Reply → Outcome A
  give : A → Outcome A

-- the answer that an outcome is told as, where f says how a refusal looks
unfoldable pub told : {A : Type 0} → (Reply → A) → Outcome A → A
told f (refuse r) = f r
told f (give a) = a

-- r where b holds; otherwise what stands behind
unfoldable pub guard : {A : Type 0} → Bool → Reply → Outcome A → Outcome A
guard b r o = cond b (refuse r) o

-- 1 "mode is neither 0 nor 1; for `absolute`, not 0"
abbrev pub in_mode : {A : Type 0} → ℕ → Outcome A → Outcome A
in_mode m o = guard (ltb 1 m) Mode o

abbrev pub in_unix : {A : Type 0} → ℕ → Outcome A → Outcome A
in_unix m o = guard (ltb 0 m) Mode o

-- 2 "an input is longer than 4,096 bytes"
abbrev pub short : {A : Type 0} → List ℕ → Outcome A → Outcome A
short s o = guard (ltb limit (length s)) Length o

-- 8 "more components taken than the path has": f at the front and b at the back, of n
abbrev pub taken : {A : Type 0} → ℕ → ℕ → ℕ → Outcome A → Outcome A
taken f b n o = guard (ltb n (f + b)) Cursor o

-- 4 "a new extension holds a separator of the mode"
abbrev pub plain : {A : Type 0} → Bool → Outcome A → Outcome A
plain holds o = guard holds Name o

-- 5 "`absolute` of the empty path"
abbrev pub given : {A : Type 0} → List ℕ → Outcome A → Outcome A
given s o = guard (eqb (length s) 0) Empty o

-- 6 "`absolute` of a relative path, current directory not starting with `/`"
abbrev pub based : {A : Type 0} → Bool → Outcome A → Outcome A
based starts o = guard (not starts) Base o

-- 3 "the part asked for does not exist, a strip does not match, or a step finds nothing left"
abbrev pub present : {A : Type 0} → Bool → Outcome A → Outcome A
present is o = guard (not is) Absent o
