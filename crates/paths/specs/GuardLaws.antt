-- Laws of the guards: what follows where they refuse, and where they let a call through.
use Rattle.std.specs.Prelude.{ℕ, ◌<◌, ◌≤◌, ◌≡◌, refl, Bool, true, false, List, length, ltb, Result, Ok, Err}
use Rattle.std.proofs.Common.{◌∙◌, sym, ap, ltb-false, lt-ltb, le-ltb}
use Rattle.octets.specs.Class.{limit, seps_of}
use Rattle.octets.specs.declared.Seps.{Seps}
use Rattle.answers.specs.declared.Reply.{Reply}
use Rattle.answers.specs.declared.Reply.TheVariants.{Mode, Length}
use Rattle.answers.specs.declared.View.{View}
use Rattle.answers.specs.Reply.{refused_view}
use Rattle.answers.specs.Outcome.{Outcome, refuse, give, told, guard, in_mode, short}
use Rattle.answers.specs.Written.{Wrote}
use Rattle.answers.specs.Laws.{goes}
use Rattle.buffers.specs.Laws.{write_goes, refused}
use Rattle.paths.specs.Guards.{result_of, accepted_one, accepted_both}

-- a chain of guards in front of two outcomes: it refuses both alike
module _ {A B : Type 0} (o : Outcome A) (k : B) (e : Reply) where
  refused_two : (b c : Bool) → result_of (guard b Mode (guard c Length (give k))) ≡ Err e → guard b Mode (guard c Length o) ≡ refuse e
  unfolding guard
  refused_two true c z = cc
  refused_two false true z = cc
  refused_two false false z = cc

  refused_three : (b c d : Bool) → result_of (guard b Mode (guard c Length (guard d Length (give k)))) ≡ Err e → guard b Mode (guard c Length (guard d Length o)) ≡ refuse e
  unfolding guard
  refused_three true c d z = cc
  refused_three false true d z = cc
  refused_three false false true z = cc
  refused_three false false false z = cc

-- or lets both through
module _ {B : Type 0} (k j : B) where
  taken_two : (b c : Bool) → result_of (guard b Mode (guard c Length (give k))) ≡ Ok j → (b ≡ false) × (c ≡ false) × (j ≡ k)
  unfolding guard
  taken_two true c z = (cc, cc, cc)
  taken_two false true z = (cc, cc, cc)
  taken_two false false z = (refl, refl, cc)

  taken_three : (b c d : Bool) → result_of (guard b Mode (guard c Length (guard d Length (give k)))) ≡ Ok j → (b ≡ false) × (c ≡ false) × (d ≡ false) × (j ≡ k)
  unfolding guard
  taken_three true c d z = (cc, cc, cc, cc)
  taken_three false true d z = (cc, cc, cc, cc)
  taken_three false false true z = (cc, cc, cc, cc)
  taken_three false false false z = (refl, refl, refl, cc)

-- `accept`
module _ (m : ℕ) (s : List ℕ) where
  pub ask_mode : 1 < m → Err Mode ≡ accepted_one m s
  unfolding guard
  ask_mode h = rw (lt-ltb 1 m h)

  pub ask_long : m ≤ 1 → limit < length s → Err Length ≡ accepted_one m s
  unfolding guard
  ask_long g h = rw (le-ltb 1 m g) (rw (lt-ltb limit (length s) h))

  pub ask_well : (k : Seps) → m ≤ 1 → length s ≤ limit → k ≡ seps_of m → Ok k ≡ accepted_one m s
  unfolding guard
  ask_well k g h e = rw (le-ltb 1 m g) (rw (le-ltb limit (length s) h, e))

-- one path
module _ (m : ℕ) (s : List ℕ) (r : Result Seps Reply) (g : r ≡ accepted_one m s) where
  module _ (k : Seps) (h : r ≡ Ok k) where
    pub one_same : k ≡ seps_of m
    one_same = (taken_two (seps_of m) k (ltb 1 m) (ltb limit (length s)) (sym g ∙ h)).2

    pub one_short : length s ≤ limit
    one_short = ltb-false limit (length s) (taken_two (seps_of m) k (ltb 1 m) (ltb limit (length s)) (sym g ∙ h)).1

    pub one_taken : {A : Type 0} (f : Reply → A) (o : Outcome A) (x : A) → x ≡ told f o → x ≡ told f (in_mode m (short s o))
    one_taken f o x z =
        let w = taken_two (seps_of m) k (ltb 1 m) (ltb limit (length s)) (sym g ∙ h) in
        z ∙ sym (goes f Mode (short s o) w.0 ∙ goes f Length o w.1)

  pub one_refused : {A : Type 0} (f : Reply → A) (o : Outcome A) (x : A) (e : Reply) → r ≡ Err e → x ≡ f e → x ≡ told f (in_mode m (short s o))
  unfolding told
  one_refused f o x e h z = z ∙ sym (rw (refused_two o (seps_of m) e (ltb 1 m) (ltb limit (length s)) (sym g ∙ h)))

-- `accept_both`
module _ (m : ℕ) (p q : List ℕ) (r : Result Seps Reply) (g : r ≡ accepted_one m p) where
  pub ask_refused : (e : Reply) → r ≡ Err e → Err e ≡ accepted_both m p q
  ask_refused e h = sym (ap result_of (refused_two (short q (give (seps_of m))) (seps_of m) e (ltb 1 m) (ltb limit (length p)) (sym g ∙ h)))

  module _ (k : Seps) (h : r ≡ Ok k) where
    pub ask_second : limit < length q → Err Length ≡ accepted_both m p q
    unfolding guard
    ask_second l =
        let w = taken_two (seps_of m) k (ltb 1 m) (ltb limit (length p)) (sym g ∙ h) in
        rw w.0 (rw w.1 (rw (lt-ltb limit (length q) l)))

    pub ask_both : length q ≤ limit → Ok k ≡ accepted_both m p q
    unfolding guard
    ask_both l =
        let w = taken_two (seps_of m) k (ltb 1 m) (ltb limit (length p)) (sym g ∙ h) in
        rw w.0 (rw w.1 (rw (le-ltb limit (length q) l, w.2)))

pub ruleset guards_asked = (ask_mode, ask_long, ask_well, ask_refused, ask_second, ask_both)

-- two inputs
module _ (m : ℕ) (p q : List ℕ) (r : Result Seps Reply) (g : r ≡ accepted_both m p q) where
  module _ (k : Seps) (h : r ≡ Ok k) where
    pub both_same : k ≡ seps_of m
    both_same = (taken_three (seps_of m) k (ltb 1 m) (ltb limit (length p)) (ltb limit (length q)) (sym g ∙ h)).3

    pub both_first : length p ≤ limit
    both_first = ltb-false limit (length p) (taken_three (seps_of m) k (ltb 1 m) (ltb limit (length p)) (ltb limit (length q)) (sym g ∙ h)).1

    pub both_second : length q ≤ limit
    both_second = ltb-false limit (length q) (taken_three (seps_of m) k (ltb 1 m) (ltb limit (length p)) (ltb limit (length q)) (sym g ∙ h)).2

    pub both_taken : {A : Type 0} (f : Reply → A) (o : Outcome A) (x : A) → x ≡ told f o → x ≡ told f (in_mode m (short p (short q o)))
    both_taken f o x z =
        let w = taken_three (seps_of m) k (ltb 1 m) (ltb limit (length p)) (ltb limit (length q)) (sym g ∙ h) in
        z ∙ sym (goes f Mode (short p (short q o)) w.0 ∙ goes f Length (short q o) w.1 ∙ goes f Length o w.2)

    pub both_wrote : (o : Outcome (List ℕ)) (a : View) (x y : List ℕ) → Wrote o a x y → Wrote (in_mode m (short p (short q o))) a x y
    both_wrote o a x y z =
        let w = taken_three (seps_of m) k (ltb 1 m) (ltb limit (length p)) (ltb limit (length q)) (sym g ∙ h) in
        write_goes Mode _ a w.0 (write_goes Length _ a w.1 (write_goes Length o a w.2 z))

  pub both_refused : {A : Type 0} (f : Reply → A) (o : Outcome A) (x : A) (e : Reply) → r ≡ Err e → x ≡ f e → x ≡ told f (in_mode m (short p (short q o)))
  unfolding told
  both_refused f o x e h z = z ∙ sym (rw (refused_three o (seps_of m) e (ltb 1 m) (ltb limit (length p)) (ltb limit (length q)) (sym g ∙ h)))

  pub both_left : (o : Outcome (List ℕ)) (a : View) (x : List ℕ) (e : Reply) → r ≡ Err e → a ≡ refused_view e → Wrote (in_mode m (short p (short q o))) a x x
  both_left o a x e h z = rw (refused_three o (seps_of m) e (ltb 1 m) (ltb limit (length p)) (ltb limit (length q)) (sym g ∙ h), z) refused
