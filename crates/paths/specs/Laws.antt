-- Laws of the public calls: one a way through each.
use Rattle.std.specs.Prelude.{ℕ, ◌*◌, ◌^◌, ◌<◌, ◌≡◌, List, Bool, true, false, length, get_or, Option, Some, None, Result, Ok, Err}
use Rattle.std.proofs.Common.{arith, sym, ◌∙◌}
use Rattle.std.proofs.Math.Path.{refl}
use Rattle.octets.specs.declared.Seps.{Seps}
use Rattle.octets.specs.declared.Seps.TheVariants.{Unix, Windows, Verbatim as OnlyBack}
use Rattle.answers.specs.declared.Reply.TheVariants.{Done, Absent}
use Rattle.answers.specs.Outcome.{told, guard}
use Rattle.prefixes.specs.declared.Prefix.{Prefix}
use Rattle.prefixes.specs.declared.Prefix.TheVariants.{Disk}
use Rattle.prefixes.specs.Prefix.{capital, drive, prefix_of, prefix_in, len_of}
use Rattle.prefixes.specs.Laws.{drive_told, drive_long, drive_disk, len_small}
use Rattle.components.specs.List.{sep_at}
use Rattle.components.specs.Laws.{windows_plain}
use Rattle.paths.specs.declared.Prefixed.{Prefixed}
use Rattle.paths.specs.Prefix.{refused_prefix, prefix_asked, prefix_call}
use Rattle.answers.specs.declared.Reply.{Reply}
use Rattle.paths.specs.Guards.{accepted_one}
use Rattle.paths.specs.GuardLaws.{one_same, one_taken, one_refused}

-- `prefix`
module _ (m : ℕ) (s : List ℕ) (x : Prefixed) (r : Result Seps Reply) (g : r ≡ accepted_one m s) where
  pub prefix_refused : (e : Reply) → r ≡ Err e → x ≡ refused_prefix e → x ≡ told refused_prefix (prefix_call m s)
  unfolding prefix_call
  prefix_refused e h z = one_refused m s r g refused_prefix _ x e h z

  module _ (k : Seps) (h : r ≡ Ok k) where
    well : x ≡ told refused_prefix (prefix_asked (prefix_in k s)) → x ≡ told refused_prefix (prefix_call m s)
    unfolding prefix_call
    well w = one_taken m s r g k h refused_prefix _ x (w ∙ rw (one_same m s r g k h))

    pub prefix_none : (k ≡ Windows → ⊥) → x ≡ refused_prefix Absent → x ≡ told refused_prefix (prefix_call m s)
    unfolding prefix_asked told guard
    prefix_none n w = well (w ∙ none k n)
      where
        none : (k : Seps) → (k ≡ Windows → ⊥) → refused_prefix Absent ≡ told refused_prefix (prefix_asked (prefix_in k s))
        none Unix n = refl
        none Windows n = absurd (n refl)
        none OnlyBack n = refl

    pub prefix_windows : k ≡ Windows → x ≡ told refused_prefix (prefix_asked (prefix_of s)) → x ≡ told refused_prefix (prefix_call m s)
    prefix_windows e w = well (w ∙ rw e)

-- `windows_prefix`
module _ (s : List ℕ) where
  pub told_drive : (d : Bool) (b : ℕ) → d ≡ drive s → d ≡ true → b ≡ capital (get_or s 0 0) → record { reply = Done; prefix = Some (Disk b); len = 2 } ≡ told refused_prefix (prefix_asked (prefix_of s))
  unfolding prefix_asked told guard
  told_drive d b e y f = rw (drive_disk s (sym e ∙ y), f)

  pub first_byte : (d : Bool) → d ≡ drive s → d ≡ true → 0 < length s
  first_byte d e y = omega (arith, drive_long s (sym e ∙ y))

  pub told_bare : (d c : Bool) (x : Prefixed) → d ≡ drive s → d ≡ false → c ≡ sep_at Windows s 0 → c ≡ false → x ≡ refused_prefix Absent → x ≡ told refused_prefix (prefix_asked (prefix_of s))
  unfolding prefix_asked told guard
  told_bare d c x e n f m w = w ∙ rw (windows_plain Windows s d c refl e n f m)

  module _ (p : Option Prefix) (e : p ≡ prefix_of s) where
    pub told_none : (x : Prefixed) → p ≡ None → x ≡ refused_prefix Absent → x ≡ told refused_prefix (prefix_asked (prefix_of s))
    unfolding prefix_asked told guard
    told_none x n w = w ∙ rw (← e, n)

    module _ (q : Prefix) (f : p ≡ Some q) where
      pub told_found : (n : ℕ) → n ≡ len_of q → record { reply = Done; prefix = Some q; len = n } ≡ told refused_prefix (prefix_asked (prefix_of s))
      unfolding prefix_asked told guard
      told_found n l = rw (← e, f, l)

      pub found_small : length s * 1 < 2 ^ 63 → len_of q < 2 ^ 63
      found_small w = len_small Windows s p q e f w

pub ruleset calls = (prefix_refused, prefix_none, prefix_windows, told_drive, first_byte, drive_told, told_bare, told_none, told_found, found_small)
