-- Laws of the calls that answer a view of one path: one a way through each of them.
use Rattle.std.specs.Prelude.{ℕ, ◌≡◌, List, Result, Ok, Err}
use Rattle.std.proofs.Common.{◌∙◌}
use Rattle.octets.specs.declared.Seps.{Seps}
use Rattle.answers.specs.declared.View.{View}
use Rattle.answers.specs.Reply.{refused_view}
use Rattle.answers.specs.Outcome.{Outcome, told}
use Rattle.views.specs.Leaves.{ViewAt}
use Rattle.paths.specs.Views.{view_call}
use Rattle.answers.specs.declared.Reply.{Reply}
use Rattle.paths.specs.Guards.{accepted_one}
use Rattle.paths.specs.GuardLaws.{one_same, one_taken, one_refused}

module _ (f : Seps → List ℕ → Outcome View) (m : ℕ) (s : List ℕ) (x : View) (r : Result Seps Reply) (g : r ≡ accepted_one m s) where
  pub view_refused : (e : Reply) → r ≡ Err e → x ≡ refused_view e → x ≡ told refused_view (view_call f m s)
  unfolding view_call
  view_refused e h z = one_refused m s r g refused_view _ x e h z

  pub view_taken : (k : Seps) → r ≡ Ok k → ViewAt (f k s) s x → x ≡ told refused_view (view_call f m s)
  unfolding view_call
  view_taken k h a = one_taken m s r g k h refused_view _ x (a.is ∙ rw (one_same m s r g k h))

pub ruleset views = (view_refused, view_taken)
