use Rattle.std.proofs.Common.{refl}
use Rattle.octets.specs.Laws.{folds, folded_in, folded_low, folded_high}
use Rattle.octets.proofs.is_letter.Goals as goal

-- each `refl` looks at all 256 bytes under the mask that the code has
pub returns-in-65-to-90 : goal.returns-in-65-to-90
unfolding folds
returns-in-65-to-90 c =
    folded_in _ _ c.ranges.b.fits c.in-65-to-90.if-matches-own.false c.in-65-to-90.if-matches-2-own.true refl

pub returns-in_default : goal.returns-in_default
unfolding folds
returns-in_default c = folded_low _ _ c.ranges.b.fits c.in_default.if-matches-own.true refl

pub returns-in_default-2 : goal.returns-in_default-2
unfolding folds
returns-in_default-2 c = folded_high _ _ c.ranges.b.fits c.in_default.if-matches-2-own.false refl
