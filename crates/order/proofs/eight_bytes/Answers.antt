use Rattle.order.specs.Eights.{eight_told}
use Rattle.order.proofs.eight_bytes.Goals as goal

pub returns : goal.returns
returns c = eight_told _ _ _ c.requires (λ j. (c.type_inv.s j).fits) c.from_le_bytes.ensures
