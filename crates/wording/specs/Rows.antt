-- What a method of a row does.
use Rattle.std.specs.Prelude.{◌≡◌, ℕ, List}
use Rattle.wording.specs.declared.lines.Row.{Row}
use Rattle.wording.specs.Lines.{Put}

-- w was put behind what stood in the row a, which is b then; its buffer is the one that it was lent
pub record Added (w : List ℕ) (a b : Row) : Type 0 where
  pub lent : b.out.ghost_name ≡ a.out.ghost_name
  pub put : Put w a.out.now a.n b.n b.out.now
