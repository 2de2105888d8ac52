use Rattle.std.proofs.Common.{rules, tests, ℕ, Bool, true, false, cond, List, [], ◌∷◌, refl, Bor, Option, Some, None, MatchOption, ap, ◌≡◌, ◌∙◌}
use Rattle.std.specs.Str.{bytes_eq}
use Rattle.std.specs.List.{find}
use Rattle.std.specs.Option.{option_map}
use Rattle.std.proofs.lemmas.Iterator.{YieldsList-from_slice}
use Rattle.std.proofs.lemmas.Iterator.Search.{find_from_yields_List}
use Rattle.protocol.specs.Words.{beside}
use Rattle.protocol.proofs.words.beside.Goals as goal

module _ {A : Type 0} (w : List ℕ) where
  abbrev is_word : Bor (List ℕ) × A → Bool
  is_word row = bytes_eq w row.0.now

  -- the value of a row that was found
  abbrev value_at : Option (Bor (List ℕ) × A) → Option A
  value_at None = None
  value_at (Some row) = Some row.1

  value_at-cond : (b : Bool) (row : Bor (List ℕ) × A) (o : Option (Bor (List ℕ) × A)) → value_at (cond b (Some row) o) ≡ cond b (Some row.1) (value_at o)
  value_at-cond true row o = refl
  value_at-cond false row o = refl

  value_at-find : (rows : List (Bor (List ℕ) × A)) → value_at (find is_word rows) ≡ beside rows w
  value_at-find [] = refl
  value_at-find (row ∷ rows) =
      value_at-cond (is_word row) row (find is_word rows)
      ∙ ap (λ v. cond (is_word row) (Some row.1) v) (value_at-find rows)

  mapped : (r : Option (Bor (Bor (List ℕ) × A))) (v : Option A) → MatchOption r (v ≡ None) (λ x. v ≡ Some x.now.1) → v ≡ value_at (option_map (λ x. x.now) r)
  mapped None v h = h
  mapped (Some x) v h = h

pub returns : goal.returns
returns g c =
    let w = c.args.w.now in
    let found = find_from_yields_List (is_word w) _ _ c.find.result c.find.ensures.ran (YieldsList-from_slice c.args.table.now cc) (λ x b q k. search (rules, tests)) in
    mapped w c.find.result c.map.result (search rules) ∙ ap (value_at w) found ∙ value_at-find w c.args.table.now
