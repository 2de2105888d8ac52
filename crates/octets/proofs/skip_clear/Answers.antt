use Rattle.std.proofs.Common.{rules, tests, ◌≡◌}
use Rattle.std.specs.List.{position}
use Rattle.std.proofs.lemmas.Iterator.{YieldsList-from_slice}
use Rattle.std.proofs.lemmas.Iterator.Search.{position_from_yields_List}
use Rattle.octets.specs.Class.{is_sep}
use Rattle.octets.specs.Laws.{hits, skip_is}
use Rattle.octets.proofs.skip_clear.Goals as goal

pub returns : goal.returns
returns c =
    let blocks = c.as_chunks.result.0.now in
    let e : c.position.result ≡ position (hits (is_sep c.args.k)) blocks =
    position_from_yields_List (hits (is_sep c.args.k)) _ _ _ c.position.ensures.ran (YieldsList-from_slice blocks cc) (λ x b q k. search (rules, tests)) in
    skip_is _ _ _ _ _ c.as_chunks.ensures.front e c.unwrap_or-n.ensures
