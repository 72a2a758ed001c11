-- `bill_row` meets its contract: the eight shares one by one are the list. Assumes nothing.
use Rattle.std.proofs.Common.{◌≡◌, ◌∷◌, length, ap, rules}
use Rattle.c_api.proofs.TariffLaws.{eight_places}
use Rattle.c_api.proofs.tariff.bill_row.Goals as goal

pub returns : goal.returns
returns c =
    let P = c.args.priced in
    let e : length P.shares ≡ 8 = search rules in
    ap (λ l. P.figures.blocks ∷ P.figures.radius ∷ P.figures.widest ∷ P.total ∷ l) (eight_places P.shares e)
