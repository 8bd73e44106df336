-- The new draft is of the numbers that the words are read as.
-- Assumes nothing.
use Rattle.std.proofs.Common.{refl}
use Rattle.orders.proofs.Moves.{begun_follows, refused_follows}
use Rattle.orders.proofs.desk.Desk.begin.Goals as goal

pub returns-in-Ok : goal.returns-in-Ok
returns-in-Ok g c =
    let v = c.push_reserved.ensures in
    begun_follows _ (g.S.Source.reciprocal c.args.source.now) _ (λ i. (c.numbers-dividend.ensures.dividend i, c.numbers-dividend.ensures.divisor i)) refl refl v.capacity v.len
    c.in-Ok.draft c.in-Ok.ensures.held c.in-Ok.ensures.stands v.items

pub returns-in-Err : goal.returns-in-Err
returns-in-Err g c =
    let v = c.push_reserved-in-Err.ensures in
    refused_follows _ (g.S.Source.reciprocal c.args.source.now) _ (λ i. (c.numbers-dividend.ensures.dividend i, c.numbers-dividend.ensures.divisor i)) refl refl v.capacity v.len
    c.in-Err.fault c.in-Err.ensures.held c.into.ensures v.items
