use Rattle.std.proofs.Common.{arith, ◌≡◌, length, ap}
use Rattle.uc_rows.specs.RowViews.{PairsView}
use Rattle.uc_rows.specs.PairRows.{pairs_of}
use Rattle.uc_rows.proofs.PairRows.{length-pairs_of}
use Rattle.uc_rows.proofs.pairs.Pairs.count.Goals as goal

pub returns : goal.returns
returns c =
    let i = c.self.inside in
    let a : length (pairs_of i.rows.items i.states.states) ≡ length i.rows.items = length-pairs_of i.rows.items i.states.states c.self.invariant.as_many in
    let b : length (pairs_of i.rows.items i.states.states) ≡ length c.args.self.now.pairs = ap (λ (v : PairsView). length v.pairs) c.self.view_is in
    omega (arith, i.rows.ok.0)
