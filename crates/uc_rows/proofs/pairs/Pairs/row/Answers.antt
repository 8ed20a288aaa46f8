use Rattle.std.proofs.Common.{rules, arith, ◌≡◌, ◌<◌, length, get_or, slice_get, Some, None, sym, ◌∙◌}
use Rattle.uc_machine.proofs.Lists.{below}
use Rattle.uc_rows.proofs.PairRows.{pair_at, no_pair}
use Rattle.uc_rows.proofs.pairs.Pairs.row.Goals as goal

pub index-row-requires : goal.index-row-requires
index-row-requires c =
    let i = c.self.inside in
    let l : c.args.number < length i.states.states = below i.states.states c.args.number c.in_ok-state.state (sym c.state.ensures ∙ c.in_ok-state.was) in
    omega (arith, l, c.self.invariant.as_many, i.rows.ok.0)

pub returns : goal.returns
returns c =
    let i = c.self.inside in
    let at : slice_get i.states.states c.args.number ≡ Some c.in_ok-state.state = sym c.state.ensures ∙ c.in_ok-state.was in
    let l : c.args.number < length i.rows.items = omega (arith, below i.states.states c.args.number c.in_ok-state.state at, c.self.invariant.as_many) in
    let row = c.index-row.result.now in
    let is : row ≡ get_or i.rows.items c.args.number row = search (rules, c.index-row.ensures) in
    rw (← c.self.view_is) (pair_at i.rows.items i.states.states c.args.number row c.in_ok-state.state l is at)

pub returns-in_err-state : goal.returns-in_err-state
returns-in_err-state c =
    let i = c.self.inside in
    let none : slice_get c.args.self.now.pairs c.args.number ≡ None = rw (← c.self.view_is) (no_pair i.rows.items i.states.states c.args.number (sym c.state.ensures ∙ c.in_err-state.was)) in
    rw c.from_residual.ensures none
