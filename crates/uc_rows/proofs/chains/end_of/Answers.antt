use Rattle.std.proofs.Common.{◌≡◌, ◌-◌, length, slice_get, Some, sym, ap, ◌∙◌}
use Rattle.std.specs.Option.{option_copied}
use Rattle.uc_rows.proofs.Ends.{end-last}
use Rattle.uc_rows.proofs.chains.end_of.Goals as goal

pub returns-in-Some : goal.returns-in-Some
returns-in-Some c =
    let steps = c.args.chain.now.steps in
    let at : slice_get steps (length steps - 1) ≡ Some c.in-Some.step.now = rw (← c.as_slice.ensures) (sym c.last.ensures.value ∙ ap option_copied c.in-Some.is) in
    sym (end-last c.args.chain.now.start steps c.in-Some.step.now at)
