use Rattle.std.proofs.Common.{◌≡◌, List, length, sym, subst}
use Rattle.std.specs.Option.{option_copied}
use Rattle.uc_check.specs.declared.proof.Line.{Line}
use Rattle.uc_check.specs.declared.checker.Checked.TheVariants.{Accepted}
use Rattle.uc_check.specs.Checks.{AreRightBefore, IsChecked, rejected}
use Rattle.uc_check.proofs.Sound.{accepted_follows}
use Rattle.uc_check.proofs.checker.check.Goals as goal

pub returns-in-Some-clause-checked : goal.returns-in-Some-clause-checked
returns-in-Some-clause-checked c = rejected (rw c.in-Some.is at c.in_ok-line.ensures)

pub returns-in-None-clause-accepted : goal.returns-in-None-clause-accepted
returns-in-None-clause-accepted c e has =
    let fresh = option_copied c.args.fresh in
    let lines = c.args.proof.now.lines in
    let right : AreRightBefore c.args.clauses.now fresh lines (length lines) = rw c.in-None.is at c.in_ok-line.ensures in
    let there : AreRightBefore c.args.clauses.now fresh c.as_slice.result.now (length c.as_slice.result.now) = subst (λ (l : List Line). AreRightBefore c.args.clauses.now fresh l (length l)) (sym c.as_slice.ensures) right in
    let checked : IsChecked c.args.clauses.now fresh lines c.check_last.result = subst (λ (l : List Line). IsChecked c.args.clauses.now fresh l c.check_last.result) c.as_slice.ensures (c.check_last.ensures c.args.clauses.now fresh there) in
    accepted_follows c.args.clauses.now fresh lines c.requires.fresh has c.check_last.result checked (let same : c.check_last.result ≡ Accepted = cc in same)
