use Rattle.std.proofs.Common.{subst, Ok}
use Rattle.uc_check.specs.declared.proof.Proof.{Proof}
use Rattle.uc_tstp.specs.Reading.{ReadsInside}
use Rattle.uc_tstp.proofs.Bounded.{all_bounded}
use Rattle.uc_tstp.proofs.InOrder.{same_proof}
use Rattle.uc_tstp.proofs.ProofAgain.{inside_again}
use Rattle.uc_tstp.proofs.printing.print_lines.Goals as goal

pub returns-in_err-write_lines-clause-read_again : goal.returns-in_err-write_lines-clause-read_again
returns-in_err-write_lines-clause-read_again c = λ which printable text frame e. inside_again which c.args.symbols.now c.args.file_of.now c.args.proof.now c.requires.lines (all_bounded c.args.symbols.now which c.args.file_of.now c.args.proof.now.lines printable (rw c.as_slice.ensures at c.see_bounds.ensures)) text frame e

pub returns-in_err-write_lines-clause-read_back : goal.returns-in_err-write_lines-clause-read_back
returns-in_err-write_lines-clause-read_back c = λ which printable in_order text frame e. subst (λ (p : Proof). ReadsInside which c.args.symbols.now text frame (Ok p)) (same_proof c.args.proof.now in_order) (inside_again which c.args.symbols.now c.args.file_of.now c.args.proof.now c.requires.lines (all_bounded c.args.symbols.now which c.args.file_of.now c.args.proof.now.lines printable (rw c.as_slice.ensures at c.see_bounds.ensures)) text frame e)

pub returns-clause-read_again : goal.returns-clause-read_again
returns-clause-read_again c = λ which printable text frame e. inside_again which c.args.symbols.now c.args.file_of.now c.args.proof.now c.requires.lines (all_bounded c.args.symbols.now which c.args.file_of.now c.args.proof.now.lines printable (rw c.as_slice.ensures at c.see_bounds.ensures)) text frame e

pub returns-clause-read_back : goal.returns-clause-read_back
returns-clause-read_back c = λ which printable in_order text frame e. subst (λ (p : Proof). ReadsInside which c.args.symbols.now text frame (Ok p)) (same_proof c.args.proof.now in_order) (inside_again which c.args.symbols.now c.args.file_of.now c.args.proof.now c.requires.lines (all_bounded c.args.symbols.now which c.args.file_of.now c.args.proof.now.lines printable (rw c.as_slice.ensures at c.see_bounds.ensures)) text frame e)
