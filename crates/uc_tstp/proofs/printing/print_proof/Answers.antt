use Rattle.std.proofs.Common.{subst, Ok}
use Rattle.uc_check.specs.declared.proof.Proof.{Proof}
use Rattle.uc_tstp.specs.Reading.{ReadsProof}
use Rattle.uc_tstp.proofs.Bounded.{proof_bounded}
use Rattle.uc_tstp.proofs.InOrder.{same_proof}
use Rattle.uc_tstp.proofs.ProofAgain.{printed_again}
use Rattle.uc_tstp.proofs.printing.print_proof.Goals as goal

pub returns-clause-read_again : goal.returns-clause-read_again
returns-clause-read_again c = λ printable. printed_again c.args.symbols.now c.args.name.now c.args.file_of.now c.args.proof.now c.new-out.result c.write_border.new.out c.write_lines.new.out c.write_border-2.new.out c.new-out.ensures c.in_ok-write_border.ensures (rw c.as_slice-2.ensures at c.in_ok-write_lines.ensures) c.in_ok-write_border-2.ensures c.requires.lines
    (proof_bounded c.args.symbols.now c.args.name.now c.args.file_of.now c.args.proof.now.lines printable (rw c.as_slice.ensures at c.see_bounds.ensures))

pub returns-clause-read_back : goal.returns-clause-read_back
returns-clause-read_back c = λ printable in_order.
    subst (λ (p : Proof). ReadsProof c.args.symbols.now c.write_border-2.new.out (Ok p)) (same_proof c.args.proof.now in_order)
    (printed_again c.args.symbols.now c.args.name.now c.args.file_of.now c.args.proof.now c.new-out.result c.write_border.new.out c.write_lines.new.out c.write_border-2.new.out c.new-out.ensures c.in_ok-write_border.ensures (rw c.as_slice-2.ensures at c.in_ok-write_lines.ensures) c.in_ok-write_border-2.ensures c.requires.lines
    (proof_bounded c.args.symbols.now c.args.name.now c.args.file_of.now c.args.proof.now.lines printable (rw c.as_slice.ensures at c.see_bounds.ensures)))
