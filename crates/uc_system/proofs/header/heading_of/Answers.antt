use Rattle.std.proofs.Common.{true, false, sym}
use Rattle.uc_system.proofs.Headers.{heading_rest}
use Rattle.uc_system.proofs.header.heading_of.Goals as goal

pub returns-then-is_other_version : goal.returns-then-is_other_version
returns-then-is_other_version c = sym (heading_rest c.args.line.now c.split_at.result.1.now true (sym (rw c.as_slice.ensures at c.if-eq.ensures)) (sym (rw c.as_slice-2.ensures at c.if-eq-2.ensures)) (sym c.if-not-starts_with.ensures.value) c.split_at.ensures.back (sym c.if-is_other_version.ensures))

pub returns-else-is_other_version : goal.returns-else-is_other_version
returns-else-is_other_version c = sym (heading_rest c.args.line.now c.split_at.result.1.now false (sym (rw c.as_slice.ensures at c.if-eq.ensures)) (sym (rw c.as_slice-2.ensures at c.if-eq-2.ensures)) (sym c.if-not-starts_with.ensures.value) c.split_at.ensures.back (sym c.if-is_other_version.ensures))
