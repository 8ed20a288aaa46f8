use Rattle.std.proofs.Common.{codes}
use Rattle.uc_problem.proofs.Later.{Grows-trans}
use Rattle.uc_problem.proofs.Growth.{fresh_later}
use Rattle.uc_problem.proofs.FreshMarks.{all_later}
use Rattle.uc_problem.proofs.Fillings.{adds_fresh}
use Rattle.uc_problem.proofs.marking.new_marks.Goals as goal

pub returns-clause-marks : goal.returns-clause-marks
returns-clause-marks c =
    let taken = c.args.problem.now.signature.symbols in
    let first = all_later c.args.symbols.now c.add_fresh.new.symbols taken c.in_ok-eq.ensures.grows c.requires in
    let second = all_later c.add_fresh.new.symbols c.add_fresh-2.new.symbols taken c.in_ok-yes.ensures.grows first in
    record {
      eq = fresh_later c.add_fresh.new.symbols c.add_fresh-3.new.symbols (Grows-trans c.add_fresh.new.symbols c.add_fresh-2.new.symbols c.add_fresh-3.new.symbols c.in_ok-yes.ensures.grows c.in_ok-no.ensures.grows) (codes "eq") 2 taken c.in_ok-eq.eq first (rw c.as_slice-taken.ensures at c.in_ok-eq.ensures.fresh);
      yes = fresh_later c.add_fresh-2.new.symbols c.add_fresh-3.new.symbols c.in_ok-no.ensures.grows (codes "true") 0 taken c.in_ok-yes.yes second (rw c.as_slice-taken.ensures at c.in_ok-yes.ensures.fresh);
      no = rw c.as_slice-taken.ensures at c.in_ok-no.ensures.fresh;
    }

pub returns-clause-adds : goal.returns-clause-adds
returns-clause-adds c =
    let taken = c.args.problem.now.signature.symbols in (
      c.add_fresh.new.symbols,
      c.add_fresh-2.new.symbols,
      adds_fresh c.args.symbols.now c.add_fresh.new.symbols (codes "eq") 2 taken c.in_ok-eq.eq (rw c.as_slice-taken.ensures at c.in_ok-eq.ensures.fresh) c.in_ok-eq.ensures.only,
      adds_fresh c.add_fresh.new.symbols c.add_fresh-2.new.symbols (codes "true") 0 taken c.in_ok-yes.yes (rw c.as_slice-taken.ensures at c.in_ok-yes.ensures.fresh) c.in_ok-yes.ensures.only,
      adds_fresh c.add_fresh-2.new.symbols c.add_fresh-3.new.symbols (codes "false") 0 taken c.in_ok-no.no (rw c.as_slice-taken.ensures at c.in_ok-no.ensures.fresh) c.in_ok-no.ensures.only,
    )

pub add_fresh-requires-2 : goal.add_fresh-requires-2
add_fresh-requires-2 c = rw c.as_slice-taken.ensures (all_later c.args.symbols.now c.add_fresh.new.symbols c.args.problem.now.signature.symbols c.in_ok-eq.ensures.grows c.requires)

pub add_fresh-requires-3 : goal.add_fresh-requires-3
add_fresh-requires-3 c = rw c.as_slice-taken.ensures (all_later c.add_fresh.new.symbols c.add_fresh-2.new.symbols c.args.problem.now.signature.symbols c.in_ok-yes.ensures.grows (all_later c.args.symbols.now c.add_fresh.new.symbols c.args.problem.now.signature.symbols c.in_ok-eq.ensures.grows c.requires))

pub returns-in_err-yes-clause-grows : goal.returns-in_err-yes-clause-grows
returns-in_err-yes-clause-grows c = Grows-trans c.args.symbols.now c.add_fresh.new.symbols c.add_fresh-2.new.symbols c.in_ok-eq.ensures.grows c.in_err-yes.ensures.grows

pub returns-in_err-no-clause-grows : goal.returns-in_err-no-clause-grows
returns-in_err-no-clause-grows c = Grows-trans c.args.symbols.now c.add_fresh.new.symbols c.add_fresh-3.new.symbols c.in_ok-eq.ensures.grows (Grows-trans c.add_fresh.new.symbols c.add_fresh-2.new.symbols c.add_fresh-3.new.symbols c.in_ok-yes.ensures.grows c.in_err-no.ensures.grows)

pub returns-clause-grows : goal.returns-clause-grows
returns-clause-grows c = Grows-trans c.args.symbols.now c.add_fresh.new.symbols c.add_fresh-3.new.symbols c.in_ok-eq.ensures.grows (Grows-trans c.add_fresh.new.symbols c.add_fresh-2.new.symbols c.add_fresh-3.new.symbols c.in_ok-yes.ensures.grows c.in_ok-no.ensures.grows)
