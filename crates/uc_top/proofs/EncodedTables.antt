-- The table that the encoding's symbols make has that before them as its beginning.
use Rattle.std.proofs.Common.{Option, Some, None, sym, subst}
use Rattle.uc_term.specs.declared.fresh.Fresh.{Fresh}
use Rattle.uc_term.specs.Table.{Table, Grows}
use Rattle.uc_clause.proofs.Tables.{grows_not, grows_twice}
use Rattle.uc_problem.specs.Filling.{AddsMarks}
use Rattle.uc_problem.proofs.AddedOnce.{adds_grows}

pub marks_grow : (old new : Table) (fresh : Option Fresh) → AddsMarks old new fresh → Grows old new
marks_grow old new None i = subst (Grows old) (sym i) (grows_not old)
marks_grow old new (Some marks) (first, second, a, b, c) = grows_twice old first new (adds_grows old first marks.eq a) (grows_twice first second new (adds_grows first second marks.yes b) (adds_grows second new marks.no c))
