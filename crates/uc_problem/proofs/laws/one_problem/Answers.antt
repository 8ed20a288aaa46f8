use Rattle.uc_problem.proofs.HoldsOnce.{problem_is_once, refusal_is_once, held_or_refused}
use Rattle.uc_problem.proofs.MarksOnce.{marks_once, large_once, marked_or_large}
use Rattle.uc_problem.proofs.EncodedOnce.{encoding_once}
use Rattle.uc_problem.proofs.AddedOnce.{marks_add_once}
use Rattle.uc_problem.proofs.FilledOnce.{filled_once, filled_problem_once}
use Rattle.uc_problem.proofs.RefusedOnce.{refused_for_once, filled_or_refused}
use Rattle.uc_problem.proofs.laws.one_problem.Goals as goal

pub returns-clause-problem : goal.returns-clause-problem
returns-clause-problem c table files root name a b distinct x y = problem_is_once table distinct files root name a b x y

pub returns-clause-refusal : goal.returns-clause-refusal
returns-clause-refusal c table files root name a b distinct x y = refusal_is_once table distinct files root name x y

pub returns-clause-never_both : goal.returns-clause-never_both
returns-clause-never_both c table files root name held why distinct x y = held_or_refused table distinct files root name x y

pub returns-clause-marks : goal.returns-clause-marks
returns-clause-marks c table problem a b distinct x y = marks_once table problem distinct a b x y

pub returns-clause-too_large : goal.returns-clause-too_large
returns-clause-too_large c table problem a b x y = large_once table problem a b x y

pub returns-clause-marked_or_not : goal.returns-clause-marked_or_not
returns-clause-marked_or_not c table problem marks number x y = marked_or_large table problem marks number x y

pub returns-clause-encoding : goal.returns-clause-encoding
returns-clause-encoding c table problem a b distinct x y = encoding_once table problem distinct a b x y

pub returns-clause-filled : goal.returns-clause-filled
returns-clause-filled c files root name old new other a b distinct others x y = (filled_once files root name old new other distinct others a b x y, filled_problem_once files root name old new other distinct others a b x y)

pub returns-clause-refused : goal.returns-clause-refused
returns-clause-refused c files root name old a b x y = refused_for_once files root name old x y

pub returns-clause-filled_or_refused : goal.returns-clause-filled_or_refused
returns-clause-filled_or_refused c files root name old new a why x y = filled_or_refused files root name old new a x y

pub returns-clause-marked_table : goal.returns-clause-marked_table
returns-clause-marked_table c problem old new other fresh again distinct others has x y p q = marks_add_once problem old new other distinct others has fresh again x y p q
