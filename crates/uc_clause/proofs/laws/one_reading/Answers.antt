use Rattle.uc_clause.proofs.LawsOnce.{file_once, term_once, equation_once}
use Rattle.uc_clause.proofs.laws.one_reading.Goals as goal

pub returns-clause-file : goal.returns-clause-file
returns-clause-file c table bytes a b distinct x y = file_once table bytes distinct a b x y

pub returns-clause-term : goal.returns-clause-term
returns-clause-term c table bytes a b distinct x y = term_once table bytes distinct a b x y

pub returns-clause-equation : goal.returns-clause-equation
returns-clause-equation c table bytes a b distinct x y = equation_once table bytes distinct a b x y
