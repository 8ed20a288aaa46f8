use Rattle.uc_clause.proofs.InternedOnce.{file_interns_once, term_interns_once, equation_interns_once}
use Rattle.uc_clause.proofs.laws.one_table.Goals as goal

pub returns-clause-file : goal.returns-clause-file
returns-clause-file c bytes old new other x y = file_interns_once x y

pub returns-clause-term : goal.returns-clause-term
returns-clause-term c bytes old new other x y = term_interns_once x y

pub returns-clause-equation : goal.returns-clause-equation
returns-clause-equation c bytes old new other x y = equation_interns_once x y
