use Rattle.uc_top.proofs.LinesByCertificate.{same_for, same_for_word}
use Rattle.uc_top.proofs.laws.one_line_by_certificate.Goals as goal

pub returns-clause-terms : goal.returns-clause-terms
returns-clause-terms c files words k l name file asked questions s t a b x y i j sides line other reads roots shares at there tells tells_too = same_for files words k l name file asked questions s t a b x y reads roots shares i j line other tells tells_too sides at there

pub returns-clause-word : goal.returns-clause-word
returns-clause-word c files words k l name file asked questions s t a b x y i j word line other reads roots shares at there tells tells_too = same_for_word files words k l name file asked questions s t a b x y reads roots shares i j line other tells tells_too word at there
