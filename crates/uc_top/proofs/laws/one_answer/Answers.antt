use Rattle.uc_search.proofs.OneSearch.{one_search}
use Rattle.uc_top.proofs.AnswersOnce.{answer_once}
use Rattle.uc_top.proofs.laws.one_answer.Goals as goal

pub returns : goal.returns
returns c = record {
  answer = λ files before now again later words s t a b alone well later_well x y. answer_once files before now again later one_search words alone (λ five rose. well rose) (λ five rose. later_well rose) x y;
  unless_read_fault = λ files before now again later words s t a b alone v w x y. answer_once files before now again later one_search words alone (λ five rose. v five) (λ five rose. w five) x y;
}
