use Rattle.std.proofs.Common.{arith, ◌≡◌, sym, ◌∙◌, ap}
use Rattle.std.proofs.lemmas.Bool.{false≢true}
use Rattle.uc_book.specs.Parts.{closings}
use Rattle.uc_book.proofs.parts.Parts.end_goal.Goals as goal

pub returns-then-met : goal.returns-then-met
returns-then-met c = record {
  met = λ t stands e. c.prove.ensures.state t stands;
  apart = λ t stands e. absurd (false≢true (sym e ∙ c.if-met.true));
  facts = c.prove.ensures.subjects.facts;
  pairs = c.prove.ensures.subjects.pairs;
  tasks = c.prove.ensures.tasks;
  next = c.prove.ensures.next;
  history = (let shut : closings c.prove.new.self.verdict ≡ 0 = ap closings c.prove.ensures.verdict in let stood : closings c.args.self.now.verdict ≡ 1 = ap closings c.requires.open in omega (arith, shut, stood, c.prove.ensures.history));
  capacity = c.prove.ensures.capacity;
}

pub returns-else-met : goal.returns-else-met
returns-else-met c = record {
  met = λ t stands e. absurd (false≢true (sym c.if-met.false ∙ e));
  apart = λ t stands e. c.rest.ensures.state t stands;
  facts = c.rest.ensures.facts;
  pairs = c.rest.ensures.pairs;
  tasks = c.rest.ensures.ended.tasks;
  next = c.rest.ensures.ended.next;
  history = (let v : closings c.rest.new.self.verdict ≡ closings c.args.self.now.verdict = ap closings c.rest.ensures.ended.verdict in omega (arith, v, c.rest.ensures.ended.history));
  capacity = c.rest.ensures.ended.capacity;
}
