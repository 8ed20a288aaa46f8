use Rattle.uc_pair.specs.Reading.{rule_read}
use Rattle.uc_pair.proofs.Judged.{inner_renamed}
use Rattle.uc_pair.proofs.judging.judged.Goals as goal

pub goes_up-requires-2-clause-renamed : goal.goes_up-requires-2-clause-renamed
goes_up-requires-2-clause-renamed g c = inner_renamed (rule_read c.args.outer.now) (rule_read c.args.inner.now) c.args.terms.now c.requires.apart
