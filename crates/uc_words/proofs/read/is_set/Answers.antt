use Rattle.std.proofs.Common.{rules}
use Rattle.uc_words.proofs.ShownLines.{flag_told}
use Rattle.uc_words.proofs.read.is_set.Goals as goal

pub returns : goal.returns
returns c = flag_told c.args.key c.args.found.now c.key_name.result.now c.get_flag.result (search rules) (search rules) c.key_name.ensures (search rules) (search rules) (search rules)
