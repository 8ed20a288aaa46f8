use Rattle.std.proofs.Common.{arith}
use Rattle.uc_pair.specs.Reading.{rule_read}
use Rattle.uc_pair.proofs.Apart.{are_apart}
use Rattle.uc_pair.proofs.instances.rename_apart.Goals as goal

pub returns : goal.returns
returns c = are_apart (rule_read c.args.outer.now) (rule_read c.args.inner.now) c.clear.new.self.items c.clear-2.new.self.items c.number_in.new.names.items c.number_in-2.new.names.items c.number_in-3.new.names.items c.number_in-4.new.names.items c.len-count.result _ c.in_ok-outer_from.ensures.names c.in_ok-outer_to.ensures.names c.in_ok-inner_from.ensures.names c.in_ok-inner_to.ensures.names (omega (arith, c.len-count.ensures)) c.in_ok-outer_from.ensures.numbered c.in_ok-outer_to.ensures.numbered c.in_ok-inner_from.ensures.numbered c.in_ok-inner_to.ensures.numbered
