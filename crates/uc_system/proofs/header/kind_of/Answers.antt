use Rattle.std.proofs.Common.{sym, ◌∙◌}
use Rattle.uc_system.proofs.Headers.{kind_rest}
use Rattle.uc_system.proofs.header.kind_of.Goals as goal

pub returns : goal.returns
returns c = c.weighing_of.ensures ∙ sym (kind_rest c.args.line.now c.split_at.result.1.now (sym c.if-eq.ensures) (sym c.if-not-starts_with.ensures.value) c.split_at.ensures.back)
