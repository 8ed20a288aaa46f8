use Rattle.uc_term.specs.Table.{Has}
use Rattle.uc_system.proofs.Precedence.{each_symbol}
use Rattle.uc_system.proofs.symbols.has_constant.Goals as goal

pub arity-requires : goal.arity-requires
arity-requires c = each_symbol (Has c.args.symbols.now) c.args.ranked.now c.loop-s.s-index _ c.loop-s-test.true c.requires
