use Rattle.uc_clause.proofs.Interned.{interned_is}
use Rattle.uc_problem.proofs.Later.{Grows-trans}
use Rattle.uc_gen.specs.Generated.{constant_name}
use Rattle.uc_gen.proofs.Constants.{more_constants, more_interned}
use Rattle.uc_gen.proofs.generating.constants.Goals as goal

pub loop-number-preserved : goal.loop-number-preserved
loop-number-preserved c = record {
  are = more_constants c.loop-number.symbols c.constant.new.symbols c.loop-number.number c.loop-number.constants.items c.push.new.self.items c.in_ok-sym.sym c.loop-number.invariant.are c.constant.ensures.grows c.in_ok-sym.ensures.interned.0 c.in_ok-push.ensures.items;
  interns = more_interned c.args.symbols.now c.loop-number.symbols c.constant.new.symbols c.loop-number.number c.loop-number.invariant.interns (interned_is c.loop-number.symbols c.constant.new.symbols (constant_name c.loop-number.number) 0 c.in_ok-sym.sym c.in_ok-sym.ensures.interned);
  grows = Grows-trans c.args.symbols.now c.loop-number.symbols c.constant.new.symbols c.loop-number.invariant.grows c.constant.ensures.grows;
}
