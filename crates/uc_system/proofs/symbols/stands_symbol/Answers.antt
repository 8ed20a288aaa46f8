use Rattle.std.proofs.Common.{arith}
use Rattle.uc_system.proofs.Taken.{spelled_short}
use Rattle.uc_system.proofs.Standing.{no_line_stands, unwritten_stands, nameless_stands, named_stands}
use Rattle.uc_system.proofs.symbols.stands_symbol.Goals.{in-Some-2, in-None}
use Rattle.uc_system.proofs.symbols.stands_symbol.Goals as goal

pub returns-in_default : goal.returns-in_default
returns-in_default c = no_line_stands c.args.kind _ c.in_default.ensures

pub returns-in_default-written_in : goal.returns-in_default-written_in
returns-in_default-written_in c = unwritten_stands c.args.kind _ _ c.in-Some.ensures.is c.in_default-written_in.ensures

pub word_of-requires : goal.word_of-requires
word_of-requires c = omega (arith, spelled_short c.args.kind c.in-Some.line.now c.in-Some-written_in.written.spelled.now c.in-Some-written_in.written.arity c.in-Some-written_in.written.weight c.in-Some-written_in.ensures, c.in-Some.ensures.short)

pub returns : goal.returns
returns c = elim c.match-branch-2.branch [
  | in-Some-2 w ↦ rw w.result-is (named_stands c.args.kind _ _ c.in-Some.ensures.is c.in-Some-written_in.written.spelled.now c.in-Some-written_in.written.arity c.in-Some-written_in.written.weight c.in-Some-written_in.ensures _ (rw w.in-Some-2.is at c.in_ok-word_of.ensures))
  | in-None w ↦ rw w.result-is (nameless_stands c.args.kind _ _ c.in-Some.ensures.is c.in-Some-written_in.written.spelled.now c.in-Some-written_in.written.arity c.in-Some-written_in.written.weight c.in-Some-written_in.ensures (rw w.in-None.is at c.in_ok-word_of.ensures))
]
