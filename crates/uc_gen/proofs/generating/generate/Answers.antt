use Rattle.std.proofs.Common.{sym, subst}
use Rattle.uc_term.proofs.Grown.{interned_grows}
use Rattle.uc_clause.proofs.Interned.{interned_is}
use Rattle.uc_problem.proofs.Later.{Grows-trans}
use Rattle.uc_ordering.specs.Premises.{IsSignature}
use Rattle.uc_gen.specs.Generated.{function_name}
use Rattle.uc_gen.proofs.Constants.{symbol_later}
use Rattle.uc_gen.proofs.Signature.{signature_has}
use Rattle.uc_gen.proofs.Problems.{generated, interned_all}
use Rattle.uc_gen.proofs.generating.generate.Goals as goal

pub returns-clause-generated : goal.returns-clause-generated
returns-clause-generated c = generated c.constants.new.symbols c.args.n c.args.start c.in_ok-function.function c.in_ok-constants.constants.items c.in_ok-clauses.clauses c.in_ok-axioms.axioms c.new.result c.in_ok-signature.signature (symbol_later c.intern.new.self c.constants.new.symbols c.in_ok-function.function function_name 1 c.in_ok-constants.ensures.grows c.in_ok-function.ensures.interned.0) c.in_ok-constants.ensures.are (rw c.as_slice.ensures.value at c.in_ok-clauses.ensures) c.in_ok-axioms.ensures c.new.ensures (rw c.as_slice-2.ensures.value at c.in_ok-signature.ensures)

pub returns-clause-interns : goal.returns-clause-interns
returns-clause-interns c = interned_all c.args.symbols.now c.intern.new.self c.constants.new.symbols c.args.n (interned_is c.args.symbols.now c.intern.new.self function_name 1 c.in_ok-function.function c.in_ok-function.ensures.interned) c.in_ok-constants.ensures.interns

pub returns-clause-signature : goal.returns-clause-signature
returns-clause-signature c = subst (IsSignature c.constants.new.symbols) (sym (rw c.as_slice-2.ensures.value at c.in_ok-signature.ensures)) (signature_has c.constants.new.symbols c.in_ok-function.function (symbol_later c.intern.new.self c.constants.new.symbols c.in_ok-function.function function_name 1 c.in_ok-constants.ensures.grows c.in_ok-function.ensures.interned.0) c.args.n c.requires.most c.in_ok-constants.constants.items c.requires.some c.in_ok-constants.ensures.are)

pub returns-clause-grows : goal.returns-clause-grows
returns-clause-grows c = Grows-trans c.args.symbols.now c.intern.new.self c.constants.new.symbols (interned_grows c.args.symbols.now c.intern.new.self function_name 1 c.in_ok-function.function c.in_ok-function.ensures.interned) c.in_ok-constants.ensures.grows
