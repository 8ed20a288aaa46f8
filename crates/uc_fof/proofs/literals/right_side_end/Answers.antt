use Rattle.std.proofs.Common.{refl}
use Rattle.uc_fof.specs.Rules.{is_first, is_second}
use Rattle.uc_fof.specs.Formulas as formulas
use Rattle.uc_fof.proofs.Sequences.{passes_more}
use Rattle.uc_fof.proofs.literals.right_side_end.Goals as goal

pub returns-then-is_mark : goal.returns-then-is_mark
returns-then-is_mark c = is_first c.if-is_mark.ensures refl

pub returns : goal.returns
returns c = passes_more (formulas.term c.args.bytes.now c.args.tokens.now c.args.conjecture c.args.bound.now c.args.from) (formulas.right_side c.args.bytes.now c.args.tokens.now c.args.conjecture c.args.bound.now c.args.from) (λ v. v) c.term_end.result (λ v end h. is_second c.if-is_mark.ensures h) (λ r k h. is_second c.if-is_mark.ensures h) c.term_end.ensures
