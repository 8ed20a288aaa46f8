use Rattle.std.proofs.Common.{refl}
use Rattle.uc_fof.specs.Rules.{is_first, is_second}
use Rattle.uc_fof.specs.Formulas as formulas
use Rattle.uc_fof.proofs.Sequences.{passes_more}
use Rattle.uc_fof.proofs.literals.denied_end.Goals as goal

pub returns-then-is_mark : goal.returns-then-is_mark
returns-then-is_mark c = is_first c.if-is_mark.ensures refl

pub returns-then-stands_at : goal.returns-then-stands_at
returns-then-stands_at c = passes_more (formulas.equals_in_brackets c.args.bytes.now c.args.tokens.now c.args.conjecture c.args.bound.now c.args.from) (formulas.denied c.args.bytes.now c.args.tokens.now c.args.conjecture c.args.bound.now c.args.from) (λ v. v) c.bracketed_end.result (λ v end h. is_second c.if-is_mark.ensures (is_first c.if-stands_at.ensures h)) (λ r k h. is_second c.if-is_mark.ensures (is_first c.if-stands_at.ensures h)) c.bracketed_end.ensures

pub returns-else-stands_at : goal.returns-else-stands_at
returns-else-stands_at c = passes_more (formulas.equals c.args.bytes.now c.args.tokens.now c.args.conjecture c.args.bound.now c.args.from) (formulas.denied c.args.bytes.now c.args.tokens.now c.args.conjecture c.args.bound.now c.args.from) (λ v. v) c.equals_end.result (λ v end h. is_second c.if-is_mark.ensures (is_second c.if-stands_at.ensures h)) (λ r k h. is_second c.if-is_mark.ensures (is_second c.if-stands_at.ensures h)) c.equals_end.ensures
