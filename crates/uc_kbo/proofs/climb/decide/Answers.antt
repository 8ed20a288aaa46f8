use Rattle.std.proofs.Common.{refl}
use Rattle.uc_kbo.proofs.Parts.{to_sums}
use Rattle.uc_kbo.proofs.climb.decide.Goals as goal

pub returns-then-has_all-clause-greater : goal.returns-then-has_all-clause-greater
returns-then-has_all-clause-greater c = (λ _. (c.if-has_all.ensures.0 refl, to_sums _ _ _ _ c.requires.a.weight c.requires.b.weight (c.heavier-way.ensures.greater.0 c.in-Greater.is)), λ _. refl)

pub returns-then-has_all-2-clause-less : goal.returns-then-has_all-2-clause-less
returns-then-has_all-2-clause-less c = (λ _. (c.if-has_all-2.ensures.0 refl, to_sums _ _ _ _ c.requires.b.weight c.requires.a.weight (c.heavier-way.ensures.less.0 c.in-Less.is)), λ _. refl)
