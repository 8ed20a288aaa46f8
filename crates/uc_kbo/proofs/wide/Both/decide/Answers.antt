use Rattle.std.proofs.Common.{refl}
use Rattle.uc_kbo.specs.Runs.{part}
use Rattle.uc_kbo.proofs.Parts.{to_sums}
use Rattle.uc_kbo.proofs.Balancing.{first_covers, second_covers}
use Rattle.uc_kbo.proofs.wide.Both.decide.Goals as goal

pub returns-then-self-eq0-clause-greater : goal.returns-then-self-eq0-clause-greater
returns-then-self-eq0-clause-greater c asked f =
    let h = first_covers (part c.args.s.now c.args.self.now.first.from c.args.self.now.first.to) (part c.args.t.now c.args.self.now.second.from c.args.self.now.second.to) c.args.self.now.balance c.requires.balance asked f in
    (λ _. (h.0 c.if-self-eq0.true, to_sums _ _ _ _ c.requires.first.weight c.requires.second.weight (c.heavier.ensures.greater.0 c.in-Greater.is)), λ _. refl)

pub returns-else-self-eq0-clause-greater : goal.returns-else-self-eq0-clause-greater
returns-else-self-eq0-clause-greater c asked f =
    let h = first_covers (part c.args.s.now c.args.self.now.first.from c.args.self.now.first.to) (part c.args.t.now c.args.self.now.second.from c.args.self.now.second.to) c.args.self.now.balance c.requires.balance asked f in
    (λ e. cc, λ b. absurd (c.if-self-eq0.false (h.1 b.0)))

pub returns-then-self-eq0-2-clause-less : goal.returns-then-self-eq0-2-clause-less
returns-then-self-eq0-2-clause-less c asked f =
    let h = second_covers (part c.args.s.now c.args.self.now.first.from c.args.self.now.first.to) (part c.args.t.now c.args.self.now.second.from c.args.self.now.second.to) c.args.self.now.balance c.requires.balance asked f in
    (λ _. (h.0 c.if-self-eq0-2.true, to_sums _ _ _ _ c.requires.second.weight c.requires.first.weight (c.heavier.ensures.less.0 c.in-Less.is)), λ _. refl)

pub returns-else-self-eq0-2-clause-less : goal.returns-else-self-eq0-2-clause-less
returns-else-self-eq0-2-clause-less c asked f =
    let h = second_covers (part c.args.s.now c.args.self.now.first.from c.args.self.now.first.to) (part c.args.t.now c.args.self.now.second.from c.args.self.now.second.to) c.args.self.now.balance c.requires.balance asked f in
    (λ e. cc, λ b. absurd (c.if-self-eq0-2.false (h.1 b.0)))
