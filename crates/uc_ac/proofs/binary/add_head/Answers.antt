use Rattle.std.proofs.Common.{◌∙◌, ◌++◌, [], ◌∷◌, sym, ap, append-nil}
use Rattle.uc_term.specs.declared.node.Node.{Node}
use Rattle.uc_ac.specs.Found.{binary_heads}
use Rattle.uc_ac.proofs.Heading.{two_head, other_head}
use Rattle.uc_ac.proofs.binary.add_head.Goals as goal

pub returns-in-Var : goal.returns-in-Var
returns-in-Var c = sym (append-nil c.args.numbers.now.items) ∙ ap (λ (n : Node). c.args.numbers.now.items ++ binary_heads (n ∷ [])) (sym c.in-Var.is)

pub returns-then-n-ne2 : goal.returns-then-n-ne2
returns-then-n-ne2 c = sym (append-nil c.args.numbers.now.items) ∙ ap (λ l. c.args.numbers.now.items ++ l) (sym (ap (λ (n : Node). binary_heads (n ∷ [])) c.in-App.is ∙ other_head c.in-App.f c.in-App.n c.if-n-ne2.true))

pub returns-in_ok-push-in-App : goal.returns-in_ok-push-in-App
returns-in_ok-push-in-App c = c.in_ok-push-in-App.ensures.items ∙ ap (λ l. c.args.numbers.now.items ++ l) (sym (ap (λ (n : Node). binary_heads (n ∷ [])) c.in-App.is ∙ two_head c.in-App.f c.in-App.n c.if-n-ne2.false))
