use Rattle.std.proofs.Common.{sym, subst, ◌∙◌}
use Rattle.uc_clause.specs.Rules.{Stops}
use Rattle.uc_clause.specs.Items as items
use Rattle.uc_certificate.specs.JoinLines as rules
use Rattle.uc_certificate.proofs.JoinTerms.{stop_foreign, stop_known}
use Rattle.uc_certificate.proofs.terms.stop_in.Goals as goal

pub returns-in-Some : goal.returns-in-Some
returns-in-Some c = stop_foreign c.args.bytes.now c.args.tokens.now c.args.from c.in-At.at c.in-Some.foreign c.in-At.why (subst (Stops (items.term c.args.bytes.now c.args.tokens.now c.args.from)) c.in-At.is c.requires.stops) (sym c.first_foreign.ensures ∙ c.in-Some.is)

pub returns-in-None : goal.returns-in-None
returns-in-None c = subst (Stops (rules.term c.args.bytes.now c.args.tokens.now c.args.from)) (sym c.at_first.ensures) (stop_known c.args.bytes.now c.args.tokens.now c.args.from c.in-At.at c.in-At.why (subst (Stops (items.term c.args.bytes.now c.args.tokens.now c.args.from)) c.in-At.is c.requires.stops) (sym c.first_foreign.ensures ∙ c.in-None.is))
