use Rattle.std.proofs.Common.{◌∙◌, ◌++◌, ap}
use Rattle.std.proofs.lemmas.List.Filters.{dedup_is}
use Rattle.uc_term.specs.Variables.{variables}
use Rattle.uc_ground.proofs.Rising.{variables_are}
use Rattle.uc_certify.proofs.variables.rising_variables.Goals as goal

pub returns-clause-are : goal.returns-clause-are
returns-clause-are c = variables_are c.args.s.now c.args.t.now c.add_variables-2.new.vars.items c.sort_unstable.new.self.items c.dedup.new.self.items (c.in_ok-add_variables-2.ensures.all ∙ ap (λ l. l ++ variables c.args.t.now) (c.in_ok-add_variables.ensures.all ∙ ap (λ l. l ++ variables c.args.s.now) c.new-vars.ensures.items)) c.sort_unstable.ensures.permutation c.sort_unstable.ensures.sorted (dedup_is _ c.sort_unstable.new.self.items c.dedup.new.self.items c.dedup.ensures.filtered)
