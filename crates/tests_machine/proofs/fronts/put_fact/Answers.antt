use Rattle.std.proofs.Common.{◌≡◌, ◌+◌, List, [], ◌∷◌, ◌++◌, length, ap, ◌∙◌, length-append}
use Rattle.uc_fact.specs.declared.fact.Fact.{Fact}
use Rattle.uc_shelf.specs.declared.entry.Entry.{Entry}
use Rattle.uc_shelf.specs.declared.entry.Entry.TheVariants.{Born}
use Rattle.uc_shelf.specs.Entries.{born}
use Rattle.uc_machine.proofs.Blocks.{born-append}
use Rattle.tests_machine.proofs.fronts.put_fact.Goals as goal

one_more_born : (es new : List Entry) (f : Fact) → new ≡ es ++ Born f ∷ [] → length (born new) ≡ length (born es) + 1
one_more_born es new f e = ap (λ l. length (born l)) e ∙ ap length (born-append es (Born f ∷ [])) ∙ length-append (born es) (f ∷ [])

pub returns-clause-one : goal.returns-clause-one
returns-clause-one g c = one_more_born c.args.front.now.entries c.put.new.front.entries _ c.in_ok-put.ensures.more
