use Rattle.std.proofs.Common.{◌++◌, ◌∷◌, [], ◌∙◌, ap}
use Rattle.uc_shelf.specs.Sights.{Sight}
use Rattle.uc_shelf.specs.declared.entry.Entry.TheVariants.{Born}
use Rattle.uc_book.proofs.Steady.{with_facts}
use Rattle.uc_book.proofs.parts.Parts.with_birth.Goals as goal

pub returns-in_err-reserve-clause-steady : goal.returns-in_err-reserve-clause-steady
returns-in_err-reserve-clause-steady g c = with_facts c.args.self.now c.reserve.new.self c.reserve.ensures.front c.reserve.ensures.meetings

pub returns-in_err-front-clause-steady : goal.returns-in_err-front-clause-steady
returns-in_err-front-clause-steady g c = with_facts c.args.self.now c.reserve.new.self c.reserve.ensures.front c.reserve.ensures.meetings

pub returns-in_err-publish-clause-steady : goal.returns-in_err-publish-clause-steady
returns-in_err-publish-clause-steady g c = with_facts c.args.self.now c.reserve.new.self c.reserve.ensures.front c.reserve.ensures.meetings

pub returns-clause-steady : goal.returns-clause-steady
returns-clause-steady g c = with_facts c.args.self.now c.reserve.new.self c.reserve.ensures.front c.reserve.ensures.meetings

pub returns-clause-entries : goal.returns-clause-entries
returns-clause-entries g c =
    c.in_ok-publish.ensures.ok ∙ ap (λ (x : Sight). x.entries ++ Born c.args.fact ∷ []) (c.in_ok-front.ensures ∙ c.front-2.ensures ∙ c.reserve.ensures.front)
