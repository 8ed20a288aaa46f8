use Rattle.std.proofs.Common.{◌≡◌, ◌++◌, [], ◌∷◌, List, Option, Some, None, MatchOption, subst, sym}
use Rattle.uc_term.specs.declared.node.Sym.{Sym}
use Rattle.uc_fact.specs.Live.{Live}
use Rattle.uc_fact.specs.declared.ac_facts.AcFacts.{AcFacts}
use Rattle.uc_ac.specs.Joining.{AreLeastFacts, IsAcSymbol}
use Rattle.uc_ac.specs.Found.{AddsFacts, adds_facts, adds_none}
use Rattle.uc_ac.proofs.joining.add_facts.Goals as goal

module _ (live : List Live) (f : Sym) (old new : List AcFacts) where
  at_some : (o : Option AcFacts) (facts : AcFacts) → MatchOption o (IsAcSymbol live f → ⊥) (λ facts. (facts.symbol ≡ f) × AreLeastFacts live facts) → o ≡ Some facts → new ≡ old ++ facts ∷ [] → AddsFacts live f old new
  at_some o facts h e is = let k = subst (λ z. MatchOption z (IsAcSymbol live f → ⊥) (λ facts. (facts.symbol ≡ f) × AreLeastFacts live facts)) e h in subst (AddsFacts live f old) (sym is) (adds_facts k.0 k.1)

  at_none : (o : Option AcFacts) → MatchOption o (IsAcSymbol live f → ⊥) (λ facts. (facts.symbol ≡ f) × AreLeastFacts live facts) → o ≡ None → AddsFacts live f old old
  at_none o h e = adds_none (subst (λ z. MatchOption z (IsAcSymbol live f → ⊥) (λ facts. (facts.symbol ≡ f) × AreLeastFacts live facts)) e h)

pub returns-in_ok-push-in-Some : goal.returns-in_ok-push-in-Some
returns-in_ok-push-in-Some g c = at_some (g.I.Index.live c.args.index.now) c.args.f c.args.list.now.items c.push.new.self.items c.in_ok-facts.field-0 c.in-Some.facts c.in_ok-facts.ensures c.in-Some.is c.in_ok-push-in-Some.ensures.items

pub returns-in-None : goal.returns-in-None
returns-in-None g c = at_none (g.I.Index.live c.args.index.now) c.args.f c.args.list.now.items c.args.list.now.items c.in_ok-facts.field-0 c.in_ok-facts.ensures c.in-None.is
