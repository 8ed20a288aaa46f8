use Rattle.std.proofs.Common.{◌≡◌, List, Some, None, Option, sym, subst}
use Rattle.uc_term.specs.declared.node.Node.{Node}
use Rattle.uc_term.specs.Tree.{Tree}
use Rattle.uc_term.specs.Variables.{Occurs}
use Rattle.uc_term.specs.Flat.{tree_of, IsWhole}
use Rattle.uc_fact.specs.declared.index.Found.{Found}
use Rattle.uc_fact.specs.Live.{Rule, rules_of}
use Rattle.uc_fact.specs.Retrieval.{FirstThat}
use Rattle.uc_rewrite.specs.Completed.{LeadsDown}
use Rattle.uc_rewrite.proofs.Advancing.{complete}
use Rattle.uc_rewrite.proofs.walk.Walk.leave.Goals as goal

-- what was found, of an equal list and with an equal answer
moved : (Down : Tree → Found → Type 0) (rules : List Rule) (ns ms : List Node) (a b : Option Found) → ns ≡ ms → a ≡ b → FirstThat (Down (tree_of ns)) (tree_of ns) rules a → FirstThat (Down (tree_of ms)) (tree_of ms) rules b
moved Down rules ns ms a b e f h = subst (λ z. FirstThat (Down (tree_of ms)) (tree_of ms) rules z) f (subst (λ l. FirstThat (Down (tree_of l)) (tree_of l) rules a) e h)

pub part-term-requires-clause-order : goal.part-term-requires-clause-order
part-term-requires-clause-order g c = (complete (g.C.Comparison.greater c.args.rules.now.comparison.now) (g.C.Comparison.constant c.args.rules.now.comparison.now) (g.I.Index.live c.args.rules.now.index.now) c.args.list.now c.requires.whole c.args.self.now.opened.items c.args.top c.args.self.now.place (g.met.I.Index.rising c.args.rules.now.index.now) c.requires.none c.requires.walks).order

pub part-term-requires-clause-within : goal.part-term-requires-clause-within
part-term-requires-clause-within g c = (complete (g.C.Comparison.greater c.args.rules.now.comparison.now) (g.C.Comparison.constant c.args.rules.now.comparison.now) (g.I.Index.live c.args.rules.now.index.now) c.args.list.now c.requires.whole c.args.self.now.opened.items c.args.top c.args.self.now.place (g.met.I.Index.rising c.args.rules.now.index.now) c.requires.none c.requires.walks).within

pub first_possible-requires-clause-whole : goal.first_possible-requires-clause-whole
first_possible-requires-clause-whole g c = subst IsWhole (sym c.part-term.ensures) (complete (g.C.Comparison.greater c.args.rules.now.comparison.now) (g.C.Comparison.constant c.args.rules.now.comparison.now) (g.I.Index.live c.args.rules.now.index.now) c.args.list.now c.requires.whole c.args.self.now.opened.items c.args.top c.args.self.now.place (g.met.I.Index.rising c.args.rules.now.index.now) c.requires.none c.requires.walks).whole

pub first_possible-requires-clause-known : goal.first_possible-requires-clause-known
first_possible-requires-clause-known g c x o = c.requires.known x ((complete (g.C.Comparison.greater c.args.rules.now.comparison.now) (g.C.Comparison.constant c.args.rules.now.comparison.now) (g.I.Index.live c.args.rules.now.index.now) c.args.list.now c.requires.whole c.args.self.now.opened.items c.args.top c.args.self.now.place (g.met.I.Index.rising c.args.rules.now.index.now) c.requires.none c.requires.walks).none_new x (subst (λ ns. Occurs x (tree_of ns)) c.part-term.ensures o))

pub returns-in-Some : goal.returns-in-Some
returns-in-Some g c = (complete (g.C.Comparison.greater c.args.rules.now.comparison.now) (g.C.Comparison.constant c.args.rules.now.comparison.now) (g.I.Index.live c.args.rules.now.index.now) c.args.list.now c.requires.whole c.args.self.now.opened.items c.args.top c.args.self.now.place (g.met.I.Index.rising c.args.rules.now.index.now) c.requires.none c.requires.walks).stops c.in-Some.found (moved (LeadsDown (g.C.Comparison.greater c.args.rules.now.comparison.now) (g.C.Comparison.constant c.args.rules.now.comparison.now) (g.I.Index.live c.args.rules.now.index.now)) (rules_of (g.I.Index.live c.args.rules.now.index.now)) c.part-term.result.now _ c.in_ok-found.field-0 (Some c.in-Some.found) c.part-term.ensures c.in-Some.is c.in_ok-found.ensures)

pub returns-in-None : goal.returns-in-None
returns-in-None g c = (complete (g.C.Comparison.greater c.args.rules.now.comparison.now) (g.C.Comparison.constant c.args.rules.now.comparison.now) (g.I.Index.live c.args.rules.now.index.now) c.args.list.now c.requires.whole c.args.self.now.opened.items c.args.top c.args.self.now.place (g.met.I.Index.rising c.args.rules.now.index.now) c.requires.none c.requires.walks).leaves (moved (LeadsDown (g.C.Comparison.greater c.args.rules.now.comparison.now) (g.C.Comparison.constant c.args.rules.now.comparison.now) (g.I.Index.live c.args.rules.now.index.now)) (rules_of (g.I.Index.live c.args.rules.now.index.now)) c.part-term.result.now _ c.in_ok-found.field-0 None c.part-term.ensures c.in-None.is c.in_ok-found.ensures)
