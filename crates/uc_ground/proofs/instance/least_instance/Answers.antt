use Rattle.std.proofs.Common.{◌≡◌, List, Some, None, Option, subst}
use Rattle.uc_term.specs.Flat.{tree_of}
use Rattle.uc_term.specs.Tree.{Tree}
use Rattle.uc_fact.specs.declared.index.Found.{Found}
use Rattle.uc_fact.specs.Live.{Live, AreRising, rules_of}
use Rattle.uc_fact.specs.Retrieval.{FirstThat}
use Rattle.uc_ground.specs.Joining.{IsLeastInstance, IsNoInstance}
use Rattle.uc_ground.proofs.Least.{Passes, least_found, none_found}
use Rattle.uc_ground.proofs.instance.least_instance.Goals as goal

at_some : (live : List Live) (s t u : Tree) (o : Option Found) (found : Found) → AreRising live → u ≡ s → o ≡ Some found → FirstThat (Passes live s t) u (rules_of live) o → IsLeastInstance live s t found.fact
at_some live s t u o found r e f h = least_found live s t r found (subst (λ z. FirstThat (Passes live s t) s (rules_of live) z) f (subst (λ z. FirstThat (Passes live s t) z (rules_of live) o) e h))

at_none : (live : List Live) (s t u : Tree) (o : Option Found) → AreRising live → u ≡ s → o ≡ None → FirstThat (Passes live s t) u (rules_of live) o → IsNoInstance live s t
at_none live s t u o r e f h = none_found live s t r (subst (λ z. FirstThat (Passes live s t) s (rules_of live) z) f (subst (λ z. FirstThat (Passes live s t) z (rules_of live) o) e h))

pub returns-in-Some : goal.returns-in-Some
returns-in-Some g c = at_some (g.I.Index.live c.args.index.now) c.args.s.now c.args.t.now (tree_of c.as_nodes.result.now) c.in_ok-found.field-0 c.in-Some.found (g.met.I.Index.rising c.args.index.now) c.as_nodes.ensures.tree c.in-Some.is c.in_ok-found.ensures.value

pub returns-in-None : goal.returns-in-None
returns-in-None g c = at_none (g.I.Index.live c.args.index.now) c.args.s.now c.args.t.now (tree_of c.as_nodes.result.now) c.in_ok-found.field-0 (g.met.I.Index.rising c.args.index.now) c.as_nodes.ensures.tree c.in-None.is c.in_ok-found.ensures.value
