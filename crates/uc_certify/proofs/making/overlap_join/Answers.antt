use Rattle.std.proofs.Common.{◌≡◌, ◌∙◌, List, refl, sym, subst}
use Rattle.uc_term.specs.declared.equation.Equation.{Equation}
use Rattle.uc_fact.specs.declared.fact.Overlap.{Overlap}
use Rattle.uc_fact.specs.Live.{Live}
use Rattle.uc_pair.specs.declared.formation.Formation.{Formation}
use Rattle.uc_pair.specs.declared.formation.Formation.TheVariants.{Pair, TooLarge}
use Rattle.uc_pair.specs.Overlapping.{read_from}
use Rattle.uc_pair.specs.Pairs.{IsPairOf}
use Rattle.uc_pair.proofs.OnePair.{large_by_size}
use Rattle.uc_certificate.specs.declared.certificate.Join.{Join}
use Rattle.uc_certify.specs.declared.expected.Member.TheVariants as member
use Rattle.uc_certify.specs.Joining.{Names, of_overlap}
use Rattle.uc_certify.specs.Making.{AreFoundJoined, IsMade, NamesIt, IsMadeFor}
use Rattle.uc_certify.proofs.MadeJoins.{both_ok, get_is, names_overlap}
use Rattle.uc_certify.proofs.making.overlap_join.Goals as goal

paired : (a b x y : Equation) (o : Overlap) (f h : Formation) → a ≡ x → b ≡ y → f ≡ h → IsPairOf a b o f → IsPairOf x y o h
paired a b x y o f h p q r i = subst (IsPairOf x y o) r (subst (λ (z : Equation). IsPairOf x z o f) q (subst (λ (z : Equation). IsPairOf z b o f) p i))

pub join_of-requires : goal.join_of-requires
join_of-requires g c =
    let m = g.O.Order.meaning c.args.order.now in
    let known = c.requires.known in
    let a : c.index-facts-formed.result ≡ known.outer = c.index-facts-formed.is ∙ get_is c.args.facts.now c.args.formed.overlap.outer known.outer _ known.outer_is in
    let b : c.index-facts-formed-2.result ≡ known.inner = c.index-facts-formed-2.is ∙ get_is c.args.facts.now c.args.formed.overlap.inner known.inner _ known.inner_is in
    let pair = paired c.index-facts-formed.result c.index-facts-formed-2.result known.outer known.inner c.args.formed.overlap c.in_ok-left.field-0 (Pair c.in-Pair.left c.in-Pair.right c.in-Pair.chain) a b c.in-Pair.is c.in_ok-left.ensures.pair in
    subst (λ (l : List Live). AreFoundJoined m l c.in-Pair.left c.in-Pair.right) (sym c.requires.index) (c.requires.joined.1.joined c.in-Pair.left c.in-Pair.right (of_overlap known.outer_is known.inner_is pair))

pub unreachable-requires : goal.unreachable-requires
unreachable-requires g c =
    let known = c.requires.known in
    let a : c.index-facts-formed.result ≡ known.outer = c.index-facts-formed.is ∙ get_is c.args.facts.now c.args.formed.overlap.outer known.outer _ known.outer_is in
    let b : c.index-facts-formed-2.result ≡ known.inner = c.index-facts-formed-2.is ∙ get_is c.args.facts.now c.args.formed.overlap.inner known.inner _ known.inner_is in
    let pair = paired c.index-facts-formed.result c.index-facts-formed-2.result known.outer known.inner c.args.formed.overlap c.in_ok-left.field-0 TooLarge a b c.in-TooLarge.is c.in_ok-left.ensures.pair in
    let o = c.args.formed.overlap in
    c.requires.joined.1.small ((large_by_size (read_from o.outer o.outer_side known.outer) (read_from o.inner o.inner_side known.inner) o.position.0 known.formed_is.overlaps c.args.formed.size TooLarge known.formed_is.has_size pair).0 refl)

pub returns : goal.returns
returns g c =
    let m = g.O.Order.meaning c.args.order.now in
    let known = c.requires.known in
    let a : c.index-facts-formed.result ≡ known.outer = c.index-facts-formed.is ∙ get_is c.args.facts.now c.args.formed.overlap.outer known.outer _ known.outer_is in
    let b : c.index-facts-formed-2.result ≡ known.inner = c.index-facts-formed-2.is ∙ get_is c.args.facts.now c.args.formed.overlap.inner known.inner _ known.inner_is in
    let pair = paired c.index-facts-formed.result c.index-facts-formed-2.result known.outer known.inner c.args.formed.overlap c.in_ok-left.field-0 (Pair c.in-Pair.left c.in-Pair.right c.in-Pair.chain) a b c.in-Pair.is c.in_ok-left.ensures.pair in
    let names = subst (λ (x : Equation). NamesIt c.args.formed.overlap x c.in_ok-what.what) a c.in_ok-what.ensures in
    both_ok c.join_of.result (λ (j : Join). j.what ≡ c.in_ok-what.what) (IsMade m (g.I.Index.live c.args.index.now) c.in-Pair.left c.in-Pair.right) (λ (j : Join). (axioms : List Equation) → IsMadeFor m c.args.facts.now axioms (member.Overlap c.args.formed) j)
    (λ j e made axioms. record {
      names = subst (Names c.args.facts.now (member.Overlap c.args.formed)) (sym e) (names_overlap m c.args.facts.now axioms c.args.formed known.outer c.in_ok-what.what known.outer_is names);
      left = c.in-Pair.left;
      right = c.in-Pair.right;
      sides = of_overlap known.outer_is known.inner_is pair;
      made = subst (λ (l : List Live). IsMade m l c.in-Pair.left c.in-Pair.right j) c.requires.index made;
    })
    c.join_of.ensures.what c.join_of.ensures.made
