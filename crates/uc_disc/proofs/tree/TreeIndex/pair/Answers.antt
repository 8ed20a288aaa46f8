use Rattle.std.proofs.Common.{◌≡◌, ◌∙◌, sym, ap, subst, Some, List, ℕ}
use Rattle.std.proofs.lemmas.Option.{slice_get-get_or}
use Rattle.uc_term.specs.declared.equation.Equation.{Equation}
use Rattle.uc_fact.specs.Live.{Live, AreRising, fact_at}
use Rattle.uc_disc.specs.Numbered.{lives, risen}
use Rattle.uc_disc.specs.Rising.{risen_same}
use Rattle.uc_disc.proofs.Telling.{fact_here, fact_past, fact_between}
use Rattle.uc_disc.proofs.tree.TreeIndex.pair.Goals as goal

pub returns-then-place-facts : goal.returns-then-place-facts
returns-then-place-facts c =
    let v = c.self.view_is in
    let same : risen 0 c.args.self.now ≡ lives c.as_slice-facts.result.now = ap (risen 0) (let z : c.args.self.now ≡ c.self.inside.facts.items = cc in z) ∙ risen_same 0 c.self.inside.facts.items c.self.invariant.0 ∙ ap lives (sym c.as_slice-facts.ensures.value) in
    ap (λ (z : List Live). fact_at z c.args.fact) same ∙ fact_past c.as_slice-facts.result.now c.place_of-place.result c.args.fact c.if-place-facts.true c.place_of-place.ensures.below

pub returns-then-found-fact : goal.returns-then-found-fact
returns-then-found-fact c =
    let v = c.self.view_is in
    let same : risen 0 c.args.self.now ≡ lives c.as_slice-facts.result.now = ap (risen 0) (let z : c.args.self.now ≡ c.self.inside.facts.items = cc in z) ∙ risen_same 0 c.self.inside.facts.items c.self.invariant.0 ∙ ap lives (sym c.as_slice-facts.ensures.value) in
    let rising : AreRising (lives c.as_slice-facts.result.now) = subst (λ (z : List (ℕ × Equation)). AreRising (lives z)) (sym c.as_slice-facts.ensures.value) c.self.invariant.0 in
    ap (λ (z : List Live). fact_at z c.args.fact) same ∙ fact_between c.as_slice-facts.result.now c.place_of-place.result c.args.fact c.index-facts-place.result rising (slice_get-get_or c.as_slice-facts.result.now c.place_of-place.result c.index-facts-place.result c.if-place-facts.false ∙ ap Some (sym c.index-facts-place.is)) c.if-found-fact.true c.place_of-place.ensures.below c.place_of-place.ensures.not_below

pub returns : goal.returns
returns c =
    let v = c.self.view_is in
    let same : risen 0 c.args.self.now ≡ lives c.as_slice-facts.result.now = ap (risen 0) (let z : c.args.self.now ≡ c.self.inside.facts.items = cc in z) ∙ risen_same 0 c.self.inside.facts.items c.self.invariant.0 ∙ ap lives (sym c.as_slice-facts.ensures.value) in
    ap (λ (z : List Live). fact_at z c.args.fact) same ∙ fact_here c.as_slice-facts.result.now c.args.fact c.place_of-place.result c.index-facts-place.result (slice_get-get_or c.as_slice-facts.result.now c.place_of-place.result c.index-facts-place.result c.if-place-facts.false ∙ ap Some (sym c.index-facts-place.is)) c.if-found-fact.false c.place_of-place.ensures.below
