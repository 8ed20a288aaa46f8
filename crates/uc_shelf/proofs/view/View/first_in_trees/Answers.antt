use Rattle.std.proofs.Common.{◌≡◌, ◌+◌, Some, None, List, false, length, take, drop, sym, ap, ◌∙◌, subst, arith}
use Rattle.uc_term.specs.Flat.{tree_of}
use Rattle.uc_fact.specs.declared.index.Found.{Found}
use Rattle.uc_fact.specs.Live.{rules_of}
use Rattle.uc_fact.specs.Retrieval.{FirstThat, IsFound}
use Rattle.uc_disc.specs.Numbered.{risen}
use Rattle.uc_shelf.specs.declared.entry.Entry.{Entry}
use Rattle.uc_shelf.specs.Entries.{born, is_dead, live, living}
use Rattle.uc_shelf.specs.Segments.{Stretch, entries_of}
use Rattle.uc_shelf.specs.Viewing.{still_living}
use Rattle.uc_shelf.proofs.Alive.{first_living, living_found}
use Rattle.uc_shelf.proofs.Segmented.{rules_here, rules_end}
use Rattle.uc_shelf.proofs.Viewed.{answered, passes_on, passes_here, found_here, none_passes}
use Rattle.uc_shelf.proofs.view.View.first_in_trees.Goals as goal

pub first_that-requires-clause-can : goal.first_that-requires-clause-can
first_that-requires-clause-can g c found from to i alive =
    let ps = c.segments-segments.result.now in
    let es = entries_of ps in
    let k = c.loop-k.k in
    let p = c.index-segments-k.result in
    let t = tree_of c.args.term.now in
    let fs = risen 0 c.tree.result.now in
    let of : fs ≡ living p.value.entries p.value.base p.value.entries = c.tree.ensures ∙ ap (λ (s : Stretch). living s.entries s.base s.entries) c.deref.ensures in
    let self : c.args.self.now ≡ es = sym c.self.view_is ∙ sym c.segments-segments.ensures.entries in
    let at = rules_here ps k p fs c.segments-segments.ensures.based c.loop-k-test.true c.index-segments-k.is of in
    let a : is_dead es found.fact ≡ false = ap (λ z. is_dead z found.fact) c.segments-segments.ensures.entries ∙ alive in
    let here : IsFound t (rules_of (live es)) found from to = found_here t (g.T.Test.accepts c.args.test.now) (rules_of (live es)) (rules_of (living es (length (born (entries_of (take k ps)))) (entries_of (drop k ps)))) (rules_of (still_living es fs)) (rules_of (living es (length (born (entries_of (take (k + 1) ps)))) (entries_of (drop (k + 1) ps)))) found from to at c.loop-k.invariant (living_found es t fs found from to a i) in
    c.requires.can found from to (subst (λ z. IsFound t (rules_of (live z)) found from to) (sym self) here)

pub returns-in-Some : goal.returns-in-Some
returns-in-Some g c =
    let ps = c.segments-segments.result.now in
    let es = entries_of ps in
    let k = c.loop-k.k in
    let p = c.index-segments-k.result in
    let t = tree_of c.args.term.now in
    let A = g.T.Test.accepts c.args.test.now in
    let fs = risen 0 c.tree.result.now in
    let of : fs ≡ living p.value.entries p.value.base p.value.entries = c.tree.ensures ∙ ap (λ (s : Stretch). living s.entries s.base s.entries) c.deref.ensures in
    let self : c.args.self.now ≡ es = sym c.self.view_is ∙ sym c.segments-segments.ensures.entries in
    let front = c.self.inside.front.now.entries in
    let at = rules_here ps k p fs c.segments-segments.ensures.based c.loop-k-test.true c.index-segments-k.is of in
    let tree : FirstThat (λ (f : Found). (is_dead front f.fact ≡ false) × A f) t (rules_of fs) (Some c.in-Some.found) = answered (λ (f : Found). (is_dead front f.fact ≡ false) × A f) t (rules_of fs) c.in_ok-found.field-0 (Some c.in-Some.found) c.in-Some.is c.in_ok-found.ensures.value in
    let both : FirstThat (λ (f : Found). (is_dead es f.fact ≡ false) × A f) t (rules_of fs) (Some c.in-Some.found) = subst (λ (z : List Entry). FirstThat (λ (f : Found). (is_dead z f.fact ≡ false) × A f) t (rules_of fs) (Some c.in-Some.found)) (sym c.segments-segments.ensures.entries) tree in
    let all : FirstThat A t (rules_of (live es)) (Some c.in-Some.found) = passes_here t A (rules_of (live es)) (rules_of (living es (length (born (entries_of (take k ps)))) (entries_of (drop k ps)))) (rules_of (still_living es fs)) (rules_of (living es (length (born (entries_of (take (k + 1) ps)))) (entries_of (drop (k + 1) ps)))) c.in-Some.found at (first_living es t A fs (Some c.in-Some.found) both) c.loop-k.invariant in
    subst (λ z. FirstThat A t (rules_of (live z)) (Some c.in-Some.found)) (sym self) all

pub loop-k-preserved : goal.loop-k-preserved
loop-k-preserved g c =
    let ps = c.segments-segments.result.now in
    let es = entries_of ps in
    let k = c.loop-k.k in
    let p = c.index-segments-k.result in
    let t = tree_of c.args.term.now in
    let A = g.T.Test.accepts c.args.test.now in
    let fs = risen 0 c.tree.result.now in
    let of : fs ≡ living p.value.entries p.value.base p.value.entries = c.tree.ensures ∙ ap (λ (s : Stretch). living s.entries s.base s.entries) c.deref.ensures in
    let front = c.self.inside.front.now.entries in
    let at = rules_here ps k p fs c.segments-segments.ensures.based c.loop-k-test.true c.index-segments-k.is of in
    let tree : FirstThat (λ (f : Found). (is_dead front f.fact ≡ false) × A f) t (rules_of fs) None = answered (λ (f : Found). (is_dead front f.fact ≡ false) × A f) t (rules_of fs) c.in_ok-found.field-0 None c.in_default.is c.in_ok-found.ensures.value in
    let both : FirstThat (λ (f : Found). (is_dead es f.fact ≡ false) × A f) t (rules_of fs) None = subst (λ (z : List Entry). FirstThat (λ (f : Found). (is_dead z f.fact ≡ false) × A f) t (rules_of fs) None) (sym c.segments-segments.ensures.entries) tree in
    passes_on t A (rules_of (live es)) (rules_of (living es (length (born (entries_of (take k ps)))) (entries_of (drop k ps)))) (rules_of (still_living es fs)) (rules_of (living es (length (born (entries_of (take (k + 1) ps)))) (entries_of (drop (k + 1) ps)))) at (first_living es t A fs None both) c.loop-k.invariant

pub returns : goal.returns
returns g c =
    let ps = c.segments-segments.result.now in
    let es = entries_of ps in
    let k = c.loop-k.k in
    let t = tree_of c.args.term.now in
    let A = g.T.Test.accepts c.args.test.now in
    let n = length (born (entries_of (take k ps))) in
    let self : c.args.self.now ≡ es = sym c.self.view_is ∙ sym c.segments-segments.ensures.entries in
    let all : FirstThat A t (rules_of (live es)) None = none_passes t A (rules_of (live es)) (rules_of (living es n (entries_of (drop k ps)))) (rules_end ps k n es (omega (arith, c.loop-k-test.false))) c.loop-k.invariant in
    subst (λ z. FirstThat A t (rules_of (live z)) None) (sym self) all
