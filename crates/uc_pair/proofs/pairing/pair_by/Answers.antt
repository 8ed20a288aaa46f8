use Rattle.std.proofs.Common.{◌≡◌, ℕ, Option, Result, Ok, Err, IfOk, sym, subst}
use Rattle.uc_term.specs.Tree.{Tree}
use Rattle.uc_term.specs.Subst.{image}
use Rattle.uc_pair.specs.declared.instances.Placed.{Placed}
use Rattle.uc_pair.specs.Judging.{IsInstance, IsReplaced}
use Rattle.uc_pair.specs.Forming.{IsPairByTerms, IsNumberedPair}
use Rattle.uc_pair.proofs.Replacing.{instance_there, instance_small}
use Rattle.uc_pair.proofs.Forming.{right_gone, pair_from}
use Rattle.uc_pair.proofs.pairing.pair_by.Goals as goal

if_ok : {A E : Type 0} (P Q : A → Type 0) → ((a : A) → P a → Q a) → (r : Result A E) → IfOk r P → IfOk r Q
if_ok P Q f (Ok a) p = f a p
if_ok P Q f (Err e) p = tt

-- what comes of the outer side comes of an equal term
replaced_of : (t t' part : Tree) (place : ℕ) (σ : ℕ → Tree) (whole v : Option Tree) (placed : Option Placed) → t' ≡ t → IsInstance σ t whole → IsInstance σ part v → ((τ : ℕ → Tree) (u : Tree) → IsInstance τ t' whole → IsInstance τ u v → IsReplaced τ t' place u placed) → IsReplaced σ t place part placed
replaced_of t t' part place σ whole v placed e is i f = subst (λ s. IsReplaced σ s place part placed) e (f σ part (subst (λ s. IsInstance σ s whole) (sym e) is) i)

pub returns-in_default-right : goal.returns-in_default-right
returns-in_default-right c = right_gone (image c.args.subst.now) c.args.terms.now.outer_from c.args.terms.now.outer_to c.args.terms.now.inner_to c.args.overlap.now.position.0 c.in_ok-right.right c.in_default-right.not-Some (replaced_of c.args.terms.now.outer_from c.in_ok-outer_from.outer_from c.args.terms.now.inner_to c.args.overlap.now.position.0 (image c.args.subst.now) c.in_ok-peak.peak c.in_ok-part.part c.in_ok-right.right c.in_ok-outer_from.ensures c.in_ok-peak.ensures c.in_ok-part.ensures c.in_ok-right.ensures)

pub returns : goal.returns
returns c =
    let σ = image c.args.subst.now in
    let terms = c.args.terms.now in
    let placed = subst (IsReplaced σ terms.outer_from c.args.overlap.now.position.0 terms.inner_to) c.in-Some-right.is (replaced_of terms.outer_from c.in_ok-outer_from.outer_from terms.inner_to c.args.overlap.now.position.0 σ c.in_ok-peak.peak c.in_ok-part.part c.in_ok-right.right c.in_ok-outer_from.ensures c.in_ok-peak.ensures c.in_ok-part.ensures c.in_ok-right.ensures) in
    if_ok (IsNumberedPair c.args.overlap.now c.in-Some.peak c.in-Some-left.left c.in-Some-right.right.term c.in-Some-right.right.there.0) (IsPairByTerms c.args.overlap.now terms σ)
    (pair_from c.args.overlap.now terms σ c.in-Some.peak c.in-Some-left.left c.in-Some-right.right
    (instance_there σ terms.outer_from c.in_ok-peak.peak c.in-Some.peak c.in-Some.is c.in_ok-peak.ensures)
    (instance_there σ terms.outer_to c.in_ok-left.left c.in-Some-left.left c.in-Some-left.is c.in_ok-left.ensures)
    (instance_small σ terms.outer_to c.in_ok-left.left c.in-Some-left.left c.in-Some-left.is c.in_ok-left.ensures)
    placed)
    c.numbered.result c.numbered.ensures
