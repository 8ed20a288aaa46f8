-- The pairs that are to be tested, one by one.
use Rattle.std.proofs.Common.{◌≡◌, ℕ, zero, suc, ◌+◌, ◌<◌, ◌≤◌, List, [], ◌∷◌, ◌++◌, length, get_or, take, sym, ap, ◌∙◌, arith, append_assoc, append-nil}
use Rattle.std.proofs.lemmas.List.{take_more, take_all}
use Rattle.uc_term.specs.declared.equation.Equation.{Equation}
use Rattle.uc_fact.specs.declared.fact.Origin.{Origin}
use Rattle.uc_fact.specs.declared.fact.Origin.TheVariants.{Axiom}
use Rattle.uc_pair.specs.declared.formed.Formed.{Formed}
use Rattle.uc_machine.specs.Finals.{axioms_from, origin_if, small_ones}

-- an axiom more
axioms_more : (n : ℕ) (es : List Equation) (k : ℕ) → k < length es → axioms_from n (take (suc k) es) ≡ axioms_from n (take k es) ++ Axiom (n + k) ∷ []
axioms_more n [] k h = absurd (omega arith)
axioms_more n (e ∷ es) zero h = (let z : n ≡ n + 0 = omega arith in ap (λ x. Axiom x ∷ []) z)
axioms_more n (e ∷ es) (suc k) h =
    let rest = axioms_more (n + 1) es k (omega arith) in
    let same : n + 1 + k ≡ n + suc k = omega arith in
    ap (λ os. Axiom n ∷ os) (rest ∙ ap (λ x. axioms_from (n + 1) (take k es) ++ Axiom x ∷ []) same)

pub axioms_next : (es : List Equation) (k : ℕ) (old new : List Origin) → k < length es → new ≡ old ++ Axiom k ∷ [] → old ≡ axioms_from 0 (take k es) → new ≡ axioms_from 0 (take (k + 1) es)
axioms_next es k old new h e so =
    let same : 0 + k ≡ k = omega arith in
    let next : k + 1 ≡ suc k = omega arith in
    e ∙ ap (λ os. os ++ Axiom k ∷ []) so ∙ sym (ap (λ x. axioms_from 0 (take x es)) next ∙ axioms_more 0 es k h ∙ ap (λ x. axioms_from 0 (take k es) ++ Axiom x ∷ []) same)

pub axioms_end : (es : List Equation) (k : ℕ) (os : List Origin) → length es ≤ k → os ≡ axioms_from 0 (take k es) → os ≡ axioms_from 0 es
axioms_end es k os h so = so ∙ ap (axioms_from 0) (take_all k es h)

-- an overlap more
small_more : (fs : List Formed) (f : Formed) → small_ones (fs ++ f ∷ []) ≡ small_ones fs ++ origin_if f.size f.overlap
small_more [] f = append-nil (origin_if f.size f.overlap)
small_more (g ∷ gs) f = ap (λ os. origin_if g.size g.overlap ++ os) (small_more gs f) ∙ sym (append_assoc (origin_if g.size g.overlap) (small_ones gs) (origin_if f.size f.overlap))

pub small_next : (fs : List Formed) (k : ℕ) (d : Formed) (old new : List Origin) → k < length fs → new ≡ old ++ origin_if (get_or fs k d).size (get_or fs k d).overlap → old ≡ small_ones (take k fs) → new ≡ small_ones (take (k + 1) fs)
small_next fs k d old new h n so =
    n ∙ ap (λ os. os ++ origin_if (get_or fs k d).size (get_or fs k d).overlap) so ∙ sym (ap small_ones (take_more fs k d h) ∙ small_more (take k fs) (get_or fs k d))

pub small_end : (fs : List Formed) (k : ℕ) (os : List Origin) → length fs ≤ k → os ≡ small_ones (take k fs) → os ≡ small_ones fs
small_end fs k os h so = so ∙ ap small_ones (take_all k fs h)
