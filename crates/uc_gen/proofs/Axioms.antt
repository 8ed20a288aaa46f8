-- The axioms, one after another: each takes two steps of the sequence.
use Rattle.std.proofs.Common.{◌≡◌, ℕ, suc, ◌+◌, ◌*◌, ◌%◌, ◌<◌, List, [], ◌∷◌, ◌++◌, length, get_or, unwrap_or, sym, ap, ap₂, ◌∙◌, arith}
use Rattle.std.proofs.lemmas.Option.{slice_get-get_or}
use Rattle.uc_term.specs.declared.node.Sym.{Sym}
use Rattle.uc_clause.specs.declared.clause.Sourced.{Sourced}
use Rattle.uc_gen.specs.Sequence.{next, drawn, after, number_at}
use Rattle.uc_gen.specs.Generated.{constant_at, drawn_at, axiom_of, first_axioms}

-- two steps on
pub two_steps : (start k state first second : ℕ) → state ≡ after start (2 * k) → first ≡ next state → second ≡ next first → second ≡ after start (2 * (k + 1))
two_steps start k state first second e f g =
    let two : 2 * (k + 1) ≡ suc (suc (2 * k)) = omega arith in
    g ∙ ap next (f ∙ ap next e) ∙ sym (ap (after start) two)

first_drawn : (start k state first : ℕ) → state ≡ after start (2 * k) → first ≡ next state → drawn first ≡ number_at start (2 * k)
first_drawn start k state first e f =
    let one : 2 * k + 1 ≡ suc (2 * k) = omega arith in
    ap drawn (f ∙ ap next e ∙ sym (ap (after start) one))

second_drawn : (start k state first second : ℕ) → state ≡ after start (2 * k) → first ≡ next state → second ≡ next first → drawn second ≡ number_at start (2 * k + 1)
second_drawn start k state first second e f g =
    let two : 2 * k + 1 + 1 ≡ suc (suc (2 * k)) = omega arith in
    ap drawn (g ∙ ap next (f ∙ ap next e) ∙ sym (ap (after start) two))

pub found : (constants : List Sym) (i : ℕ) (c : Sym) → i < length constants → c ≡ get_or constants i c → c ≡ constant_at constants i
found constants i c less is = is ∙ sym (ap (λ o. unwrap_or o (let nought : Sym = record { 0 = 0 } in nought)) (slice_get-get_or constants i c less))

-- with one more behind them
pub more_axioms : (f : Sym) (constants : List Sym) (start k state first second : ℕ) (c d : Sym) (taken : Sourced) (axioms more : List Sourced) → state ≡ after start (2 * k) → first ≡ next state → second ≡ next first → c ≡ constant_at constants (drawn first % length constants) → d ≡ constant_at constants (drawn second % length constants) → taken ≡ axiom_of f k c d → axioms ≡ first_axioms constants start f k → more ≡ axioms ++ taken ∷ [] → more ≡ first_axioms constants start f (k + 1)
more_axioms f constants start k state first second c d taken axioms more s e g c_is d_is is so_far pushed =
    let one : suc k ≡ k + 1 = omega arith in
    let at : ℕ → Sym = λ n. constant_at constants (n % length constants) in
    let from : c ≡ drawn_at constants start (2 * k) = c_is ∙ ap at (first_drawn start k state first s e) in
    let to : d ≡ drawn_at constants start (2 * k + 1) = d_is ∙ ap at (second_drawn start k state first second s e g) in
    pushed ∙ ap₂ (λ (xs : List Sourced) (x : Sourced). xs ++ x ∷ []) so_far (is ∙ ap₂ (axiom_of f k) from to) ∙ ap (first_axioms constants start f) one
