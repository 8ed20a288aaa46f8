-- The facts of a list, numbered by their places.
use Rattle.std.proofs.Common.{◌≡◌, ℕ, ◌+◌, arith, List, [], ◌∷◌, slice_get, refl, ap, ◌∙◌}
use Rattle.uc_term.specs.declared.equation.Equation.{Equation}
use Rattle.uc_fact.specs.Live.{fact_at, equations_of, numbered, numbered_from}
use Rattle.uc_rewrite.proofs.Scanned.{fact_numbered}

-- the fact of a number
pub fact_there : (facts : List Equation) (k : ℕ) → fact_at (numbered facts) k ≡ slice_get facts k
fact_there facts k = ap (fact_at (numbered facts)) (let z : k ≡ 0 + k = omega arith in z) ∙ fact_numbered 0 facts k

pub equations_numbered : (n : ℕ) (es : List Equation) → equations_of (numbered_from n es) ≡ es
equations_numbered n [] = refl
equations_numbered n (e ∷ es) = ap (λ (l : List Equation). e ∷ l) (equations_numbered (n + 1) es)
