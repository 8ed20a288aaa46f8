-- Different symbols have different names.
use Rattle.std.proofs.Common.{◌≡◌, ℕ, ◌<◌, ◌^◌, List, codes, decimal, get_or, ap, arith}
use Rattle.std.proofs.lemmas.Fmt.{decimal_injective}
use Rattle.std.proofs.lemmas.List.{append_cancel_left}
use Rattle.uc_gen.specs.Generated.{function_name, constant_name}

pub constant_named : (i j : ℕ) → i < 2 ^ 64 → j < 2 ^ 64 → constant_name i ≡ constant_name j → i ≡ j
constant_named i j p q e = decimal_injective i j p q (append_cancel_left (codes "c") (decimal i) (decimal j) e)

pub not_function : (i : ℕ) → function_name ≡ constant_name i → ⊥
not_function i e = let first : 102 ≡ 99 = ap (λ (l : List ℕ). get_or l 0 0) e in absurd (omega (arith, first))
