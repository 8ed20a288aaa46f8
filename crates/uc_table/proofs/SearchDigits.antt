-- Each assignment is that of a number's digits.
use Rattle.std.proofs.Common.{◌≡◌, ℕ, zero, suc, ◌+◌, ◌*◌, ◌/◌, ◌%◌, ◌^◌, ◌<◌, ap, sym, ◌∙◌, arith, lit<}
use Rattle.std.proofs.Math.Nat.{mul_comm, pow-zero, pow-suc, div-one, add-mul-mod_self_left, add-mul-div_left, div-eq_of_lt, mod-eq_of_lt, div-div-eq-div-mul}
use Rattle.std.proofs.lemmas.Nat.{mul-add-lt}

-- the number whose digits are the first n values
pub number_of : ℕ → (ℕ → ℕ) → ℕ → ℕ
number_of size α zero = 0
number_of size α (suc n) = α 0 + size * number_of size (λ x. α (suc x)) n

pub number_within : (size : ℕ) (α : ℕ → ℕ) (n : ℕ) → 0 < size → ((x : ℕ) → α x < size) → number_of size α n < size ^ n
unfolding number_of
number_within size α zero s h = rw (pow-zero) (lit< tt)
number_within size α (suc n) s h =
    let i : number_of size (λ x. α (suc x)) n < size ^ n = number_within size (λ x. α (suc x)) n s (λ x. h (suc x)) in
    let a : α 0 < size = h 0 in
    let m : number_of size (λ x. α (suc x)) n * size + α 0 < size * size ^ n = mul-add-lt (number_of size (λ x. α (suc x)) n) size (α 0) (size ^ n) i a in
    rw (pow-suc, mul_comm (size ^ n) size) (rw (mul_comm size (number_of size (λ x. α (suc x)) n)) (omega arith))

pub digit_is : (size : ℕ) (α : ℕ → ℕ) (n x : ℕ) → 0 < size → ((y : ℕ) → α y < size) → x < n → (number_of size α n / size ^ x) % size ≡ α x
unfolding number_of
digit_is size α zero x s h l = absurd (omega arith)
digit_is size α (suc n) zero s h l =
    rw (pow-zero, div-one) (add-mul-mod_self_left (α 0) size (number_of size (λ y. α (suc y)) n) ∙ mod-eq_of_lt (h 0))
digit_is size α (suc n) (suc x) s h l =
    let v : ℕ = number_of size (λ y. α (suc y)) n in
    let e : (α 0 + size * number_of size (λ y. α (suc y)) n) / size ≡ number_of size (λ y. α (suc y)) n = add-mul-div_left (α 0) (number_of size (λ y. α (suc y)) n) s ∙ ap (λ k. k + number_of size (λ y. α (suc y)) n) (div-eq_of_lt (h 0)) ∙ omega arith in
    let p : size ^ suc x ≡ size * size ^ x = pow-suc size x ∙ mul_comm (size ^ x) size in
    let q : (α 0 + size * number_of size (λ y. α (suc y)) n) / size ^ suc x ≡ number_of size (λ y. α (suc y)) n / size ^ x =
    ap (λ k. (α 0 + size * number_of size (λ y. α (suc y)) n) / k) p ∙ sym (div-div-eq-div-mul (α 0 + size * number_of size (λ y. α (suc y)) n) size (size ^ x)) ∙ ap (λ k. k / size ^ x) e in
    ap (λ k. k % size) q ∙ digit_is size (λ y. α (suc y)) n x s (λ y. h (suc y)) (omega arith)
