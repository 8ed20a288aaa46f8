-- What a test says of a fact that it decides.
use Rattle.std.proofs.Common.{◌≡◌, ◌↔◌, Bool, true, false, IsTrue, IfOk, Result, Ok, Err, refl, List, length, ◌-◌, ℕ, drop, take, arith, length-drop}
use Rattle.uc_term.specs.declared.node.Node.{Node}
use Rattle.uc_term.proofs.Terms.{take_of_length-le}

pub never : {P : Type 0} → (P → ⊥) → IsTrue false ↔ P
never n = (λ h. absurd (let e : false ≡ true = h in cc), λ p. absurd (n p))

pub always : {P : Type 0} → P → IsTrue true ↔ P
always p = (λ h. p, λ q. refl)

pub not_of : {P : Type 0} (b : Bool) → b ≡ false → (IsTrue b ↔ P) → P → ⊥
not_of b e h p = let t : b ≡ true = h.1 p in absurd cc

pub of : {P : Type 0} (b : Bool) → b ≡ true → (IsTrue b ↔ P) → P
of b e h = h.0 e

-- a range up to the end
pub to_end : (l : List Node) (e : ℕ) → take (length l - e) (drop e l) ≡ drop e l
to_end l e = take_of_length-le (drop e l) (length l - e) (omega (arith, length-drop e l))

-- the same test decides what is equivalent
pub same_test : {P Q E : Type 0} (r : Result Bool E) → (P → Q) → (Q → P) → IfOk r (λ b. IsTrue b ↔ P) → IfOk r (λ b. IsTrue b ↔ Q)
same_test (Ok b) f g h = (λ t. f (h.0 t), λ q. h.1 (g q))
same_test (Err e) f g h = h
