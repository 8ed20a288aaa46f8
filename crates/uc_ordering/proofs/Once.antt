-- Options name one order, or are refused for one reason.
use Rattle.std.proofs.Common.{◌≡◌, ℕ, List, Option, Some, None, refl, sym, ap, ◌∙◌}
use Rattle.uc_term.specs.Table.{Table}
use Rattle.uc_term.specs.declared.fresh.Fresh.{Fresh}
use Rattle.uc_term.specs.declared.signature.Signature.{Signature}
use Rattle.uc_order.specs.declared.spec.OrderSpec.{OrderSpec}
use Rattle.uc_words.specs.declared.command.OrderWords.{OrderWords}
use Rattle.uc_ordering.specs.declared.fault.ChoiceFault.{ChoiceFault}
use Rattle.uc_ordering.specs.declared.fault.ChoiceFault.TheVariants.{UnknownSymbol, NotTotal, BadWeight, NoMemory}
use Rattle.uc_ordering.specs.Choice.{IsChosen, IsChoiceFault}

some_once : {X : Type 0} {o : Option X} {a b : X} → o ≡ Some a → o ≡ Some b → a ≡ b
some_once {X} {o} {a} {b} p q = let r : Some a ≡ Some b = sym p ∙ q in cc

some_or_none : {X : Type 0} {o : Option X} {a : X} → o ≡ Some a → o ≡ None → ⊥
some_or_none {X} {o} {a} p q = absurd (let r : Some a ≡ None = sym p ∙ q in cc)

module _ (table : Table) (signature : Signature) (words : OrderWords) where
  pub order_once : (fresh : Option Fresh) (a b : OrderSpec) → IsChosen table signature words fresh a → IsChosen table signature words fresh b → a ≡ b
  order_once fresh a b x y = x.is ∙ sym y.is

  pub refusal_once : (a b : ChoiceFault) → (a ≡ NoMemory → ⊥) → (b ≡ NoMemory → ⊥) → IsChoiceFault table signature words a → IsChoiceFault table signature words b → a ≡ b
  refusal_once (UnknownSymbol n) (UnknownSymbol m) na nb x y = ap UnknownSymbol (some_once x y)
  refusal_once (UnknownSymbol n) (NotTotal m) na nb x y = absurd (some_or_none x y.0)
  refusal_once (UnknownSymbol n) (BadWeight m w) na nb x y = absurd (some_or_none x y.0)
  refusal_once (NotTotal n) (UnknownSymbol m) na nb x y = absurd (some_or_none y x.0)
  refusal_once (NotTotal n) (NotTotal m) na nb x y = ap NotTotal (some_once x.1 y.1)
  refusal_once (NotTotal n) (BadWeight m w) na nb x y = absurd (some_or_none x.1 y.1)
  refusal_once (BadWeight n w) (UnknownSymbol m) na nb x y = absurd (some_or_none y x.0)
  refusal_once (BadWeight n w) (NotTotal m) na nb x y = absurd (some_or_none y.1 x.1)
  refusal_once (BadWeight n w) (BadWeight m v) na nb x y = let e : (n, w) ≡ (m, v) = some_once x.2 y.2 in ap (λ (p : List ℕ × ℕ). BadWeight p.0 p.1) e
  refusal_once NoMemory b na nb x y = absurd (na refl)
  refusal_once a NoMemory na nb x y = absurd (nb refl)

  pub chosen_or_refused : (fresh : Option Fresh) (spec : OrderSpec) (fault : ChoiceFault) → (fault ≡ NoMemory → ⊥) → IsChosen table signature words fresh spec → IsChoiceFault table signature words fault → ⊥
  chosen_or_refused fresh spec (UnknownSymbol n) na x y = some_or_none y x.known
  chosen_or_refused fresh spec (NotTotal n) na x y = some_or_none y.1 x.once
  chosen_or_refused fresh spec (BadWeight n w) na x y = some_or_none y.2 x.fit
  chosen_or_refused fresh spec NoMemory na x y = na refl
