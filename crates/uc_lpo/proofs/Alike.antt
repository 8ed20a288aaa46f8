-- The turns of the loop over two lists that look alike.
use Rattle.std.proofs.Common.{◌≡◌, ◌↔◌, ℕ, ◌+◌, ◌<◌, ◌≤◌, List, ◌∷◌, length, drop, get_or, map, refl, sym, ap, ◌∙◌, add-one}
use Rattle.std.proofs.Math.Seq.{drop-cons}
use Rattle.uc_term.specs.declared.node.Node.{Node}
use Rattle.uc_lpo.proofs.Steps.{nothing_left}

pub drop_at : {A : Type 0} (xs : List A) (i : ℕ) (d : A) → i < length xs → drop i xs ≡ get_or xs i d ∷ drop (i + 1) xs
drop_at xs i d h = rw (add-one, drop-cons xs i d) refl

module _ (f : Node → Node) where
  pub alike_on : (ns ms : List Node) (i : ℕ) (d e : Node) → i < length ns → i < length ms → f (get_or ns i d) ≡ f (get_or ms i e) → (map f (drop i ns) ≡ map f (drop i ms)) ↔ (map f (drop (i + 1) ns) ≡ map f (drop (i + 1) ms))
  alike_on ns ms i d e h k same = rw (drop_at ns i d h, drop_at ms i e k) (λ q. cc, λ q. cc)

  pub alike_stop : (ns ms : List Node) (i : ℕ) (d e : Node) → i < length ns → i < length ms → (f (get_or ns i d) ≡ f (get_or ms i e) → ⊥) → map f (drop i ns) ≡ map f (drop i ms) → ⊥
  alike_stop ns ms i d e h k ne = rw (drop_at ns i d h, drop_at ms i e k) (λ q. ne cc)

  pub alike_end : (ns ms : List Node) (i : ℕ) → length ns ≤ i → length ms ≤ i → map f (drop i ns) ≡ map f (drop i ms)
  alike_end ns ms i h k = ap (map f) (nothing_left ns i h ∙ sym (nothing_left ms i k))
