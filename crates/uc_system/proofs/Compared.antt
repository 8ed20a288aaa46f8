-- Texts that are taken apart, and texts that are compared.
use Rattle.std.proofs.Common.{◌≡◌, ℕ, true, false, List, ◌++◌, sym, ap, ◌∙◌, append_assoc, Option, Some, None, Bor}
use Rattle.std.specs.Prelude.{MatchOption, bytes_eq}
use Rattle.std.proofs.lemmas.Slice.Eq.{bytes_eq-Decides}
use Rattle.std.proofs.lemmas.List.{append_cancel_left}
use Rattle.uc_system.specs.Facts.{fact_end}

pub bytes_same : (a b : List ℕ) → bytes_eq a b ≡ true → a ≡ b
bytes_same a b e = (bytes_eq-Decides a b).0 e

pub bytes_differ : (a b : List ℕ) → bytes_eq a b ≡ false → a ≡ b → ⊥
bytes_differ a b e s = let t : bytes_eq a b ≡ true = (bytes_eq-Decides a b).1 s in let both : true ≡ false = sym t ∙ e in cc

-- the text between this front and the end of a fact
module _ (front line rest : List ℕ) (is : line ≡ front ++ rest) where
  no_end : ((f : List ℕ) → rest ≡ f ++ fact_end → ⊥) → (text : List ℕ) → line ≡ front ++ text ++ fact_end → ⊥
  no_end n text e = n text (append_cancel_left front rest (text ++ fact_end) (sym is ∙ e ∙ append_assoc front text fact_end))

  pub between : (result : Option (Bor (List ℕ))) → MatchOption result ((f : List ℕ) → rest ≡ f ++ fact_end → ⊥) (λ r. rest ≡ r.now ++ fact_end) → MatchOption result ((text : List ℕ) → line ≡ front ++ text ++ fact_end → ⊥) (λ text. line ≡ front ++ text.now ++ fact_end)
  between None h = no_end h
  between (Some r) h = is ∙ ap (λ x. front ++ x) h ∙ sym (append_assoc front r.now fact_end)
