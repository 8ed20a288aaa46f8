-- What is read at a place, and the heads there.
use Rattle.std.proofs.Common.{◌≡◌, ◌≢◌, ◌↔◌, ℕ, ◌+◌, ◌<◌, List, [], ◌∷◌, ◌++◌, length, take, drop, get_or, sym, ap, ap₂, ◌∙◌, subst, arith, ◌⊎◌, Bool}
use Rattle.std.proofs.lemmas.Grind.{take_at_read}
use Rattle.uc_term.specs.declared.node.Sym.{Sym}
use Rattle.uc_term.specs.declared.node.Node.{Node}
use Rattle.uc_term.specs.declared.node.Node.TheVariants.{Var, App}
use Rattle.uc_term.proofs.Ahead.{drop-at}
use Rattle.uc_order.specs.VarOrders.{Classes}
use Rattle.uc_order.specs.Renamed.{renamed_node}
use Rattle.uc_order.proofs.Renaming.{length-renamed}
use Rattle.uc_kbo.specs.Kbo.{Weighing}
use Rattle.uc_kbo.specs.Runs.{IsStack, IsOver, image_by, read_by}
use Rattle.uc_order.proofs.Reading.{get_or-renamed}

pub read_get : (under : Bool) (cs : Classes) (ns : List Node) (at : ℕ) (d e m : Node) → at < length ns → m ≡ renamed_node (image_by under cs) (get_or ns at d) → get_or (read_by under cs ns) at e ≡ m
read_get under cs ns at d e m h q = get_or-renamed (image_by under cs) ns at d e h ∙ sym q

pub read_at : (under : Bool) (cs : Classes) (ns : List Node) (at : ℕ) (d m n : Node) → at < length ns → m ≡ renamed_node (image_by under cs) (get_or ns at d) → m ≡ n → drop at (read_by under cs ns) ≡ n ∷ drop (at + 1) (read_by under cs ns)
read_at under cs ns at d m n h q e =
    drop-at (read_by under cs ns) at (Var 0) (omega (arith, length-renamed (image_by under cs) ns)) ∙ ap (λ k. k ∷ drop (at + 1) (read_by under cs ns)) (read_get under cs ns at d (Var 0) m h q ∙ e)

-- one node more in common
pub take_both : (under : Bool) (cs : Classes) (s t : List Node) (at : ℕ) (d e m n : Node) → at < length s → at < length t → m ≡ renamed_node (image_by under cs) (get_or s at d) → n ≡ renamed_node (image_by under cs) (get_or t at e) → m ≡ n → take at (read_by under cs s) ≡ take at (read_by under cs t) → take (at + 1) (read_by under cs s) ≡ take (at + 1) (read_by under cs t)
take_both under cs s t at d e m n h k p q same common =
    (take_at_read (read_by under cs s) at (Var 0) (omega (arith, length-renamed (image_by under cs) s))).1
    ∙ ap₂ (λ l x. l ++ x ∷ []) common (read_get under cs s at d (Var 0) m h p ∙ same ∙ sym (read_get under cs t at e (Var 0) n k q))
    ∙ sym (take_at_read (read_by under cs t) at (Var 0) (omega (arith, length-renamed (image_by under cs) t))).1

pub read_differ : (under : Bool) (cs : Classes) (s t : List Node) (at : ℕ) (d e f m n : Node) → at < length s → at < length t → m ≡ renamed_node (image_by under cs) (get_or s at d) → n ≡ renamed_node (image_by under cs) (get_or t at e) → m ≢ n → get_or (read_by under cs s) at f ≢ get_or (read_by under cs t) at f
read_differ under cs s t at d e f m n h k p q ne same = ne (sym (read_get under cs s at d f m h p) ∙ same ∙ read_get under cs t at e f n k q)

module _ (w : Weighing) (test : ℕ → ℕ → Bool) (above : ℕ → ℕ → Type 0) where
  pub stack_var : (ns : List Node) (from at x y : ℕ) (rest : List Node) → IsStack w test above (drop from ns) x ↔ IsStack w test above (drop at ns) x → drop at ns ≡ Var y ∷ rest → IsStack w test above (drop from ns) x ↔ ((y ≡ x) ⊎ above y x)
  stack_var ns from at x y rest h e = let P : List Node → Type 0 = λ ms. IsStack w test above (drop from ns) x ↔ IsStack w test above ms x in subst P e h

  pub stack_app : (ns : List Node) (from at x n : ℕ) (f : Sym) (rest : List Node) → IsStack w test above (drop from ns) x ↔ IsStack w test above (drop at ns) x → drop at ns ≡ App f n ∷ rest → IsStack w test above (drop from ns) x ↔ ((n ≡ 1) × (w.weight_of f n ≡ 0) × IsStack w test above rest x)
  stack_app ns from at x n f rest h e = let P : List Node → Type 0 = λ ms. IsStack w test above (drop from ns) x ↔ IsStack w test above ms x in subst P e h

  pub over_at : (V : Type 0) (s t s' t' : List Node) (at : ℕ) (a b : Node) → drop at s ≡ a ∷ s' → drop at t ≡ b ∷ t' → V ↔ IsOver w test above (a ∷ s') (b ∷ t') → V ↔ IsOver w test above (drop at s) (drop at t)
  over_at V s t s' t' at a b es et h =
      let P : List Node → Type 0 = λ l. V ↔ IsOver w test above l (b ∷ t') in
      let Q : List Node → Type 0 = λ l. V ↔ IsOver w test above (drop at s) l in
      subst Q (sym et) (subst P (sym es) h)

  pub stack_at : (V : Type 0) (s s' : List Node) (at x : ℕ) (a : Node) → drop at s ≡ a ∷ s' → V ↔ IsStack w test above (drop at s) x → V ↔ IsStack w test above (a ∷ s') x
  stack_at V s s' at x a e h = let P : List Node → Type 0 = λ l. V ↔ IsStack w test above l x in subst P e h
