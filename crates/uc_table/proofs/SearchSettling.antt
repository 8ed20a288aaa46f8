-- Instances that are decided or wait, as more entries come.
use Rattle.std.proofs.Common.{◌≡◌, ℕ, zero, suc, ◌<◌, List, [], ◌∷◌, ◌++◌, length, refl, ap, sym, ◌∙◌, subst, append_assoc, append-nil}
use Rattle.std.specs.Prelude.{slice_get, Some, ◌⊎◌}
use Rattle.std.proofs.Common.{inl, inr}
use Rattle.uc_table.specs.SearchSteps.{stops, waits}
use Rattle.uc_table.specs.SearchWaiting.{HasPushed}
use Rattle.uc_table.specs.declared.search_waiting.Entry.{Entry}
use Rattle.uc_table.specs.declared.search_instances.Form.{Form}
use Rattle.uc_table.specs.SearchInstances.{ran, IsFor, Waits, Has, Extends, IsSettledBy, IsSettled, IsOf, AreOf}

pub get_more : {A : Type 0} (xs ys : List A) (i : ℕ) (x : A) → slice_get xs i ≡ Some x → slice_get (xs ++ ys) i ≡ Some x
get_more [] ys i x e = cc
get_more (y ∷ xs) ys zero x e = e
get_more (y ∷ xs) ys (suc i) x e = get_more xs ys i x e

pub extends_refl : (es : List Entry) → Extends es es
extends_refl es = record { more = []; new_is = sym (append-nil es) }

pub extends_trans : (es fs gs : List Entry) → Extends es fs → Extends fs gs → Extends es gs
extends_trans es fs gs a b = record { more = a.more ++ b.more; new_is = b.new_is ∙ ap (λ l. l ++ b.more) a.new_is ∙ append_assoc es a.more b.more }

pub extends_get : (es fs : List Entry) (i : ℕ) (e : Entry) → Extends es fs → slice_get es i ≡ Some e → slice_get fs i ≡ Some e
extends_get es fs i e a g = subst (λ l. slice_get l i ≡ Some e) (sym a.new_is) (get_more es a.more i e g)

pub has_extends : (es fs : List Entry) (k a c : ℕ) → Extends es fs → Has es k a c → Has fs k a c
has_extends es fs k a c x h = record { place = h.place; entry = h.entry; entry_is = extends_get es fs h.place h.entry x h.entry_is; number_is = h.number_is; assignment_is = h.assignment_is; cell_is = h.cell_is }

pub settled_extends : (size : ℕ) (prefix : List ℕ) (f : Form) (k a : ℕ) (es fs : List Entry) → Extends es fs → IsSettledBy size prefix f k a es → IsSettledBy size prefix f k a fs
settled_extends size prefix f k a es fs x s = record { not_against = s.not_against; waiting = λ c e. has_extends es fs k a c x (s.waiting c e) }

pub get_seam : {A : Type 0} (xs ys : List A) (y : A) → slice_get (xs ++ y ∷ ys) (length xs) ≡ Some y
get_seam [] ys y = refl
get_seam (x ∷ xs) ys y = get_seam xs ys y

pub get_split : {A : Type 0} (xs : List A) (y : A) (i : ℕ) (x : A) → slice_get (xs ++ y ∷ []) i ≡ Some x → (slice_get xs i ≡ Some x) ⊎ (x ≡ y)
get_split [] y zero x e = inr (cc)
get_split [] y (suc i) x e = cc
get_split (z ∷ xs) y zero x e = inl e
get_split (z ∷ xs) y (suc i) x e = get_split xs y i x e

module _ (size : ℕ) (prefix : List ℕ) (forms : List Form) (number a : ℕ) (form : Form) (form_is : slice_get forms number ≡ Some form) where
  pub settled_as : (entries : List Entry) → IsSettledBy size prefix form number a entries → IsSettled size prefix forms number a entries
  settled_as entries s f e = let same : form ≡ f = cc in subst (λ z. IsSettledBy size prefix z number a entries) same s

  pub settled_for : (entries : List Entry) → IsFor size prefix form a → IsSettled size prefix forms number a entries
  settled_for entries h = settled_as entries (record { not_against = h.not_against; waiting = λ c w. absurd (h.not_waiting c w) })

  pub settled_waits : (cell : ℕ) (old new : List Entry) → Waits size prefix form a cell → HasPushed number a cell old new → IsSettled size prefix forms number a new
  settled_waits cell old new h p = settled_as new (record {
    not_against = λ g. (let r1 : ran size prefix form a ≡ stops (g.right ∷ g.left ∷ []) = g.ran_is in let r2 : ran size prefix form a ≡ waits cell = h.ran_is in cc);
    waiting = λ c w. record {
      place = length old;
      entry = record { form = number; assignment = a; cell = cell; below = p.below };
      entry_is = subst (λ l. slice_get l (length old) ≡ Some (record { form = number; assignment = a; cell = cell; below = p.below })) (sym p.new_is) (get_seam old [] (record { form = number; assignment = a; cell = cell; below = p.below }));
      number_is = refl;
      assignment_is = refl;
      cell_is = same_cell cell c h.ran_is w;
    };
  })
    where
      same_cell : (b c : ℕ) → ran size prefix form a ≡ waits b → ran size prefix form a ≡ waits c → b ≡ c
      same_cell b c r w = cc

  pub of_pushed : (cell : ℕ) (old new : List Entry) → AreOf forms old → a < form.assignments → HasPushed number a cell old new → AreOf forms new
  of_pushed cell old new o l p i e g = elim (get_split old (record { form = number; assignment = a; cell = cell; below = p.below }) i e (subst (λ l. slice_get l i ≡ Some e) p.new_is g)) [
    | inl h ↦ o i e h
    | inr h ↦ subst (IsOf forms) (sym h) (record { form = form; form_is = form_is; small = l })
  ]

pub pushed_extends : (k a c : ℕ) (old new : List Entry) → HasPushed k a c old new → Extends old new
pushed_extends k a c old new p = record { more = record { form = k; assignment = a; cell = c; below = p.below } ∷ []; new_is = p.new_is }
