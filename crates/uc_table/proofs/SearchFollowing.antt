-- The chain of a cell is followed from its last entry to its first.
use Rattle.std.proofs.Common.{◌≡◌, ℕ, zero, suc, ◌+◌, ◌-◌, ◌≤◌, ◌<◌, List, [], ◌∷◌, ◌++◌, length, take, ap, sym, ◌∙◌, arith, subst, inl, inr, length-append, get_or}
use Rattle.std.specs.Prelude.{slice_get, Some, ◌⊎◌}
use Rattle.std.proofs.lemmas.Option.{slice_get_read, slice_get_within}
use Rattle.std.proofs.lemmas.Bool.{cases_order}
use Rattle.std.proofs.lemmas.Grind.{common_steps}
use Rattle.uc_table.specs.declared.search_waiting.Entry.{Entry}
use Rattle.uc_table.specs.declared.search_waiting.Waiting.{Waiting}
use Rattle.uc_table.specs.declared.search_instances.Form.{Form}
use Rattle.uc_table.specs.SearchWaiting.{IsTop, IsWell}
use Rattle.uc_table.specs.SearchInstances.{Extends, IsSettledBy, IsSettled, AreSettledBelow, AreFormsSettled, AreSettled, AreOf, IsOf, IsAgainstNow, IsRefutedBy}
use Rattle.uc_table.proofs.SearchSettling.{get_more, settled_extends, extends_trans, extends_refl}
use Rattle.uc_table.specs.Tables.{MOST_CELLS}

pub get_take : {A : Type 0} (xs : List A) (n i : ℕ) (x : A) → slice_get xs i ≡ Some x → i < n → slice_get (take n xs) i ≡ Some x
get_take xs zero i x e l = absurd (omega arith)
get_take [] (suc n) i x e l = cc
get_take (y ∷ xs) (suc n) zero x e l = e
get_take (y ∷ xs) (suc n) (suc i) x e l = get_take xs n i x e (omega arith)

pub get_before : {A : Type 0} (xs ys : List A) (i : ℕ) (x : A) → i < length xs → slice_get (xs ++ ys) i ≡ Some x → slice_get xs i ≡ Some x
get_before [] ys i x l e = absurd (omega arith)
get_before (y ∷ xs) ys zero x l e = e
get_before (y ∷ xs) ys (suc i) x l e = get_before xs ys i x (omega arith) e

pub old_get : (old new : List Entry) (i : ℕ) (e : Entry) → Extends old new → i < length old → slice_get new i ≡ Some e → slice_get old i ≡ Some e
old_get old new i e x l g = get_before old x.more i e l (subst (λ z. slice_get z i ≡ Some e) x.new_is g)

module _ (size : ℕ) (prefix : List ℕ) (forms : List Form) (cell : ℕ) (old : List Entry) where
  -- the entries of the cell from a place on are settled, and that before it is the cell's
  pub record IsFollowed (w : Waiting) (at : ℕ) : Type 0 where
    pub well : IsWell w
    pub of : AreOf forms w.entries.items
    pub extends : Extends old w.entries.items
    pub within : at ≤ length old
    pub stop : (i : ℕ) (e : Entry) → at ≡ i + 1 → slice_get old i ≡ Some e → e.cell ≡ cell
    pub settled : AreSettledBelow size prefix forms cell at old w.entries.items

  pub place_within : (w : Waiting) (at : ℕ) → IsFollowed w at → 0 < at → at - 1 < length w.entries.items
  place_within w at f l =
      let n : length w.entries.items ≡ length old + length f.extends.more = ap length f.extends.new_is ∙ length-append old f.extends.more in
      let h : at ≤ length old = f.within in
      omega arith

  pub next_within : (w : Waiting) (at : ℕ) (e : Entry) → IsFollowed w at → 0 < at → slice_get w.entries.items (at - 1) ≡ Some e → e.below < at
  next_within w at e f l g =
      let t : IsTop (take (at - 1) w.entries.items) e.below e.cell = f.well.linked (at - 1) e g in
      let n : length (take (at - 1) w.entries.items) ≤ at - 1 = grind (arith, common_steps) in
      let m : e.below ≤ length (take (at - 1) w.entries.items) = t.within in
      omega arith

  pub next_followed : (w v : Waiting) (at : ℕ) (e : Entry) → IsFollowed w at → 0 < at → slice_get w.entries.items (at - 1) ≡ Some e → IsWell v → AreOf forms v.entries.items → Extends w.entries.items v.entries.items → IsSettled size prefix forms e.form e.assignment v.entries.items → IsFollowed v e.below
  next_followed w v at e f l g well of x s = record {
    well = well;
    of = of;
    extends = extends_trans old w.entries.items v.entries.items f.extends x;
    within = (let b : e.below < at = next_within w at e f l g in let h : at ≤ length old = f.within in omega arith);
    stop = λ i y a b. (let k : y.cell ≡ e.cell = top.waits i y a (get_take w.entries.items (at - 1) i y (new_get i y b) (let z : e.below < at = next_within w at e f l g in omega arith)) in k ∙ here);
    settled = λ i y a b c. cases i y a b c (cases_order i (at - 1));
  }
    where
      top : IsTop (take (at - 1) w.entries.items) e.below e.cell
      top = f.well.linked (at - 1) e g

      in_old : slice_get old (at - 1) ≡ Some e
      in_old = old_get old w.entries.items (at - 1) e f.extends (let h : at ≤ length old = f.within in omega arith) g

      here : e.cell ≡ cell
      here = f.stop (at - 1) e (omega arith) in_old

      new_get : (i : ℕ) (y : Entry) → slice_get old i ≡ Some y → slice_get w.entries.items i ≡ Some y
      new_get i y b = subst (λ z. slice_get z i ≡ Some y) (sym f.extends.new_is) (get_more old f.extends.more i y b)

      cases : (i : ℕ) (y : Entry) → e.below ≤ i → slice_get old i ≡ Some y → y.cell ≡ cell → (i ≡ at - 1) ⊎ ((i < at - 1) ⊎ (at - 1 < i)) → IsSettled size prefix forms y.form y.assignment v.entries.items
      cases i y a b c (inl z) = let same : e ≡ y = same_entry (subst (λ k. slice_get old k ≡ Some y) z b) in subst (λ u. IsSettled size prefix forms u.form u.assignment v.entries.items) same s
        where
          same_entry : slice_get old (at - 1) ≡ Some y → e ≡ y
          same_entry b = let p : slice_get old (at - 1) ≡ Some e = in_old in cc
      cases i y a b c (inr (inl z)) = absurd (top.last i y a (get_take w.entries.items (at - 1) i y (new_get i y b) z) (c ∙ sym here))
      cases i y a b c (inr (inr z)) = λ form h. settled_extends size prefix form y.form y.assignment w.entries.items v.entries.items x (f.settled i y (omega arith) b c form h)

  pub done_followed : (w : Waiting) (at : ℕ) → IsFollowed w at → at ≤ 0 → AreSettledBelow size prefix forms cell 0 old w.entries.items
  done_followed w at f l i e z g h = f.settled i e (omega arith) g h

pub followed_at_start : (size : ℕ) (prefix : List ℕ) (forms : List Form) (cell : ℕ) (w : Waiting) (at : ℕ) → IsWell w → AreOf forms w.entries.items → cell < MOST_CELLS → at ≡ get_or w.heads.items cell at → IsFollowed size prefix forms cell w.entries.items w at
followed_at_start size prefix forms cell w at well of l e =
    let t : IsTop w.entries.items at cell = well.heads cell at (slice_get_read w.heads.items MOST_CELLS cell at (sym well.as_many) l e) in
    record { well = well; of = of; extends = extends_refl w.entries.items; within = t.within; stop = t.waits; settled = λ i y a b d. absurd (t.last i y a b d) }

pub small_of : (forms : List Form) (e : Entry) (f : Form) → IsOf forms e → slice_get forms e.form ≡ Some f → e.assignment < f.assignments
small_of forms e f o k = let g : slice_get forms e.form ≡ Some o.form = o.form_is in let same : o.form ≡ f = cc in subst (λ (z : Form). e.assignment < z.assignments) same o.small

pub refuted_of : (size : ℕ) (prefix : List ℕ) (forms : List Form) (e : Entry) → IsOf forms e → IsAgainstNow size prefix forms e.form e.assignment → IsRefutedBy size prefix forms
refuted_of size prefix forms e o h = record { number = e.form; assignment = e.assignment; form = h.form; form_is = h.form_is; small = small_of forms e h.form o h.form_is; against = h.against }

-- the instances of a clause by the assignments before one are settled
pub record IsEnrolling (size : ℕ) (prefix : List ℕ) (forms : List Form) (number : ℕ) (old : List Entry) (w : Waiting) (assignment : ℕ) : Type 0 where
  pub well : IsWell w
  pub of : AreOf forms w.entries.items
  pub extends : Extends old w.entries.items
  pub settled : (a : ℕ) → a < assignment → IsSettled size prefix forms number a w.entries.items

pub next_enrolled : (size : ℕ) (prefix : List ℕ) (forms : List Form) (number : ℕ) (old : List Entry) (w v : Waiting) (assignment : ℕ) → IsEnrolling size prefix forms number old w assignment → IsWell v → AreOf forms v.entries.items → Extends w.entries.items v.entries.items → IsSettled size prefix forms number assignment v.entries.items → IsEnrolling size prefix forms number old v (assignment + 1)
next_enrolled size prefix forms number old w v assignment e well of x s = record {
  well = well;
  of = of;
  extends = extends_trans old w.entries.items v.entries.items e.extends x;
  settled = λ a l. cases a l (cases_order a assignment);
}
  where
    cases : (a : ℕ) → a < assignment + 1 → (a ≡ assignment) ⊎ ((a < assignment) ⊎ (assignment < a)) → IsSettled size prefix forms number a v.entries.items
    cases a l (inl z) = subst (λ u. IsSettled size prefix forms number u v.entries.items) (sym z) s
    cases a l (inr (inl z)) = λ f h. settled_extends size prefix f number a w.entries.items v.entries.items x (e.settled a z f h)
    cases a l (inr (inr z)) = absurd (omega arith)

pub enrolled : (size : ℕ) (prefix : List ℕ) (forms : List Form) (number : ℕ) (old : List Entry) (w : Waiting) (m : ℕ) (form : Form) → IsEnrolling size prefix forms number old w m → slice_get forms number ≡ Some form → form.assignments ≤ m → AreFormsSettled size prefix forms number (number + 1) w.entries.items
enrolled size prefix forms number old w m form e g l k a f x y h s =
    let same : number ≡ k = omega arith in
    let h2 : slice_get forms number ≡ Some f = subst (λ z. slice_get forms z ≡ Some f) (sym same) h in
    let same_form : f ≡ form = cc in
    let b : a < form.assignments = subst (λ (z : Form). a < z.assignments) same_form s in
    subst (λ z. IsSettledBy size prefix f z a w.entries.items) same (e.settled a (omega arith) f h2)

pub enrolled_against : (size : ℕ) (prefix : List ℕ) (forms : List Form) (number a : ℕ) (form : Form) → slice_get forms number ≡ Some form → a < form.assignments → IsAgainstNow size prefix forms number a → IsRefutedBy size prefix forms
enrolled_against size prefix forms number a form g l h =
    let i : slice_get forms number ≡ Some h.form = h.form_is in
    let same : form ≡ h.form = cc in
    record { number = number; assignment = a; form = h.form; form_is = h.form_is; small = subst (λ (z : Form). a < z.assignments) same l; against = h.against }

pub none_settled : (size : ℕ) (prefix : List ℕ) (forms : List Form) (n : ℕ) (entries : List Entry) → AreFormsSettled size prefix forms n n entries
none_settled size prefix forms n entries k a f l m g b = absurd (omega arith)

pub none_of : (forms : List Form) (entries : List Entry) → entries ≡ [] → AreOf forms entries
none_of forms entries e i x g = let h : slice_get [] i ≡ Some x = subst (λ z. slice_get z i ≡ Some x) e g in cc

-- the instances of one clause before the others
pub more_settled : (size : ℕ) (prefix : List ℕ) (forms : List Form) (n from to : ℕ) (old new : List Entry) → from ≡ n + 1 → AreFormsSettled size prefix forms from to old → Extends old new → AreFormsSettled size prefix forms n (n + 1) new → AreFormsSettled size prefix forms n to new
more_settled size prefix forms n from to old new e s x t k a f l m g b = cases (cases_order k n)
  where
    cases : (k ≡ n) ⊎ ((k < n) ⊎ (n < k)) → IsSettledBy size prefix f k a new
    cases (inl z) = t k a f (omega arith) (omega arith) g b
    cases (inr (inl z)) = absurd (omega arith)
    cases (inr (inr z)) = settled_extends size prefix f k a old new x (s k a f (omega arith) m g b)

pub settled_all : (size : ℕ) (prefix : List ℕ) (forms : List Form) (n : ℕ) (entries : List Entry) → AreFormsSettled size prefix forms n (length forms) entries → n ≤ 0 → AreSettled size prefix forms entries
settled_all size prefix forms n entries s l k a f g b =
    let w : k < length forms = slice_get_within forms k f g in
    s k a f (omega arith) w g b
