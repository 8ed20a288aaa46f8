-- The rows of facts that die.
use Rattle.std.proofs.Common.{◌≡◌, ℕ, zero, suc, ◌<◌, List, [], ◌∷◌, ◌++◌, length, Bool, true, false, ◌==◌, Some, refl, ap, sym, ◌∙◌, arith, inl, inr, append_assoc, subst, slice_get, slice_index_or}
use Rattle.std.specs.Prelude.{◌||◌}
use Rattle.std.proofs.lemmas.Bool.{cases_Bool, eqb-true, eqb-false}
use Rattle.std.proofs.lemmas.List.{append-nil}
use Rattle.uc_shelf.specs.declared.entry.Entry.{Entry}
use Rattle.uc_shelf.specs.declared.entry.Entry.TheVariants.{Dies}
use Rattle.uc_shelf.specs.Entries.{born, is_dead}
use Rattle.uc_machine.specs.declared.state.Meeting.{Meeting}
use Rattle.uc_machine.specs.declared.state.Meeting.TheVariants.{Unmet, Visiting, Met}
use Rattle.uc_rows.specs.declared.facts.FactRow.{FactRow}
use Rattle.uc_machine.specs.Lists.{change}
use Rattle.uc_machine.specs.State.{is_unmet}
use Rattle.uc_machine.specs.Effects.{meets_unmet, sides_weight}
use Rattle.uc_rows.specs.Rising.{AreBelow}
use Rattle.uc_rows.specs.FactRows.{meetings_of, dead_in, weight_in, AreRows, NoneUnmetBelow}
use Rattle.uc_rows.specs.Deaths.{deaths_by, met_by, dead_row, rows_by}
use Rattle.uc_machine.proofs.Lists.{get-change_same, get-change_other, length-change}
use Rattle.uc_machine.proofs.Blocks.{born-dies}
use Rattle.uc_rows.proofs.Deaths.{dead-dies}

meetings_change : (rows : List FactRow) (j : ℕ) → meetings_of (change dead_row rows j) ≡ change meets_unmet (meetings_of rows) j
meetings_change [] j = refl
meetings_change (r ∷ rows) zero = refl
meetings_change (r ∷ rows) (suc j) = ap (λ z. r.meeting ∷ z) (meetings_change rows j)

pub meetings_by : (js : List ℕ) (rows : List FactRow) → meetings_of (rows_by js rows) ≡ met_by js (meetings_of rows)
meetings_by [] rows = refl
meetings_by (j ∷ js) rows = meetings_by js (change dead_row rows j) ∙ ap (λ z. met_by js z) (meetings_change rows j)

pub length-rows_by : (js : List ℕ) (rows : List FactRow) → length (rows_by js rows) ≡ length rows
length-rows_by [] rows = refl
length-rows_by (j ∷ js) rows = length-rows_by js (change dead_row rows j) ∙ length-change dead_row rows j

-- one more of them
pub rows_more : (js : List ℕ) (j : ℕ) (rows : List FactRow) → rows_by (js ++ j ∷ []) rows ≡ change dead_row (rows_by js rows) j
rows_more [] j rows = refl
rows_more (i ∷ js) j rows = rows_more js j (change dead_row rows i)

row_at : (rows : List FactRow) (j : ℕ) → j < length rows → (r : FactRow) × (slice_get rows j ≡ Some r)
row_at [] j l = absurd (omega (arith, l))
row_at (r ∷ rows) zero l = (r, refl)
row_at (r ∷ rows) (suc j) l = row_at rows j (omega (arith, l))

or_true : (b : Bool) → b || true ≡ true
or_true true = refl
or_true false = refl

or_false : (b : Bool) → b || false ≡ b
or_false true = refl
or_false false = refl

dead_same : (rows : List FactRow) (j n : ℕ) → j < length rows → j ≡ n → dead_in (slice_get (change dead_row rows j) n) ≡ true
dead_same rows j n l e =
    let at = row_at rows j l in
    subst (λ z. dead_in (slice_get (change dead_row rows j) z) ≡ true) e (ap dead_in (get-change_same dead_row rows j at.0 at.1))

dead_row_of : (killer : ℕ) (es : List Entry) (rows : List FactRow) (j n : ℕ) → AreRows es rows → j < length rows → is_dead (es ++ Dies j killer ∷ []) n ≡ dead_in (slice_get (change dead_row rows j) n)
dead_row_of killer es rows j n a l = elim (cases_Bool (j == n)) as (λ _. is_dead (es ++ Dies j killer ∷ []) n ≡ dead_in (slice_get (change dead_row rows j) n)) [
  | inl e ↦ dead-dies es killer j n ∙ ap (λ z. is_dead es n || z) e ∙ or_true (is_dead es n) ∙ sym (dead_same rows j n l (eqb-true j n e))
  | inr e ↦ dead-dies es killer j n ∙ ap (λ z. is_dead es n || z) e ∙ or_false (is_dead es n) ∙ a.dead n ∙ ap dead_in (sym (get-change_other dead_row rows j n (eqb-false j n e)))
]

weight_same : (rows : List FactRow) (j n : ℕ) → weight_in (slice_get rows n) ≡ weight_in (slice_get (change dead_row rows j) n)
weight_same [] j n = refl
weight_same (r ∷ rows) zero zero = refl
weight_same (r ∷ rows) zero (suc n) = refl
weight_same (r ∷ rows) (suc j) zero = refl
weight_same (r ∷ rows) (suc j) (suc n) = weight_same rows j n

row_dies : (killer : ℕ) (es : List Entry) (rows : List FactRow) (j : ℕ) → j < length (born es) → AreRows es rows → AreRows (es ++ Dies j killer ∷ []) (change dead_row rows j)
row_dies killer es rows j l a =
    let b : born (es ++ Dies j killer ∷ []) ≡ born es = born-dies es j killer in
    let many : length rows ≡ length (born es) = a.as_many in
    record {
      as_many = length-change dead_row rows j ∙ many ∙ ap length (sym b);
      dead = λ n. dead_row_of killer es rows j n a (omega (arith, many, l));
      weights = λ n. ap (λ fs. sides_weight (slice_get fs n)) b ∙ a.weights n ∙ weight_same rows j n;
    }

pub rows_die : (killer : ℕ) (js : List ℕ) (es : List Entry) (rows : List FactRow) → AreBelow (length (born es)) js → AreRows es rows → AreRows (es ++ deaths_by killer js) (rows_by js rows)
rows_die killer [] es rows b a = subst (λ z. AreRows z rows) (sym (append-nil es)) a
rows_die killer (j ∷ js) es rows b a =
    let k : AreBelow (length (born (es ++ Dies j killer ∷ []))) js = subst (λ fs. AreBelow (length fs) js) (sym (born-dies es j killer)) b.1 in
    subst (λ z. AreRows z (rows_by (j ∷ js) rows)) (append_assoc es (Dies j killer ∷ []) (deaths_by killer js))
    (rows_die killer js (es ++ Dies j killer ∷ []) (change dead_row rows j) k (row_dies killer es rows j b.0 a))

-- no fact is Unmet that wasn't

not_unmet : (m : Meeting) → is_unmet (meets_unmet m) ≡ false
not_unmet Unmet = refl
not_unmet Visiting = refl
not_unmet Met = refl

none_more : (rows : List FactRow) (j k : ℕ) (d : FactRow) → k < length rows → is_unmet (slice_index_or rows k d).meeting ≡ false → is_unmet (slice_index_or (change dead_row rows j) k d).meeting ≡ false
none_more [] j k d l h = h
none_more (r ∷ rows) zero zero d l h = not_unmet r.meeting
none_more (r ∷ rows) zero (suc k) d l h = h
none_more (r ∷ rows) (suc j) zero d l h = h
none_more (r ∷ rows) (suc j) (suc k) d l h = none_more rows j k d (omega (arith, l)) h

none_unmet_one : (j n : ℕ) (rows : List FactRow) → NoneUnmetBelow n rows → NoneUnmetBelow n (change dead_row rows j)
none_unmet_one j n rows h k d l m =
    let m2 : k < length rows = subst (λ z. k < z) (length-change dead_row rows j) m in
    none_more rows j k d m2 (h k d l m2)

pub none_unmet : (js : List ℕ) (n : ℕ) (rows : List FactRow) → NoneUnmetBelow n rows → NoneUnmetBelow n (rows_by js rows)
none_unmet [] n rows h = h
none_unmet (j ∷ js) n rows h = none_unmet js n (change dead_row rows j) (none_unmet_one j n rows h)
