-- Names up to their last slash.
use Rattle.std.proofs.Common.{◌≡◌, ℕ, zero, suc, ◌<◌, ◌≤◌, List, [], ◌∷◌, Bool, true, false, ◌||◌, length, take, drop, get_or, refl, ap, ◌∙◌, arith, if◌then◌else◌}
use Rattle.std.specs.Prelude.{◌==◌}
use Rattle.std.specs.List.{list_any}
use Rattle.std.proofs.lemmas.Bool.Decides.{nat_tests}
use Rattle.std.proofs.lemmas.List.Folds.{list_any_at}
use Rattle.uc_problem.specs.Candidates.{folder_of}

abbrev pub slash : ℕ → Bool
slash b = b == 47

or_true : (a : Bool) (l : List ℕ) (b : ℕ) → (if a || true then b ∷ l else []) ≡ b ∷ l
or_true true l b = refl
or_true false l b = refl

no_folder : (bs : List ℕ) → list_any slash bs ≡ false → folder_of bs ≡ []
no_folder [] e = refl
no_folder (b ∷ bs) e = rw e refl

-- behind `end` there is no slash, and `end` is 0 or stands behind one
pub folder_is : (bs : List ℕ) (end : ℕ) → list_any slash (drop end bs) ≡ false → ((k : ℕ) → suc k ≡ end → get_or bs k 0 ≡ 47) → end ≤ length bs → folder_of bs ≡ take end bs
folder_is bs zero e last h = no_folder bs e
folder_is [] (suc end) e last h = absurd (omega arith)
folder_is (b ∷ bs) (suc zero) e last h =
    let at : b ≡ 47 = last zero refl in
    let here : (b == 47) ≡ true = grind (arith, nat_tests) in
    rw here (ap (λ l. b ∷ l) (no_folder bs e))
folder_is (b ∷ bs) (suc (suc end)) e last h =
    let at : get_or bs end 0 ≡ 47 = last (suc end) refl in
    let within : end < length bs = omega arith in
    let there : list_any slash bs ≡ true = list_any_at slash bs end 0 within (let q : (get_or bs end 0 == 47) ≡ true = grind (arith, nat_tests) in q) in
    rw there (or_true (b == 47) (folder_of bs) b ∙ ap (λ l. b ∷ l) (folder_is bs (suc end) e (λ k q. last (suc k) (ap suc q)) (omega arith)))
