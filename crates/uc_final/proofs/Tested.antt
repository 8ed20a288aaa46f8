-- The tests of pairs, one by one.
use Rattle.std.proofs.Common.{◌≡◌, ℕ, zero, suc, ◌+◌, ◌<◌, ◌≤◌, List, [], ◌∷◌, ◌++◌, length, get_or, take, Option, Some, None, sym, subst, arith}
use Rattle.std.proofs.lemmas.List.{take_more, take_all}
use Rattle.uc_term.specs.declared.equation.Equation.{Equation}
use Rattle.uc_order.specs.Laws.{Meaning}
use Rattle.uc_fact.specs.declared.fact.Fact.{Fact}
use Rattle.uc_fact.specs.declared.fact.Origin.{Origin}
use Rattle.uc_fact.specs.declared.joinable.Joinable.{Joinable}
use Rattle.uc_fact.specs.declared.joinable.Reason.{Reason}
use Rattle.uc_ground.specs.Joining.{IsJoined}
use Rattle.uc_shelf.specs.declared.entry.Entry.{Entry}
use Rattle.uc_machine.specs.declared.task.Missing.{Missing}
use Rattle.uc_machine.specs.Lists.{Each}
use Rattle.uc_machine.specs.Finals.{Tests, all_tested, is_joined as joined_on, is_missing as missing_on}
use Rattle.uc_task.specs.declared.trial.Tried.{Tried}
use Rattle.uc_task.specs.declared.trial.Tried.TheVariants.{Joined, Open}
use Rattle.uc_task.specs.Trying.{IsTried, ends_join, ends_differ}
use Rattle.uc_final.specs.Phases.{IsTested, is_joined, is_missing, list_of}

pub each_at : {A : Type 0} (P : A → Type 0) (xs : List A) (k : ℕ) (d : A) → k < length xs → Each P xs → P (get_or xs k d)
each_at P [] k d h all = absurd (omega arith)
each_at P (x ∷ xs) zero d h all = all.0
each_at P (x ∷ xs) (suc k) d h all = each_at P xs k d (omega arith) all.1

module _ (m : Meaning) (axioms : List Equation) (entries : List Entry) where
  -- from a trial
  pub none_by_trial : (o : Origin) (r : Tried) (why : Reason) → r ≡ Joined why → IsTried m axioms entries o r → IsTested m axioms entries o None
  none_by_trial o _ why q (ends_join t i e) = is_joined t i (subst IsJoined (sym e) tt)
  none_by_trial o _ why q (ends_differ t i n g) = absurd cc

  pub some_by_trial : (o : Origin) (r : Tried) (f : Fact) (a : Joinable) → r ≡ Open f a → IsTried m axioms entries o r → IsTested m axioms entries o (Some (record { origin = o; fact = f; open_case = a }))
  some_by_trial o _ f a q (ends_join t i e) = absurd cc
  some_by_trial o _ f a q (ends_differ {f = h} t i n g) =
      let ef : h ≡ f = cc in
      let ea : t.answer ≡ a = cc in
      subst (λ x. IsTested m axioms entries o (Some (record { origin = o; fact = f; open_case = x }))) ea (subst (λ x. IsTested m axioms entries o (Some (record { origin = o; fact = x; open_case = t.answer }))) ef (is_missing t i n g))

  pub one_more : (o : Origin) (x : Option Missing) → IsTested m axioms entries o x → Tests m axioms entries (o ∷ []) (list_of x)
  one_more o _ (is_joined t i j) = joined_on t i j all_tested
  one_more o _ (is_missing t i n g) = missing_on t i n g all_tested

  tests_on : (os : List Origin) (ms : List Missing) (o : Origin) (x : Option Missing) → Tests m axioms entries os ms → IsTested m axioms entries o x → Tests m axioms entries (os ++ o ∷ []) (ms ++ list_of x)
  tests_on _ _ o x all_tested k = one_more o x k
  tests_on _ _ o x (joined_on {os = os} {ms = ms} t i j rest) k = joined_on t i j (tests_on os ms o x rest k)
  tests_on _ _ o x (missing_on {os = os} {ms = ms} t i n g rest) k = missing_on t i n g (tests_on os ms o x rest k)

  pub tests_next : (os : List Origin) (k : ℕ) (d : Origin) (x : Option Missing) (old new : List Missing) → k < length os → new ≡ old ++ list_of x → IsTested m axioms entries (get_or os k d) x → Tests m axioms entries (take k os) old → Tests m axioms entries (take (k + 1) os) new
  tests_next os k d x old new h n t so = subst (λ l. Tests m axioms entries l new) (sym (take_more os k d h)) (subst (Tests m axioms entries (take k os ++ get_or os k d ∷ [])) (sym n) (tests_on (take k os) old (get_or os k d) x so t))

  pub tests_end : (os : List Origin) (k : ℕ) (ms : List Missing) → length os ≤ k → Tests m axioms entries (take k os) ms → Tests m axioms entries os ms
  tests_end os k ms h so = subst (λ l. Tests m axioms entries l ms) (take_all k os h) so
