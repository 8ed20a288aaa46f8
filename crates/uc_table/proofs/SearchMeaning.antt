-- What the steps of a clause come to is what the prefix fixes.
use Rattle.std.proofs.Common.{◌≡◌, ℕ, ◌+◌, ◌/◌, ◌%◌, ◌^◌, ◌≤◌, List, [], ◌∷◌, ◌++◌, length, take, drop, refl, ap, sym, ◌∙◌, arith, subst, Bool, true, false, append_assoc, append-nil, if◌then◌else◌, ◌==◌}
use Rattle.std.specs.Prelude.{slice_get, Option, Some, None}
use Rattle.std.proofs.lemmas.Grind.{common_steps}
use Rattle.uc_term.specs.declared.node.Sym.{Sym}
use Rattle.uc_term.specs.declared.node.Node.{Node}
use Rattle.uc_term.specs.declared.node.Node.TheVariants.{App}
use Rattle.uc_term.specs.Tree.{Tree, var, app, Trees, none, more, count}
use Rattle.uc_term.specs.Flat.{flat, flat_all}
use Rattle.uc_term.specs.Table.{Table as SymbolTable, arity_of}
use Rattle.uc_table.specs.declared.search_steps.Step.{Step}
use Rattle.uc_table.specs.declared.search_steps.Step.TheVariants.{Foreign}
use Rattle.uc_table.specs.Algebras.{place_of}
use Rattle.uc_table.specs.SearchCells.{first_cell, behind_some, cell_in, fixed_by, all_fixed_by}
use Rattle.uc_table.specs.SearchSteps.{Ran, stops, go_on, read, take_step, run}
use Rattle.uc_table.specs.SearchForms.{applied, step_of, steps_of}
use Rattle.uc_table.proofs.SearchRuns.{not_lt}

module _ (symbols : SymbolTable) (size : ℕ) (signature : List Sym) (prefix : List ℕ) (a : ℕ) where
  -- the value of a variable
  abbrev pub digit : ℕ → ℕ
  digit x = (a / size ^ x) % size

  abbrev fixed : Tree → Option ℕ
  fixed t = fixed_by (cell_in symbols size signature prefix) digit t

  abbrev all_fixed : Trees → Option (List ℕ)
  all_fixed ts = all_fixed_by (cell_in symbols size signature prefix) digit ts

  abbrev steps : List Node → List Step
  steps ns = steps_of symbols size signature ns

  pub steps_append : (xs ys : List Node) → steps (xs ++ ys) ≡ steps ys ++ steps xs
  steps_append [] ys = sym (append-nil (steps ys))
  steps_append (n ∷ xs) ys = ap (λ z. z ++ step_of symbols size signature n ∷ []) (steps_append xs ys) ∙ append_assoc (steps ys) (steps xs) (step_of symbols size signature n ∷ [])

  -- the value of the term stands on the stack; or the steps don't get behind it
  abbrev Runs : Option ℕ → List Step → Ran → List ℕ → Type 0
  Runs (Some v) rest r stack = r ≡ run size a prefix rest (v ∷ stack)
  Runs None rest r stack = (out : List ℕ) → r ≡ stops out → ⊥

  abbrev RunsAll : Option (List ℕ) → List Step → Ran → List ℕ → Type 0
  RunsAll (Some vs) rest r stack = r ≡ run size a prefix rest (vs ++ stack)
  RunsAll None rest r stack = (out : List ℕ) → r ≡ stops out → ⊥

  fixed_count : (ts : Trees) (vs : List ℕ) → all_fixed ts ≡ Some vs → length vs ≡ count ts
  fixed_count none vs e = let z : [] ≡ vs = cc in sym (ap length z)
  fixed_count (more t ts) vs e = go (fixed t) (all_fixed ts) refl e (λ us d. fixed_count ts us d)
    where
      go : (o : Option ℕ) (p : Option (List ℕ)) → all_fixed ts ≡ p → behind_some o (λ v. behind_some p (λ us. Some (v ∷ us))) ≡ Some vs → ((us : List ℕ) → all_fixed ts ≡ Some us → length us ≡ count ts) → length vs ≡ count ts + 1
      go None p d e h = cc
      go (Some v) None d e h = cc
      go (Some v) (Some us) d e h = let z : v ∷ us ≡ vs = cc in let k : length us ≡ count ts = h us d in let m : length (v ∷ us) ≡ length vs = ap length z in omega arith

  take_front : (vs stack : List ℕ) → take (length vs) (vs ++ stack) ≡ vs
  take_front [] stack = refl
  take_front (v ∷ vs) stack = ap (λ z. v ∷ z) (take_front vs stack)

  drop_front : (vs stack : List ℕ) → drop (length vs) (vs ++ stack) ≡ stack
  drop_front [] stack = refl
  drop_front (v ∷ vs) stack = drop_front vs stack

  long_front : (vs stack : List ℕ) → length vs ≤ length (vs ++ stack)
  long_front vs stack = grind (arith, common_steps)

  -- a symbol is applied to its arguments' values
  run_symbol : (f : Sym) (vs : List ℕ) (rest : List Step) (stack : List ℕ) (b : Bool) → (length vs == arity_of symbols f) ≡ b → (o : Option ℕ) → first_cell symbols size signature f ≡ o → Runs (if b then behind_some o (λ k. slice_get prefix (k + place_of size vs)) else None) rest (go_on (take_step size a prefix (if b then applied symbols size signature o (length vs) else Foreign) (vs ++ stack)) (run size a prefix rest)) stack
  run_symbol f vs rest stack false e o d = λ out g. cc
  run_symbol f vs rest stack true e None d = λ out g. cc
  run_symbol f vs rest stack true e (Some k) d = rw (not_lt (length (vs ++ stack)) (length vs) (long_front vs stack), take_front vs stack, drop_front vs stack) (at (slice_get prefix (k + place_of size vs)))
    where
      at : (o : Option ℕ) → Runs o rest (go_on (read o (k + place_of size vs) stack) (run size a prefix rest)) stack
      at None = λ out g. cc
      at (Some v) = refl

  run_last : (f : Sym) (n : ℕ) (rest : List Step) (stack : List ℕ) (r : Ran) (p : Option (List ℕ)) → ((vs : List ℕ) → p ≡ Some vs → length vs ≡ n) → RunsAll p (step_of symbols size signature (App f n) ∷ rest) r stack → Runs (behind_some p (cell_in symbols size signature prefix f)) rest r stack
  run_last f n rest stack r None l h = h
  run_last f n rest stack r (Some vs) l h =
      let m : length vs ≡ n = l vs refl in
      let s : Runs (cell_in symbols size signature prefix f vs) rest (go_on (take_step size a prefix (step_of symbols size signature (App f (length vs))) (vs ++ stack)) (run size a prefix rest)) stack = run_symbol f vs rest stack (length vs == arity_of symbols f) refl (first_cell symbols size signature f) refl in
      let t : Runs (cell_in symbols size signature prefix f vs) rest (go_on (take_step size a prefix (step_of symbols size signature (App f n)) (vs ++ stack)) (run size a prefix rest)) stack = subst (λ k. Runs (cell_in symbols size signature prefix f vs) rest (go_on (take_step size a prefix (step_of symbols size signature (App f k)) (vs ++ stack)) (run size a prefix rest)) stack) m s in
      subst (λ z. Runs (cell_in symbols size signature prefix f vs) rest z stack) (sym h) t

  none_both : (o : Option ℕ) (rest : List Step) (r : Ran) (stack : List ℕ) → ((out : List ℕ) → r ≡ stops out → ⊥) → RunsAll (behind_some o (λ v. None)) rest r stack
  none_both None rest r stack h = h
  none_both (Some v) rest r stack h = h

  run_more : (o : Option ℕ) (p : Option (List ℕ)) (ss rest : List Step) (stack : List ℕ) (r : Ran) → RunsAll p (ss ++ rest) r stack → ((vs : List ℕ) → Runs o rest (run size a prefix (ss ++ rest) (vs ++ stack)) (vs ++ stack)) → RunsAll (behind_some o (λ v. behind_some p (λ vs. Some (v ∷ vs)))) rest r stack
  run_more o None ss rest stack r h g = none_both o rest r stack h
  run_more None (Some vs) ss rest stack r h g = λ out e. g vs out (sym h ∙ e)
  run_more (Some v) (Some vs) ss rest stack r h g = h ∙ g vs

  mutual
    pub run_tree : (t : Tree) (rest : List Step) (stack : List ℕ) → Runs (fixed t) rest (run size a prefix (steps (flat t) ++ rest) stack) stack
    run_tree (var x) rest stack = refl
    run_tree (app f ts) rest stack = rw (append_assoc (steps (flat_all ts)) (step_of symbols size signature (App f (count ts)) ∷ []) rest)
        (run_last f (count ts) rest stack (run size a prefix (steps (flat_all ts) ++ step_of symbols size signature (App f (count ts)) ∷ rest) stack) (all_fixed ts) (fixed_count ts) (run_trees ts (step_of symbols size signature (App f (count ts)) ∷ rest) stack))

    run_trees : (ts : Trees) (rest : List Step) (stack : List ℕ) → RunsAll (all_fixed ts) rest (run size a prefix (steps (flat_all ts) ++ rest) stack) stack
    run_trees none rest stack = refl
    run_trees (more t ts) rest stack =
        let e : steps (flat t ++ flat_all ts) ++ rest ≡ steps (flat_all ts) ++ (steps (flat t) ++ rest) = ap (λ z. z ++ rest) (steps_append (flat t) (flat_all ts)) ∙ append_assoc (steps (flat_all ts)) (steps (flat t)) rest in
        subst (λ ss. RunsAll (all_fixed (more t ts)) rest (run size a prefix ss stack) stack) (sym e)
        (run_more (fixed t) (all_fixed ts) (steps (flat t)) rest stack (run size a prefix (steps (flat_all ts) ++ (steps (flat t) ++ rest)) stack) (run_trees ts (steps (flat t) ++ rest) stack) (λ vs. run_tree t rest (vs ++ stack)))

  -- both sides have values exactly where the steps of both end with them
  pub both_run : (left right : Tree) (l r : ℕ) → fixed left ≡ Some l → fixed right ≡ Some r → run size a prefix (steps (flat right) ++ steps (flat left)) [] ≡ stops (l ∷ r ∷ [])
  both_run left right l r e f =
      let s : Runs (Some r) (steps (flat left)) (run size a prefix (steps (flat right) ++ steps (flat left)) []) [] = subst (λ o. Runs o (steps (flat left)) (run size a prefix (steps (flat right) ++ steps (flat left)) []) []) f (run_tree right (steps (flat left)) []) in
      let t : Runs (Some l) [] (run size a prefix (steps (flat left) ++ []) (r ∷ [])) (r ∷ []) = subst (λ o. Runs o [] (run size a prefix (steps (flat left) ++ []) (r ∷ [])) (r ∷ [])) e (run_tree left [] (r ∷ [])) in
      s ∙ ap (λ ss. run size a prefix ss (r ∷ [])) (sym (append-nil (steps (flat left)))) ∙ t

  pub run_both : (left right : Tree) (l r : ℕ) → run size a prefix (steps (flat right) ++ steps (flat left)) [] ≡ stops (l ∷ r ∷ []) → (fixed left ≡ Some l) × (fixed right ≡ Some r)
  run_both left right l r e = at_right (fixed right) refl (run_tree right (steps (flat left)) [])
    where
      at_left : (u : ℕ) → fixed right ≡ Some u → run size a prefix (steps (flat left)) (u ∷ []) ≡ stops (l ∷ r ∷ []) → (o : Option ℕ) → fixed left ≡ o → Runs o [] (run size a prefix (steps (flat left) ++ []) (u ∷ [])) (u ∷ []) → (fixed left ≡ Some l) × (fixed right ≡ Some r)
      at_left u d g None c h = absurd (h (l ∷ r ∷ []) (ap (λ ss. run size a prefix ss (u ∷ [])) (append-nil (steps (flat left))) ∙ g))
      at_left u d g (Some v) c h =
          let k : stops (v ∷ u ∷ []) ≡ stops (l ∷ r ∷ []) = sym h ∙ ap (λ ss. run size a prefix ss (u ∷ [])) (append-nil (steps (flat left))) ∙ g in
          let x : v ≡ l = cc in
          let y : u ≡ r = cc in
          (c ∙ ap Some x, d ∙ ap Some y)

      at_right : (o : Option ℕ) → fixed right ≡ o → Runs o (steps (flat left)) (run size a prefix (steps (flat right) ++ steps (flat left)) []) [] → (fixed left ≡ Some l) × (fixed right ≡ Some r)
      at_right None d h = absurd (h (l ∷ r ∷ []) e)
      at_right (Some u) d h = at_left u d (sym h ∙ e) (fixed left) refl (run_tree left [] (u ∷ []))
