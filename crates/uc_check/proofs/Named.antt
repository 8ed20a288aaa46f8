-- The lines that the steps of a chain name, each once, by first use.
use Rattle.std.proofs.Common.{◌≡◌, ℕ, zero, suc, ◌+◌, ◌≤◌, inl, inr, ◌↔◌, Bool, true, false, ◌==◌, ◌||◌, List, [], ◌∷◌, ◌++◌, length, take, drop, map, slice_get, Some, refl, sym, ap, ◌∙◌, subst, arith, append_assoc, append-nil, if◌then◌else◌}
use Rattle.std.proofs.lemmas.Option.{slice_get_within}
use Rattle.std.proofs.lemmas.List.{drop_all}
use Rattle.std.proofs.Math.Bool.{or_comm}
use Rattle.uc_term.specs.Variables.{is_among, firsts_after}
use Rattle.uc_term.proofs.Firsts.{is_among-append, or-false}
use Rattle.uc_check.specs.declared.proof.LineStep.{LineStep}
use Rattle.uc_check.specs.Lines.{named_by}
use Rattle.uc_check.specs.Parents.{NamesParent, NamesNoParent}

abbrev pub bys : List LineStep → List ℕ
bys steps = map (λ (step : LineStep). step.by) steps

-- behind the steps so far the first `named` parents are named
pub record Named (parents : List ℕ) (steps : List LineStep) (index named : ℕ) : Type 0 where
  pub seen : List ℕ
  pub within : named ≤ length parents
  pub names : named_by steps ≡ take named parents ++ firsts_after seen (bys (drop index steps))
  pub same : (x : ℕ) → is_among x seen ≡ is_among x (take named parents)

pub named_none : (parents : List ℕ) (steps : List LineStep) → Named parents steps 0 0
named_none parents steps = record { seen = []; within = omega arith; names = refl; same = λ x. refl }

swap : (a b : Bool) → (a || (b || false)) ≡ (b || a)
swap a b = ap (λ z. a || z) (or-false b) ∙ or_comm a b

take-next : (xs : List ℕ) (i x : ℕ) → slice_get xs i ≡ Some x → take (i + 1) xs ≡ take i xs ++ x ∷ []
take-next [] i x e = absurd cc
take-next (y ∷ xs) zero x e = ap (λ z. z ∷ []) cc
take-next (y ∷ xs) (suc i) x e = let at : suc i + 1 ≡ suc (i + 1) = omega arith in ap (λ k. take k (y ∷ xs)) at ∙ ap (λ l. y ∷ l) (take-next xs i x e)

after : (seen : List ℕ) (x : ℕ) (xs : List ℕ) (b : Bool) → is_among x seen ≡ b → firsts_after seen (x ∷ xs) ≡ (if b then firsts_after seen xs else x ∷ firsts_after (x ∷ seen) xs)
after seen x xs b e = rw e refl

module _ (parents : List ℕ) (steps : List LineStep) (index named : ℕ) (step : LineStep) (n : Named parents steps index named) (at : drop index steps ≡ step ∷ drop (index + 1) steps) where
  abbrev rest : List ℕ
  rest = bys (drop (index + 1) steps)

  begins : named_by steps ≡ take named parents ++ firsts_after n.seen (step.by ∷ rest)
  begins = n.names ∙ ap (λ l. take named parents ++ firsts_after n.seen (bys l)) at

  new_name : is_among step.by (take named parents) ≡ false → named_by steps ≡ take named parents ++ step.by ∷ firsts_after (step.by ∷ n.seen) rest
  new_name e = begins ∙ ap (λ l. take named parents ++ l) (after n.seen step.by rest false (n.same step.by ∙ e))

  pub named_more : (more : ℕ) → NamesParent parents named step.by more → Named parents steps (index + 1) more
  named_more more (inl h) = subst (Named parents steps (index + 1)) (sym h.1) (record {
    seen = n.seen;
    within = n.within;
    names = begins ∙ ap (λ l. take named parents ++ l) (after n.seen step.by rest true (n.same step.by ∙ h.0));
    same = n.same;
  })
  named_more more (inr h) = subst (Named parents steps (index + 1)) (sym h.2) (record {
    seen = step.by ∷ n.seen;
    within = let i = slice_get_within parents named step.by h.1 in omega arith;
    names = new_name h.0 ∙ sym (append_assoc (take named parents) (step.by ∷ []) (firsts_after (step.by ∷ n.seen) rest)) ∙ ap (λ l. l ++ firsts_after (step.by ∷ n.seen) rest) (sym (take-next parents named step.by h.1));
    same = λ x. ap (λ b. (x == step.by) || b) (n.same x) ∙ sym (swap (is_among x (take named parents)) (x == step.by)) ∙ sym (is_among-append x (take named parents) (step.by ∷ [])) ∙ ap (is_among x) (sym (take-next parents named step.by h.1));
  })

  take-split : (xs ys : List ℕ) (i y : ℕ) → i ≤ length xs → xs ≡ take i xs ++ y ∷ ys → slice_get xs i ≡ Some y
  take-split [] ys zero y h e = absurd cc
  take-split [] ys (suc i) y h e = absurd (omega arith)
  take-split (x ∷ xs) ys zero y h e = ap Some cc
  take-split (x ∷ xs) ys (suc i) y h e = take-split xs ys i y (omega arith) cc

  pub named_otherwise : NamesNoParent parents named step.by → parents ≡ named_by steps → ⊥
  named_otherwise h e = h.1 (take-split parents (firsts_after (step.by ∷ n.seen) rest) named step.by n.within (e ∙ new_name h.0))

-- behind all steps
pub named_all : (parents : List ℕ) (steps : List LineStep) (index named : ℕ) → Named parents steps index named → length steps ≤ index → named_by steps ≡ take named parents
named_all parents steps index named n h = n.names ∙ ap (λ l. take named parents ++ firsts_after n.seen (bys l)) (drop_all index steps h) ∙ append-nil (take named parents)

take-whole : (xs : List ℕ) (i : ℕ) → i ≡ length xs → take i xs ≡ xs
take-whole [] zero h = refl
take-whole [] (suc i) h = refl
take-whole (x ∷ xs) zero h = absurd (omega arith)
take-whole (x ∷ xs) (suc i) h = ap (λ l. x ∷ l) (take-whole xs i (omega arith))

whole-take : (xs : List ℕ) (i : ℕ) → i ≤ length xs → xs ≡ take i xs → i ≡ length xs
whole-take [] zero h e = refl
whole-take [] (suc i) h e = absurd (omega arith)
whole-take (x ∷ xs) zero h e = absurd cc
whole-take (x ∷ xs) (suc i) h e = let r = whole-take xs i (omega arith) cc in omega arith

pub all_named : (parents : List ℕ) (steps : List LineStep) (index named : ℕ) → Named parents steps index named → length steps ≤ index → (named ≡ length parents) ↔ (parents ≡ named_by steps)
all_named parents steps index named n h =
    let e = named_all parents steps index named n h in
    (λ q. sym (e ∙ take-whole parents named q), λ q. whole-take parents named n.within (q ∙ e))
