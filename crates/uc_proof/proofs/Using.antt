-- What is used is found in one pass from the last fact to the first, and what is denied in one over the sources.
use Rattle.std.proofs.Common.{◌≡◌, ℕ, zero, suc, ◌+◌, ◌≤◌, ◌↔◌, List, [], ◌∷◌, drop, slice_get, Option, Some, None, refl, sym, ap, ◌∙◌, subst, arith, ◌⊎◌, inl, inr}
use Rattle.uc_fact.specs.declared.chain.By.{By}
use Rattle.uc_fact.specs.declared.chain.By.TheVariants.{Axiom as AxiomOf, Fact as FactOf}
use Rattle.uc_fact.specs.declared.chain.Chain.{Chain}
use Rattle.uc_fact.specs.declared.fact.Fact.{Fact}
use Rattle.uc_problem.specs.declared.problem.Encoded.{Encoded}
use Rattle.uc_problem.specs.declared.problem.Source.{Source}
use Rattle.uc_problem.specs.declared.problem.Source.TheVariants as source
use Rattle.uc_proof.specs.declared.aim.Aim.{Aim}
use Rattle.uc_proof.specs.declared.aim.Aim.TheVariants as aim
use Rattle.uc_proof.specs.declared.part.Part.{Part}
use Rattle.uc_proof.specs.declared.part.Part.TheVariants as part
use Rattle.uc_proof.specs.Needed.{IsUsed, by_aim, by_fact, IsProvedBy, IsGoal, IsDenied, is_proved, is_encoded, IsNeeded}
use Rattle.uc_proof.specs.Parts.{part_of}
use Rattle.uc_proof.specs.Making.{IsAmong, IsNamedPart, IsUsedPart, IsAimedPart, IsGoalPart, NameEarlier, IsGoalOf, IsDeniedFrom, IsClauseOf}
use Rattle.uc_proof.proofs.Among.{one_more}
use Rattle.uc_proof.proofs.Ready.{named_part, part_named, aimed_part, part_aimed}

used_part : (facts : List Fact) (aimed : Aim) (by : By) → IsUsed facts aimed by → IsUsedPart facts aimed (part_of by)
used_part facts aimed (AxiomOf k) u = u
used_part facts aimed (FactOf n) u = u

-- all parts that facts from this number on use are in
pub record Uses (facts : List Fact) (initial : List Part) (number : ℕ) (now : List Part) : Type 0 where
  pub grows : (p : Part) → IsAmong p initial → IsAmong p now
  pub sound : (aimed : Aim) → ((p : Part) → IsAmong p initial → IsUsedPart facts aimed p) → (p : Part) → IsAmong p now → IsUsedPart facts aimed p
  pub closed : (n : ℕ) (fact : Fact) → number ≤ n → slice_get facts n ≡ Some fact → IsAmong (part.Fact n) now → (p : Part) → IsNamedPart fact.chain.steps p → IsAmong p now

module _ (facts : List Fact) (earlier : NameEarlier facts) (initial : List Part) (number k : ℕ) (now next : List Part) (u : Uses facts initial number now) (down : number ≡ k + 1) (own : Fact) (own_is : slice_get facts k ≡ Some own) (add : (p : Part) → IsAmong p next ↔ (IsAmong p now ⊎ (IsAmong (part.Fact k) now × IsNamedPart own.chain.steps p))) where
  from_use : (aimed : Aim) → IsUsed facts aimed (FactOf k) → (p : Part) → IsNamedPart own.chain.steps p → IsUsedPart facts aimed p
  from_use aimed v p h = let r = named_part own.chain.steps p h in subst (IsUsedPart facts aimed) r.1 (used_part facts aimed r.0 (by_fact v own_is r.2))

  -- a fact from this number on was there before
  was_there : (n : ℕ) → k ≤ n → IsAmong (part.Fact n) next → IsAmong (part.Fact n) now
  was_there n l h = elim ((add (part.Fact n)).0 h) [ inl m ↦ m | inr b ↦ let e = earlier k n own own_is b.1 in absurd (omega arith) ]

  pub uses_on : Uses facts initial k next
  uses_on = record {
    grows = λ p h. (add p).1 (inl (u.grows p h));
    sound = λ aimed s p h. elim ((add p).0 h) [ inl m ↦ u.sound aimed s p m | inr b ↦ from_use aimed (u.sound aimed s (part.Fact k) b.0) p b.1 ];
    closed = λ n fact l g h p a.
        let m = was_there n l h in
        let which : (n ≡ k) ⊎ (number ≤ n) = grind arith in
        elim which [
          | inl q ↦
              let same : fact ≡ own = let z : Some fact ≡ Some own = sym g ∙ ap (slice_get facts) q ∙ own_is in cc in
              (add p).1 (inr (subst (λ (i : ℕ). IsAmong (part.Fact i) now) q m, subst (λ (f : Fact). IsNamedPart f.chain.steps p) same a))
          | inr b ↦ (add p).1 (inl (u.closed n fact b g m p a))
        ];
  }

module _ (facts : List Fact) (initial now : List Part) (u : Uses facts initial 0 now) (aimed : Aim) (named : (p : Part) → IsAmong p initial ↔ IsAimedPart aimed p) where
  complete : (by : By) → IsUsed facts aimed by → IsAmong (part_of by) now
  complete by (by_aim h) = u.grows (part_of by) ((named (part_of by)).1 (part_aimed aimed by h))
  complete by (by_fact {n} {fact} v g h) = u.closed n fact (omega arith) g (complete (FactOf n) v) (part_of by) (part_named fact.chain.steps by h)

  from_aim : (p : Part) → IsAmong p initial → IsUsedPart facts aimed p
  from_aim p h = let r = aimed_part aimed p ((named p).0 h) in subst (IsUsedPart facts aimed) r.1 (used_part facts aimed r.0 (by_aim r.2))

  among_used : (p : Part) → IsUsedPart facts aimed p → IsAmong p now
  among_used (part.Axiom k) v = complete (AxiomOf k) v
  among_used (part.Denial c) v = absurd v
  among_used (part.Fact n) v = complete (FactOf n) v
  among_used part.Conclusion v = absurd v
  among_used part.Refutation v = absurd v

  pub uses_all : (p : Part) → IsAmong p now ↔ IsUsedPart facts aimed p
  uses_all p = (u.sound aimed from_aim p, among_used p)

-- the goals of the sources
pub record Denies (sources : List Source) (initial : List Part) (i : ℕ) (now : List Part) : Type 0 where
  pub same : (k : ℕ) → IsAmong (part.Axiom k) now ↔ IsAmong (part.Axiom k) initial
  pub rest : (p : Part) → (IsAmong p now ⊎ IsDeniedFrom i (drop i sources) initial p) ↔ (IsAmong p initial ⊎ IsDeniedFrom 0 sources initial p)

no_axiom : (s : Source) (k : ℕ) → IsGoalOf s (part.Axiom k) → ⊥
no_axiom (source.Clause c) k h = h
no_axiom source.Reflexive k h = h
no_axiom (source.Goal c) k h = cc

module _ (sources : List Source) (initial : List Part) (i : ℕ) (now next : List Part) (s : Source) (d : Denies sources initial i now) (at : drop i sources ≡ s ∷ drop (i + 1) sources) (add : (p : Part) → IsAmong p next ↔ (IsAmong p now ⊎ (IsAmong (part.Axiom i) now × IsGoalOf s p))) where
  pub denies_on : Denies sources initial (i + 1) next
  denies_on = record {
    same = λ k. (
      λ h. elim ((add (part.Axiom k)).0 h) [ inl m ↦ (d.same k).0 m | inr b ↦ absurd (no_axiom s k b.1) ],
      λ h. (add (part.Axiom k)).1 (inl ((d.same k).1 h)),
    );
    rest = λ p. one_more (d.rest p) (
      λ h. elim ((add p).0 h) [ inl m ↦ inr m | inr b ↦ inl ((d.same i).0 b.0, b.1) ],
      λ h. elim h [ inl b ↦ (add p).1 (inr ((d.same i).1 b.0, b.1)) | inr m ↦ (add p).1 (inl m) ],
    ) (
      λ h. subst (λ (ss : List Source). IsDeniedFrom i ss initial p) at h,
      λ h. subst (λ (ss : List Source). IsDeniedFrom i ss initial p) (sym at) h,
    );
  }

pub denies_all : (sources : List Source) (initial : List Part) (i : ℕ) (now : List Part) → Denies sources initial i now → drop i sources ≡ [] → (p : Part) → IsAmong p now ↔ (IsAmong p initial ⊎ IsDeniedFrom 0 sources initial p)
denies_all sources initial i now d e p = (
  λ h. (d.rest p).0 (inl h),
  λ h. elim ((d.rest p).1 h) [ inl m ↦ m | inr n ↦ absurd (subst (λ (ss : List Source). IsDeniedFrom i ss initial p) e n) ],
)

-- a goal whose encoded axiom is used
denied_source : (n : ℕ) (ss : List Source) (parts : List Part) (p : Part) → IsDeniedFrom n ss parts p → (k : ℕ) × (c : ℕ) × (slice_get ss k ≡ Some (source.Goal c)) × (part.Denial c ≡ p) × IsAmong (part.Axiom (n + k)) parts
denied_source n [] parts p h = absurd h
denied_source n (source.Clause c ∷ ss) parts p (inl b) = absurd b.1
denied_source n (source.Reflexive ∷ ss) parts p (inl b) = absurd b.1
denied_source n (source.Goal c ∷ ss) parts p (inl b) = let q : n ≡ n + 0 = omega arith in (0, c, refl, b.1, subst (λ (i : ℕ). IsAmong (part.Axiom i) parts) q b.0)
denied_source n (s ∷ ss) parts p (inr h) = let r = denied_source (n + 1) ss parts p h in let q : n + 1 + r.0 ≡ n + suc r.0 = omega arith in (suc r.0, r.1, r.2, r.3, subst (λ (i : ℕ). IsAmong (part.Axiom i) parts) q r.4)

source_denied : (n : ℕ) (ss : List Source) (parts : List Part) (k c : ℕ) → slice_get ss k ≡ Some (source.Goal c) → IsAmong (part.Axiom (n + k)) parts → IsDeniedFrom n ss parts (part.Denial c)
source_denied n [] parts k c e h = absurd cc
source_denied n (s ∷ ss) parts zero c e h =
    let same : source.Goal c ≡ s = let z : Some s ≡ Some (source.Goal c) = e in cc in
    let q : n + 0 ≡ n = omega arith in
    inl (subst (λ (i : ℕ). IsAmong (part.Axiom i) parts) q h, subst (λ (x : Source). IsGoalOf x (part.Denial c)) same refl)
source_denied n (s ∷ ss) parts (suc k) c e h = let q : n + suc k ≡ n + 1 + k = omega arith in inr (source_denied (n + 1) ss parts k c e (subst (λ (i : ℕ). IsAmong (part.Axiom i) parts) q h))

-- all that is needed
module _ (encoded : Encoded) (facts : List Fact) (aimed : Aim) (used denied all : List Part) (is_used : (p : Part) → IsAmong p used ↔ IsUsedPart facts aimed p) (are_denied : (p : Part) → IsAmong p denied ↔ (IsAmong p used ⊎ IsDeniedFrom 0 encoded.sources used p)) (are_all : (p : Part) → IsAmong p all ↔ (IsAmong p denied ⊎ IsGoalPart encoded aimed p)) where
  of_goal : (b : Aim) (p : Part) → IsGoalPart encoded b p → IsNeeded encoded facts b p
  of_goal (aim.Goal chain goal) (part.Axiom k) h = absurd h
  of_goal (aim.Goal chain goal) (part.Denial c) h = is_proved h
  of_goal (aim.Goal chain goal) (part.Fact n) h = absurd h
  of_goal (aim.Goal chain goal) part.Conclusion h = tt
  of_goal (aim.Goal chain goal) part.Refutation h = tt
  of_goal (aim.Facts live) p h = absurd h

  of_used : (p : Part) → IsUsedPart facts aimed p → IsNeeded encoded facts aimed p
  of_used (part.Axiom k) u = u
  of_used (part.Denial c) u = absurd u
  of_used (part.Fact n) u = u
  of_used part.Conclusion u = absurd u
  of_used part.Refutation u = absurd u

  of_denied : (p : Part) → IsDeniedFrom 0 encoded.sources used p → IsNeeded encoded facts aimed p
  of_denied p h =
      let r = denied_source 0 encoded.sources used p h in
      let q : 0 + r.0 ≡ r.0 = omega arith in
      subst (IsNeeded encoded facts aimed) r.3 (is_encoded r.2 ((is_used (part.Axiom r.0)).0 (subst (λ (i : ℕ). IsAmong (part.Axiom i) used) q r.4)))

  sound_part : (p : Part) → IsAmong p all → IsNeeded encoded facts aimed p
  sound_part p h = elim ((are_all p).0 h) [
    | inl d ↦ elim ((are_denied p).0 d) [ inl u ↦ of_used p ((is_used p).0 u) | inr n ↦ of_denied p n ]
    | inr g ↦ of_goal aimed p g
  ]

  up : (p : Part) → IsAmong p denied → IsAmong p all
  up p h = (are_all p).1 (inl h)

  denied_goal : (b : Aim) (c : ℕ) → IsProvedBy encoded b c → IsGoalPart encoded b (part.Denial c)
  denied_goal (aim.Goal chain goal) c h = h
  denied_goal (aim.Facts live) c h = absurd h

  ends_goal : (b : Aim) → IsGoal b → IsGoalPart encoded b part.Conclusion × IsGoalPart encoded b part.Refutation
  ends_goal (aim.Goal chain goal) h = (tt, tt)
  ends_goal (aim.Facts live) h = absurd h

  denied_part : (c : ℕ) → IsDenied encoded facts aimed c → IsAmong (part.Denial c) all
  denied_part c (is_proved h) = (are_all (part.Denial c)).1 (inr (denied_goal aimed c h))
  denied_part c (is_encoded {k} at u) =
      let q : k ≡ 0 + k = omega arith in
      up (part.Denial c) ((are_denied (part.Denial c)).1 (inr (source_denied 0 encoded.sources used k c at (subst (λ (i : ℕ). IsAmong (part.Axiom i) used) q ((is_used (part.Axiom k)).1 u)))))

  complete_part : (p : Part) → IsNeeded encoded facts aimed p → IsAmong p all
  complete_part (part.Axiom k) u = up (part.Axiom k) ((are_denied (part.Axiom k)).1 (inl ((is_used (part.Axiom k)).1 u)))
  complete_part (part.Denial c) d = denied_part c d
  complete_part (part.Fact n) u = up (part.Fact n) ((are_denied (part.Fact n)).1 (inl ((is_used (part.Fact n)).1 u)))
  complete_part part.Conclusion u = (are_all part.Conclusion).1 (inr (ends_goal aimed u).0)
  complete_part part.Refutation u = (are_all part.Refutation).1 (inr (ends_goal aimed u).1)

  pub needs : (p : Part) → IsAmong p all ↔ IsNeeded encoded facts aimed p
  needs p = (sound_part p, complete_part p)

-- what is added for a goal: its clause, its chain and the refutation
module _ (encoded : Encoded) (chain : Chain) (goal : ℕ) (clause : Option ℕ) (clause_is : slice_get encoded.goal_clauses goal ≡ Some clause) (old denied chained all : List Part)
    (is_denied : (p : Part) → IsAmong p denied ↔ (IsAmong p old ⊎ IsClauseOf clause p))
    (is_chained : (p : Part) → IsAmong p chained ↔ ((part.Conclusion ≡ p) ⊎ IsAmong p denied))
    (is_refuted : (p : Part) → IsAmong p all ↔ ((part.Refutation ≡ p) ⊎ IsAmong p chained)) where
  by_clause : (o : Option ℕ) (p : Part) → clause ≡ o → IsClauseOf o p → IsGoalPart encoded (aim.Goal chain goal) p
  by_clause None p e h = absurd h
  by_clause (Some c) p e h = subst (IsGoalPart encoded (aim.Goal chain goal)) h (clause_is ∙ ap Some e)

  goal_sound : (p : Part) → IsAmong p all → IsAmong p old ⊎ IsGoalPart encoded (aim.Goal chain goal) p
  goal_sound p h = elim ((is_refuted p).0 h) [
    | inl q ↦ inr (subst (IsGoalPart encoded (aim.Goal chain goal)) q tt)
    | inr a ↦ elim ((is_chained p).0 a) [
      | inl q ↦ inr (subst (IsGoalPart encoded (aim.Goal chain goal)) q tt)
      | inr b ↦ elim ((is_denied p).0 b) [ inl d ↦ inl d | inr g ↦ inr (by_clause clause p refl g) ]
    ]
  ]

  kept : (p : Part) → IsAmong p denied → IsAmong p all
  kept p h = (is_refuted p).1 (inr ((is_chained p).1 (inr h)))

  goal_complete : (p : Part) → IsGoalPart encoded (aim.Goal chain goal) p → IsAmong p all
  goal_complete (part.Axiom k) h = absurd h
  goal_complete (part.Denial c) h =
      let same : Some c ≡ clause = let z : Some (Some c) ≡ Some clause = sym h ∙ clause_is in cc in
      kept (part.Denial c) ((is_denied (part.Denial c)).1 (inr (subst (λ (o : Option ℕ). IsClauseOf o (part.Denial c)) same refl)))
  goal_complete (part.Fact n) h = absurd h
  goal_complete part.Conclusion h = (is_refuted part.Conclusion).1 (inr ((is_chained part.Conclusion).1 (inl refl)))
  goal_complete part.Refutation h = (is_refuted part.Refutation).1 (inl refl)

  pub goal_added : (p : Part) → IsAmong p all ↔ (IsAmong p old ⊎ IsGoalPart encoded (aim.Goal chain goal) p)
  goal_added p = (goal_sound p, λ h. elim h [ inl m ↦ kept p ((is_denied p).1 (inl m)) | inr g ↦ goal_complete p g ])
