-- Each part of a plan can be written: what its line names has a line too.
use Rattle.std.proofs.Common.{◌≡◌, ℕ, zero, suc, ◌+◌, ◌<◌, Bool, true, false, List, [], ◌∷◌, ◌++◌, length, map, take, slice_get, Some, None, refl, sym, ap, ◌∙◌, subst, arith, inl, inr}
use Rattle.uc_term.specs.Tree.{Tree}
use Rattle.uc_term.specs.declared.equation.Equation.{Equation}
use Rattle.uc_clause.specs.declared.clause.Sourced.{Sourced}
use Rattle.uc_fact.specs.declared.chain.By.{By}
use Rattle.uc_fact.specs.declared.chain.By.TheVariants.{Axiom as AxiomOf, Fact as FactOf}
use Rattle.uc_fact.specs.declared.chain.Step.{Step}
use Rattle.uc_fact.specs.declared.chain.Chain.{Chain}
use Rattle.uc_fact.specs.declared.fact.Fact.{Fact}
use Rattle.uc_fact.specs.Live.{equation_of}
use Rattle.uc_rewrite.specs.Replay.{named, AreReplacements, LeadsFrom, FactsReplay}
use Rattle.uc_problem.specs.declared.problem.Problem.{Problem}
use Rattle.uc_problem.specs.declared.problem.Encoded.{Encoded}
use Rattle.uc_problem.specs.declared.problem.Source.{Source}
use Rattle.uc_problem.specs.declared.problem.Source.TheVariants as source
use Rattle.uc_problem.specs.Holds.{numbers_of}
use Rattle.uc_proof.specs.declared.aim.Aim.{Aim}
use Rattle.uc_proof.specs.declared.aim.Aim.TheVariants as aim
use Rattle.uc_proof.specs.declared.part.Part.{Part}
use Rattle.uc_proof.specs.declared.part.Part.TheVariants as part
use Rattle.uc_proof.specs.Chains.{AreBorn}
use Rattle.uc_proof.specs.Needed.{IsNamedBy, IsOneOf, IsAimed, IsUsed, by_aim, by_fact, IsProvedBy, IsGoal, IsDenied, is_proved, is_encoded, IsNeeded}
use Rattle.uc_proof.specs.Parts.{part_of, is_clause, is_encoding, axioms_where, facts_from, all_parts, Selects}
use Rattle.uc_proof.specs.Making.{IsAmong, IsNamedPart, IsFactPart, IsAimedPart, IsWithin, NameEarlier, AreInside, IsReady, IsSourceReady, IsGoalReady, IsConclusionReady, IsRefutationReady, IsPartReady, IsReached}
use Rattle.uc_proof.specs.Extracted.{IsEncodingOf}
use Rattle.uc_proof.proofs.Among.{among_left, among_right, selected_among, among_selected, axiom_among, fact_among}
use Rattle.uc_proof.proofs.Sources.{IsFrom, from_clause, from_reflexive, from_goal, IsAsked, asked_by_clause, asked_by_encoding, axiom_from, goal_asked}
use Rattle.uc_proof.proofs.Right.{fact_before, fact_count, goal_is_open, inside}

-- what the steps of a chain name is there
pub named_by_steps : (axioms : List Equation) (facts : List Fact) (u : Tree) (steps : List Step) (by : By) → AreReplacements axioms facts u steps → IsNamedBy steps by → (e : Equation) × (named axioms facts by ≡ Some e)
named_by_steps axioms facts u [] by a h = absurd h
named_by_steps axioms facts u (step ∷ steps) by a (inl q) = (a.0.equation, ap (named axioms facts) (sym q) ∙ a.0.equation_is)
named_by_steps axioms facts u (step ∷ steps) by a (inr h) = named_by_steps axioms facts step.to steps by a.1 h

pub inside_steps : (axioms : List Equation) (facts : List Fact) (u : Tree) (steps : List Step) → AreReplacements axioms facts u steps → AreInside u steps
inside_steps axioms facts u [] a = tt
inside_steps axioms facts u (step ∷ steps) a = (a.0.replaces.inside, inside_steps axioms facts step.to steps a.1)

-- the equation and the part that a step names
pub named_part : (steps : List Step) (p : Part) → IsNamedPart steps p → (by : By) × (part_of by ≡ p) × IsNamedBy steps by
named_part [] p h = absurd h
named_part (step ∷ steps) p (inl q) = (step.by, q, inl refl)
named_part (step ∷ steps) p (inr h) = let r = named_part steps p h in (r.0, r.1, inr r.2)

pub part_named : (steps : List Step) (by : By) → IsNamedBy steps by → IsNamedPart steps (part_of by)
part_named [] by h = absurd h
part_named (step ∷ steps) by (inl q) = inl (ap part_of q)
part_named (step ∷ steps) by (inr h) = inr (part_named steps by h)

fact_part_of : (live : List ℕ) (p : Part) → IsFactPart live p → (by : By) × (part_of by ≡ p) × IsOneOf live by
fact_part_of [] p h = absurd h
fact_part_of (n ∷ ns) p (inl q) = (FactOf n, q, inl refl)
fact_part_of (n ∷ ns) p (inr h) = let r = fact_part_of ns p h in (r.0, r.1, inr r.2)

one_of_part : (live : List ℕ) (by : By) → IsOneOf live by → IsFactPart live (part_of by)
one_of_part [] by h = absurd h
one_of_part (n ∷ ns) by (inl q) = inl (ap part_of q)
one_of_part (n ∷ ns) by (inr h) = inr (one_of_part ns by h)

pub aimed_part : (aimed : Aim) (p : Part) → IsAimedPart aimed p → (by : By) × (part_of by ≡ p) × IsAimed aimed by
aimed_part (aim.Goal chain goal) p h = named_part chain.steps p h
aimed_part (aim.Facts live) p h = fact_part_of live p h

pub part_aimed : (aimed : Aim) (by : By) → IsAimed aimed by → IsAimedPart aimed (part_of by)
part_aimed (aim.Goal chain goal) by h = part_named chain.steps by h
part_aimed (aim.Facts live) by h = one_of_part live by h

among_facts : (axioms : List Equation) (facts : List Fact) (n : ℕ) (by : By) (e : Equation) → named axioms (take n facts) by ≡ Some e → named axioms facts by ≡ Some e
among_facts axioms facts n (AxiomOf k) e h = h
among_facts axioms facts n (FactOf m) e h = (fact_before facts n m e h).1

equation_there : (facts : List Fact) (n : ℕ) → n < length facts → (e : Equation) × (slice_get (map equation_of facts) n ≡ Some e)
equation_there [] n h = absurd (omega arith)
equation_there (f ∷ fs) zero h = (equation_of f, refl)
equation_there (f ∷ fs) (suc n) h = equation_there fs n (omega arith)

-- facts that are there
born_named : (axioms : List Equation) (facts : List Fact) (live : List ℕ) (by : By) → AreBorn facts live → IsOneOf live by → (e : Equation) × (named axioms facts by ≡ Some e)
born_named axioms facts [] by b h = absurd h
born_named axioms facts (n ∷ ns) by b (inl q) = let r = equation_there facts n b.0 in (r.0, ap (named axioms facts) (sym q) ∙ r.1)
born_named axioms facts (n ∷ ns) by b (inr h) = born_named axioms facts ns by b.1 h

fact_there : (facts : List Fact) (n : ℕ) (e : Equation) → slice_get (map equation_of facts) n ≡ Some e → (fact : Fact) × (slice_get facts n ≡ Some fact)
fact_there [] n e h = absurd cc
fact_there (f ∷ fs) zero e h = (f, refl)
fact_there (f ∷ fs) (suc n) e h = fact_there fs n e h

goal_numbered : (s : Sourced) (ss : List Sourced) (n : ℕ) → s.clause.positive ≡ false → numbers_of false n (s ∷ ss) ≡ n ∷ numbers_of false (n + 1) ss
goal_numbered s ss n e = rw e refl

axiom_passed : (s : Sourced) (ss : List Sourced) (n : ℕ) → s.clause.positive ≡ true → numbers_of false n (s ∷ ss) ≡ numbers_of false (n + 1) ss
axiom_passed s ss n e = rw e refl

-- the number of a negative clause is one of the goals'
goal_among : (n : ℕ) (ss : List Sourced) (j : ℕ) (s : Sourced) → slice_get ss j ≡ Some s → s.clause.positive ≡ false → IsAmong (part.Denial (n + j)) (map part.Denial (numbers_of false n ss))
goal_among n [] j s e h = absurd cc
goal_among n (x ∷ ss) zero s e h =
    let same : x ≡ s = cc in
    let q : n ≡ n + 0 = omega arith in
    subst (λ (l : List ℕ). IsAmong (part.Denial (n + 0)) (map part.Denial l)) (sym (goal_numbered x ss n (ap (λ (y : Sourced). y.clause.positive) same ∙ h))) (inl (ap part.Denial q))
goal_among n (x ∷ ss) (suc j) s e h =
    let q : n + 1 + j ≡ n + suc j = omega arith in
    go x.clause.positive refl (subst (λ (i : ℕ). IsAmong (part.Denial i) (map part.Denial (numbers_of false (n + 1) ss))) q (goal_among (n + 1) ss j s e h))
  where
    go : (b : Bool) → x.clause.positive ≡ b → IsAmong (part.Denial (n + suc j)) (map part.Denial (numbers_of false (n + 1) ss)) → IsAmong (part.Denial (n + suc j)) (map part.Denial (numbers_of false n (x ∷ ss)))
    go true p m = subst (λ (l : List ℕ). IsAmong (part.Denial (n + suc j)) (map part.Denial l)) (sym (axiom_passed x ss n p)) m
    go false p m = subst (λ (l : List ℕ). IsAmong (part.Denial (n + suc j)) (map part.Denial l)) (sym (goal_numbered x ss n p)) (inr m)

pub names_earlier : (axioms : List Equation) (facts : List Fact) → FactsReplay axioms facts → NameEarlier facts
names_earlier axioms facts replay n m fact g h =
    let r = named_part fact.chain.steps (part.Fact m) h in
    go r.0 r.1 (named_by_steps axioms (take n facts) fact.chain.start fact.chain.steps r.0 (replay n fact g).replays r.2)
  where
    go : (by : By) → part_of by ≡ part.Fact m → (e : Equation) × (named axioms (take n facts) by ≡ Some e) → m < n
    go (AxiomOf k) q s = absurd cc
    go (FactOf k) q s = let same : k ≡ m = cc in let l = (fact_before facts n k s.0 s.1).0 in omega (arith, same)

module _ (problem : Problem) (enc : Encoded) (facts : List Fact) (aimed : Aim) (plan : List Part) (is : IsEncodingOf problem enc) (replay : FactsReplay enc.axioms facts) (reached : IsReached enc facts aimed) (selected : Selects (IsNeeded enc facts aimed) (all_parts problem enc (length facts)) plan) where
  -- what the aim names is there
  aim_there : (b : Aim) (by : By) → IsReached enc facts b → IsAimed b by → (e : Equation) × (named enc.axioms facts by ≡ Some e)
  aim_there (aim.Goal chain goal) by r h = named_by_steps enc.axioms facts chain.start chain.steps by r.2.replays h
  aim_there (aim.Facts live) by r h = born_named enc.axioms facts live by r h

  -- what is used is there
  used_there : (by : By) → IsUsed facts aimed by → (e : Equation) × (named enc.axioms facts by ≡ Some e)
  used_there by (by_aim h) = aim_there aimed by reached h
  used_there by (by_fact {n} {fact} u g h) =
      let r = named_by_steps enc.axioms (take n facts) fact.chain.start fact.chain.steps by (replay n fact g).replays h in
      (r.0, among_facts enc.axioms facts n by r.0 r.1)

  -- a part that is needed and one of all parts is in the plan
  in_plan : (p : Part) → IsAmong p (all_parts problem enc (length facts)) → IsNeeded enc facts aimed p → IsAmong p plan
  in_plan p a h = among_selected (IsNeeded enc facts aimed) (all_parts problem enc (length facts)) plan p selected a h

  abbrev ending : List Part
  ending = part.Conclusion ∷ part.Refutation ∷ []

  abbrev of_facts : List Part
  of_facts = facts_from 0 (length facts) ++ ending

  abbrev of_encoding : List Part
  of_encoding = axioms_where is_encoding 0 enc.sources ++ of_facts

  abbrev of_goals : List Part
  of_goals = map part.Denial problem.goals ++ of_encoding

  behind_goals : (p : Part) → IsAmong p of_encoding → IsAmong p (all_parts problem enc (length facts))
  behind_goals p h = among_right p (axioms_where is_clause 0 enc.sources) of_goals (among_right p (map part.Denial problem.goals) of_encoding h)

  axiom_part : (k : ℕ) (s : Source) → slice_get enc.sources k ≡ Some s → IsAmong (part.Axiom k) (all_parts problem enc (length facts))
  axiom_part k s e = go s e
    where
      number : 0 + k ≡ k
      number = omega arith

      go : (s : Source) → slice_get enc.sources k ≡ Some s → IsAmong (part.Axiom k) (all_parts problem enc (length facts))
      go (source.Clause c) e = among_left (part.Axiom k) (axioms_where is_clause 0 enc.sources) of_goals (subst (λ (i : ℕ). IsAmong (part.Axiom i) (axioms_where is_clause 0 enc.sources)) number (axiom_among is_clause 0 enc.sources k (source.Clause c) e refl))
      go source.Reflexive e = behind_goals (part.Axiom k) (among_left (part.Axiom k) (axioms_where is_encoding 0 enc.sources) of_facts (subst (λ (i : ℕ). IsAmong (part.Axiom i) (axioms_where is_encoding 0 enc.sources)) number (axiom_among is_encoding 0 enc.sources k source.Reflexive e refl)))
      go (source.Goal c) e = behind_goals (part.Axiom k) (among_left (part.Axiom k) (axioms_where is_encoding 0 enc.sources) of_facts (subst (λ (i : ℕ). IsAmong (part.Axiom i) (axioms_where is_encoding 0 enc.sources)) number (axiom_among is_encoding 0 enc.sources k (source.Goal c) e refl)))

  denial_part : (c : ℕ) (s : Sourced) → slice_get problem.clauses c ≡ Some s → s.clause.positive ≡ false → IsAmong (part.Denial c) (all_parts problem enc (length facts))
  denial_part c s e h =
      let number : 0 + c ≡ c = omega arith in
      let m : IsAmong (part.Denial c) (map part.Denial problem.goals) = subst (λ (l : List ℕ). IsAmong (part.Denial c) (map part.Denial l)) (sym is.agrees.goals) (subst (λ (i : ℕ). IsAmong (part.Denial i) (map part.Denial (numbers_of false 0 problem.clauses))) number (goal_among 0 problem.clauses c s e h)) in
      among_right (part.Denial c) (axioms_where is_clause 0 enc.sources) of_goals (among_left (part.Denial c) (map part.Denial problem.goals) of_encoding m)

  fact_part : (n : ℕ) (e : Equation) → slice_get (map equation_of facts) n ≡ Some e → IsAmong (part.Fact n) (all_parts problem enc (length facts))
  fact_part n e h =
      let number : 0 + n ≡ n = omega arith in
      behind_goals (part.Fact n) (among_right (part.Fact n) (axioms_where is_encoding 0 enc.sources) of_facts (among_left (part.Fact n) (facts_from 0 (length facts)) ending
      (subst (λ (i : ℕ). IsAmong (part.Fact i) (facts_from 0 (length facts))) number (fact_among 0 (length facts) n (fact_count facts n e h)))))

  end_part : (p : Part) → IsAmong p ending → IsAmong p (all_parts problem enc (length facts))
  end_part p h = behind_goals p (among_right p (axioms_where is_encoding 0 enc.sources) of_facts (among_right p (facts_from 0 (length facts)) ending h))

  source_of : (k : ℕ) (e : Equation) → IsFrom problem enc k e → (s : Source) × (slice_get enc.sources k ≡ Some s)
  source_of k e (from_clause c s at there p q) = (source.Clause c, at)
  source_of k e (from_reflexive marks at f q) = (source.Reflexive, at)
  source_of k e (from_goal marks c s at f there o q) = (source.Goal c, at)

  -- what is used has a line
  used_planned : (by : By) → IsUsed facts aimed by → IsAmong (part_of by) plan
  used_planned (AxiomOf k) u =
      let r = used_there (AxiomOf k) u in
      let s = source_of k r.0 (axiom_from problem enc is k r.0 r.1) in
      in_plan (part.Axiom k) (axiom_part k s.0 s.1) u
  used_planned (FactOf n) u = let r = used_there (FactOf n) u in in_plan (part.Fact n) (fact_part n r.0 r.1) u

  fact_ready : (n : ℕ) (fact : Fact) → slice_get facts n ≡ Some fact → IsUsed facts aimed (FactOf n) → IsReady plan fact.chain
  fact_ready n fact g u = record {
    named = λ p h. let r = named_part fact.chain.steps p h in subst (λ (q : Part). IsAmong q plan) r.1 (used_planned r.0 (by_fact u g r.2));
    inside = inside_steps enc.axioms (take n facts) fact.chain.start fact.chain.steps (replay n fact g).replays;
  }

  chain_ready : (chain : Chain) (goal : ℕ) (u v : Tree) → aimed ≡ aim.Goal chain goal → LeadsFrom enc.axioms facts chain u v → IsReady plan chain
  chain_ready chain goal u v q leads = record {
    named = λ p h. let r = named_part chain.steps p h in subst (λ (x : Part). IsAmong x plan) r.1 (used_planned r.0 (by_aim (subst (λ (b : Aim). IsAimed b r.0) (sym q) r.2)));
    inside = inside_steps enc.axioms facts chain.start chain.steps leads.replays;
  }

  axiom_ready : (k : ℕ) (e : Equation) → IsUsed facts aimed (AxiomOf k) → IsFrom problem enc k e → IsSourceReady problem plan (slice_get enc.sources k)
  axiom_ready k e u (from_clause c s at there p q) = subst (IsSourceReady problem plan) (sym at) (s, there)
  axiom_ready k e u (from_reflexive marks at f q) = subst (IsSourceReady problem plan) (sym at) tt
  axiom_ready k e u (from_goal marks c s at f there o q) = subst (IsSourceReady problem plan) (sym at) (in_plan (part.Denial c) (denial_part c s there (goal_is_open s o).0) (is_encoded at u))

  -- the clause of a goal
  proved_there : (b : Aim) (c : ℕ) → IsReached enc facts b → IsProvedBy enc b c → (s : Sourced) × (slice_get problem.clauses c ≡ Some s)
  proved_there (aim.Facts live) c r h = absurd h
  proved_there (aim.Goal chain goal) c r h = go (goal_asked problem enc is goal r.0 r.1)
    where
      go : IsAsked problem enc goal r.0 → (s : Sourced) × (slice_get problem.clauses c ≡ Some s)
      go (asked_by_encoding marks at' f q) = let z : Some (Some c) ≡ Some None = sym h ∙ at' in absurd cc
      go (asked_by_clause c' s at' there p o q) = let same : c ≡ c' = let z : Some (Some c) ≡ Some (Some c') = sym h ∙ at' in cc in (s, ap (slice_get problem.clauses) same ∙ there)

  denied_there : (c : ℕ) → IsDenied enc facts aimed c → (s : Sourced) × (slice_get problem.clauses c ≡ Some s)
  denied_there c (is_proved h) = proved_there aimed c reached h
  denied_there c (is_encoded {k} at u) = let r = used_there (AxiomOf k) u in go r.0 (axiom_from problem enc is k r.0 r.1)
    where
      go : (e : Equation) → IsFrom problem enc k e → (s : Sourced) × (slice_get problem.clauses c ≡ Some s)
      go e (from_clause c' s at' there p q) = let z : Some (source.Goal c) ≡ Some (source.Clause c') = sym at ∙ at' in absurd cc
      go e (from_reflexive marks at' f q) = let z : Some (source.Goal c) ≡ Some source.Reflexive = sym at ∙ at' in absurd cc
      go e (from_goal marks c' s at' f there o q) = let same : c ≡ c' = let z : Some (source.Goal c) ≡ Some (source.Goal c') = sym at ∙ at' in cc in (s, ap (slice_get problem.clauses) same ∙ there)

  goal_ready : (goal : ℕ) (e : Equation) → ((c : ℕ) → slice_get enc.goal_clauses goal ≡ Some (Some c) → IsProvedBy enc aimed c) → IsAsked problem enc goal e → IsGoalReady plan (slice_get enc.goal_clauses goal)
  goal_ready goal e own (asked_by_clause c s at there p o q) = subst (IsGoalReady plan) (sym at) (in_plan (part.Denial c) (denial_part c s there p) (is_proved (own c at)))
  goal_ready goal e own (asked_by_encoding marks at f q) = subst (IsGoalReady plan) (sym at) tt

  conclusion_ready : (b : Aim) → aimed ≡ b → IsReached enc facts b → IsGoal b → IsConclusionReady enc plan b
  conclusion_ready (aim.Goal chain goal) q r h = (r.0, r.1, chain_ready chain goal r.0.left r.0.right q r.2)
  conclusion_ready (aim.Facts live) q r h = absurd h

  refutation_ready : (b : Aim) → aimed ≡ b → IsReached enc facts b → IsGoal b → IsRefutationReady enc plan b
  refutation_ready (aim.Goal chain goal) q r h = (in_plan part.Conclusion (end_part part.Conclusion (inl refl)) (subst IsGoal (sym q) tt), goal_ready goal r.0 (λ c at. subst (λ (x : Aim). IsProvedBy enc x c) (sym q) at) (goal_asked problem enc is goal r.0 r.1))
  refutation_ready (aim.Facts live) q r h = absurd h

  needed_ready : (p : Part) → IsNeeded enc facts aimed p → IsPartReady problem enc facts aimed plan p
  needed_ready (part.Axiom k) u = let r = used_there (AxiomOf k) u in (r.0, r.1, axiom_ready k r.0 u (axiom_from problem enc is k r.0 r.1))
  needed_ready (part.Denial c) d = denied_there c d
  needed_ready (part.Fact n) u = let r = used_there (FactOf n) u in let f = fact_there facts n r.0 r.1 in (f.0, f.1, fact_ready n f.0 f.1 u)
  needed_ready part.Conclusion u = conclusion_ready aimed refl reached u
  needed_ready part.Refutation u = refutation_ready aimed refl reached u

  pub plan_ready : (p : Part) → IsAmong p plan → IsPartReady problem enc facts aimed plan p
  plan_ready p h = needed_ready p (selected_among (IsNeeded enc facts aimed) (all_parts problem enc (length facts)) plan p selected h).1

-- a goal that is asked has a place among the goals' clauses
pub goal_within : (problem : Problem) (enc : Encoded) (goal : ℕ) (e : Equation) → IsAsked problem enc goal e → goal < length enc.goal_clauses
goal_within problem enc goal e (asked_by_clause c s at there p o q) = inside enc.goal_clauses goal (Some c) at
goal_within problem enc goal e (asked_by_encoding marks at f q) = inside enc.goal_clauses goal None at

-- a goal that is reached has one
pub aim_within : (problem : Problem) (enc : Encoded) (facts : List Fact) (aimed : Aim) → IsEncodingOf problem enc → IsReached enc facts aimed → IsWithin enc aimed
aim_within problem enc facts (aim.Goal chain goal) is r = goal_within problem enc goal r.0 (goal_asked problem enc is goal r.0 r.1)
aim_within problem enc facts (aim.Facts live) is r = tt
