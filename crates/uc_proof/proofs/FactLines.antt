-- The lines of derived facts, and their numbers.
use Rattle.std.proofs.Common.{◌≡◌, ℕ, zero, suc, ◌+◌, ◌<◌, true, List, [], ◌∷◌, ◌++◌, length, map, drop, slice_get, Some, refl, sym, ap, ◌∙◌, subst, arith, inl, inr, append_assoc, append-nil}
use Rattle.uc_term.specs.Tree.{Tree, var}
use Rattle.uc_term.specs.Variables.{Occurs, variables, is_among, firsts, firsts_after, place_of, renumbered_by}
use Rattle.uc_term.proofs.Agree.{same_if}
use Rattle.uc_term.proofs.Firsts.{firsts-append}
use Rattle.uc_check.specs.declared.proof.Line.{Line}
use Rattle.uc_check.specs.Lines.{IsDerived}
use Rattle.uc_check.specs.Replacements.{IsRefutation}
use Rattle.uc_tstp.specs.Printable.{source_variables, line_variables, renumbered_line}
use Rattle.uc_fact.specs.declared.fact.Fact.{Fact}
use Rattle.uc_fact.specs.Live.{equation_of}
use Rattle.uc_problem.specs.declared.problem.Problem.{Problem}
use Rattle.uc_problem.specs.declared.problem.Encoded.{Encoded}
use Rattle.uc_proof.specs.declared.aim.Aim.TheVariants as aim
use Rattle.uc_proof.specs.declared.part.Part.{Part}
use Rattle.uc_proof.specs.declared.part.Part.TheVariants as part
use Rattle.uc_proof.specs.Chains.{AreBorn}
use Rattle.uc_proof.specs.Needed.{IsOneOf, by_aim, IsNeeded}
use Rattle.uc_fact.specs.declared.chain.By.TheVariants.{Fact as FactOf}
use Rattle.uc_proof.specs.Parts.{all_parts, is_clause, is_encoding, axioms_where, facts_from}
use Rattle.uc_proof.specs.Written.{equation_line, chain_source, Says, says_clause, says_denial, says_reflexive, says_goal, says_fact, says_conclusion, refutes_denied, refutes_encoded}
use Rattle.uc_proof.specs.Making.{IsAmong, HaveParts}
use Rattle.uc_proof.specs.Extracted.{IsDerivation, AreNumbersOf, fact_variables, HasLine, HaveLines, NoneRefutes}
use Rattle.uc_proof.proofs.Among.{among_left, among_right, among_get, selected_among, among_selected, fact_among}
use Rattle.uc_proof.proofs.Naming.{place_front}
use Rattle.uc_proof.proofs.Renumbered.{among_firsts, among_front, among_behind, occurs_among}
use Rattle.uc_proof.proofs.Right.{written_at, part_at}

-- the numbers of lines, one by one
pub record Numbering (plan : List Part) (live : List ℕ) (i : ℕ) (numbers : List ℕ) : Type 0 where
  pub done : (rest : List ℕ) → AreNumbersOf plan (drop i live) rest → AreNumbersOf plan live (numbers ++ rest)
  pub parts : HaveParts plan (drop i live)

pub numbering_begins : (plan : List Part) (live numbers : List ℕ) → numbers ≡ [] → HaveParts plan live → Numbering plan live 0 numbers
numbering_begins plan live numbers e h = record { done = λ rest a. subst (λ (l : List ℕ). AreNumbersOf plan live (l ++ rest)) (sym e) a; parts = h }

module _ (plan : List Part) (live : List ℕ) (i n : ℕ) (numbers : List ℕ) (s : Numbering plan live i numbers) (at : drop i live ≡ n ∷ drop (i + 1) live) where
  pub numbering_part : IsAmong (part.Fact n) plan
  numbering_part = (subst (HaveParts plan) at s.parts).0

  pub numbering_on : (number : ℕ) (next : List ℕ) → slice_get plan number ≡ Some (part.Fact n) → next ≡ numbers ++ number ∷ [] → Numbering plan live (i + 1) next
  numbering_on number next there e = record {
    done = λ rest a.
        subst (AreNumbersOf plan live) (sym (ap (λ l. l ++ rest) e ∙ append_assoc numbers (number ∷ []) rest))
        (s.done (number ∷ rest) (subst (λ (ns : List ℕ). AreNumbersOf plan ns (number ∷ rest)) (sym at) (there, a)));
    parts = (subst (HaveParts plan) at s.parts).1;
  }

pub numbering_ends : (plan : List Part) (live : List ℕ) (i : ℕ) (numbers : List ℕ) → Numbering plan live i numbers → drop i live ≡ [] → AreNumbersOf plan live numbers
numbering_ends plan live i numbers s e = subst (AreNumbersOf plan live) (append-nil numbers) (s.done [] (subst (λ (ns : List ℕ). AreNumbersOf plan ns []) (sym e) tt))

pub as_many_numbers : (plan : List Part) (live numbers : List ℕ) → AreNumbersOf plan live numbers → length numbers ≡ length live
as_many_numbers plan [] [] h = refl
as_many_numbers plan [] (k ∷ ks) h = absurd h
as_many_numbers plan (n ∷ ns) [] h = absurd h
as_many_numbers plan (n ∷ ns) (k ∷ ks) h = ap suc (as_many_numbers plan ns ks h.1)

number_at : (plan : List Part) (live numbers : List ℕ) (place n : ℕ) → AreNumbersOf plan live numbers → slice_get live place ≡ Some n → (number : ℕ) × (slice_get numbers place ≡ Some number) × (slice_get plan number ≡ Some (part.Fact n))
number_at plan [] numbers place n h e = absurd cc
number_at plan (m ∷ ns) [] place n h e = absurd h
number_at plan (m ∷ ns) (k ∷ ks) zero n h e = let same : m ≡ n = let z : Some m ≡ Some n = e in cc in (k, refl, h.0 ∙ ap (λ x. Some (part.Fact x)) same)
number_at plan (m ∷ ns) (k ∷ ks) (suc place) n h e = number_at plan ns ks place n h.1 e

-- names behind those of a term change nothing
in_front : (names rest : List ℕ) (t : Tree) → ((x : ℕ) → Occurs x t → is_among x names ≡ true) → renumbered_by (names ++ rest) t ≡ renumbered_by names t
in_front names rest t all = same_if (λ x. var (place_of (names ++ rest) x)) (λ x. var (place_of names x)) t (λ x o. ap var (place_front x names rest (all x o)))

module _ (line : Line) (t : Tree) where
  -- a side's variables are numbered as the two sides' are
  side_numbered : ((x : ℕ) → Occurs x t → is_among x (variables line.left ++ variables line.right) ≡ true) → renumbered_by (line_variables line) t ≡ renumbered_by (firsts (variables line.left ++ variables line.right)) t
  side_numbered all =
      let sides = variables line.left ++ variables line.right in
      ap (λ names. renumbered_by names t) (firsts-append sides (source_variables line.source)) ∙ in_front (firsts sides) (firsts_after (firsts sides) (source_variables line.source)) t (λ x o. among_firsts sides x (all x o))

module _ (problem : Problem) (enc : Encoded) (facts : List Fact) (live : List ℕ) (lines : List Line) (files : List (List ℕ)) (d : IsDerivation problem enc facts (aim.Facts live) lines files) where
  -- each fact has its line
  pub have_lines : (numbers : List ℕ) → AreNumbersOf d.plan live numbers → HaveLines facts lines live numbers
  have_lines numbers a place n fact at is =
      let k = number_at d.plan live numbers place n a at in
      let r = written_at problem enc facts (aim.Facts live) d.plan 0 d.plan lines k.0 (part.Fact n) d.written k.2 in
      go k.0 k.1 r.0 r.1 r.2.said r.2.line_is r.2.says
    where
      go : (number : ℕ) → slice_get numbers place ≡ Some number → (line : Line) → slice_get lines number ≡ Some line → {name : List ℕ} (said : Line) → line ≡ renumbered_line said → Says problem enc facts (aim.Facts live) d.plan name (part.Fact n) said → HasLine lines numbers place fact
      go number number_is line line_is {name} _ e (says_fact {fact = own} {steps} own_is w) =
          let same : own ≡ fact = let z : Some own ≡ Some fact = sym own_is ∙ is in cc in
          let said = equation_line name (chain_source own.chain.start steps) (equation_of own) in
          let left : line.left ≡ renumbered_by (fact_variables own) own.left = ap (λ (l : Line). l.left) e ∙ side_numbered said own.left (λ x o. among_front (variables own.left) (variables own.right) x (occurs_among x own.left o)) in
          let right : line.right ≡ renumbered_by (fact_variables own) own.right = ap (λ (l : Line). l.right) e ∙ side_numbered said own.right (λ x o. among_behind (variables own.left) (variables own.right) x (occurs_among x own.right o)) in
          record {
            number = number;
            number_is = number_is;
            line = line;
            line_is = line_is;
            derived = subst IsDerived (sym e) (tt, refl);
            left_is = left ∙ ap (λ (f : Fact). renumbered_by (fact_variables f) f.left) same;
            right_is = right ∙ ap (λ (f : Fact). renumbered_by (fact_variables f) f.right) same;
          }

  -- no line is a refutation
  pub none_refutes : NoneRefutes lines
  none_refutes k line at h =
      let r = part_at problem enc facts (aim.Facts live) d.plan 0 d.plan lines k line d.written at in
      let needed = (selected_among (IsNeeded enc facts (aim.Facts live)) (all_parts problem enc (length facts)) d.plan r.0 d.selected (among_get d.plan k r.0 r.1)).1 in
      go r.0 r.2.said r.2.line_is needed r.2.says
    where
      go : {name : List ℕ} (p : Part) (said : Line) → line ≡ renumbered_line said → IsNeeded enc facts (aim.Facts live) p → Says problem enc facts (aim.Facts live) d.plan name p said → ⊥
      go _ _ e n (says_clause a b) = subst (λ (l : Line). IsRefutation l.source) e h
      go _ _ e n (says_denial a) = subst (λ (l : Line). IsRefutation l.source) e h
      go _ _ e n (says_reflexive a b) = subst (λ (l : Line). IsRefutation l.source) e h
      go _ _ e n (says_goal a b c) = subst (λ (l : Line). IsRefutation l.source) e h
      go _ _ e n (says_fact a b) = subst (λ (l : Line). IsRefutation l.source) e h
      go _ _ e n (says_conclusion a b c) = n
      go _ _ e n (refutes_denied a b c f) = n
      go _ _ e n (refutes_encoded a b c) = n

  -- each fact has a part
  pub have_parts : AreBorn facts live → HaveParts d.plan live
  have_parts born = each live born (λ n o. o)
    where
      named : (n : ℕ) → n < length facts → IsOneOf live (FactOf n) → IsAmong (part.Fact n) d.plan
      named n h o =
          let number : 0 + n ≡ n = omega arith in
          let ends = part.Conclusion ∷ part.Refutation ∷ [] in
          let behind = facts_from 0 (length facts) ++ ends in
          let there : IsAmong (part.Fact n) (facts_from 0 (length facts)) = subst (λ (i : ℕ). IsAmong (part.Fact i) (facts_from 0 (length facts))) number (fact_among 0 (length facts) n h) in
          let all = among_right (part.Fact n) (axioms_where is_clause 0 enc.sources) _ (among_right (part.Fact n) (map part.Denial problem.goals) _ (among_right (part.Fact n) (axioms_where is_encoding 0 enc.sources) behind (among_left (part.Fact n) (facts_from 0 (length facts)) ends there))) in
          among_selected (IsNeeded enc facts (aim.Facts live)) (all_parts problem enc (length facts)) d.plan (part.Fact n) d.selected all (by_aim o)

      each : (ns : List ℕ) → AreBorn facts ns → ((n : ℕ) → IsOneOf ns (FactOf n) → IsOneOf live (FactOf n)) → HaveParts d.plan ns
      each [] b h = tt
      each (n ∷ ns) b h = (named n b.0 (h n (inl refl)), each ns b.1 (λ m o. h m (inr o)))
