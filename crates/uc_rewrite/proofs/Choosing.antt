-- The first that leads down is the first rule by which a step is possible.
use Rattle.std.proofs.Common.{◌≡◌, ℕ, ◌==◌, ◌+◌, ◌≤◌, Bool, true, false, List, [], ◌∷◌, Some, None, Option, if◌then◌else◌, refl, sym, ap, ◌∙◌, arith, subst}
use Rattle.std.proofs.lemmas.Bool.{eqb-true, eq-eqb}
use Rattle.uc_term.specs.declared.node.Sym.{Sym}
use Rattle.uc_term.specs.declared.equation.Equation.{Equation}
use Rattle.uc_term.specs.Equations.{side_of, other_side_of}
use Rattle.uc_term.specs.Tree.{Tree, apply}
use Rattle.uc_term.specs.Variables.{variables, firsts}
use Rattle.uc_unify.specs.Matching.{IsMatch}
use Rattle.uc_order.specs.Members.{Each}
use Rattle.uc_fact.specs.declared.index.Found.{Found}
use Rattle.uc_fact.specs.Live.{Live, Rule, RiseFrom, AreRising, fact_at, rules_of}
use Rattle.uc_fact.specs.Retrieval.{found_by, IsFound, by_first, by_later, FirstThat, accepted, not_accepted}
use Rattle.uc_rewrite.specs.Normalising.{Makes, FirstRule, this_rule, later_rule}
use Rattle.uc_rewrite.specs.Completed.{completed, LeadsDown}
use Rattle.uc_rewrite.proofs.Reading.{MakeNothing}
use Rattle.uc_rewrite.proofs.Unique.{one_instance}
use Rattle.uc_rewrite.proofs.Completing.{completes, gives, pairs_for, match_from}

-- the rule reads a fact that lives
pub record IsRuleOf (live : List Live) (r : Rule) : Type 0 where
  pub equation : Equation
  pub equation_is : fact_at live r.number ≡ Some equation
  pub from_is : r.from ≡ side_of r.side equation
  pub to_is : r.to ≡ other_side_of r.side equation

abbrev pick : Bool → Equation → Option Equation → Option Equation
pick b e o = if b then Some e else o

number_from : (n : ℕ) (fs : List Live) (m : ℕ) (e : Equation) → RiseFrom n fs → fact_at fs m ≡ Some e → n ≤ m
number_from n [] m e r h = absurd cc
number_from n (f ∷ fs) m e r h = go (f.number == m) refl (number_from (f.number + 1) fs m e r.1) h
  where
    go : (b : Bool) → (f.number == m) ≡ b → (fact_at fs m ≡ Some e → f.number + 1 ≤ m) → pick b f.equation (fact_at fs m) ≡ Some e → n ≤ m
    go true q k h = let s : f.number ≡ m = eqb-true f.number m q in let l = r.0 in omega arith
    go false q k h = let s = k h in let l = r.0 in omega arith

later_known : (n : ℕ) (f : Live) (fs : List Live) (r : Rule) → RiseFrom n (f ∷ fs) → IsRuleOf fs r → IsRuleOf (f ∷ fs) r
later_known n f fs r h k = record { equation = k.equation; equation_is = go (f.number == r.number) refl; from_is = k.from_is; to_is = k.to_is }
  where
    go : (b : Bool) → (f.number == r.number) ≡ b → pick (f.number == r.number) f.equation (fact_at fs r.number) ≡ Some k.equation
    go true q = absurd (let s : f.number ≡ r.number = eqb-true f.number r.number q in let l = number_from (f.number + 1) fs r.number k.equation h.1 k.equation_is in omega arith)
    go false q = ap (λ b. pick b f.equation (fact_at fs r.number)) q ∙ k.equation_is

all_later : (n : ℕ) (f : Live) (fs : List Live) (rs : List Rule) → RiseFrom n (f ∷ fs) → Each (IsRuleOf fs) rs → Each (IsRuleOf (f ∷ fs)) rs
all_later n f fs [] h k = tt
all_later n f fs (r ∷ rs) h k = (later_known n f fs r h k.0, all_later n f fs rs h k.1)

here : (f : Live) (fs : List Live) → fact_at (f ∷ fs) f.number ≡ Some f.equation
here f fs = ap (λ b. pick b f.equation (fact_at fs f.number)) (eq-eqb f.number f.number refl)

known_from : (n : ℕ) (fs : List Live) → RiseFrom n fs → Each (IsRuleOf fs) (rules_of fs)
known_from n [] h = tt
known_from n (f ∷ fs) h = (
  record { equation = f.equation; equation_is = here f fs; from_is = refl; to_is = refl },
  (
    record { equation = f.equation; equation_is = here f fs; from_is = refl; to_is = refl },
    all_later n f fs (rules_of fs) h (known_from (f.number + 1) fs h.1),
  ),
)

pub all_known : (live : List Live) → AreRising live → Each (IsRuleOf live) (rules_of live)
all_known live h = known_from 0 live h

-- the rule by which it was found
pub record FoundBy (live : List Live) (t : Tree) (found : Found) (from to : Tree) : Type 0 where
  pub rule : Rule
  pub pairs : List (ℕ × Tree)
  pub known : IsRuleOf live rule
  pub is_match : IsMatch rule.from t pairs
  pub found_is : found ≡ found_by rule pairs
  pub from_is : from ≡ rule.from
  pub to_is : to ≡ rule.to

pub found_rule : (live : List Live) (t : Tree) (rules : List Rule) (found : Found) (from to : Tree) → Each (IsRuleOf live) rules → IsFound t rules found from to → FoundBy live t found from to
found_rule live t [] found from to k i = elim i [ ]
found_rule live t (r ∷ rules) _ _ _ k (by_first {pairs = p} m) = record { rule = r; pairs = p; known = k.0; is_match = m; found_is = refl; from_is = refl; to_is = refl }
found_rule live t (r ∷ rules) found from to k (by_later i) = found_rule live t rules found from to k.1 i

module _ (Greater : Tree → Tree → Type 0) (least : Sym) (live : List Live) (u : Tree) where
  -- what is found leads down exactly where its rule makes a term
  pub makes : (r : Rule) (pairs : List (ℕ × Tree)) → IsRuleOf live r → IsMatch r.from u pairs → LeadsDown Greater least live u (found_by r pairs) → Makes Greater least r u (apply (completed least pairs) r.to)
  makes r pairs k m d =
      let same : d.sides.equation ≡ k.equation = (let a = d.sides.equation_is in let b = k.equation_is in cc) in
      let to : d.to ≡ r.to = d.sides.to_is ∙ ap (other_side_of r.side) same ∙ sym k.to_is in
      record {
        σ = completed least pairs;
        u_is = sym (gives least r.from u pairs m);
        v_is = refl;
        completed = completes least r.from u pairs m r.to;
        greater = subst (λ z. Greater u (apply (completed least pairs) z)) to d.greater;
      }

  pub leads : (r : Rule) (pairs : List (ℕ × Tree)) (v : Tree) → IsRuleOf live r → IsMatch r.from u pairs → Makes Greater least r u v → LeadsDown Greater least live u (found_by r pairs)
  leads r pairs v k m a =
      let same : v ≡ apply (completed least pairs) r.to = a.v_is ∙ one_instance least r.from r.to a.σ (completed least pairs) a.completed (completes least r.from u pairs m r.to) (sym a.u_is ∙ sym (gives least r.from u pairs m)) in
      record {
        from = r.from;
        to = r.to;
        sides = record { equation = k.equation; equation_is = k.equation_is; from_is = k.from_is; to_is = k.to_is };
        greater = subst (λ z. Greater u z) same a.greater;
      }

  -- a rule of which no match leads down makes nothing
  makes_none : (r : Rule) → IsRuleOf live r → ((pairs : List (ℕ × Tree)) → IsMatch r.from u pairs → LeadsDown Greater least live u (found_by r pairs) → ⊥) → (w : Tree) → Makes Greater least r u w → ⊥
  makes_none r k n w a =
      let m = match_from a.σ r.from u (sym a.u_is) in
      n (pairs_for a.σ (firsts (variables r.from))) m (leads r (pairs_for a.σ (firsts (variables r.from))) w k m a)

  pub record Chosen (rules : List Rule) (found : Found) : Type 0 where
    pub rule : Rule
    pub known : IsRuleOf live rule
    pub number_is : found.fact ≡ rule.number
    pub side_is : found.side ≡ rule.side
    pub is_match : IsMatch rule.from u found.subst
    pub first : FirstRule Greater least u (apply (completed least found.subst) rule.to) rules rule

  pub chosen : (rules : List Rule) (found : Found) → Each (IsRuleOf live) rules → FirstThat (LeadsDown Greater least live u) u rules (Some found) → Chosen rules found
  chosen [] found k f = elim f [ ]
  chosen (r ∷ rules) _ k (accepted {pairs = p} m d) = record { rule = r; known = k.0; number_is = refl; side_is = refl; is_match = m; first = this_rule (makes r p k.0 m d) }
  chosen (r ∷ rules) found k (not_accepted n f) =
      let c = chosen rules found k.1 f in
      record { rule = c.rule; known = c.known; number_is = c.number_is; side_is = c.side_is; is_match = c.is_match; first = later_rule (makes_none r k.0 n) c.first }

  pub nothing : (rules : List Rule) → Each (IsRuleOf live) rules → FirstThat (LeadsDown Greater least live u) u rules None → MakeNothing Greater least u rules
  nothing [] k f = tt
  nothing (r ∷ rules) k (not_accepted n f) = (makes_none r k.0 n, nothing rules k.1 f)
