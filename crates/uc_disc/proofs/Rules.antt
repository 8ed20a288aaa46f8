-- The rules of numbered facts by their numbers.
use Rattle.std.proofs.Common.{ℕ, zero, suc, ◌≡◌, ◌+◌, ◌*◌, ◌≤◌, List, [], ◌∷◌, length, Some, refl, ap, ◌∙◌, arith}
use Rattle.std.specs.Prelude.{slice_get}
use Rattle.uc_term.specs.declared.equation.Equation.{Equation}
use Rattle.uc_term.specs.declared.equation.Side.TheVariants.{Left, Right}
use Rattle.uc_fact.specs.Live.{rule_of, rules_of}
use Rattle.std.proofs.lemmas.List.{length-map}
use Rattle.uc_term.specs.declared.node.Node.{Node}
use Rattle.uc_term.specs.declared.equation.Side.{Side}
use Rattle.uc_term.specs.Equations.{side_of}
use Rattle.uc_term.specs.Tree.{Tree}
use Rattle.uc_term.specs.Flat.{flat}
use Rattle.uc_disc.specs.declared.build.Spelled.{Spelled}
use Rattle.uc_disc.specs.Spelling.{spelling, label_of}
use Rattle.uc_disc.specs.Building.{IsSpelled}
use Rattle.uc_disc.specs.Numbered.{live_of, lives, IsRule}

double : (q : ℕ) → 2 * suc q ≡ suc (suc (2 * q))
double q = omega arith

double_one : (q : ℕ) → 2 * suc q + 1 ≡ suc (suc (2 * q + 1))
double_one q = omega arith

pub rule_left : (fs : List (ℕ × Equation)) (q : ℕ) (f : ℕ × Equation) → slice_get fs q ≡ Some f → slice_get (rules_of (lives fs)) (2 * q) ≡ Some (rule_of Left (live_of f))
rule_left [] q f e = absurd cc
rule_left (g ∷ fs) zero f e = ap (λ (z : ℕ × Equation). Some (rule_of Left (live_of z))) cc
rule_left (g ∷ fs) (suc q) f e = ap (slice_get (rules_of (lives (g ∷ fs)))) (double q) ∙ rule_left fs q f e

pub rule_right : (fs : List (ℕ × Equation)) (q : ℕ) (f : ℕ × Equation) → slice_get fs q ≡ Some f → slice_get (rules_of (lives fs)) (2 * q + 1) ≡ Some (rule_of Right (live_of f))
rule_right [] q f e = absurd cc
rule_right (g ∷ fs) zero f e = ap (λ (z : ℕ × Equation). Some (rule_of Right (live_of z))) cc
rule_right (g ∷ fs) (suc q) f e = ap (slice_get (rules_of (lives (g ∷ fs)))) (double_one q) ∙ rule_right fs q f e

pub length_rules : (fs : List (ℕ × Equation)) → length (rules_of (lives fs)) ≡ 2 * length fs
length_rules [] = refl
length_rules (f ∷ fs) = omega (arith, length_rules fs)

-- the spelling of a rule's side
pub rule_spelled : (fs : List (ℕ × Equation)) (number place : ℕ) (fact : ℕ × Equation) (side : Side) (ns : List Node) (t : Tree) (s : Spelled) → IsRule fs number fact side → t ≡ side_of side fact.1 → ns ≡ flat t → length ns ≤ 4096 → s.rule ≡ number → s.labels.items ≡ spelling ns → IsSpelled (rules_of (lives fs)) s
rule_spelled fs number place fact side ns t s r e f h i g = (rule_of side (live_of fact), rw i r.is, g ∙ ap spelling (f ∙ ap flat e), omega (arith, ap length g, length-map ns (label_of ns)))
