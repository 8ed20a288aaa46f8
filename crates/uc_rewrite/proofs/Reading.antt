-- Steps by rules are steps by equations.
use Rattle.std.proofs.Common.{◌≡◌, ℕ, zero, suc, List, [], ◌∷◌, refl, sym, ap, ◌∙◌}
use Rattle.uc_term.specs.declared.node.Sym.{Sym}
use Rattle.uc_term.specs.declared.equation.Side.{Side}
use Rattle.uc_term.specs.declared.equation.Side.TheVariants.{Left, Right}
use Rattle.uc_term.specs.Equations.{Sides, side_of, other_side_of}
use Rattle.uc_term.specs.Tree.{Tree, var, app, Trees, none, more, apply, list_of}
use Rattle.uc_term.specs.Within.{at_root, under, at_first, at_later}
use Rattle.uc_order.specs.Members.{In, in_front, in_rest, Each}
use Rattle.uc_fact.specs.Live.{Live, Rule, rules_of, equations_of}
use Rattle.uc_fact.specs.Ordered.{Falls, IsIrreducible, AreIrreducible, IsIrreducibleBelow}
use Rattle.uc_rewrite.specs.Normalising.{Makes, FirstRule, this_rule, later_rule}
use Rattle.uc_rewrite.specs.Walking.{arguments, AreNormal}

pub each_in : {A : Type 0} (P : A → Type 0) (xs : List A) (x : A) → Each P xs → In xs x → P x
each_in P [] x e i = elim i [ ]
each_in P (x ∷ xs) _ e in_front = e.0
each_in P (y ∷ xs) x e (in_rest i) = each_in P xs x e.1 i

-- a rule reads an equation from one of its sides
pub in_sides : (live : List Live) (r : Rule) → In (rules_of live) r → (n : ℕ) × Sides (equations_of live) n r.side r.from r.to
in_sides [] r i = elim i [ ]
in_sides (f ∷ fs) _ in_front = (0, record { equation = f.equation; equation_is = refl; left_is = refl; right_is = refl })
in_sides (f ∷ fs) _ (in_rest in_front) = (0, record { equation = f.equation; equation_is = refl; left_is = refl; right_is = refl })
in_sides (f ∷ fs) r (in_rest (in_rest i)) =
    let s = in_sides fs r i in
    (suc s.0, record { equation = s.1.equation; equation_is = s.1.equation_is; left_is = s.1.left_is; right_is = s.1.right_is })

-- each side of an equation is read by a rule
pub record Read (live : List Live) (l r : Tree) : Type 0 where
  pub rule : Rule
  pub among : In (rules_of live) rule
  pub from_is : rule.from ≡ l
  pub to_is : rule.to ≡ r

pub sides_read : (live : List Live) (n : ℕ) (side : Side) (l r : Tree) → Sides (equations_of live) n side l r → Read live l r
sides_read [] n side l r s = absurd (let e = s.equation_is in cc)
sides_read (f ∷ fs) zero Left l r s =
    let e : f.equation ≡ s.equation = (let h = s.equation_is in cc) in
    record { rule = record { number = f.number; side = Left; from = f.equation.left; to = f.equation.right }; among = in_front; from_is = ap (side_of Left) e ∙ sym s.left_is; to_is = ap (other_side_of Left) e ∙ sym s.right_is }
sides_read (f ∷ fs) zero Right l r s =
    let e : f.equation ≡ s.equation = (let h = s.equation_is in cc) in
    record { rule = record { number = f.number; side = Right; from = f.equation.right; to = f.equation.left }; among = in_rest in_front; from_is = ap (side_of Right) e ∙ sym s.left_is; to_is = ap (other_side_of Right) e ∙ sym s.right_is }
sides_read (f ∷ fs) (suc n) side l r s =
    let t = sides_read fs n side l r (record { equation = s.equation; equation_is = s.equation_is; left_is = s.left_is; right_is = s.right_is }) in
    record { rule = t.rule; among = in_rest (in_rest t.among); from_is = t.from_is; to_is = t.to_is }

module _ (Greater : Tree → Tree → Type 0) (least : Sym) where
  pub rule_among : (u v : Tree) (rules : List Rule) (r : Rule) → FirstRule Greater least u v rules r → In rules r
  rule_among u v [] r f = elim f [ ]
  rule_among u v (_ ∷ rules) r (this_rule m) = in_front
  rule_among u v (_ ∷ rules) r (later_rule n f) = in_rest (rule_among u v rules r f)

  pub rule_makes : (u v : Tree) (rules : List Rule) (r : Rule) → FirstRule Greater least u v rules r → Makes Greater least r u v
  rule_makes u v [] r f = elim f [ ]
  rule_makes u v (_ ∷ rules) r (this_rule m) = m
  rule_makes u v (_ ∷ rules) r (later_rule n f) = rule_makes u v rules r f

  -- no rule makes anything of the term
  abbrev pub MakeNothing : Tree → List Rule → Type 0
  MakeNothing u rules = Each (λ r. (w : Tree) → Makes Greater least r u w → ⊥) rules

  module _ (live : List Live) where
    pub rule_falls : (u v : Tree) (r : Rule) → FirstRule Greater least u v (rules_of live) r → Falls Greater least (equations_of live) u v
    rule_falls u v r f =
        let m = rule_makes u v (rules_of live) r f in
        let s = in_sides live r (rule_among u v (rules_of live) r f) in
        record { turn = record { number = s.0; side = r.side; l = r.from; r = r.to; sides = s.1; σ = m.σ; u_is = m.u_is; v_is = m.v_is }; completed = m.completed; greater = m.greater }

    pub nothing_falls : (u v : Tree) → MakeNothing u (rules_of live) → Falls Greater least (equations_of live) u v → ⊥
    nothing_falls u v nothing f =
        let turn = f.turn in
        let t = sides_read live turn.number turn.side turn.l turn.r turn.sides in
        each_in (λ q. (w : Tree) → Makes Greater least q u w → ⊥) (rules_of live) t.rule nothing t.among v (record {
          σ = turn.σ;
          u_is = turn.u_is ∙ ap (apply turn.σ) (sym t.from_is);
          v_is = turn.v_is ∙ ap (apply turn.σ) (sym t.to_is);
          completed = rw (t.from_is, t.to_is) f.completed;
          greater = f.greater;
        })

    pub none_in : (ts : Trees) → AreNormal Greater least live (list_of ts) → AreIrreducible Greater least (equations_of live) ts
    none_in none n vs w = elim w [ ]
    none_in (more t ts) n none w = elim w [ ]
    none_in (more t ts) n (more v _) (at_first w) = n.0 v w
    none_in (more t ts) n (more _ vs) (at_later w) = none_in ts n.1 vs w

    pub none_below : (u : Tree) → AreNormal Greater least live (arguments u) → IsIrreducibleBelow Greater least (equations_of live) u
    none_below (var x) n = tt
    none_below (app f ts) n = none_in ts n

    pub irreducible : (u : Tree) → IsIrreducibleBelow Greater least (equations_of live) u → MakeNothing u (rules_of live) → IsIrreducible Greater least (equations_of live) u
    irreducible u below nothing v (at_root f) = nothing_falls u v nothing f
    irreducible (app f us) below nothing (app _ vs) (under w) = below vs w
