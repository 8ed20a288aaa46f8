-- Overlaps of two rules: a side of the inner one unifies with a part of a side of the outer one (Baader and Nipkow, Term
-- Rewriting and All That, section 6.2).
use Rattle.std.specs.Prelude.{ℕ, ◌≡◌, ◌+◌, ◌<◌, ◌≤◌, ◌⊎◌}
use Rattle.uc_term.specs.declared.equation.Equation.{Equation}
use Rattle.uc_term.specs.declared.equation.Side.{Side}
use Rattle.uc_term.specs.Tree.{Tree, var, apply, nodes, subterm, put}
use Rattle.uc_term.specs.Variables.{Occurs, IsApp}
use Rattle.uc_unify.specs.Unifiers.{IsMostGeneral, HasNoUnifier}
use Rattle.uc_fact.specs.declared.fact.Overlap.{Overlap}
use Rattle.uc_fact.specs.Live.{Rule, rule_of}
use Rattle.uc_pair.specs.declared.formed.Size.{Size}
use Rattle.uc_pair.specs.declared.formed.Size.TheVariants.{Weight, Same, Large}
use Rattle.uc_pair.specs.declared.formed.Formed.{Formed}

-- the equation of this number, read from this side to the other
abbrev pub read_from : ℕ → Side → Equation → Rule
read_from number side e = rule_of side (record { number = number; equation = e })

-- the variables renamed: k is added to each
abbrev pub shifted : ℕ → Tree → Tree
shifted k t = apply (λ x. var (x + k)) t

-- each variable of the rule is below k
abbrev pub IsBelow : ℕ → Rule → Type 0
IsBelow k rule = (x : ℕ) → Occurs x rule.from ⊎ Occurs x rule.to → x < k

-- The inner rule's side, its variables renamed apart, unifies with the part of the outer rule's side at a place, which is no
-- variable, by a most general unifier.
pub record Overlapping (outer inner : Rule) (place : ℕ) : Type 0 where
  pub inside : place < nodes outer.from
  pub no_variable : IsApp (subterm outer.from place)
  pub k : ℕ
  pub apart : IsBelow k outer
  pub σ : ℕ → Tree
  pub most_general : IsMostGeneral (subterm outer.from place) (shifted k inner.from) σ

-- renamed apart, they don't unify
pub record IsApart (outer inner : Rule) (place : ℕ) : Type 0 where
  pub k : ℕ
  pub apart : IsBelow k outer
  pub never : HasNoUnifier (subterm outer.from place) (shifted k inner.from)

-- the instance of the outer side, from which both sides of the pair come
abbrev pub peak : {outer inner : Rule} {place : ℕ} → Overlapping outer inner place → Tree
peak {outer = outer} o = apply o.σ outer.from

-- the pair's left side: the instance of the outer rule's other side
abbrev pub left_of : {outer inner : Rule} {place : ℕ} → Overlapping outer inner place → Tree
left_of {outer = outer} o = apply o.σ outer.to

-- the instances of the inner rule's sides
abbrev pub inner_from : {outer inner : Rule} {place : ℕ} → Overlapping outer inner place → Tree
inner_from {inner = inner} o = apply o.σ (shifted o.k inner.from)

abbrev pub inner_to : {outer inner : Rule} {place : ℕ} → Overlapping outer inner place → Tree
inner_to {inner = inner} o = apply o.σ (shifted o.k inner.to)

-- the pair's right side: the instance of the outer side, in which the inner rule's other side stands at the place
abbrev pub right_of : {outer inner : Rule} {place : ℕ} → Overlapping outer inner place → Tree
right_of {outer = outer} {inner = inner} {place = place} o = apply o.σ (put outer.from place (shifted o.k inner.to))

-- the term has more nodes than a term may have
abbrev pub IsLarge : Tree → Type 0
IsLarge t = 4096 < nodes t

abbrev pub IsSmall : Tree → Type 0
IsSmall t = nodes t ≤ 4096

-- the pair can't be formed
abbrev pub IsTooLarge : {outer inner : Rule} {place : ℕ} → Overlapping outer inner place → Type 0
IsTooLarge o = IsLarge (peak o) ⊎ (IsLarge (left_of o) ⊎ IsLarge (right_of o))

-- the pair can be formed
pub record Fits {outer inner : Rule} {place : ℕ} (o : Overlapping outer inner place) : Type 0 where
  pub peak_small : IsSmall (peak o)
  pub left_small : IsSmall (left_of o)
  pub right_small : IsSmall (right_of o)

-- how large the pair is
pub data HasSize {outer inner : Rule} {place : ℕ} (o : Overlapping outer inner place) : Size → Type 0 where
  is_large : IsTooLarge o → HasSize o Large
  is_same : Fits o → left_of o ≡ right_of o → HasSize o Same
  is_weight : Fits o → (left_of o ≡ right_of o → ⊥) → HasSize o (Weight (nodes (left_of o) + nodes (right_of o)))

-- the overlap of the rules at this place
abbrev pub overlap_at : Rule → Rule → ℕ → Overlap
overlap_at outer inner place = record { outer = outer.number; outer_side = outer.side; inner = inner.number; inner_side = inner.side; position = record { 0 = place } }

-- it is an overlap of the outer equation a and the inner one b
abbrev pub IsOverlapOf : Equation → Equation → Overlap → Type 0
IsOverlapOf a b overlap = Overlapping (read_from overlap.outer overlap.outer_side a) (read_from overlap.inner overlap.inner_side b) overlap.position.0

-- and its pair has this size
pub record IsFormedOf (a b : Equation) (formed : Formed) : Type 0 where
  pub overlaps : IsOverlapOf a b formed.overlap
  pub has_size : HasSize overlaps formed.size
