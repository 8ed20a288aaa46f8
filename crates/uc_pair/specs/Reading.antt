-- Rules as they are read, and the sides of an outer and an inner rule with their variables renamed apart.
use Rattle.std.specs.Prelude.{ℕ, ◌≡◌, ◌↔◌, IsTrue}
use Rattle.uc_term.specs.Tree.{Tree, var, Trees, none, more, apply, apply_all}
use Rattle.uc_fact.specs.Live.{Rule}
use Rattle.uc_pair.specs.declared.reading.Read.{Read}
use Rattle.uc_pair.specs.declared.instances.RenamedApart.{RenamedApart}
use Rattle.uc_pair.specs.Overlapping.{shifted, IsBelow}
use Rattle.uc_pair.specs.Listing.{NeverDown}

abbrev pub rule_read : Read → Rule
rule_read r = record { number = r.number; side = r.side; from = r.from.now; to = r.to.now }

-- what is noted of it is so: it leads down nowhere, or everywhere
pub record IsTold (Greater : Tree → Tree → Type 0) (r : Read) : Type 0 where
  pub never : IsTrue r.never_down ↔ NeverDown Greater (rule_read r)
  pub always : IsTrue r.always_down → Greater (rule_read r).from (rule_read r).to

-- two terms are instances of the rule's sides, by one substitution
abbrev pub AreInstances : Rule → Tree → Tree → Type 0
AreInstances rule from to = (ρ : ℕ → Tree) × (from ≡ apply ρ rule.from) × (to ≡ apply ρ rule.to)

-- the variables renamed
abbrev pub renamed : (ℕ → ℕ) → Tree → Tree
renamed f t = apply (λ x. var (f x)) t

abbrev pub renamed_all : (ℕ → ℕ) → Trees → Trees
renamed_all f ts = apply_all (λ x. var (f x)) ts

-- the sides of both rules, with k added to each variable of the inner one
abbrev pub sides_apart : ℕ → Rule → Rule → Trees
sides_apart k outer inner = more outer.from (more outer.to (more (shifted k inner.from) (more (shifted k inner.to) none)))

abbrev pub sides_renamed : RenamedApart → Trees
sides_renamed terms = more terms.outer_from (more terms.outer_to (more terms.inner_from (more terms.inner_to none)))

-- they are the sides with their variables renamed apart, and renamed back they are the sides again
pub record AreApart (outer inner : Rule) (terms : RenamedApart) : Type 0 where
  pub k : ℕ
  pub apart : IsBelow k outer
  pub there : ℕ → ℕ
  pub back : ℕ → ℕ
  pub renamed_are : sides_renamed terms ≡ renamed_all there (sides_apart k outer inner)
  pub sides_are : sides_apart k outer inner ≡ renamed_all back (sides_renamed terms)
