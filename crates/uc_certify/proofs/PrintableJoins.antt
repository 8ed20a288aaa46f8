-- The joins that are made can be printed, and are read again as they were printed.
use Rattle.std.proofs.Common.{◌≡◌, ℕ, inl, inr, List, [], ◌∷◌, slice_get, Some, sym}
use Rattle.std.specs.List.{AllByRecursion}
use Rattle.uc_term.specs.declared.equation.Equation.{Equation}
use Rattle.uc_term.specs.declared.equation.Side.{Side}
use Rattle.uc_term.specs.declared.equation.Side.TheVariants.{Left, Right}
use Rattle.uc_term.specs.Equations.{side_of}
use Rattle.uc_term.specs.Over.{IsTerm}
use Rattle.uc_term.specs.Table.{Table, Has, IsOf, arity_of}
use Rattle.uc_term.specs.Tree.{Tree, subterm}
use Rattle.uc_term.specs.Variables.{variables}
use Rattle.uc_clause.specs.Printable.{IsPrintableSymbol, IsPrintable}
use Rattle.uc_fact.specs.Ground.{AreOfSignature}
use Rattle.uc_order.specs.Laws.{Meaning, HasSym, Laws}
use Rattle.uc_pair.specs.declared.formation.Formation.{Formation}
use Rattle.uc_pair.specs.declared.formation.Formation.TheVariants.{Pair, TooLarge}
use Rattle.uc_pair.specs.Overlapping.{peak, left_of, right_of}
use Rattle.uc_pair.specs.Pairs.{IsPairOf, forms_pair}
use Rattle.uc_runs.proofs.OverFound.{Any}
use Rattle.uc_fact.specs.declared.fact.Overlap.{Overlap as AnyOverlap}
use Rattle.uc_certificate.specs.declared.certificate.Case.{Case}
use Rattle.uc_certificate.specs.declared.certificate.End.{End}
use Rattle.uc_certificate.specs.declared.certificate.End.TheVariants.{Same, Instance, Orders, Ac}
use Rattle.uc_certificate.specs.declared.certificate.Join.{Join}
use Rattle.uc_certificate.specs.declared.certificate.Move.{Move}
use Rattle.uc_certificate.specs.declared.certificate.What.{What}
use Rattle.uc_certificate.specs.declared.certificate.What.TheVariants.{Axiom, Overlap}
use Rattle.uc_certificate.specs.Printing.{IsCaseOf, IsEndOf, IsJoinOf}
use Rattle.uc_certificate.specs.Printable.{IsPrintableWhat, IsPrintableClass, IsPrintableMove, IsPrintableCase, IsPrintableEnd, IsPrintableJoin}
use Rattle.uc_certify.specs.declared.expected.Member.{Member}
use Rattle.uc_certify.specs.declared.expected.Member.TheVariants as member
use Rattle.uc_certify.specs.Joining.{Names, AreSides, of_axiom, of_overlap}
use Rattle.uc_certify.specs.Knowing.{HasKnown}
use Rattle.uc_certify.specs.Making.{IsMadeFor, AreMadeFor, AreAllMade}
use Rattle.uc_certify.specs.Moving.{IsMove}
use Rattle.uc_certify.specs.Naming.{AreSymbolsIn, HaveFewVariables}
use Rattle.uc_certify.proofs.Decided.{over_into}
use Rattle.uc_certify.proofs.FewVariables.{Few, few_if, over_if, known_if, numbered_few, few_sides}
use Rattle.uc_certify.proofs.FilledOrders.{IsFilled}
use Rattle.uc_certify.proofs.MadeJoins.{sides_over}
use Rattle.uc_certify.proofs.PrintablePaths.{path_printable}
use Rattle.uc_certify.proofs.SuchJoins.{IsSuchCase, IsSuchEnd, OverKnown, join_so}

all_from : {A : Type 0} (P Q : A → Type 0) (xs : List A) → ((x : A) → P x → Q x) → AllByRecursion P xs → AllByRecursion Q xs
all_from P Q [] h a = tt
all_from P Q (x ∷ xs) h a = (h x a.0, all_from P Q xs h a.1)

-- both terms of a pair have variables that join lines can name
abbrev FewIn : Formation → Type 0
FewIn TooLarge = Unit {0}
FewIn (Pair left right chain) = HasKnown Few left × HasKnown Few right

module _ (m : Meaning) (laws : Laws m) (table : Table) (facts axioms : List Equation) (over : AreOfSignature (HasSym m) m.arity facts) (axioms_over : AreOfSignature (HasSym m) m.arity axioms) where
  -- terms of the table
  module _ (symbols : AreSymbolsIn table (Has table) m) where
    abbrev IsOfTable : Move → Type 0
    IsOfTable move = IsOf table move.to

    move_of : (Greater : Tree → Tree → Type 0) (before : Tree) (move : Move) → OverKnown m laws facts over Any before → IsMove m facts Greater Any before move → IsOfTable move
    move_of Greater before move o i = over_into (HasSym m) (Has table) m.arity (arity_of table) (λ f h. (let s = symbols f h in (s.0, sym s.1))) Any move.to i.over

    end_of : (end : End) → IsSuchEnd Any IsOfTable end → IsEndOf table end
    end_of Same e = tt
    end_of (Instance number) e = tt
    end_of (Orders cases) e = all_from (IsSuchCase Any IsOfTable) (IsCaseOf table) cases (λ (c : Case) s. record { left = s.left; right = s.right }) e.1
    end_of (Ac triples) e = tt

    join_of : (x : Member) (join : Join) → IsMadeFor m facts axioms x join → IsJoinOf table join
    join_of x join made =
        let sides = sides_over m laws facts axioms over axioms_over x made.left made.right made.sides in
        let such = join_so m laws facts over Any IsOfTable move_of made.left made.right join made.made sides.0 sides.1 in
        record { left = such.left; right = such.right; end = end_of join.end such.end }

    joins_of : (members : List Member) (joins : List Join) → AreMadeFor m facts axioms members joins → AllByRecursion (IsJoinOf table) joins
    joins_of [] [] made = tt
    joins_of [] (j ∷ js) made = absurd made
    joins_of (x ∷ xs) [] made = absurd made
    joins_of (x ∷ xs) (j ∷ js) made = (join_of x j made.0, joins_of xs js made.1)

    pub made_of_table : (joins : List Join) → AreAllMade m facts axioms joins → AllByRecursion (IsJoinOf table) joins
    made_of_table joins made = joins_of made.members joins made.made

  -- terms that can be printed, whose variables join lines can name
  module _ (symbols : AreSymbolsIn table (IsPrintableSymbol table) m) (few : HaveFewVariables axioms) where
    printable : (Known : ℕ → Type 0) (t : Tree) → OverKnown m laws facts over Known t → IsPrintable table t
    printable Known t o = over_into (HasSym m) (IsPrintableSymbol table) m.arity (arity_of table) (λ f h. (let s = symbols f h in (s.0, sym s.1))) Known t o

    move_printable : (Greater : Tree → Tree → Type 0) (before : Tree) (move : Move) → OverKnown m laws facts over Few before → IsMove m facts Greater Few before move → IsPrintableMove table move
    move_printable Greater before move o i = record {
      path = path_printable table move.path before i.part i.part_is (printable Few before o);
      to = printable Few move.to i.over;
      few = few_if move.to (known_if (HasSym m) m.arity Few move.to i.over);
    }

    class_printable : (class : List ℕ) → IsFilled Few class → IsPrintableClass class
    class_printable class f = record { some = f.some; few = f.known }

    case_printable : (c : Case) → IsSuchCase Few (IsPrintableMove table) c → IsPrintableCase table c
    case_printable c s = record { cases = all_from (IsFilled Few) IsPrintableClass c.cases class_printable s.cases; left = s.left; right = s.right }

    end_printable : (end : End) → IsSuchEnd Few (IsPrintableMove table) end → IsPrintableEnd table end
    end_printable Same e = tt
    end_printable (Instance number) e = tt
    end_printable (Orders cases) e = (e.0, all_from (IsSuchCase Few (IsPrintableMove table)) (IsPrintableCase table) cases case_printable e.1)
    end_printable (Ac triples) e = e

    side_over : (side : Side) (n : ℕ) (e : Equation) → slice_get facts n ≡ Some e → IsTerm (HasSym m) m.arity (side_of side e)
    side_over Left n e at = (over n e at).0
    side_over Right n e at = (over n e at).1

    what_printable : (x : Member) (what : What) → Names facts x what → IsPrintableWhat what
    what_printable x (Axiom number) n = tt
    what_printable (member.Axiom k) (Overlap outer outer_side inner inner_side path) n = absurd n
    what_printable (member.Overlap formed) (Overlap outer outer_side inner inner_side path) n =
        let side = side_of formed.overlap.outer_side n.fact in
        path_printable table path side (subterm side formed.overlap.position.0) n.path_is.there (printable Any side (side_over formed.overlap.outer_side formed.overlap.outer n.fact n.fact_is))

    pair_few : (a b : Equation) (overlap : AnyOverlap) (formation : Formation) → IsPairOf a b overlap formation → FewIn formation
    pair_few a b overlap TooLarge p = tt
    pair_few a b overlap (Pair left right chain) (forms_pair o fits by) = (
      numbered_few (left_of o) (right_of o) (variables (peak o)) fits.left_small fits.right_small (left_of o) left by.numbered.left_is (λ x i. inl i),
      numbered_few (left_of o) (right_of o) (variables (peak o)) fits.left_small fits.right_small (right_of o) right by.numbered.right_is (λ x i. inr i),
    )

    sides_few : (x : Member) (l r : Tree) → AreSides facts axioms x l r → HasKnown Few l × HasKnown Few r
    sides_few _ _ _ (of_axiom {k = k} {e = e} at) = few_sides axioms few k e at
    sides_few _ _ _ (of_overlap {formed = formed} {a = a} {b = b} {left = l} {right = r} {chain = chain} at bt pair) = pair_few a b formed.overlap (Pair l r chain) pair

    join_printable : (x : Member) (join : Join) → IsMadeFor m facts axioms x join → IsPrintableJoin table join
    join_printable x join made =
        let terms = sides_over m laws facts axioms over axioms_over x made.left made.right made.sides in
        let known = sides_few x made.left made.right made.sides in
        let such = join_so m laws facts over Few (IsPrintableMove table) move_printable made.left made.right join made.made (over_if (HasSym m) m.arity Few made.left terms.0 known.0) (over_if (HasSym m) m.arity Few made.right terms.1 known.1) in
        record { what = what_printable x join.what made.names; left = such.left; right = such.right; end = end_printable join.end such.end }

    joins_printable : (members : List Member) (joins : List Join) → AreMadeFor m facts axioms members joins → AllByRecursion (IsPrintableJoin table) joins
    joins_printable [] [] made = tt
    joins_printable [] (j ∷ js) made = absurd made
    joins_printable (x ∷ xs) [] made = absurd made
    joins_printable (x ∷ xs) (j ∷ js) made = (join_printable x j made.0, joins_printable xs js made.1)

    pub made_printable : (joins : List Join) → AreAllMade m facts axioms joins → AllByRecursion (IsPrintableJoin table) joins
    made_printable joins made = joins_printable made.members joins made.made
