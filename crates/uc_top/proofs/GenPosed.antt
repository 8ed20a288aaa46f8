-- What is so of a generated problem and its order.
use Rattle.std.proofs.Common.{◌≡◌, ℕ, ◌-◌, List, [], ◌∷◌, length, take, drop, None, sym, ap, ◌∙◌, subst, arith}
use Rattle.std.proofs.lemmas.List.{take_all}
use Rattle.uc_term.specs.declared.node.Sym.{Sym}
use Rattle.uc_term.specs.declared.signature.Signature.{Signature}
use Rattle.uc_term.specs.Table.{Table}
use Rattle.uc_check.specs.Clauses.{axioms_of}
use Rattle.uc_problem.specs.declared.problem.Problem.{Problem}
use Rattle.uc_order.specs.declared.spec.OrderSpec.{OrderSpec}
use Rattle.uc_order.specs.Laws.{Laws, HasSym}
use Rattle.uc_fact.specs.Ground.{AreOfSignature}
use Rattle.uc_ordering.specs.Fits.{Fits}
use Rattle.uc_ordering.specs.Meaning.{meaning_of}
use Rattle.uc_ordering.specs.Premises.{IsSignature}
use Rattle.uc_ordering.proofs.Fitting.{fits}
use Rattle.uc_ordering.proofs.Once.{order_once}
use Rattle.uc_ordering.specs.Choice.{IsChosen}
use Rattle.uc_gen.specs.Generated.{IsGenerated, signature_of}
use Rattle.uc_gen.specs.Options.{no_options}
use Rattle.uc_gen.proofs.Once.{generated_once, same_constants}
use Rattle.uc_gen.proofs.Over.{axioms_over}
use Rattle.uc_gen.proofs.Signature.{signature_has}
use Rattle.uc_answer.proofs.OrderLaws.{spec_laws}
use Rattle.uc_answer.proofs.SearchEnds.{equations_over}
use Rattle.uc_top.specs.GenAnswers.{IsPosed}

module _ (n start : ℕ) (table : Table) (problem : Problem) (spec : OrderSpec) (posed : IsPosed n start table problem spec) where
  pub signature_is : problem.signature ≡ signature_of posed.generated.f posed.generated.constants
  signature_is = ap (λ (p : Problem). p.signature) posed.generated.problem_is

  pub symbols_are : problem.signature.symbols ≡ posed.generated.f ∷ posed.generated.constants
  symbols_are = ap (λ (s : Signature). s.symbols) signature_is

  pub is_signature : IsSignature table problem.signature
  is_signature = subst (IsSignature table) (sym signature_is) (signature_has table posed.generated.f posed.generated.is_f n posed.most posed.generated.constants posed.some posed.generated.are_constants)

  pub posed_fits : Fits table problem.signature.symbols spec
  posed_fits = fits table problem.signature no_options (omega arith) (omega arith) is_signature None spec posed.chosen tt

  pub posed_laws : Laws (meaning_of table spec)
  posed_laws = spec_laws table problem.signature.symbols spec posed_fits

  pub posed_over : AreOfSignature (HasSym (meaning_of table spec)) (meaning_of table spec).arity (axioms_of problem.clauses)
  posed_over = equations_over table problem.signature.symbols spec posed_fits (axioms_of problem.clauses) (axioms_over table n start problem posed.some posed.generated)

-- the symbols behind the first one
pub behind_first : (symbols : List Sym) (f : Sym) (constants : List Sym) → symbols ≡ f ∷ constants → take (length symbols - 1) (drop 1 symbols) ≡ constants
behind_first [] f constants e = absurd cc
behind_first (g ∷ gs) f constants e = let rest : gs ≡ constants = cc in take_all (length (g ∷ gs) - 1) gs (omega arith) ∙ rest

-- two are the same
module _ (n start : ℕ) (table other : Table) (problem another : Problem) (spec named : OrderSpec) (x : IsPosed n start table problem spec) (y : IsPosed n start other another named) where
  pub one_table : other ≡ table
  one_table = y.table_is ∙ sym x.table_is

  pub one_problem : another ≡ problem
  one_problem = generated_once table n start another problem x.distinct (subst (λ (t : Table). IsGenerated t n start another) one_table y.generated) x.generated

  pub one_spec : named ≡ spec
  one_spec = order_once table problem.signature no_options None named spec (subst (λ (p : Problem). IsChosen table p.signature no_options None named) one_problem (subst (λ (t : Table). IsChosen t another.signature no_options None named) one_table y.chosen)) x.chosen

  pub one_meaning : meaning_of other named ≡ meaning_of table spec
  one_meaning = ap (λ (t : Table). meaning_of t named) one_table ∙ ap (meaning_of table) one_spec

  pub one_constants : y.generated.constants ≡ x.generated.constants
  one_constants = same_constants other table n start another problem y.generated x.generated one_problem
