-- The order of a certificate extends that of a search for the same problem.
use Rattle.std.proofs.Common.{ℕ, ◌≡◌, ◌≤◌, List, Option, Some, None, Ok, refl, sym, ap, ◌∙◌, subst}
use Rattle.uc_term.specs.declared.node.Sym.{Sym}
use Rattle.uc_term.specs.declared.fresh.Fresh.{Fresh}
use Rattle.uc_term.specs.Table.{Table, Grows, Has, arity_of}
use Rattle.uc_term.proofs.Grown.{arity-grows}
use Rattle.uc_edge.specs.Files.{Files}
use Rattle.uc_check.specs.Clauses.{axioms_of}
use Rattle.uc_problem.specs.declared.problem.Problem.{Problem}
use Rattle.uc_problem.specs.declared.problem.Encoded.{Encoded}
use Rattle.uc_problem.specs.Holds.{Agrees}
use Rattle.uc_problem.specs.Marks.{Marks}
use Rattle.uc_problem.proofs.Growth.{agrees_later}
use Rattle.uc_problem.proofs.Later.{Grows-trans}
use Rattle.uc_order.specs.Members.{In}
use Rattle.uc_order.specs.Laws.{Meaning, Laws, HasSym}
use Rattle.uc_order.specs.declared.spec.OrderSpec.{OrderSpec}
use Rattle.uc_order.specs.declared.spec.OrderSpec.TheVariants.{Kbo, Lpo}
use Rattle.uc_kbo.proofs.Tables.{each_in}
use Rattle.uc_words.specs.declared.command.OrderWords.{OrderWords}
use Rattle.uc_ordering.specs.Choice.{IsChosen, all_symbols}
use Rattle.uc_ordering.specs.Fits.{Fits}
use Rattle.uc_ordering.specs.Meaning.{meaning_of}
use Rattle.uc_ordering.specs.Premises.{IsSignature}
use Rattle.uc_ordering.specs.Restricting.{restricted}
use Rattle.uc_ordering.proofs.Fitting.{fits}
use Rattle.uc_ordering.proofs.LaterTables.{symbols_of, meaning_same, chosen_later}
use Rattle.uc_ordering.proofs.Once.{order_once}
use Rattle.uc_ordering.proofs.OwnPart.{own_part, own_least}
use Rattle.uc_ordering.proofs.Restricted.{restricted_agrees}
use Rattle.uc_system.specs.Reading.{precedence_of, IsSystem}
use Rattle.uc_certify.specs.declared.certified.Certified.TheVariants.{Yes}
use Rattle.uc_certify.specs.Extending.{AgreeOnOwn, Extends, IsOwnOrder}
use Rattle.uc_answer.proofs.OrderLaws.{spec_laws}
use Rattle.uc_answer.proofs.SpecSymbols.{known_symbol, symbol_known}
use Rattle.uc_top.specs.SharedOrders.{SharesOrder, agrees, restricts, is_named}
use Rattle.uc_top.specs.CertifyRuns.{HasTested}
use Rattle.uc_top.proofs.CertificateOrders.{own_known}
use Rattle.uc_top.proofs.CertificateTexts.{read_system}
use Rattle.uc_top.proofs.DecidedAnswers.{axioms_over}
use Rattle.uc_top.proofs.EncodedTables.{marks_grow}
use Rattle.uc_top.proofs.OwnSignatures.{is_signature}

-- the symbols of a description that fits a signature are the table's
fits_named : (table : Table) (signature : List Sym) (spec : OrderSpec) → Fits table signature spec → (f : Sym) → In (symbols_of spec) f → Has table f
fits_named table signature (Kbo w0 weights precedence) h f i = each_in (Has table) signature f h.of_table (each_in (In signature) precedence f h.total.0.0 i)
fits_named table signature (Lpo precedence) h f i = each_in (Has table) signature f h.of_table (each_in (In signature) precedence f h.total.0 i)

-- a certificate that passes all tests
module _ (files : Files) (root : Option (List ℕ)) (name file : List ℕ) (passed : HasTested files root name file Yes) where
  abbrev loaded : Table
  loaded = passed.loaded

  abbrev table : Table
  table = passed.table

  abbrev read : Table
  read = passed.read

  abbrev problem : Problem
  problem = passed.problem

  abbrev encoded : Encoded
  encoded = passed.encoded

  abbrev whole : OrderSpec
  whole = passed.certificate.text.spec

  agreeing : Agrees loaded problem
  agreeing = passed.is_loaded.holds.agrees

  system : IsSystem read passed.certificate.text
  system = read_system read passed.text passed.certificate passed.reads

  abbrev pub m : Meaning
  m = meaning_of read whole

  pub m_laws : Laws m
  m_laws = spec_laws read (precedence_of whole) whole system.fits

  to_table : Grows loaded table
  to_table = marks_grow loaded table encoded.fresh passed.adds

  pub to_read : Grows loaded read
  to_read = Grows-trans loaded table read to_table passed.grows

  table_agrees : Agrees table problem
  table_agrees = agrees_later loaded table to_table problem agreeing

  module _ (words : OrderWords) (some : 1 ≤ words.w0) (most : words.w0 ≤ 1000000) (own_spec : OrderSpec) (chosen : IsChosen loaded problem.signature words None own_spec) where
    abbrev pub own : Meaning
    own = meaning_of loaded own_spec

    pub own_fits : Fits loaded problem.signature.symbols own_spec
    own_fits = fits loaded problem.signature words some most (is_signature loaded problem agreeing) None own_spec chosen tt

    pub own_laws : Laws own
    own_laws = spec_laws loaded problem.signature.symbols own_spec own_fits

    -- the own symbols are those of the table that loading leaves
    pub own_has : (f : Sym) → In problem.signature.symbols f → Has loaded f
    own_has f i = each_in (Has loaded) problem.signature.symbols f own_fits.of_table i

    pub own_symbol : (f : Sym) → HasSym own f → In problem.signature.symbols f × (own.arity f ≡ arity_of loaded f)
    own_symbol f h = known_symbol loaded problem.signature.symbols own_spec own_fits f h

    -- with its arity in the table that the certificate makes
    pub own_arity : (f : Sym) → In problem.signature.symbols f → HasSym own f × (arity_of read f ≡ own.arity f)
    own_arity f i =
        let p = symbol_known loaded problem.signature.symbols own_spec own_fits f i in
        (p.0, arity-grows loaded read to_read f (own_has f i) ∙ p.1)

    symbols : (f : Sym) → HasSym own f → HasSym m f × (m.arity f ≡ own.arity f)
    symbols f h =
        let p = own_symbol f h in
        let q = own_known table read passed.grows problem table_agrees encoded passed.encodes passed.certificate system passed.is_tested f p.0 in
        (q.0, sym q.1 ∙ arity-grows loaded read to_read f (own_has f p.0) ∙ sym p.1)

    extends : AgreeOnOwn m own → In problem.signature.symbols m.least → Extends m own
    extends agree i = record { symbols = symbols; agree = agree; least_is_own = (symbol_known loaded problem.signature.symbols own_spec own_fits m.least i).0 }

    -- the search's order means the same in every later table
    same_in : (later : Table) → Grows loaded later → meaning_of later own_spec ≡ own
    same_in later g = meaning_same loaded later g own_spec (fits_named loaded problem.signature.symbols own_spec own_fits)

    by_restriction : restricted problem.signature.symbols whole ≡ own_spec → AgreeOnOwn m own
    by_restriction e =
        let same : meaning_of read (restricted problem.signature.symbols whole) ≡ own = ap (meaning_of read) e ∙ same_in read to_read in
        subst (AgreeOnOwn m) same (restricted_agrees read problem.signature.symbols whole)

    -- the certificate's order is that of the search
    by_itself : whole ≡ own_spec → Extends m own
    by_itself e =
        let same : m ≡ own = ap (meaning_of read) e ∙ same_in read to_read in
        subst (λ (k : Meaning). Extends k own) (sym same) (record { symbols = λ f h. (h, refl); agree = λ s t gs gt. ((λ g. g), (λ g. g)); least_is_own = own_laws.least_is.0 })

    chosen_here : IsChosen table problem.signature words None own_spec
    chosen_here = chosen_later loaded table to_table problem.signature words some most (is_signature loaded problem agreeing) own_has own_spec chosen

    module _ (marks : Fresh) (marked : Marks table problem (Ok (Some marks))) (named : IsChosen table problem.signature words (Some marks) whole) where
      is_signed : IsSignature table problem.signature
      is_signed = is_signature table problem table_agrees

      restricted_is : restricted problem.signature.symbols whole ≡ own_spec
      restricted_is = own_part table problem.signature words some most is_signed own_spec chosen_here marks (marked.2.eq, marked.2.yes, marked.2.no) whole named

      whole_fits : Fits table (all_symbols problem.signature (Some marks)) whole
      whole_fits = fits table problem.signature words some most is_signed (Some marks) whole named (marked.2.eq, marked.2.yes, marked.2.no)

      least_there : In problem.signature.symbols m.least
      least_there =
          let here = own_least table problem.signature words some most is_signed own_spec chosen_here marks (marked.2.eq, marked.2.yes, marked.2.no) whole named in
          let same : m ≡ meaning_of table whole = meaning_same table read passed.grows whole (fits_named table (all_symbols problem.signature (Some marks)) whole whole_fits) in
          subst (λ (k : Meaning). In problem.signature.symbols k.least) (sym same) here

    by_words : (fresh : Option Fresh) → encoded.fresh ≡ fresh → IsChosen table problem.signature words fresh whole → Extends m own
    by_words None e named = by_itself (order_once table problem.signature words None whole own_spec named chosen_here)
    by_words (Some marks) e named =
        let marked = subst (λ (o : Option Fresh). Marks table problem (Ok o)) e passed.encodes.0 in
        extends (by_restriction (restricted_is marks marked named)) (least_there marks marked named)

    pub order_extends : SharesOrder loaded table read problem encoded.fresh words own_spec whole → Extends m own
    order_extends (agrees a i) = extends a i
    order_extends (restricts e i) = extends (by_restriction e) i
    order_extends (is_named c) = by_words encoded.fresh refl c

    pub own_order : IsOwnOrder problem own
    own_order = record {
      symbols = λ f h. (own_symbol f h).0;
      axioms_over = axioms_over loaded problem own_spec own_fits own refl agreeing (axioms_of problem.clauses) refl;
    }
