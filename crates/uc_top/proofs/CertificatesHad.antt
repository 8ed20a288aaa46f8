-- A certificate that files have for a problem, and what one that passes all tests shows.
use Rattle.std.proofs.Common.{ℕ, ◌≡◌, List, Option, Some, Ok}
use Rattle.uc_term.specs.Table.{Table, Grows, IsDistinct}
use Rattle.uc_edge.specs.Files.{Files}
use Rattle.uc_problem.specs.declared.problem.Problem.{Problem}
use Rattle.uc_problem.specs.declared.problem.Encoded.{Encoded}
use Rattle.uc_problem.specs.Encodes.{Encodes}
use Rattle.uc_problem.specs.Filling.{AddsMarks}
use Rattle.uc_problem.specs.Holds.{Agrees}
use Rattle.uc_problem.specs.Loading.{held}
use Rattle.uc_problem.proofs.Growth.{agrees_later}
use Rattle.uc_ordering.specs.Meaning.{meaning_of}
use Rattle.uc_system.specs.Reading.{IsSystem}
use Rattle.uc_certificate.specs.declared.certificate.Certificate.{Certificate}
use Rattle.uc_certificate.specs.Interning.{InternsCertificate}
use Rattle.uc_certificate.specs.Reading.{ReadsCertificate}
use Rattle.uc_certify.specs.declared.certified.Certified.{Certified}
use Rattle.uc_certify.specs.declared.certified.Certified.TheVariants.{Yes}
use Rattle.uc_certify.specs.Certifying.{IsCertified}
use Rattle.uc_top.specs.Loaded.{IsLoaded}
use Rattle.uc_top.specs.CertifyRuns.{HasTested, HasCertificate}
use Rattle.uc_top.proofs.CertificateOrders.{decides, own_form, own}
use Rattle.uc_top.proofs.CertificateTexts.{read_system}
use Rattle.uc_top.proofs.EncodedTables.{marks_grow}

module _ (files : Files) (root : Option (List ℕ)) (name file : List ℕ) (loaded : Table) (loaded_distinct : IsDistinct loaded) (problem : Problem) (is_held : IsLoaded files root name loaded problem) (table : Table) (distinct : IsDistinct table) (encoded : Encoded) (adds : AddsMarks loaded table encoded.fresh) (encodes : Encodes table problem (Ok encoded)) where
  pub encoded_agrees : Agrees table problem
  encoded_agrees = agrees_later loaded table (marks_grow loaded table encoded.fresh adds) problem is_held.holds.agrees

  module _ (text : List ℕ) (has_text : held files file ≡ Some text) (read : Table) (read_distinct : IsDistinct read) (grows : Grows table read) (interns : InternsCertificate text table read) (certificate : Certificate) (reads : ReadsCertificate read text (Ok certificate)) where
    abbrev pub has_tested : (outcome : Certified) → IsCertified (meaning_of read certificate.text.spec) problem.clauses encoded certificate outcome → HasTested files root name file outcome
    has_tested outcome c = record {
      loaded = loaded;
      loaded_distinct = loaded_distinct;
      problem = problem;
      is_loaded = is_held;
      table = table;
      distinct = distinct;
      encoded = encoded;
      adds = adds;
      encodes = encodes;
      text = text;
      has_text = has_text;
      read = read;
      read_distinct = read_distinct;
      grows = grows;
      interns = interns;
      certificate = certificate;
      reads = reads;
      is_tested = c;
    }

    abbrev pub system : IsSystem read certificate.text
    system = read_system read text certificate reads

    abbrev pub has_certificate : IsCertified (meaning_of read certificate.text.spec) problem.clauses encoded certificate Yes → HasCertificate files root name file
    has_certificate passes = record {
      passed = has_tested Yes passes;
      decides = decides table read grows problem encoded_agrees encoded encodes certificate system passes;
      own_form = own_form table read grows problem encoded_agrees encoded encodes certificate system passes;
      own = own table read grows problem encoded_agrees encoded encodes certificate system passes;
    }
