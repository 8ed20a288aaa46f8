-- The certificate of a system has one text.
use Rattle.std.proofs.Common.{ℕ, ◌≡◌, Bool, true, false, List, Ok, refl, sym, ap₂, ◌∙◌}
use Rattle.uc_term.specs.Table.{Table}
use Rattle.uc_check.specs.declared.proof.Line.{Line}
use Rattle.uc_problem.specs.declared.problem.Problem.{Problem}
use Rattle.uc_problem.specs.declared.problem.Encoded.{Encoded}
use Rattle.uc_problem.specs.Holds.{Agrees}
use Rattle.uc_problem.specs.Encodes.{Encodes}
use Rattle.uc_order.specs.declared.spec.OrderSpec.{OrderSpec}
use Rattle.uc_fact.specs.Live.{equations_of}
use Rattle.uc_shelf.specs.Entries.{born, live}
use Rattle.uc_machine.specs.State.{State}
use Rattle.uc_proof.proofs.Once.{facts_once}
use Rattle.uc_system.specs.declared.system.SystemText.{SystemText}
use Rattle.uc_certificate.specs.declared.certificate.Join.{Join}
use Rattle.uc_certificate.specs.Printing.{certificate_text}
use Rattle.uc_certify.proofs.MadeOnce.{all_made_once}
use Rattle.uc_ordering.specs.Meaning.{meaning_of}
use Rattle.uc_answer.specs.CertificateLines.{live_numbers, IsCertificateText, IsCertificateIf, is_not_asked, is_asked}

module _ (table : Table) (problem : Problem) (agrees : Agrees table problem) (encoded : Encoded) (encodes : Encodes table problem (Ok encoded)) (spec : OrderSpec) (s : State) where
  certificate_once : {x y : List ℕ} → IsCertificateText table problem encoded spec s x → IsCertificateText table problem encoded spec s y → x ≡ y
  certificate_once p q =
      let a = p.certificate in
      let b = q.certificate in
      let derived = facts_once problem encoded (born s.entries) (live_numbers s) a.lines.lines b.lines.lines p.files q.files a.facts b.facts (record { table = table; agrees = agrees; encodes = encodes }) p.is_for.derived q.is_for.derived in
      let joins = all_made_once (meaning_of table spec) (equations_of (live s.entries)) encoded.axioms a.joins b.joins p.is_for.made q.is_for.made in
      let same : a ≡ b = ap₂ (λ (x : SystemText × List Line) (y : List ℕ × List Join). record { text = x.0; lines = record { lines = x.1 }; facts = y.0; joins = y.1 })
      (ap₂ (λ (t : SystemText) (ls : List Line). (t, ls)) (p.is_for.text_is ∙ sym q.is_for.text_is) derived.0)
      (ap₂ (λ (ns : List ℕ) (js : List Join). (ns, js)) derived.2 joins) in
      p.text_is ∙ ap₂ (certificate_text table) derived.1 same ∙ sym q.text_is

  pub certificate_if_once : (asked : Bool) {x y : List ℕ} → IsCertificateIf table problem encoded spec s asked x → IsCertificateIf table problem encoded spec s asked y → x ≡ y
  certificate_if_once false is_not_asked is_not_asked = refl
  certificate_if_once true (is_asked p) (is_asked q) = certificate_once p q
