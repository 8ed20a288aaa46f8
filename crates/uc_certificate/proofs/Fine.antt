-- No part of a certificate is refused because the text is too long.
use Rattle.std.proofs.Common.{◌≡◌, ℕ, ◌+◌, Bool, true, false, List, length, drop, Option, Some, None, refl, sym, subst, codes, Result, Ok, Err, if◌then◌else◌}
use Rattle.std.specs.Prelude.{◌-◌, ◌&&◌, bytes_eq, nat_eq}
use Rattle.std.specs.List.{starts_with}
use Rattle.uc_term.specs.Table.{Table}
use Rattle.uc_clause.specs.declared.token.Place.{Place}
use Rattle.uc_clause.specs.declared.fault.What.TheVariants as what
use Rattle.uc_clause.specs.declared.grammar.stop.Why.{Why}
use Rattle.uc_clause.specs.declared.grammar.stop.Why.TheVariants.{NoItem, NoRole, NoSelection, NoTerm, NoSign, NoEnd, NoToken, Nodes, Parentheses, Arity, NoRule, Repeated}
use Rattle.uc_clause.specs.Tokens.{place_of}
use Rattle.uc_check.specs.declared.proof.Proof.{Proof}
use Rattle.uc_tstp.specs.declared.fault.ProofFault.{ProofFault}
use Rattle.uc_tstp.specs.declared.framing.Frame.{Frame}
use Rattle.uc_tstp.specs.declared.scope.Scope.TheVariants.{Derivation}
use Rattle.uc_tstp.specs.Printing.{names_in}
use Rattle.uc_tstp.specs.Reading.{fault_of, ReadsInside, no_token, no_lines, no_name, reads}
use Rattle.uc_system.specs.declared.fault.SystemFault.{SystemFault}
use Rattle.uc_system.specs.declared.fault.SystemFault.TheVariants as of_system
use Rattle.uc_system.specs.declared.system.SystemText.{SystemText}
use Rattle.uc_system.specs.Lines.{Cut, first_line}
use Rattle.uc_certificate.specs.declared.fault.CertFault.{CertFault}
use Rattle.uc_certificate.specs.declared.fault.CertFault.TheVariants.{Syntax, Version, Limit, UnknownRule, UnknownName, RepeatedName, NoMemory}
use Rattle.uc_certificate.specs.Parts.{Outcome, gets, fails, Rule, Then, goes_on, fails_first, gives}
use Rattle.uc_certificate.specs.Headings.{certificate_words, certificate_line, is_other_version, behind_line, departs, picked, pick, version_by, heading, heading_at, this_by, the_line, no_facts, unknown_fact, are_facts, facts}
use Rattle.uc_certificate.specs.Reading.{lines_down, limit_in, system_fault, proof_fault, join_fault, SystemAt, has_system, has_no_system, system, derives, derives_not, derivation, no_joins, has_joins, join_lines, rest_of_certificate, certificate_lines}
use Rattle.uc_certificate.specs.Reading as reading

-- a fault of another kind
abbrev pub IsFine : CertFault → Type 0
IsFine (Limit what.Bytes place) = ⊥
IsFine other = Unit {0}

abbrev EndsFine : {V : Type 0} → Outcome V → Type 0
EndsFine (gets v end) = Unit {0}
EndsFine (fails fault) = IsFine fault

abbrev Fine : {V : Type 0} → Rule V → Type 0
Fine {V} rule = (at : ℕ) (o : Outcome V) → rule at o → EndsFine o

then_fine : {V W : Type 0} (first : Rule V) (next : V → Rule W) → Fine first → ((v : V) → Fine (next v)) → Fine (Then first next)
then_fine first next f n at o (goes_on {v = v} {middle = m} x y) = n v m o y
then_fine first next f n at _ (fails_first {fault = e} x) = f at (fails e) x

gives_fine : {V : Type 0} (v : V) → Fine (gives v)
gives_fine v at o e = subst EndsFine (sym e) tt

of_system_fine : (text : List ℕ) (fault : SystemFault) → IsFine (system_fault text fault)
of_system_fine text (of_system.Syntax place) = tt
of_system_fine text (of_system.Version place) = tt
of_system_fine text (of_system.Limit place) = go (starts_with nat_eq (lines_down (place.line - 1) text) (codes "%"))
  where
    go : (b : Bool) → IsFine (Limit (if b then what.Arity else what.Nodes) place)
    go true = tt
    go false = tt
of_system_fine text of_system.NoMemory = tt

of_stop_fine : (text : List ℕ) (why : Why) (place : Place) → IsFine (proof_fault text (fault_of why place))
of_stop_fine text NoItem place = tt
of_stop_fine text NoRole place = tt
of_stop_fine text NoSelection place = tt
of_stop_fine text NoTerm place = tt
of_stop_fine text (NoSign k) place = tt
of_stop_fine text NoEnd place = tt
of_stop_fine text NoToken place = tt
of_stop_fine text Nodes place = tt
of_stop_fine text Parentheses place = tt
of_stop_fine text Arity place = tt
of_stop_fine text NoRule place = tt
of_stop_fine text Repeated place = tt

join_fine : (why : Why) (place : Place) → IsFine (join_fault why place)
join_fine NoItem place = tt
join_fine NoRole place = tt
join_fine NoSelection place = tt
join_fine NoTerm place = tt
join_fine (NoSign k) place = tt
join_fine NoEnd place = tt
join_fine NoToken place = tt
join_fine Nodes place = tt
join_fine Parentheses place = tt
join_fine Arity place = tt
join_fine NoRule place = tt
join_fine Repeated place = tt

module _ (text : List ℕ) where
  abbrev FineProof : Result Proof ProofFault → Type 0
  FineProof (Ok proof) = Unit {0}
  FineProof (Err why) = IsFine (proof_fault text why)

  inside_fine : (table : Table) (frame : Frame) {r : Result Proof ProofFault} → ReadsInside Derivation table text frame r → FineProof r
  inside_fine table frame (no_token c) = tt
  inside_fine table frame (no_lines {why = why} c l) = of_stop_fine text why _
  inside_fine table frame (no_name c l u) = tt
  inside_fine table frame (reads c l u m) = tt

  pick_fine : {V : Type 0} (value : ℕ → List ℕ → Outcome V) → ((at : ℕ) (line : List ℕ) → EndsFine (value at line)) → Fine (pick text value)
  pick_fine value f at o e = subst EndsFine (sym e) (go (first_line (drop at text)))
    where
      go : (c : Option Cut) → EndsFine (picked text value at c)
      go None = tt
      go (Some c) = f at c.line

  this_fine : (wanted : List ℕ) (at : ℕ) (line : List ℕ) → EndsFine (this_by text wanted at line)
  this_fine wanted at line = go (bytes_eq line wanted)
    where
      go : (b : Bool) → EndsFine {V = Unit {0}} (if b then gets tt (behind_line text at line) else fails (departs text at))
      go true = tt
      go false = tt

  the_line_fine : (wanted : List ℕ) → Fine (the_line text wanted)
  the_line_fine wanted = pick_fine (this_by text wanted) (this_fine wanted)

  version_fine : (at : ℕ) (line : List ℕ) → EndsFine (version_by text at line)
  version_fine at line = go (bytes_eq line certificate_line) (starts_with nat_eq line certificate_words && is_other_version (drop (length certificate_words) line))
    where
      go : (b d : Bool) → EndsFine {V = Unit {0}} (if b then gets tt (behind_line text at line) else (if d then fails (Version (place_of text (at + length certificate_words))) else fails (departs text at)))
      go true d = tt
      go false true = tt
      go false false = tt

  heading_fine : Fine (heading text)
  heading_fine at o (heading_at {start = s} f e) = pick_fine (version_by text) version_fine s o e

  facts_fine : (names : List (List ℕ)) (count : ℕ) → Fine (facts text names count)
  facts_fine names count at _ (no_facts n) = tt
  facts_fine names count at _ (unknown_fact words e a l u) = tt
  facts_fine names count at _ (are_facts words e a l n) = tt

  module _ (table : Table) where
    system_fine : Fine (system table text)
    system_fine at _ (has_system x h) = tt
    system_fine at _ (has_no_system {fault = fault} x) = of_system_fine text fault

    derivation_fine : Fine (derivation table text)
    derivation_fine at _ (derives f r) = tt
    derivation_fine at _ (derives_not {why = why} f r) = inside_fine table _ r

    joins_fine : Fine (join_lines table text)
    joins_fine at _ (reading.no_token f c) = tt
    joins_fine at _ (no_joins {why = why} f c j) = join_fine why _
    joins_fine at _ (has_joins f c j m) = tt

    rest_fine : (said : SystemText) → Fine (rest_of_certificate table text said)
    rest_fine said =
        then_fine _ _ (the_line_fine (codes "% derivation")) (λ a. then_fine (derivation table text) _ derivation_fine (λ proof. then_fine _ _ (facts_fine (names_in proof.lines) (length said.system.facts)) (λ numbers. then_fine _ _ (the_line_fine (codes "% joins")) (λ b. then_fine (join_lines table text) _ joins_fine (λ list. then_fine _ _ (the_line_fine (codes "% end")) (λ c. gives_fine _))))))

    pub lines_fine : (fault : CertFault) → certificate_lines table text 0 (fails fault) → IsFine fault
    lines_fine fault x = then_fine (heading text) _ heading_fine (λ a. then_fine (system table text) _ system_fine (λ said. rest_fine said)) 0 (fails fault) x
