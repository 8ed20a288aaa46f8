-- A printed certificate is read again, whatever stands behind it, and behind lines none of which begins one.
use Rattle.std.proofs.Common.{◌≡◌, ℕ, ◌+◌, ◌≤◌, true, List, [], ◌∷◌, ◌++◌, length, drop, append_assoc, refl, sym, ap, ◌∙◌, subst, arith, Ok}
use Rattle.std.specs.Prelude.{bytes_eq}
use Rattle.std.specs.List.{AllByRecursion}
use Rattle.std.proofs.lemmas.List.{length-map}
use Rattle.std.proofs.lemmas.Slice.Eq.{bytes_eq-Decides}
use Rattle.uc_term.specs.Table.{Table}
use Rattle.uc_clause.specs.declared.token.Token.{Token}
use Rattle.uc_clause.specs.Tokens.{Cut, place_of}
use Rattle.uc_clause.specs.Rules.{read}
use Rattle.uc_clause.proofs.Joined.{joined, tokens_of, cut_pieces}
use Rattle.uc_check.specs.declared.proof.Line.{Line}
use Rattle.uc_check.specs.declared.proof.Proof.{Proof}
use Rattle.uc_tstp.specs.declared.scope.Scope.TheVariants.{Derivation}
use Rattle.uc_tstp.specs.Printing.{names_in, line_name, lines_text, AreNumbers}
use Rattle.uc_tstp.specs.Reading.{inside, ReadsInside}
use Rattle.uc_tstp.proofs.Bounded.{ArePrintable, all_bounded}
use Rattle.uc_tstp.proofs.LinePieces.{lines_in_lines}
use Rattle.uc_tstp.proofs.ProofAgain.{within_lines, inside_again}
use Rattle.uc_tstp.proofs.InOrder.{same_proof}
use Rattle.uc_system.specs.Printing.{ended, system_text}
use Rattle.uc_system.specs.Lines as system_lines
use Rattle.uc_system.specs.Reading as system_reading
use Rattle.uc_system.proofs.PrintedSystem.{system_again}
use Rattle.uc_certificate.specs.declared.certificate.Certificate.{Certificate}
use Rattle.uc_certificate.specs.declared.certificate.Join.{Join}
use Rattle.uc_certificate.specs.declared.border.Border.TheVariants.{Start, Facts, End}
use Rattle.uc_certificate.specs.Bounds.{IsBoundedCertificate}
use Rattle.uc_certificate.specs.JoinLines.{joins}
use Rattle.uc_certificate.specs.JoinMeaning.{MeanJoins}
use Rattle.uc_certificate.specs.JoinParse as parse
use Rattle.uc_certificate.specs.Headings.{certificate_line, derivation_line, facts_line, joins_line, end_line, AreNames, is_border, behind_line, FirstLine, HasNoLine, picked, version_by, heading_at, this_by, the_line, are_facts}
use Rattle.uc_certificate.specs.Parts.{gets, goes_on}
use Rattle.uc_certificate.specs.Printing.{fact_names, joins_text, certificate_text, IsCertificateOf}
use Rattle.uc_certificate.specs.Printable.{IsPrintableCertificate}
use Rattle.uc_certificate.specs.Reading.{frame_of, SystemAt, has_system, DerivationAt, derives, JoinsIn, has_joins, ReadsCertificate, reads}
use Rattle.uc_certificate.proofs.LinesPassed.{behind_part, part_is, WholeLine, whole_line, found_line, pass_lines}
use Rattle.uc_certificate.proofs.JoinPieces.{IsJoinAgain, joins_again, joins_pieces, joins_whole, joins_apart}
use Rattle.uc_certificate.proofs.JoinsAgain.{joins_here}
use Rattle.uc_certificate.proofs.PartsAgain.{derivation_passes, joins_pass, all_names, words_named, words_numbered, facts_in_line, facts_border}

regrouped : (b h s d l f k j e z : List ℕ) → b ++ ((ended h ++ s) ++ (ended d ++ l ++ ended f) ++ (ended k ++ j ++ ended e)) ++ z ≡ b ++ (h ++ 10 ∷ (s ++ (d ++ 10 ∷ (l ++ (f ++ 10 ∷ (k ++ 10 ∷ (j ++ (e ++ 10 ∷ z))))))))
regrouped b h s d l f k j e z = simp append_assoc refl

-- exactly this line
line_read : (text line rest : List ℕ) (at : ℕ) → WholeLine text line rest at → the_line text line at (gets tt (behind_line text at line))
line_read text line rest at l =
    let same : bytes_eq line line ≡ true = (bytes_eq-Decides line line).1 refl in
    let this : this_by text line at line ≡ gets tt (behind_line text at line) = rw same refl in
    sym (ap (picked text (this_by text line) at) l.first ∙ this)

module _ (table : Table) (text : List ℕ) where
  -- the text of a system, which ends within the text
  system_read : (c : Certificate) (files : List (List ℕ)) (rest : List ℕ) (at : ℕ) → IsBoundedCertificate c → IsPrintableCertificate table files c → drop at text ≡ system_text table c.text.spec c.text.system.facts ++ rest → at + length (system_text table c.text.spec c.text.system.facts) ≤ length text → SystemAt table text at (gets c.text (at + length (system_text table c.text.spec c.text.system.facts)))
  system_read c files rest at bounded printable e within =
      let s : List ℕ = system_text table c.text.spec c.text.system.facts in
      let again = system_again table c.text.system.facts bounded.facts (place_of text at).line rest c.text.spec printable.system in
      let whole = subst (λ x. system_reading.system_lines table (place_of text at).line x (system_lines.gets c.text again.0 rest)) (sym e) again.1 in
      has_system (subst (λ x. system_reading.system_lines table (place_of text at).line (drop at text) (system_lines.gets c.text again.0 x)) (sym (behind_part text s rest at e)) whole) within

  -- join lines
  joins_from : (at to : ℕ) (bytes : List ℕ) (list : List Join) → FirstLine text (is_border End) at to → inside text (frame_of at to) ≡ bytes → (tokens : List Token) → Cut bytes 0 (Ok tokens) → (parsed : List parse.Join) (end : ℕ) → joins bytes tokens 0 (read parsed end) → MeanJoins bytes tokens table parsed list → JoinsIn table text at (gets list to)
  joins_from at to bytes list first e =
      subst (λ b. (tokens : List Token) → Cut b 0 (Ok tokens) → (parsed : List parse.Join) (end : ℕ) → joins b tokens 0 (read parsed end) → MeanJoins b tokens table parsed list → JoinsIn table text at (gets list to)) e
      (λ tokens cut parsed end read_so mean. has_joins first cut read_so mean)

  joins_read : (list : List Join) (rest : List ℕ) (at : ℕ) → AllByRecursion (IsJoinAgain table) list → FirstLine text (is_border End) (at + length (joins_text table list)) (at + length (joins_text table list)) → drop at text ≡ joins_text table list ++ rest → JoinsIn table text at (gets list (at + length (joins_text table list)))
  joins_read list rest at again last e =
      let to : ℕ = at + length (joins_text table list) in
      let bytes : List ℕ = joined (joins_pieces table list) in
      let whole : bytes ≡ joins_text table list = joins_whole table list again in
      let tokens : List Token = tokens_of bytes 0 (joins_pieces table list) in
      let here = joins_here table bytes tokens list 0 again (0, record { bytes = refl; lexed = refl }) in
      let first = pass_lines (is_border End) text rest to (joins_pass table list again) at e last in
      joins_from at to bytes list first (part_is text (joins_text table list) rest at e ∙ sym whole) tokens (cut_pieces (joins_pieces table list) (joins_apart table list again)) here.vs here.end here.reads here.mean

module _ (table : Table) (files : List (List ℕ)) (c : Certificate) (before behind : List ℕ) (of : IsCertificateOf table c) (bounded : IsBoundedCertificate c) (printable : IsPrintableCertificate table files c) (other : HasNoLine (is_border Start) before) where
  abbrev lines : List Line
  lines = c.lines.lines

  abbrev names : List (List ℕ)
  names = names_in lines

  abbrev words : List (List ℕ)
  words = fact_names lines c.facts

  derivation_again : ArePrintable table Derivation files lines
  derivation_again = all_bounded table Derivation files lines printable.lines bounded.lines

  all_named : AreNames names
  all_named = all_names [] names printable.lines.names

  numbers : AreNumbers (length names) c.facts
  numbers = subst (λ count. AreNumbers count c.facts) (sym (length-map lines (λ (line : Line). line.name))) of.facts

  words_are : AreNames words
  words_are = words_named names all_named c.facts numbers

  as_many : length words ≡ length c.text.system.facts
  as_many = length-map c.facts (line_name names) ∙ of.as_many

  again : AllByRecursion (IsJoinAgain table) c.joins
  again = joins_again table c.joins bounded.joins printable.joins

  -- the parts, and what stands behind each
  abbrev system_bytes : List ℕ
  system_bytes = system_text table c.text.spec c.text.system.facts

  abbrev lines_bytes : List ℕ
  lines_bytes = lines_text table names files lines

  abbrev joins_bytes : List ℕ
  joins_bytes = joins_text table c.joins

  abbrev behind_joins : List ℕ
  behind_joins = end_line ++ 10 ∷ behind

  abbrev behind_facts : List ℕ
  behind_facts = joins_line ++ 10 ∷ (joins_bytes ++ behind_joins)

  abbrev behind_lines : List ℕ
  behind_lines = facts_line words ++ 10 ∷ behind_facts

  abbrev behind_system : List ℕ
  behind_system = derivation_line ++ 10 ∷ (lines_bytes ++ behind_lines)

  abbrev behind_before : List ℕ
  behind_before = certificate_line ++ 10 ∷ (system_bytes ++ behind_system)

  abbrev text : List ℕ
  text = before ++ certificate_text table files c ++ behind

  text_is : text ≡ before ++ behind_before
  text_is = regrouped before certificate_line system_bytes derivation_line lines_bytes (facts_line words) joins_line joins_bytes end_line behind

  -- what is read from the line of the derivation on
  derivation_read : (at : ℕ) → drop at text ≡ lines_bytes ++ behind_lines → DerivationAt table text at (gets c.lines (at + length lines_bytes))
  derivation_read at e =
      let to : ℕ = at + length lines_bytes in
      let facts_here = whole_line text (facts_line words) behind_facts to (behind_part text lines_bytes behind_lines at e) (facts_in_line words words_are) in
      let found = found_line (is_border Facts) text (facts_line words) behind_facts to facts_here (facts_border words) in
      let in_lines = lines_in_lines table names files lines (within_lines Derivation table files c.lines of.lines derivation_again) in
      let first = pass_lines (is_border Facts) text behind_lines to (derivation_passes table names files lines in_lines) at e found in
      let inside_read = inside_again Derivation table files c.lines of.lines derivation_again text (frame_of at to) (part_is text lines_bytes behind_lines at e) in
      derives first (subst (λ (p : Proof). ReadsInside Derivation table text (frame_of at to) (Ok p)) (same_proof c.lines printable.in_order) inside_read)

  pub certificate_again : ReadsCertificate table text (Ok c)
  certificate_again =
      let start : ℕ = 0 + length before in
      let first = whole_line text certificate_line (system_bytes ++ behind_system) start (behind_part text before behind_before 0 text_is) refl in
      let found = found_line (is_border Start) text certificate_line (system_bytes ++ behind_system) start first refl in
      let headed = heading_at {start = start} (pass_lines (is_border Start) text behind_before start other 0 text_is found) (sym (ap (picked text (version_by text) start) first.first)) in
      let at_system : ℕ = behind_line text start certificate_line in
      let at_derivation : ℕ = at_system + length system_bytes in
      let second = whole_line text derivation_line (lines_bytes ++ behind_lines) at_derivation (behind_part text system_bytes behind_system at_system first.behind) refl in
      let said = system_read table text c files behind_system at_system bounded printable first.behind (omega (arith, second.within)) in
      let at_lines : ℕ = behind_line text at_derivation derivation_line in
      let derived = derivation_read at_lines second.behind in
      let at_facts : ℕ = at_lines + length lines_bytes in
      let third = whole_line text (facts_line words) behind_facts at_facts (behind_part text lines_bytes behind_lines at_lines second.behind) (facts_in_line words words_are) in
      let named = are_facts words third.first words_are as_many (words_numbered names all_named c.facts numbers) in
      let at_border : ℕ = behind_line text at_facts (facts_line words) in
      let fourth = whole_line text joins_line (joins_bytes ++ behind_joins) at_border third.behind refl in
      let at_joins : ℕ = behind_line text at_border joins_line in
      let at_end : ℕ = at_joins + length joins_bytes in
      let last = whole_line text end_line behind at_end (behind_part text joins_bytes behind_joins at_joins fourth.behind) refl in
      let ends = found_line (is_border End) text end_line behind at_end last refl in
      let joined_so = joins_read table text c.joins behind_joins at_joins again ends fourth.behind in
      reads {certificate = c} {end = behind_line text at_end end_line}
      (goes_on headed (goes_on said
      (goes_on (line_read text derivation_line (lines_bytes ++ behind_lines) at_derivation second)
      (goes_on derived (goes_on named
      (goes_on (line_read text joins_line (joins_bytes ++ behind_joins) at_border fourth)
      (goes_on joined_so
      (goes_on (line_read text end_line behind at_end last) refl))))))))
