-- What a text reads as in a table it reads as in each table that begins with it.
use Rattle.std.proofs.Common.{ℕ, List, Result}
use Rattle.uc_term.specs.Tree.{Tree, Trees}
use Rattle.uc_term.specs.Table.{Table, Grows}
use Rattle.uc_clause.specs.declared.token.Token.{Token}
use Rattle.uc_clause.specs.Parse.{Parse, Parses}
use Rattle.uc_clause.proofs.Tables.{symbol_grows}
use Rattle.uc_check.specs.declared.proof.Proof.{Proof}
use Rattle.uc_tstp.specs.declared.scope.Scope.TheVariants.{Derivation}
use Rattle.uc_tstp.proofs.ReadingGrows.{inside_grows}
use Rattle.uc_system.specs.declared.system.SystemText.{SystemText}
use Rattle.uc_system.proofs.Stays.{lines_stay}
use Rattle.uc_certificate.specs.declared.certificate.Certificate.{Certificate}
use Rattle.uc_certificate.specs.declared.certificate.Move.{Move}
use Rattle.uc_certificate.specs.declared.certificate.Case.{Case}
use Rattle.uc_certificate.specs.declared.certificate.End.{End}
use Rattle.uc_certificate.specs.declared.certificate.End.TheVariants.{Same, Instance, Orders, Ac}
use Rattle.uc_certificate.specs.declared.certificate.Join.{Join}
use Rattle.uc_certificate.specs.declared.fault.CertFault.{CertFault}
use Rattle.uc_certificate.specs.JoinParse as parse
use Rattle.uc_certificate.specs.JoinParse.{Ending, by_same, by_instance, by_orders, by_ac}
use Rattle.uc_certificate.specs.JoinMeaning.{MeanAll, none_mean, more_mean, MeansTerm, MeanTerms, variable_is, functor_is, no_terms, more_terms, MeansMove, MeansCase, MeansEnd, MeansJoin}
use Rattle.uc_certificate.specs.Parts.{Outcome, goes_on, fails_first}
use Rattle.uc_certificate.specs.Reading.{SystemAt, has_system, has_no_system, DerivationAt, derives, derives_not, JoinsIn, no_token, no_joins, has_joins, rest_of_certificate, certificate_lines, ReadsCertificate, reads, reads_not}

mean_all_on : {P V : Type 0} {Means Other : P → V → Type 0} → ((p : P) (v : V) → Means p v → Other p v) → {ps : List P} {vs : List V} → MeanAll Means ps vs → MeanAll Other ps vs
mean_all_on f none_mean = none_mean
mean_all_on f (more_mean {p = p} {v = v} m all) = more_mean (f p v m) (mean_all_on f all)

module _ (old new : Table) (grows : Grows old new) where
  module _ (bytes : List ℕ) (tokens : List Token) where
    mutual
      term_stays : {p : Parse} {t : Tree} → MeansTerm bytes tokens old p t → MeansTerm bytes tokens new p t
      term_stays (variable_is e) = variable_is e
      term_stays (functor_is {f = f} s all) = functor_is (symbol_grows old new f _ _ grows s) (terms_stay all)

      terms_stay : {ps : Parses} {ts : Trees} → MeanTerms bytes tokens old ps ts → MeanTerms bytes tokens new ps ts
      terms_stay no_terms = no_terms
      terms_stay (more_terms m all) = more_terms (term_stays m) (terms_stay all)

    move_stays : (p : parse.Move) (m : Move) → MeansMove bytes tokens old p m → MeansMove bytes tokens new p m
    move_stays p m h = record { fact = h.fact; way = h.way; path = h.path; to = term_stays h.to }

    case_stays : (p : parse.Case) (c : Case) → MeansCase bytes tokens old p c → MeansCase bytes tokens new p c
    case_stays p c h = record { cases = h.cases; left = mean_all_on move_stays h.left; right = mean_all_on move_stays h.right }

    end_stays : (p : Ending) (e : End) → MeansEnd bytes tokens old p e → MeansEnd bytes tokens new p e
    end_stays by_same Same h = h
    end_stays (by_instance n) (Instance m) h = h
    end_stays (by_orders cases) (Orders list) h = mean_all_on case_stays h
    end_stays (by_ac triples) (Ac list) h = h
    end_stays p e h = elim h [ ]

    join_stays : (p : parse.Join) (j : Join) → MeansJoin bytes tokens old p j → MeansJoin bytes tokens new p j
    join_stays p j h = record { what = h.what; left = mean_all_on move_stays h.left; right = mean_all_on move_stays h.right; end = end_stays p.ending j.end h.end }

  module _ (text : List ℕ) where
    system_stays : {at : ℕ} {o : Outcome SystemText} → SystemAt old text at o → SystemAt new text at o
    system_stays (has_system x h) = has_system (lines_stay old new grows x) h
    system_stays (has_no_system x) = has_no_system (lines_stay old new grows x)

    derivation_stays : {at : ℕ} {o : Outcome Proof} → DerivationAt old text at o → DerivationAt new text at o
    derivation_stays (derives f r) = derives f (inside_grows old new grows Derivation text _ r)
    derivation_stays (derives_not f r) = derives_not f (inside_grows old new grows Derivation text _ r)

    joins_stay : {at : ℕ} {o : Outcome (List Join)} → JoinsIn old text at o → JoinsIn new text at o
    joins_stay (no_token f c) = no_token f c
    joins_stay (no_joins f c j) = no_joins f c j
    joins_stay (has_joins f c j m) = has_joins f c j (mean_all_on (join_stays _ _) m)

    rest_stays : (said : SystemText) {at : ℕ} {o : Outcome Certificate} → rest_of_certificate old text said at o → rest_of_certificate new text said at o
    rest_stays said (fails_first x) = fails_first x
    rest_stays said (goes_on x (fails_first y)) = goes_on x (fails_first (derivation_stays y))
    rest_stays said (goes_on x (goes_on y (fails_first z))) = goes_on x (goes_on (derivation_stays y) (fails_first z))
    rest_stays said (goes_on x (goes_on y (goes_on z (fails_first u)))) = goes_on x (goes_on (derivation_stays y) (goes_on z (fails_first u)))
    rest_stays said (goes_on x (goes_on y (goes_on z (goes_on u (fails_first v))))) = goes_on x (goes_on (derivation_stays y) (goes_on z (goes_on u (fails_first (joins_stay v)))))
    rest_stays said (goes_on x (goes_on y (goes_on z (goes_on u (goes_on v w))))) = goes_on x (goes_on (derivation_stays y) (goes_on z (goes_on u (goes_on (joins_stay v) w))))

    lines_are_kept : {at : ℕ} {o : Outcome Certificate} → certificate_lines old text at o → certificate_lines new text at o
    lines_are_kept (fails_first x) = fails_first x
    lines_are_kept (goes_on x (fails_first y)) = goes_on x (fails_first (system_stays y))
    lines_are_kept (goes_on x (goes_on {v = said} y z)) = goes_on x (goes_on (system_stays y) (rest_stays said z))

    pub reading_stays : (answer : Result Certificate CertFault) → ReadsCertificate old text answer → ReadsCertificate new text answer
    reading_stays _ (reads x) = reads (lines_are_kept x)
    reading_stays _ (reads_not x) = reads_not (lines_are_kept x)
