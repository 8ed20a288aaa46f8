-- Why a text isn't read doesn't depend on the table.
use Rattle.std.proofs.Common.{◌≡◌, ℕ, List, length, drop, refl, sym, ap, ◌∙◌, subst, codes, Result, Ok, Err}
use Rattle.uc_term.specs.Table.{Table, IsDistinct}
use Rattle.uc_clause.specs.declared.token.Token.{Token}
use Rattle.uc_clause.specs.Rules as tokens
use Rattle.uc_clause.specs.Distinct.{AreDistinct}
use Rattle.uc_check.specs.declared.proof.Proof.{Proof}
use Rattle.uc_tstp.specs.declared.fault.ProofFault.{ProofFault}
use Rattle.uc_tstp.specs.declared.framing.Frame.{Frame}
use Rattle.uc_tstp.specs.declared.scope.Scope.TheVariants.{Derivation}
use Rattle.uc_tstp.specs.Parse as parse
use Rattle.uc_tstp.specs.Printing.{names_in}
use Rattle.uc_tstp.specs.Lines.{LinesAt}
use Rattle.uc_tstp.specs.Meaning.{names_of}
use Rattle.uc_tstp.specs.Reading.{inside, ReadsInside, no_token, no_lines, no_name, reads}
use Rattle.uc_tstp.proofs.Outcomes.{err_once, ok_or_err, same_value}
use Rattle.uc_tstp.proofs.ReadingOnce.{all_once, inside_once}
use Rattle.uc_system.specs.declared.system.SystemText.{SystemText}
use Rattle.uc_system.proofs.AlikeTables.{lines_alike}
use Rattle.uc_certificate.specs.declared.certificate.Certificate.{Certificate}
use Rattle.uc_certificate.specs.declared.certificate.Join.{Join}
use Rattle.uc_certificate.specs.declared.fault.CertFault.{CertFault}
use Rattle.uc_certificate.specs.Parts.{Outcome, gets, fails, Rule, Then, goes_on, fails_first, gives}
use Rattle.uc_certificate.specs.Headings.{heading, the_line, facts}
use Rattle.uc_certificate.specs.Reading.{system_fault, proof_fault, frame_of, SystemAt, has_system, has_no_system, system, DerivationAt, derives, derives_not, derivation, JoinsIn, no_joins, has_joins, join_lines, rest_of_certificate, certificate_lines, ReadsCertificate}
use Rattle.uc_certificate.specs.Reading as reading
use Rattle.uc_certificate.proofs.LineNames.{names_are}
use Rattle.uc_certificate.proofs.ReadingOnce.{Once, first_once, gets_end, gets_or_fails, fails_once, same_drops, heading_once, the_line_once, facts_once, joins_rule, names_of_derived}

-- both get values that are so, up to the same byte, or are refused alike
abbrev Alike : {V W : Type 0} → (V → W → Type 0) → Outcome V → Outcome W → Type 0
Alike E (gets v m) (gets w n) = (m ≡ n) × E v w
Alike E (fails f) (fails g) = f ≡ g
Alike E o p = ⊥

abbrev AreAlike : {V W : Type 0} → (V → W → Type 0) → Rule V → Rule W → Type 0
AreAlike {V} {W} E one other = (at : ℕ) (o : Outcome V) (p : Outcome W) → one at o → other at p → Alike E o p

-- what the one refuses the other refuses
abbrev RefuseAlike : {V W : Type 0} → Rule V → Rule W → Type 0
RefuseAlike {V} {W} one other = (at : ℕ) (o : Outcome V) (p : Outcome W) (f : CertFault) → o ≡ fails f → one at o → other at p → p ≡ fails f

then_alike : {V W X Y : Type 0} (E : V → X → Type 0) (one : Rule V) (other : Rule X) (next : V → Rule W) (later : X → Rule Y) → AreAlike E one other → ((v : V) (x : X) (at middle : ℕ) → one at (gets v middle) → E v x → RefuseAlike (next v) (later x)) → RefuseAlike (Then one next) (Then other later)
then_alike E one other next later a b at o p f e (goes_on {v = v} {middle = m} x y) (goes_on {v = w} {middle = k} s t) =
    let h = a at (gets v m) (gets w k) x s in
    b v w at m x h.1 m o p f e y (subst (λ n. later w n p) (sym h.0) t)
then_alike E one other next later a b at o _ f e (goes_on {v = v} {middle = m} x y) (fails_first {fault = g} s) = absurd (a at (gets v m) (fails g) x s)
then_alike E one other next later a b at _ p f e (fails_first {fault = g} x) (goes_on {v = w} {middle = k} s t) = absurd (a at (fails g) (gets w k) x s)
then_alike E one other next later a b at _ _ f e (fails_first {fault = g} x) (fails_first {fault = h} s) = ap fails (sym (a at (fails g) (fails h) x s) ∙ fails_once e)

gives_alike : {V W : Type 0} (v : V) (w : W) → RefuseAlike (gives v) (gives w)
gives_alike v w at o p f e x y = absurd (gets_or_fails (sym x ∙ e))

-- what comes to one thing
once_alike : {V : Type 0} (E : V → V → Type 0) (rule : Rule V) → Once rule → ((v : V) → E v v) → AreAlike E rule rule
once_alike {V} E rule once same at o p x y = subst (Alike E o) (once at o p x y) (self o)
  where
    self : (o : Outcome V) → Alike E o o
    self (gets v m) = (refl, same v)
    self (fails f) = refl

module _ (text : List ℕ) (one other : Table) (first : IsDistinct one) (second : IsDistinct other) where
  abbrev AsMany : SystemText → SystemText → Type 0
  AsMany a b = length a.system.facts ≡ length b.system.facts

  system_at : {at : ℕ} {o p : Outcome SystemText} → SystemAt one text at o → SystemAt other text at p → Alike AsMany o p
  system_at (has_system {to = a} x h) (has_system {to = b} y k) = let e = lines_alike one other first second x y in (same_drops text one first a b h k e.1, e.2)
  system_at (has_system x h) (has_no_system y) = lines_alike one other first second x y
  system_at (has_no_system x) (has_system y k) = lines_alike one other first second x y
  system_at (has_no_system x) (has_no_system y) = ap (system_fault text) (lines_alike one other first second x y)

  system_alike : AreAlike AsMany (system one text) (system other text)
  system_alike at o p x y = system_at x y

  -- a refusal of a derivation is one in each table
  abbrev Moved : Table → Frame → Result Proof ProofFault → Type 0
  Moved table frame (Ok proof) = Unit {0}
  Moved table frame (Err why) = ReadsInside Derivation table text frame (Err why)

  moved : (s t : Table) (frame : Frame) {r : Result Proof ProofFault} → ReadsInside Derivation s text frame r → Moved t frame r
  moved s t frame (no_token c) = no_token c
  moved s t frame (no_lines c l) = no_lines c l
  moved s t frame (no_name c l u) = no_name c l u
  moved s t frame (reads c l u m) = tt

  abbrev SameNames : Proof → Proof → Type 0
  SameNames a b = names_in a.lines ≡ names_in b.lines

  names_same : (frame : Frame) {a b : Proof} → ReadsInside Derivation one text frame (Ok a) → ReadsInside Derivation other text frame (Ok b) → SameNames a b
  names_same frame (reads {tokens = ts} {lines = ls} c l u m) (reads {tokens = us} {lines = js} d k v n) =
      let same = all_once Derivation text frame c d l k in
      names_are m ∙ (λ i. names_of (inside text frame) (same.0 i) (same_value same.1 i)) ∙ sym (names_are n)

  abbrev Lines : Table → ℕ → Result Proof ProofFault → ℕ → Type 0
  Lines table at r to = ReadsInside Derivation table text (frame_of at to) r

  derivation_at : {at : ℕ} {o p : Outcome Proof} → DerivationAt one text at o → DerivationAt other text at p → Alike SameNames o p
  derivation_at {at} (derives {to = a} f x) (derives {to = b} {proof = d} g y) = (first_once f g, names_same (frame_of at a) x (subst (Lines other at (Ok d)) (first_once g f) y))
  derivation_at {at} (derives {to = a} f x) (derives_not {to = b} {why = d} g y) = absurd (ok_or_err (inside_once Derivation text (frame_of at a) one first x (moved other one (frame_of at a) (subst (Lines other at (Err d)) (first_once g f) y))))
  derivation_at {at} (derives_not {to = a} f x) (derives {to = b} {proof = d} g y) = absurd (ok_or_err (inside_once Derivation text (frame_of at a) other second (subst (Lines other at (Ok d)) (first_once g f) y) (moved one other (frame_of at a) x)))
  derivation_at {at} (derives_not {to = a} f x) (derives_not {to = b} {why = d} g y) = ap (proof_fault text) (err_once (inside_once Derivation text (frame_of at a) other second (moved one other (frame_of at a) x) (subst (Lines other at (Err d)) (first_once g f) y)))

  derivation_alike : AreAlike SameNames (derivation one text) (derivation other text)
  derivation_alike at o p x y = derivation_at x y

  abbrev AnyJoins : List Join → List Join → Type 0
  AnyJoins v w = Unit {0}

  failed : (at : ℕ) (h : CertFault) (p : Outcome (List Join)) → JoinsIn other text at (fails h) → JoinsIn other text at p → Alike AnyJoins (fails h) p
  failed at h p x y = subst (Alike AnyJoins (fails h)) (joins_rule text other second at (fails h) p x y) refl

  joins_at : {at : ℕ} {o p : Outcome (List Join)} → JoinsIn one text at o → JoinsIn other text at p → Alike AnyJoins o p
  joins_at {at} {p = p} (reading.no_token f c) y = failed at _ p (reading.no_token f c) y
  joins_at {at} {p = p} (no_joins f c j) y = failed at _ p (no_joins f c j) y
  joins_at {at} (has_joins {to = a} {list = xs} f c i m) (reading.no_token {k = k} g d) = absurd (gets_or_fails (joins_rule text one first at (gets xs a) _ (has_joins f c i m) (reading.no_token g d)))
  joins_at {at} (has_joins {to = a} {list = xs} f c i m) (no_joins g d j) = absurd (gets_or_fails (joins_rule text one first at (gets xs a) _ (has_joins f c i m) (no_joins g d j)))
  joins_at (has_joins f c i m) (has_joins g d j n) = (first_once f g, tt)

  joins_alike : AreAlike AnyJoins (join_lines one text) (join_lines other text)
  joins_alike at o p x y = joins_at x y

  abbrev AnyUnit : Unit {0} → Unit {0} → Type 0
  AnyUnit v w = Unit {0}

  abbrev AnyNumbers : List ℕ → List ℕ → Type 0
  AnyNumbers v w = Unit {0}

  line_alike : (wanted : List ℕ) → AreAlike AnyUnit (the_line text wanted) (the_line text wanted)
  line_alike wanted = once_alike AnyUnit (the_line text wanted) (the_line_once text one first wanted) (λ v. tt)

  facts_alike : (names others : List (List ℕ)) (n m : ℕ) → names ≡ others → n ≡ m → AreDistinct names → AreAlike AnyNumbers (facts text names n) (facts text others m)
  facts_alike names others n m e f d at o p x y =
      once_alike AnyNumbers (facts text names n) (facts_once text one first names n d) (λ v. tt) at o p x (subst (λ k. facts text names k at p) (sym f) (subst (λ ns. facts text ns m at p) (sym e) y))

  rest_alike : (a b : SystemText) → AsMany a b → RefuseAlike (rest_of_certificate one text a) (rest_of_certificate other text b)
  rest_alike a b many =
      then_alike AnyUnit (the_line text (codes "% derivation")) (the_line text (codes "% derivation")) _ _ (line_alike (codes "% derivation")) (λ u v at m x h.
      then_alike SameNames (derivation one text) (derivation other text) _ _ derivation_alike (λ p q at m x names.
      then_alike AnyNumbers (facts text (names_in p.lines) (length a.system.facts)) (facts text (names_in q.lines) (length b.system.facts)) _ _ (facts_alike (names_in p.lines) (names_in q.lines) (length a.system.facts) (length b.system.facts) names many (names_of_derived text one first p x)) (λ ms ns at m x h.
      then_alike AnyUnit (the_line text (codes "% joins")) (the_line text (codes "% joins")) _ _ (line_alike (codes "% joins")) (λ u v at m x h.
      then_alike AnyJoins (join_lines one text) (join_lines other text) _ _ joins_alike (λ xs ys at m x h.
      then_alike AnyUnit (the_line text (codes "% end")) (the_line text (codes "% end")) _ _ (line_alike (codes "% end")) (λ u v at m x h. gives_alike _ _))))))

  lines_refused : RefuseAlike (certificate_lines one text) (certificate_lines other text)
  lines_refused =
      then_alike AnyUnit (heading text) (heading text) _ _ (once_alike AnyUnit (heading text) (heading_once text) (λ v. tt)) (λ u v at m x h.
      then_alike AsMany (system one text) (system other text) _ _ system_alike (λ a b at m x many. rest_alike a b many))

  pub refused_alike : (fault : CertFault) {a b : Result Certificate CertFault} → a ≡ Err fault → ReadsCertificate one text a → ReadsCertificate other text b → b ≡ Err fault
  refused_alike fault e (reading.reads x) y = absurd cc
  refused_alike fault e (reading.reads_not {fault = f} x) (reading.reads {certificate = c} {end = n} y) = absurd (gets_or_fails (lines_refused 0 (fails f) (gets c n) f refl x y))
  refused_alike fault e (reading.reads_not {fault = f} x) (reading.reads_not {fault = g} y) = ap Err (fails_once (lines_refused 0 (fails f) (fails g) f refl x y)) ∙ e
