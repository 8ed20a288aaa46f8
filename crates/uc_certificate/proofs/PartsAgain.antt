-- The lines of a printed certificate: which of them end a part of the text, and the facts' line.
use Rattle.std.proofs.Common.{◌≡◌, ℕ, zero, suc, ◌<◌, true, false, List, [], ◌∷◌, ◌++◌, length, map, get_or, append_assoc, refl, sym, ap, ◌∙◌, subst, arith, Some}
use Rattle.std.specs.List.{list_all, AllByRecursion}
use Rattle.std.proofs.lemmas.Option.{slice_get-get_or}
use Rattle.uc_term.specs.Table.{Table}
use Rattle.uc_clause.specs.Bytes.{in_line, is_name}
use Rattle.uc_clause.specs.Names.{spelling}
use Rattle.uc_check.specs.declared.proof.Line.{Line}
use Rattle.uc_tstp.specs.Printing.{line_name, lines_text, AreNumbers}
use Rattle.uc_tstp.specs.Printable.{AreLineNames}
use Rattle.uc_tstp.proofs.PrintedPieces.{all_both, lower_spells}
use Rattle.uc_tstp.proofs.LinePieces as derivation
use Rattle.uc_tstp.proofs.LinePieces.{AreInLines}
use Rattle.uc_certificate.specs.declared.certificate.Join.{Join}
use Rattle.uc_certificate.specs.declared.border.Border.TheVariants.{Facts, End}
use Rattle.uc_certificate.specs.Headings.{facts_words, spaced, facts_line, AreNames, AreNumbered, none_numbered, one_numbered, is_border, HasNoLine, nothing_stands, other_stands}
use Rattle.uc_certificate.specs.Printing.{joins_text}
use Rattle.uc_certificate.proofs.JoinPieces.{IsJoinAgain, front_text, front_spells}

feed_last : (front more : List ℕ) → (front ++ 41 ∷ 46 ∷ []) ++ 10 ∷ more ≡ (front ++ 41 ∷ 46 ∷ 10 ∷ []) ++ more
feed_last front more = simp append_assoc refl

-- no line of a derivation is the facts' line
module _ (table : Table) (names : List (List ℕ)) where
  no_facts_line : (file : List ℕ) (line : Line) → is_border Facts (derivation.front_text table names file line ++ 41 ∷ 46 ∷ []) ≡ false
  no_facts_line file line = refl

  pub derivation_passes : (files : List (List ℕ)) (lines : List Line) → AreInLines table names files lines → HasNoLine (is_border Facts) (lines_text table names files lines)
  derivation_passes [] [] in_lines = nothing_stands
  derivation_passes [] (line ∷ lines) in_lines = nothing_stands
  derivation_passes (file ∷ files) [] in_lines = nothing_stands
  derivation_passes (file ∷ files) (line ∷ lines) in_lines =
      let front : List ℕ = derivation.front_text table names file line in
      subst (HasNoLine (is_border Facts)) (feed_last front (lines_text table names files lines))
      (other_stands {line = front ++ 41 ∷ 46 ∷ []} (all_both in_line front (41 ∷ 46 ∷ []) in_lines.0 refl) (no_facts_line file line) (derivation_passes files lines in_lines.1))

-- no join line is the last line
no_end_line : (table : Table) (j : Join) → is_border End (front_text table j ++ 41 ∷ 46 ∷ []) ≡ false
no_end_line table j = refl

pub joins_pass : (table : Table) (js : List Join) → AllByRecursion (IsJoinAgain table) js → HasNoLine (is_border End) (joins_text table js)
joins_pass table [] again = nothing_stands
joins_pass table (j ∷ js) again =
    let front : List ℕ = front_text table j in
    subst (HasNoLine (is_border End)) (feed_last front (joins_text table js))
    (other_stands {line = front ++ 41 ∷ 46 ∷ []} (all_both in_line front (41 ∷ 46 ∷ []) (front_spells table j again.0).one_line refl) (no_end_line table j) (joins_pass table js again.1))

-- the facts' line
pub all_names : (earlier names : List (List ℕ)) → AreLineNames earlier names → AreNames names
all_names earlier [] new = tt
all_names earlier (name ∷ names) new = (new.0, all_names (name ∷ earlier) names new.2)

name_at : (names : List (List ℕ)) (n : ℕ) → AreNames names → n < length names → is_name (get_or names n []) ≡ true
name_at [] n all h = absurd (omega arith)
name_at (name ∷ names) zero all h = all.0
name_at (name ∷ names) (suc n) all h = name_at names n all.1 (omega arith)

bare : (w : List ℕ) → is_name w ≡ true → spelling w ≡ w
bare w is = rw is refl

module _ (names : List (List ℕ)) (all : AreNames names) where
  named : (n : ℕ) → n < length names → line_name names n ≡ get_or names n []
  named n h = bare (get_or names n []) (name_at names n all h)

  pub words_named : (numbers : List ℕ) → AreNumbers (length names) numbers → AreNames (map (line_name names) numbers)
  words_named [] few = tt
  words_named (n ∷ ns) few = (ap is_name (named n few.0) ∙ name_at names n all few.0, words_named ns few.1)

  pub words_numbered : (numbers : List ℕ) → AreNumbers (length names) numbers → AreNumbered names (map (line_name names) numbers) numbers
  words_numbered [] few = none_numbered
  words_numbered (n ∷ ns) few = one_numbered (slice_get-get_or names n [] few.0 ∙ ap Some (sym (named n few.0))) (words_numbered ns few.1)

spaced_in_line : (words : List (List ℕ)) → AreNames words → list_all in_line (spaced words) ≡ true
spaced_in_line [] all = refl
spaced_in_line (w ∷ ws) all = all_both in_line (32 ∷ w) (spaced ws) (lower_spells w all.0).one_line (spaced_in_line ws all.1)

pub facts_in_line : (words : List (List ℕ)) → AreNames words → list_all in_line (facts_line words) ≡ true
facts_in_line words all = all_both in_line facts_words (spaced words) refl (spaced_in_line words all)

pub facts_border : (words : List (List ℕ)) → is_border Facts (facts_line words) ≡ true
facts_border [] = refl
facts_border (w ∷ ws) = refl
